-- The unknown names of an action, one after another.
use Rattle.std.proofs.Common.{◌≡◌, ◌∙◌, sym, ap, refl, ℕ, Bool, true, false, cond, List, [], ◌∷◌, ◌++◌, fold, Option, Some, None}
use Rattle.std.specs.Prelude.{nat_lt, is_some}
use Rattle.formula_core.specs.declared.ty.Ty.{Ty}
use Rattle.formula_core.specs.declared.raw.Ref.{Ref}
use Rattle.type_formula.specs.Unknowns.{earlier_name, first_name_by_place}
use Rattle.type_action.specs.CoreActions.{target_type, unknown_targets}

abbrev Names : Type 0
Names = List (List ℕ × ℕ)

pub fold-append : (o : Option (List ℕ × ℕ)) (xs ys : Names) → fold earlier_name o (xs ++ ys) ≡ fold earlier_name (fold earlier_name o xs) ys
fold-append o [] ys = refl
fold-append o (x ∷ xs) ys = fold-append (earlier_name o x) xs ys

-- the first of two lists
pub first_of_both : (o p : Option (List ℕ × ℕ)) (xs ys : Names) → o ≡ fold earlier_name None xs → p ≡ fold earlier_name o ys → first_name_by_place (xs ++ ys) ≡ p
first_of_both o p xs ys e k = fold-append None xs ys ∙ ap (λ q. fold earlier_name q ys) (sym e) ∙ sym k

stays : (b : Bool) (p x : List ℕ × ℕ) (xs : Names) → ((q : List ℕ × ℕ) → fold earlier_name (Some q) xs ≡ None → ⊥) → fold earlier_name (cond b (Some x) (Some p)) xs ≡ None → ⊥
stays true p x xs h e = h x e
stays false p x xs h e = h p e

some_stays : (xs : Names) (p : List ℕ × ℕ) → fold earlier_name (Some p) xs ≡ None → ⊥
some_stays [] p e = cc
some_stays (x ∷ xs) p e = stays (nat_lt x.1 p.1) p x xs (some_stays xs) e

pub none_among : (xs : Names) → fold earlier_name None xs ≡ None → xs ≡ []
none_among [] e = refl
none_among (x ∷ xs) e = absurd (some_stays xs x e)

-- none of the first list where none is found in both
none_before : (xs ys : Names) → fold earlier_name (fold earlier_name None xs) ys ≡ None → xs ≡ []
none_before xs ys e = none_among xs (go (fold earlier_name None xs) e)
  where
    go : (o : Option (List ℕ × ℕ)) → fold earlier_name o ys ≡ None → o ≡ None
    go None k = refl
    go (Some p) k = absurd (some_stays ys p k)

at_target : (b : Bool) (o : Option (List ℕ × ℕ)) (x : List ℕ × ℕ) (xs : Names) → fold earlier_name o (cond b xs (x ∷ xs)) ≡ fold earlier_name (fold earlier_name o (cond b [] (x ∷ []))) xs
at_target true o x xs = refl
at_target false o x xs = refl

pub none_first : (xs ys : Names) → first_name_by_place (xs ++ ys) ≡ None → xs ≡ []
none_first xs ys e = none_before xs ys (sym (fold-append None xs ys) ∙ e)

-- a target, and the others
pub target_first : (env : List (List ℕ × Ty)) (r : Ref) (rs : List Ref) (o : Option (List ℕ × ℕ)) → fold earlier_name o (unknown_targets env (r ∷ rs)) ≡ fold earlier_name (fold earlier_name o (unknown_targets env (r ∷ []))) (unknown_targets env rs)
target_first env r rs o = at_target (is_some (target_type env r.name)) o (r.name, r.place) (unknown_targets env rs)
