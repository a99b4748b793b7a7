-- Names and hypotheses of a hint, from a place on.
use Rattle.std.proofs.Common.{◌≡◌, ◌∙◌, sym, ap, refl, ℕ, zero, suc, ◌+◌, ◌<◌, ◌≤◌, Bool, true, false, ◌||◌, List, [], ◌∷◌, ◌++◌, length, take, drop, get_or, Option, Some, None, is_some, if◌then◌else◌, arith}
use Rattle.std.specs.Prelude.{bytes_eq}
use Rattle.std.specs.List.{list_any}
use Rattle.std.specs.Option.{option_map_or, option_to_list}
use Rattle.formula_core.specs.declared.formula.Formula.{Formula}
use Rattle.formula_core.specs.declared.ty.Ty.{Ty}
use Rattle.formula_core.specs.Env.{type_in}
use Rattle.sequent_core.specs.declared.sequent.Sequent.{Sequent}
use Rattle.rule_making.specs.Make.{first_taken, hypothesis, hyps_at}

next : (i : ℕ) → suc i + 1 ≡ suc (i + 1)
next i = omega arith

drop_at : {X : Type 0} → (xs : List X) (i : ℕ) (x : X) → i < length xs → x ≡ get_or xs i x → drop i xs ≡ x ∷ drop (i + 1) xs
drop_at [] i x h e = absurd (omega arith)
drop_at (y ∷ xs) zero x h e = λ j. sym e j ∷ xs
drop_at (y ∷ xs) (suc i) x h e = drop_at xs i x (omega arith) e ∙ (λ j. x ∷ drop (sym (next i) j) (y ∷ xs))

take_at : {X : Type 0} → (xs : List X) (i : ℕ) (x : X) → i < length xs → x ≡ get_or xs i x → take (i + 1) xs ≡ take i xs ++ x ∷ []
take_at [] i x h e = absurd (omega arith)
take_at (y ∷ xs) zero x h e = λ j. sym e j ∷ []
take_at (y ∷ xs) (suc i) x h e = (λ j. take (next i j) (y ∷ xs)) ∙ ap (λ zs. y ∷ zs) (take_at xs i x (omega arith) e)

or_true : (b : Bool) → (b || true) ≡ true
or_true true = refl
or_true false = refl

module _ (env : List (List ℕ × Ty)) where
  at_place : (names : List (List ℕ)) (i : ℕ) (x : List ℕ) → i < length names → x ≡ get_or names i x
      → first_taken env (take i names) (drop i names)
      ≡ (if is_some (type_in env x) || list_any (bytes_eq x) (take i names) then Some x else first_taken env (take (i + 1) names) (drop (i + 1) names))
  at_place names i x h e = ap (first_taken env (take i names)) (drop_at names i x h e)
      ∙ (λ j. if is_some (type_in env x) || list_any (bytes_eq x) (take i names) then Some x else first_taken env (sym (take_at names i x h e) j) (drop (i + 1) names))

  pub taken_before : (names : List (List ℕ)) (i : ℕ) (x : List ℕ) → i < length names → x ≡ get_or names i x → is_some (type_in env x) ≡ true
      → first_taken env (take i names) (drop i names) ≡ Some x
  taken_before names i x h e t = at_place names i x h e ∙ (λ j. if t j || list_any (bytes_eq x) (take i names) then Some x else first_taken env (take (i + 1) names) (drop (i + 1) names))

  pub taken_earlier : (names : List (List ℕ)) (i : ℕ) (x : List ℕ) → i < length names → x ≡ get_or names i x → list_any (bytes_eq x) (take i names) ≡ true
      → first_taken env (take i names) (drop i names) ≡ Some x
  taken_earlier names i x h e t = at_place names i x h e
      ∙ (λ j. if (ap (λ b. is_some (type_in env x) || b) t ∙ or_true (is_some (type_in env x))) j then Some x else first_taken env (take (i + 1) names) (drop (i + 1) names))

  pub taken_later : (names : List (List ℕ)) (i : ℕ) (x : List ℕ) → i < length names → x ≡ get_or names i x → is_some (type_in env x) ≡ false → list_any (bytes_eq x) (take i names) ≡ false
      → first_taken env (take i names) (drop i names) ≡ first_taken env (take (i + 1) names) (drop (i + 1) names)
  taken_later names i x h e t u = at_place names i x h e ∙ (λ j. if t j || u j then Some x else first_taken env (take (i + 1) names) (drop (i + 1) names))

  pub none_taken : (earlier names : List (List ℕ)) → first_taken env earlier (drop (length names) names) ≡ None
  none_taken earlier [] = refl
  none_taken earlier (x ∷ names) = none_taken earlier names

pub ruleset laws = (taken_before, taken_earlier, taken_later, none_taken)

module _ (s : Sequent) where
  hyps_step : (o : Option Formula) (xs ys : List Formula) → option_map_or (λ h. h ∷ (xs ++ ys)) o (xs ++ ys) ≡ option_map_or (λ h. h ∷ xs) o xs ++ ys
  hyps_step None xs ys = refl
  hyps_step (Some h) xs ys = refl

  one_hyp : (o : Option Formula) → option_map_or (λ h. h ∷ []) o [] ≡ option_to_list o
  one_hyp None = refl
  one_hyp (Some h) = refl

  hyps_append : (ns : List ℕ) (n : ℕ) → hyps_at s (ns ++ n ∷ []) ≡ hyps_at s ns ++ option_to_list (hypothesis s n)
  hyps_append [] n = one_hyp (hypothesis s n)
  hyps_append (m ∷ ns) n = ap (λ xs. option_map_or (λ h. h ∷ xs) (hypothesis s m) xs) (hyps_append ns n) ∙ hyps_step (hypothesis s m) (hyps_at s ns) (option_to_list (hypothesis s n))

  take_number : (ns : List ℕ) (i : ℕ) → i < length ns → take (i + 1) ns ≡ take i ns ++ get_or ns i 0 ∷ []
  take_number [] i h = absurd (omega arith)
  take_number (n ∷ ns) zero h = refl
  take_number (n ∷ ns) (suc i) h = (λ j. take (next i j) (n ∷ ns)) ∙ ap (λ zs. n ∷ zs) (take_number ns i (omega arith))

  pub hyps_more : (ns : List ℕ) (i : ℕ) → i < length ns → hyps_at s (take (i + 1) ns) ≡ hyps_at s (take i ns) ++ option_to_list (hypothesis s (get_or ns i 0))
  hyps_more ns i h = ap (hyps_at s) (take_number ns i h) ∙ hyps_append (take i ns) (get_or ns i 0)
