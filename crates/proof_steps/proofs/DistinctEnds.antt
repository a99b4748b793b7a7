-- The names at the end of a way are distinct.
use Rattle.std.proofs.Common.{◌≡◌, ◌∙◌, sym, ap, subst, refl, ℕ, Bool, true, false, cond, List, [], ◌∷◌, ◌++◌, append_assoc, append-nil, Option, Some, None, is_some}
use Rattle.std.specs.Prelude.{bytes_eq}
use Rattle.std.specs.List.{AllByRecursion, IsDistinct}
use Rattle.std.specs.Map.{keys_of}
use Rattle.std.specs.Option.{option_or}
use Rattle.std.proofs.lemmas.Slice.Eq.{bytes_eq-Decides}
use Rattle.formula_core.specs.declared.Ty.{Ty}
use Rattle.formula_core.specs.Env.{HasDistinctNames, type_in}
use Rattle.formula_core.proofs.Distinct.{distinct_with_new}
use Rattle.rule_table.specs.declared.rule.Antecedent.{Antecedent}
use Rattle.sequent_core.specs.declared.sequent.Sequent.{Sequent}
use Rattle.proof_steps.specs.Private.{HaveDistinctIdentifiers}
use Rattle.sequent_core.specs.Trees.{at_end, AreFresh}
use Rattle.proof_tree.proofs.WayEnds.{type_in-append}

abbrev Names : Type 0
Names = List (List ℕ × Ty)

other_way : (x y : List ℕ) → bytes_eq x y ≡ false → bytes_eq y x ≡ false
other_way x y e = by (bytes_eq y x) refl where
  by : (b : Bool) → bytes_eq y x ≡ b → bytes_eq y x ≡ false
  by false h = h
  by true h = let same : y ≡ x = (bytes_eq-Decides y x).0 h in let is : bytes_eq x y ≡ true = (bytes_eq-Decides x y).1 (sym same) in cc

-- what is new and isn't the first one is new after it
still_new : (env ids : Names) (x : List ℕ × Ty) → AllByRecursion (λ y. bytes_eq x.0 y ≡ false) (keys_of ids) → AllByRecursion (λ y. type_in env y.0 ≡ None) ids
    → AllByRecursion (λ y. type_in (env ++ x ∷ []) y.0 ≡ None) ids
still_new env [] x d f = tt
still_new env (y ∷ ids) x d f = (
  type_in-append env (x ∷ []) y.0 ∙ (λ i. option_or (f.0 i) (cond (other_way x.0 y.0 d.0 i) (Some x.1) None)),
  still_new env ids x d.1 f.1,
)

pub distinct_append : (env ids : Names) → HasDistinctNames env → AllByRecursion (λ x. type_in env x.0 ≡ None) ids → HasDistinctNames ids → HasDistinctNames (env ++ ids)
unfolding IsDistinct
distinct_append env [] d f e = subst HasDistinctNames (sym (append-nil env)) d
distinct_append env (x ∷ ids) d f e =
    subst HasDistinctNames (append_assoc env (x ∷ []) ids)
    (distinct_append (env ++ x ∷ []) ids (distinct_with_new env x.0 x.1 d (ap is_some f.0)) (still_new env ids x e.0 f.1) e.1)

pub distinct_at_end : (way : List Antecedent) (s : Sequent) → HasDistinctNames s.env → AreFresh way s → HaveDistinctIdentifiers way → HasDistinctNames (at_end way s).env
distinct_at_end [] s d f a = d
distinct_at_end (x ∷ above) s d f a = distinct_append (at_end above s).env x.idents (distinct_at_end above s d f.1 a.1) f.0 a.0
