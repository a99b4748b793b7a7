-- The carrier sets of a pair of types, added to a list.
use Rattle.std.proofs.Common.{◌≡◌, ◌∙◌, sym, ap, ℕ, List, ◌++◌, append_assoc}
use Rattle.formula_core.specs.declared.ty.Ty.{Ty}
use Rattle.formula_core.specs.declared.ty.Ty.TheVariants.{Pair}
use Rattle.formula_core.specs.Identifiers.{carriers}
use Rattle.formula_core.proofs.Equations.{carriers-Pair}

pub added_pair : (found with_left with_both : List (List ℕ × Ty)) (ty left right : Ty) → ty ≡ Pair left right → with_left ≡ found ++ carriers left → with_both ≡ with_left ++ carriers right
    → with_both ≡ found ++ carriers ty
added_pair found with_left with_both ty left right is first second =
    second ∙ ap (λ xs. xs ++ carriers right) first ∙ append_assoc found (carriers left) (carriers right) ∙ ap (λ xs. found ++ xs) (sym (ap carriers is ∙ carriers-Pair left right))
