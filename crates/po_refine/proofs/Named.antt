-- The names of an action's targets.
use Rattle.std.proofs.Common.{◌≡◌, ap, refl, ℕ, List, [], ◌∷◌}
use Rattle.std.specs.Map.{keys_of}
use Rattle.formula_core.specs.declared.formula.Formula.{Formula}
use Rattle.formula_core.specs.declared.raw.Action.TheVariants.{ChooseSuch}
use Rattle.formula_core.specs.declared.ty.Ty.{Ty}
use Rattle.po_rules.specs.Parts.{new_values}

pub targets_named : (targets : List (List ℕ × Ty)) (p : Formula) → keys_of targets ≡ keys_of (new_values (ChooseSuch targets p))
targets_named [] p = refl
targets_named (x ∷ targets) p = ap (λ names. x.0 ∷ names) (targets_named targets p)
