use Rattle.std.proofs.Common.{◌≡◌, ◌||◌, ℕ, List, take}
use Rattle.formula_core.specs.declared.ty.Ty.{Ty}
use Rattle.check_rules.specs.Refinements.{has_other_type}
use Rattle.refine_check.specs.Private.{is_other_there}
use Rattle.refine_check.proofs.param_types.note_types.Given as goal

abbrev pub invariant-loop-param : goal.invariant-loop-param
invariant-loop-param l = (p : List ℕ × Ty) → is_other_there l.types p ≡ (is_other_there l.initial.types p || has_other_type (take l.param-index l.params) p)
