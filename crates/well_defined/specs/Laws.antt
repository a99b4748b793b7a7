-- What the laws of well-definedness speak of.
use Rattle.std.specs.Prelude.{Bool, true, false, not, ◌&&◌, [], ◌∷◌}
use Rattle.std.specs.List.{list_all}
use Rattle.formula_core.specs.declared.op.Op.{Op}
use Rattle.formula_core.specs.declared.op.Op.TheVariants as op
use Rattle.formula_core.specs.declared.op.Binder.{Binder}
use Rattle.formula_core.specs.declared.op.Binder.TheVariants as binder
use Rattle.formula_core.specs.declared.formula.Formula.{Formula, out-Formula}
use Rattle.formula_core.specs.declared.formula.Formula.TheOpen.{Formula-F, Int, Free, Bound, Node, Bind}
use Rattle.formula_core.specs.declared.formula.Formula.TheFolds.{fold-Formula}

abbrev pub is_atom_at : Formula-F Formula → Bool
is_atom_at (Int n) = true
is_atom_at (Free name t) = true
is_atom_at (Bound at t) = true
is_atom_at (Node op [] t) = true
is_atom_at (Node op (p ∷ parts) t) = false
is_atom_at (Bind binder types parts t) = false

-- a literal, an identifier or an operator without operands
abbrev pub is_atom : Formula → Bool
is_atom f = is_atom_at (out-Formula f)

-- the operators that have no value for some operands
abbrev pub is_partial : Op → Bool
is_partial op.Divide = true
is_partial op.Modulo = true
is_partial op.Power = true
is_partial op.Apply = true
is_partial op.Cardinality = true
is_partial op.GeneralIntersection = true
is_partial op.Minimum = true
is_partial op.Maximum = true
is_partial _ = false

-- the binder that has no value where no identifiers meet its predicate
abbrev pub is_partial_binder : Binder → Bool
is_partial_binder binder.QuantifiedIntersection = true
is_partial_binder _ = false

abbrev pub is_total_step : Formula-F Bool → Bool
is_total_step (Int n) = true
is_total_step (Free name t) = true
is_total_step (Bound at t) = true
is_total_step (Node op parts t) = not (is_partial op) && list_all (λ total. total) parts
is_total_step (Bind binder types parts t) = not (is_partial_binder binder) && list_all (λ total. total) parts

-- whether none of these stands in a formula
abbrev pub is_total : Formula → Bool
is_total = fold-Formula Bool is_total_step
