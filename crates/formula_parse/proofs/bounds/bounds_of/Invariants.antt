-- what the formulas so far declare
use Rattle.std.proofs.Common.{◌≡◌, [], Some}
use Rattle.std.specs.Prelude.{fold}
use Rattle.formula_parse.specs.Machine.{with_declared}
use Rattle.formula_parse.proofs.bounds.bounds_of.Given as goal

abbrev pub invariant-loop-formula : goal.invariant-loop-formula
invariant-loop-formula l = l.bounds ≡ fold with_declared (Some []) l.yielded
