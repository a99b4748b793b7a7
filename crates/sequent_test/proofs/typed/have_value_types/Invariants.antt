use Rattle.std.proofs.Common.{take, IsTrue}
use Rattle.std.specs.List.{AllByRecursion}
use Rattle.formula_core.specs.Types.{is_value_type}
use Rattle.sequent_test.proofs.typed.have_value_types.Given as goal

abbrev pub invariant-loop-entry : goal.invariant-loop-entry
invariant-loop-entry l = AllByRecursion (λ x. IsTrue (is_value_type x.1)) (take l.entry-index l.entries)
