use Rattle.std.proofs.Common.{take}
use Rattle.std.specs.List.{AllByRecursion}
use Rattle.formula_core.specs.Identifiers.{carriers}
use Rattle.formula_core.specs.Typed.{Stands}
use Rattle.sequent_test.proofs.typed.all_have_carriers.Given as goal

abbrev pub invariant-loop-entry : goal.invariant-loop-entry
invariant-loop-entry l = AllByRecursion (λ x. AllByRecursion (Stands l.env) (carriers x.1)) (take l.entry-index l.entries)
