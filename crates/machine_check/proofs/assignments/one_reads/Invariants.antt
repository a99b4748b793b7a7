use Rattle.std.proofs.Common.{◌≡◌, take}
use Rattle.std.specs.List.{list_any}
use Rattle.check_rules.specs.Assignments.{free_names_of}
use Rattle.model_core.specs.Borrowed.{has}
use Rattle.machine_check.proofs.assignments.one_reads.Given as goal

abbrev pub invariant-loop-pair : goal.invariant-loop-pair
invariant-loop-pair l = l.found ≡ list_any (λ p. list_any (has l.variables) (free_names_of p.1)) (take l.pair-index l.pairs)
