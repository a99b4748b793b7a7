use Rattle.std.proofs.Common.{◌≡◌}
use Rattle.check_rules.specs.Events.{witnesses_of}
use Rattle.machine_check.proofs.parts.witnesses_of.Given as goal

abbrev pub invariant-loop-witness : goal.invariant-loop-witness
invariant-loop-witness l = l.found.items ≡ witnesses_of l.yielded
