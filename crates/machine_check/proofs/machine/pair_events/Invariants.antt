use Rattle.std.proofs.Common.{◌≡◌, map}
use Rattle.machine_check.specs.PrivateEvents.{both_of}
use Rattle.machine_check.proofs.machine.pair_events.Given as goal

abbrev pub invariant-loop-written : goal.invariant-loop-written
invariant-loop-written l = map both_of l.pairs.items ≡ map (λ p. (p.0.now, p.1.now)) l.yielded
