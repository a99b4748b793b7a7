use Rattle.turn_desk.specs.Chairs.{IsSameChair}
use Rattle.pool_run.proofs.work.wait_for.Given as goal

abbrev pub invariant-loop : goal.invariant-loop
invariant-loop g l = IsSameChair l.initial.first l.first
