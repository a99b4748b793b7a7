use Rattle.desk_run.specs.Private.{HasCounted}
use Rattle.desk_run.proofs.count.count.Given as goal

abbrev pub invariant-loop : goal.invariant-loop
invariant-loop g l = HasCounted l.counter l.initial.chair l.chair
