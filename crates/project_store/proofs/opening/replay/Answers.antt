use Rattle.std.proofs.Common.{ap, Err}
use Rattle.project_store.proofs.Replays.{next_replayed, stuck_there}
use Rattle.project_store.proofs.opening.replay.Goals as goal

pub returns-in-Err-Bad-clause-led : goal.returns-in-Err-Bad-clause-led
returns-in-Err-Bad-clause-led g c = λ on placed.
    stuck_there _ _ _ c.loop-first.invariant c.in-Some.first.now c.in-Some.behind.now c.deref.result.now c.in-Some.ensures.cases.0 c.deref.ensures.value
    (c.in-Err-Bad.ensures.stop (ap Err c.in-Err-Bad.field-0-is)) on placed

pub loop-first-preserved : goal.loop-first-preserved
loop-first-preserved g c =
    next_replayed _ _ _ c.loop-first.invariant c.in-Some.first.now c.in-Some.behind.now c.replay_body.new.durable c.deref.result.now c.in-Some.ensures.cases.0 c.deref.ensures.value
    c.in-Ok.ensures.led c.in-Ok.ensures.single c.in-Ok.ensures.short
