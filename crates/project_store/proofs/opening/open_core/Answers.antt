use Rattle.std.proofs.Common.{ap, Err}
use Rattle.project_store.proofs.Shorts.{led_too_far}
use Rattle.project_store.proofs.opening.open_core.Goals as goal

pub returns-in-Err-TableFull-clause-fault : goal.returns-in-Err-TableFull-clause-fault
returns-in-Err-TableFull-clause-fault g c = λ on placed.
    led_too_far _ c.in-Ok.durable _ c.in-Ok.ensures.led c.in-Ok.ensures.single (c.in-Err-TableFull.ensures.full c.in-Err-TableFull.n (ap Err c.in-Err-TableFull.field-0-is))
