use Rattle.std.proofs.Common.{[], ◌∷◌}
use Rattle.std.specs.Prelude.{None}
use Rattle.std.proofs.lemmas.Result.{err_from_is_err_and}
use Rattle.core_steps.specs.declared.Event.TheVariants.{Take, Finish}
use Rattle.core_steps.specs.declared.Reply.TheVariants.{Taken, Nothing}
use Rattle.rodin_cli.proofs.Sessions.{performed, unchanged, both}
use Rattle.rodin_cli.proofs.Typed.{ticket_typed}
use Rattle.rodin_cli.proofs.round.turn.Goals as goal

pub returns-in_err-finish-in-Some-clause-front : goal.returns-in_err-finish-in-Some-clause-front
returns-in_err-finish-in-Some-clause-front g c =
    let p = err_from_is_err_and c.from_residual-in_err-finish-in-Some.result c.from_residual-in_err-finish-in-Some.ensures.1 in
    let done = rw c.in-Some.is at c.in_ok-take.ensures.done in
    let x = performed c.args.session.now c.take.new.session (Take None) (Taken c.in-Some.ticket) done in
    rw p.1 (x.0 ∷ [], x.1, both c.args.session.now c.take.new.session c.finish.new.session (x.0 ∷ []) [] x.3 (unchanged c.take.new.session c.finish.new.session c.in_err-finish-in-Some.ensures.err))

pub returns-in-None-clause-turned : goal.returns-in-None-clause-turned
returns-in-None-clause-turned g c =
    performed c.args.session.now c.take.new.session (Take None) Nothing (rw c.in-None.is at c.in_ok-take.ensures.done)

pub returns-in_ok-finish-in-Some-clause-turned : goal.returns-in_ok-finish-in-Some-clause-turned
returns-in_ok-finish-in-Some-clause-turned g c =
    let done = rw c.in-Some.is at c.in_ok-take.ensures.done in
    let x = performed c.args.session.now c.take.new.session (Take None) (Taken c.in-Some.ticket) done in
    let finished = c.in_ok-finish-in-Some.ensures.done in
    let y = performed c.take.new.session c.finish.new.session (Finish c.in-Some.ticket.number c.attempt-attempt.result) finished.0 finished.1 in (
      x.0,
      y.0,
      (c.in-Some.ticket, c.attempt-attempt.result, x.1, x.2, y.1, (c.attempt-attempt.ensures.allowed, c.attempt-attempt.ensures.sure)),
      both c.args.session.now c.take.new.session c.finish.new.session (x.0 ∷ []) (y.0 ∷ []) x.3 y.3,
    )

pub attempt-attempt-requires : goal.attempt-attempt-requires
attempt-attempt-requires g c = ticket_typed c.args.session.now c.take.new.session c.in-Some.ticket (rw c.in-Some.is at c.in_ok-take.ensures.done)
