use Rattle.std.proofs.Common.{[], ◌∷◌, inr}
use Rattle.std.proofs.lemmas.Result.{err_from_is_err_and}
use Rattle.core_steps.specs.declared.Event.TheVariants.{Ask}
use Rattle.core_steps.specs.declared.Question.TheVariants.{Statuses as AskStatuses, Faults as AskFaults}
use Rattle.core_steps.specs.declared.Reply.TheVariants.{Statuses, Faults}
use Rattle.rodin_cli.proofs.Sessions.{performed, both, unchanged}
use Rattle.rodin_cli.proofs.check.ask.Goals as goal

pub returns-clause-whole : goal.returns-clause-whole
returns-clause-whole g c =
    let told = rw c.in-Faults.is at c.in_ok-told.ensures.done in
    let x = performed c.args.session.now c.perform.new.session (Ask AskFaults) (Faults c.in-Faults.faults c.in-Faults.warnings) told in
    let shown = rw c.in-Statuses.is at c.in_ok-shown.ensures.done in
    let y = performed c.perform.new.session c.perform-2.new.session (Ask AskStatuses) (Statuses c.in-Statuses.statuses) shown in
    (x.0, y.0, x.1, x.2, y.1, y.2, both c.args.session.now c.perform.new.session c.perform-2.new.session (x.0 ∷ []) (y.0 ∷ []) x.3 y.3)

pub returns-in_err-shown-clause-front : goal.returns-in_err-shown-clause-front
returns-in_err-shown-clause-front g c =
    let p = err_from_is_err_and c.from_residual-in_err-shown.result c.from_residual-in_err-shown.ensures.1 in
    let told = rw c.in-Faults.is at c.in_ok-told.ensures.done in
    let x = performed c.args.session.now c.perform.new.session (Ask AskFaults) (Faults c.in-Faults.faults c.in-Faults.warnings) told in
    rw p.1
    (inr (
      x.0,
      x.1,
      both c.args.session.now c.perform.new.session c.perform-2.new.session (x.0 ∷ []) [] x.3
          (unchanged c.perform.new.session c.perform-2.new.session c.in_err-shown.ensures.err),
    ))
