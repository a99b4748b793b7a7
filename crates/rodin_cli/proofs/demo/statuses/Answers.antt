use Rattle.core_steps.specs.declared.Event.TheVariants.{Ask}
use Rattle.core_steps.specs.declared.Question.TheVariants.{Statuses as AskStatuses}
use Rattle.core_steps.specs.declared.Reply.TheVariants.{Statuses}
use Rattle.rodin_cli.proofs.Sessions.{performed}
use Rattle.rodin_cli.proofs.demo.statuses.Goals as goal

pub returns-clause-asked : goal.returns-clause-asked
returns-clause-asked g c =
    performed c.args.session.now c.perform.new.session (Ask AskStatuses) (Statuses c.in-Statuses.statuses) (rw c.in-Statuses.is at c.in_ok-shown.ensures.done)
