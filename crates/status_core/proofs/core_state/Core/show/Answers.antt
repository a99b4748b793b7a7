use Rattle.std.proofs.Common.{subst}
use Rattle.std.specs.FinMap.{get}
use Rattle.std.specs.Option.{option_copied}
use Rattle.core_steps.specs.State.{State}
use Rattle.core_steps.specs.Status.{IsStatus}
use Rattle.status_core.proofs.Made.{as_made}
use Rattle.status_core.proofs.Showing.{shows_none, shows_some}
use Rattle.status_core.proofs.core_state.Core.show.Goals as goal

pub returns-in-None : goal.returns-in-None
returns-in-None c =
    let name = c.args.name.now in
    let sequent = c.args.sequent.now in
    let status = c.status_of-status.result in
    let is = subst (λ (s : State). IsStatus (get s.durable.proofs name) sequent status) c.self.view_is c.status_of-status.ensures.status in
    as_made _ _ c.tell.result _ c.tell.ensures (shows_none c.args.self.now name sequent status is (option_copied c.args.path) (rw c.in-None.is at c.in_ok-shown_sequent.ensures))

pub returns-in_ok-name-in-Some : goal.returns-in_ok-name-in-Some
returns-in_ok-name-in-Some c =
    let name = c.args.name.now in
    let sequent = c.args.sequent.now in
    let status = c.status_of-status.result in
    let is = subst (λ (s : State). IsStatus (get s.durable.proofs name) sequent status) c.self.view_is c.status_of-status.ensures.status in
    as_made _ _ c.tell-in-Some.result _ (rw c.in_ok-name-in-Some.ensures at c.tell-in-Some.ensures)
    (shows_some c.args.self.now name sequent status is (option_copied c.args.path) c.in-Some.shown (rw c.in-Some.is at c.in_ok-shown_sequent.ensures))
