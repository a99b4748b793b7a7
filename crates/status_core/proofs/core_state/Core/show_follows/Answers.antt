use Rattle.std.proofs.Common.{◌∙◌, ap, refl}
use Rattle.std.specs.FinMap.{get}
use Rattle.core_steps.specs.State.{State}
use Rattle.core_steps.specs.Proving.{ShowsFollows}
use Rattle.status_core.proofs.Made.{as_made}
use Rattle.status_core.proofs.core_state.Core.show_follows.Goals as goal

pub returns-clause-comes : goal.returns-clause-comes
returns-clause-comes g c =
    let s = c.args.self.now in
    let name = c.args.name.now in
    let is = c.get-stored.ensures ∙ ap (λ (s : State). get s.durable.proofs name) c.self.view_is in
    as_made s (ShowsFollows s name c.args.sequent.now) c.tell.result _ (rw c.in_ok-name.ensures at c.tell.ensures)
    (c.in_ok-answer.answer, rw is at c.in_ok-answer.ensures.answer, refl)
