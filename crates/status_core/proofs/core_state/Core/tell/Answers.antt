use Rattle.std.proofs.Common.{◌≡◌, subst}
use Rattle.core_steps.specs.State.{State}
use Rattle.core_steps.specs.Outcomes.{told}
use Rattle.status_core.specs.PrivateParts.{ComesAs}
use Rattle.status_core.proofs.Readied.{comes_telling}
use Rattle.status_core.proofs.core_state.Core.tell.Goals as goal

pub returns : goal.returns
returns c =
    let p = c.told.result in
    subst (λ (s : State). ComesAs s (λ x. x ≡ told s c.args.reply) p) c.self.view_is (comes_telling _ p c.self.invariant.1 c.args.reply c.told.ensures.prepared)
