use Rattle.std.proofs.Common.{◌≡◌, ◌<◌, sym, subst, length}
use Rattle.core_steps.specs.State.{State}
use Rattle.core_steps.specs.Outcomes.{told}
use Rattle.status_core.specs.PrivateParts.{without_at, ComesAs}
use Rattle.status_core.proofs.Readied.{comes_taking_in}
use Rattle.status_core.proofs.core_state.Core.take_in.Goals as goal

pub returns : goal.returns
returns c =
    let p = c.taking_in.result in
    let at = c.args.at in
    let lt = subst (λ (s : State). at < length s.out) (sym c.self.view_is) c.requires in
    subst (λ (s : State). ComesAs s (λ x. x ≡ told (without_at s at) c.args.reply) p) c.self.view_is
    (comes_taking_in _ p c.self.invariant.1 c.args.reply c.told.result at c.taking_in.ensures.prepared c.told.ensures.prepared lt)
