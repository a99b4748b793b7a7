use Rattle.std.proofs.Common.{◌≡◌, ◌<◌, sym, subst, length}
use Rattle.std.specs.Prelude.{Some, slice_get}
use Rattle.core_steps.specs.State.{State}
use Rattle.core_steps.specs.Outcomes.{told}
use Rattle.core_steps.specs.Tickets.{tried_with}
use Rattle.status_core.specs.PrivateParts.{without_at, ComesAs}
use Rattle.status_core.proofs.Finished.{comes_trying, same_ticket}
use Rattle.status_core.proofs.core_state.Core.try_in.Goals as goal

pub returns : goal.returns
returns c = λ ticket there.
    let at = c.args.at in
    let reply = c.args.reply in
    let p = c.trying.result in
    let some = subst (λ (s : State). slice_get s.out at ≡ Some ticket) (sym c.self.view_is) there in
    let lt = subst (λ (s : State). at < length s.out) (sym c.self.view_is) c.requires in
    let same = same_ticket c.self.inside.out.items at c.index-ticket.result.now ticket lt c.index-ticket.ensures some in
    subst (λ (s : State). ComesAs s (λ x. x ≡ told (tried_with (without_at s at) ticket) reply) p) c.self.view_is
    (comes_trying _ p c.self.invariant.1 reply at c.in-Ok.room ticket c.trying.ensures.prepared lt some (rw same at c.in-Ok.ensures))
