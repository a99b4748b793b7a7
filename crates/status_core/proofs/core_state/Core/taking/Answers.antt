use Rattle.std.proofs.Common.{◌≡◌, ◌∙◌, ◌+◌, ◌<◌, ◌^◌, length, sym, subst, refl, arith}
use Rattle.core_steps.specs.declared.events.Reply.TheVariants.{Taken}
use Rattle.core_steps.specs.State.{State}
use Rattle.core_steps.specs.Tickets.{taking, ticket_for}
use Rattle.prepared_events.specs.Making.{sending}
use Rattle.status_core.specs.PrivateParts.{ComesAs}
use Rattle.status_core.proofs.Readied.{comes_sending}
use Rattle.status_core.proofs.core_state.Core.taking.Goals as goal

pub returns : goal.returns
returns c =
    let p = c.sending.result in
    let o = c.args.obligation.now in
    let ticket = ticket_for c.self.inside.next o in
    let room = c.in_ok-room.room in
    let is : p ≡ sending (Taken ticket) ticket room = c.sending.ensures.prepared ∙ rw (c.in_ok-told.ensures, c.in_ok-kept.ensures) refl in
    let more : length c.self.inside.out.items < room = omega (arith, c.in_ok-room.ensures, c.len.ensures) in
    let next = subst (λ (s : State). s.next + 1 < 2 ^ 64) (sym c.self.view_is) c.requires in
    subst (λ (s : State). ComesAs s (λ x. x ≡ taking s o) p) c.self.view_is
    (comes_sending _ p c.self.invariant.1 (Taken ticket) ticket room is more next)
