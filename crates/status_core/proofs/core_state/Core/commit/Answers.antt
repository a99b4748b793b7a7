use Rattle.std.proofs.Common.{◌≡◌, ◌∙◌, sym, ap, subst, refl}
use Rattle.core_steps.specs.declared.durable.Durable.{Durable}
use Rattle.core_steps.specs.Durable.{IsSmallProject}
use Rattle.core_steps.specs.State.{State, entered_if}
use Rattle.prepared_events.specs.declared.moves.TicketMove.{TicketMove}
use Rattle.prepared_events.specs.Closed.{AreClosedBefore}
use Rattle.prepared_events.specs.Entered.{texts_after, built_after, proofs_after}
use Rattle.prepared_events.specs.Prepared.{FitsBuilt, changed_by, moved}
use Rattle.prepared_events.proofs.EnteredParts.{entered_by}
use Rattle.prepared_events.proofs.StillClosed.{commit_closed}
use Rattle.status_core.proofs.Readied.{fits_built}
use Rattle.status_core.proofs.core_state.Core.commit.Goals as goal

pub invariant_of-self : goal.invariant_of-self
invariant_of-self c =
    let p = c.args.prepared in
    let s : State = record { durable = c.self.inside.durable; out = c.self.inside.out.items; tried = c.self.inside.tried; next = c.self.inside.next } in
    let t : State = record s { durable = entered_if s.durable p.entry } in
    let out = c.move_ticket.new.out.items in
    let tried = c.move_ticket.new.tried in
    let next = c.move_ticket.new.next in
    let entry_is = c.into_parts-reply.ensures.entry in
    let told_is = c.as_ref-2.ensures.value ∙ entry_is in
    let fits = subst (λ (z : State). FitsBuilt z.durable.texts p.built p.entry) (sym c.self.view_is) c.requires.ready.built in
    let fits_told = fits_built s.durable.texts p.built _ p.entry _ c.into_parts-reply.ensures.project told_is fits in
    let durable_is = entered_by s.durable p.entry c.enter.new.texts c.build_over.new.project c.enter.new.proofs
    (c.enter.ensures.texts ∙ ap (texts_after s.durable.texts) entry_is)
    (c.build_over.ensures.project s.durable.texts fits_told ∙ ap (built_after s.durable.texts s.durable.built) told_is)
    (c.enter.ensures.proofs ∙ ap (proofs_after s.durable.proofs) entry_is) in
    let texts = subst (λ (z : State). IsSmallProject (entered_if z.durable p.entry).texts) (sym c.self.view_is) c.requires.ready.texts in
    let mid = c.closed_beside-closed.result in
    let new = c.closed_after-self-inside.result in
    let closed = commit_closed s p c.self.inside.builder c.self.inside.closed mid new c.self.invariant.0 c.self.invariant.2
    (λ z b o cl. subst (λ (m : TicketMove). AreClosedBefore (moved m z) mid) c.into_parts-reply.ensures.tickets
    (c.closed_beside-closed.ensures.closed z b (o ∙ sym c.deref.ensures.value) cl))
    (λ z b cl. subst (λ e. AreClosedBefore (record z { durable = entered_if z.durable e }) new) (c.as_ref.ensures.value ∙ entry_is)
    (c.closed_after-self-inside.ensures.closed z b cl)) in
    let move_is = subst (λ (m : TicketMove). moved m t ≡ record t { out = out; tried = tried; next = next }) c.into_parts-reply.ensures.tickets
    (c.move_ticket.ensures.moved t refl refl refl) in
    let all_is = move_is ∙ ap (λ (d : Durable). record { durable = d; out = out; tried = tried; next = next }) (sym durable_is) in
    (c.build_over.ensures.builder, subst (λ (d : Durable). IsSmallProject d.texts) (sym durable_is) texts, subst (λ (z : State). AreClosedBefore z new) all_is closed)

pub returns-clause-changed : goal.returns-clause-changed
returns-clause-changed c =
    let p = c.args.prepared in
    let s : State = record { durable = c.self.inside.durable; out = c.self.inside.out.items; tried = c.self.inside.tried; next = c.self.inside.next } in
    let t : State = record s { durable = entered_if s.durable p.entry } in
    let out = c.move_ticket.new.out.items in
    let tried = c.move_ticket.new.tried in
    let next = c.move_ticket.new.next in
    let entry_is = c.into_parts-reply.ensures.entry in
    let told_is = c.as_ref-2.ensures.value ∙ entry_is in
    let fits = subst (λ (z : State). FitsBuilt z.durable.texts p.built p.entry) (sym c.self.view_is) c.requires.ready.built in
    let fits_told = fits_built s.durable.texts p.built _ p.entry _ c.into_parts-reply.ensures.project told_is fits in
    let durable_is = entered_by s.durable p.entry c.enter.new.texts c.build_over.new.project c.enter.new.proofs
    (c.enter.ensures.texts ∙ ap (texts_after s.durable.texts) entry_is)
    (c.build_over.ensures.project s.durable.texts fits_told ∙ ap (built_after s.durable.texts s.durable.built) told_is)
    (c.enter.ensures.proofs ∙ ap (proofs_after s.durable.proofs) entry_is) in
    let move_is = subst (λ (m : TicketMove). moved m t ≡ record t { out = out; tried = tried; next = next }) c.into_parts-reply.ensures.tickets
    (c.move_ticket.ensures.moved t refl refl refl) in
    let all_is = move_is ∙ ap (λ (d : Durable). record { durable = d; out = out; tried = tried; next = next }) (sym durable_is) in
    sym all_is ∙ ap (changed_by p) c.self.view_is
