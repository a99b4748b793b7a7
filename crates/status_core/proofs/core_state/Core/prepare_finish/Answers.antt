use Rattle.std.proofs.Common.{subst, refl, inl}
use Rattle.std.specs.Prelude.{Some, None}
use Rattle.core_steps.specs.State.{State}
use Rattle.table_lookup.specs.Tickets.{IsTicketAt}
use Rattle.status_core.proofs.Made.{as_made}
use Rattle.status_core.proofs.core_state.Core.prepare_finish.Goals as goal

pub returns-in-None-clause-prepared : goal.returns-in-None-clause-prepared
returns-in-None-clause-prepared g c =
    let none = rw c.deref.ensures.value at c.in-None.ensures.place in
    as_made _ _ c.tell.result _ c.tell.ensures
    (c.has_table.ensures.0, c.has_table.ensures.1, inl (subst (λ (s : State). IsTicketAt s.out c.args.number None) c.self.view_is none, refl))

pub finish_at-requires : goal.finish_at-requires
finish_at-requires g c =
    subst (λ (s : State). IsTicketAt s.out c.args.number (Some c.in-Some.at)) c.self.view_is (rw c.deref.ensures.value at c.in-Some.ensures.place)
