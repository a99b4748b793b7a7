use Rattle.std.proofs.Common.{◌∙◌, subst, sym, inl, inr, refl}
use Rattle.std.specs.FinMap.{get}
use Rattle.std.specs.List.{AllByRecursion}
use Rattle.core_steps.specs.State.{State}
use Rattle.core_steps.specs.Status.{IsStatus}
use Rattle.core_steps.specs.Tickets.{CanTakeNamed, IsFor}
use Rattle.status_core.proofs.Made.{if_ok, so_made, as_made}
use Rattle.status_core.proofs.core_state.Core.take_this.Goals as goal

pub returns-then-is_free : goal.returns-then-is_free
returns-then-is_free c =
    let o = c.args.obligation.now in
    let free = c.is_free.ensures.free.0 c.if-is_free.true in
    let not_out = subst (AllByRecursion (λ ticket. IsFor o ticket → ⊥)) c.deref.ensures.value free.1 in
    let can = subst (λ (s : State). CanTakeNamed s o) c.self.view_is (free.0, not_out) in
    if_ok _ _ _ (λ p m. so_made _ _ _ p (λ x e. inl (can, e)) m) c.taking.ensures

pub returns : goal.returns
returns c =
    let o = c.args.obligation.now in
    let status = c.status_of-status.result in
    let taken = subst (λ (s : State). CanTakeNamed s o → ⊥) c.self.view_is
    (λ can. let yes = sym c.if-is_free.false ∙ c.is_free.ensures.free.1 (can.0, subst (AllByRecursion (λ ticket. IsFor o ticket → ⊥)) (sym c.deref.ensures.value) can.1) in cc) in
    let is = subst (λ (s : State). IsStatus (get s.durable.proofs o.name) o.sequent status) c.self.view_is c.status_of-status.ensures.status in
    as_made _ _ c.tell.result _ (rw c.in_ok-name.ensures at c.tell.ensures) (inr (taken, (status, is, refl)))
