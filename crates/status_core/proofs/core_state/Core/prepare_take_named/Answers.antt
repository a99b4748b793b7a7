use Rattle.std.proofs.Common.{◌≡◌, subst, inl, inr}
use Rattle.std.specs.Prelude.{Some}
use Rattle.sequent_core.specs.declared.Obligation.{Obligation}
use Rattle.core_steps.specs.declared.events.Event.TheVariants.{Take}
use Rattle.core_steps.specs.Outcomes.{Where}
use Rattle.core_steps.specs.Tickets.{CanTakeNamed, TellsNotOpen, taking}
use Rattle.status_core.proofs.Made.{if_ok, on_none, on_one}
use Rattle.status_core.proofs.core_state.Core.prepare_take_named.Goals as goal

pub returns-in-None : goal.returns-in-None
returns-in-None c =
    if_ok _ _ _ (λ p m. on_none c.args.self.now (Take (Some c.args.name.now)) p c.args.name.now c.in-None.ensures m (λ table x a e. inl (a, e))) c.tell_none.ensures

pub returns-in-Some : goal.returns-in-Some
returns-in-Some c =
    let s = c.args.self.now in
    let o = c.in-Some.obligation.now in
    if_ok _ _ _
    (λ p m. on_one s (Take (Some c.args.name.now)) p c.args.name.now o
    (λ x. Where (CanTakeNamed s o) (x ≡ taking s o) (TellsNotOpen s o.name o.sequent x)) c.in-Some.ensures m
    (λ table x a y. inr (
      o.sequent,
      a,
      subst (λ n. let q : Obligation = record { name = n; sequent = o.sequent } in Where (CanTakeNamed s q) (x ≡ taking s q) (TellsNotOpen s n o.sequent x)) c.in-Some.ensures.3 y,
    )))
    c.take_this.ensures
