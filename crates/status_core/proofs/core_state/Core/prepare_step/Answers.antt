use Rattle.std.proofs.Common.{inl, inr}
use Rattle.core_steps.specs.declared.events.Event.TheVariants.{Step}
use Rattle.core_steps.specs.Proving.{StepsAt}
use Rattle.status_core.proofs.Made.{if_ok, on_none, on_one}
use Rattle.status_core.proofs.core_state.Core.prepare_step.Goals as goal

pub returns-in-None-clause-prepared : goal.returns-in-None-clause-prepared
returns-in-None-clause-prepared g c =
    if_ok _ _ _ (λ p m. on_none c.args.self.now (Step c.args.name.now c.args.path.now c.args.kind c.args.hint.now) p c.args.name.now c.in-None.ensures m (λ table x a e. inl (a, e))) c.tell_none.ensures

pub returns-in-Some-clause-prepared : goal.returns-in-Some-clause-prepared
returns-in-Some-clause-prepared g c =
    let o = c.in-Some.obligation.now in
    if_ok _ _ _
    (λ p m. on_one c.args.self.now (Step c.args.name.now c.args.path.now c.args.kind c.args.hint.now) p c.args.name.now o (StepsAt c.args.self.now c.args.name.now c.args.path.now c.args.kind c.args.hint.now o.sequent) c.in-Some.ensures m (λ table x a y. inr (o.sequent, a, y)))
    c.step_on.ensures.comes
