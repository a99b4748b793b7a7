use Rattle.std.proofs.Common.{inl, inr}
use Rattle.core_steps.specs.declared.events.Event.TheVariants.{Prune}
use Rattle.core_steps.specs.Proving.{PrunesAt}
use Rattle.status_core.proofs.Made.{if_ok, on_none, on_one}
use Rattle.status_core.proofs.core_state.Core.prepare_prune.Goals as goal

pub returns-in-None-clause-prepared : goal.returns-in-None-clause-prepared
returns-in-None-clause-prepared g c =
    if_ok _ _ _ (λ p m. on_none c.args.self.now (Prune c.args.name.now c.args.path.now) p c.args.name.now c.in-None.ensures m (λ table x a e. inl (a, e))) c.tell_none.ensures

pub returns-in-Some-clause-prepared : goal.returns-in-Some-clause-prepared
returns-in-Some-clause-prepared g c =
    let o = c.in-Some.obligation.now in
    if_ok _ _ _
    (λ p m. on_one c.args.self.now (Prune c.args.name.now c.args.path.now) p c.args.name.now o (PrunesAt c.args.self.now c.args.name.now c.args.path.now o.sequent) c.in-Some.ensures m (λ table x a y. inr (o.sequent, a, y)))
    c.prune_on.ensures.comes
