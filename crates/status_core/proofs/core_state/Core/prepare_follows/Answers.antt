use Rattle.std.proofs.Common.{inl, inr}
use Rattle.core_steps.specs.declared.events.Event.TheVariants.{Ask}
use Rattle.core_steps.specs.declared.events.Question.TheVariants.{Follows}
use Rattle.core_steps.specs.Proving.{ShowsFollows}
use Rattle.status_core.proofs.Made.{if_ok, on_none, on_one}
use Rattle.status_core.proofs.core_state.Core.prepare_follows.Goals as goal

pub returns-in-None-clause-prepared : goal.returns-in-None-clause-prepared
returns-in-None-clause-prepared g c =
    let name = c.args.name.now in
    if_ok _ _ _ (λ p m. on_none c.args.self.now (Ask (Follows name)) p name c.in-None.ensures m (λ table x a e. inl (a, e))) c.tell_none.ensures

pub returns-in-Some-clause-prepared : goal.returns-in-Some-clause-prepared
returns-in-Some-clause-prepared g c =
    let s = c.args.self.now in
    let name = c.args.name.now in
    let o = c.in-Some.obligation.now in
    if_ok _ _ _ (λ p m. on_one s (Ask (Follows name)) p name o (ShowsFollows s name o.sequent) c.in-Some.ensures m (λ table x a y. inr (o.sequent, a, y)))
    c.show_follows.ensures.comes
