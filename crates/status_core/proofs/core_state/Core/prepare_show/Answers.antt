use Rattle.std.proofs.Common.{inl, inr}
use Rattle.std.specs.Option.{option_copied}
use Rattle.core_steps.specs.declared.events.Event.TheVariants.{Ask}
use Rattle.core_steps.specs.declared.events.Question.TheVariants.{Show}
use Rattle.core_steps.specs.Proving.{ShowsAt}
use Rattle.status_core.proofs.Made.{if_ok, on_none, on_one}
use Rattle.status_core.proofs.core_state.Core.prepare_show.Goals as goal

pub returns-in-None : goal.returns-in-None
returns-in-None c =
    if_ok _ _ _
    (λ p m. on_none c.args.self.now (Ask (Show c.args.name.now (option_copied c.args.path))) p c.args.name.now c.in-None.ensures m (λ table x a e. inl (a, e)))
    c.tell_none.ensures

pub returns-in-Some : goal.returns-in-Some
returns-in-Some c =
    let o = c.in-Some.obligation.now in
    let path = option_copied c.args.path in
    if_ok _ _ _
    (λ p m. on_one c.args.self.now (Ask (Show c.args.name.now path)) p c.args.name.now o (ShowsAt c.args.self.now c.args.name.now path o.sequent) c.in-Some.ensures m
    (λ table x a y. inr (o.sequent, a, y)))
    c.show.ensures
