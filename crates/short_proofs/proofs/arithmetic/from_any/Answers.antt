use Rattle.std.proofs.Common.{◌≡◌, ◌∙◌, sym, ap}
use Rattle.rule_table.specs.Linear.{may_be_goal, shape}
use Rattle.short_proofs.specs.Sure.{as_comparison}
use Rattle.short_proofs.proofs.Steps.{follows_nowhere}
use Rattle.short_proofs.proofs.arithmetic.from_any.Goals as goal

pub returns-then-not-may_be_goal-clause-sure : goal.returns-then-not-may_be_goal-clause-sure
returns-then-not-may_be_goal-clause-sure c =
    let no = ap (λ f. may_be_goal (shape f)) (sym c.in_ok-goal.ensures.formula) ∙ sym c.may_be_goal.ensures ∙ c.if-not-may_be_goal.true in
    let none = follows_nowhere (as_comparison c.args.sequent.now.goal) no c.args.sequent.now.hyps in
    (λ n. none ∙ n, λ h. sym none ∙ h)
