use Rattle.std.proofs.Common.{◌≡◌, ◌∙◌, sym, ap, subst}
use Rattle.std.specs.Prelude.{IfOk}
use Rattle.std.specs.Option.{option_copied}
use Rattle.sequent_core.specs.Trees.{goal_or}
use Rattle.proof_steps.proofs.ends.copy_goal.Goals as goal

pub returns-in-Some : goal.returns-in-Some
returns-in-Some c =
    let is = c.goal.ensures c.args.sequent.now ∙ ap (λ o. goal_or (option_copied o) c.args.sequent.now.goal) c.in-Some.is in
    subst (λ g. IfOk c.copy.result (λ f. f ≡ g)) (sym is) c.copy.ensures

pub returns-in-None : goal.returns-in-None
returns-in-None c =
    let is = c.goal.ensures c.args.sequent.now ∙ ap (λ o. goal_or (option_copied o) c.args.sequent.now.goal) c.in-None.is in
    subst (λ g. IfOk c.copy-in-None.result (λ f. f ≡ g)) (sym is) c.copy-in-None.ensures
