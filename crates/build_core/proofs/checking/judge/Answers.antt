use Rattle.std.proofs.Common.{arith}
use Rattle.build_core.proofs.Moving.{no_steps}
use Rattle.build_core.proofs.Whole.{all_judged}
use Rattle.build_core.proofs.checking.judge.Goals as goal

pub returns-in_err-components-clause-steps : goal.returns-in_err-components-clause-steps
returns-in_err-components-clause-steps g c = no_steps c.args.before.now.texts.now.entries c.args.texts.now.entries c.args.steps.now c.args.steps.now (omega arith)

pub returns-in_err-index-clause-steps : goal.returns-in_err-index-clause-steps
returns-in_err-index-clause-steps g c = no_steps c.args.before.now.texts.now.entries c.args.texts.now.entries c.args.steps.now c.args.steps.now (omega arith)

pub returns-clause-judged : goal.returns-clause-judged
returns-clause-judged g c =
    let components = c.in_ok-components.field-0.components in
    let start = c.in_ok-components.field-0.outcomes in
    let outcomes = c.conclude_all.new.progress.outcomes in
    all_judged c.args.texts.now.entries components start outcomes (record { once = c.in_ok-components.ensures.names; read = c.in_ok-components.ensures.read })
    c.in_ok-conclude_all.ensures.outcomes
