use Rattle.std.proofs.Common.{subst}
use Rattle.build_core.specs.Moved.{HasFewSteps}
use Rattle.build_core.proofs.Moving.{few_components}
use Rattle.build_core.proofs.incremental.Builder.new.Goals as goal

pub returns-clause-steps : goal.returns-clause-steps
returns-clause-steps g c =
    few_components c.args.project.now.entries c.args.steps.now c.build.new.steps
    (subst (λ p. HasFewSteps p c.args.project.now.entries c.args.steps.now c.build.new.steps) c.in_ok-nothing.ensures c.build.ensures.steps)
