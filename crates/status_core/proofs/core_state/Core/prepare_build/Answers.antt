use Rattle.std.proofs.Common.{◌∙◌, sym, ap}
use Rattle.std.specs.FinMap.{entries}
use Rattle.core_steps.specs.State.{State}
use Rattle.status_core.proofs.Entering.{buildable}
use Rattle.status_core.proofs.Stepping.{no_steps}
use Rattle.status_core.proofs.core_state.Core.prepare_build.Goals as goal

pub returns-in_err-project-clause-steps : goal.returns-in_err-project-clause-steps
returns-in_err-project-clause-steps g c = no_steps (entries c.args.self.now.durable.built) (entries c.args.self.now.durable.texts) c.args.steps.now

pub build-requires : goal.build-requires
build-requires g c = record {
  small = buildable c.self.inside.durable.texts c.in_ok-project.project c.texts.result.now.entries c.self.invariant.1 c.in_ok-project.ensures c.texts.ensures;
}

pub built-requires : goal.built-requires
built-requires g c = record {
  project = c.in_ok-project.ensures ∙ ap (λ (z : State). z.durable.texts) c.self.view_is;
  builder = c.in-Ok.ensures.built ∙ sym c.texts.ensures;
}
