use Rattle.std.proofs.Common.{take}
use Rattle.context_check.specs.Typings.{AreTypedStepsSoFar}
use Rattle.context_check.proofs.typing.type_actions.Given as goal

abbrev pub invariant-loop-step : goal.invariant-loop-step
invariant-loop-step l = AreTypedStepsSoFar l.component l.env (take l.step-index l.steps) l.typed.items l.first
