-- What the reader's values in memory stand for.
use Rattle.std.specs.Prelude.{◌≡◌, Option, Some, None, Result, Ok, Err}
use Rattle.formula_core.specs.declared.raw.RawAction.{RawAction}
use Rattle.formula_parse.specs.declared.fault.StepFault.{StepFault}
use Rattle.formula_parse.specs.declared.fault.StepFault.TheVariants as fault
use Rattle.formula_parse.specs.View.{state_of}
use Rattle.math_action.specs.declared.stages.Stage.{Stage}
use Rattle.math_action.specs.declared.stages.Stage.TheVariants as stage
use Rattle.math_action.specs.PrivateMachine.{ActionState, target, named, formula, applied}

abbrev pub action_state : Stage → ActionState
action_state (stage.Target before) = target before
action_state (stage.Named before r) = named before r
action_state (stage.Formula h phase) = formula h (state_of phase)
action_state (stage.Applied r a) = applied r a

-- what a step gave, unless memory ran out
abbrev pub ActionSteps : Result Stage StepFault → Option ActionState → Type 0
ActionSteps (Ok st) o = o ≡ Some (action_state st)
ActionSteps (Err fault.Refused) o = o ≡ None
ActionSteps (Err fault.OutOfMemory) o = Unit {0}

abbrev pub CompletesAction : Result RawAction StepFault → Option RawAction → Type 0
CompletesAction (Ok a) o = o ≡ Some a
CompletesAction (Err fault.Refused) o = o ≡ None
CompletesAction (Err fault.OutOfMemory) o = Unit {0}
