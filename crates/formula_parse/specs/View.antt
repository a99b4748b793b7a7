-- What the parser's values in memory stand for.
use Rattle.std.specs.Prelude.{◌≡◌, ℕ, List, Option, Some, None, Result, Ok, Err, reverse, true, false}
use Rattle.formula_core.specs.Names.{is_name}
use Rattle.formula_core.specs.declared.raw.Raw.{Raw}
use Rattle.formula_parse.specs.declared.frames.Frame.{Frame}
use Rattle.formula_parse.specs.declared.frames.Phase.{Phase}
use Rattle.formula_parse.specs.declared.frames.Phase.TheVariants as phase
use Rattle.formula_parse.specs.declared.fault.StepFault.{StepFault}
use Rattle.formula_parse.specs.declared.fault.StepFault.TheVariants as fault
use Rattle.formula_parse.specs.Machine.{ParseState, want, have, calling, shape_want, shape_name, shape_have}

-- the top of the stack is the last element of the vector
abbrev pub forms : List Frame → List Frame
forms fs = reverse fs

abbrev pub state_of : Phase → ParseState
state_of (phase.Want stack) = want (forms stack.items)
state_of (phase.Have stack g t) = have (forms stack.items) g t
state_of (phase.Calling stack c o p) = calling (forms stack.items) c o p
state_of (phase.ShapeWant stack) = shape_want (forms stack.items)
state_of (phase.ShapeName stack n p) = shape_name (forms stack.items) n p
state_of (phase.ShapeHave stack a) = shape_have (forms stack.items) a

-- what a step gave, unless memory ran out
abbrev pub Steps : Result Phase StepFault → Option ParseState → Type 0
Steps (Ok st) o = o ≡ Some (state_of st)
Steps (Err fault.Refused) o = o ≡ None
Steps (Err fault.OutOfMemory) o = Unit {0}

abbrev pub Completes : Result Raw StepFault → Option Raw → Type 0
Completes (Ok t) o = o ≡ Some t
Completes (Err fault.Refused) o = o ≡ None
Completes (Err fault.OutOfMemory) o = Unit {0}

-- the name that the bytes are
abbrev pub IsReadName : Option (List ℕ) → List ℕ → Type 0
IsReadName (Some n) word = (n ≡ word) × (is_name word ≡ true)
IsReadName None word = is_name word ≡ false
