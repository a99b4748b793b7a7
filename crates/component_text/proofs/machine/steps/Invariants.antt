-- whatever is read of the rest, or refused there, the whole gives it behind those so far
use Rattle.std.proofs.Common.{◌++◌, List, length}
use Rattle.model_core.specs.declared.component.RawStep.{RawStep}
use Rattle.component_text.specs.Marks.{Mark}
use Rattle.component_text.specs.Forms.{limits}
use Rattle.component_text.specs.Machines.{ManySteps}
use Rattle.component_text.specs.PrivateReading.{RefusesAt, Passes}
use Rattle.component_text.proofs.machine.steps.Given as goal

abbrev pub invariant-loop-alloc : goal.invariant-loop-alloc
invariant-loop-alloc l = record {
  read : (xs : List RawStep) (rest : List Mark) → ManySteps limits l.cursor xs rest → ManySteps limits l.initial.cursor (l.steps.items ++ xs) rest;
  refused : (rest : List Mark) → RefusesAt ManySteps l.cursor rest → RefusesAt ManySteps l.initial.cursor rest;
  passed : (rest : List Mark) → Passes ManySteps l.cursor rest → Passes ManySteps l.initial.cursor rest;
}

abbrev pub decreases-loop-alloc : goal.decreases-loop-alloc
decreases-loop-alloc l = length l.cursor
