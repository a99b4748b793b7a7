-- whatever is read of the rest, or refused there, the whole gives it behind those so far
use Rattle.std.proofs.Common.{◌++◌, List, length}
use Rattle.model_core.specs.declared.component.RawLabelled.{RawLabelled}
use Rattle.component_text.specs.Marks.{Mark}
use Rattle.component_text.specs.Forms.{limits}
use Rattle.component_text.specs.Machines.{Witnesses}
use Rattle.component_text.specs.PrivateReading.{RefusesAt, Passes}
use Rattle.component_text.proofs.machine.witnesses.Given as goal

abbrev pub invariant-loop-alloc : goal.invariant-loop-alloc
invariant-loop-alloc l = record {
  read : (xs : List RawLabelled) (rest : List Mark) → Witnesses limits l.cursor xs rest → Witnesses limits l.initial.cursor (l.witnesses.items ++ xs) rest;
  refused : (rest : List Mark) → RefusesAt Witnesses l.cursor rest → RefusesAt Witnesses l.initial.cursor rest;
  passed : (rest : List Mark) → Passes Witnesses l.cursor rest → Passes Witnesses l.initial.cursor rest;
}

abbrev pub decreases-loop-alloc : goal.decreases-loop-alloc
decreases-loop-alloc l = length l.cursor
