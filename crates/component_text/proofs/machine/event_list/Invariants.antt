-- whatever is read of the rest, or refused there, the whole gives it behind those so far
use Rattle.std.proofs.Common.{◌++◌, List, length}
use Rattle.model_core.specs.declared.component.RawEvent.{RawEvent}
use Rattle.component_text.specs.Marks.{Mark}
use Rattle.component_text.specs.Forms.{limits}
use Rattle.component_text.specs.Machines.{EventList}
use Rattle.component_text.specs.PrivateReading.{RefusesAt, Passes}
use Rattle.component_text.proofs.machine.event_list.Given as goal

abbrev pub invariant-loop-alloc : goal.invariant-loop-alloc
invariant-loop-alloc l = record {
  read : (xs : List RawEvent) (rest : List Mark) → EventList limits l.cursor xs rest → EventList limits l.initial.cursor (l.events.items ++ xs) rest;
  refused : (rest : List Mark) → RefusesAt EventList l.cursor rest → RefusesAt EventList l.initial.cursor rest;
  passed : (rest : List Mark) → Passes EventList l.cursor rest → Passes EventList l.initial.cursor rest;
}

abbrev pub decreases-loop-alloc : goal.decreases-loop-alloc
decreases-loop-alloc l = length l.cursor
