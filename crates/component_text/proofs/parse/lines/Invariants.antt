-- whatever is read of the rest, or refused there, the whole gives it behind the lines so far
use Rattle.std.proofs.Common.{◌++◌, List, length}
use Rattle.model_core.specs.declared.component.RawLabelled.{RawLabelled}
use Rattle.component_text.specs.Marks.{Mark}
use Rattle.component_text.specs.Forms.{limits}
use Rattle.component_text.specs.Grammar.{Lines}
use Rattle.component_text.specs.PrivateReading.{RefusesAt, Passes}
use Rattle.component_text.proofs.parse.lines.Given as goal

abbrev pub invariant-loop-alloc : goal.invariant-loop-alloc
invariant-loop-alloc l = record {
  read : (xs : List RawLabelled) (rest : List Mark) → Lines limits l.cursor xs rest → Lines limits l.initial.cursor (l.lines.items ++ xs) rest;
  refused : (rest : List Mark) → RefusesAt Lines l.cursor rest → RefusesAt Lines l.initial.cursor rest;
  passed : (rest : List Mark) → Passes Lines l.cursor rest → Passes Lines l.initial.cursor rest;
}

abbrev pub decreases-loop-alloc : goal.decreases-loop-alloc
decreases-loop-alloc l = length l.cursor
