-- whatever names are read of the rest, the whole gives the names so far before them
use Rattle.std.proofs.Common.{◌++◌, List, length}
use Rattle.formula_core.specs.declared.raw.Ref.{Ref}
use Rattle.component_text.specs.Marks.{Mark}
use Rattle.component_text.specs.Forms.{limits}
use Rattle.component_text.specs.Grammar.{Names}
use Rattle.component_text.specs.PrivateReading.{AddsNames}
use Rattle.component_text.proofs.parse.add_names.Given as goal

abbrev pub invariant-loop-name : goal.invariant-loop-name
invariant-loop-name l =
    (xs : List Ref) (rest : List Mark) → Names limits l.cursor xs rest → AddsNames l.initial.names.items (l.names.items ++ xs) l.initial.cursor rest

abbrev pub decreases-loop-name : goal.decreases-loop-name
decreases-loop-name l = length l.cursor
