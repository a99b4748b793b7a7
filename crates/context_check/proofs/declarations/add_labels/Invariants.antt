use Rattle.std.proofs.Common.{◌≡◌, ◌++◌, map, take}
use Rattle.check_rules.specs.Contexts.{labels_of}
use Rattle.context_check.specs.Texts.{mark_of}
use Rattle.context_check.proofs.declarations.add_labels.Given as goal

abbrev pub invariant-loop-l : goal.invariant-loop-l
invariant-loop-l l = map mark_of l.marks.items ≡ map mark_of l.initial.marks.items ++ labels_of (take l.l-index l.labelled)
