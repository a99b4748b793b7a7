use Rattle.std.proofs.Common.{◌≡◌, ◌++◌, map, take}
use Rattle.context_check.specs.Texts.{mark_of, ref_mark}
use Rattle.context_check.proofs.declarations.add_refs.Given as goal

abbrev pub invariant-loop-r : goal.invariant-loop-r
invariant-loop-r l = map mark_of l.marks.items ≡ map mark_of l.initial.marks.items ++ map ref_mark (take l.r-index l.refs)
