use Rattle.std.proofs.Common.{take}
use Rattle.context_check.specs.Typings.{AreTypedSoFar}
use Rattle.context_check.proofs.typing.type_all.Given as goal

abbrev pub invariant-loop-written : goal.invariant-loop-written
invariant-loop-written l = AreTypedSoFar l.component l.fn.env l.wanted (take l.written-index l.labelled) l.typed.items l.first l.env
