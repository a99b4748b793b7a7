use Rattle.std.proofs.Common.{◌≡◌, take}
use Rattle.instance_size.specs.Private.{extents_of}
use Rattle.instance_size.proofs.instantiated.extents_of.Given as goal

abbrev pub invariant-loop-term : goal.invariant-loop-term
invariant-loop-term l = l.extents.items ≡ extents_of (take l.term-index l.terms)
