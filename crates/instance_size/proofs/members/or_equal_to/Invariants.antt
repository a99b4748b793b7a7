use Rattle.std.proofs.Common.{◌≡◌, fold, take}
use Rattle.instance_size.specs.Private.{or_equal_extent}
use Rattle.instance_size.proofs.members.or_equal_to.Given as goal

abbrev pub invariant-loop-member : goal.invariant-loop-member
invariant-loop-member l = l.any ≡ fold (or_equal_extent l.e) l.fn.first (take l.member-index l.rest)
