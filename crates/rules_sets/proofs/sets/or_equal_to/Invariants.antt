use Rattle.std.proofs.Common.{◌≡◌, fold, take}
use Rattle.rule_table.specs.SetLaws.{or_equal}
use Rattle.rules_sets.proofs.sets.or_equal_to.Given as goal

abbrev pub invariant-loop-member : goal.invariant-loop-member
invariant-loop-member l = l.any ≡ fold (or_equal l.e) l.fn.first (take l.member-index l.rest)
