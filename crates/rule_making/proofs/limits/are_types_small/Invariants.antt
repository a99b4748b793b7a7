use Rattle.std.proofs.Common.{take}
use Rattle.std.specs.List.{AllByRecursion}
use Rattle.rule_kernel.specs.Private.{IsSmallType}
use Rattle.rule_making.proofs.limits.are_types_small.Given as goal

abbrev pub invariant-loop-identifier : goal.invariant-loop-identifier
invariant-loop-identifier l = AllByRecursion IsSmallType (take l.identifier-index l.identifiers)
