use Rattle.std.proofs.Common.{◌≡◌, take}
use Rattle.rule_kernel.proofs.sound.has_distinct_names.Given as goal

abbrev pub invariant-loop-identifier : goal.invariant-loop-identifier
invariant-loop-identifier l = l.env ≡ take l.identifier-index l.identifiers
