use Rattle.std.proofs.Common.{take}
use Rattle.std.specs.List.{AllByRecursion}
use Rattle.proof_codec.specs.Rules.{IsFitIdentifier}
use Rattle.writable_entries.proofs.rule.each_identifier_is_fit.Given as goal

abbrev pub invariant-loop-identifier : goal.invariant-loop-identifier
invariant-loop-identifier l = AllByRecursion IsFitIdentifier (take l.identifier-index l.identifiers)
