use Rattle.std.proofs.Common.{take}
use Rattle.std.specs.List.{AllByRecursion}
use Rattle.proof_codec.specs.Private.{IsFitAntecedent}
use Rattle.writable_entries.proofs.rule.each_antecedent_is_fit.Given as goal

abbrev pub invariant-loop-antecedent : goal.invariant-loop-antecedent
invariant-loop-antecedent l = AllByRecursion IsFitAntecedent (take l.antecedent-index l.antecedents)
