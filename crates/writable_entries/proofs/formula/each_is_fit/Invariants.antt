use Rattle.std.proofs.Common.{take}
use Rattle.std.specs.List.{AllByRecursion}
use Rattle.proof_codec.specs.Formulas.{IsFitFormula}
use Rattle.writable_entries.proofs.formula.each_is_fit.Given as goal

abbrev pub invariant-loop-formula : goal.invariant-loop-formula
invariant-loop-formula l = AllByRecursion IsFitFormula (take l.formula-index l.formulas)
