use Rattle.std.proofs.Common.{◌+◌, ◌*◌, map, take}
use Rattle.std.specs.List.{AllByRecursion}
use Rattle.formula_core.specs.Sizes.{greatest, formula_height}
use Rattle.proof_codec.specs.Private.{IsWrittenAs, items_bytes, IsCoded}
use Rattle.proof_codec.specs.Formulas.{formula_bytes}
use Rattle.proof_codec.proofs.formula.+write.Given as goal

-- two calls lead from a formula to its parts
abbrev pub decreases-write_formula : goal.decreases-write_formula
decreases-write_formula l = formula_height l.formula.now * 2

abbrev pub decreases-write_parts : goal.decreases-write_parts
decreases-write_parts l = greatest (map formula_height l.parts.now) * 2 + 1

abbrev pub invariant-write_parts-loop-part : goal.invariant-write_parts-loop-part
invariant-write_parts-loop-part l = IsWrittenAs (AllByRecursion IsCoded) (items_bytes formula_bytes) (take l.part-index l.parts) l.initial.out.items l.out.items
