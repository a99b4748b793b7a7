use Rattle.std.proofs.Common.{◌+◌, ◌*◌}
use Rattle.proof_codec.specs.Private.{IsReadAs, AreItems, items_bytes, IsFormulaWithin}
use Rattle.proof_codec.specs.Formulas.{formula_bytes}
use Rattle.proof_codec.proofs.formula.+formula.Given as goal

-- two calls lead from a formula to its parts
abbrev pub decreases-formula_within : goal.decreases-formula_within
decreases-formula_within l = l.depth * 2

abbrev pub decreases-parts_within : goal.decreases-parts_within
decreases-parts_within l = l.depth * 2 + 1

abbrev pub invariant-parts_within-loop : goal.invariant-parts_within-loop
invariant-parts_within-loop l = IsReadAs (AreItems (IsFormulaWithin l.depth) l.counter) (items_bytes formula_bytes) l.initial.from l.parts.items l.from
