-- A chain as it grows.
use Rattle.std.proofs.Common.{List, [], ◌∷◌}
use Rattle.std.specs.Prelude.{fold, Option, Some, None}
use Rattle.formula_core.specs.declared.formula.Formula.{Formula}
use Rattle.formula_core.specs.declared.op.Op.{Op}
use Rattle.po_refine.specs.Private.{join}

-- of some formulas, if there are any
abbrev pub chained : Op → List Formula → Option Formula
chained op [] = None
chained op (p ∷ ps) = Some (fold (join op) p ps)
