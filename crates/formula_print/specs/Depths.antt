-- How many identifiers are bound around a place.
use Rattle.std.specs.Prelude.{ℕ, ◌+◌, length}
use Rattle.formula_core.specs.declared.formula.Formula.{Formula}
use Rattle.formula_core.specs.declared.formula.Formula.TheOpen.{Formula-F, Int, Free, Bound, Node, Bind}
use Rattle.formula_core.specs.declared.formula.Formula.TheFolds.{fold-Formula}
use Rattle.formula_core.specs.Sizes.{greatest}

abbrev pub deepest_step : Formula-F ℕ → ℕ
deepest_step (Int n) = 0
deepest_step (Free name t) = 0
deepest_step (Bound at t) = 0
deepest_step (Node o parts t) = greatest parts
deepest_step (Bind b types parts t) = length types + greatest parts

-- the most identifiers that a formula binds around a place
abbrev pub deepest : Formula → ℕ
deepest = fold-Formula ℕ deepest_step
