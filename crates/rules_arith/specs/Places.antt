-- A formula with another part at a place.
use Rattle.std.specs.Prelude.{ℕ, List, [], ◌∷◌, Option, Some}
use Rattle.std.specs.Option.{option_map, option_and_then}
use Rattle.formula_core.specs.declared.Formula.{Formula}
use Rattle.rule_table.specs.Rewriting.{part, with_part}

abbrev pub with_at : List ℕ → Formula → Formula → Option Formula
with_at [] f new = Some new
with_at (i ∷ place) f new = option_and_then (λ p. option_map (with_part f i) (with_at place p new)) (part f i)
