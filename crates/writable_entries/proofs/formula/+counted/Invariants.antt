use Rattle.std.proofs.Common.{◌≡◌, map, drop}
use Rattle.formula_core.specs.Sizes.{all_hold}
use Rattle.proof_codec.specs.Formulas.{is_counted}
use Rattle.writable_entries.proofs.formula.+counted.Given as goal

abbrev pub invariant-are_counted-loop-formula : goal.invariant-are_counted-loop-formula
invariant-are_counted-loop-formula l = all_hold (map is_counted l.formulas) ≡ all_hold (map is_counted (drop l.formula-index l.formulas))
