-- The way from the root of a tree to a place in it.
use Rattle.std.specs.Prelude.{List, [], ◌∷◌}
use Rattle.rule_table.specs.declared.rule.Antecedent.{Antecedent}
use Rattle.proof_tree.specs.declared.way.Way.{Way}
use Rattle.proof_tree.specs.declared.way.Way.TheOpen.{Way-F, Root, Below}
use Rattle.proof_tree.specs.declared.way.Way.TheFolds.{fold-Way}

abbrev pub antecedents_step : Way-F (List Antecedent) → List Antecedent
antecedents_step Root = []
antecedents_step (Below a above) = a.now ∷ above.now

-- the antecedents on the way to a place, the nearest first
abbrev pub antecedents_of : Way → List Antecedent
antecedents_of = fold-Way (List Antecedent) antecedents_step
