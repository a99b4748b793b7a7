-- Applying, level by level: what a node asks of its children.
use Rattle.std.specs.Prelude.{List, [], ◌∷◌, ⊤}
use Rattle.sequent_core.specs.declared.sequent.Sequent.{Sequent}
use Rattle.rule_table.specs.declared.rule.Antecedent.{Antecedent}
use Rattle.sequent_core.specs.declared.tree.Tree.{Tree}
use Rattle.sequent_core.specs.Trees.{extended, IsFresh, Applies}

-- there are as many trees as antecedents, and each tree applies to the sequent extended by its antecedent, whose identifiers are new
abbrev pub EachApplies : List Tree → List Antecedent → Sequent → Type 0
EachApplies [] [] s = ⊤
EachApplies (tree ∷ trees) (a ∷ antecedents) s = IsFresh s a × Applies tree (extended s a) × EachApplies trees antecedents s
EachApplies _ _ s = ⊥
