-- Derivations by plain rules alone.
use Rattle.std.specs.Prelude.{◌≡◌, ℕ, ◌+◌, List, [], ◌∷◌, Option, Some, None, if◌then◌else◌}
use Rattle.std.specs.List.{AllByRecursion}
use Rattle.sequent_core.specs.declared.sequent.Sequent.{Sequent}
use Rattle.sequent_core.specs.declared.tree.Tree.{Tree}
use Rattle.sequent_core.specs.declared.tree.Tree.TheOpen.{Tree-F, Leaf, Node}
use Rattle.sequent_core.specs.declared.tree.Tree.TheFolds.{fold-Tree}
use Rattle.sequent_core.specs.Trees.{Derives}
use Rattle.formula_readings.specs.declared.Reading.{Reading}
use Rattle.formula_readings.specs.Readings.{IsTrueIn}
use Rattle.plain_logic.specs.Plain.{is_plain_rule}

abbrev pub first_below : ℕ → List (Option (List ℕ)) → Option (List ℕ)
first_below i [] = None
first_below i (Some path ∷ rest) = Some (i ∷ path)
first_below i (None ∷ rest) = first_below (i + 1) rest

abbrev pub not_plain_step : Tree-F (Option (List ℕ)) → Option (List ℕ)
not_plain_step Leaf = None
not_plain_step (Node r children) = if is_plain_rule r then first_below 0 children else Some []

-- the first rule of a tree that isn't plain, parents before children
abbrev pub not_plain : Tree → Option (List ℕ)
not_plain = fold-Tree (Option (List ℕ)) not_plain_step

-- each reading that makes the hypotheses true makes the goal true
abbrev pub IsTrueEverywhere : Sequent → Type 0
IsTrueEverywhere s = (r : Reading) → AllByRecursion (IsTrueIn r) s.hyps → IsTrueIn r s.goal

-- what plain rules derive is true in each reading
abbrev pub PlainDerivationsKeepTruth : Type 0
PlainDerivationsKeepTruth = (tree : Tree) (s : Sequent) → Derives tree s → not_plain tree ≡ None → IsTrueEverywhere s
