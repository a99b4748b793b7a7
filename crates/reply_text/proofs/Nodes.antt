-- The goals of nodes.
use Rattle.std.proofs.Common.{◌≡◌, ℕ, zero, suc, ◌<◌, List, [], ◌∷◌, ◌++◌, length, get_or, sym, subst, arith}
use Rattle.std.specs.List.{flat_map}
use Rattle.formula_core.specs.declared.formula.Formula.{Formula}
use Rattle.core_steps.specs.declared.NodeLine.{NodeLine}
use Rattle.formula_core.specs.Substitution.{AreWell}
use Rattle.reply_text.specs.Replies.{goals_of}

front_is : (fs gs : List Formula) → AreWell (fs ++ gs) → AreWell fs
front_is [] gs all = tt
front_is (f ∷ fs) gs all = (all.0, front_is fs gs all.1)

rest_is : (fs gs : List Formula) → AreWell (fs ++ gs) → AreWell gs
rest_is [] gs all = all
rest_is (f ∷ fs) gs all = rest_is fs gs all.1

-- the goal of each node is well
pub goals_at : (nodes : List NodeLine) (i : ℕ) (node : NodeLine) → i < length nodes → node ≡ get_or nodes i node → AreWell (flat_map goals_of nodes) → AreWell (goals_of node)
goals_at [] i node less is all = absurd (omega (arith, less))
goals_at (n ∷ nodes) zero node less is all = subst (λ n. AreWell (goals_of n)) (sym is) (front_is (goals_of n) (flat_map goals_of nodes) all)
goals_at (n ∷ nodes) (suc i) node less is all = goals_at nodes i node (omega (arith, less)) is (rest_is (goals_of n) (flat_map goals_of nodes) all)
