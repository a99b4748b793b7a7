-- The sequents that are surely proved by cases over their connectives.
use Rattle.std.specs.Prelude.{◌≤◌, ℕ, ◌+◌, ◌*◌, ◌^◌, Bool, true, List, [], ◌∷◌, IsTrue, if◌then◌else◌, map, sum, ⊤}
use Rattle.std.specs.List.{AllByRecursion}
use Rattle.formula_core.specs.declared.Op.{Op}
use Rattle.formula_core.specs.declared.Formula.{Formula}
use Rattle.formula_core.specs.declared.Formula.TheOpen.{Formula-F, Node}
use Rattle.formula_core.specs.declared.Formula.TheFolds.{fold-Formula}
use Rattle.formula_core.specs.Sizes.{formula_nodes, formula_height, has_types_within}
use Rattle.sequent_core.specs.declared.sequent.Sequent.{Sequent}
use Rattle.sequent_core.specs.declared.tree.Tree.{Tree}
use Rattle.sequent_core.specs.declared.prover.Attempt.{Attempt}
use Rattle.sequent_core.specs.declared.prover.Attempt.TheVariants.{Found}
use Rattle.sequent_core.specs.Trees.{rule_count}
use Rattle.formula_readings.specs.Readings.{truth_by}
use Rattle.formula_readings.specs.Forms.{negates, joins_two}

abbrev pub connectives_on : Op → List ℕ → ℕ
connectives_on o (p ∷ []) = if negates o then p + 1 else 0
connectives_on o (p ∷ q ∷ []) = if joins_two o then p + q + 1 else 0
connectives_on o _ = 0

abbrev pub connectives_step : Formula-F ℕ → ℕ
connectives_step (Node o parts t) = connectives_on o parts
connectives_step _ = 0

-- the number of connectives outside atoms
abbrev pub connectives : Formula → ℕ
connectives = fold-Formula ℕ connectives_step

abbrev pub connectives_of : List Formula → ℕ
connectives_of fs = sum (map connectives fs)

-- 16 · 2^c, where the hypotheses and the goal have c connectives together
abbrev pub rules_by_cases : Sequent → ℕ
rules_by_cases s = 16 * 2 ^ (connectives_of s.hyps + connectives s.goal)

-- half of the limits of a rule's formulas, so that what a proof makes of it is within them
pub record IsHalfSize (f : Formula) : Type 0 where
  pub nodes : formula_nodes f ≤ 32768
  pub height : formula_height f ≤ 2048
  pub types : IsTrue (has_types_within 4096 f)

-- in each propositional reading that makes the hypotheses true, the goal is true
abbrev pub FollowsByCases : Sequent → Type 0
FollowsByCases s =
    (atom : Formula → Bool) → AllByRecursion (λ h. IsTrue (truth_by atom h)) s.hyps → IsTrue (truth_by atom s.goal)

-- a sequent of few connectives that follows by cases, for a prover of so many rules
pub record IsSureByCases (budget : ℕ) (s : Sequent) : Type 0 where
  pub hyps : AllByRecursion IsHalfSize s.hyps
  pub goal : IsHalfSize s.goal
  pub few : rules_by_cases s ≤ budget
  pub follows : FollowsByCases s

-- a proof has at most 16 · 2^c rules for c connectives
abbrev pub HasFewRules : Sequent → Tree → Type 0
HasFewRules s tree = rule_count tree ≤ rules_by_cases s

-- the same of what an attempt found
abbrev pub HasFewRulesIfFound : Sequent → Attempt → Type 0
HasFewRulesIfFound s (Found tree) = HasFewRules s tree
HasFewRulesIfFound s _ = ⊤
