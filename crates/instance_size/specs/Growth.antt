-- When an instance of a rule is larger than the room that there is for its formulas.
use Rattle.std.specs.Prelude.{◌≡◌, ℕ, List, [], ◌∷◌, take, map, Bool, true, false, Option, Some, None, if◌then◌else◌}
use Rattle.std.specs.List.{AllByRecursion}
use Rattle.formula_core.specs.declared.Formula.{Formula}
use Rattle.formula_core.specs.Formulas.{joined}
use Rattle.rule_table.specs.declared.kind.RuleKind.{RuleKind}
use Rattle.rule_table.specs.declared.kind.RuleKind.TheVariants as kind
use Rattle.rule_table.specs.declared.rule.Body.{Body}
use Rattle.rule_table.specs.declared.rule.Main.{Main}
use Rattle.rule_table.specs.Rows.{instance}
use Rattle.rule_table.specs.Rules.{antecedent_formulas}
use Rattle.instance_size.specs.declared.extent.Extent.{Extent}
use Rattle.instance_size.specs.Extents.{HasRoom}

-- whether a kind whose instances can grow needs a goal, and how many hypotheses it needs
abbrev pub needs_goal : RuleKind → Bool
needs_goal (kind.ExR terms) = true
needs_goal kind.EqGoal = true
needs_goal (kind.RwGoal law place) = true
needs_goal _ = false

abbrev pub hyp_count : RuleKind → ℕ
hyp_count (kind.AllL terms) = 1
hyp_count kind.EqGoal = 1
hyp_count kind.EqHyp = 2
hyp_count kind.FunIn = 1
hyp_count (kind.RwHyp law place) = 1
hyp_count _ = 0

-- the formulas of the antecedents
abbrev pub left_formulas : Body → List Formula
left_formulas b = joined (map antecedent_formulas b.antecedents)

-- what is made needs this goal and these hypotheses, and leaves a formula for which there is no room
abbrev pub LeavesTooLarge : Extent → Option Body → Option Formula → List Formula → Type 0
LeavesTooLarge room made goal hyps =
    (b : Body) × (made ≡ Some b) × (b.goal ≡ goal) × (b.hyps ≡ hyps) × (AllByRecursion (HasRoom room) (left_formulas b) → ⊥)

-- a kind has an instance for its main formulas, which leaves a formula for which there is no room
abbrev pub Outgrows : Extent → RuleKind → Main → Type 0
Outgrows room k m = LeavesTooLarge room (instance k m) (if needs_goal k then m.goal else None) (take (hyp_count k) m.hyps)
