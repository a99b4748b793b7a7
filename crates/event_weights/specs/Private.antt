-- The bytes of proofs, counted part by part, and the nodes of a bound name.
use Rattle.std.specs.Prelude.{ℕ, ◌+◌, ◌*◌, List, length, sum, map, Option, Some, None}
use Rattle.formula_core.specs.declared.Ty.{Ty}
use Rattle.formula_core.specs.declared.Ty.TheOpen.{Ty-F, Int as IntegerT, Bool as BooleanT, Given, Pow, Pair, Truth}
use Rattle.formula_core.specs.declared.Ty.TheFolds.{fold-Ty}
use Rattle.formula_core.specs.declared.Formula.{Formula}
use Rattle.formula_core.specs.declared.Formula.TheOpen.{Formula-F, Int, Free, Bound, Node as Operation, Bind}
use Rattle.formula_core.specs.declared.Formula.TheFolds.{fold-Formula}
use Rattle.formula_core.specs.declared.raw.Raw.TheFolds.{fold-RawBound}
use Rattle.formula_core.specs.declared.raw.RawBound.{RawBound}
use Rattle.rule_table.specs.declared.kind.RuleKind.{RuleKind}
use Rattle.rule_table.specs.declared.kind.RuleKind.TheVariants as kind
use Rattle.rule_table.specs.declared.rule.Antecedent.{Antecedent}
use Rattle.rule_table.specs.declared.rule.Rule.{Rule}
use Rattle.sequent_core.specs.declared.tree.Tree.{Tree}
use Rattle.sequent_core.specs.declared.tree.Tree.TheOpen.{Tree-F, Leaf, Node}
use Rattle.sequent_core.specs.declared.tree.Tree.TheFolds.{fold-Tree}
use Rattle.event_weights.specs.Weights.{raw_nodes_step, bound_nodes_step}

abbrev pub type_size_step : Ty-F ℕ → ℕ
type_size_step IntegerT = 1
type_size_step BooleanT = 1
type_size_step (Given name) = length name + 5
type_size_step (Pow part) = part + 1
type_size_step (Pair left right) = left + right + 1
type_size_step Truth = 1

-- of a type
abbrev pub type_size : Ty → ℕ
type_size = fold-Ty ℕ type_size_step

abbrev pub formula_size_step : Formula-F ℕ → ℕ
formula_size_step (Int n) = 17
formula_size_step (Free name ty) = length name + type_size ty + 5
formula_size_step (Bound at ty) = type_size ty + 5
formula_size_step (Operation op parts ty) = sum parts + type_size ty + 6
formula_size_step (Bind binder types parts ty) = sum (map type_size types) + sum parts + type_size ty + 10

-- of a formula
abbrev pub formula_size : Formula → ℕ
formula_size = fold-Formula ℕ formula_size_step

-- of an identifier with its type
abbrev pub identifier_size : List ℕ × Ty → ℕ
identifier_size x = length x.0 + type_size x.1 + 4

-- of a goal, if there is one
abbrev pub goal_size : Option Formula → ℕ
goal_size None = 1
goal_size (Some goal) = formula_size goal + 1

-- of an antecedent
abbrev pub antecedent_size : Antecedent → ℕ
antecedent_size a = sum (map identifier_size a.idents) + sum (map formula_size a.hyps) + goal_size a.goal + 8

-- of a kind of rule
abbrev pub kind_size : RuleKind → ℕ
kind_size (kind.AllL terms) = sum (map formula_size terms) + 5
kind_size (kind.ExR terms) = sum (map formula_size terms) + 5
kind_size (kind.RwGoal law place) = 4 * length place + 6
kind_size (kind.RwHyp law place) = 4 * length place + 6
kind_size (kind.Linear multipliers) = 16 * length multipliers + 5
kind_size k = 1

-- of a rule
abbrev pub rule_size : Rule → ℕ
rule_size r =
    kind_size r.kind + goal_size r.needed_goal + sum (map formula_size r.needed_hyps) + sum (map identifier_size r.used)
    + sum (map antecedent_size r.antecedents) + 12

abbrev pub tree_size_step : Tree-F ℕ → ℕ
tree_size_step Leaf = 1
tree_size_step (Node r children) = rule_size r + sum children + 5

-- of a tree
abbrev pub tree_size : Tree → ℕ
tree_size = fold-Tree ℕ tree_size_step

-- the nodes of a name that a formula binds, with its type where that is written
abbrev pub bound_nodes : RawBound → ℕ
bound_nodes = fold-RawBound ℕ ℕ raw_nodes_step bound_nodes_step
