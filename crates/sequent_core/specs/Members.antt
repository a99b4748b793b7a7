-- How many members the lists of a proof have together, the bytes of its names among them.
use Rattle.std.specs.Prelude.{ℕ, ◌+◌, List, [], ◌∷◌, length, map, Option, Some, None}
use Rattle.formula_core.specs.declared.Ty.{Ty}
use Rattle.formula_core.specs.declared.Ty.TheOpen.{Ty-F, Int as Integer, Bool as Boolean, Given, Pow, Pair, Truth}
use Rattle.formula_core.specs.declared.Ty.TheFolds.{fold-Ty}
use Rattle.formula_core.specs.declared.Formula.{Formula}
use Rattle.formula_core.specs.declared.Formula.TheOpen.{Formula-F, Int, Free, Bound, Node as Operation, Bind}
use Rattle.formula_core.specs.declared.Formula.TheFolds.{fold-Formula}
use Rattle.rule_table.specs.declared.kind.RuleKind.{RuleKind}
use Rattle.rule_table.specs.declared.rule.Antecedent.{Antecedent}
use Rattle.rule_table.specs.declared.rule.Rule.{Rule}
use Rattle.rule_table.specs.Parts.{place_in, multipliers_in}
use Rattle.rule_table.specs.Rules.{terms_of}
use Rattle.sequent_core.specs.declared.tree.Tree.{Tree}
use Rattle.sequent_core.specs.declared.tree.Tree.TheOpen.{Tree-F, Leaf, Node}
use Rattle.sequent_core.specs.declared.tree.Tree.TheFolds.{fold-Tree}
use Rattle.sequent_core.specs.declared.prover.Attempt.{Attempt}
use Rattle.sequent_core.specs.declared.prover.Attempt.TheVariants.{Found, NoProof, NoMemory}

-- a list whose members have these numbers in them: each counts one, and what it has
abbrev pub counted : List ℕ → ℕ
counted [] = 0
counted (n ∷ ns) = n + 1 + counted ns

abbrev pub type_members_step : Ty-F ℕ → ℕ
type_members_step Integer = 0
type_members_step Boolean = 0
type_members_step (Given name) = length name
type_members_step (Pow part) = part
type_members_step (Pair left right) = left + right
type_members_step Truth = 0

-- those of a type: the bytes of its carrier sets
abbrev pub type_members : Ty → ℕ
type_members = fold-Ty ℕ type_members_step

abbrev pub formula_members_step : Formula-F ℕ → ℕ
formula_members_step (Int n) = 0
formula_members_step (Free name ty) = length name + type_members ty
formula_members_step (Bound at ty) = type_members ty
formula_members_step (Operation op parts ty) = counted parts + type_members ty
formula_members_step (Bind binder types parts ty) = counted (map type_members types) + counted parts + type_members ty

-- those of a formula
abbrev pub formula_members : Formula → ℕ
formula_members = fold-Formula ℕ formula_members_step

-- those of an identifier with its type
abbrev pub identifier_members : List ℕ × Ty → ℕ
identifier_members x = length x.0 + type_members x.1

-- those of a goal, if there is one
abbrev pub goal_members : Option Formula → ℕ
goal_members None = 0
goal_members (Some goal) = formula_members goal

-- those of an antecedent
abbrev pub antecedent_members : Antecedent → ℕ
antecedent_members a = counted (map identifier_members a.idents) + counted (map formula_members a.hyps) + goal_members a.goal

-- those of a kind of rule: its terms, its place and its multipliers
abbrev pub kind_members : RuleKind → ℕ
kind_members k = counted (map formula_members (terms_of k)) + length (place_in k) + length (multipliers_in k)

-- those of a rule
abbrev pub rule_members : Rule → ℕ
rule_members r = kind_members r.kind + goal_members r.needed_goal + counted (map formula_members r.needed_hyps) + counted (map identifier_members r.used) + counted (map antecedent_members r.antecedents)

abbrev pub tree_members_step : Tree-F ℕ → ℕ
tree_members_step Leaf = 0
tree_members_step (Node r children) = rule_members r + counted children

-- those of a tree
abbrev pub tree_members : Tree → ℕ
tree_members = fold-Tree ℕ tree_members_step

-- those of what a prover answers
abbrev pub members_of : Attempt → ℕ
members_of (Found tree) = tree_members tree
members_of NoProof = 0
members_of NoMemory = 0
