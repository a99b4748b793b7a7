-- How many obligations a table has, and the empty project, which may be built.
use Rattle.std.proofs.Common.{◌≡◌, sym, subst, ℕ, ◌+◌, ◌≤◌, map, sum, List, [], ◌∷◌, length, arith}
use Rattle.std.specs.FinMap.{empty}
use Rattle.std.proofs.lemmas.List.Sums.{sum_by-cons}
use Rattle.formula_core.specs.declared.Formula.{Formula}
use Rattle.formula_core.specs.declared.formula.Formula.TheOpen.{Formula-F, Int, Free, Bound, Node, Bind}
use Rattle.formula_core.specs.declared.formula.Formula.TheFolds.{fold_out-Formula}
use Rattle.formula_core.specs.Sizes.{formula_nodes_step, formula_nodes}
use Rattle.sequent_core.specs.declared.Obligation.{Obligation}
use Rattle.core_steps.specs.Durable.{text_cmp, IsBuildable}
use Rattle.core_steps.proofs.NameMaps.{entries-empty}
use Rattle.po_rules.specs.Gathering.{nodes_of, table_nodes, table_limit}

step_within : (part : Formula-F ℕ) → 1 ≤ formula_nodes_step part
step_within (Int n) = omega arith
step_within (Free name ty) = omega arith
step_within (Bound at ty) = omega arith
step_within (Node op parts ty) = omega arith
step_within (Bind binder types parts ty) = omega arith

-- a formula has a node
some_nodes : (f : Formula) → 1 ≤ formula_nodes f
some_nodes f = subst (λ n. 1 ≤ n) (sym (fold_out-Formula ℕ formula_nodes_step f)) (step_within _)

-- a table has at most as many obligations as nodes
length_within : (table : List Obligation) → length table ≤ table_nodes table
length_within [] = omega arith
length_within (o ∷ table) =
    let more : table_nodes (o ∷ table) ≡ (sum (map formula_nodes o.sequent.hyps) + formula_nodes o.sequent.goal) + table_nodes table =
    sum_by-cons (λ n. n) (nodes_of o) (map nodes_of table) in
    omega (arith, more, some_nodes o.sequent.goal, length_within table)

-- a table within the limit has few obligations
pub table_within : (table : List Obligation) → table_nodes table ≤ table_limit → length table ≤ 8388608
table_within table within = omega (arith, length_within table, within)

-- the empty project may be built
pub empty_buildable : IsBuildable (empty {X = List ℕ} {R = text_cmp})
empty_buildable = rw (entries-empty {X = List ℕ}) tt
