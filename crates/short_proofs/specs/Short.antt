-- Short proofs.
use Rattle.std.specs.Prelude.{ℕ, ◌≤◌, Bool, true, false, ◌&&◌, IsTrue, ⊤}
use Rattle.std.specs.List.{list_all}
use Rattle.rule_table.specs.declared.kind.RuleKind.{RuleKind}
use Rattle.rule_table.specs.declared.kind.RuleKind.TheVariants as kind
use Rattle.sequent_core.specs.declared.sequent.Sequent.{Sequent}
use Rattle.sequent_core.specs.declared.tree.Tree.{Tree}
use Rattle.sequent_core.specs.declared.tree.Tree.TheOpen.{Tree-F, Leaf, Node}
use Rattle.sequent_core.specs.declared.tree.Tree.TheFolds.{fold-Tree}
use Rattle.sequent_core.specs.declared.prover.Attempt.{Attempt}
use Rattle.sequent_core.specs.declared.prover.Attempt.TheVariants.{Found}
use Rattle.sequent_core.specs.Trees.{Derives, node_count, rule_count}

-- allL, exR, cut and cases take a formula that the sequent doesn't give
abbrev pub takes_no_formula : RuleKind → Bool
takes_no_formula (kind.AllL terms) = false
takes_no_formula (kind.ExR terms) = false
takes_no_formula kind.Cut = false
takes_no_formula kind.Cases = false
takes_no_formula _ = true

abbrev pub is_plain_step : Tree-F Bool → Bool
is_plain_step Leaf = true
is_plain_step (Node r children) = takes_no_formula r.kind && list_all (λ plain. plain) children

-- whether no rule of the tree is allL, exR, cut or cases
abbrev pub is_plain_tree : Tree → Bool
is_plain_tree = fold-Tree Bool is_plain_step

-- a proof of at most 8 rules, none of which is allL, exR, cut or cases
pub record IsShortProof (tree : Tree) (s : Sequent) : Type 0 where
  pub derives : Derives tree s
  pub nodes : node_count tree ≤ 8
  pub rules : rule_count tree ≤ 8
  pub plain : IsTrue (is_plain_tree tree)

-- a short proof, if one was found
abbrev pub IsShortIfFound : Attempt → Sequent → Type 0
IsShortIfFound (Found tree) s = IsShortProof tree s
IsShortIfFound _ s = ⊤
