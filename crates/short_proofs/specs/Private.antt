-- What only private contracts cite.
use Rattle.std.specs.Prelude.{ℕ, ℤ, pos, negsuc, List, [], ◌∷◌, Option, Some, None, ◌==◌, if◌then◌else◌}
use Rattle.std.specs.Option.{option_map_or}
use Rattle.formula_core.specs.declared.Op.TheVariants as op
use Rattle.formula_core.specs.declared.Formula.{Formula}
use Rattle.well_defined.specs.Predicates.{top}
use Rattle.rule_table.specs.declared.kind.RuleKind.TheVariants as kind
use Rattle.rule_table.specs.Rows.{adds, backward, both, forward, proves}
use Rattle.rule_table.specs.Rules.{rule_of}
use Rattle.sequent_core.specs.declared.tree.Tree.{Tree}
use Rattle.sequent_core.specs.declared.tree.Tree.TheVariants.{Node}
use Rattle.short_proofs.specs.Sure.{is_linear_step, natural_in}

-- the number of the law by which a formula is read as a comparison, or 0
abbrev pub law_of_reading : Formula → ℕ
law_of_reading f = option_map_or (λ e. 61) (natural_in op.Naturals f) (option_map_or (λ e. 62) (natural_in op.PositiveNaturals f) 0)

-- the proof of ⊤
abbrev pub truth : Tree
truth = Node (rule_of kind.Top (backward top [])) []

-- the tree of a linear step, if it is one
abbrev pub linear_tree : List ℤ → List Formula → Formula → Tree
linear_tree ks hyps g = Node (rule_of (kind.Linear ks) (both g hyps [])) []

abbrev pub linear_tree_if : List ℤ → List Formula → Formula → Option Tree
linear_tree_if ks hyps g = if is_linear_step ks hyps g then Some (linear_tree ks hyps g) else None

-- the tree of a linear step in which a formula is used with the multiplier 1, or else with −1
abbrev pub either_tree_if : Formula → Formula → Option Tree
either_tree_if f g =
    if is_linear_step (pos 1 ∷ []) (f ∷ []) g then Some (linear_tree (pos 1 ∷ []) (f ∷ []) g) else linear_tree_if (negsuc 0 ∷ []) (f ∷ []) g

-- a tree below the law by which the goal f, or the hypothesis f, is read as g; the law 0 is none
abbrev pub below_goal : ℕ → Formula → Formula → Tree → Tree
below_goal law f g tree = if law == 0 then tree else Node (rule_of (kind.RwGoal law []) (backward f (proves g ∷ []))) (tree ∷ [])

abbrev pub below_hyp : ℕ → Formula → Formula → Tree → Tree
below_hyp law f g tree = if law == 0 then tree else Node (rule_of (kind.RwHyp law []) (forward (f ∷ []) (adds (g ∷ []) ∷ []))) (tree ∷ [])
