-- Trees on larger sequents.
use Rattle.std.specs.Prelude.{◌≡◌, ℕ, List, [], ◌++◌, map, None, Contains}
use Rattle.std.specs.List.{AllByRecursion}
use Rattle.formula_core.specs.declared.Formula.{Formula}
use Rattle.formula_core.specs.declared.Ty.{Ty}
use Rattle.formula_core.specs.Env.{type_in}
use Rattle.formula_core.specs.Formulas.{joined}
use Rattle.formula_core.specs.Typed.{Stands}
use Rattle.rule_table.specs.declared.rule.Antecedent.{Antecedent}
use Rattle.sequent_core.specs.declared.sequent.Sequent.{Sequent}
use Rattle.sequent_core.specs.declared.tree.Tree.{Tree}
use Rattle.sequent_core.specs.declared.tree.Tree.TheOpen.{Tree-F, Leaf, Node}
use Rattle.sequent_core.specs.declared.tree.Tree.TheFolds.{fold-Tree}

-- the names that an antecedent adds
abbrev pub introduced_names : Antecedent → List (List ℕ)
introduced_names a = map (λ x. x.0) a.idents

abbrev pub introduced_step : Tree-F (List (List ℕ)) → List (List ℕ)
introduced_step Leaf = []
introduced_step (Node r children) = joined (map introduced_names r.antecedents) ++ joined children

-- the names that the rules of a tree introduce
abbrev pub introduced : Tree → List (List ℕ)
introduced = fold-Tree (List (List ℕ)) introduced_step

-- of these names, those that are new in the first environment are new in the second
abbrev pub AreNewStill : List (List ℕ × Ty) → List (List ℕ × Ty) → List (List ℕ) → Type 0
AreNewStill env larger names = AllByRecursion (λ n. type_in env n ≡ None → type_in larger n ≡ None) names

-- The larger sequent has the same goal and, among others, the same hypotheses and the same names with their types; of
-- the given names, it has no more.
pub record IsLarger (names : List (List ℕ)) (s : Sequent) (larger : Sequent) : Type 0 where
  pub goal : s.goal ≡ larger.goal
  pub hyps : (f : Formula) → Contains s.hyps f → Contains larger.hyps f
  pub env : (x : List ℕ × Ty) → Stands s.env x → Stands larger.env x
  pub new : AreNewStill s.env larger.env names
