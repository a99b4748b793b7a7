-- What the search finds of formulas that are said to be true or false.
use Rattle.std.specs.Prelude.{◌≤◌, ℕ, ◌+◌, ◌*◌, ◌^◌, List, map, if◌then◌else◌}
use Rattle.std.specs.List.{AllByRecursion}
use Rattle.formula_core.specs.declared.Formula.{Formula}
use Rattle.formula_core.specs.declared.Ty.{Ty}
use Rattle.rule_table.specs.Shapes.{negation}
use Rattle.sequent_core.specs.declared.tree.Tree.{Tree}
use Rattle.case_trees.specs.PrivateProofs.{IsPredicateWithin, Refutes}
use Rattle.case_proofs.specs.declared.search.Outcome.{Outcome}
use Rattle.case_proofs.specs.declared.search.Outcome.TheVariants.{Closed, Open}
use Rattle.case_proofs.specs.PrivateWays.{Signed, IsSatisfiable}

-- the formula itself, or its negation
abbrev pub formula_of : Signed → Formula
formula_of x = if x.1 then x.0 else negation x.0

-- predicates of the environment, of half the size that a rule allows
abbrev pub AreHalfSize : List (List ℕ × Ty) → List Signed → Type 0
AreHalfSize env hyps = AllByRecursion (λ x. IsPredicateWithin env 32768 2048 x.0) hyps

abbrev pub AreHalfSizeSomewhere : List Signed → Type 0
AreHalfSizeSomewhere hyps = (env : List (List ℕ × Ty)) × AreHalfSize env hyps

-- a tree that refutes them, of at most 10 · 2^fuel − 8 rules
pub record IsRefutation (env : List (List ℕ × Ty)) (hyps : List Signed) (fuel : ℕ) (tree : Tree) : Type 0 where
  pub size : ℕ
  pub few : size + 8 ≤ 10 * 2 ^ fuel
  pub refutes : Refutes env (map formula_of hyps) size tree

-- Closed: the tree refutes them, in each environment of which they are predicates. Open: a reading makes them all so.
abbrev pub IsOutcome : List Signed → ℕ → Outcome → Type 0
IsOutcome hyps fuel (Closed tree) = (env : List (List ℕ × Ty)) → AreHalfSize env hyps → IsRefutation env hyps fuel tree
IsOutcome hyps fuel Open = IsSatisfiable hyps
