-- The truth of each form of predicate.
use Rattle.std.proofs.Common.{Bool, List, [], ap, false, map, not, true, ℕ, ◌&&◌, ◌||◌, ◌∙◌, ◌∷◌, ◌≡◌}
use Rattle.formula_core.specs.declared.Binder.{Binder}
use Rattle.formula_core.specs.declared.Binder.TheVariants as binder
use Rattle.formula_core.specs.declared.Formula.{Formula}
use Rattle.formula_core.specs.declared.Formula.TheVariants.{Bind, Node}
use Rattle.formula_core.specs.declared.Op.{Op}
use Rattle.formula_core.specs.declared.Op.TheVariants as op
use Rattle.formula_core.specs.declared.Ty.{Ty}
use Rattle.formula_core.specs.declared.Ty.TheVariants as ty
use Rattle.meanings.specs.Denotations.{Assignment, denotation, of_binder}
use Rattle.meanings.specs.Operations.{equivalent, contains, implies, of_list, truth_value}
use Rattle.meanings.specs.Universes.{Valuation, Universe, every_of, some_of}
use Rattle.meanings.specs.Values.{Sort, boolean_sort, sort}
use Rattle.meanings.proofs.Denotations.{denotation-Bind, denotation-Node, sort-Truth}

module _ {carrier : List ℕ → Type 0} (U : Universe carrier) (names : Valuation carrier) where
  pub at_node : (o : Op) (parts : List Formula) (t : Ty) (s : Sort) → sort t ≡ s → (σ : Assignment U)
      → denotation U names (Node o parts t) σ ≡ (s, of_list U o s (map (λ f. denotation U names f σ) parts))
  at_node o parts t s e σ = denotation-Node U names o parts t σ ∙ (λ i. (e i, of_list U o (e i) (map (λ f. denotation U names f σ) parts)))

  pub at_binder : (b : Binder) (own : List Ty) (parts : List Formula) (t : Ty) (s : Sort) → sort t ≡ s → (σ : Assignment U)
      → denotation U names (Bind b own parts t) σ ≡ (s, of_binder U b (map sort own) s (map (denotation U names) parts) σ)
  at_binder b own parts t s e σ = denotation-Bind U names b own parts t σ ∙ (λ i. (e i, of_binder U b (map sort own) (e i) (map (denotation U names) parts) σ))

  -- the truth of a formula in a scope
  abbrev pub true_in : Formula → Assignment U → Bool
  true_in f σ = truth_value U (denotation U names f σ)

  module _ (t : Ty) (e : t ≡ ty.Truth) (σ : Assignment U) where
    pub is_truth : sort t ≡ boolean_sort
    is_truth = ap sort e ∙ sort-Truth

    pub true-Not : (p : Formula) → true_in (Node op.Not (p ∷ []) t) σ ≡ not (true_in p σ)
    true-Not p = ap (truth_value U) (at_node op.Not (p ∷ []) t boolean_sort is_truth σ)

    pub true-And : (p q : Formula) → true_in (Node op.And (p ∷ q ∷ []) t) σ ≡ (true_in p σ && true_in q σ)
    true-And p q = ap (truth_value U) (at_node op.And (p ∷ q ∷ []) t boolean_sort is_truth σ)

    pub true-Or : (p q : Formula) → true_in (Node op.Or (p ∷ q ∷ []) t) σ ≡ (true_in p σ || true_in q σ)
    true-Or p q = ap (truth_value U) (at_node op.Or (p ∷ q ∷ []) t boolean_sort is_truth σ)

    pub true-Implies : (p q : Formula) → true_in (Node op.Implies (p ∷ q ∷ []) t) σ ≡ implies (true_in p σ) (true_in q σ)
    true-Implies p q = ap (truth_value U) (at_node op.Implies (p ∷ q ∷ []) t boolean_sort is_truth σ)

    pub true-Equivalent : (p q : Formula) → true_in (Node op.Equivalent (p ∷ q ∷ []) t) σ ≡ equivalent (true_in p σ) (true_in q σ)
    true-Equivalent p q = ap (truth_value U) (at_node op.Equivalent (p ∷ q ∷ []) t boolean_sort is_truth σ)

    pub true-Bottom : true_in (Node op.Bottom [] t) σ ≡ false
    true-Bottom = ap (truth_value U) (at_node op.Bottom [] t boolean_sort is_truth σ)

    pub true-Top : true_in (Node op.Top [] t) σ ≡ true
    true-Top = ap (truth_value U) (at_node op.Top [] t boolean_sort is_truth σ)

    pub true-Member : (f g : Formula) → true_in (Node op.Member (f ∷ g ∷ []) t) σ ≡ contains U (denotation U names g σ) (denotation U names f σ).0 (denotation U names f σ).1
    true-Member f g = ap (truth_value U) (at_node op.Member (f ∷ g ∷ []) t boolean_sort is_truth σ)

    pub true-ForAll : (own : List Ty) (p : Formula) → true_in (Bind binder.ForAll own (p ∷ []) t) σ ≡ every_of U (map sort own) σ (true_in p)
    true-ForAll own p = ap (truth_value U) (at_binder binder.ForAll own (p ∷ []) t boolean_sort is_truth σ)

    pub true-Exists : (own : List Ty) (p : Formula) → true_in (Bind binder.Exists own (p ∷ []) t) σ ≡ some_of U (map sort own) σ (true_in p)
    true-Exists own p = ap (truth_value U) (at_binder binder.Exists own (p ∷ []) t boolean_sort is_truth σ)
