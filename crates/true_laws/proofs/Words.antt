-- What the formulas that laws speak of denote: equations by which both sides of a law are rewritten.
use Rattle.std.proofs.Common.{Bool, List, Some, [], ap, int_le, map, not, sym, true, ℕ, ◌&&◌, ◌∙◌, ◌∷◌, ◌≡◌}
use Rattle.formula_core.proofs.Weakening.{first_true, second_true}
use Rattle.formula_core.specs.Shifting.{shifted}
use Rattle.formula_core.specs.Types.{is_truth}
use Rattle.formula_core.specs.Wellness.{type_of}
use Rattle.formula_core.specs.declared.Binder.{Binder}
use Rattle.formula_core.specs.declared.Formula.{Formula}
use Rattle.formula_core.specs.declared.Formula.TheVariants.{Bind, Node}
use Rattle.formula_core.specs.declared.Op.{Op}
use Rattle.formula_core.specs.declared.Op.TheVariants as op
use Rattle.formula_core.specs.declared.Ty.{Ty}
use Rattle.formula_core.specs.declared.Ty.TheVariants as ty
use Rattle.well_defined.specs.Predicates.{at_most, conjunction, member}
use Rattle.rule_table.specs.Shapes.{equal, maplet, negation, subset}
use Rattle.meanings.specs.Denotations.{Assignment, denotation, of_binder}
use Rattle.meanings.specs.Operations.{contains, is_subset, member_sort, of_list, truth_value, whole_number}
use Rattle.meanings.specs.Universes.{Valuation, Universe, cast, casts}
use Rattle.meanings.specs.Values.{Sort, Denotation, Value, boolean_sort, integer_sort, pair_sort, power_sort, sort}
use Rattle.meanings.proofs.Casts.{cast_known, cast_own, casts_own}
use Rattle.meanings.proofs.Denotations.{Means, denotation-Bound, denotation-Int, sort-Bool, sort-Int, sort-Pair, sort-Pow, sort-Truth, sort_of}
use Rattle.meanings.proofs.Fitting.{IsWellIn, row_of_well}
use Rattle.meanings.proofs.Shifting.{denotation-below}
use Rattle.meanings.proofs.Truths.{at_binder, at_node}
use Rattle.meanings.proofs.Types.{truth_is}

-- a truth value, and a set, as what is denoted
abbrev pub truth : {carrier : List ℕ → Type 0} → Universe carrier → Bool → Denotation carrier
truth U b = (boolean_sort, b)

-- the types of a well negation
pub not_types : (p : Formula) (t : Ty) (types : List Ty) → IsWellIn (Node op.Not (p ∷ []) t) types
    → (type_of p ≡ ty.Truth) × (t ≡ ty.Truth)
not_types p t types h =
    let k : (is_truth (type_of p) && is_truth t) ≡ true = row_of_well op.Not (p ∷ []) t types h in
    (truth_is (type_of p) (first_true _ _ k), truth_is t (second_true (is_truth (type_of p)) _ k))

module _ {carrier : List ℕ → Type 0} (U : Universe carrier) (names : Valuation carrier) where
  abbrev M : Formula → Assignment U → Denotation carrier
  M = denotation U names

  abbrev M_all : List Formula → Assignment U → List (Denotation carrier)
  M_all ps σ = map (λ f. M f σ) ps

  pub of_predicate : (o : Op) (ps : List Formula) (σ : Assignment U)
      → M (Node o ps ty.Truth) σ ≡ truth U (of_list U o boolean_sort (M_all ps σ))
  of_predicate o ps σ = at_node U names o ps ty.Truth boolean_sort sort-Truth σ

  pub of_quantifier : (b : Binder) (own : List Ty) (ps : List Formula) (σ : Assignment U)
      → M (Bind b own ps ty.Truth) σ ≡ truth U (of_binder U b (map sort own) boolean_sort (map M ps) σ)
  of_quantifier b own ps σ = at_binder U names b own ps ty.Truth boolean_sort sort-Truth σ

  pub of_integer : (o : Op) (ps : List Formula) (σ : Assignment U)
      → M (Node o ps ty.Int) σ ≡ (integer_sort, of_list U o integer_sort (M_all ps σ))
  of_integer o ps σ = at_node U names o ps ty.Int integer_sort sort-Int σ

  pub of_boolean : (o : Op) (ps : List Formula) (σ : Assignment U)
      → M (Node o ps ty.Bool) σ ≡ truth U (of_list U o boolean_sort (M_all ps σ))
  of_boolean o ps σ = at_node U names o ps ty.Bool boolean_sort sort-Bool σ

  pub of_set : (o : Op) (ps : List Formula) (α : Ty) (σ : Assignment U)
      → M (Node o ps (ty.Pow α)) σ ≡ (power_sort (sort α), of_list U o (power_sort (sort α)) (M_all ps σ))
  of_set o ps α σ = at_node U names o ps (ty.Pow α) (power_sort (sort α)) (sort-Pow α) σ

  -- a value that is taken at its own sort
  pub own_to : (s : Sort) (v : Value carrier s) → (casts U s s).0 v ≡ v
  own_to s v = λ i. (casts_own U s).0 i v

  pub own_from : (s : Sort) (v : Value carrier s) → (casts U s s).1 v ≡ v
  own_from s v = λ i. (casts_own U s).1 i v

  -- what a pair means
  abbrev pub paired : Denotation carrier → Denotation carrier → Denotation carrier
  paired x y = (pair_sort x.0 y.0, (x.1, y.1))

  pub of_pair : (e f : Formula) (σ : Assignment U) → M (maplet e f) σ ≡ paired (M e σ) (M f σ)
  of_pair e f σ =
      let sorts = sort-Pair (type_of e) (type_of f)
      ∙ (λ i. pair_sort (sym (sort_of U names e σ) i) (sym (sort_of U names f σ) i)) in
      at_node U names op.Maplet (e ∷ f ∷ []) (ty.Pair (type_of e) (type_of f)) (pair_sort (M e σ).0 (M f σ).0) sorts σ
      ∙ simp (own_to)

  in_value : (e s : Formula) (σ : Assignment U) (S : Value carrier (power_sort (M e σ).0))
      → M s σ ≡ (power_sort (M e σ).0, S) → M (member e s) σ ≡ truth U (S (M e σ).1)
  in_value e s σ S is =
      of_predicate op.Member (e ∷ s ∷ []) σ ∙ (λ i. truth U (contains U (is i) (M e σ).0 (M e σ).1))
      ∙ (λ i. truth U (cast_own U (power_sort (M e σ).0) S i (M e σ).1))

  -- whether a value is in what an operator makes
  abbrev pub in_made : Op → List (Denotation carrier) → Denotation carrier → Denotation carrier
  in_made o parts x = truth U (of_list U o (power_sort x.0) parts x.1)

  pub of_membership : (e : Formula) (o : Op) (ps : List Formula) (σ : Assignment U)
      → M (member e (Node o ps (ty.Pow (type_of e)))) σ ≡ in_made o (M_all ps σ) (M e σ)
  of_membership e o ps σ =
      let sorts = sort-Pow (type_of e) ∙ ap power_sort (sym (sort_of U names e σ)) in
      in_value e (Node o ps (ty.Pow (type_of e))) σ _
      (at_node U names o ps (ty.Pow (type_of e)) (power_sort (M e σ).0) sorts σ)

  pub of_binding : (e : Formula) (b : Binder) (own : List Ty) (ps : List Formula) (σ : Assignment U)
      → M (member e (Bind b own ps (ty.Pow (type_of e)))) σ
      ≡ truth U (of_binder U b (map sort own) (power_sort (M e σ).0) (map M ps) σ (M e σ).1)
  of_binding e b own ps σ =
      let sorts = sort-Pow (type_of e) ∙ ap power_sort (sym (sort_of U names e σ)) in
      in_value e (Bind b own ps (ty.Pow (type_of e))) σ _
      (at_binder U names b own ps (ty.Pow (type_of e)) (power_sort (M e σ).0) sorts σ)

  -- below one new identifier, and below three
  pub of_below : (f : Formula) (x : Denotation carrier) (σ : Assignment U) → M (shifted 1 0 f) (x ∷ σ) ≡ M f σ
  of_below f x σ = denotation-below U names (x ∷ []) f σ

  pub of_below_three : (f : Formula) (x y z : Denotation carrier) (σ : Assignment U)
      → M (shifted 3 0 f) (x ∷ y ∷ z ∷ σ) ≡ M f σ
  of_below_three f x y z σ = denotation-below U names (x ∷ y ∷ z ∷ []) f σ

  pub ruleset nodes = (of_membership, of_binding, of_pair, of_predicate, of_quantifier, of_integer, of_boolean, of_set)

  pub ruleset leaves = (of_below, of_below_three, denotation-Bound, denotation-Int, sort-Pow, sort-Pair)

  pub ruleset words = (nodes, leaves, cast_own, own_to, own_from)

  -- the value of a formula whose sort is known
  pub with_value : {A : Type 0} → (f : Formula) (s : Sort) → sort (type_of f) ≡ s → (σ : Assignment U)
      → ((v : Value carrier s) → M f σ ≡ (s, v) → A) → A
  with_value f s is σ go = go (cast U s (M f σ)) (sym (cast_known U (M f σ) s (sort_of U names f σ ∙ is)))

  -- a law whose two sides mean the same in each scope
  pub same_values : {h left right g : Formula} → h ≡ left → Some right ≡ Some g
      → ((σ : Assignment U) → M right σ ≡ M left σ) → Means U names g ≡ Means U names h
  same_values {h} {left} {right} {g} is made value =
      let new : right ≡ g = cc in λ i σ. (ap (λ f. M f σ) (sym new) ∙ value σ ∙ ap (λ f. M f σ) (sym is)) i

  -- the sorts of a set's and a relation's value
  pub set_sort : (f : Formula) (α : Ty) → type_of f ≡ ty.Pow α → (σ : Assignment U) → (M f σ).0 ≡ power_sort (sort α)
  set_sort f α is σ = sort_of U names f σ ∙ ap sort is ∙ sort-Pow α

  pub relation_sort : (f : Formula) (α β : Ty) → type_of f ≡ ty.Pow (ty.Pair α β) → (σ : Assignment U)
      → (M f σ).0 ≡ power_sort (pair_sort (sort α) (sort β))
  relation_sort f α β is σ = set_sort f (ty.Pair α β) is σ ∙ ap power_sort (sort-Pair α β)

  -- predicates of parts whose values are known
  pub at_most_means : (e f : Formula) (σ : Assignment U)
      → M (at_most e f) σ ≡ truth U (int_le (whole_number U (M e σ)) (whole_number U (M f σ)))
  at_most_means e f σ = of_predicate op.LessOrEqual (e ∷ f ∷ []) σ

  pub and_value : (p q : Formula) (σ : Assignment U) {x y : Bool} → M p σ ≡ truth U x → M q σ ≡ truth U y
      → M (conjunction p q) σ ≡ truth U (x && y)
  and_value p q σ p_is q_is =
      of_predicate op.And (p ∷ q ∷ []) σ ∙ (λ i. truth U (truth_value U (p_is i) && truth_value U (q_is i)))

  pub not_value : (p : Formula) (σ : Assignment U) {x : Bool} → M p σ ≡ truth U x → M (negation p) σ ≡ truth U (not x)
  not_value p σ p_is = of_predicate op.Not (p ∷ []) σ ∙ (λ i. truth U (not (truth_value U (p_is i))))

  pub equal_value : (e f : Formula) (σ : Assignment U) (s : Sort) (x : Value carrier s) → M e σ ≡ (s, x)
      → M (equal e f) σ ≡ truth U (U.same s x (cast U s (M f σ)))
  equal_value e f σ s x e_is =
      of_predicate op.Equal (e ∷ f ∷ []) σ ∙ (λ i. truth U (U.same (e_is i).0 (e_is i).1 (cast U (e_is i).0 (M f σ))))

  pub same_value : (e f : Formula) (σ : Assignment U) (s : Sort) (x y : Value carrier s) → M e σ ≡ (s, x)
      → M f σ ≡ (s, y)
      → M (equal e f) σ ≡ truth U (U.same s x y)
  same_value e f σ s x y e_is f_is =
      equal_value e f σ s x e_is ∙ (λ i. truth U (U.same s x (cast U s (f_is i))))
      ∙ (λ i. truth U (U.same s x (cast_own U s y i)))

  pub subset_value : (e f : Formula) (σ : Assignment U) (a : Sort) (A : Value carrier a → Bool)
      → M e σ ≡ (power_sort a, A)
      → M (subset e f) σ ≡ truth U (is_subset U a A (contains U (M f σ) a))
  subset_value e f σ a A e_is =
      of_predicate op.Subset (e ∷ f ∷ []) σ
      ∙ (λ i. truth U (let b = member_sort (e_is i).0 in is_subset U b (contains U (e_is i) b) (contains U (M f σ) b)))
      ∙ (λ i. truth U (is_subset U a (cast_own U (power_sort a) A i) (contains U (M f σ) a)))

  pub part_value : (e f : Formula) (σ : Assignment U) (a : Sort) (A B : Value carrier a → Bool)
      → M e σ ≡ (power_sort a, A)
      → M f σ ≡ (power_sort a, B) → M (subset e f) σ ≡ truth U (is_subset U a A B)
  part_value e f σ a A B e_is f_is =
      subset_value e f σ a A e_is ∙ (λ i. truth U (is_subset U a A (contains U (f_is i) a)))
      ∙ (λ i. truth U (is_subset U a A (cast_own U (power_sort a) B i)))
