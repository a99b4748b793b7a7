-- Where its operands denote the same in both universes, the condition of an operator is true in both or in neither.
use Rattle.std.proofs.Common.{List, None, Option, Some, [], ap, false, map, pos, refl, reverse, slice_get, subst, sym, true, ℕ, ◌&&◌, ◌++◌, ◌∙◌, ◌∷◌, ◌≡◌}
use Rattle.std.specs.List.{AllByRecursion}
use Rattle.std.specs.Option.{option_map_or}
use Rattle.formula_core.proofs.Types.{same_type_exact, type_induction}
use Rattle.formula_core.proofs.Weakening.{both_true, first_true, second_true}
use Rattle.formula_core.proofs.WholeSets.{whole_set-Bool, whole_set-Given, whole_set-Int, whole_set-Pair, whole_set-Pow, whole_set-Truth, whole_set_type}
use Rattle.formula_core.specs.Rows.{row_of}
use Rattle.formula_core.specs.Shifting.{shifted}
use Rattle.formula_core.specs.TypeTable.{binder_fits, row_fits}
use Rattle.formula_core.specs.Types.{is_value_type, relation, same_type}
use Rattle.formula_core.specs.Wellness.{type_of}
use Rattle.formula_core.specs.WholeSets.{whole_set}
use Rattle.formula_core.specs.declared.Binder.{Binder}
use Rattle.formula_core.specs.declared.Binder.TheVariants as binder
use Rattle.formula_core.specs.declared.Formula.{Formula}
use Rattle.formula_core.specs.declared.Formula.TheVariants.{Bound, Node}
use Rattle.formula_core.specs.declared.Op.{Op}
use Rattle.formula_core.specs.declared.Op.TheVariants as op
use Rattle.formula_core.specs.declared.Ty.{Ty}
use Rattle.formula_core.specs.declared.Ty.TheVariants as ty
use Rattle.well_defined.proofs.Types.{truth}
use Rattle.well_defined.specs.Conditions.{own_condition}
use Rattle.well_defined.specs.Predicates.{at_most, bound_b, bound_x, bounded, conjunction, domain, implication, less, member, not_empty, partial_functions, predicate, quantified, top, unequal, zero}
use Rattle.meanings.specs.Denotations.{Assignment, denotation}
use Rattle.meanings.specs.Operations.{of_list, truth_value}
use Rattle.meanings.specs.Universes.{Universe, Valuation}
use Rattle.meanings.specs.Values.{Denotation, Sort, boolean_sort, integer_sort, power_sort, sort}
use Rattle.meanings.proofs.Denotations.{denotation-Bind, denotation-Bound, denotation-Free, denotation-Int, denotation-Node, sort-Bool, sort-Int, sort-Pow, sort-Truth, sort_of}
use Rattle.meanings.proofs.Quantifiers.{sorts_are}
use Rattle.meanings.proofs.Shifting.{denotation-below}
use Rattle.meanings.proofs.Truths.{true_in}
use Rattle.meanings.proofs.Types.{relation_is}
use Rattle.defined_meanings.proofs.Binders.{one_part}
use Rattle.defined_meanings.proofs.Conditions.{index_is}
use Rattle.defined_meanings.proofs.Operators.{HasValue, values_same}
use Rattle.defined_meanings.proofs.Sorts.{SortsFit, of_relation, sorts_fit}
use Rattle.defined_meanings.proofs.Universes.{truth_both}

module _ {carrier : List ℕ → Type 0} (U V : Universe carrier) (names : Valuation carrier) where
  abbrev M : Formula → Assignment U → Denotation carrier
  M = denotation U names

  abbrev N : Formula → Assignment U → Denotation carrier
  N = denotation V names

  abbrev pub Alike : Formula → Assignment U → Type 0
  Alike f σ = M f σ ≡ N f σ

  node_alike : (o : Op) (parts : List Formula) (t : Ty) (σ : Assignment U) → SortsFit (row_of o) (map (λ x. x.0) (map (λ f. M f σ) parts)) (sort t)
      → HasValue U o (map (λ f. M f σ) parts) → map (λ f. M f σ) parts ≡ map (λ f. N f σ) parts → Alike (Node o parts t) σ
  node_alike o parts t σ sorts has same =
      denotation-Node U names o parts t σ
      ∙ (λ i. (sort t, (values_same U V o (sort t) (map (λ f. M f σ) parts) sorts has ∙ (λ i. of_list V o (sort t) (same i))) i))
      ∙ sym (denotation-Node V names o parts t σ)

  node_sort : (o : Op) (parts : List Formula) (t : Ty) (σ : Assignment U) → (M (Node o parts t) σ).0 ≡ sort t
  node_sort o parts t σ = ap (λ x. x.0) (denotation-Node U names o parts t σ)

  claim_sort : (o : Op) (parts : List Formula) (σ : Assignment U) → (M (predicate o parts) σ).0 ≡ boolean_sort
  claim_sort o parts σ = node_sort o parts ty.Truth σ ∙ sort-Truth

  -- a claim that denotes the same is true in both or in neither
  told : (o : Op) (parts : List Formula) (σ : Assignment U) → Alike (predicate o parts) σ → true_in U names (predicate o parts) σ ≡ true_in V names (predicate o parts) σ
  told o parts σ h = truth_both U V (M (predicate o parts) σ) (claim_sort o parts σ) ∙ ap (truth_value V) h

  two : (p q : Formula) (σ : Assignment U) → Alike p σ → Alike q σ → map (λ f. M f σ) (p ∷ q ∷ []) ≡ map (λ f. N f σ) (p ∷ q ∷ [])
  two p q σ h k = λ i. h i ∷ k i ∷ []

  and_alike : (p q : Formula) (σ : Assignment U) → (M p σ).0 ≡ boolean_sort → (M q σ).0 ≡ boolean_sort → Alike p σ → Alike q σ → Alike (conjunction p q) σ
  and_alike p q σ e f h k = node_alike op.And (p ∷ q ∷ []) ty.Truth σ (e, f, sort-Truth) tt (two p q σ h k)

  implies_alike : (p q : Formula) (σ : Assignment U) → (M p σ).0 ≡ boolean_sort → (M q σ).0 ≡ boolean_sort → Alike p σ → Alike q σ → Alike (implication p q) σ
  implies_alike p q σ e f h k = node_alike op.Implies (p ∷ q ∷ []) ty.Truth σ (e, f, sort-Truth) tt (two p q σ h k)

  at_most_alike : (p q : Formula) (σ : Assignment U) → (M p σ).0 ≡ integer_sort → (M q σ).0 ≡ integer_sort → Alike p σ → Alike q σ → Alike (at_most p q) σ
  at_most_alike p q σ e f h k = node_alike op.LessOrEqual (p ∷ q ∷ []) ty.Truth σ (e, f, sort-Truth) tt (two p q σ h k)

  less_alike : (p q : Formula) (σ : Assignment U) → (M p σ).0 ≡ integer_sort → (M q σ).0 ≡ integer_sort → Alike p σ → Alike q σ → Alike (less p q) σ
  less_alike p q σ e f h k = node_alike op.Less (p ∷ q ∷ []) ty.Truth σ (e, f, sort-Truth) tt (two p q σ h k)

  member_alike : (e s : Formula) (σ : Assignment U) → (M s σ).0 ≡ power_sort (M e σ).0 → Alike e σ → Alike s σ → Alike (member e s) σ
  member_alike e s σ is h k = node_alike op.Member (e ∷ s ∷ []) ty.Truth σ (is, sort-Truth) tt (two e s σ h k)

  unequal_alike : (e f : Formula) (σ : Assignment U) → (M f σ).0 ≡ (M e σ).0 → Alike e σ → Alike f σ → Alike (unequal e f) σ
  unequal_alike e f σ is h k =
      let same : Alike (predicate op.Equal (e ∷ f ∷ [])) σ = node_alike op.Equal (e ∷ f ∷ []) ty.Truth σ (is, sort-Truth) tt (two e f σ h k) in
      node_alike op.Not (predicate op.Equal (e ∷ f ∷ []) ∷ []) ty.Truth σ (claim_sort op.Equal (e ∷ f ∷ []) σ, sort-Truth) tt (λ i. same i ∷ [])

  not_empty_alike : (s : Formula) (a : Sort) (σ : Assignment U) → sort (type_of s) ≡ power_sort a → Alike s σ → Alike (not_empty s) σ
  not_empty_alike s a σ is h =
      unequal_alike s (Node op.EmptySet [] (type_of s)) σ (node_sort op.EmptySet [] (type_of s) σ ∙ sym (sort_of U names s σ)) h
      (node_alike op.EmptySet [] (type_of s) σ (a, is) tt refl)

  zero_alike : (σ : Assignment U) → Alike zero σ
  zero_alike σ = denotation-Int U names (pos 0) σ ∙ sym (denotation-Int V names (pos 0) σ)

  zero_sort : (σ : Assignment U) → (M zero σ).0 ≡ integer_sort
  zero_sort σ = ap (λ x. x.0) (denotation-Int U names (pos 0) σ)

  pub quantified_alike : (b : Binder) (own : List Ty) (p : Formula) (σ : Assignment U) → binder_fits b (ty.Truth ∷ []) ty.Truth ≡ true
      → ((τ : Assignment U) → (M p τ).0 ≡ boolean_sort) → ((es : Assignment U) → sorts_are U es ≡ map sort own → Alike p (reverse es ++ σ)) → Alike (quantified b own p) σ
  quantified_alike b own p σ fits p_sort same =
      denotation-Bind U names b own (p ∷ []) ty.Truth σ
      ∙ (λ i. (sort ty.Truth, one_part U V (map sort own) σ (M p) (N p) p_sort same b ty.Truth ty.Truth fits i))
      ∙ sym (denotation-Bind V names b own (p ∷ []) ty.Truth σ)

  pub quantified_sort : (b : Binder) (own : List Ty) (p : Formula) (σ : Assignment U) → (M (quantified b own p) σ).0 ≡ boolean_sort
  quantified_sort b own p σ = ap (λ x. x.0) (denotation-Bind U names b own (p ∷ []) ty.Truth σ) ∙ sort-Truth

  -- the same for each integer
  at_one : (p : Formula) (σ : Assignment U) → ((x : Denotation carrier) → x.0 ≡ sort ty.Int → Alike p (x ∷ σ))
      → (es : Assignment U) → sorts_are U es ≡ map sort (ty.Int ∷ []) → Alike p (reverse es ++ σ)
  at_one p σ h [] e = absurd cc
  at_one p σ h (x ∷ []) e = let first : x.0 ≡ sort ty.Int = cc in h x first
  at_one p σ h (x ∷ y ∷ es) e = absurd cc

  truths_fit : binder_fits binder.ForAll (ty.Truth ∷ []) ty.Truth ≡ true
  truths_fit = both_true _ _ truth truth

  index_sort : (k : ℕ) (τ : Assignment U) → (M (Bound k ty.Int) τ).0 ≡ integer_sort
  index_sort k τ = ap (λ y. y.0) (denotation-Bound U names k ty.Int τ) ∙ sort-Int

  index_alike : (k : ℕ) (τ : Assignment U) (x : Denotation carrier) → slice_get τ k ≡ Some x → x.0 ≡ sort ty.Int → Alike (Bound k ty.Int) τ
  index_alike k τ x e f = index_is U names k ty.Int τ x e f ∙ sym (index_is V names k ty.Int τ x e f)

  module _ (s : Formula) (σ : Assignment U) (is : (M s σ).0 ≡ power_sort integer_sort) (same : Alike s σ) where
    bounded_alike : (p : Formula) → ((τ : Assignment U) → (M p τ).0 ≡ boolean_sort)
        → ((x b : Denotation carrier) → x.0 ≡ sort ty.Int → b.0 ≡ sort ty.Int → Alike p (x ∷ b ∷ σ)) → Alike (bounded s p) σ
    bounded_alike p p_sort p_same =
        quantified_alike binder.Exists (ty.Int ∷ []) (quantified binder.ForAll (ty.Int ∷ []) body) σ truths_fit (quantified_sort binder.ForAll (ty.Int ∷ []) body)
        (at_one (quantified binder.ForAll (ty.Int ∷ []) body) σ (λ b eb.
        quantified_alike binder.ForAll (ty.Int ∷ []) body (b ∷ σ) truths_fit (claim_sort op.Implies (within ∷ p ∷ []))
        (at_one body (b ∷ σ) (λ x ex. implies_alike within p (x ∷ b ∷ σ) (claim_sort op.Member (bound_x ∷ shifted 2 0 s ∷ []) (x ∷ b ∷ σ)) (p_sort (x ∷ b ∷ σ))
        (within_alike x b ex) (p_same x b ex eb)))))
      where
        within : Formula
        within = member bound_x (shifted 2 0 s)

        body : Formula
        body = implication (member bound_x (shifted 2 0 s)) p

        within_alike : (x b : Denotation carrier) → x.0 ≡ sort ty.Int → Alike (member bound_x (shifted 2 0 s)) (x ∷ b ∷ σ)
        within_alike x b ex =
            let τ : Assignment U = x ∷ b ∷ σ in
            let below = denotation-below U names (x ∷ b ∷ []) s σ in
            member_alike bound_x (shifted 2 0 s) τ (ap (λ y. y.0) below ∙ is ∙ ap power_sort (sym (index_sort 0 τ))) (index_alike 0 τ x refl ex)
            (below ∙ same ∙ sym (denotation-below V names (x ∷ b ∷ []) s σ))

    least_alike : Alike (bounded s (at_most bound_b bound_x)) σ
    least_alike =
        bounded_alike (at_most bound_b bound_x) (claim_sort op.LessOrEqual (bound_b ∷ bound_x ∷ [])) (λ x b ex eb. let τ : Assignment U = x ∷ b ∷ σ in
        at_most_alike bound_b bound_x τ (index_sort 1 τ) (index_sort 0 τ) (index_alike 1 τ b refl eb) (index_alike 0 τ x refl ex))

    greatest_alike : Alike (bounded s (at_most bound_x bound_b)) σ
    greatest_alike =
        bounded_alike (at_most bound_x bound_b) (claim_sort op.LessOrEqual (bound_x ∷ bound_b ∷ [])) (λ x b ex eb. let τ : Assignment U = x ∷ b ∷ σ in
        at_most_alike bound_x bound_b τ (index_sort 0 τ) (index_sort 1 τ) (index_alike 0 τ x refl ex) (index_alike 1 τ b refl eb))

  -- the whole set of a type
  whole_sort : (t : Ty) (σ : Assignment U) → (M (whole_set t) σ).0 ≡ power_sort (sort t)
  whole_sort t σ = sort_of U names (whole_set t) σ ∙ ap sort (whole_set_type t) ∙ sort-Pow t

  abbrev IsAlike : Formula → Type 0
  IsAlike f = (σ : Assignment U) → Alike f σ

  whole_alike : (t : Ty) → IsAlike (whole_set t)
  whole_alike = type_induction (λ t. IsAlike (whole_set t))
      (subst IsAlike (sym whole_set-Int) (λ σ. node_alike op.Integers [] (ty.Pow ty.Int) σ (sort-Pow ty.Int ∙ ap power_sort sort-Int) tt refl))
      (subst IsAlike (sym whole_set-Bool) (λ σ. node_alike op.Booleans [] (ty.Pow ty.Bool) σ (sort-Pow ty.Bool ∙ ap power_sort sort-Bool) tt refl))
      (λ name. subst IsAlike (sym (whole_set-Given name)) (λ σ. denotation-Free U names name (ty.Pow (ty.Given name)) σ ∙ sym (denotation-Free V names name (ty.Pow (ty.Given name)) σ)))
      (λ t h. subst IsAlike (sym (whole_set-Pow t)) (λ σ.
      node_alike op.PowerSet (whole_set t ∷ []) (ty.Pow (ty.Pow t)) σ (sort t, whole_sort t σ, sort-Pow (ty.Pow t) ∙ ap power_sort (sort-Pow t)) tt (λ i. h σ i ∷ [])))
      (λ t u h k. subst IsAlike (sym (whole_set-Pair t u)) (λ σ.
      node_alike op.Product (whole_set t ∷ whole_set u ∷ []) (ty.Pow (ty.Pair t u)) σ (sort t, sort u, whole_sort t σ, whole_sort u σ, of_relation (ty.Pow (ty.Pair t u)) t u refl) tt
      (two (whole_set t) (whole_set u) σ (h σ) (k σ))))
      (subst IsAlike (sym whole_set-Truth) (λ σ. node_alike op.EmptySet [] (ty.Pow ty.Truth) σ (sort ty.Truth, sort-Pow ty.Truth) tt refl))

  module _ (f e : Formula) (α β : Ty) (σ : Assignment U) (f_type : type_of f ≡ ty.Pow (ty.Pair α β)) (e_type : type_of e ≡ α) (h : Alike f σ) (k : Alike e σ) where
    in_domain_alike : Alike (member e (domain f α)) σ
    in_domain_alike =
        member_alike e (domain f α) σ (node_sort op.Domain (f ∷ []) (ty.Pow α) σ ∙ sort-Pow α ∙ ap power_sort (ap sort (sym e_type) ∙ sym (sort_of U names e σ))) k
        (node_alike op.Domain (f ∷ []) (ty.Pow α) σ (sort α, sort β, sort_of U names f σ ∙ of_relation (type_of f) α β f_type, sort-Pow α) tt (λ i. h i ∷ []))

    is_function_alike : Alike (member f (partial_functions α β)) σ
    is_function_alike =
        let functions : Ty = ty.Pow (ty.Pow (ty.Pair α β)) in
        member_alike f (partial_functions α β) σ
        (node_sort op.PartialFunctions (whole_set α ∷ whole_set β ∷ []) functions σ ∙ sort-Pow (ty.Pow (ty.Pair α β)) ∙ ap power_sort (ap sort (sym f_type) ∙ sym (sort_of U names f σ))) h
        (node_alike op.PartialFunctions (whole_set α ∷ whole_set β ∷ []) functions σ
        (sort α, sort β, whole_sort α σ, whole_sort β σ, sort-Pow (ty.Pow (ty.Pair α β)) ∙ ap power_sort (of_relation (ty.Pow (ty.Pair α β)) α β refl)) tt
        (two (whole_set α) (whole_set β) σ (whole_alike α σ) (whole_alike β σ)))

  abbrev SameTruth : Formula → Assignment U → Type 0
  SameTruth p σ = true_in U names p σ ≡ true_in V names p σ

  top_told : (σ : Assignment U) → SameTruth top σ
  top_told σ = told op.Top [] σ (node_alike op.Top [] ty.Truth σ sort-Truth tt refl)

  and_told : (o r : Op) (p q : List Formula) (σ : Assignment U) → Alike (predicate o p) σ → Alike (predicate r q) σ → SameTruth (conjunction (predicate o p) (predicate r q)) σ
  and_told o r p q σ h k = told op.And (predicate o p ∷ predicate r q ∷ []) σ (and_alike (predicate o p) (predicate r q) σ (claim_sort o p σ) (claim_sort r q σ) h k)

  applied_told : (f e : Formula) (t : Ty) (o : Option (Ty × Ty)) (σ : Assignment U) → relation (type_of f) ≡ o
      → option_map_or (λ r. same_type (type_of e) r.0 && same_type t r.1) o false ≡ true → Alike f σ → Alike e σ
      → SameTruth (option_map_or (λ r. conjunction (member e (domain f r.0)) (member f (partial_functions r.0 r.1))) o top) σ
  applied_told f e t None σ is fits h k = absurd cc
  applied_told f e t (Some r) σ is fits h k =
      let f_type = relation_is (type_of f) r is in let e_type : type_of e ≡ r.0 = same_type_exact (type_of e) r.0 (first_true _ _ fits) in
      and_told op.Member op.Member (e ∷ domain f r.0 ∷ []) (f ∷ partial_functions r.0 r.1 ∷ []) σ
      (in_domain_alike f e r.0 r.1 σ f_type e_type h k) (is_function_alike f e r.0 r.1 σ f_type e_type h k)

  unary_told : (o : Op) (s : Formula) (t : Ty) (σ : Assignment U) → row_fits (row_of o) (type_of s ∷ []) t ≡ true → Alike s σ → SameTruth (own_condition o (s ∷ [])) σ
  unary_told op.Cardinality s t σ fits h =
      let k = sorts_fit (row_of op.Cardinality) (type_of s ∷ []) t fits in
      told op.Finite (s ∷ []) σ (node_alike op.Finite (s ∷ []) ty.Truth σ (k.0, sort_of U names s σ ∙ k.1, sort-Truth) tt (λ i. h i ∷ []))
  unary_told op.Minimum s t σ fits h =
      let k = sorts_fit (row_of op.Minimum) (type_of s ∷ []) t fits in
      told op.And (not_empty s ∷ bounded s (at_most bound_b bound_x) ∷ []) σ
      (and_alike (not_empty s) (bounded s (at_most bound_b bound_x)) σ (claim_sort op.Not _ σ) (quantified_sort binder.Exists _ _ σ)
      (not_empty_alike s integer_sort σ k.0 h) (least_alike s σ (sort_of U names s σ ∙ k.0) h))
  unary_told op.Maximum s t σ fits h =
      let k = sorts_fit (row_of op.Maximum) (type_of s ∷ []) t fits in
      told op.And (not_empty s ∷ bounded s (at_most bound_x bound_b) ∷ []) σ
      (and_alike (not_empty s) (bounded s (at_most bound_x bound_b)) σ (claim_sort op.Not _ σ) (quantified_sort binder.Exists _ _ σ)
      (not_empty_alike s integer_sort σ k.0 h) (greatest_alike s σ (sort_of U names s σ ∙ k.0) h))
  unary_told op.GeneralIntersection s t σ fits h =
      let k = sorts_fit (row_of op.GeneralIntersection) (type_of s ∷ []) t fits in
      told op.Not _ σ (not_empty_alike s (power_sort k.0) σ k.1 h)
  unary_told _ s t σ fits h = top_told σ

  binary_told : (o : Op) (e f : Formula) (t : Ty) (σ : Assignment U) → row_fits (row_of o) (type_of e ∷ type_of f ∷ []) t ≡ true → Alike e σ → Alike f σ
      → SameTruth (own_condition o (e ∷ f ∷ [])) σ
  binary_told op.Divide e f t σ fits h k =
      let m = sorts_fit (row_of op.Divide) (type_of e ∷ type_of f ∷ []) t fits in
      told op.Not (predicate op.Equal (f ∷ zero ∷ []) ∷ []) σ (unequal_alike f zero σ (zero_sort σ ∙ sym (sort_of U names f σ ∙ m.1)) k (zero_alike σ))
  binary_told op.Modulo e f t σ fits h k =
      let m = sorts_fit (row_of op.Modulo) (type_of e ∷ type_of f ∷ []) t fits in
      and_told op.LessOrEqual op.Less (zero ∷ e ∷ []) (zero ∷ f ∷ []) σ
      (at_most_alike zero e σ (zero_sort σ) (sort_of U names e σ ∙ m.0) (zero_alike σ) h) (less_alike zero f σ (zero_sort σ) (sort_of U names f σ ∙ m.1) (zero_alike σ) k)
  binary_told op.Power e f t σ fits h k =
      let m = sorts_fit (row_of op.Power) (type_of e ∷ type_of f ∷ []) t fits in
      and_told op.LessOrEqual op.LessOrEqual (zero ∷ e ∷ []) (zero ∷ f ∷ []) σ
      (at_most_alike zero e σ (zero_sort σ) (sort_of U names e σ ∙ m.0) (zero_alike σ) h) (at_most_alike zero f σ (zero_sort σ) (sort_of U names f σ ∙ m.1) (zero_alike σ) k)
  binary_told op.Apply e f t σ fits h k = applied_told e f t (relation (type_of e)) σ refl (second_true (is_value_type (type_of e)) _ fits) h k
  binary_told _ e f t σ fits h k = top_told σ

  -- as many operands as a row has
  pub own_told : (o : Op) (parts : List Formula) (t : Ty) (σ : Assignment U) → row_fits (row_of o) (map type_of parts) t ≡ true → AllByRecursion (λ p. Alike p σ) parts
      → SameTruth (own_condition o parts) σ
  own_told o [] t σ fits each = top_told σ
  own_told o (s ∷ []) t σ fits each = unary_told o s t σ fits each.0
  own_told o (e ∷ f ∷ []) t σ fits each = binary_told o e f t σ fits each.0 each.1.0
  own_told o (p ∷ q ∷ r ∷ parts) t σ fits each = top_told σ
