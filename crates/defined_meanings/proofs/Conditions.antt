-- Where the condition of an operator is true, it has a value.
use Rattle.std.proofs.Common.{Bool, List, None, Option, Some, [], ap, false, int_le, int_lt, map, not, pos, refl, slice_get, sym, true, ℕ, ℤ, ◌&&◌, ◌∙◌, ◌∷◌, ◌≡◌}
use Rattle.std.proofs.lemmas.Bool.Decides.{Decides-int_eq}
use Rattle.std.specs.Option.{option_map_or}
use Rattle.std.specs.Ordering.{int_eq}
use Rattle.formula_core.proofs.Types.{same_type_exact}
use Rattle.formula_core.proofs.Weakening.{first_true, second_true}
use Rattle.formula_core.specs.Rows.{row_of}
use Rattle.formula_core.specs.Shifting.{shifted}
use Rattle.formula_core.specs.TypeTable.{row_fits}
use Rattle.formula_core.specs.Types.{is_value_type, relation, same_type}
use Rattle.formula_core.specs.Wellness.{type_of}
use Rattle.formula_core.specs.WholeSets.{whole_set}
use Rattle.formula_core.specs.declared.Binder.TheVariants as binder
use Rattle.formula_core.specs.declared.Formula.{Formula}
use Rattle.formula_core.specs.declared.Formula.TheVariants.{Bound, Node}
use Rattle.formula_core.specs.declared.Op.{Op}
use Rattle.formula_core.specs.declared.Op.TheVariants as op
use Rattle.formula_core.specs.declared.Ty.{Ty}
use Rattle.formula_core.specs.declared.Ty.TheVariants as ty
use Rattle.well_defined.specs.Conditions.{own_condition}
use Rattle.well_defined.specs.Predicates.{at_most, bound_b, bound_x, bounded, conjunction, domain, finite, implication, less, member, not_empty, partial_functions, predicate, quantified, top, unequal, zero}
use Rattle.meanings.specs.Denotations.{Assignment, bound_value, denotation}
use Rattle.meanings.specs.Operations.{contains, has_at_most, implies, is_between, is_finite, is_single_valued, member_sort, of_list, relates, to_sort, truth_value, whole_number}
use Rattle.meanings.specs.Universes.{Universe, Valuation, cast, every, some}
use Rattle.meanings.specs.Values.{Denotation, Sort, Value, boolean_sort, integer_sort, pair_sort, power_sort, sort}
use Rattle.meanings.proofs.Bools.{implied_to}
use Rattle.meanings.proofs.Casts.{cast_known, cast_own}
use Rattle.meanings.proofs.Denotations.{denotation-Bound, denotation-Int, sort-Int, sort-Pow, sort-Truth, sort_of}
use Rattle.meanings.proofs.Equalities.{equation_holds}
use Rattle.meanings.proofs.Quantifiers.{every_tells, some_holds}
use Rattle.meanings.proofs.Shifting.{denotation-below}
use Rattle.meanings.proofs.Truths.{at_node, true-And, true-Exists, true-ForAll, true-Implies, true-Member, true-Not, true_in}
use Rattle.meanings.proofs.Types.{relation_is}
use Rattle.defined_meanings.proofs.LeastNumbers.{greatest_exists, is_greatest, is_least, least_exists}
use Rattle.defined_meanings.proofs.Operators.{HasValue}
use Rattle.defined_meanings.proofs.Sorts.{of_relation, sorts_fit}
use Rattle.defined_meanings.proofs.Universes.{relation_sort}

module _ {carrier : List ℕ → Type 0} (U : Universe carrier) (names : Valuation carrier) where
  abbrev M : Formula → Assignment U → Denotation carrier
  M = denotation U names

  abbrev T : Formula → Assignment U → Bool
  T = true_in U names

  -- an index denotes the value that it stands for
  pub index_is : (k : ℕ) (t : Ty) (τ : Assignment U) (x : Denotation carrier) → slice_get τ k ≡ Some x → x.0 ≡ sort t → M (Bound k t) τ ≡ x
  index_is k t τ x e f = denotation-Bound U names k t τ ∙ (λ i. (sort t, bound_value U (sort t) (e i))) ∙ cast_known U x (sort t) f

  member_is : (e s : Formula) (τ : Assignment U) → T (member e s) τ ≡ contains U (M s τ) (M e τ).0 (M e τ).1
  member_is e s τ = true-Member U names ty.Truth refl τ e s

  at_most_is : (e f : Formula) (τ : Assignment U) → T (at_most e f) τ ≡ int_le (whole_number U (M e τ)) (whole_number U (M f τ))
  at_most_is e f τ = ap (truth_value U) (at_node U names op.LessOrEqual (e ∷ f ∷ []) ty.Truth boolean_sort sort-Truth τ)

  less_is : (e f : Formula) (τ : Assignment U) → T (less e f) τ ≡ int_lt (whole_number U (M e τ)) (whole_number U (M f τ))
  less_is e f τ = ap (truth_value U) (at_node U names op.Less (e ∷ f ∷ []) ty.Truth boolean_sort sort-Truth τ)

  unequal_tells : (e f : Formula) (τ : Assignment U) → T (unequal e f) τ ≡ true → M e τ ≡ M f τ → ⊥
  unequal_tells e f τ h same =
      let equal = predicate op.Equal (e ∷ f ∷ []) in
      let k : not (T equal τ) ≡ true = sym (true-Not U names ty.Truth refl τ equal) ∙ h in
      let l : false ≡ true = sym (ap not (equation_holds U names ty.Truth refl τ e f same)) ∙ k in absurd cc

  module _ (σ : Assignment U) where
    -- sets of integers
    module _ (s : Formula) (is : (M s σ).0 ≡ power_sort integer_sort) (type : sort (type_of s) ≡ power_sort integer_sort) where
      abbrev set : ℤ → Bool
      set = contains U (M s σ) integer_sort

      has_member : T (not_empty s) σ ≡ true → some U integer_sort set ≡ true
      has_member h = go (some U integer_sort set) refl
        where
          go : (c : Bool) → some U integer_sort set ≡ c → some U integer_sort set ≡ true
          go true e = e
          go false e =
              absurd (unequal_tells s (Node op.EmptySet [] (type_of s)) σ h
              (sym (cast_known U (M s σ) (power_sort integer_sort) is) ∙ (λ i. (power_sort integer_sort, λ v. none v (set v) refl i))
              ∙ sym (at_node U names op.EmptySet [] (type_of s) (power_sort integer_sort) type σ)))
            where
              none : (v : ℤ) (c : Bool) → set v ≡ c → set v ≡ false
              none v true f = let k : true ≡ false = sym (some_holds U integer_sort set v f) ∙ e in absurd cc
              none v false f = f

      -- what a bound says of each member
      abbrev body : Formula → Formula
      body p = implication (member bound_x (shifted 2 0 s)) p

      module _ (p : Formula) (h : T (bounded s p) σ ≡ true) where
        abbrev bound : Denotation carrier
        bound = (sort ty.Int, U.choose (sort ty.Int) (λ v. T (quantified binder.ForAll (ty.Int ∷ []) (body p)) ((sort ty.Int, v) ∷ σ)))

        all_within : T (quantified binder.ForAll (ty.Int ∷ []) (body p)) (bound ∷ σ) ≡ true
        all_within = sym (true-Exists U names ty.Truth refl σ (ty.Int ∷ []) (quantified binder.ForAll (ty.Int ∷ []) (body p))) ∙ h

        each_within : (n : ℤ) → set n ≡ true → T p ((integer_sort, n) ∷ bound ∷ σ) ≡ true
        each_within n m =
            let x : Denotation carrier = (integer_sort, n) in
            let τ : Assignment U = x ∷ bound ∷ σ in
            let every_one = sym (true-ForAll U names ty.Truth refl (bound ∷ σ) (ty.Int ∷ []) (body p)) ∙ all_within in
            let at_n : T (body p) ((sort ty.Int, cast U (sort ty.Int) x) ∷ bound ∷ σ) ≡ true =
            every_tells U (sort ty.Int) (λ v. T (body p) ((sort ty.Int, v) ∷ bound ∷ σ)) every_one (cast U (sort ty.Int) x) in
            let here : T (body p) τ ≡ true = ap (λ y. T (body p) (y ∷ bound ∷ σ)) (sym (cast_known U x (sort ty.Int) (sym sort-Int))) ∙ at_n in
            let x_is : M bound_x τ ≡ x = index_is 0 ty.Int τ x refl (sym sort-Int) in
            let s_is : M (shifted 2 0 s) τ ≡ M s σ = denotation-below U names (x ∷ bound ∷ []) s σ in
            let in_set : T (member bound_x (shifted 2 0 s)) τ ≡ true =
            member_is bound_x (shifted 2 0 s) τ ∙ (λ i. contains U (s_is i) (x_is i).0 (x_is i).1) ∙ m in
            implied_to (T (member bound_x (shifted 2 0 s)) τ) (T p τ) (sym (true-Implies U names ty.Truth refl τ (member bound_x (shifted 2 0 s)) p) ∙ here) in_set

        both_are : (n : ℤ) → (M bound_b ((integer_sort, n) ∷ bound ∷ σ) ≡ bound) × (M bound_x ((integer_sort, n) ∷ bound ∷ σ) ≡ (integer_sort, n))
        both_are n =
            let x : Denotation carrier = (integer_sort, n) in
            (index_is 1 ty.Int (x ∷ bound ∷ σ) bound refl refl, index_is 0 ty.Int (x ∷ bound ∷ σ) x refl (sym sort-Int))

      has_least : T (conjunction (not_empty s) (bounded s (at_most bound_b bound_x))) σ ≡ true → (m : ℤ) × (is_least U set m ≡ true)
      has_least h =
          let k = sym (true-And U names ty.Truth refl σ (not_empty s) (bounded s (at_most bound_b bound_x))) ∙ h in
          let l = second_true (T (not_empty s) σ) _ k in
          let p : Formula = at_most bound_b bound_x in
          least_exists U set (whole_number U (bound p l)) (λ n m. let are = both_are p l n in
          (λ i. int_le (whole_number U (sym are.0 i)) (whole_number U (sym are.1 i))) ∙ sym (at_most_is bound_b bound_x ((integer_sort, n) ∷ bound p l ∷ σ)) ∙ each_within p l n m)
          (U.choose integer_sort set) (has_member (first_true _ _ k))

      has_greatest : T (conjunction (not_empty s) (bounded s (at_most bound_x bound_b))) σ ≡ true → (m : ℤ) × (is_greatest U set m ≡ true)
      has_greatest h =
          let k = sym (true-And U names ty.Truth refl σ (not_empty s) (bounded s (at_most bound_x bound_b))) ∙ h in
          let l = second_true (T (not_empty s) σ) _ k in
          let p : Formula = at_most bound_x bound_b in
          greatest_exists U set (whole_number U (bound p l)) (λ n m. let are = both_are p l n in
          (λ i. int_le (whole_number U (sym are.1 i)) (whole_number U (sym are.0 i))) ∙ sym (at_most_is bound_x bound_b ((integer_sort, n) ∷ bound p l ∷ σ)) ∙ each_within p l n m)
          (U.choose integer_sort set) (has_member (first_true _ _ k))

    has_cardinality : (s : Formula) → T (finite s) σ ≡ true → HasValue U op.Cardinality (M s σ ∷ [])
    has_cardinality s h =
        let x : Denotation carrier = M s σ in let a = member_sort x.0 in
        let test : ℤ → Bool = has_at_most U a (contains U x a) in
        let some_is : is_finite U a (contains U x a) ≡ true = sym (ap (truth_value U) (at_node U names op.Finite (s ∷ []) ty.Truth boolean_sort sort-Truth σ)) ∙ h in
        least_exists U test (pos 0) (λ n m. first_true (int_le (pos 0) n) _ m) (U.choose integer_sort test) some_is

    zero_is : whole_number U (M zero σ) ≡ pos 0
    zero_is = ap (whole_number U) (denotation-Int U names (pos 0) σ)

    not_zero : (f : Formula) → (M f σ).0 ≡ integer_sort → T (unequal f zero) σ ≡ true → int_eq (whole_number U (M f σ)) (pos 0) ≡ false
    not_zero f is h = go (int_eq (whole_number U (M f σ)) (pos 0)) refl
      where
        go : (c : Bool) → int_eq (whole_number U (M f σ)) (pos 0) ≡ c → int_eq (whole_number U (M f σ)) (pos 0) ≡ false
        go true e =
            absurd (unequal_tells f zero σ h
            (sym (cast_known U (M f σ) integer_sort is) ∙ (λ i. (integer_sort, (Decides-int_eq (whole_number U (M f σ)) (pos 0)).0 e i)) ∙ sym (denotation-Int U names (pos 0) σ)))
        go false e = e

    not_negative : (e : Formula) → T (at_most zero e) σ ≡ true → int_le (pos 0) (whole_number U (M e σ)) ≡ true
    not_negative e h = (λ i. int_le (sym zero_is i) (whole_number U (M e σ))) ∙ sym (at_most_is zero e σ) ∙ h

    positive : (e : Formula) → T (less zero e) σ ≡ true → int_lt (pos 0) (whole_number U (M e σ)) ≡ true
    positive e h = (λ i. int_lt (sym zero_is i) (whole_number U (M e σ))) ∙ sym (less_is zero e σ) ∙ h

    -- a function, and an argument in its domain
    module _ (f e : Formula) (α β : Ty) (f_type : type_of f ≡ ty.Pow (ty.Pair α β)) (e_type : type_of e ≡ α) where
      abbrev x : Denotation carrier
      x = M f σ

      abbrev y : Denotation carrier
      y = M e σ

      abbrev b : Sort
      b = to_sort x.0

      x_sort : x.0 ≡ relation_sort (sort α) (sort β)
      x_sort = sort_of U names f σ ∙ of_relation (type_of f) α β f_type

      y_sort : sort α ≡ y.0
      y_sort = ap sort (sym e_type) ∙ sym (sort_of U names e σ)

      b_sort : sort β ≡ b
      b_sort = ap to_sort (sym x_sort)

      pair_is : sort (ty.Pow (ty.Pair α β)) ≡ relation_sort y.0 b
      pair_is = of_relation (ty.Pow (ty.Pair α β)) α β refl ∙ (λ i. relation_sort (y_sort i) (b_sort i))

      in_domain : T (member e (domain f α)) σ ≡ true → some U b (relates U x y.0 b y.1) ≡ true
      in_domain h =
          let made : Value carrier (power_sort y.0) = of_list U op.Domain (power_sort y.0) (x ∷ []) in
          let set_is : M (domain f α) σ ≡ (power_sort y.0, made) = at_node U names op.Domain (f ∷ []) (ty.Pow α) (power_sort y.0) (sort-Pow α ∙ ap power_sort y_sort) σ in
          (λ i. sym (cast_own U (power_sort y.0) made) i y.1) ∙ (λ i. contains U (sym set_is i) y.0 y.1) ∙ sym (member_is e (domain f α) σ) ∙ h

      single : T (member f (partial_functions α β)) σ ≡ true → (v w : Value carrier b) → relates U x y.0 b y.1 v ≡ true → relates U x y.0 b y.1 w ≡ true → v ≡ w
      single h v w v_in w_in =
          let r : Sort = relation_sort y.0 b in
          let from : Denotation carrier = M (whole_set α) σ in let to : Denotation carrier = M (whole_set β) σ in
          let made : Value carrier (power_sort r) = of_list U op.PartialFunctions (power_sort r) (from ∷ to ∷ []) in
          let set_is : M (partial_functions α β) σ ≡ (power_sort r, made) =
          at_node U names op.PartialFunctions (whole_set α ∷ whole_set β ∷ []) (ty.Pow (ty.Pow (ty.Pair α β))) (power_sort r) (sort-Pow (ty.Pow (ty.Pair α β)) ∙ ap power_sort pair_is) σ in
          let g : Value carrier (pair_sort y.0 b) → Bool = cast U r x in
          let x_is : (r, g) ≡ x = cast_known U x r (sort_of U names f σ ∙ ap sort f_type ∙ pair_is) in
          let in_made : (is_between U y.0 b from to g && is_single_valued U y.0 b g) ≡ true =
          (λ i. sym (cast_own U (power_sort r) made) i g) ∙ (λ i. contains U (sym set_is i) (x_is i).0 (x_is i).1) ∙ sym (member_is f (partial_functions α β) σ) ∙ h in
          let one = second_true (is_between U y.0 b from to g) _ in_made in
          let at_y = every_tells U y.0 (λ x. every U b (λ y. every U b (λ z. implies (g (x, y) && g (x, z)) (U.same b y z)))) one y.1 in
          let at_v = every_tells U b (λ v. every U b (λ z. implies (g (y.1, v) && g (y.1, z)) (U.same b v z))) at_y v in
          let at_w = every_tells U b (λ z. implies (g (y.1, v) && g (y.1, z)) (U.same b v z)) at_v w in
          (U.same_exact b v w).0 (implied_to (g (y.1, v) && g (y.1, w)) (U.same b v w) at_w ((λ i. v_in i && g (y.1, w)) ∙ w_in))

    applied : (f e : Formula) (t : Ty) (o : Option (Ty × Ty)) → relation (type_of f) ≡ o → option_map_or (λ r. same_type (type_of e) r.0 && same_type t r.1) o false ≡ true
        → T (option_map_or (λ r. conjunction (member e (domain f r.0)) (member f (partial_functions r.0 r.1))) o top) σ ≡ true → HasValue U op.Apply (M f σ ∷ M e σ ∷ [])
    applied f e t None is fits h = absurd cc
    applied f e t (Some r) is fits h =
        let f_type = relation_is (type_of f) r is in let e_type : type_of e ≡ r.0 = same_type_exact (type_of e) r.0 (first_true _ _ fits) in
        let k = sym (true-And U names ty.Truth refl σ (member e (domain f r.0)) (member f (partial_functions r.0 r.1))) ∙ h in
        (in_domain f e r.0 r.1 f_type e_type (first_true _ _ k), single f e r.0 r.1 f_type e_type (second_true (T (member e (domain f r.0)) σ) _ k))

    unary_has : (o : Op) (s : Formula) (t : Ty) → row_fits (row_of o) (type_of s ∷ []) t ≡ true → T (own_condition o (s ∷ [])) σ ≡ true → HasValue U o (M s σ ∷ [])
    unary_has op.Cardinality s t fits h = has_cardinality s h
    unary_has op.Minimum s t fits h = let is = (sorts_fit (row_of op.Minimum) (type_of s ∷ []) t fits).0 in has_least s (sort_of U names s σ ∙ is) is h
    unary_has op.Maximum s t fits h = let is = (sorts_fit (row_of op.Maximum) (type_of s ∷ []) t fits).0 in has_greatest s (sort_of U names s σ ∙ is) is h
    unary_has _ s t fits h = tt

    binary_has : (o : Op) (e f : Formula) (t : Ty) → row_fits (row_of o) (type_of e ∷ type_of f ∷ []) t ≡ true → T (own_condition o (e ∷ f ∷ [])) σ ≡ true
        → HasValue U o (M e σ ∷ M f σ ∷ [])
    binary_has op.Divide e f t fits h = not_zero f (sort_of U names f σ ∙ (sorts_fit (row_of op.Divide) (type_of e ∷ type_of f ∷ []) t fits).1) h
    binary_has op.Modulo e f t fits h =
        let k = sym (true-And U names ty.Truth refl σ (at_most zero e) (less zero f)) ∙ h in
        (not_negative e (first_true _ _ k), positive f (second_true (T (at_most zero e) σ) _ k))
    binary_has op.Power e f t fits h =
        let k = sym (true-And U names ty.Truth refl σ (at_most zero e) (at_most zero f)) ∙ h in
        (not_negative e (first_true _ _ k), not_negative f (second_true (T (at_most zero e) σ) _ k))
    binary_has op.Apply e f t fits h = applied e f t (relation (type_of e)) refl (second_true (is_value_type (type_of e)) _ fits) h
    binary_has _ e f t fits h = tt

    pub value_exists : (o : Op) (parts : List Formula) (t : Ty) → row_fits (row_of o) (map type_of parts) t ≡ true → T (own_condition o parts) σ ≡ true
        → HasValue U o (map (λ f. M f σ) parts)
    value_exists o [] t fits h = none_has o
      where
        none_has : (o : Op) → HasValue U o []
        none_has op.Top = tt
        none_has _ = tt
    value_exists o (s ∷ []) t fits h = unary_has o s t fits h
    value_exists o (e ∷ f ∷ []) t fits h = binary_has o e f t fits h
    value_exists o (p ∷ q ∷ r ∷ parts) t fits h = many_have o (M p σ) (M q σ) (M r σ) (map (λ f. M f σ) parts)
      where
        many_have : (o : Op) (x y z : Denotation carrier) (xs : List (Denotation carrier)) → HasValue U o (x ∷ y ∷ z ∷ xs)
        many_have op.Top x y z xs = tt
        many_have _ x y z xs = tt
