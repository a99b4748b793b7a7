-- Laws of membership in the sets that operators make.
use Rattle.std.proofs.Common.{Bool, List, Some, [], ap, false, map, refl, subst, sym, true, ℕ, ℤ, ◌&&◌, ◌||◌, ◌∙◌, ◌∷◌, ◌≡◌}
use Rattle.std.specs.List.{list_any}
use Rattle.std.specs.Prelude.{fold}
use Rattle.formula_core.proofs.Types.{same_type_exact}
use Rattle.formula_core.proofs.Weakening.{first_true, second_true}
use Rattle.formula_core.specs.Types.{if_relation, if_set, is_integer, is_set_of, is_value_type, same_type}
use Rattle.formula_core.specs.Wellness.{type_of}
use Rattle.formula_core.specs.declared.Binder.TheVariants as binder
use Rattle.formula_core.specs.declared.Formula.{Formula}
use Rattle.formula_core.specs.declared.Formula.TheVariants.{Node}
use Rattle.formula_core.specs.declared.Op.{Op}
use Rattle.formula_core.specs.declared.Op.TheVariants as op
use Rattle.formula_core.specs.declared.Ty.{Ty}
use Rattle.formula_core.specs.declared.Ty.TheVariants as ty
use Rattle.well_defined.specs.Predicates.{conjunction, member}
use Rattle.rule_table.specs.SetLaws.{below, equal_to_one_of, in_none, in_one, in_two, new, on_pair, or_equal, there_is}
use Rattle.rule_table.specs.Shapes.{empty, equal, maplet, negation, operands, subset}
use Rattle.rule_table.specs.declared.law.Law.TheVariants as law
use Rattle.meanings.specs.Denotations.{Assignment, denotation}
use Rattle.meanings.specs.Operations.{contains, is_subset, relates, to_sort, truth_value}
use Rattle.meanings.specs.Universes.{Valuation, Universe, cast, some}
use Rattle.meanings.specs.Values.{Denotation, Value, integer_sort, power_sort, sort}
use Rattle.meanings.proofs.Bools.{or_assoc, or_none}
use Rattle.meanings.proofs.Casts.{cast_own}
use Rattle.meanings.proofs.Denotations.{Means, sort-Int, sort-Pow, sort_of}
use Rattle.meanings.proofs.Fitting.{IsWellIn, row_of_well}
use Rattle.meanings.proofs.Types.{if_relation_tells, if_set_tells, integer_is, pair_parts, set_of_is, type-Node}
use Rattle.true_laws.proofs.LeftSides.{in_none_of, in_one_of, in_set, in_two_of, member_of, over_types, pair_of, same_part}
use Rattle.true_laws.proofs.Forms.{is_of_relation, made_of, node_is}
use Rattle.true_laws.proofs.Places.{Keeps, LawKeeps}
use Rattle.true_laws.proofs.Sameness.{not_same_empty, same_numbers, same_turned}
use Rattle.true_laws.proofs.Words.{and_value, in_made, not_value, of_membership, of_pair, of_quantifier, of_set, relation_sort, same_value, same_values, set_sort, subset_value, truth, with_value, words}

module _ {carrier : List ℕ → Type 0} (U : Universe carrier) (names : Valuation carrier) (P : List ℕ × Ty → Type 0) where
  abbrev M : Formula → Assignment U → Denotation carrier
  M = denotation U names

  -- E ∈ op(..)
  abbrev left : Op → Formula → List Formula → Formula
  left o e ps = member e (Node o ps (ty.Pow (type_of e)))

  -- a law whose right side means what the left one does where the set is well
  abbrev Agrees : Op → (right e : Formula) → List Formula → Type 0
  Agrees o right e ps =
      (types : List Ty) → IsWellIn (Node o ps (ty.Pow (type_of e))) types → (σ : Assignment U)
      → M right σ ≡ M (left o e ps) σ

  none : (o : Op) (make : Formula → Formula) → ((e : Formula) → Agrees o (make e) e [])
      → Keeps U names P (λ h. in_none o h (λ e. Some (make e)))
  none o make value h g types ready k =
      let (e, n, made) = in_none_of types o h ready.0 (λ e. Some (make e)) g k in
      same_values U names n.is made (value e types n.set_well)

  one : (o : Op) (make : (e s : Formula) → Formula) → ((e s : Formula) → Agrees o (make e s) e (s ∷ []))
      → Keeps U names P (λ h. in_one o h (λ e s. Some (make e s)))
  one o make value h g types ready k =
      let (e, s, n, made) = in_one_of types o h ready.0 (λ e s. Some (make e s)) g k in
      same_values U names n.is made (value e s types n.set_well)

  two : (o : Op) (make : (e s t : Formula) → Formula) → ((e s t : Formula) → Agrees o (make e s t) e (s ∷ t ∷ []))
      → Keeps U names P (λ h. in_two o h (λ e s t. Some (make e s t)))
  two o make value h g types ready k =
      let (e, s, t, n, made) = in_two_of types o h ready.0 (λ e s t. Some (make e s t)) g k in
      same_values U names n.is made (value e s t types n.set_well)

  pub empty_law : LawKeeps U names P law.MemberOfEmpty
  empty_law = none op.EmptySet _ (λ e types well σ. simp words)

  pub naturals_law : LawKeeps U names P law.MemberOfNaturals
  naturals_law = none op.Naturals _ (λ e types well σ. simp words)

  pub positive_naturals_law : LawKeeps U names P law.MemberOfPositiveNaturals
  positive_naturals_law = none op.PositiveNaturals _ (λ e types well σ. simp words)

  pub interval_law : LawKeeps U names P law.MemberOfInterval
  interval_law = two op.Interval _ (λ e a b types well σ. simp words)

  pub union_law : LawKeeps U names P law.MemberOfUnion
  union_law = two op.Union _ (λ e s t types well σ. simp words)

  pub intersection_law : LawKeeps U names P law.MemberOfIntersection
  intersection_law = two op.Intersection _ (λ e s t types well σ. simp words)

  pub difference_law : LawKeeps U names P law.MemberOfDifference
  difference_law = two op.Difference _ (λ e s t types well σ. simp words)

  pub power_set_law : LawKeeps U names P law.MemberOfPowerSet
  power_set_law = one op.PowerSet _ (λ e s types well σ. simp words)

  pub non_empty_power_set_law : LawKeeps U names P law.MemberOfNonEmptyPowerSet
  non_empty_power_set_law = one op.NonEmptyPowerSet _ (λ e s types well σ.
      let row : (if_set (type_of s) is_value_type && is_set_of (ty.Pow (type_of e)) (type_of s)) ≡ true =
      row_of_well op.NonEmptyPowerSet (s ∷ []) (ty.Pow (type_of e)) types well in
      let (α, s_type, value) = if_set_tells (type_of s) is_value_type (first_true _ _ row) in
      let e_type = same_part (type_of e) (type_of s)
      (set_of_is _ (type_of s) (second_true (if_set (type_of s) is_value_type) _ row)) ∙ s_type in
      non_empty e s α e_type σ)
    where
      non_empty : (e s : Formula) (α : Ty) → type_of e ≡ ty.Pow α → (σ : Assignment U)
          → M (conjunction (subset e s) (negation (equal e (empty (type_of e))))) σ
          ≡ M (left op.NonEmptyPowerSet e (s ∷ [])) σ
      non_empty e s α is σ =
          let none : M (empty (type_of e)) σ ≡ (power_sort (sort α), λ v. false) =
          ap (λ t. M (empty t) σ) is ∙ of_set U names op.EmptySet [] α σ in
          with_value U names e (power_sort (sort α)) (ap sort is ∙ sort-Pow α) σ (λ A e_is.
          let same = same_value U names e (empty (type_of e)) σ (power_sort (sort α)) A (λ v. false) e_is none in
          and_value U names _ _ σ (subset_value U names e s σ (sort α) A e_is) (not_value U names _ σ same)
          ∙ ap (λ b. truth U (is_subset U (sort α) A (contains U (M s σ) (sort α)) && b)) (not_same_empty U (sort α) A)
          ∙ (λ i. truth U (let B = sym (cast_own U (power_sort (sort α)) A) i in
          is_subset U (sort α) B (contains U (M s σ) (sort α)) && some U (sort α) B))
          ∙ ap (in_made U names op.NonEmptyPowerSet (M s σ ∷ [])) (sym e_is)
          ∙ sym (of_membership U names e op.NonEmptyPowerSet (s ∷ []) σ))

  -- E ↦ F ∈ op(..)
  abbrev PairAgrees : Op → ((p e f : Formula) → Formula) → List Formula → Type 0
  PairAgrees o make ps = (e f : Formula) → Agrees o (make (maplet e f) e f) (maplet e f) ps

  pairs_in_none : (o : Op) (make : (p e f : Formula) → Formula) → PairAgrees o make []
      → Keeps U names P (λ h. in_none o h (λ p. on_pair p (λ e f. Some (make p e f))))
  pairs_in_none o make value h g types ready k =
      let (p, n, there) = in_none_of types o h ready.0 (λ p. on_pair p (λ e f. Some (make p e f))) g k in
      let (e, f, m, made) = pair_of types p n.well (λ e f. Some (make p e f)) g there in
      same_values U names (n.is ∙ ap (λ p. left o p []) m.is) (ap (λ p. Some (make p e f)) (sym m.is) ∙ made)
      (value e f types (subst (λ p. IsWellIn (Node o [] (ty.Pow (type_of p))) types) m.is n.set_well))

  pairs_in_two : (o : Op) (make : (p e f s t : Formula) → Formula)
      → ((s t : Formula) → PairAgrees o (λ p e f. make p e f s t) (s ∷ t ∷ []))
      → Keeps U names P (λ h. in_two o h (λ p s t. on_pair p (λ e f. Some (make p e f s t))))
  pairs_in_two o make value h g types ready k =
      let (p, s, t, n, there) = in_two_of types o h ready.0 (λ p s t. on_pair p (λ e f. Some (make p e f s t))) g k in
      let (e, f, m, made) = pair_of types p n.well (λ e f. Some (make p e f s t)) g there in
      let right = ap (λ p. Some (make p e f s t)) (sym m.is) ∙ made in
      same_values U names (n.is ∙ ap (λ p. left o p (s ∷ t ∷ [])) m.is) right
      (value s t e f types (subst (λ p. IsWellIn (Node o (s ∷ t ∷ []) (ty.Pow (type_of p))) types) m.is n.set_well))

  pub product_law : LawKeeps U names P law.MemberOfProduct
  product_law = pairs_in_two op.Product _ (λ s t e f types well σ. simp words)

  pub converse_law : LawKeeps U names P law.MemberOfConverse
  converse_law h g types ready k =
      let (p, r, n, there) = in_one_of types op.Converse h ready.0 _ g k in
      let (e, f, m, made) = pair_of types p n.well _ g there in
      same_values U names (n.is ∙ ap (λ p. left op.Converse p (r ∷ [])) m.is) made (λ σ. simp words)

  pub domain_restriction_law : LawKeeps U names P law.MemberOfDomainRestriction
  domain_restriction_law = pairs_in_two op.DomainRestriction _ (λ s r e f types well σ. simp words)

  pub domain_subtraction_law : LawKeeps U names P law.MemberOfDomainSubtraction
  domain_subtraction_law = pairs_in_two op.DomainSubtraction _ (λ s r e f types well σ. simp words)

  pub range_restriction_law : LawKeeps U names P law.MemberOfRangeRestriction
  range_restriction_law = pairs_in_two op.RangeRestriction _ (λ r s e f types well σ. simp words)

  pub range_subtraction_law : LawKeeps U names P law.MemberOfRangeSubtraction
  range_subtraction_law = pairs_in_two op.RangeSubtraction _ (λ r s e f types well σ. simp words)

  pub overriding_law : LawKeeps U names P law.MemberOfOverriding
  overriding_law = pairs_in_two op.Overriding _ (λ r s e f types well σ.
      let pair_sorts = sym (sort_of U names (maplet e f) σ) ∙ ap (λ x. x.0) (of_pair U names e f σ) in
      let known = over_types r s (ty.Pow (type_of (maplet e f))) types well in
      simp (set_sort U names s (type_of (maplet e f)) known σ ∙ ap power_sort pair_sorts, words))

  -- the types of the sides of a pair in a relation without operands
  pair_fits : (a b : Formula) (test : Ty → Ty → Bool) → if_relation (ty.Pow (type_of (maplet a b))) test ≡ true
      → test (type_of a) (type_of b) ≡ true
  pair_fits a b test h =
      let (p, is, holds) = if_relation_tells (ty.Pow (type_of (maplet a b))) test h in
      let whole = sym is ∙ ap ty.Pow (type-Node op.Maplet (a ∷ b ∷ []) (ty.Pair (type_of a) (type_of b))) in
      let (one, two) = pair_parts p.0 p.1 (type_of a) (type_of b) whole in (λ i. test (sym one i) (sym two i)) ∙ holds

  pub identity_law : LawKeeps U names P law.MemberOfIdentity
  identity_law = pairs_in_none op.Identity _ (λ e f types well σ.
      let row = pair_fits e f (λ α β. is_value_type α && same_type α β) (row_of_well op.Identity [] _ types well) in
      let same = same_type_exact (type_of e) (type_of f) (second_true (is_value_type (type_of e)) _ row) in
      with_value U names e (sort (type_of e)) refl σ (λ x e_is.
      with_value U names f (sort (type_of e)) (ap sort (sym same)) σ (λ y f_is. simp (e_is, f_is, words))))

  integers : {A : Type 0} → (e f : Formula) → (is_integer (type_of e) && is_integer (type_of f)) ≡ true
      → (σ : Assignment U)
      → ((m n : ℤ) → M e σ ≡ (integer_sort, m) → M f σ ≡ (integer_sort, n) → A) → A
  integers e f h σ go =
      with_value U names e integer_sort (ap sort (integer_is (type_of e) (first_true _ _ h)) ∙ sort-Int) σ (λ m e_is.
      with_value U names f integer_sort (ap sort (integer_is (type_of f) (second_true (is_integer (type_of e)) _ h))
      ∙ sort-Int) σ (λ n f_is.
      go m n e_is f_is))

  pub successor_law : LawKeeps U names P law.MemberOfSuccessor
  successor_law = pairs_in_none op.Successor _ (λ e f types well σ.
      integers e f (pair_fits e f (λ α β. is_integer α && is_integer β) (row_of_well op.Successor [] _ types well)) σ
      (λ m n e_is f_is. simp (e_is, f_is, words, same_numbers U)))

  pub predecessor_law : LawKeeps U names P law.MemberOfPredecessor
  predecessor_law = pairs_in_none op.Predecessor _ (λ e f types well σ.
      integers e f (pair_fits e f (λ α β. is_integer α && is_integer β) (row_of_well op.Predecessor [] _ types well)) σ
      (λ m n e_is f_is. simp (e_is, f_is, words, same_numbers U)))

  -- pairs of pairs
  pub first_projection_law : LawKeeps U names P law.MemberOfFirstProjection
  first_projection_law h g types ready k =
      let (p, n, there) = in_none_of types op.FirstProjection h ready.0 _ g k in
      let (q, z, m, there) = pair_of types p n.well _ g there in
      let (e, f, l, made) = pair_of types q m.left_well _ g there in
      let pairs = m.is ∙ ap (λ q. maplet q z) l.is in
      same_values U names (n.is ∙ ap (λ p. left op.FirstProjection p []) pairs) made (λ σ.
      simp words (ap (truth U) (same_turned U (M z σ).0 (M z σ).1 (cast U (M z σ).0 (M e σ)))))

  pub second_projection_law : LawKeeps U names P law.MemberOfSecondProjection
  second_projection_law h g types ready k =
      let (p, n, there) = in_none_of types op.SecondProjection h ready.0 _ g k in
      let (q, z, m, there) = pair_of types p n.well _ g there in
      let (e, f, l, made) = pair_of types q m.left_well _ g there in
      let pairs = m.is ∙ ap (λ q. maplet q z) l.is in
      same_values U names (n.is ∙ ap (λ p. left op.SecondProjection p []) pairs) made (λ σ.
      simp words (ap (truth U) (same_turned U (M z σ).0 (M z σ).1 (cast U (M z σ).0 (M f σ)))))

  pub direct_product_law : LawKeeps U names P law.MemberOfDirectProduct
  direct_product_law h g types ready k =
      let (p, q, r, n, there) = in_two_of types op.DirectProduct h ready.0 _ g k in
      let (e, z, m, there) = pair_of types p n.well _ g there in
      let (a, b, l, made) = pair_of types z m.right_well _ g there in
      let pairs = m.is ∙ ap (maplet e) l.is in
      same_values U names (n.is ∙ ap (λ p. left op.DirectProduct p (q ∷ r ∷ [])) pairs) made (λ σ. simp words)

  pub parallel_product_law : LawKeeps U names P law.MemberOfParallelProduct
  parallel_product_law h g types ready k =
      let (p, q, r, n, there) = in_two_of types op.ParallelProduct h ready.0 _ g k in
      let (x, y, m, there) = pair_of types p n.well _ g there in
      let (a, b, l, there) = pair_of types x m.left_well _ g there in
      let (c, d, o, made) = pair_of types y m.right_well _ g there in
      let pairs = m.is ∙ (λ i. maplet (l.is i) (o.is i)) in
      same_values U names (n.is ∙ ap (λ p. left op.ParallelProduct p (q ∷ r ∷ [])) pairs) made (λ σ. simp words)

  -- domains, ranges, images and compositions
  pub domain_law : LawKeeps U names P law.MemberOfDomain
  domain_law h g types ready k =
      let (e, r, n, there) = in_one_of types op.Domain h ready.0 _ g k in
      let (α, β, r_type, made) = is_of_relation r _ g there in
      same_values U names n.is made (λ σ. simp (relation_sort U names r α β r_type σ, words))

  pub range_law : LawKeeps U names P law.MemberOfRange
  range_law h g types ready k =
      let (e, r, n, there) = in_one_of types op.Range h ready.0 _ g k in
      let (α, β, r_type, made) = is_of_relation r _ g there in
      same_values U names n.is made (λ σ. simp (relation_sort U names r α β r_type σ, words))

  pub image_law : LawKeeps U names P law.MemberOfImage
  image_law h g types ready k =
      let (f, r, s, n, there) = in_two_of types op.Image h ready.0 _ g k in
      let (α, β, r_type, made) = is_of_relation r _ g there in
      same_values U names n.is made (λ σ. simp (relation_sort U names r α β r_type σ, words))

  pub composition_law : LawKeeps U names P law.MemberOfComposition
  composition_law h g types ready k =
      let (m, p, q, n, there) = in_two_of types op.Composition h ready.0 _ g k in
      let (e, f, l, there) = pair_of types m n.well _ g there in
      let (α, β, p_type, made) = is_of_relation p _ g there in
      same_values U names (n.is ∙ ap (λ m. left op.Composition m (p ∷ q ∷ [])) l.is) made (composed e f p q α β p_type)
    where
      through : (e f p q : Formula) (β : Ty) (σ : Assignment U) (v : Value carrier (sort β))
          → truth_value U (M (conjunction (member (maplet (below e) (new β)) (below p))
          (member (maplet (new β) (below f)) (below q))) ((sort β, v) ∷ σ))
          ≡ (relates U (M p σ) (M e σ).0 (sort β) (M e σ).1 v && relates U (M q σ) (sort β) (M f σ).0 v (M f σ).1)
      through e f p q β σ v = simp words

      composed : (e f p q : Formula) (α β : Ty) → type_of p ≡ ty.Pow (ty.Pair α β) → (σ : Assignment U)
          → M (there_is β (conjunction (member (maplet (below e) (new β)) (below p))
          (member (maplet (new β) (below f)) (below q)))) σ
          ≡ M (left op.Composition (maplet e f) (p ∷ q ∷ [])) σ
      composed e f p q α β is σ =
          of_quantifier U names binder.Exists (β ∷ []) _ σ
          ∙ (λ i. truth U (some U (sort β) (λ v. through e f p q β σ v i)))
          ∙ (λ i. truth U (let b = to_sort (sym (relation_sort U names p α β is σ) i) in
          some U b (λ v. relates U (M p σ) (M e σ).0 b (M e σ).1 v && relates U (M q σ) b (M f σ).0 v (M f σ).1)))
          ∙ ap (in_made U names op.Composition (M p σ ∷ M q σ ∷ [])) (sym (of_pair U names e f σ))
          ∙ sym (of_membership U names (maplet e f) op.Composition (p ∷ q ∷ []) σ)

  -- listed members
  among : (e : Formula) (σ : Assignment U) (p : Formula) (b : Bool) → M p σ ≡ truth U b → (fs : List Formula)
      → M (fold (or_equal e) p fs) σ
      ≡ truth U (b || list_any (λ x. U.same (M e σ).0 (M e σ).1 (cast U (M e σ).0 x)) (map (λ f. M f σ) fs))
  among e σ p b is [] = is ∙ ap (truth U) (sym (or_none b))
  among e σ p b is (f ∷ fs) =
      among e σ (or_equal e p f) (b || U.same (M e σ).0 (M e σ).1 (cast U (M e σ).0 (M f σ))) (simp (is, words)) fs
      ∙ ap (truth U) (or_assoc b _ _)

  pub extension_law : LawKeeps U names P law.MemberOfExtension
  extension_law h g types ready k =
      let (e, set, n, there) = member_of types h ready.0 _ g k in
      let (ps, found, made) = made_of (equal_to_one_of e) (operands op.SetExtension set) g there in
      let (u, is) = node_is op.SetExtension set ps found in
      listed e ps (in_set types op.SetExtension ps u h e set n is).is made
    where
      listed : (e : Formula) (ps : List Formula) → h ≡ left op.SetExtension e ps → equal_to_one_of e ps ≡ Some g
          → Means U names g ≡ Means U names h
      listed e [] is made = absurd cc
      listed e (f ∷ fs) is made = same_values U names is made (λ σ.
          among e σ (equal e f) _ (simp words) fs ∙ sym (of_membership U names e op.SetExtension (f ∷ fs) σ))
