-- Laws of equations, inclusions and comparisons.
use Rattle.std.proofs.Common.{Bool, List, Some, [], ap, arith, false, int_le, int_lt, not, pos, refl, subst, sym, true, ℕ, ℤ, ◌&&◌, ◌+ℤ◌, ◌∙◌, ◌∷◌, ◌≡◌}
use Rattle.std.proofs.lemmas.Int.{ints}
use Rattle.formula_core.proofs.Types.{same_type_exact}
use Rattle.formula_core.proofs.Weakening.{first_true, second_true}
use Rattle.formula_core.specs.Types.{if_set, is_boolean, is_integer, is_truth, is_value_type, same_type}
use Rattle.formula_core.specs.Wellness.{type_of}
use Rattle.formula_core.specs.declared.Formula.{Formula}
use Rattle.formula_core.specs.declared.Formula.TheVariants.{Node}
use Rattle.formula_core.specs.declared.Op.{Op}
use Rattle.formula_core.specs.declared.Op.TheVariants as op
use Rattle.formula_core.specs.declared.Ty.{Ty}
use Rattle.formula_core.specs.declared.Ty.TheVariants as ty
use Rattle.well_defined.specs.Predicates.{member, predicate}
use Rattle.rule_table.specs.SetLaws.{below, for_all, new}
use Rattle.rule_table.specs.Shapes.{empty, equal, maplet, negation, on_none, on_one, on_two}
use Rattle.rule_table.specs.declared.law.Law.TheVariants as law
use Rattle.meanings.specs.Denotations.{Assignment, denotation}
use Rattle.meanings.specs.Operations.{is_subset, of_list}
use Rattle.meanings.specs.Universes.{Valuation, Universe}
use Rattle.meanings.specs.Values.{Sort, Denotation, Value, boolean_sort, integer_sort, pair_sort, power_sort, sort}
use Rattle.meanings.proofs.Bools.{and_not_both}
use Rattle.meanings.proofs.Denotations.{sort-Int, sort-Pow, sort-Truth}
use Rattle.meanings.proofs.Fitting.{IsWellIn, row_of_well}
use Rattle.meanings.proofs.Types.{boolean_is, if_set_tells, integer_is, pair_parts, truth_is, type-Node}
use Rattle.true_laws.proofs.Words.{and_value, not_value, of_pair, of_set, own_from, paired, part_value, same_value, same_values, set_sort, truth, with_value, words}
use Rattle.true_laws.proofs.LeftSides.{on_two_of, pair_of}
use Rattle.true_laws.proofs.Forms.{if_tells, is_of_set, is_on_none, is_on_one}
use Rattle.true_laws.proofs.Places.{Keeps, LawKeeps}
use Rattle.true_laws.proofs.Sameness.{same_empty, same_false, same_inclusions, same_integers, same_pairs, same_true, same_turned}

less_is_at_most : (m n : ℤ) → int_le (m +ℤ pos 1) n ≡ int_lt m n
less_is_at_most m n = grind (arith, ints)

-- what the rows of equations and inclusions ask
abbrev IsEquation : Ty → Ty → Bool
IsEquation a b = is_value_type a && same_type b a

abbrev IsInclusion : Ty → Ty → Bool
IsInclusion a b = if_set a is_value_type && same_type b a

module _ {carrier : List ℕ → Type 0} (U : Universe carrier) (names : Valuation carrier) (P : List ℕ × Ty → Type 0) where
  abbrev M : Formula → Assignment U → Denotation carrier
  M = denotation U names

  -- the values of two formulas of one sort
  with_both : {A : Type 0} → (s : Sort) (e f : Formula) → sort (type_of e) ≡ s → type_of f ≡ type_of e
      → (σ : Assignment U)
      → ((x y : Value carrier s) → M e σ ≡ (s, x) → M f σ ≡ (s, y) → A) → A
  with_both s e f is same σ go =
      with_value U names e s is σ (λ x e_is. with_value U names f s (ap sort same ∙ is) σ (λ y f_is. go x y e_is f_is))

  sides : (e f : Formula) → IsEquation (type_of e) (type_of f) ≡ true → type_of f ≡ type_of e
  sides e f fits = same_type_exact (type_of f) (type_of e) (second_true (is_value_type (type_of e)) _ fits)

  pub equal_turned_law : LawKeeps U names P law.EqualTurned
  equal_turned_law h g types ready k =
      let (e, f, n, made) = on_two_of types op.Equal IsEquation (λ a b t. refl) h ready.0 _ g k in
      same_values U names n.is made (λ σ. with_both (sort (type_of e)) e f refl (sides e f n.fits) σ (λ x y e_is f_is.
      same_value U names f e σ _ y x f_is e_is ∙ ap (truth U) (same_turned U (sort (type_of e)) y x)
      ∙ sym (same_value U names e f σ _ x y e_is f_is)))

  pub equal_integers_law : LawKeeps U names P law.EqualIntegers
  equal_integers_law h g types ready k =
      let (e, f, n, there) = on_two_of types op.Equal IsEquation (λ a b t. refl) h ready.0 _ g k in
      let (integer, made) = if_tells (is_integer (type_of e)) _ g there in
      same_values U names n.is made (λ σ.
      with_both integer_sort e f (ap sort (integer_is (type_of e) integer) ∙ sort-Int) (sides e f n.fits) σ
      (λ x y e_is f_is.
      simp (e_is, f_is, words, same_integers U)))

  pub equal_sets_law : LawKeeps U names P law.EqualSets
  equal_sets_law h g types ready k =
      let (s, t, n, there) = on_two_of types op.Equal IsEquation (λ a b t. refl) h ready.0 _ g k in
      let (α, s_type, made) = is_of_set s _ g there in
      same_values U names n.is made (λ σ.
      with_both (power_sort (sort α)) s t (ap sort s_type ∙ sort-Pow α) (sides s t n.fits) σ (λ A B s_is t_is.
      and_value U names _ _ σ (part_value U names s t σ _ A B s_is t_is) (part_value U names t s σ _ B A t_is s_is)
      ∙ ap (truth U) (sym (same_inclusions U (sort α) A B)) ∙ sym (same_value U names s t σ _ A B s_is t_is)))

  pub equal_to_empty_law : LawKeeps U names P law.EqualToEmpty
  equal_to_empty_law h g types ready k =
      let (s, t, n, there) = on_two_of types op.Equal IsEquation (λ a b t. refl) h ready.0 _ g k in
      let (u, t_is, there) = is_on_none g op.EmptySet t _ there in
      let (α, s_type, made) = is_of_set s _ g there in
      let u_is = sym (type-Node op.EmptySet [] u) ∙ ap type_of (sym t_is) ∙ sides s t n.fits ∙ s_type in
      same_values U names (n.is ∙ ap (equal s) (t_is ∙ ap empty u_is)) made (λ σ.
      with_value U names s (power_sort (sort α)) (ap sort s_type ∙ sort-Pow α) σ (nowhere s α σ))
    where
      nowhere : (s : Formula) (α : Ty) (σ : Assignment U) (A : Value carrier (sort α) → Bool)
          → M s σ ≡ (power_sort (sort α), A)
          → M (for_all α (negation (member (new α) (below s)))) σ ≡ M (equal s (empty (ty.Pow α))) σ
      nowhere s α σ A is =
          simp (is, words, own_from U names (sort α)) (ap (truth U) (sym (same_empty U (sort α) A)))
          ∙ sym (same_value U names s (empty (ty.Pow α)) σ (power_sort (sort α)) A (λ v. false) is
          (of_set U names op.EmptySet [] α σ))

  pub inclusion_law : LawKeeps U names P law.Inclusion
  inclusion_law h g types ready k =
      let (s, t, n, there) = on_two_of types op.Subset IsInclusion (λ a b t. refl) h ready.0 _ g k in
      let (α, s_type, made) = is_of_set s _ g there in
      same_values U names n.is made (λ σ. simp (set_sort U names s α s_type σ, words))

  pub proper_inclusion_law : LawKeeps U names P law.ProperInclusion
  proper_inclusion_law h g types ready k =
      let (s, t, n, made) = on_two_of types op.ProperSubset IsInclusion (λ a b t. refl) h ready.0 _ g k in
      let (α, s_type, value) =
      if_set_tells (type_of s) is_value_type (first_true (if_set (type_of s) is_value_type) _ n.fits) in
      let same = same_type_exact (type_of t) (type_of s) (second_true (if_set (type_of s) is_value_type) _ n.fits) in
      same_values U names n.is made (λ σ.
      with_both (power_sort (sort α)) s t (ap sort s_type ∙ sort-Pow α) same σ (λ A B s_is t_is.
      and_value U names _ _ σ (part_value U names s t σ _ A B s_is t_is)
      (not_value U names _ σ (same_value U names s t σ _ A B s_is t_is))
      ∙ ap (λ b. truth U (is_subset U (sort α) A B && not b)) (same_inclusions U (sort α) A B)
      ∙ ap (truth U) (and_not_both (is_subset U (sort α) A B) (is_subset U (sort α) B A))
      ∙ sym (proper s t σ (sort α) A B s_is t_is)))
    where
      proper : (s t : Formula) (σ : Assignment U) (a : Sort) (A B : Value carrier a → Bool)
          → M s σ ≡ (power_sort a, A) → M t σ ≡ (power_sort a, B)
          → M (predicate op.ProperSubset (s ∷ t ∷ [])) σ ≡ truth U (is_subset U a A B && not (is_subset U a B A))
      proper s t σ a A B s_is t_is = simp (s_is, t_is, words, own_from U names a)

  pub less_is_at_most_law : LawKeeps U names P law.LessIsAtMost
  less_is_at_most_law h g types ready k =
      let (e, f, n, made) =
      on_two_of types op.Less (λ a b. is_integer a && is_integer b) (λ a b t. refl) h ready.0 _ g k in
      same_values U names n.is made (λ σ. simp (words, less_is_at_most))

  -- bool(P) = TRUE and bool(P) = FALSE: `o` is the operator, and `b` its value
  bool_is : (o : Op) (b : Bool) → of_list U o boolean_sort [] ≡ b → (make : Formula → Formula)
      → ((p : Formula) (σ : Assignment U) (v : Bool) → M p σ ≡ truth U v
      → M (make p) σ ≡ truth U (U.same boolean_sort v b))
      → Keeps U names P (λ h. on_two op.Equal h (λ e t. on_one op.BoolOf e (λ p. on_none o t (Some (make p)))))
  bool_is o b b_is make value h g types ready k =
      let (e, t, n, there) =
      on_two_of types op.Equal IsEquation (λ a b t. refl) h ready.0
      (λ e t. on_one op.BoolOf e (λ p. on_none o t (Some (make p)))) g k in
      let (p, w, e_is, there) = is_on_one g op.BoolOf e (λ p. on_none o t (Some (make p))) there in
      let (u, t_is, made) = is_on_none g o t (Some (make p)) there in
      let row : (is_truth (type_of p) && is_boolean w) ≡ true =
      row_of_well op.BoolOf (p ∷ []) w types (subst (λ f. IsWellIn f types) e_is n.left_well) in
      let w_is = boolean_is w (second_true (is_truth (type_of p)) _ row) in
      let u_is = sym (type-Node o [] u) ∙ ap type_of (sym t_is) ∙ sides e t n.fits ∙ ap type_of e_is
      ∙ type-Node op.BoolOf (p ∷ []) w ∙ w_is in
      same_values U names (n.is
      ∙ (λ i. equal ((e_is ∙ ap (Node op.BoolOf (p ∷ [])) w_is) i) ((t_is ∙ ap (Node o []) u_is) i))) made (λ σ.
      with_value U names p boolean_sort (ap sort (truth_is (type_of p) (first_true _ _ row)) ∙ sort-Truth) σ (λ v p_is.
      value p σ v p_is ∙ ap (λ b. truth U (U.same boolean_sort v b)) (sym b_is) ∙ sym (simp (p_is, words))))

  pub bool_is_true_law : LawKeeps U names P law.BoolIsTrue
  bool_is_true_law = bool_is op.TrueValue true refl _ (λ p σ v is. is ∙ ap (truth U) (sym (same_true U v)))

  pub bool_is_false_law : LawKeeps U names P law.BoolIsFalse
  bool_is_false_law = bool_is op.FalseValue false refl negation (λ p σ v is. simp (is, words, same_false U))

  pub equal_pairs_law : LawKeeps U names P law.EqualPairs
  equal_pairs_law h g types ready k =
      let (p, q, n, there) = on_two_of types op.Equal IsEquation (λ a b t. refl) h ready.0 _ g k in
      let (a, b, m, there) = pair_of types p n.left_well _ g there in
      let (c, d, l, made) = pair_of types q n.right_well _ g there in
      let pair_type = λ (e f x : Formula) (is : x ≡ maplet e f). ap type_of is
      ∙ type-Node op.Maplet (e ∷ f ∷ []) (ty.Pair (type_of e) (type_of f)) in
      let same = pair_parts (type_of c) (type_of d) (type_of a) (type_of b)
      (ap ty.Pow (sym (pair_type c d q l.is) ∙ sides p q n.fits ∙ pair_type a b p m.is)) in
      same_values U names (n.is ∙ (λ i. equal (m.is i) (l.is i))) made (λ σ.
      with_both (sort (type_of a)) a c refl same.0 σ
      (λ x z a_is c_is. with_both (sort (type_of b)) b d refl same.1 σ (λ y w b_is d_is.
      and_value U names _ _ σ (same_value U names a c σ _ x z a_is c_is) (same_value U names b d σ _ y w b_is d_is)
      ∙ ap (truth U) (sym (same_pairs U _ _ x z y w))
      ∙ sym (same_value U names (maplet a b) (maplet c d) σ (pair_sort (sort (type_of a)) (sort (type_of b))) (x, y)
      (z, w)
      (of_pair U names a b σ ∙ (λ i. paired U names (a_is i) (b_is i)))
      (of_pair U names c d σ ∙ (λ i. paired U names (c_is i) (d_is i)))))))
