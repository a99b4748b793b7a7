-- Facts of sets and numbers that no rule says: the axioms of examples/facts.eventb, in their order.
use Rattle.std.specs.Prelude.{ℕ, List, [], ◌∷◌}
use Rattle.formula_core.specs.declared.Op.{Op}
use Rattle.formula_core.specs.declared.Op.TheVariants as op
use Rattle.formula_core.specs.declared.Binder.TheVariants.{ForAll, Exists}
use Rattle.formula_core.specs.declared.Ty.{Ty}
use Rattle.formula_core.specs.declared.Ty.TheVariants as ty
use Rattle.formula_core.specs.declared.Formula.{Formula}
use Rattle.formula_core.specs.declared.Formula.TheVariants as formula
use Rattle.well_defined.specs.Predicates.{quantified, conjunction, implication, unequal, at_most, less, member, finite, zero, domain}
use Rattle.rule_table.specs.Shapes.{negation, equal, subset, empty, product, relations, cardinality, one, plus_one, minus_one}

-- E ↦ F, of elements of α and β
abbrev pub pair_at : Formula → Formula → Ty → Ty → Formula
pair_at e f α β = formula.Node op.Maplet (e ∷ f ∷ []) (ty.Pair α β)

-- {E}, and S ∪ T, S ∖ T and such, all of elements of α
abbrev pub only_of : Formula → Ty → Formula
only_of e α = formula.Node op.SetExtension (e ∷ []) (ty.Pow α)

abbrev pub set_of_two : Op → Formula → Formula → Ty → Formula
set_of_two o s t α = formula.Node o (s ∷ t ∷ []) (ty.Pow α)

-- ℙ(S), of a set of elements of α
abbrev pub sets_within : Formula → Ty → Formula
sets_within s α = formula.Node op.PowerSet (s ∷ []) (ty.Pow (ty.Pow α))

-- ℤ and ℕ
abbrev pub integer_set : Op → Formula
integer_set o = formula.Node o [] (ty.Pow ty.Int)

-- min(S) and max(S)
abbrev pub extreme : Op → Formula → Formula
extreme o s = formula.Node o (s ∷ []) ty.Int

-- E + F, E ∗ F, E ÷ F and such
abbrev pub arithmetic : Op → Formula → Formula → Formula
arithmetic o e f = formula.Node o (e ∷ f ∷ []) ty.Int

-- the bound identifier of an index: an integer, a set of integers; an element of S, a set of these
abbrev pub integer_bound : ℕ → Formula
integer_bound k = formula.Bound k ty.Int

abbrev pub integers_bound : ℕ → Formula
integers_bound k = formula.Bound k (ty.Pow ty.Int)

abbrev pub element_bound : List ℕ → ℕ → Formula
element_bound S k = formula.Bound k (ty.Given S)

abbrev pub set_bound : List ℕ → ℕ → Formula
set_bound S k = formula.Bound k (ty.Pow (ty.Given S))

-- a pair, and a relation, of elements of α and β
abbrev pub pair_bound : Ty → Ty → ℕ → Formula
pair_bound α β k = formula.Bound k (ty.Pair α β)

abbrev pub relation_bound : Ty → Ty → ℕ → Formula
relation_bound α β k = formula.Bound k (ty.Pow (ty.Pair α β))

-- the carrier set of a name
abbrev pub given_set : List ℕ → Formula
given_set S = formula.Free S (ty.Pow (ty.Given S))

-- what is said of a finite set of integers: u ∈ ℙ(ℤ) ∧ finite(u), and u ≠ ∅ too
abbrev pub finite_integers : Formula
finite_integers = conjunction (member (integers_bound 0) (sets_within (integer_set op.Integers) ty.Int)) (finite (integers_bound 0))

abbrev pub some_finite_integers : Formula
some_finite_integers = conjunction finite_integers (unequal (integers_bound 0) (empty (ty.Pow ty.Int)))

-- ∀x·x ∈ u ⇒ P, below u
abbrev pub of_each_member : Formula → Formula
of_each_member p = quantified ForAll (ty.Int ∷ []) (implication (member (integer_bound 0) (integers_bound 1)) p)

-- 0 ≤ a ∧ 0 < b
abbrev pub natural_and_positive : Formula
natural_and_positive = conjunction (at_most zero (integer_bound 1)) (less zero (integer_bound 0))

module _ (S T : List ℕ) where
  -- ∀p·p ∈ S × T ⇒ (∃x, y·p = x ↦ y)
  abbrev pub pairs : Formula
  pairs =
      quantified ForAll (ty.Pair (ty.Given S) (ty.Given T) ∷ [])
      (implication (member (pair_bound (ty.Given S) (ty.Given T) 0) (product (given_set S) (given_set T) (ty.Given S) (ty.Given T)))
      (quantified Exists (ty.Given S ∷ ty.Given T ∷ [])
      (equal (pair_bound (ty.Given S) (ty.Given T) 2) (pair_at (element_bound S 1) (element_bound T 0) (ty.Given S) (ty.Given T)))))

  -- ∀p·p ∈ S × ℤ ⇒ (∃x, n·p = x ↦ n)
  abbrev pub pairs_number : Formula
  pairs_number =
      quantified ForAll (ty.Pair (ty.Given S) ty.Int ∷ [])
      (implication (member (pair_bound (ty.Given S) ty.Int 0) (product (given_set S) (integer_set op.Integers) (ty.Given S) ty.Int))
      (quantified Exists (ty.Given S ∷ ty.Int ∷ [])
      (equal (pair_bound (ty.Given S) ty.Int 2) (pair_at (element_bound S 1) (integer_bound 0) (ty.Given S) ty.Int))))

  -- ∀u, v·v ∈ ℙ(S) ∧ finite(v) ∧ u ⊆ v ⇒ finite(u)
  abbrev pub finite_within : Formula
  finite_within =
      quantified ForAll (ty.Pow (ty.Given S) ∷ ty.Pow (ty.Given S) ∷ [])
      (implication (conjunction (conjunction (member (set_bound S 0) (sets_within (given_set S) (ty.Given S))) (finite (set_bound S 0)))
      (subset (set_bound S 1) (set_bound S 0)))
      (finite (set_bound S 1)))

  -- ∀f·f ∈ S ⇸ T ∧ finite(dom(f)) ⇒ finite(f)
  abbrev pub finite_function : Formula
  finite_function =
      quantified ForAll (ty.Pow (ty.Pair (ty.Given S) (ty.Given T)) ∷ [])
      (implication (conjunction
      (member (relation_bound (ty.Given S) (ty.Given T) 0) (relations op.PartialFunctions (given_set S) (given_set T) (ty.Given S) (ty.Given T)))
      (finite (domain (relation_bound (ty.Given S) (ty.Given T) 0) (ty.Given S))))
      (finite (relation_bound (ty.Given S) (ty.Given T) 0)))

  -- ∀f·f ∈ S ⇸ T ∧ finite(f) ⇒ finite(dom(f))
  abbrev pub finite_domain : Formula
  finite_domain =
      quantified ForAll (ty.Pow (ty.Pair (ty.Given S) (ty.Given T)) ∷ [])
      (implication (conjunction
      (member (relation_bound (ty.Given S) (ty.Given T) 0) (relations op.PartialFunctions (given_set S) (given_set T) (ty.Given S) (ty.Given T)))
      (finite (relation_bound (ty.Given S) (ty.Given T) 0)))
      (finite (domain (relation_bound (ty.Given S) (ty.Given T) 0) (ty.Given S))))

  -- ∀u, a, b·u ∈ ℙ(ℤ) ∧ (∀x·x ∈ u ⇒ a ≤ x ∧ x ≤ b) ⇒ finite(u)
  abbrev pub finite_numbers : Formula
  finite_numbers =
      quantified ForAll (ty.Pow ty.Int ∷ ty.Int ∷ ty.Int ∷ [])
      (implication (conjunction (member (integers_bound 2) (sets_within (integer_set op.Integers) ty.Int))
      (quantified ForAll (ty.Int ∷ [])
      (implication (member (integer_bound 0) (integers_bound 3)) (conjunction (at_most (integer_bound 2) (integer_bound 0)) (at_most (integer_bound 0) (integer_bound 1))))))
      (finite (integers_bound 2)))

  -- ∀u, x·u ∈ ℙ(S) ∧ finite(u) ∧ ¬ x ∈ u ⇒ card(u ∪ {x}) = card(u) + 1
  abbrev pub card_more : Formula
  card_more =
      quantified ForAll (ty.Pow (ty.Given S) ∷ ty.Given S ∷ [])
      (implication (conjunction (conjunction (member (set_bound S 1) (sets_within (given_set S) (ty.Given S))) (finite (set_bound S 1)))
      (negation (member (element_bound S 0) (set_bound S 1))))
      (equal (cardinality (set_of_two op.Union (set_bound S 1) (only_of (element_bound S 0) (ty.Given S)) (ty.Given S))) (plus_one (cardinality (set_bound S 1)))))

  -- ∀u, x·u ∈ ℙ(S) ∧ finite(u) ∧ x ∈ u ⇒ card(u ∖ {x}) = card(u) − 1
  abbrev pub card_less : Formula
  card_less =
      quantified ForAll (ty.Pow (ty.Given S) ∷ ty.Given S ∷ [])
      (implication (conjunction (conjunction (member (set_bound S 1) (sets_within (given_set S) (ty.Given S))) (finite (set_bound S 1)))
      (member (element_bound S 0) (set_bound S 1)))
      (equal (cardinality (set_of_two op.Difference (set_bound S 1) (only_of (element_bound S 0) (ty.Given S)) (ty.Given S))) (minus_one (cardinality (set_bound S 1)))))

  -- ∀u, v·v ∈ ℙ(S) ∧ finite(v) ∧ u ⊆ v ∧ finite(u) ⇒ card(u) ≤ card(v)
  abbrev pub card_within : Formula
  card_within =
      quantified ForAll (ty.Pow (ty.Given S) ∷ ty.Pow (ty.Given S) ∷ [])
      (implication (conjunction (conjunction (conjunction (member (set_bound S 0) (sets_within (given_set S) (ty.Given S))) (finite (set_bound S 0)))
      (subset (set_bound S 1) (set_bound S 0))) (finite (set_bound S 1)))
      (at_most (cardinality (set_bound S 1)) (cardinality (set_bound S 0))))

  -- ∀f, n·n ∈ ℕ ∧ f ∈ 1 ‥ n → T ∧ finite(f) ⇒ card(f) = n
  abbrev pub card_list : Formula
  card_list =
      quantified ForAll (ty.Pow (ty.Pair ty.Int (ty.Given T)) ∷ ty.Int ∷ [])
      (implication (conjunction (conjunction (member (integer_bound 0) (integer_set op.Naturals))
      (member (relation_bound ty.Int (ty.Given T) 1) (relations op.TotalFunctions (set_of_two op.Interval one (integer_bound 0) ty.Int) (given_set T) ty.Int (ty.Given T))))
      (finite (relation_bound ty.Int (ty.Given T) 1)))
      (equal (cardinality (relation_bound ty.Int (ty.Given T) 1)) (integer_bound 0)))

  -- ∀u·u ∈ ℙ(ℤ) ∧ finite(u) ⇒ (∃b·∀x·x ∈ u ⇒ b ≤ x)
  abbrev pub bounded_below : Formula
  bounded_below =
      quantified ForAll (ty.Pow ty.Int ∷ [])
      (implication finite_integers (quantified Exists (ty.Int ∷ []) (quantified ForAll (ty.Int ∷ [])
      (implication (member (integer_bound 0) (integers_bound 2)) (at_most (integer_bound 1) (integer_bound 0))))))

  -- ∀u·u ∈ ℙ(ℤ) ∧ finite(u) ⇒ (∃b·∀x·x ∈ u ⇒ x ≤ b)
  abbrev pub bounded_above : Formula
  bounded_above =
      quantified ForAll (ty.Pow ty.Int ∷ [])
      (implication finite_integers (quantified Exists (ty.Int ∷ []) (quantified ForAll (ty.Int ∷ [])
      (implication (member (integer_bound 0) (integers_bound 2)) (at_most (integer_bound 0) (integer_bound 1))))))

  -- ∀u·u ∈ ℙ(ℤ) ∧ finite(u) ∧ u ≠ ∅ ⇒ min(u) ∈ u ∧ (∀x·x ∈ u ⇒ min(u) ≤ x)
  abbrev pub min_member : Formula
  min_member =
      quantified ForAll (ty.Pow ty.Int ∷ [])
      (implication some_finite_integers (conjunction (member (extreme op.Minimum (integers_bound 0)) (integers_bound 0))
      (of_each_member (at_most (extreme op.Minimum (integers_bound 1)) (integer_bound 0)))))

  -- ∀u·u ∈ ℙ(ℤ) ∧ finite(u) ∧ u ≠ ∅ ⇒ max(u) ∈ u ∧ (∀x·x ∈ u ⇒ x ≤ max(u))
  abbrev pub max_member : Formula
  max_member =
      quantified ForAll (ty.Pow ty.Int ∷ [])
      (implication some_finite_integers (conjunction (member (extreme op.Maximum (integers_bound 0)) (integers_bound 0))
      (of_each_member (at_most (integer_bound 0) (extreme op.Maximum (integers_bound 1))))))

  -- ∀a, b·0 ≤ a ∧ 0 < b ⇒ b ∗ (a ÷ b) ≤ a ∧ a < b ∗ (a ÷ b) + b
  abbrev pub quotient_bounds : Formula
  quotient_bounds =
      quantified ForAll (ty.Int ∷ ty.Int ∷ [])
      (implication natural_and_positive (conjunction
      (at_most (arithmetic op.Times (integer_bound 0) (arithmetic op.Divide (integer_bound 1) (integer_bound 0))) (integer_bound 1))
      (less (integer_bound 1)
      (arithmetic op.Plus (arithmetic op.Times (integer_bound 0) (arithmetic op.Divide (integer_bound 1) (integer_bound 0))) (integer_bound 0)))))

  -- ∀a, b·0 ≤ a ∧ 0 < b ⇒ 0 ≤ a ÷ b ∧ a ÷ b ≤ a
  abbrev pub quotient_range : Formula
  quotient_range =
      quantified ForAll (ty.Int ∷ ty.Int ∷ [])
      (implication natural_and_positive (conjunction
      (at_most zero (arithmetic op.Divide (integer_bound 1) (integer_bound 0)))
      (at_most (arithmetic op.Divide (integer_bound 1) (integer_bound 0)) (integer_bound 1))))

  -- ∀a, b·0 ≤ a ∧ 0 < b ⇒ 0 ≤ a mod b ∧ a mod b < b ∧ a mod b ≤ a
  abbrev pub remainder_bounds : Formula
  remainder_bounds =
      quantified ForAll (ty.Int ∷ ty.Int ∷ [])
      (implication natural_and_positive (conjunction (conjunction
      (at_most zero (arithmetic op.Modulo (integer_bound 1) (integer_bound 0)))
      (less (arithmetic op.Modulo (integer_bound 1) (integer_bound 0)) (integer_bound 0)))
      (at_most (arithmetic op.Modulo (integer_bound 1) (integer_bound 0)) (integer_bound 1))))

  -- ∀a, b·0 ≤ a ∧ a < b ⇒ a mod b = a
  abbrev pub remainder_small : Formula
  remainder_small =
      quantified ForAll (ty.Int ∷ ty.Int ∷ [])
      (implication (conjunction (at_most zero (integer_bound 1)) (less (integer_bound 1) (integer_bound 0)))
      (equal (arithmetic op.Modulo (integer_bound 1) (integer_bound 0)) (integer_bound 1)))

  -- ∀a, n·0 < a ∧ 0 ≤ n ⇒ 1 ≤ a ^ n
  abbrev pub power_least : Formula
  power_least =
      quantified ForAll (ty.Int ∷ ty.Int ∷ [])
      (implication (conjunction (less zero (integer_bound 1)) (at_most zero (integer_bound 0)))
      (at_most one (arithmetic op.Power (integer_bound 1) (integer_bound 0))))

  -- ∀a, n·0 ≤ a ∧ 0 ≤ n ⇒ a ^ (n + 1) = a ∗ (a ^ n)
  abbrev pub power_next : Formula
  power_next =
      quantified ForAll (ty.Int ∷ ty.Int ∷ [])
      (implication (conjunction (at_most zero (integer_bound 1)) (at_most zero (integer_bound 0)))
      (equal (arithmetic op.Power (integer_bound 1) (plus_one (integer_bound 0)))
      (arithmetic op.Times (integer_bound 1) (arithmetic op.Power (integer_bound 1) (integer_bound 0)))))

  abbrev pub facts : List Formula
  facts =
      pairs ∷ pairs_number ∷ finite_within ∷ finite_function ∷ finite_domain ∷ finite_numbers ∷ card_more ∷ card_less ∷ card_within ∷ card_list
      ∷ bounded_below ∷ bounded_above ∷ min_member ∷ max_member ∷ quotient_bounds ∷ quotient_range ∷ remainder_bounds ∷ remainder_small
      ∷ power_least ∷ power_next ∷ []
