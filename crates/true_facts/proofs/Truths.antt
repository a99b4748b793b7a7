-- Formulas beside the values that they denote, in which nothing is cast, and the facts as such.
use Rattle.std.proofs.Common.{◌≡◌, ◌∙◌, ap, refl, ℕ, ℤ, pos, ◌+ℤ◌, ◌-ℤ◌, ◌*ℤ◌, int_le, int_lt, List, [], ◌∷◌, Some, slice_get, Bool, true, false, not, ◌&&◌, ◌||◌}
use Rattle.std.specs.Prelude.{⊤}
use Rattle.formula_core.specs.declared.Binder.TheVariants.{ForAll, Exists}
use Rattle.formula_core.specs.declared.Formula.{Formula}
use Rattle.formula_core.specs.declared.Formula.TheVariants.{Int, Free, Bound, Node, Bind}
use Rattle.formula_core.specs.declared.Op.{Op}
use Rattle.formula_core.specs.declared.Op.TheVariants as op
use Rattle.formula_core.specs.declared.Ty.{Ty}
use Rattle.formula_core.specs.declared.Ty.TheVariants as ty
use Rattle.meanings.specs.Denotations.{Assignment, bound_value, denotation, holds, AreTrue}
use Rattle.meanings.specs.Operations.{implies, equivalent, truth_value, of_list, is_subset, is_finite, has_at_most, least_number, greatest_number, quotient, remainder, raised_to, is_single_valued}
use Rattle.meanings.specs.Universes.{Universe, Valuation, some, every, some_of, every_of}
use Rattle.meanings.specs.Values.{Sort, integer_sort, boolean_sort, carrier_sort, power_sort, pair_sort, Value, sort}
use Rattle.meanings.proofs.Bools.{implies_from}
use Rattle.meanings.proofs.Casts.{cast_own}
use Rattle.meanings.proofs.Denotations.{sort-Int, sort-Truth, denotation-Int, denotation-Free, denotation-Bound}
use Rattle.meanings.proofs.Quantifiers.{some_holds, every_holds}
use Rattle.meanings.proofs.Truths.{at_node, at_binder}
use Rattle.true_facts.specs.Facts as fact
use Rattle.true_facts.specs.Facts.{facts}
use Rattle.true_facts.proofs.Bounds.{bounds_below, bounds_above, has_minimum, has_maximum}
use Rattle.true_facts.proofs.Counting.{size_with, size_without}
use Rattle.true_facts.proofs.Finite.{within_finite, within_size, function_finite, domain_finite, between_finite, list_size}
use Rattle.true_facts.proofs.Quotients.{divide_bounds, divide_range, modulo_bounds, modulo_small, power_positive, power_step}
use Rattle.true_facts.proofs.Types.{type, sort_type}

module _ {carrier : List ℕ → Type 0} (U : Universe carrier) (names : Valuation carrier) where
  -- values of the bound identifiers, the last one bound first
  abbrev Values : List Sort → Type 0
  Values [] = ⊤
  Values (s ∷ sorts) = Value carrier s × Values sorts

  abbrev assigned : (sorts : List Sort) → Values sorts → Assignment U
  assigned [] v = []
  assigned (s ∷ sorts) v = (s, v.0) ∷ assigned sorts v.1

  -- a formula below identifiers of these sorts, and the value that it denotes
  record Term (sorts : List Sort) (s : Sort) : Type 0 where
    formula : Formula
    value : Values sorts → Value carrier s
    means : (v : Values sorts) → denotation U names formula (assigned sorts v) ≡ (s, value v)

  abbrev number : {sorts : List Sort} → ℕ → Term sorts integer_sort
  number {sorts} n = record { formula = Int (pos n); value = λ v. pos n; means = λ v. denotation-Int U names (pos n) (assigned sorts v) }

  abbrev named : {sorts : List Sort} → List ℕ → (s : Sort) → Term sorts s
  named {sorts} name s = record {
    formula = Free name (type s);
    value = λ v. names name s;
    means = λ v. denotation-Free U names name (type s) (assigned sorts v) ∙ (λ i. (sort_type s i, names name (sort_type s i)));
  }

  abbrev bound : {sorts : List Sort} → (k : ℕ) (s : Sort) (pick : Values sorts → Value carrier s) → ((v : Values sorts) → slice_get (assigned sorts v) k ≡ Some (s, pick v)) → Term sorts s
  bound {sorts} k s pick h = record {
    formula = Bound k (type s);
    value = pick;
    means = λ v.
        denotation-Bound U names k (type s) (assigned sorts v) ∙ (λ i. (sort_type s i, bound_value U (sort_type s i) (h v i)))
        ∙ (λ i. (s, cast_own U s (pick v) i));
  }

  -- the identifier that was bound last, and those before it
  abbrev b0 : {sorts : List Sort} {a : Sort} → Term (a ∷ sorts) a
  b0 {sorts} {a} = bound {sorts = a ∷ sorts} 0 a (λ v. v.0) (λ v. refl)

  abbrev b1 : {sorts : List Sort} {a b : Sort} → Term (b ∷ a ∷ sorts) a
  b1 {sorts} {a} {b} = bound {sorts = b ∷ a ∷ sorts} 1 a (λ v. v.1.0) (λ v. refl)

  abbrev b2 : {sorts : List Sort} {a b c : Sort} → Term (c ∷ b ∷ a ∷ sorts) a
  b2 {sorts} {a} {b} {c} = bound {sorts = c ∷ b ∷ a ∷ sorts} 2 a (λ v. v.1.1.0) (λ v. refl)

  abbrev b3 : {sorts : List Sort} {a b c d : Sort} → Term (d ∷ c ∷ b ∷ a ∷ sorts) a
  b3 {sorts} {a} {b} {c} {d} = bound {sorts = d ∷ c ∷ b ∷ a ∷ sorts} 3 a (λ v. v.1.1.1.0) (λ v. refl)

  -- an operator on none, on one and on two, with what it makes of the values
  abbrev none : {sorts : List Sort} → (o : Op) (s : Sort) → Term sorts s
  none {sorts} o s = record { formula = Node o [] (type s); value = λ v. of_list U o s []; means = λ v. at_node U names o [] (type s) s (sort_type s) (assigned sorts v) }

  abbrev one : {sorts : List Sort} {a : Sort} → (o : Op) (t : Ty) (s : Sort) → sort t ≡ s → (x : Term sorts a) (f : Value carrier a → Value carrier s)
      → ((v : Value carrier a) → of_list U o s ((a, v) ∷ []) ≡ f v) → Term sorts s
  one {sorts} {a} o t s e x f h = record {
    formula = Node o (x.formula ∷ []) t;
    value = λ v. f (x.value v);
    means = λ v. at_node U names o (x.formula ∷ []) t s e (assigned sorts v) ∙ (λ i. (s, of_list U o s (x.means v i ∷ []))) ∙ (λ i. (s, h (x.value v) i));
  }

  abbrev two : {sorts : List Sort} {a b : Sort} → (o : Op) (t : Ty) (s : Sort) → sort t ≡ s → (x : Term sorts a) (y : Term sorts b) (f : Value carrier a → Value carrier b → Value carrier s)
      → ((v : Value carrier a) (w : Value carrier b) → of_list U o s ((a, v) ∷ (b, w) ∷ []) ≡ f v w) → Term sorts s
  two {sorts} {a} {b} o t s e x y f h = record {
    formula = Node o (x.formula ∷ y.formula ∷ []) t;
    value = λ v. f (x.value v) (y.value v);
    means = λ v.
        at_node U names o (x.formula ∷ y.formula ∷ []) t s e (assigned sorts v) ∙ (λ i. (s, of_list U o s (x.means v i ∷ y.means v i ∷ [])))
        ∙ (λ i. (s, h (x.value v) (y.value v) i));
  }

  -- predicates
  abbrev denied : {sorts : List Sort} → Term sorts boolean_sort → Term sorts boolean_sort
  denied p = one op.Not ty.Truth boolean_sort sort-Truth p (λ v. not v) (λ v. refl)

  abbrev both : {sorts : List Sort} → Term sorts boolean_sort → Term sorts boolean_sort → Term sorts boolean_sort
  both p q = two op.And ty.Truth boolean_sort sort-Truth p q (λ v w. v && w) (λ v w. refl)

  abbrev implied : {sorts : List Sort} → Term sorts boolean_sort → Term sorts boolean_sort → Term sorts boolean_sort
  implied p q = two op.Implies ty.Truth boolean_sort sort-Truth p q (λ v w. implies v w) (λ v w. refl)

  abbrev same : {sorts : List Sort} {a : Sort} → Term sorts a → Term sorts a → Term sorts boolean_sort
  same {sorts} {a} x y = two op.Equal ty.Truth boolean_sort sort-Truth x y (λ v w. U.same a v w) (λ v w i. U.same a v (cast_own U a w i))

  abbrev is_in : {sorts : List Sort} {a : Sort} → Term sorts a → Term sorts (power_sort a) → Term sorts boolean_sort
  is_in {sorts} {a} x y = two op.Member ty.Truth boolean_sort sort-Truth x y (λ v w. w v) (λ v w i. cast_own U (power_sort a) w i v)

  abbrev is_within : {sorts : List Sort} {a : Sort} → Term sorts (power_sort a) → Term sorts (power_sort a) → Term sorts boolean_sort
  is_within {sorts} {a} x y =
      two op.Subset ty.Truth boolean_sort sort-Truth x y (λ v w. is_subset U a v w)
      (λ v w i. is_subset U a (cast_own U (power_sort a) v i) (cast_own U (power_sort a) w i))

  abbrev is_less : {sorts : List Sort} → Term sorts integer_sort → Term sorts integer_sort → Term sorts boolean_sort
  is_less x y = two op.Less ty.Truth boolean_sort sort-Truth x y (λ v w. int_lt v w) (λ v w. refl)

  abbrev is_at_most : {sorts : List Sort} → Term sorts integer_sort → Term sorts integer_sort → Term sorts boolean_sort
  is_at_most x y = two op.LessOrEqual ty.Truth boolean_sort sort-Truth x y (λ v w. int_le v w) (λ v w. refl)

  abbrev finite : {sorts : List Sort} {a : Sort} → Term sorts (power_sort a) → Term sorts boolean_sort
  finite {sorts} {a} x = one op.Finite ty.Truth boolean_sort sort-Truth x (λ v. is_finite U a v) (λ v i. is_finite U a (cast_own U (power_sort a) v i))

  -- numbers
  abbrev sized : {sorts : List Sort} {a : Sort} → Term sorts (power_sort a) → Term sorts integer_sort
  sized {sorts} {a} x =
      one op.Cardinality ty.Int integer_sort sort-Int x (λ v. least_number U (has_at_most U a v))
      (λ v i. least_number U (has_at_most U a (cast_own U (power_sort a) v i)))

  abbrev least : {sorts : List Sort} → Term sorts (power_sort integer_sort) → Term sorts integer_sort
  least x = one op.Minimum ty.Int integer_sort sort-Int x (λ v. least_number U v) (λ v. refl)

  abbrev greatest : {sorts : List Sort} → Term sorts (power_sort integer_sort) → Term sorts integer_sort
  greatest x = one op.Maximum ty.Int integer_sort sort-Int x (λ v. greatest_number U v) (λ v. refl)

  abbrev plus : {sorts : List Sort} → Term sorts integer_sort → Term sorts integer_sort → Term sorts integer_sort
  plus x y = two op.Plus ty.Int integer_sort sort-Int x y (λ v w. v +ℤ w) (λ v w. refl)

  abbrev minus : {sorts : List Sort} → Term sorts integer_sort → Term sorts integer_sort → Term sorts integer_sort
  minus x y = two op.Minus ty.Int integer_sort sort-Int x y (λ v w. v -ℤ w) (λ v w. refl)

  abbrev times : {sorts : List Sort} → Term sorts integer_sort → Term sorts integer_sort → Term sorts integer_sort
  times x y = two op.Times ty.Int integer_sort sort-Int x y (λ v w. v *ℤ w) (λ v w. refl)

  abbrev over : {sorts : List Sort} → Term sorts integer_sort → Term sorts integer_sort → Term sorts integer_sort
  over x y = two op.Divide ty.Int integer_sort sort-Int x y (λ v w. quotient U v w) (λ v w. refl)

  abbrev modulo : {sorts : List Sort} → Term sorts integer_sort → Term sorts integer_sort → Term sorts integer_sort
  modulo x y = two op.Modulo ty.Int integer_sort sort-Int x y (λ v w. remainder U v w) (λ v w. refl)

  abbrev raised : {sorts : List Sort} → Term sorts integer_sort → Term sorts integer_sort → Term sorts integer_sort
  raised x y = two op.Power ty.Int integer_sort sort-Int x y (λ v w. raised_to U v w) (λ v w. refl)

  -- pairs and sets
  abbrev maps : {sorts : List Sort} {a b : Sort} → Term sorts a → Term sorts b → Term sorts (pair_sort a b)
  maps {sorts} {a} {b} x y =
      two op.Maplet (type (pair_sort a b)) (pair_sort a b) (sort_type (pair_sort a b)) x y (λ v w. (v, w)) (λ v w i. (cast_own U a v i, cast_own U b w i))

  abbrev crossed : {sorts : List Sort} {a b : Sort} → Term sorts (power_sort a) → Term sorts (power_sort b) → Term sorts (power_sort (pair_sort a b))
  crossed {sorts} {a} {b} x y =
      let s : Sort = power_sort (pair_sort a b) in
      two op.Product (type s) s (sort_type s) x y (λ v w p. v p.0 && w p.1) (λ v w i p. cast_own U (power_sort a) v i p.0 && cast_own U (power_sort b) w i p.1)

  abbrev joined : {sorts : List Sort} {a : Sort} → Term sorts (power_sort a) → Term sorts (power_sort a) → Term sorts (power_sort a)
  joined {sorts} {a} x y =
      let s : Sort = power_sort a in
      two op.Union (type s) s (sort_type s) x y (λ v w z. v z || w z) (λ v w i z. cast_own U s v i z || cast_own U s w i z)

  abbrev left_of : {sorts : List Sort} {a : Sort} → Term sorts (power_sort a) → Term sorts (power_sort a) → Term sorts (power_sort a)
  left_of {sorts} {a} x y =
      let s : Sort = power_sort a in
      two op.Difference (type s) s (sort_type s) x y (λ v w z. v z && not (w z)) (λ v w i z. cast_own U s v i z && not (cast_own U s w i z))

  abbrev only : {sorts : List Sort} {a : Sort} → Term sorts a → Term sorts (power_sort a)
  only {sorts} {a} x =
      let s : Sort = power_sort a in
      one op.SetExtension (type s) s (sort_type s) x (λ v z. U.same a z v || false) (λ v i z. U.same a z (cast_own U a v i) || false)

  abbrev from_to : {sorts : List Sort} → Term sorts integer_sort → Term sorts integer_sort → Term sorts (power_sort integer_sort)
  from_to x y =
      let s : Sort = power_sort integer_sort in two op.Interval (type s) s (sort_type s) x y (λ v w z. int_le v z && int_le z w) (λ v w. refl)

  abbrev sets_in : {sorts : List Sort} {a : Sort} → Term sorts (power_sort a) → Term sorts (power_sort (power_sort a))
  sets_in {sorts} {a} x =
      let s : Sort = power_sort (power_sort a) in
      one op.PowerSet (type s) s (sort_type s) x (λ v z. is_subset U a z v) (λ v i z. is_subset U a (cast_own U (power_sort a) z i) (cast_own U (power_sort a) v i))

  abbrev domain : {sorts : List Sort} {a b : Sort} → Term sorts (power_sort (pair_sort a b)) → Term sorts (power_sort a)
  domain {sorts} {a} {b} x =
      let s : Sort = power_sort a in
      one op.Domain (type s) s (sort_type s) x (λ v z. some U b (λ y. v (z, y))) (λ v i z. some U b (λ y. cast_own U (power_sort (pair_sort a b)) v i (z, y)))

  abbrev Between : (a b : Sort) → (Value carrier a → Bool) → (Value carrier b → Bool) → (Value carrier (pair_sort a b) → Bool) → Bool
  Between a b v w f = every U a (λ x. every U b (λ y. implies (f (x, y)) (v x && w y)))

  abbrev Whole : (a b : Sort) → (Value carrier a → Bool) → (Value carrier (pair_sort a b) → Bool) → Bool
  Whole a b v f = every U a (λ x. equivalent (some U b (λ y. f (x, y))) (v x))

  abbrev partial_functions : {sorts : List Sort} {a b : Sort} → Term sorts (power_sort a) → Term sorts (power_sort b) → Term sorts (power_sort (power_sort (pair_sort a b)))
  partial_functions {sorts} {a} {b} x y =
      let s : Sort = power_sort (power_sort (pair_sort a b)) in
      two op.PartialFunctions (type s) s (sort_type s) x y (λ v w f. Between a b v w f && is_single_valued U a b f)
      (λ v w i f. Between a b (cast_own U (power_sort a) v i) (cast_own U (power_sort b) w i) f && is_single_valued U a b f)

  abbrev total_functions : {sorts : List Sort} {a b : Sort} → Term sorts (power_sort a) → Term sorts (power_sort b) → Term sorts (power_sort (power_sort (pair_sort a b)))
  total_functions {sorts} {a} {b} x y =
      let s : Sort = power_sort (power_sort (pair_sort a b)) in
      two op.TotalFunctions (type s) s (sort_type s) x y (λ v w f. (Between a b v w f && is_single_valued U a b f) && Whole a b v f)
      (λ v w i f. (Between a b (cast_own U (power_sort a) v i) (cast_own U (power_sort b) w i) f && is_single_valued U a b f) && Whole a b (cast_own U (power_sort a) v i) f)

  -- quantifiers over one identifier, two, and three
  abbrev all_one : {sorts : List Sort} {a : Sort} → Term (a ∷ sorts) boolean_sort → Term sorts boolean_sort
  all_one {sorts} {a} p = record {
    formula = Bind ForAll (type a ∷ []) (p.formula ∷ []) ty.Truth;
    value = λ v. every U a (λ x. p.value (x, v));
    means = λ v.
        at_binder U names ForAll (type a ∷ []) (p.formula ∷ []) ty.Truth boolean_sort sort-Truth (assigned sorts v)
        ∙ (λ i. (boolean_sort, every_of U (sort_type a i ∷ []) (assigned sorts v) (λ τ. truth_value U (denotation U names p.formula τ))))
        ∙ (λ i. (boolean_sort, every U a (λ x. truth_value U (p.means (x, v) i))));
  }

  abbrev all_two : {sorts : List Sort} {a b : Sort} → Term (b ∷ a ∷ sorts) boolean_sort → Term sorts boolean_sort
  all_two {sorts} {a} {b} p = record {
    formula = Bind ForAll (type a ∷ type b ∷ []) (p.formula ∷ []) ty.Truth;
    value = λ v. every U a (λ x. every U b (λ y. p.value (y, (x, v))));
    means = λ v.
        at_binder U names ForAll (type a ∷ type b ∷ []) (p.formula ∷ []) ty.Truth boolean_sort sort-Truth (assigned sorts v)
        ∙ (λ i. (boolean_sort, every_of U (sort_type a i ∷ sort_type b i ∷ []) (assigned sorts v) (λ τ. truth_value U (denotation U names p.formula τ))))
        ∙ (λ i. (boolean_sort, every U a (λ x. every U b (λ y. truth_value U (p.means (y, (x, v)) i)))));
  }

  abbrev all_three : {sorts : List Sort} {a b c : Sort} → Term (c ∷ b ∷ a ∷ sorts) boolean_sort → Term sorts boolean_sort
  all_three {sorts} {a} {b} {c} p = record {
    formula = Bind ForAll (type a ∷ type b ∷ type c ∷ []) (p.formula ∷ []) ty.Truth;
    value = λ v. every U a (λ x. every U b (λ y. every U c (λ z. p.value (z, (y, (x, v))))));
    means = λ v.
        at_binder U names ForAll (type a ∷ type b ∷ type c ∷ []) (p.formula ∷ []) ty.Truth boolean_sort sort-Truth (assigned sorts v)
        ∙ (λ i. (boolean_sort, every_of U (sort_type a i ∷ sort_type b i ∷ sort_type c i ∷ []) (assigned sorts v) (λ τ. truth_value U (denotation U names p.formula τ))))
        ∙ (λ i. (boolean_sort, every U a (λ x. every U b (λ y. every U c (λ z. truth_value U (p.means (z, (y, (x, v))) i))))));
  }

  abbrev some_one : {sorts : List Sort} {a : Sort} → Term (a ∷ sorts) boolean_sort → Term sorts boolean_sort
  some_one {sorts} {a} p = record {
    formula = Bind Exists (type a ∷ []) (p.formula ∷ []) ty.Truth;
    value = λ v. some U a (λ x. p.value (x, v));
    means = λ v.
        at_binder U names Exists (type a ∷ []) (p.formula ∷ []) ty.Truth boolean_sort sort-Truth (assigned sorts v)
        ∙ (λ i. (boolean_sort, some_of U (sort_type a i ∷ []) (assigned sorts v) (λ τ. truth_value U (denotation U names p.formula τ))))
        ∙ (λ i. (boolean_sort, some U a (λ x. truth_value U (p.means (x, v) i))));
  }

  abbrev some_two : {sorts : List Sort} {a b : Sort} → Term (b ∷ a ∷ sorts) boolean_sort → Term sorts boolean_sort
  some_two {sorts} {a} {b} p = record {
    formula = Bind Exists (type a ∷ type b ∷ []) (p.formula ∷ []) ty.Truth;
    value = λ v. some U a (λ x. some U b (λ y. p.value (y, (x, v))));
    means = λ v.
        at_binder U names Exists (type a ∷ type b ∷ []) (p.formula ∷ []) ty.Truth boolean_sort sort-Truth (assigned sorts v)
        ∙ (λ i. (boolean_sort, some_of U (sort_type a i ∷ sort_type b i ∷ []) (assigned sorts v) (λ τ. truth_value U (denotation U names p.formula τ))))
        ∙ (λ i. (boolean_sort, some U a (λ x. some U b (λ y. truth_value U (p.means (y, (x, v)) i)))));
  }

  -- a claim on all values is true where each value makes it true
  of_all : (a : Sort) (p : Term (a ∷ []) boolean_sort) → ((x : Value carrier a) → p.value (x, tt) ≡ true) → holds U names (all_one p).formula ≡ true
  of_all a p h = ap (truth_value U) ((all_one p).means tt) ∙ every_holds U a (λ x. p.value (x, tt)) h

  of_all_two : (a b : Sort) (p : Term (b ∷ a ∷ []) boolean_sort) → ((x : Value carrier a) (y : Value carrier b) → p.value (y, (x, tt)) ≡ true) → holds U names (all_two p).formula ≡ true
  of_all_two a b p h =
      ap (truth_value U) ((all_two p).means tt)
      ∙ every_holds U a (λ x. every U b (λ y. p.value (y, (x, tt)))) (λ x. every_holds U b (λ y. p.value (y, (x, tt))) (h x))

  of_all_three : (a b c : Sort) (p : Term (c ∷ b ∷ a ∷ []) boolean_sort) → ((x : Value carrier a) (y : Value carrier b) (z : Value carrier c) → p.value (z, (y, (x, tt))) ≡ true)
      → holds U names (all_three p).formula ≡ true
  of_all_three a b c p h =
      ap (truth_value U) ((all_three p).means tt)
      ∙ every_holds U a (λ x. every U b (λ y. every U c (λ z. p.value (z, (y, (x, tt)))))) (λ x.
      every_holds U b (λ y. every U c (λ z. p.value (z, (y, (x, tt))))) (λ y. every_holds U c (λ z. p.value (z, (y, (x, tt)))) (h x y)))

  -- each pair has two sides
  pair_made : (a b : Sort) (c : Bool) (p : Value carrier (pair_sort a b)) → implies c (some U a (λ x. some U b (λ y. U.same (pair_sort a b) p (x, y)))) ≡ true
  pair_made a b c p = implies_from c _ (λ h.
      some_holds U a (λ x. some U b (λ y. U.same (pair_sort a b) p (x, y))) p.0
      (some_holds U b (λ y. U.same (pair_sort a b) p (p.0, y)) p.1 ((U.same_exact (pair_sort a b) p p).1 refl)))

  abbrev Integers : {sorts : List Sort} → Term sorts (power_sort integer_sort)
  Integers = none op.Integers (power_sort integer_sort)

  abbrev Naturals : {sorts : List Sort} → Term sorts (power_sort integer_sort)
  Naturals = none op.Naturals (power_sort integer_sort)

  abbrev Empty : {sorts : List Sort} → Term sorts (power_sort integer_sort)
  Empty = none op.EmptySet (power_sort integer_sort)

  -- what is said of a finite set of integers, and of one with members
  abbrev of_finite : Term (power_sort integer_sort ∷ []) boolean_sort
  of_finite = both (is_in b0 (sets_in Integers)) (finite b0)

  abbrev of_some_finite : Term (power_sort integer_sort ∷ []) boolean_sort
  of_some_finite = both of_finite (denied (same b0 Empty))

  abbrev positive : Term (integer_sort ∷ integer_sort ∷ []) boolean_sort
  positive = both (is_at_most (number 0) b1) (is_less (number 0) b0)

  module _ (S T : List ℕ) where
    abbrev s : Sort
    s = carrier_sort S

    abbrev t : Sort
    t = carrier_sort T

    abbrev set_S : {sorts : List Sort} → Term sorts (power_sort s)
    set_S = named S (power_sort s)

    abbrev set_T : {sorts : List Sort} → Term sorts (power_sort t)
    set_T = named T (power_sort t)

    pairs : holds U names (fact.pairs S T) ≡ true
    pairs = of_all (pair_sort s t) (implied (is_in b0 (crossed set_S set_T)) (some_two (same b2 (maps b1 b0)))) (λ p. pair_made s t _ p)

    pairs_number : holds U names (fact.pairs_number S T) ≡ true
    pairs_number =
        of_all (pair_sort s integer_sort) (implied (is_in b0 (crossed set_S Integers)) (some_two (same b2 (maps b1 b0)))) (λ p. pair_made s integer_sort _ p)

    finite_within : holds U names (fact.finite_within S T) ≡ true
    finite_within =
        of_all_two (power_sort s) (power_sort s) (implied (both (both (is_in b0 (sets_in set_S)) (finite b0)) (is_within b1 b0)) (finite b1)) (λ u v. within_finite U s _ u v)

    finite_function : holds U names (fact.finite_function S T) ≡ true
    finite_function =
        of_all (power_sort (pair_sort s t)) (implied (both (is_in b0 (partial_functions set_S set_T)) (finite (domain b0))) (finite b0)) (λ f. function_finite U s t f _)

    finite_domain : holds U names (fact.finite_domain S T) ≡ true
    finite_domain =
        of_all (power_sort (pair_sort s t)) (implied (both (is_in b0 (partial_functions set_S set_T)) (finite b0)) (finite (domain b0))) (λ f. domain_finite U s t f _)

    finite_numbers : holds U names (fact.finite_numbers S T) ≡ true
    finite_numbers =
        of_all_three (power_sort integer_sort) integer_sort integer_sort
        (implied (both (is_in b2 (sets_in Integers)) (all_one (implied (is_in b0 b3) (both (is_at_most b2 b0) (is_at_most b0 b1))))) (finite b2))
        (λ u a b. between_finite U _ a b u)

    card_more : holds U names (fact.card_more S T) ≡ true
    card_more =
        of_all_two (power_sort s) s
        (implied (both (both (is_in b1 (sets_in set_S)) (finite b1)) (denied (is_in b0 b1))) (same (sized (joined b1 (only b0))) (plus (sized b1) (number 1))))
        (λ u x. size_with U s _ u x)

    card_less : holds U names (fact.card_less S T) ≡ true
    card_less =
        of_all_two (power_sort s) s
        (implied (both (both (is_in b1 (sets_in set_S)) (finite b1)) (is_in b0 b1)) (same (sized (left_of b1 (only b0))) (minus (sized b1) (number 1))))
        (λ u x. size_without U s _ u x)

    card_within : holds U names (fact.card_within S T) ≡ true
    card_within =
        of_all_two (power_sort s) (power_sort s)
        (implied (both (both (both (is_in b0 (sets_in set_S)) (finite b0)) (is_within b1 b0)) (finite b1)) (is_at_most (sized b1) (sized b0)))
        (λ u v. within_size U s _ u v)

    card_list : holds U names (fact.card_list S T) ≡ true
    card_list =
        of_all_two (power_sort (pair_sort integer_sort t)) integer_sort
        (implied (both (both (is_in b0 Naturals) (is_in b1 (total_functions (from_to (number 1) b0) set_T))) (finite b1)) (same (sized b1) b0))
        (λ f n. list_size U t f (names T (power_sort t)) n)

    bounded_below : holds U names (fact.bounded_below S T) ≡ true
    bounded_below = of_all (power_sort integer_sort) (implied of_finite (some_one (all_one (implied (is_in b0 b2) (is_at_most b1 b0))))) (λ u. bounds_below U _ u)

    bounded_above : holds U names (fact.bounded_above S T) ≡ true
    bounded_above = of_all (power_sort integer_sort) (implied of_finite (some_one (all_one (implied (is_in b0 b2) (is_at_most b0 b1))))) (λ u. bounds_above U _ u)

    min_member : holds U names (fact.min_member S T) ≡ true
    min_member =
        of_all (power_sort integer_sort) (implied of_some_finite (both (is_in (least b0) b0) (all_one (implied (is_in b0 b1) (is_at_most (least b1) b0))))) (λ u. has_minimum U _ u)

    max_member : holds U names (fact.max_member S T) ≡ true
    max_member =
        of_all (power_sort integer_sort) (implied of_some_finite (both (is_in (greatest b0) b0) (all_one (implied (is_in b0 b1) (is_at_most b0 (greatest b1)))))) (λ u. has_maximum U _ u)

    quotient_bounds : holds U names (fact.quotient_bounds S T) ≡ true
    quotient_bounds =
        of_all_two integer_sort integer_sort (implied positive (both (is_at_most (times b0 (over b1 b0)) b1) (is_less b1 (plus (times b0 (over b1 b0)) b0)))) (divide_bounds U)

    quotient_range : holds U names (fact.quotient_range S T) ≡ true
    quotient_range = of_all_two integer_sort integer_sort (implied positive (both (is_at_most (number 0) (over b1 b0)) (is_at_most (over b1 b0) b1))) (divide_range U)

    remainder_bounds : holds U names (fact.remainder_bounds S T) ≡ true
    remainder_bounds =
        of_all_two integer_sort integer_sort (implied positive (both (both (is_at_most (number 0) (modulo b1 b0)) (is_less (modulo b1 b0) b0)) (is_at_most (modulo b1 b0) b1)))
        (modulo_bounds U)

    remainder_small : holds U names (fact.remainder_small S T) ≡ true
    remainder_small = of_all_two integer_sort integer_sort (implied (both (is_at_most (number 0) b1) (is_less b1 b0)) (same (modulo b1 b0) b1)) (modulo_small U)

    power_least : holds U names (fact.power_least S T) ≡ true
    power_least = of_all_two integer_sort integer_sort (implied (both (is_less (number 0) b1) (is_at_most (number 0) b0)) (is_at_most (number 1) (raised b1 b0))) (power_positive U)

    power_next : holds U names (fact.power_next S T) ≡ true
    power_next =
        of_all_two integer_sort integer_sort
        (implied (both (is_at_most (number 0) b1) (is_at_most (number 0) b0)) (same (raised b1 (plus b0 (number 1))) (times b1 (raised b1 b0))))
        (power_step U)

    pub facts_hold : AreTrue U names (facts S T)
    facts_hold = (
      pairs,
      (
        pairs_number,
        (
          finite_within,
          (
            finite_function,
            (
              finite_domain,
              (
                finite_numbers,
                (
                  card_more,
                  (
                    card_less,
                    (
                      card_within,
                      (
                        card_list,
                        (bounded_below, (bounded_above, (min_member, (max_member, (quotient_bounds, (quotient_range, (remainder_bounds, (remainder_small, (power_least, (power_next, tt)))))))))),
                      ),
                    ),
                  ),
                ),
              ),
            ),
          ),
        ),
      ),
    )
