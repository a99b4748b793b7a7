-- Operators make the same in both universes, where they have a value.
use Rattle.std.proofs.Common.{Bool, List, [], ap, arith, false, int_div, int_le, int_lt, map, neg_ℤ, negsuc, not, pos, refl, subst, sym, true, ℕ, ℤ, ◌%◌, ◌&&◌, ◌*ℤ◌, ◌+ℤ◌, ◌-ℤ◌, ◌==◌, ◌∙◌, ◌∷◌, ◌||◌, ◌≡◌}
use Rattle.std.proofs.lemmas.Bool.{eqb-true}
use Rattle.std.proofs.lemmas.Int.{ints}
use Rattle.std.specs.List.{AllByRecursion, list_any}
use Rattle.std.specs.Ordering.{int_eq}
use Rattle.std.specs.Prelude.{if◌then◌else◌, ⊤}
use Rattle.formula_core.specs.Rows.{row_of}
use Rattle.formula_core.specs.declared.Op.{Op}
use Rattle.formula_core.specs.declared.Op.TheVariants as op
use Rattle.meanings.specs.Operations.{contains, equivalent, from_sort, has_at_most, has_whole_domain, has_whole_range, implies, is_arrow, is_between, is_injective, is_single_valued, is_subset, least_number, greatest_number, member_sort, of_list, quotient, raised_to, relates, remainder, to_sort, whole_number}
use Rattle.meanings.specs.Universes.{Universe, arbitrary, cast, some}
use Rattle.meanings.specs.Values.{Denotation, Sort, Value, boolean_sort, integer_sort, pair_sort, power_sort}
use Rattle.defined_meanings.proofs.LeastNumbers.{greatest_both, is_greatest, is_least, least_both}
use Rattle.defined_meanings.proofs.Sorts.{SortsFit}
use Rattle.defined_meanings.proofs.Universes.{at_most_both, cast_both, contains_both, every_both, finite_both, function_both, number_both, relates_both, relation_sort, same_both, some_both, truth_both}

-- a set's sort is the set of its members' sort
pub own_members : (a x : Sort) → a ≡ power_sort x → a ≡ power_sort (member_sort a)
own_members a x e = e ∙ ap (λ s. power_sort (member_sort s)) (sym e)

module _ {carrier : List ℕ → Type 0} (U : Universe carrier) where
  -- what the operators that are partial ask of their operands
  abbrev pub HasValue : Op → List (Denotation carrier) → Type 0
  HasValue op.Cardinality (x ∷ []) = (m : ℤ) × (is_least U (has_at_most U (member_sort x.0) (contains U x (member_sort x.0))) m ≡ true)
  HasValue op.Minimum (x ∷ []) = (m : ℤ) × (is_least U (contains U x integer_sort) m ≡ true)
  HasValue op.Maximum (x ∷ []) = (m : ℤ) × (is_greatest U (contains U x integer_sort) m ≡ true)
  HasValue op.Divide (x ∷ y ∷ []) = int_eq (whole_number U y) (pos 0) ≡ false
  HasValue op.Modulo (x ∷ y ∷ []) = (int_le (pos 0) (whole_number U x) ≡ true) × (int_lt (pos 0) (whole_number U y) ≡ true)
  HasValue op.Power (x ∷ y ∷ []) = (int_le (pos 0) (whole_number U x) ≡ true) × (int_le (pos 0) (whole_number U y) ≡ true)
  HasValue op.Apply (x ∷ y ∷ []) =
      let b = to_sort x.0 in
      (some U b (relates U x y.0 b y.1) ≡ true)
      × ((v w : Value carrier b) → relates U x y.0 b y.1 v ≡ true → relates U x y.0 b y.1 w ≡ true → v ≡ w)
  HasValue _ _ = ⊤

module _ {carrier : List ℕ → Type 0} (U V : Universe carrier) where
  abbrev pub Same : Op → Sort → List (Denotation carrier) → Type 0
  Same o s xs = of_list U o s xs ≡ of_list V o s xs

  at : (o : Op) (s t : Sort) (xs : List (Denotation carrier)) → s ≡ t → Same o t xs → Same o s xs
  at o s t xs e h = subst (λ s. Same o s xs) (sym e) h

  -- operators without operand
  none_same : (o : Op) (s : Sort) → SortsFit (row_of o) [] s → Same o s []
  none_same op.Top s h = at op.Top s boolean_sort [] h refl
  none_same op.Bottom s h = at op.Bottom s boolean_sort [] h refl
  none_same op.TrueValue s h = at op.TrueValue s boolean_sort [] h refl
  none_same op.FalseValue s h = at op.FalseValue s boolean_sort [] h refl
  none_same op.Booleans s h = at op.Booleans s (power_sort boolean_sort) [] h refl
  none_same op.Integers s h = at op.Integers s (power_sort integer_sort) [] h refl
  none_same op.Naturals s h = at op.Naturals s (power_sort integer_sort) [] h refl
  none_same op.PositiveNaturals s h = at op.PositiveNaturals s (power_sort integer_sort) [] h refl
  none_same op.EmptySet s h = at op.EmptySet s (power_sort h.0) [] h.1 refl
  none_same op.Identity s h =
      at op.Identity s (relation_sort h.0 h.0) [] h.1 (λ i v. same_both U V h.0 (cast_both U V h.0 (h.0, v.0) refl i) v.1 i)
  none_same op.FirstProjection s h =
      at op.FirstProjection s (relation_sort (pair_sort h.0 h.1) h.0) [] h.2 (λ i v. same_both U V h.0 (cast_both U V h.0 (h.0, v.0.0) refl i) v.1 i)
  none_same op.SecondProjection s h =
      at op.SecondProjection s (relation_sort (pair_sort h.0 h.1) h.1) [] h.2 (λ i v. same_both U V h.1 (cast_both U V h.1 (h.1, v.0.1) refl i) v.1 i)
  none_same op.Successor s h = at op.Successor s (relation_sort integer_sort integer_sort) [] h refl
  none_same op.Predecessor s h = at op.Predecessor s (relation_sort integer_sort integer_sort) [] h refl
  none_same _ s h = absurd h

  any_both : (a : Sort) (v : Value carrier a) (xs : List (Denotation carrier)) → AllByRecursion (λ b. b ≡ a) (map (λ x. x.0) xs)
      → list_any (λ x. U.same a v (cast U a x)) xs ≡ list_any (λ x. V.same a v (cast V a x)) xs
  any_both a v [] each = refl
  any_both a v (x ∷ xs) each = λ i. same_both U V a v (cast_both U V a x each.0 i) i || any_both a v xs each.1 i

  extension_same : (s a : Sort) (xs : List (Denotation carrier)) → AllByRecursion (λ b. b ≡ a) (map (λ x. x.0) xs) → s ≡ power_sort a → Same op.SetExtension s xs
  extension_same s a xs each e = at op.SetExtension s (power_sort a) xs e (λ i v. any_both a v xs each i)

  included_both : (a : Sort) (x y : Denotation carrier) → x.0 ≡ power_sort a → y.0 ≡ power_sort a
      → is_subset U a (contains U x a) (contains U y a) ≡ is_subset V a (contains V x a) (contains V y a)
  included_both a x y e f = λ i. every_both U V a (λ v. implies (contains_both U V x a e v i) (contains_both U V y a f v i)) i

  -- operators on one
  one_same : (o : Op) (s : Sort) (x : Denotation carrier) → SortsFit (row_of o) (x.0 ∷ []) s → HasValue U o (x ∷ []) → Same o s (x ∷ [])
  one_same op.SetExtension s x h k = extension_same s x.0 (x ∷ []) h.0 h.1
  one_same op.Not s x h k = at op.Not s boolean_sort (x ∷ []) h.1 (λ i. not (truth_both U V x h.0 i))
  one_same op.BoolOf s x h k = at op.BoolOf s boolean_sort (x ∷ []) h.1 (λ i. truth_both U V x h.0 i)
  one_same op.Finite s x h k =
      let a = member_sort x.0 in let e = own_members x.0 h.0 h.1 in
      at op.Finite s boolean_sort (x ∷ []) h.2 (λ i. finite_both U V a (λ v. contains_both U V x a e v i) i)
  one_same op.Cardinality s x h k =
      let a = member_sort x.0 in let e = own_members x.0 h.0 h.1 in
      at op.Cardinality s integer_sort (x ∷ []) h.2
      (least_both U V (has_at_most U a (contains U x a)) k.0 k.1 ∙ ap (least_number V) (λ i n. at_most_both U V a (λ v. contains_both U V x a e v i) n i))
  one_same op.Negate s x h k = at op.Negate s integer_sort (x ∷ []) h.1 (λ i. neg_ℤ (number_both U V x h.0 i))
  one_same op.Minimum s x h k =
      at op.Minimum s integer_sort (x ∷ []) h.1
      (least_both U V (contains U x integer_sort) k.0 k.1 ∙ ap (least_number V) (λ i n. contains_both U V x integer_sort h.0 n i))
  one_same op.Maximum s x h k =
      at op.Maximum s integer_sort (x ∷ []) h.1
      (greatest_both U V (contains U x integer_sort) k.0 k.1 ∙ ap (greatest_number V) (λ i n. contains_both U V x integer_sort h.0 n i))
  one_same op.Converse s x h k =
      at op.Converse s (relation_sort h.1 h.0) (x ∷ []) h.3 (λ i v. relates_both U V x h.0 h.1 h.2 v.1 v.0 i)
  one_same op.Domain s x h k =
      let b = to_sort x.0 in let e : x.0 ≡ relation_sort h.0 b = h.2 ∙ (λ i. relation_sort h.0 (to_sort (sym h.2 i))) in
      at op.Domain s (power_sort h.0) (x ∷ []) h.3 (λ i v. some_both U V b (λ w. relates_both U V x h.0 b e v w i) i)
  one_same op.Range s x h k =
      let a = from_sort x.0 in let e : x.0 ≡ relation_sort a h.1 = h.2 ∙ (λ i. relation_sort (from_sort (sym h.2 i)) h.1) in
      at op.Range s (power_sort h.1) (x ∷ []) h.3 (λ i w. some_both U V a (λ v. relates_both U V x a h.1 e v w i) i)
  one_same op.PowerSet s x h k =
      at op.PowerSet s (power_sort (power_sort h.0)) (x ∷ []) h.2 (λ i v. included_both h.0 (power_sort h.0, v) x refl h.1 i)
  one_same op.NonEmptyPowerSet s x h k =
      at op.NonEmptyPowerSet s (power_sort (power_sort h.0)) (x ∷ []) h.2
      (λ i v. included_both h.0 (power_sort h.0, v) x refl h.1 i && some_both U V h.0 (λ w. contains_both U V (power_sort h.0, v) h.0 refl w i) i)
  one_same op.GeneralUnion s x h k =
      at op.GeneralUnion s (power_sort h.0) (x ∷ []) h.2
      (λ i v. some_both U V (power_sort h.0) (λ m. contains_both U V x (power_sort h.0) h.1 m i && m v) i)
  one_same op.GeneralIntersection s x h k =
      at op.GeneralIntersection s (power_sort h.0) (x ∷ []) h.2
      (λ i v. every_both U V (power_sort h.0) (λ m. implies (contains_both U V x (power_sort h.0) h.1 m i) (m v)) i)
  one_same _ s x h k = absurd h

  -- sets of relations
  module _ (a b : Sort) (x y : Denotation carrier) (ex : x.0 ≡ power_sort a) (ey : y.0 ≡ power_sort b) (f : Value carrier (pair_sort a b) → Bool) where
    between : is_between U a b x y f ≡ is_between V a b x y f
    between = λ i. every_both U V a (λ v. every_both U V b (λ w. implies (f (v, w)) (contains_both U V x a ex v i && contains_both U V y b ey w i)) i) i

    whole_domain : has_whole_domain U a b x f ≡ has_whole_domain V a b x f
    whole_domain = λ i. every_both U V a (λ v. equivalent (some_both U V b (λ w. f (v, w)) i) (contains_both U V x a ex v i)) i

    whole_range : has_whole_range U a b y f ≡ has_whole_range V a b y f
    whole_range = λ i. every_both U V b (λ w. equivalent (some_both U V a (λ v. f (v, w)) i) (contains_both U V y b ey w i)) i

    single : is_single_valued U a b f ≡ is_single_valued V a b f
    single = function_both U V a b (λ v w. f (v, w))

    injective : is_injective U a b f ≡ is_injective V a b f
    injective = function_both U V b a (λ w v. f (v, w))

    arrow_both : (o : Op) → is_arrow U o a b x y f ≡ is_arrow V o a b x y f
    arrow_both op.Relations = between
    arrow_both op.TotalRelations = λ i. between i && whole_domain i
    arrow_both op.SurjectiveRelations = λ i. between i && whole_range i
    arrow_both op.TotalSurjectiveRelations = λ i. between i && whole_domain i && whole_range i
    arrow_both op.PartialFunctions = λ i. between i && single i
    arrow_both op.TotalFunctions = λ i. between i && single i && whole_domain i
    arrow_both op.PartialInjections = λ i. between i && single i && injective i
    arrow_both op.TotalInjections = λ i. between i && single i && whole_domain i && injective i
    arrow_both op.PartialSurjections = λ i. between i && single i && whole_range i
    arrow_both op.TotalSurjections = λ i. between i && single i && whole_domain i && whole_range i
    arrow_both op.Bijections = λ i. between i && single i && whole_domain i && injective i && whole_range i
    arrow_both _ = refl

  -- numbers
  quotient_both : (m n : ℤ) → int_eq n (pos 0) ≡ false → quotient U m n ≡ quotient V m n
  quotient_both m n h =
      (λ i. if h i then arbitrary U integer_sort else int_div m n) ∙ sym (λ i. if h i then arbitrary V integer_sort else int_div m n)

  remainder_both : (m n : ℤ) → int_le (pos 0) m ≡ true → int_lt (pos 0) n ≡ true → remainder U m n ≡ remainder V m n
  remainder_both (pos m) (pos n) h k = go (n == 0) refl
    where
      go : (c : Bool) → (n == 0) ≡ c → (if c then arbitrary U integer_sort else pos (m % n)) ≡ (if c then arbitrary V integer_sort else pos (m % n))
      go true e = let z = eqb-true n 0 e in absurd (grind (arith, ints, k, z))
      go false e = refl
  remainder_both (pos m) (negsuc n) h k = absurd (grind (arith, ints, k))
  remainder_both (negsuc m) n h k = absurd (grind (arith, ints, h))

  power_both : (m n : ℤ) → int_le (pos 0) m ≡ true → int_le (pos 0) n ≡ true → raised_to U m n ≡ raised_to V m n
  power_both (pos m) (pos n) h k = refl
  power_both (pos m) (negsuc n) h k = absurd (grind (arith, ints, k))
  power_both (negsuc m) n h k = absurd (grind (arith, ints, h))

  -- the one value of a function
  chosen_both : (x y : Denotation carrier) (b : Sort) → x.0 ≡ relation_sort y.0 b → some U b (relates U x y.0 b y.1) ≡ true
      → ((v w : Value carrier b) → relates U x y.0 b y.1 v ≡ true → relates U x y.0 b y.1 w ≡ true → v ≡ w)
      → U.choose b (relates U x y.0 b y.1) ≡ V.choose b (relates V x y.0 b y.1)
  chosen_both x y b e found single =
      let u : Value carrier b = U.choose b (relates U x y.0 b y.1) in let v : Value carrier b = V.choose b (relates V x y.0 b y.1) in
      let u_in_v : relates V x y.0 b y.1 u ≡ true = sym (relates_both U V x y.0 b e y.1 u) ∙ found in
      let v_in_v : relates V x y.0 b y.1 v ≡ true = V.chooses b (relates V x y.0 b y.1) u u_in_v in
      single u v found (relates_both U V x y.0 b e y.1 v ∙ v_in_v)

  -- operators on two
  two_same : (o : Op) (s : Sort) (x y : Denotation carrier) → SortsFit (row_of o) (x.0 ∷ y.0 ∷ []) s → HasValue U o (x ∷ y ∷ []) → Same o s (x ∷ y ∷ [])
  two_same op.SetExtension s x y h k = extension_same s x.0 (x ∷ y ∷ []) h.0 h.1
  two_same op.And s x y h k = at op.And s boolean_sort (x ∷ y ∷ []) h.2 (λ i. truth_both U V x h.0 i && truth_both U V y h.1 i)
  two_same op.Or s x y h k = at op.Or s boolean_sort (x ∷ y ∷ []) h.2 (λ i. truth_both U V x h.0 i || truth_both U V y h.1 i)
  two_same op.Implies s x y h k = at op.Implies s boolean_sort (x ∷ y ∷ []) h.2 (λ i. implies (truth_both U V x h.0 i) (truth_both U V y h.1 i))
  two_same op.Equivalent s x y h k = at op.Equivalent s boolean_sort (x ∷ y ∷ []) h.2 (λ i. equivalent (truth_both U V x h.0 i) (truth_both U V y h.1 i))
  two_same op.Equal s x y h k = at op.Equal s boolean_sort (x ∷ y ∷ []) h.1 (λ i. same_both U V x.0 x.1 (cast_both U V x.0 y h.0 i) i)
  two_same op.Member s x y h k = at op.Member s boolean_sort (x ∷ y ∷ []) h.1 (λ i. contains_both U V y x.0 h.0 x.1 i)
  two_same op.Subset s x y h k =
      let e = own_members x.0 h.0 h.1 in at op.Subset s boolean_sort (x ∷ y ∷ []) h.3 (λ i. included_both (member_sort x.0) x y e (h.2 ∙ e) i)
  two_same op.ProperSubset s x y h k =
      let e = own_members x.0 h.0 h.1 in
      at op.ProperSubset s boolean_sort (x ∷ y ∷ []) h.3
      (λ i. included_both (member_sort x.0) x y e (h.2 ∙ e) i && not (included_both (member_sort x.0) y x (h.2 ∙ e) e i))
  two_same op.Less s x y h k = at op.Less s boolean_sort (x ∷ y ∷ []) h.2 (λ i. int_lt (number_both U V x h.0 i) (number_both U V y h.1 i))
  two_same op.LessOrEqual s x y h k = at op.LessOrEqual s boolean_sort (x ∷ y ∷ []) h.2 (λ i. int_le (number_both U V x h.0 i) (number_both U V y h.1 i))
  two_same op.Maplet s x y h k = at op.Maplet s (pair_sort x.0 y.0) (x ∷ y ∷ []) h (λ i. (cast_both U V x.0 x refl i, cast_both U V y.0 y refl i))
  two_same op.Union s x y h k =
      at op.Union s (power_sort h.0) (x ∷ y ∷ []) h.3 (λ i v. contains_both U V x h.0 h.1 v i || contains_both U V y h.0 h.2 v i)
  two_same op.Intersection s x y h k =
      at op.Intersection s (power_sort h.0) (x ∷ y ∷ []) h.3 (λ i v. contains_both U V x h.0 h.1 v i && contains_both U V y h.0 h.2 v i)
  two_same op.Difference s x y h k =
      at op.Difference s (power_sort h.0) (x ∷ y ∷ []) h.3 (λ i v. contains_both U V x h.0 h.1 v i && not (contains_both U V y h.0 h.2 v i))
  two_same op.Product s x y h k =
      at op.Product s (relation_sort h.0 h.1) (x ∷ y ∷ []) h.4 (λ i v. contains_both U V x h.0 h.2 v.0 i && contains_both U V y h.1 h.3 v.1 i)
  two_same op.DomainRestriction s x y h k =
      at op.DomainRestriction s (relation_sort h.0 h.1) (x ∷ y ∷ []) h.4
      (λ i v. contains_both U V x h.0 h.2 v.0 i && relates_both U V y h.0 h.1 h.3 v.0 v.1 i)
  two_same op.DomainSubtraction s x y h k =
      at op.DomainSubtraction s (relation_sort h.0 h.1) (x ∷ y ∷ []) h.4
      (λ i v. not (contains_both U V x h.0 h.2 v.0 i) && relates_both U V y h.0 h.1 h.3 v.0 v.1 i)
  two_same op.RangeRestriction s x y h k =
      at op.RangeRestriction s (relation_sort h.0 h.1) (x ∷ y ∷ []) h.4
      (λ i v. relates_both U V x h.0 h.1 h.2 v.0 v.1 i && contains_both U V y h.1 h.3 v.1 i)
  two_same op.RangeSubtraction s x y h k =
      at op.RangeSubtraction s (relation_sort h.0 h.1) (x ∷ y ∷ []) h.4
      (λ i v. relates_both U V x h.0 h.1 h.2 v.0 v.1 i && not (contains_both U V y h.1 h.3 v.1 i))
  two_same op.Overriding s x y h k =
      at op.Overriding s (relation_sort h.0 h.1) (x ∷ y ∷ []) h.4
      (λ i v. relates_both U V y h.0 h.1 h.3 v.0 v.1 i
      || (relates_both U V x h.0 h.1 h.2 v.0 v.1 i && not (some_both U V h.1 (λ z. relates_both U V y h.0 h.1 h.3 v.0 z i) i)))
  two_same op.Composition s x y h k =
      let b = to_sort x.0 in
      let ex : x.0 ≡ relation_sort h.0 b = h.3 ∙ (λ i. relation_sort h.0 (to_sort (sym h.3 i))) in
      let ey : y.0 ≡ relation_sort b h.2 = h.4 ∙ (λ i. relation_sort (to_sort (sym h.3 i)) h.2) in
      at op.Composition s (relation_sort h.0 h.2) (x ∷ y ∷ []) h.5
      (λ i v. some_both U V b (λ z. relates_both U V x h.0 b ex v.0 z i && relates_both U V y b h.2 ey z v.1 i) i)
  two_same op.DirectProduct s x y h k =
      at op.DirectProduct s (relation_sort h.0 (pair_sort h.1 h.2)) (x ∷ y ∷ []) h.5
      (λ i v. relates_both U V x h.0 h.1 h.3 v.0 v.1.0 i && relates_both U V y h.0 h.2 h.4 v.0 v.1.1 i)
  two_same op.ParallelProduct s x y h k =
      at op.ParallelProduct s (relation_sort (pair_sort h.0 h.2) (pair_sort h.1 h.3)) (x ∷ y ∷ []) h.6
      (λ i v. relates_both U V x h.0 h.1 h.4 v.0.0 v.1.0 i && relates_both U V y h.2 h.3 h.5 v.0.1 v.1.1 i)
  two_same op.Interval s x y h k =
      at op.Interval s (power_sort integer_sort) (x ∷ y ∷ []) h.2 (λ i v. int_le (number_both U V x h.0 i) v && int_le v (number_both U V y h.1 i))
  two_same op.Plus s x y h k = at op.Plus s integer_sort (x ∷ y ∷ []) h.2 (λ i. number_both U V x h.0 i +ℤ number_both U V y h.1 i)
  two_same op.Minus s x y h k = at op.Minus s integer_sort (x ∷ y ∷ []) h.2 (λ i. number_both U V x h.0 i -ℤ number_both U V y h.1 i)
  two_same op.Times s x y h k = at op.Times s integer_sort (x ∷ y ∷ []) h.2 (λ i. number_both U V x h.0 i *ℤ number_both U V y h.1 i)
  two_same op.Divide s x y h k =
      at op.Divide s integer_sort (x ∷ y ∷ []) h.2
      (quotient_both (whole_number U x) (whole_number U y) k ∙ (λ i. quotient V (number_both U V x h.0 i) (number_both U V y h.1 i)))
  two_same op.Modulo s x y h k =
      at op.Modulo s integer_sort (x ∷ y ∷ []) h.2
      (remainder_both (whole_number U x) (whole_number U y) k.0 k.1 ∙ (λ i. remainder V (number_both U V x h.0 i) (number_both U V y h.1 i)))
  two_same op.Power s x y h k =
      at op.Power s integer_sort (x ∷ y ∷ []) h.2
      (power_both (whole_number U x) (whole_number U y) k.0 k.1 ∙ (λ i. raised_to V (number_both U V x h.0 i) (number_both U V y h.1 i)))
  two_same op.Apply s x y h k =
      let b = to_sort x.0 in let is : s ≡ b = sym (ap to_sort h) in
      at op.Apply s b (x ∷ y ∷ []) is (chosen_both x y b (h ∙ ap (relation_sort y.0) is) k.0 k.1)
  two_same op.Image s x y h k =
      let a = from_sort x.0 in
      let ex : x.0 ≡ relation_sort a h.1 = h.2 ∙ (λ i. relation_sort (from_sort (sym h.2 i)) h.1) in
      let ey : y.0 ≡ power_sort a = h.3 ∙ (λ i. power_sort (from_sort (sym h.2 i))) in
      at op.Image s (power_sort h.1) (x ∷ y ∷ []) h.4 (λ i w. some_both U V a (λ v. contains_both U V y a ey v i && relates_both U V x a h.1 ex v w i) i)
  two_same op.Relations s x y h k = at op.Relations s (power_sort (relation_sort h.0 h.1)) (x ∷ y ∷ []) h.4 (λ i f. arrow_both h.0 h.1 x y h.2 h.3 f op.Relations i)
  two_same op.TotalRelations s x y h k = at op.TotalRelations s (power_sort (relation_sort h.0 h.1)) (x ∷ y ∷ []) h.4 (λ i f. arrow_both h.0 h.1 x y h.2 h.3 f op.TotalRelations i)
  two_same op.SurjectiveRelations s x y h k = at op.SurjectiveRelations s (power_sort (relation_sort h.0 h.1)) (x ∷ y ∷ []) h.4 (λ i f. arrow_both h.0 h.1 x y h.2 h.3 f op.SurjectiveRelations i)
  two_same op.TotalSurjectiveRelations s x y h k = at op.TotalSurjectiveRelations s (power_sort (relation_sort h.0 h.1)) (x ∷ y ∷ []) h.4 (λ i f. arrow_both h.0 h.1 x y h.2 h.3 f op.TotalSurjectiveRelations i)
  two_same op.PartialFunctions s x y h k = at op.PartialFunctions s (power_sort (relation_sort h.0 h.1)) (x ∷ y ∷ []) h.4 (λ i f. arrow_both h.0 h.1 x y h.2 h.3 f op.PartialFunctions i)
  two_same op.TotalFunctions s x y h k = at op.TotalFunctions s (power_sort (relation_sort h.0 h.1)) (x ∷ y ∷ []) h.4 (λ i f. arrow_both h.0 h.1 x y h.2 h.3 f op.TotalFunctions i)
  two_same op.PartialInjections s x y h k = at op.PartialInjections s (power_sort (relation_sort h.0 h.1)) (x ∷ y ∷ []) h.4 (λ i f. arrow_both h.0 h.1 x y h.2 h.3 f op.PartialInjections i)
  two_same op.TotalInjections s x y h k = at op.TotalInjections s (power_sort (relation_sort h.0 h.1)) (x ∷ y ∷ []) h.4 (λ i f. arrow_both h.0 h.1 x y h.2 h.3 f op.TotalInjections i)
  two_same op.PartialSurjections s x y h k = at op.PartialSurjections s (power_sort (relation_sort h.0 h.1)) (x ∷ y ∷ []) h.4 (λ i f. arrow_both h.0 h.1 x y h.2 h.3 f op.PartialSurjections i)
  two_same op.TotalSurjections s x y h k = at op.TotalSurjections s (power_sort (relation_sort h.0 h.1)) (x ∷ y ∷ []) h.4 (λ i f. arrow_both h.0 h.1 x y h.2 h.3 f op.TotalSurjections i)
  two_same op.Bijections s x y h k = at op.Bijections s (power_sort (relation_sort h.0 h.1)) (x ∷ y ∷ []) h.4 (λ i f. arrow_both h.0 h.1 x y h.2 h.3 f op.Bijections i)
  two_same _ s x y h k = absurd h

  many_same : (o : Op) (s : Sort) (x y z : Denotation carrier) (xs : List (Denotation carrier))
      → SortsFit (row_of o) (x.0 ∷ y.0 ∷ z.0 ∷ map (λ x. x.0) xs) s → Same o s (x ∷ y ∷ z ∷ xs)
  many_same op.SetExtension s x y z xs h = extension_same s x.0 (x ∷ y ∷ z ∷ xs) h.0 h.1
  many_same _ s x y z xs h = absurd h

  pub values_same : (o : Op) (s : Sort) (xs : List (Denotation carrier)) → SortsFit (row_of o) (map (λ x. x.0) xs) s → HasValue U o xs → Same o s xs
  values_same o s [] h k = none_same o s h
  values_same o s (x ∷ []) h k = one_same o s x h k
  values_same o s (x ∷ y ∷ []) h k = two_same o s x y h k
  values_same o s (x ∷ y ∷ z ∷ xs) h k = many_same o s x y z xs h
