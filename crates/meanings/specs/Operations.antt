-- What each operator makes of what its operands denote. The sort of the result is given: that of the formula's type.
use Rattle.std.specs.Prelude.{ℕ, ℤ, pos, ◌+ℤ◌, ◌-ℤ◌, ◌*ℤ◌, neg_ℤ, ◌%◌, ◌^◌, ◌==◌, int_le, int_lt, int_div, Bool, true, false, not, ◌&&◌, ◌||◌, List, [], ◌∷◌, if◌then◌else◌}
use Rattle.std.specs.Ordering.{int_eq}
use Rattle.std.specs.List.{list_any}
use Rattle.formula_core.specs.declared.Op.{Op}
use Rattle.formula_core.specs.declared.Op.TheVariants as op
use Rattle.meanings.specs.Values.{Sort, integer_sort, boolean_sort, power_sort, pair_sort, Value, Denotation}
use Rattle.meanings.specs.Universes.{Universe, some, every, arbitrary, cast}

abbrev pub implies : Bool → Bool → Bool
implies a b = not a || b

abbrev pub equivalent : Bool → Bool → Bool
equivalent a b = implies a b && implies b a

-- the sort of a set's members, and of the two sides of a pair
abbrev pub member_sort : Sort → Sort
member_sort (power_sort s) = s
member_sort s = s

abbrev pub left_sort : Sort → Sort
left_sort (pair_sort s t) = s
left_sort s = s

abbrev pub right_sort : Sort → Sort
right_sort (pair_sort s t) = t
right_sort s = s

-- the sorts of the two sides of the members of a relation
abbrev pub from_sort : Sort → Sort
from_sort s = left_sort (member_sort s)

abbrev pub to_sort : Sort → Sort
to_sort s = right_sort (member_sort s)

module _ {carrier : List ℕ → Type 0} (U : Universe carrier) where
  abbrev pub truth_value : Denotation carrier → Bool
  truth_value x = cast U boolean_sort x

  abbrev pub whole_number : Denotation carrier → ℤ
  whole_number x = cast U integer_sort x

  -- whether a value is in a set, and whether a relation leads from one value to another
  abbrev pub contains : Denotation carrier → (s : Sort) → Value carrier s → Bool
  contains x s v = cast U (power_sort s) x v

  abbrev pub relates : Denotation carrier → (s t : Sort) → Value carrier s → Value carrier t → Bool
  relates x s t v w = contains x (pair_sort s t) (v, w)

  -- the value of the given sort, where that sort has this form
  abbrev pub as_truth : (s : Sort) → Bool → Value carrier s
  as_truth boolean_sort b = b
  as_truth s b = arbitrary U s

  abbrev pub as_number : (s : Sort) → ℤ → Value carrier s
  as_number integer_sort n = n
  as_number s n = arbitrary U s

  abbrev pub as_pair : (s : Sort) → ((a b : Sort) → Value carrier a × Value carrier b) → Value carrier s
  as_pair (pair_sort a b) v = v a b
  as_pair s v = arbitrary U s

  abbrev pub as_set : (s : Sort) → ((a : Sort) → Value carrier a → Bool) → Value carrier s
  as_set (power_sort a) test = test a
  as_set s test = arbitrary U s

  abbrev pub as_relation : (s : Sort) → ((a b : Sort) → Value carrier a → Value carrier b → Bool) → Value carrier s
  as_relation (power_sort (pair_sort a b)) test = λ v. test a b v.0 v.1
  as_relation s test = arbitrary U s

  -- a relation that gives each value of its domain one value
  abbrev pub is_function : (s t : Sort) → (Value carrier s → Value carrier t → Bool) → Bool
  is_function s t f = every U s (λ x. every U t (λ y. every U t (λ z. implies (f x y && f x z) (U.same t y z))))

  -- numbers lead to values so that each member of a set has a number from 1 to n, and no number leads to two values
  abbrev pub is_numbered : (s : Sort) → (Value carrier s → Bool) → ℤ → (ℤ × Value carrier s → Bool) → Bool
  is_numbered s set n numbers =
      every U s (λ x. implies (set x) (some U integer_sort (λ i. int_le (pos 1) i && int_le i n && numbers (i, x))))
      && is_function integer_sort s (λ i x. numbers (i, x))

  -- whether a set has at most n members, and whether it is finite: some n is enough
  abbrev pub has_at_most : (s : Sort) → (Value carrier s → Bool) → ℤ → Bool
  has_at_most s set n = int_le (pos 0) n && some U (power_sort (pair_sort integer_sort s)) (is_numbered s set n)

  abbrev pub is_finite : (s : Sort) → (Value carrier s → Bool) → Bool
  is_finite s set = some U integer_sort (has_at_most s set)

  -- the least number that passes a test, and the greatest; any number where there is none
  abbrev pub least_number : (ℤ → Bool) → ℤ
  least_number test = U.choose integer_sort (λ m. test m && every U integer_sort (λ n. implies (test n) (int_le m n)))

  abbrev pub greatest_number : (ℤ → Bool) → ℤ
  greatest_number test = U.choose integer_sort (λ m. test m && every U integer_sort (λ n. implies (test n) (int_le n m)))

  -- Division towards zero, and what is left of a number that isn't negative when it is divided by a positive one; powers of numbers
  -- that aren't negative. Any number elsewhere, where the operators aren't well-defined.
  abbrev pub quotient : ℤ → ℤ → ℤ
  quotient m n = if int_eq n (pos 0) then arbitrary U integer_sort else int_div m n

  abbrev pub remainder : ℤ → ℤ → ℤ
  remainder (pos m) (pos n) = if n == 0 then arbitrary U integer_sort else pos (m % n)
  remainder m n = arbitrary U integer_sort

  abbrev pub raised_to : ℤ → ℤ → ℤ
  raised_to (pos m) (pos n) = pos (m ^ n)
  raised_to m n = arbitrary U integer_sort

  -- inclusion of sets; a relation whose domain is a set, and one whose range is; a relation between two sets
  abbrev pub is_subset : (s : Sort) → (Value carrier s → Bool) → (Value carrier s → Bool) → Bool
  is_subset s a b = every U s (λ x. implies (a x) (b x))

  abbrev pub has_whole_domain : (a b : Sort) → Denotation carrier → (Value carrier (pair_sort a b) → Bool) → Bool
  has_whole_domain a b s f = every U a (λ x. equivalent (some U b (λ y. f (x, y))) (contains s a x))

  abbrev pub has_whole_range : (a b : Sort) → Denotation carrier → (Value carrier (pair_sort a b) → Bool) → Bool
  has_whole_range a b t f = every U b (λ y. equivalent (some U a (λ x. f (x, y))) (contains t b y))

  abbrev pub is_between : (a b : Sort) → Denotation carrier → Denotation carrier → (Value carrier (pair_sort a b) → Bool) → Bool
  is_between a b s t f = every U a (λ x. every U b (λ y. implies (f (x, y)) (contains s a x && contains t b y)))

  abbrev pub is_single_valued : (a b : Sort) → (Value carrier (pair_sort a b) → Bool) → Bool
  is_single_valued a b f = is_function a b (λ x y. f (x, y))

  abbrev pub is_injective : (a b : Sort) → (Value carrier (pair_sort a b) → Bool) → Bool
  is_injective a b f = is_function b a (λ y x. f (x, y))

  -- what each arrow asks of a relation
  abbrev pub is_arrow : Op → (a b : Sort) → Denotation carrier → Denotation carrier → (Value carrier (pair_sort a b) → Bool) → Bool
  is_arrow op.Relations a b s t f = is_between a b s t f
  is_arrow op.TotalRelations a b s t f = is_between a b s t f && has_whole_domain a b s f
  is_arrow op.SurjectiveRelations a b s t f = is_between a b s t f && has_whole_range a b t f
  is_arrow op.TotalSurjectiveRelations a b s t f = is_between a b s t f && has_whole_domain a b s f && has_whole_range a b t f
  is_arrow op.PartialFunctions a b s t f = is_between a b s t f && is_single_valued a b f
  is_arrow op.TotalFunctions a b s t f = is_between a b s t f && is_single_valued a b f && has_whole_domain a b s f
  is_arrow op.PartialInjections a b s t f = is_between a b s t f && is_single_valued a b f && is_injective a b f
  is_arrow op.TotalInjections a b s t f = is_between a b s t f && is_single_valued a b f && has_whole_domain a b s f && is_injective a b f
  is_arrow op.PartialSurjections a b s t f = is_between a b s t f && is_single_valued a b f && has_whole_range a b t f
  is_arrow op.TotalSurjections a b s t f = is_between a b s t f && is_single_valued a b f && has_whole_domain a b s f && has_whole_range a b t f
  is_arrow op.Bijections a b s t f = is_between a b s t f && is_single_valued a b f && has_whole_domain a b s f && is_injective a b f && has_whole_range a b t f
  is_arrow o a b s t f = false

  abbrev pub arrows : Op → (s : Sort) → Denotation carrier → Denotation carrier → Value carrier s
  arrows o (power_sort (power_sort (pair_sort a b))) x y = λ f. is_arrow o a b x y f
  arrows o s x y = arbitrary U s

  -- what is made of pairs of pairs: (x ↦ y) ↦ x and (x ↦ y) ↦ y, x ↦ (y ↦ z), (x ↦ y) ↦ (v ↦ w)
  abbrev pub first_projection : (s : Sort) → Value carrier s
  first_projection (power_sort (pair_sort (pair_sort a b) c)) = λ v. U.same c (cast U c (a, v.0.0)) v.1
  first_projection s = arbitrary U s

  abbrev pub second_projection : (s : Sort) → Value carrier s
  second_projection (power_sort (pair_sort (pair_sort a b) c)) = λ v. U.same c (cast U c (b, v.0.1)) v.1
  second_projection s = arbitrary U s

  abbrev pub direct_product : (s : Sort) → Denotation carrier → Denotation carrier → Value carrier s
  direct_product (power_sort (pair_sort a (pair_sort b c))) x y = λ v. relates x a b v.0 v.1.0 && relates y a c v.0 v.1.1
  direct_product s x y = arbitrary U s

  abbrev pub parallel_product : (s : Sort) → Denotation carrier → Denotation carrier → Value carrier s
  parallel_product (power_sort (pair_sort (pair_sort a b) (pair_sort c d))) x y = λ v. relates x a c v.0.0 v.1.0 && relates y b d v.0.1 v.1.1
  parallel_product s x y = arbitrary U s

  -- an operator without operands
  abbrev pub of_none : Op → (s : Sort) → Value carrier s
  of_none op.Top s = as_truth s true
  of_none op.Bottom s = as_truth s false
  of_none op.TrueValue s = as_truth s true
  of_none op.FalseValue s = as_truth s false
  of_none op.Booleans s = as_set s (λ a x. true)
  of_none op.Integers s = as_set s (λ a x. true)
  of_none op.Naturals s = as_set s (λ a x. int_le (pos 0) (whole_number (a, x)))
  of_none op.PositiveNaturals s = as_set s (λ a x. int_le (pos 1) (whole_number (a, x)))
  of_none op.EmptySet s = as_set s (λ a x. false)
  of_none op.Identity s = as_relation s (λ a b x y. U.same b (cast U b (a, x)) y)
  of_none op.FirstProjection s = first_projection s
  of_none op.SecondProjection s = second_projection s
  of_none op.Successor s = as_relation s (λ a b x y. int_eq (whole_number (b, y)) (whole_number (a, x) +ℤ pos 1))
  of_none op.Predecessor s = as_relation s (λ a b x y. int_eq (whole_number (b, y)) (whole_number (a, x) -ℤ pos 1))
  of_none o s = arbitrary U s

  -- an operator on one
  abbrev pub of_one : Op → (s : Sort) → Denotation carrier → Value carrier s
  of_one op.Not s x = as_truth s (not (truth_value x))
  of_one op.BoolOf s x = as_truth s (truth_value x)
  of_one op.Finite s x = let a = member_sort x.0 in as_truth s (is_finite a (contains x a))
  of_one op.Cardinality s x = let a = member_sort x.0 in as_number s (least_number (has_at_most a (contains x a)))
  of_one op.Negate s x = as_number s (neg_ℤ (whole_number x))
  of_one op.Minimum s x = as_number s (least_number (contains x integer_sort))
  of_one op.Maximum s x = as_number s (greatest_number (contains x integer_sort))
  of_one op.Converse s x = as_relation s (λ b a v w. relates x a b w v)
  of_one op.Domain s x = let b = to_sort x.0 in as_set s (λ a v. some U b (λ w. relates x a b v w))
  of_one op.Range s x = let a = from_sort x.0 in as_set s (λ b w. some U a (λ v. relates x a b v w))
  of_one op.PowerSet s x = as_set s (λ a v. let b = member_sort a in is_subset b (contains (a, v) b) (contains x b))
  of_one op.NonEmptyPowerSet s x =
      as_set s (λ a v. let b = member_sort a in is_subset b (contains (a, v) b) (contains x b) && some U b (contains (a, v) b))
  of_one op.GeneralUnion s x = as_set s (λ a v. some U (power_sort a) (λ m. contains x (power_sort a) m && m v))
  of_one op.GeneralIntersection s x = as_set s (λ a v. every U (power_sort a) (λ m. implies (contains x (power_sort a) m) (m v)))
  of_one o s x = arbitrary U s

  -- an operator on two
  abbrev pub of_two : Op → (s : Sort) → Denotation carrier → Denotation carrier → Value carrier s
  of_two op.And s x y = as_truth s (truth_value x && truth_value y)
  of_two op.Or s x y = as_truth s (truth_value x || truth_value y)
  of_two op.Implies s x y = as_truth s (implies (truth_value x) (truth_value y))
  of_two op.Equivalent s x y = as_truth s (equivalent (truth_value x) (truth_value y))
  of_two op.Equal s x y = as_truth s (U.same x.0 x.1 (cast U x.0 y))
  of_two op.Member s x y = as_truth s (contains y x.0 x.1)
  of_two op.Subset s x y = let a = member_sort x.0 in as_truth s (is_subset a (contains x a) (contains y a))
  of_two op.ProperSubset s x y =
      let a = member_sort x.0 in as_truth s (is_subset a (contains x a) (contains y a) && not (is_subset a (contains y a) (contains x a)))
  of_two op.Less s x y = as_truth s (int_lt (whole_number x) (whole_number y))
  of_two op.LessOrEqual s x y = as_truth s (int_le (whole_number x) (whole_number y))
  of_two op.Maplet s x y = as_pair s (λ a b. (cast U a x, cast U b y))
  of_two op.Union s x y = as_set s (λ a v. contains x a v || contains y a v)
  of_two op.Intersection s x y = as_set s (λ a v. contains x a v && contains y a v)
  of_two op.Difference s x y = as_set s (λ a v. contains x a v && not (contains y a v))
  of_two op.Product s x y = as_relation s (λ a b v w. contains x a v && contains y b w)
  of_two op.DomainRestriction s x y = as_relation s (λ a b v w. contains x a v && relates y a b v w)
  of_two op.DomainSubtraction s x y = as_relation s (λ a b v w. not (contains x a v) && relates y a b v w)
  of_two op.RangeRestriction s x y = as_relation s (λ a b v w. relates x a b v w && contains y b w)
  of_two op.RangeSubtraction s x y = as_relation s (λ a b v w. relates x a b v w && not (contains y b w))
  of_two op.Overriding s x y =
      as_relation s (λ a b v w. relates y a b v w || (relates x a b v w && not (some U b (λ z. relates y a b v z))))
  of_two op.Composition s x y =
      let b = to_sort x.0 in as_relation s (λ a c v w. some U b (λ z. relates x a b v z && relates y b c z w))
  of_two op.DirectProduct s x y = direct_product s x y
  of_two op.ParallelProduct s x y = parallel_product s x y
  of_two op.Interval s x y = as_set s (λ a v. int_le (whole_number x) (whole_number (a, v)) && int_le (whole_number (a, v)) (whole_number y))
  of_two op.Plus s x y = as_number s (whole_number x +ℤ whole_number y)
  of_two op.Minus s x y = as_number s (whole_number x -ℤ whole_number y)
  of_two op.Times s x y = as_number s (whole_number x *ℤ whole_number y)
  of_two op.Divide s x y = as_number s (quotient (whole_number x) (whole_number y))
  of_two op.Modulo s x y = as_number s (remainder (whole_number x) (whole_number y))
  of_two op.Power s x y = as_number s (raised_to (whole_number x) (whole_number y))
  of_two op.Apply s x y = U.choose s (relates x y.0 s y.1)
  of_two op.Image s x y = let a = from_sort x.0 in as_set s (λ b w. some U a (λ v. contains y a v && relates x a b v w))
  of_two o s x y = arrows o s x y

  -- an operator on any operands
  abbrev pub of_list : Op → (s : Sort) → List (Denotation carrier) → Value carrier s
  of_list op.SetExtension s xs = as_set s (λ a v. list_any (λ x. U.same a v (cast U a x)) xs)
  of_list o s [] = of_none o s
  of_list o s (x ∷ []) = of_one o s x
  of_list o s (x ∷ y ∷ []) = of_two o s x y
  of_list o s xs = arbitrary U s
