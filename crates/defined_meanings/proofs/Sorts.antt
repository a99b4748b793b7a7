-- The table of types, as a table of sorts.
use Rattle.std.proofs.Common.{Bool, List, [], ap, map, refl, sym, true, ◌&&◌, ◌∙◌, ◌∷◌, ◌≡◌}
use Rattle.std.specs.List.{AllByRecursion, list_all}
use Rattle.formula_core.proofs.Types.{same_type_exact}
use Rattle.formula_core.proofs.Weakening.{first_true, second_true}
use Rattle.formula_core.specs.declared.Ty.{Ty}
use Rattle.formula_core.specs.declared.Ty.TheVariants as ty
use Rattle.formula_core.specs.declared.row.BinaryRow.{BinaryRow}
use Rattle.formula_core.specs.declared.row.BinaryRow.TheVariants as binary
use Rattle.formula_core.specs.declared.row.NullaryRow.{NullaryRow}
use Rattle.formula_core.specs.declared.row.NullaryRow.TheVariants as nullary
use Rattle.formula_core.specs.declared.row.Row.{Row}
use Rattle.formula_core.specs.declared.row.Row.TheVariants.{Binary, Nullary, SetExtension, Unary}
use Rattle.formula_core.specs.declared.row.UnaryRow.{UnaryRow}
use Rattle.formula_core.specs.declared.row.UnaryRow.TheVariants as unary
use Rattle.formula_core.specs.TypeTable.{binary_fits, nullary_fits, row_fits, unary_fits}
use Rattle.formula_core.specs.Types.{if_pair, if_relation, if_set, is_boolean, is_integer, is_pair_of, is_relation_of, is_set_of, is_truth, is_value_type, same_type}
use Rattle.meanings.specs.Values.{Sort, boolean_sort, integer_sort, pair_sort, power_sort, sort}
use Rattle.meanings.proofs.Denotations.{sort-Bool, sort-Int, sort-Pair, sort-Pow, sort-Truth}
use Rattle.meanings.proofs.Types.{boolean_is, if_pair_tells, if_relation_tells, if_set_tells, integer_is, pair_of_is, set_of_is, truth_is}
use Rattle.defined_meanings.proofs.Universes.{relation_sort}

-- the sort of an operator without operand
abbrev pub NullarySorts : NullaryRow → Sort → Type 0
NullarySorts nullary.Predicate t = t ≡ boolean_sort
NullarySorts nullary.TruthValue t = t ≡ boolean_sort
NullarySorts nullary.TruthValueSet t = t ≡ power_sort boolean_sort
NullarySorts nullary.IntegerSet t = t ≡ power_sort integer_sort
NullarySorts nullary.EmptySet t = (x : Sort) × (t ≡ power_sort x)
NullarySorts nullary.Identity t = (x : Sort) × (t ≡ relation_sort x x)
NullarySorts nullary.FirstProjection t = (x : Sort) × (y : Sort) × (t ≡ relation_sort (pair_sort x y) x)
NullarySorts nullary.SecondProjection t = (x : Sort) × (y : Sort) × (t ≡ relation_sort (pair_sort x y) y)
NullarySorts nullary.IntegerMap t = t ≡ relation_sort integer_sort integer_sort

-- .. of one with an operand of the sort a
abbrev pub UnarySorts : UnaryRow → Sort → Sort → Type 0
UnarySorts unary.Negation a t = (a ≡ boolean_sort) × (t ≡ boolean_sort)
UnarySorts unary.Finiteness a t = (x : Sort) × (a ≡ power_sort x) × (t ≡ boolean_sort)
UnarySorts unary.Opposite a t = (a ≡ integer_sort) × (t ≡ integer_sort)
UnarySorts unary.Converse a t = (x : Sort) × (y : Sort) × (a ≡ relation_sort x y) × (t ≡ relation_sort y x)
UnarySorts unary.PowerSet a t = (x : Sort) × (a ≡ power_sort x) × (t ≡ power_sort (power_sort x))
UnarySorts unary.Cardinality a t = (x : Sort) × (a ≡ power_sort x) × (t ≡ integer_sort)
UnarySorts unary.Domain a t = (x : Sort) × (y : Sort) × (a ≡ relation_sort x y) × (t ≡ power_sort x)
UnarySorts unary.Range a t = (x : Sort) × (y : Sort) × (a ≡ relation_sort x y) × (t ≡ power_sort y)
UnarySorts unary.Flattening a t = (x : Sort) × (a ≡ power_sort (power_sort x)) × (t ≡ power_sort x)
UnarySorts unary.Extremum a t = (a ≡ power_sort integer_sort) × (t ≡ integer_sort)
UnarySorts unary.TruthOf a t = (a ≡ boolean_sort) × (t ≡ boolean_sort)

-- .. and of one with operands of the sorts a and b
abbrev pub BinarySorts : BinaryRow → Sort → Sort → Sort → Type 0
BinarySorts binary.Connective a b t = (a ≡ boolean_sort) × (b ≡ boolean_sort) × (t ≡ boolean_sort)
BinarySorts binary.Equality a b t = (b ≡ a) × (t ≡ boolean_sort)
BinarySorts binary.Membership a b t = (b ≡ power_sort a) × (t ≡ boolean_sort)
BinarySorts binary.Inclusion a b t = (x : Sort) × (a ≡ power_sort x) × (b ≡ a) × (t ≡ boolean_sort)
BinarySorts binary.Comparison a b t = (a ≡ integer_sort) × (b ≡ integer_sort) × (t ≡ boolean_sort)
BinarySorts binary.Maplet a b t = t ≡ pair_sort a b
BinarySorts binary.RelationSet a b t = (x : Sort) × (y : Sort) × (a ≡ power_sort x) × (b ≡ power_sort y) × (t ≡ power_sort (relation_sort x y))
BinarySorts binary.SetOperation a b t = (x : Sort) × (a ≡ power_sort x) × (b ≡ power_sort x) × (t ≡ power_sort x)
BinarySorts binary.Product a b t = (x : Sort) × (y : Sort) × (a ≡ power_sort x) × (b ≡ power_sort y) × (t ≡ relation_sort x y)
BinarySorts binary.DomainFilter a b t = (x : Sort) × (y : Sort) × (a ≡ power_sort x) × (b ≡ relation_sort x y) × (t ≡ relation_sort x y)
BinarySorts binary.RangeFilter a b t = (x : Sort) × (y : Sort) × (a ≡ relation_sort x y) × (b ≡ power_sort y) × (t ≡ relation_sort x y)
BinarySorts binary.Overriding a b t = (x : Sort) × (y : Sort) × (a ≡ relation_sort x y) × (b ≡ relation_sort x y) × (t ≡ relation_sort x y)
BinarySorts binary.Composition a b t =
    (x : Sort) × (y : Sort) × (z : Sort) × (a ≡ relation_sort x y) × (b ≡ relation_sort y z) × (t ≡ relation_sort x z)
BinarySorts binary.ParallelProduct a b t =
    (x : Sort) × (y : Sort) × (z : Sort) × (w : Sort) × (a ≡ relation_sort x y) × (b ≡ relation_sort z w)
    × (t ≡ relation_sort (pair_sort x z) (pair_sort y w))
BinarySorts binary.DirectProduct a b t =
    (x : Sort) × (y : Sort) × (z : Sort) × (a ≡ relation_sort x y) × (b ≡ relation_sort x z) × (t ≡ relation_sort x (pair_sort y z))
BinarySorts binary.Interval a b t = (a ≡ integer_sort) × (b ≡ integer_sort) × (t ≡ power_sort integer_sort)
BinarySorts binary.Arithmetic a b t = (a ≡ integer_sort) × (b ≡ integer_sort) × (t ≡ integer_sort)
BinarySorts binary.Application a b t = a ≡ relation_sort b t
BinarySorts binary.Image a b t = (x : Sort) × (y : Sort) × (a ≡ relation_sort x y) × (b ≡ power_sort x) × (t ≡ power_sort y)

abbrev pub SortsFit : Row → List Sort → Sort → Type 0
SortsFit (Nullary row) [] t = NullarySorts row t
SortsFit (Unary row) (a ∷ []) t = UnarySorts row a t
SortsFit (Binary row) (a ∷ b ∷ []) t = BinarySorts row a b t
SortsFit SetExtension (a ∷ rest) t = AllByRecursion (λ b. b ≡ a) (a ∷ rest) × (t ≡ power_sort a)
SortsFit _ _ t = ⊥

-- the sorts of types
pub of_truth : (t : Ty) → is_truth t ≡ true → sort t ≡ boolean_sort
of_truth t h = ap sort (truth_is t h) ∙ sort-Truth

of_boolean : (t : Ty) → is_boolean t ≡ true → sort t ≡ boolean_sort
of_boolean t h = ap sort (boolean_is t h) ∙ sort-Bool

of_integer : (t : Ty) → is_integer t ≡ true → sort t ≡ integer_sort
of_integer t h = ap sort (integer_is t h) ∙ sort-Int

pub of_power : (t a : Ty) → t ≡ ty.Pow a → sort t ≡ power_sort (sort a)
of_power t a e = ap sort e ∙ sort-Pow a

of_pair : (t a b : Ty) → t ≡ ty.Pair a b → sort t ≡ pair_sort (sort a) (sort b)
of_pair t a b e = ap sort e ∙ sort-Pair a b

pub of_relation : (t a b : Ty) → t ≡ ty.Pow (ty.Pair a b) → sort t ≡ relation_sort (sort a) (sort b)
of_relation t a b e = of_power t (ty.Pair a b) e ∙ ap power_sort (sort-Pair a b)

same_sort : (t u : Ty) → same_type t u ≡ true → sort t ≡ sort u
same_sort t u h = ap sort (same_type_exact t u h)

pub of_set_of : (t a : Ty) → is_set_of t a ≡ true → sort t ≡ power_sort (sort a)
of_set_of t a h = of_power t a (set_of_is t a h)

of_pair_of : (t a b : Ty) → is_pair_of t a b ≡ true → sort t ≡ pair_sort (sort a) (sort b)
of_pair_of t a b h = of_pair t a b (pair_of_is t a b h)

of_relation_of : (t a b : Ty) → is_relation_of t a b ≡ true → sort t ≡ relation_sort (sort a) (sort b)
of_relation_of t a b h =
    let k = if_set_tells t (λ p. is_pair_of p a b) h in of_relation t a b (k.1 ∙ ap ty.Pow (pair_of_is k.0 a b k.2))

-- a set, and what is asked of the type of its members
pub set_sort : (t : Ty) (test : Ty → Bool) → if_set t test ≡ true → (p : Ty) × (sort t ≡ power_sort (sort p)) × (test p ≡ true)
set_sort t test h = let k = if_set_tells t test h in (k.0, of_power t k.0 k.1, k.2)

-- a relation, and what is asked of the types of its sides
pub relation_sorts : (t : Ty) (test : Ty → Ty → Bool) → if_relation t test ≡ true
    → (p : Ty) × (q : Ty) × (sort t ≡ relation_sort (sort p) (sort q)) × (test p q ≡ true)
relation_sorts t test h = let k = if_relation_tells t test h in (k.0.0, k.0.1, of_relation t k.0.0 k.0.1 k.1, k.2)

nullary_sorts : (row : NullaryRow) (t : Ty) → nullary_fits row t ≡ true → NullarySorts row (sort t)
nullary_sorts nullary.Predicate t h = of_truth t h
nullary_sorts nullary.TruthValue t h = of_boolean t h
nullary_sorts nullary.TruthValueSet t h = let k = set_sort t is_boolean h in k.1 ∙ ap power_sort (of_boolean k.0 k.2)
nullary_sorts nullary.IntegerSet t h = let k = set_sort t is_integer h in k.1 ∙ ap power_sort (of_integer k.0 k.2)
nullary_sorts nullary.EmptySet t h = let k = set_sort t is_value_type h in (sort k.0, k.1)
nullary_sorts nullary.Identity t h =
    let k = relation_sorts t (λ α β. is_value_type α && same_type α β) h in
    (sort k.0, k.2 ∙ ap (relation_sort (sort k.0)) (sym (same_sort k.0 k.1 (second_true (is_value_type k.0) _ k.3))))
nullary_sorts nullary.FirstProjection t h =
    let k = relation_sorts t (λ p α. is_value_type p && if_pair p (λ β γ. same_type β α)) h in
    let m = if_pair_tells k.0 (λ β γ. same_type β k.1) (second_true (is_value_type k.0) _ k.3) in
    (sort m.0.0, sort m.0.1, k.2 ∙ (λ i. relation_sort (of_pair k.0 m.0.0 m.0.1 m.1 i) (sym (same_sort m.0.0 k.1 m.2) i)))
nullary_sorts nullary.SecondProjection t h =
    let k = relation_sorts t (λ p β. is_value_type p && if_pair p (λ α γ. same_type γ β)) h in
    let m = if_pair_tells k.0 (λ α γ. same_type γ k.1) (second_true (is_value_type k.0) _ k.3) in
    (sort m.0.0, sort m.0.1, k.2 ∙ (λ i. relation_sort (of_pair k.0 m.0.0 m.0.1 m.1 i) (sym (same_sort m.0.1 k.1 m.2) i)))
nullary_sorts nullary.IntegerMap t h =
    let k = relation_sorts t (λ α β. is_integer α && is_integer β) h in
    k.2 ∙ (λ i. relation_sort (of_integer k.0 (first_true _ _ k.3) i) (of_integer k.1 (second_true (is_integer k.0) _ k.3) i))

unary_sorts : (row : UnaryRow) (a t : Ty) → unary_fits row a t ≡ true → UnarySorts row (sort a) (sort t)
unary_sorts unary.Negation a t h = (of_truth a (first_true _ _ h), of_truth t (second_true (is_truth a) _ h))
unary_sorts unary.Finiteness a t h =
    let k = set_sort a is_value_type (first_true _ _ h) in (sort k.0, k.1, of_truth t (second_true (if_set a is_value_type) _ h))
unary_sorts unary.Opposite a t h = (of_integer a (first_true _ _ h), of_integer t (second_true (is_integer a) _ h))
unary_sorts unary.Converse a t h =
    let k = relation_sorts a (λ α β. is_relation_of t β α) (second_true (is_value_type a) _ h) in
    (sort k.0, sort k.1, k.2, of_relation_of t k.1 k.0 k.3)
unary_sorts unary.PowerSet a t h =
    let k = set_sort a is_value_type (first_true _ _ h) in
    (sort k.0, k.1, of_set_of t a (second_true (if_set a is_value_type) _ h) ∙ ap power_sort k.1)
unary_sorts unary.Cardinality a t h =
    let k = set_sort a is_value_type (first_true _ _ h) in (sort k.0, k.1, of_integer t (second_true (if_set a is_value_type) _ h))
unary_sorts unary.Domain a t h =
    let k = relation_sorts a (λ α β. is_set_of t α) (second_true (is_value_type a) _ h) in (sort k.0, sort k.1, k.2, of_set_of t k.0 k.3)
unary_sorts unary.Range a t h =
    let k = relation_sorts a (λ α β. is_set_of t β) (second_true (is_value_type a) _ h) in (sort k.0, sort k.1, k.2, of_set_of t k.1 k.3)
unary_sorts unary.Flattening a t h =
    let k = set_sort a (λ s. if_set s (λ α. same_type t s)) (second_true (is_value_type a) _ h) in
    let m = set_sort k.0 (λ α. same_type t k.0) k.2 in
    (sort m.0, k.1 ∙ ap power_sort m.1, same_sort t k.0 m.2 ∙ m.1)
unary_sorts unary.Extremum a t h =
    let k = set_sort a is_integer (first_true _ _ h) in
    (k.1 ∙ ap power_sort (of_integer k.0 k.2), of_integer t (second_true (if_set a is_integer) _ h))
unary_sorts unary.TruthOf a t h = (of_truth a (first_true _ _ h), of_boolean t (second_true (is_truth a) _ h))

binary_sorts : (row : BinaryRow) (a b t : Ty) → binary_fits row a b t ≡ true → BinarySorts row (sort a) (sort b) (sort t)
binary_sorts binary.Connective a b t h =
    let k = first_true (is_truth a && is_truth b) _ h in
    (of_truth a (first_true _ _ k), of_truth b (second_true (is_truth a) _ k), of_truth t (second_true (is_truth a && is_truth b) _ h))
binary_sorts binary.Equality a b t h =
    let k = first_true (is_value_type a && same_type b a) _ h in
    (same_sort b a (second_true (is_value_type a) _ k), of_truth t (second_true (is_value_type a && same_type b a) _ h))
binary_sorts binary.Membership a b t h =
    let k = first_true (is_value_type a && is_set_of b a) _ h in
    (of_set_of b a (second_true (is_value_type a) _ k), of_truth t (second_true (is_value_type a && is_set_of b a) _ h))
binary_sorts binary.Inclusion a b t h =
    let k = first_true (if_set a is_value_type && same_type b a) _ h in
    let m = set_sort a is_value_type (first_true _ _ k) in
    (sort m.0, m.1, same_sort b a (second_true (if_set a is_value_type) _ k), of_truth t (second_true (if_set a is_value_type && same_type b a) _ h))
binary_sorts binary.Comparison a b t h =
    let k = first_true (is_integer a && is_integer b) _ h in
    (of_integer a (first_true _ _ k), of_integer b (second_true (is_integer a) _ k), of_truth t (second_true (is_integer a && is_integer b) _ h))
binary_sorts binary.Maplet a b t h = of_pair_of t a b (second_true (is_value_type a && is_value_type b) _ h)
binary_sorts binary.RelationSet a b t h =
    let k = set_sort a (λ α. is_value_type α && if_set b (λ β. is_value_type β && if_set t (λ r. is_relation_of r α β))) h in
    let m = set_sort b (λ β. is_value_type β && if_set t (λ r. is_relation_of r k.0 β)) (second_true (is_value_type k.0) _ k.2) in
    let n = set_sort t (λ r. is_relation_of r k.0 m.0) (second_true (is_value_type m.0) _ m.2) in
    (sort k.0, sort m.0, k.1, m.1, n.1 ∙ ap power_sort (of_relation_of n.0 k.0 m.0 n.2))
binary_sorts binary.SetOperation a b t h =
    let k = first_true (if_set a is_value_type && same_type b a) _ h in
    let m = set_sort a is_value_type (first_true _ _ k) in (
      sort m.0,
      m.1,
      same_sort b a (second_true (if_set a is_value_type) _ k) ∙ m.1,
      same_sort t a (second_true (if_set a is_value_type && same_type b a) _ h) ∙ m.1,
    )
binary_sorts binary.Product a b t h =
    let k = set_sort a (λ α. is_value_type α && if_set b (λ β. is_value_type β && is_relation_of t α β)) h in
    let m = set_sort b (λ β. is_value_type β && is_relation_of t k.0 β) (second_true (is_value_type k.0) _ k.2) in
    (sort k.0, sort m.0, k.1, m.1, of_relation_of t k.0 m.0 (second_true (is_value_type m.0) _ m.2))
binary_sorts binary.DomainFilter a b t h =
    let k = first_true (is_value_type b && if_relation b (λ α β. is_set_of a α)) _ h in
    let m = relation_sorts b (λ α β. is_set_of a α) (second_true (is_value_type b) _ k) in
    (sort m.0, sort m.1, of_set_of a m.0 m.3, m.2, same_sort t b (second_true (is_value_type b && if_relation b (λ α β. is_set_of a α)) _ h) ∙ m.2)
binary_sorts binary.RangeFilter a b t h =
    let k = first_true (is_value_type a && if_relation a (λ α β. is_set_of b β)) _ h in
    let m = relation_sorts a (λ α β. is_set_of b β) (second_true (is_value_type a) _ k) in
    (sort m.0, sort m.1, m.2, of_set_of b m.1 m.3, same_sort t a (second_true (is_value_type a && if_relation a (λ α β. is_set_of b β)) _ h) ∙ m.2)
binary_sorts binary.Overriding a b t h =
    let k = first_true (is_value_type a && if_relation a (λ α β. true) && same_type b a) _ h in
    let l = first_true (is_value_type a && if_relation a (λ α β. true)) _ k in
    let m = relation_sorts a (λ α β. true) (second_true (is_value_type a) _ l) in (
      sort m.0,
      sort m.1,
      m.2,
      same_sort b a (second_true (is_value_type a && if_relation a (λ α β. true)) _ k) ∙ m.2,
      same_sort t a (second_true (is_value_type a && if_relation a (λ α β. true) && same_type b a) _ h) ∙ m.2,
    )
binary_sorts binary.Composition a b t h =
    let k = relation_sorts a (λ α β. if_relation b (λ β2 γ. same_type β2 β && is_relation_of t α γ)) (second_true (is_value_type a && is_value_type b) _ h) in
    let m = relation_sorts b (λ β2 γ. same_type β2 k.1 && is_relation_of t k.0 γ) k.3 in (
      sort k.0,
      sort k.1,
      sort m.1,
      k.2,
      m.2 ∙ (λ i. relation_sort (same_sort m.0 k.1 (first_true _ _ m.3) i) (sort m.1)),
      of_relation_of t k.0 m.1 (second_true (same_type m.0 k.1) _ m.3),
    )
binary_sorts binary.ParallelProduct a b t h =
    let k =
    relation_sorts a (λ α β. if_relation b (λ γ δ. if_relation t (λ from to. is_pair_of from α γ && is_pair_of to β δ)))
    (second_true (is_value_type a && is_value_type b) _ h) in
    let m = relation_sorts b (λ γ δ. if_relation t (λ from to. is_pair_of from k.0 γ && is_pair_of to k.1 δ)) k.3 in
    let n = relation_sorts t (λ from to. is_pair_of from k.0 m.0 && is_pair_of to k.1 m.1) m.3 in (
      sort k.0,
      sort k.1,
      sort m.0,
      sort m.1,
      k.2,
      m.2,
      n.2 ∙ (λ i. relation_sort (of_pair_of n.0 k.0 m.0 (first_true _ _ n.3) i) (of_pair_of n.1 k.1 m.1 (second_true (is_pair_of n.0 k.0 m.0) _ n.3) i)),
    )
binary_sorts binary.DirectProduct a b t h =
    let k =
    relation_sorts a (λ α β. if_relation b (λ α2 γ. same_type α2 α && if_relation t (λ from to. same_type from α && is_pair_of to β γ)))
    (second_true (is_value_type a && is_value_type b) _ h) in
    let m = relation_sorts b (λ α2 γ. same_type α2 k.0 && if_relation t (λ from to. same_type from k.0 && is_pair_of to k.1 γ)) k.3 in
    let n = relation_sorts t (λ from to. same_type from k.0 && is_pair_of to k.1 m.1) (second_true (same_type m.0 k.0) _ m.3) in (
      sort k.0,
      sort k.1,
      sort m.1,
      k.2,
      m.2 ∙ (λ i. relation_sort (same_sort m.0 k.0 (first_true _ _ m.3) i) (sort m.1)),
      n.2 ∙ (λ i. relation_sort (same_sort n.0 k.0 (first_true _ _ n.3) i) (of_pair_of n.1 k.1 m.1 (second_true (same_type n.0 k.0) _ n.3) i)),
    )
binary_sorts binary.Interval a b t h =
    let k = first_true (is_integer a && is_integer b) _ h in
    let m = set_sort t is_integer (second_true (is_integer a && is_integer b) _ h) in
    (of_integer a (first_true _ _ k), of_integer b (second_true (is_integer a) _ k), m.1 ∙ ap power_sort (of_integer m.0 m.2))
binary_sorts binary.Arithmetic a b t h =
    let k = first_true (is_integer a && is_integer b) _ h in
    (of_integer a (first_true _ _ k), of_integer b (second_true (is_integer a) _ k), of_integer t (second_true (is_integer a && is_integer b) _ h))
binary_sorts binary.Application a b t h =
    let k = relation_sorts a (λ α β. same_type b α && same_type t β) (second_true (is_value_type a) _ h) in
    k.2 ∙ (λ i. relation_sort (sym (same_sort b k.0 (first_true _ _ k.3)) i) (sym (same_sort t k.1 (second_true (same_type b k.0) _ k.3)) i))
binary_sorts binary.Image a b t h =
    let k = relation_sorts a (λ α β. is_set_of b α && is_set_of t β) (second_true (is_value_type a) _ h) in
    (sort k.0, sort k.1, k.2, of_set_of b k.0 (first_true _ _ k.3), of_set_of t k.1 (second_true (is_set_of b k.0) _ k.3))

each_sort : (a : Ty) (rest : List Ty) → list_all (λ b. same_type b a) rest ≡ true → AllByRecursion (λ b. b ≡ sort a) (map sort rest)
each_sort a [] h = tt
each_sort a (b ∷ rest) h = (same_sort b a (first_true _ _ h), each_sort a rest (second_true (same_type b a) _ h))

-- operands of types that a row of the table allows have sorts that it allows
pub sorts_fit : (row : Row) (types : List Ty) (t : Ty) → row_fits row types t ≡ true → SortsFit row (map sort types) (sort t)
sorts_fit (Nullary row) [] t h = nullary_sorts row t h
sorts_fit (Nullary row) (a ∷ types) t h = absurd cc
sorts_fit (Unary row) [] t h = absurd cc
sorts_fit (Unary row) (a ∷ []) t h = unary_sorts row a t h
sorts_fit (Unary row) (a ∷ b ∷ types) t h = absurd cc
sorts_fit (Binary row) [] t h = absurd cc
sorts_fit (Binary row) (a ∷ []) t h = absurd cc
sorts_fit (Binary row) (a ∷ b ∷ []) t h = binary_sorts row a b t h
sorts_fit (Binary row) (a ∷ b ∷ c ∷ types) t h = absurd cc
sorts_fit SetExtension [] t h = absurd cc
sorts_fit SetExtension (a ∷ rest) t h =
    let k = first_true (is_value_type a && list_all (λ b. same_type b a) rest) _ h in
    ((refl, each_sort a rest (second_true (is_value_type a) _ k)), of_set_of t a (second_true (is_value_type a && list_all (λ b. same_type b a) rest) _ h))
