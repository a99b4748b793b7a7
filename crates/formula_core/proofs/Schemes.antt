-- The tests of the table of types find exactly the instances of its schemes.
use Rattle.std.proofs.Common.{◌≡◌, ◌∙◌, sym, ap, refl, ℕ, zero, suc, ◌-◌, Bool, true, false, ◌&&◌, ◌↔◌, List, [], ◌∷◌, length, map, replicate, IsTrue, arith}
use Rattle.std.specs.List.{list_all}
use Rattle.std.specs.Option.{option_map_or, option_and_then}
use Rattle.formula_core.specs.declared.ty.Ty.{Ty, out-Ty, roll-Ty}
use Rattle.formula_core.specs.declared.ty.Ty.TheOpen.{Ty-F, Int as IntF, Bool as BoolF, Pow as PowF, Pair as PairF, Truth as TruthF}
use Rattle.formula_core.specs.declared.ty.Ty.TheVariants as ty
use Rattle.formula_core.specs.declared.ty.Ty.TheViews.{roll-out-Ty, rolls-Int, rolls-Bool, rolls-Pow, rolls-Pair, rolls-Truth, outs-Int, outs-Bool, outs-Pow, outs-Pair, outs-Truth}
use Rattle.formula_core.specs.declared.op.Binder.{Binder}
use Rattle.formula_core.specs.declared.op.Binder.TheVariants as binder
use Rattle.formula_core.specs.declared.row.Row.{Row}
use Rattle.formula_core.specs.declared.row.Row.TheVariants.{Nullary, Unary, Binary, SetExtension}
use Rattle.formula_core.specs.declared.row.NullaryRow.{NullaryRow}
use Rattle.formula_core.specs.declared.row.NullaryRow.TheVariants as nullary
use Rattle.formula_core.specs.declared.row.UnaryRow.{UnaryRow}
use Rattle.formula_core.specs.declared.row.UnaryRow.TheVariants as unary
use Rattle.formula_core.specs.declared.row.BinaryRow.{BinaryRow}
use Rattle.formula_core.specs.declared.row.BinaryRow.TheVariants as binary
use Rattle.formula_core.specs.Types.{same_type, is_value_step, is_value_type, is_truth_at, is_truth, is_integer_at, is_integer, is_boolean_at, is_boolean, members_at, components_at, components, if_set, if_pair, if_relation, is_set_of, is_pair_of, is_relation_of}
use Rattle.formula_core.specs.TypeTable.{nullary_fits, unary_fits, binary_fits, row_fits, binder_fits}
use Rattle.formula_core.specs.Schemes.{Scheme, alpha, power, nullary_scheme, unary_scheme, binary_scheme, operand_schemes, result_scheme, part_schemes, binder_scheme, Letters, AreValues, type_of_scheme, IsSchemeInstance}
use Rattle.formula_core.proofs.Equations.{type_fold}
use Rattle.formula_core.proofs.Types.{same_type_exact}
use Rattle.formula_core.proofs.Weakening.{first_true, second_true, both_true}
use Rattle.formula_core.proofs.WholeSets.{same_type_refl, value-Pow, value-Pair, at_set}

-- What a test tells of the type that it was made on.

truth_at : (y : Ty-F Ty) → is_truth_at y ≡ true → roll-Ty y ≡ ty.Truth
truth_at TruthF h = rolls-Truth
truth_at _ h = cc

pub truth_view : (t : Ty) → is_truth t ≡ true → t ≡ ty.Truth
truth_view t h = sym (roll-out-Ty t) ∙ truth_at (out-Ty t) h

integer_at : (y : Ty-F Ty) → is_integer_at y ≡ true → roll-Ty y ≡ ty.Int
integer_at IntF h = rolls-Int
integer_at _ h = cc

integer_view : (t : Ty) → is_integer t ≡ true → t ≡ ty.Int
integer_view t h = sym (roll-out-Ty t) ∙ integer_at (out-Ty t) h

boolean_at : (y : Ty-F Ty) → is_boolean_at y ≡ true → roll-Ty y ≡ ty.Bool
boolean_at BoolF h = rolls-Bool
boolean_at _ h = cc

boolean_view : (t : Ty) → is_boolean t ≡ true → t ≡ ty.Bool
boolean_view t h = sym (roll-out-Ty t) ∙ boolean_at (out-Ty t) h

pub record SetOf (t : Ty) (f : Ty → Bool) : Type 0 where
  pub part : Ty
  pub is : t ≡ ty.Pow part
  pub holds : f part ≡ true

set_at : (y : Ty-F Ty) (f : Ty → Bool) → option_map_or f (members_at y) false ≡ true → SetOf (roll-Ty y) f
set_at (PowF p) f h = record { part = p; is = rolls-Pow p; holds = h }
set_at _ f h = cc

set_view : (t : Ty) (f : Ty → Bool) → if_set t f ≡ true → SetOf t f
set_view t f h = let v : SetOf (roll-Ty (out-Ty t)) f = set_at (out-Ty t) f h in record { part = v.part; is = sym (roll-out-Ty t) ∙ v.is; holds = v.holds }

pub record PairOf (t : Ty) (f : Ty → Ty → Bool) : Type 0 where
  pub left : Ty
  pub right : Ty
  pub is : t ≡ ty.Pair left right
  pub holds : f left right ≡ true

pair_at : (y : Ty-F Ty) (f : Ty → Ty → Bool) → option_map_or (λ p. f p.0 p.1) (components_at y) false ≡ true → PairOf (roll-Ty y) f
pair_at (PairF a b) f h = record { left = a; right = b; is = rolls-Pair a b; holds = h }
pair_at _ f h = cc

pair_view : (t : Ty) (f : Ty → Ty → Bool) → if_pair t f ≡ true → PairOf t f
pair_view t f h = let v : PairOf (roll-Ty (out-Ty t)) f = pair_at (out-Ty t) f h in record { left = v.left; right = v.right; is = sym (roll-out-Ty t) ∙ v.is; holds = v.holds }

pub record RelationOf (t : Ty) (f : Ty → Ty → Bool) : Type 0 where
  pub from : Ty
  pub to : Ty
  pub is : t ≡ ty.Pow (ty.Pair from to)
  pub holds : f from to ≡ true

relation_at : (y : Ty-F Ty) (f : Ty → Ty → Bool) → option_map_or (λ p. f p.0 p.1) (option_and_then components (members_at y)) false ≡ true → RelationOf (roll-Ty y) f
relation_at (PowF p) f h = let v : PairOf p f = pair_view p f h in record { from = v.left; to = v.right; is = rolls-Pow p ∙ ap ty.Pow v.is; holds = v.holds }
relation_at _ f h = cc

relation_view : (t : Ty) (f : Ty → Ty → Bool) → if_relation t f ≡ true → RelationOf t f
relation_view t f h = let v : RelationOf (roll-Ty (out-Ty t)) f = relation_at (out-Ty t) f h in record { from = v.from; to = v.to; is = sym (roll-out-Ty t) ∙ v.is; holds = v.holds }

set_of_view : (t a : Ty) → is_set_of t a ≡ true → t ≡ ty.Pow a
set_of_view t a h = let v : SetOf t (λ p. same_type p a) = set_view t _ h in v.is ∙ ap ty.Pow (same_type_exact v.part a v.holds)

pair_of_view : (t a b : Ty) → is_pair_of t a b ≡ true → t ≡ ty.Pair a b
pair_of_view t a b h =
    let v : PairOf t (λ p q. same_type p a && same_type q b) = pair_view t _ h in
    v.is ∙ (λ i. ty.Pair (same_type_exact v.left a (first_true _ _ v.holds) i) (same_type_exact v.right b (second_true (same_type v.left a) _ v.holds) i))

relation_of_view : (t a b : Ty) → is_relation_of t a b ≡ true → t ≡ ty.Pow (ty.Pair a b)
relation_of_view t a b h = let v : SetOf t (λ p. is_pair_of p a b) = set_view t _ h in v.is ∙ ap ty.Pow (pair_of_view v.part a b v.holds)

-- Types of values.

pub value-Int : is_value_type ty.Int ≡ true
value-Int = type_fold is_value_step IntF _ rolls-Int

left_value : (t a b : Ty) → t ≡ ty.Pair a b → is_value_type t ≡ true → is_value_type a ≡ true
left_value t a b e h = first_true (is_value_type a) (is_value_type b) (sym (value-Pair a b) ∙ sym (ap is_value_type e) ∙ h)

right_value : (t a b : Ty) → t ≡ ty.Pair a b → is_value_type t ≡ true → is_value_type b ≡ true
right_value t a b e h = second_true (is_value_type a) (is_value_type b) (sym (value-Pair a b) ∙ sym (ap is_value_type e) ∙ h)

part_value : (t a : Ty) → t ≡ ty.Pow a → is_value_type t ≡ true → is_value_type a ≡ true
part_value t a e h = sym (value-Pow a) ∙ sym (ap is_value_type e) ∙ h

from_value : (t a b : Ty) → t ≡ ty.Pow (ty.Pair a b) → is_value_type t ≡ true → is_value_type a ≡ true
from_value t a b e h = left_value (ty.Pair a b) a b refl (part_value t (ty.Pair a b) e h)

to_value : (t a b : Ty) → t ≡ ty.Pow (ty.Pair a b) → is_value_type t ≡ true → is_value_type b ≡ true
to_value t a b e h = right_value (ty.Pair a b) a b refl (part_value t (ty.Pair a b) e h)

-- Each test finds an instance.

abbrev letters : Ty → Ty → Ty → Ty → Letters
letters a b c d = record { alpha = a; beta = b; gamma = c; delta = d }

instance : {operands : List Scheme} {whole : Scheme} {types : List Ty} {t : Ty} → (a b c d : Ty)
    → is_value_type a ≡ true → is_value_type b ≡ true → is_value_type c ≡ true → is_value_type d ≡ true
    → types ≡ map (type_of_scheme (letters a b c d)) operands → t ≡ type_of_scheme (letters a b c d) whole → IsSchemeInstance operands whole types t
instance a b c d va vb vc vd e k = record {
  letters = letters a b c d;
  values = record { alpha = va; beta = vb; gamma = vc; delta = vd };
  operands_are = e;
  whole_is = k;
}

without : {operands : List Scheme} {whole : Scheme} {types : List Ty} {t : Ty}
    → types ≡ map (type_of_scheme (letters ty.Int ty.Int ty.Int ty.Int)) operands → t ≡ type_of_scheme (letters ty.Int ty.Int ty.Int ty.Int) whole → IsSchemeInstance operands whole types t
without = instance ty.Int ty.Int ty.Int ty.Int value-Int value-Int value-Int value-Int

with_one : {operands : List Scheme} {whole : Scheme} {types : List Ty} {t : Ty} → (a : Ty) → is_value_type a ≡ true
    → types ≡ map (type_of_scheme (letters a ty.Int ty.Int ty.Int)) operands → t ≡ type_of_scheme (letters a ty.Int ty.Int ty.Int) whole → IsSchemeInstance operands whole types t
with_one a v = instance a ty.Int ty.Int ty.Int v value-Int value-Int value-Int

with_two : {operands : List Scheme} {whole : Scheme} {types : List Ty} {t : Ty} → (a b : Ty) → is_value_type a ≡ true → is_value_type b ≡ true
    → types ≡ map (type_of_scheme (letters a b ty.Int ty.Int)) operands → t ≡ type_of_scheme (letters a b ty.Int ty.Int) whole → IsSchemeInstance operands whole types t
with_two a b v w = instance a b ty.Int ty.Int v w value-Int value-Int

single : {a b : Ty} → a ≡ b → a ∷ [] ≡ b ∷ []
single e = λ i. e i ∷ []

double : {a b c d : Ty} → a ≡ b → c ≡ d → a ∷ c ∷ [] ≡ b ∷ d ∷ []
double e k = λ i. e i ∷ k i ∷ []

nullary_found : (row : NullaryRow) (t : Ty) → nullary_fits row t ≡ true → IsSchemeInstance [] (nullary_scheme row) [] t
nullary_found nullary.Predicate t h = without refl (truth_view t h)
nullary_found nullary.TruthValue t h = without refl (boolean_view t h)
nullary_found nullary.TruthValueSet t h = let v : SetOf t is_boolean = set_view t _ h in without refl (v.is ∙ ap ty.Pow (boolean_view v.part v.holds))
nullary_found nullary.IntegerSet t h = let v : SetOf t is_integer = set_view t _ h in without refl (v.is ∙ ap ty.Pow (integer_view v.part v.holds))
nullary_found nullary.EmptySet t h = let v : SetOf t is_value_type = set_view t _ h in with_one v.part v.holds refl v.is
nullary_found nullary.Identity t h =
    let v : RelationOf t (λ α β. is_value_type α && same_type α β) = relation_view t _ h in
    let e : v.to ≡ v.from = sym (same_type_exact v.from v.to (second_true (is_value_type v.from) _ v.holds)) in
    with_one v.from (first_true _ _ v.holds) refl (v.is ∙ ap (λ b. ty.Pow (ty.Pair v.from b)) e)
nullary_found nullary.FirstProjection t h =
    let v : RelationOf t (λ p α. is_value_type p && if_pair p (λ β γ. same_type β α)) = relation_view t _ h in
    let w : PairOf v.from (λ β γ. same_type β v.to) = pair_view v.from _ (second_true (is_value_type v.from) _ v.holds) in
    let value : is_value_type v.from ≡ true = first_true _ _ v.holds in
    with_two w.left w.right (left_value v.from w.left w.right w.is value) (right_value v.from w.left w.right w.is value)
    refl (v.is ∙ (λ i. ty.Pow (ty.Pair (w.is i) (sym (same_type_exact w.left v.to w.holds) i))))
nullary_found nullary.SecondProjection t h =
    let v : RelationOf t (λ p β. is_value_type p && if_pair p (λ α γ. same_type γ β)) = relation_view t _ h in
    let w : PairOf v.from (λ α γ. same_type γ v.to) = pair_view v.from _ (second_true (is_value_type v.from) _ v.holds) in
    let value : is_value_type v.from ≡ true = first_true _ _ v.holds in
    with_two w.left w.right (left_value v.from w.left w.right w.is value) (right_value v.from w.left w.right w.is value)
    refl (v.is ∙ (λ i. ty.Pow (ty.Pair (w.is i) (sym (same_type_exact w.right v.to w.holds) i))))
nullary_found nullary.IntegerMap t h =
    let v : RelationOf t (λ α β. is_integer α && is_integer β) = relation_view t _ h in
    without refl (v.is ∙ (λ i. ty.Pow (ty.Pair (integer_view v.from (first_true _ _ v.holds) i) (integer_view v.to (second_true (is_integer v.from) _ v.holds) i))))

unary_found : (row : UnaryRow) (a t : Ty) → unary_fits row a t ≡ true → IsSchemeInstance ((unary_scheme row).0 ∷ []) (unary_scheme row).1 (a ∷ []) t
unary_found unary.Negation a t h = without (single (truth_view a (first_true _ _ h))) (truth_view t (second_true (is_truth a) _ h))
unary_found unary.Finiteness a t h =
    let v : SetOf a is_value_type = set_view a _ (first_true _ _ h) in
    with_one v.part v.holds (single v.is) (truth_view t (second_true (if_set a is_value_type) _ h))
unary_found unary.Opposite a t h = without (single (integer_view a (first_true _ _ h))) (integer_view t (second_true (is_integer a) _ h))
unary_found unary.Converse a t h =
    let v : RelationOf a (λ α β. is_relation_of t β α) = relation_view a _ (second_true (is_value_type a) _ h) in
    let value : is_value_type a ≡ true = first_true _ _ h in
    with_two v.from v.to (from_value a v.from v.to v.is value) (to_value a v.from v.to v.is value) (single v.is) (relation_of_view t v.to v.from v.holds)
unary_found unary.PowerSet a t h =
    let v : SetOf a is_value_type = set_view a _ (first_true _ _ h) in
    with_one v.part v.holds (single v.is) (set_of_view t a (second_true (if_set a is_value_type) _ h) ∙ ap ty.Pow v.is)
unary_found unary.Cardinality a t h =
    let v : SetOf a is_value_type = set_view a _ (first_true _ _ h) in
    with_one v.part v.holds (single v.is) (integer_view t (second_true (if_set a is_value_type) _ h))
unary_found unary.Domain a t h =
    let v : RelationOf a (λ α β. is_set_of t α) = relation_view a _ (second_true (is_value_type a) _ h) in
    let value : is_value_type a ≡ true = first_true _ _ h in
    with_two v.from v.to (from_value a v.from v.to v.is value) (to_value a v.from v.to v.is value) (single v.is) (set_of_view t v.from v.holds)
unary_found unary.Range a t h =
    let v : RelationOf a (λ α β. is_set_of t β) = relation_view a _ (second_true (is_value_type a) _ h) in
    let value : is_value_type a ≡ true = first_true _ _ h in
    with_two v.from v.to (from_value a v.from v.to v.is value) (to_value a v.from v.to v.is value) (single v.is) (set_of_view t v.to v.holds)
unary_found unary.Flattening a t h =
    let v : SetOf a (λ s. if_set s (λ α. same_type t s)) = set_view a _ (second_true (is_value_type a) _ h) in
    let w : SetOf v.part (λ α. same_type t v.part) = set_view v.part _ v.holds in
    let value : is_value_type v.part ≡ true = part_value a v.part v.is (first_true _ _ h) in
    with_one w.part (part_value v.part w.part w.is value) (single (v.is ∙ ap ty.Pow w.is)) (same_type_exact t v.part w.holds ∙ w.is)
unary_found unary.Extremum a t h =
    let v : SetOf a is_integer = set_view a _ (first_true _ _ h) in
    without (single (v.is ∙ ap ty.Pow (integer_view v.part v.holds))) (integer_view t (second_true (if_set a is_integer) _ h))
unary_found unary.TruthOf a t h = without (single (truth_view a (first_true _ _ h))) (boolean_view t (second_true (is_truth a) _ h))

record Three (p q r : Bool) : Type 0 where
  first : p ≡ true
  second : q ≡ true
  third : r ≡ true

three : (p q r : Bool) → (p && q && r) ≡ true → Three p q r
three p q r h = let k : (p && q) ≡ true = first_true (p && q) r h in record { first = first_true p q k; second = second_true p q k; third = second_true (p && q) r h }

-- a relation between types of values
record RelationTypes (t : Ty) (f : Ty → Ty → Bool) : Type 0 where
  from : Ty
  to : Ty
  from_is : is_value_type from ≡ true
  to_is : is_value_type to ≡ true
  is : t ≡ ty.Pow (ty.Pair from to)
  holds : f from to ≡ true

relation_types : (t : Ty) (f : Ty → Ty → Bool) → is_value_type t ≡ true → if_relation t f ≡ true → RelationTypes t f
relation_types t f value h =
    let v : RelationOf t f = relation_view t f h in
    record { from = v.from; to = v.to; from_is = from_value t v.from v.to v.is value; to_is = to_value t v.from v.to v.is value; is = v.is; holds = v.holds }

binary_found : (row : BinaryRow) (a b t : Ty) → binary_fits row a b t ≡ true
    → IsSchemeInstance ((binary_scheme row).0 ∷ (binary_scheme row).1 ∷ []) (binary_scheme row).2 (a ∷ b ∷ []) t
binary_found binary.Connective a b t h = let k : Three (is_truth a) (is_truth b) (is_truth t) = three _ _ _ h in without (double (truth_view a k.first) (truth_view b k.second)) (truth_view t k.third)
binary_found binary.Equality a b t h =
    let k : Three (is_value_type a) (same_type b a) (is_truth t) = three _ _ _ h in
    with_one a k.first (double refl (same_type_exact b a k.second)) (truth_view t k.third)
binary_found binary.Membership a b t h =
    let k : Three (is_value_type a) (is_set_of b a) (is_truth t) = three _ _ _ h in
    with_one a k.first (double refl (set_of_view b a k.second)) (truth_view t k.third)
binary_found binary.Inclusion a b t h =
    let k : Three (if_set a is_value_type) (same_type b a) (is_truth t) = three _ _ _ h in
    let v : SetOf a is_value_type = set_view a _ k.first in
    with_one v.part v.holds (double v.is (same_type_exact b a k.second ∙ v.is)) (truth_view t k.third)
binary_found binary.Comparison a b t h =
    let k : Three (is_integer a) (is_integer b) (is_truth t) = three _ _ _ h in without (double (integer_view a k.first) (integer_view b k.second)) (truth_view t k.third)
binary_found binary.Maplet a b t h =
    let k : Three (is_value_type a) (is_value_type b) (is_pair_of t a b) = three _ _ _ h in
    with_two a b k.first k.second refl (pair_of_view t a b k.third)
binary_found binary.RelationSet a b t h =
    let v : SetOf a (λ α. is_value_type α && if_set b (λ β. is_value_type β && if_set t (λ r. is_relation_of r α β))) = set_view a _ h in
    let w : SetOf b (λ β. is_value_type β && if_set t (λ r. is_relation_of r v.part β)) = set_view b _ (second_true (is_value_type v.part) _ v.holds) in
    let u : SetOf t (λ r. is_relation_of r v.part w.part) = set_view t _ (second_true (is_value_type w.part) _ w.holds) in
    with_two v.part w.part (first_true _ _ v.holds) (first_true _ _ w.holds) (double v.is w.is) (u.is ∙ ap ty.Pow (relation_of_view u.part v.part w.part u.holds))
binary_found binary.SetOperation a b t h =
    let k : Three (if_set a is_value_type) (same_type b a) (same_type t a) = three _ _ _ h in
    let v : SetOf a is_value_type = set_view a _ k.first in
    with_one v.part v.holds (double v.is (same_type_exact b a k.second ∙ v.is)) (same_type_exact t a k.third ∙ v.is)
binary_found binary.Product a b t h =
    let v : SetOf a (λ α. is_value_type α && if_set b (λ β. is_value_type β && is_relation_of t α β)) = set_view a _ h in
    let w : SetOf b (λ β. is_value_type β && is_relation_of t v.part β) = set_view b _ (second_true (is_value_type v.part) _ v.holds) in
    with_two v.part w.part (first_true _ _ v.holds) (first_true _ _ w.holds) (double v.is w.is) (relation_of_view t v.part w.part (second_true (is_value_type w.part) _ w.holds))
binary_found binary.DomainFilter a b t h =
    let k : Three (is_value_type b) (if_relation b (λ α β. is_set_of a α)) (same_type t b) = three _ _ _ h in
    let v : RelationTypes b (λ α β. is_set_of a α) = relation_types b _ k.first k.second in
    with_two v.from v.to v.from_is v.to_is (double (set_of_view a v.from v.holds) v.is) (same_type_exact t b k.third ∙ v.is)
binary_found binary.RangeFilter a b t h =
    let k : Three (is_value_type a) (if_relation a (λ α β. is_set_of b β)) (same_type t a) = three _ _ _ h in
    let v : RelationTypes a (λ α β. is_set_of b β) = relation_types a _ k.first k.second in
    with_two v.from v.to v.from_is v.to_is (double v.is (set_of_view b v.to v.holds)) (same_type_exact t a k.third ∙ v.is)
binary_found binary.Overriding a b t h =
    let k : Three (is_value_type a && if_relation a (λ α β. true)) (same_type b a) (same_type t a) = three _ _ _ h in
    let v : RelationTypes a (λ α β. true) = relation_types a _ (first_true _ _ k.first) (second_true (is_value_type a) _ k.first) in
    with_two v.from v.to v.from_is v.to_is (double v.is (same_type_exact b a k.second ∙ v.is)) (same_type_exact t a k.third ∙ v.is)
binary_found binary.Composition a b t h =
    let k : Three (is_value_type a) (is_value_type b) (if_relation a (λ α β. if_relation b (λ β2 γ. same_type β2 β && is_relation_of t α γ))) = three _ _ _ h in
    let v : RelationTypes a (λ α β. if_relation b (λ β2 γ. same_type β2 β && is_relation_of t α γ)) = relation_types a _ k.first k.third in
    let w : RelationTypes b (λ β2 γ. same_type β2 v.to && is_relation_of t v.from γ) = relation_types b _ k.second v.holds in
    let e : w.from ≡ v.to = same_type_exact w.from v.to (first_true _ _ w.holds) in
    instance v.from v.to w.to ty.Int v.from_is v.to_is w.to_is value-Int
    (double v.is (w.is ∙ ap (λ x. ty.Pow (ty.Pair x w.to)) e)) (relation_of_view t v.from w.to (second_true (same_type w.from v.to) _ w.holds))
binary_found binary.ParallelProduct a b t h =
    let k : Three (is_value_type a) (is_value_type b) (if_relation a (λ α β. if_relation b (λ γ δ. if_relation t (λ from to. is_pair_of from α γ && is_pair_of to β δ)))) = three _ _ _ h in
    let v : RelationTypes a (λ α β. if_relation b (λ γ δ. if_relation t (λ from to. is_pair_of from α γ && is_pair_of to β δ))) = relation_types a _ k.first k.third in
    let w : RelationTypes b (λ γ δ. if_relation t (λ from to. is_pair_of from v.from γ && is_pair_of to v.to δ)) = relation_types b _ k.second v.holds in
    let u : RelationOf t (λ from to. is_pair_of from v.from w.from && is_pair_of to v.to w.to) = relation_view t _ w.holds in
    let left : u.from ≡ ty.Pair v.from w.from = pair_of_view u.from v.from w.from (first_true _ _ u.holds) in
    let right : u.to ≡ ty.Pair v.to w.to = pair_of_view u.to v.to w.to (second_true (is_pair_of u.from v.from w.from) _ u.holds) in
    instance v.from v.to w.from w.to v.from_is v.to_is w.from_is w.to_is (double v.is w.is) (u.is ∙ (λ i. ty.Pow (ty.Pair (left i) (right i))))
binary_found binary.DirectProduct a b t h =
    let k : Three (is_value_type a) (is_value_type b) (if_relation a (λ α β. if_relation b (λ α2 γ. same_type α2 α && if_relation t (λ from to. same_type from α && is_pair_of to β γ)))) = three _ _ _ h in
    let v : RelationTypes a (λ α β. if_relation b (λ α2 γ. same_type α2 α && if_relation t (λ from to. same_type from α && is_pair_of to β γ))) = relation_types a _ k.first k.third in
    let w : RelationTypes b (λ α2 γ. same_type α2 v.from && if_relation t (λ from to. same_type from v.from && is_pair_of to v.to γ)) = relation_types b _ k.second v.holds in
    let u : RelationOf t (λ from to. same_type from v.from && is_pair_of to v.to w.to) = relation_view t _ (second_true (same_type w.from v.from) _ w.holds) in
    let e : w.from ≡ v.from = same_type_exact w.from v.from (first_true _ _ w.holds) in
    let left : u.from ≡ v.from = same_type_exact u.from v.from (first_true _ _ u.holds) in
    let right : u.to ≡ ty.Pair v.to w.to = pair_of_view u.to v.to w.to (second_true (same_type u.from v.from) _ u.holds) in
    instance v.from v.to w.to ty.Int v.from_is v.to_is w.to_is value-Int
    (double v.is (w.is ∙ ap (λ x. ty.Pow (ty.Pair x w.to)) e)) (u.is ∙ (λ i. ty.Pow (ty.Pair (left i) (right i))))
binary_found binary.Interval a b t h =
    let k : Three (is_integer a) (is_integer b) (if_set t is_integer) = three _ _ _ h in
    let v : SetOf t is_integer = set_view t _ k.third in
    without (double (integer_view a k.first) (integer_view b k.second)) (v.is ∙ ap ty.Pow (integer_view v.part v.holds))
binary_found binary.Arithmetic a b t h =
    let k : Three (is_integer a) (is_integer b) (is_integer t) = three _ _ _ h in without (double (integer_view a k.first) (integer_view b k.second)) (integer_view t k.third)
binary_found binary.Application a b t h =
    let v : RelationTypes a (λ α β. same_type b α && same_type t β) = relation_types a _ (first_true _ _ h) (second_true (is_value_type a) _ h) in
    with_two v.from v.to v.from_is v.to_is (double v.is (same_type_exact b v.from (first_true _ _ v.holds))) (same_type_exact t v.to (second_true (same_type b v.from) _ v.holds))
binary_found binary.Image a b t h =
    let v : RelationTypes a (λ α β. is_set_of b α && is_set_of t β) = relation_types a _ (first_true _ _ h) (second_true (is_value_type a) _ h) in
    with_two v.from v.to v.from_is v.to_is (double v.is (set_of_view b v.from (first_true _ _ v.holds))) (set_of_view t v.to (second_true (is_set_of b v.from) _ v.holds))

all_same : (a : Ty) (types : List Ty) → list_all (λ b. same_type b a) types ≡ true → types ≡ map (type_of_scheme (letters a ty.Int ty.Int ty.Int)) (replicate (length types) alpha)
all_same a [] h = refl
all_same a (b ∷ types) h = λ i. same_type_exact b a (first_true _ _ h) i ∷ all_same a types (second_true (same_type b a) _ h) i

extension_found : (a : Ty) (rest : List Ty) (t : Ty) → (is_value_type a && list_all (λ b. same_type b a) rest && is_set_of t a) ≡ true
    → IsSchemeInstance (alpha ∷ replicate (length (a ∷ rest) - 1) alpha) (power alpha) (a ∷ rest) t
extension_found a rest t h =
    let n : length rest ≡ length (a ∷ rest) - 1 = omega arith in
    let k : Three (is_value_type a) (list_all (λ b. same_type b a) rest) (is_set_of t a) = three _ _ _ h in
    let others : rest ≡ map (type_of_scheme (letters a ty.Int ty.Int ty.Int)) (replicate (length (a ∷ rest) - 1) alpha) =
    all_same a rest k.second ∙ ap (λ m. map (type_of_scheme (letters a ty.Int ty.Int ty.Int)) (replicate m alpha)) n in
    with_one a k.first (λ i. a ∷ others i) (set_of_view t a k.third)

found : (row : Row) (types : List Ty) (t : Ty) → row_fits row types t ≡ true → IsSchemeInstance (operand_schemes row (length types)) (result_scheme row) types t
found (Nullary row) [] t h = nullary_found row t h
found (Nullary row) (a ∷ rest) t h = cc
found (Unary row) [] t h = cc
found (Unary row) (a ∷ []) t h = unary_found row a t h
found (Unary row) (a ∷ b ∷ rest) t h = cc
found (Binary row) [] t h = cc
found (Binary row) (a ∷ []) t h = cc
found (Binary row) (a ∷ b ∷ []) t h = binary_found row a b t h
found (Binary row) (a ∷ b ∷ c ∷ rest) t h = cc
found SetExtension [] t h = cc
found SetExtension (a ∷ rest) t h = extension_found a rest t h

binder_found : (b : Binder) (types : List Ty) (t : Ty) → binder_fits b types t ≡ true → IsSchemeInstance (part_schemes b) (binder_scheme b) types t
binder_found binder.ForAll (p ∷ []) t h = without (single (truth_view p (first_true _ _ h))) (truth_view t (second_true (is_truth p) _ h))
binder_found binder.Exists (p ∷ []) t h = without (single (truth_view p (first_true _ _ h))) (truth_view t (second_true (is_truth p) _ h))
binder_found binder.Comprehension (p ∷ e ∷ []) t h =
    let k : Three (is_truth p) (is_value_type e) (is_set_of t e) = three _ _ _ h in
    with_one e k.second (double (truth_view p k.first) refl) (set_of_view t e k.third)
binder_found binder.QuantifiedUnion (p ∷ e ∷ []) t h =
    let k : Three (is_truth p) (if_set e is_value_type) (same_type t e) = three _ _ _ h in
    let v : SetOf e is_value_type = set_view e _ k.second in
    with_one v.part v.holds (double (truth_view p k.first) v.is) (same_type_exact t e k.third ∙ v.is)
binder_found binder.QuantifiedIntersection (p ∷ e ∷ []) t h =
    let k : Three (is_truth p) (if_set e is_value_type) (same_type t e) = three _ _ _ h in
    let v : SetOf e is_value_type = set_view e _ k.second in
    with_one v.part v.holds (double (truth_view p k.first) v.is) (same_type_exact t e k.third ∙ v.is)
binder_found _ _ t h = cc

-- Each instance passes the test.

ruleset views = (outs-Int, outs-Bool, outs-Truth, outs-Pow, outs-Pair, same_type_refl, value-Pow, value-Pair)

nullary_fitting : (row : NullaryRow) (l : Letters) → AreValues l → nullary_fits row (type_of_scheme l (nullary_scheme row)) ≡ true
nullary_fitting nullary.Predicate l w = simp views refl
nullary_fitting nullary.TruthValue l w = simp views refl
nullary_fitting nullary.TruthValueSet l w = simp views refl
nullary_fitting nullary.IntegerSet l w = simp views refl
nullary_fitting nullary.EmptySet l w = simp (views, w.alpha) refl
nullary_fitting nullary.Identity l w = simp (views, w.alpha) refl
nullary_fitting nullary.FirstProjection l w = simp (views, w.alpha, w.beta) refl
nullary_fitting nullary.SecondProjection l w = simp (views, w.alpha, w.beta) refl
nullary_fitting nullary.IntegerMap l w = simp views refl

unary_fitting : (row : UnaryRow) (l : Letters) → AreValues l → unary_fits row (type_of_scheme l (unary_scheme row).0) (type_of_scheme l (unary_scheme row).1) ≡ true
unary_fitting unary.Negation l w = simp views refl
unary_fitting unary.Finiteness l w = simp (views, w.alpha) refl
unary_fitting unary.Opposite l w = simp views refl
unary_fitting unary.Converse l w = simp (views, w.alpha, w.beta) refl
unary_fitting unary.PowerSet l w = simp (views, w.alpha) refl
unary_fitting unary.Cardinality l w = simp (views, w.alpha) refl
unary_fitting unary.Domain l w = simp (views, w.alpha, w.beta) refl
unary_fitting unary.Range l w = simp (views, w.alpha, w.beta) refl
unary_fitting unary.Flattening l w = simp (views, w.alpha) refl
unary_fitting unary.Extremum l w = simp views refl
unary_fitting unary.TruthOf l w = simp views refl

binary_fitting : (row : BinaryRow) (l : Letters) → AreValues l → binary_fits row (type_of_scheme l (binary_scheme row).0) (type_of_scheme l (binary_scheme row).1) (type_of_scheme l (binary_scheme row).2) ≡ true
binary_fitting binary.Connective l w = simp views refl
binary_fitting binary.Equality l w = simp (views, w.alpha) refl
binary_fitting binary.Membership l w = simp (views, w.alpha) refl
binary_fitting binary.Inclusion l w = simp (views, w.alpha) refl
binary_fitting binary.Comparison l w = simp views refl
binary_fitting binary.Maplet l w = simp (views, w.alpha, w.beta) refl
binary_fitting binary.RelationSet l w = simp (views, w.alpha, w.beta) refl
binary_fitting binary.SetOperation l w = simp (views, w.alpha) refl
binary_fitting binary.Product l w = simp (views, w.alpha, w.beta) refl
binary_fitting binary.DomainFilter l w = simp (views, w.alpha, w.beta) refl
binary_fitting binary.RangeFilter l w = simp (views, w.alpha, w.beta) refl
binary_fitting binary.Overriding l w = simp (views, w.alpha, w.beta) refl
binary_fitting binary.Composition l w = simp (views, w.alpha, w.beta, w.gamma) refl
binary_fitting binary.ParallelProduct l w = simp (views, w.alpha, w.beta, w.gamma, w.delta) refl
binary_fitting binary.DirectProduct l w = simp (views, w.alpha, w.beta, w.gamma) refl
binary_fitting binary.Interval l w = simp views refl
binary_fitting binary.Arithmetic l w = simp views refl
binary_fitting binary.Application l w = simp (views, w.alpha, w.beta) refl
binary_fitting binary.Image l w = simp (views, w.alpha, w.beta) refl

all_fitting : (l : Letters) (k : ℕ) → list_all (λ b. same_type b l.alpha) (map (type_of_scheme l) (replicate k alpha)) ≡ true
all_fitting l zero = refl
all_fitting l (suc k) = both_true _ _ (same_type_refl l.alpha) (all_fitting l k)

fitting : (row : Row) (k : ℕ) (l : Letters) → AreValues l → row_fits row (map (type_of_scheme l) (operand_schemes row k)) (type_of_scheme l (result_scheme row)) ≡ true
fitting (Nullary row) k l w = nullary_fitting row l w
fitting (Unary row) k l w = unary_fitting row l w
fitting (Binary row) k l w = binary_fitting row l w
fitting SetExtension k l w = both_true _ _ (both_true _ _ w.alpha (all_fitting l (k - 1))) (at_set l.alpha (λ p. same_type p l.alpha) ∙ same_type_refl l.alpha)

binder_fitting : (b : Binder) (l : Letters) → AreValues l → binder_fits b (map (type_of_scheme l) (part_schemes b)) (type_of_scheme l (binder_scheme b)) ≡ true
binder_fitting binder.ForAll l w = simp views refl
binder_fitting binder.Exists l w = simp views refl
binder_fitting binder.Comprehension l w = simp (views, w.alpha) refl
binder_fitting binder.QuantifiedUnion l w = simp (views, w.alpha) refl
binder_fitting binder.QuantifiedIntersection l w = simp (views, w.alpha) refl

pub fits_exactly : (row : Row) (types : List Ty) (t : Ty) → IsTrue (row_fits row types t) ↔ IsSchemeInstance (operand_schemes row (length types)) (result_scheme row) types t
fits_exactly row types t = (found row types t, λ is. (λ i. row_fits row (is.operands_are i) (is.whole_is i)) ∙ fitting row (length types) is.letters is.values)

pub binder_fits_exactly : (b : Binder) (types : List Ty) (t : Ty) → IsTrue (binder_fits b types t) ↔ IsSchemeInstance (part_schemes b) (binder_scheme b) types t
binder_fits_exactly b types t = (binder_found b types t, λ is. (λ i. binder_fits b (is.operands_are i) (is.whole_is i)) ∙ binder_fitting b is.letters is.values)
