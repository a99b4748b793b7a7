-- The whole set of a type has the set of the type as its type, and is well where the type is one of values.
use Rattle.std.proofs.Common.{◌≡◌, ◌∙◌, sym, ap, refl, ℕ, Bool, true, false, ◌&&◌, List, [], ◌∷◌, IsTrue}
use Rattle.std.specs.Option.{option_map_or}
use Rattle.std.proofs.lemmas.Cmp.{nat_list_eq_equiv}
use Rattle.formula_core.specs.declared.op.Op.{Op}
use Rattle.formula_core.specs.declared.op.Op.TheVariants as op
use Rattle.formula_core.specs.declared.ty.Ty.{Ty}
use Rattle.formula_core.specs.declared.ty.Ty.TheOpen.{Ty-F, Int as IntF, Bool as BoolF, Given as GivenF, Pow as PowF, Pair as PairF, Truth as TruthF}
use Rattle.formula_core.specs.declared.ty.Ty.TheVariants as ty
use Rattle.formula_core.specs.declared.ty.Ty.TheViews.{out-Ty, roll-Ty, rolls-Int, rolls-Bool, rolls-Given, rolls-Pow, rolls-Pair, rolls-Truth, outs-Int, outs-Bool, outs-Given, outs-Pow, outs-Pair, outs-Truth}
use Rattle.formula_core.specs.declared.ty.Ty.TheFolds.{map-Ty, para-roll-Ty}
use Rattle.formula_core.specs.declared.formula.Formula.{Formula}
use Rattle.formula_core.specs.declared.formula.Formula.TheVariants as formula
use Rattle.formula_core.specs.declared.formula.Formula.TheViews.{outs-Free, outs-Node}
use Rattle.formula_core.specs.Types.{same_type_step, same_type, is_value_step, is_value_type, is_integer_at, is_integer, is_boolean_at, is_boolean, members_at, components_at, if_set, is_set_of, is_pair_of, is_relation_of}
use Rattle.formula_core.specs.Wellness.{type_of_step, type_of, is_well}
use Rattle.formula_core.specs.WholeSets.{whole_set_step, whole_set}
use Rattle.formula_core.proofs.Equations.{type_fold}
use Rattle.formula_core.proofs.Types.{type_induction, same_type_at}
use Rattle.formula_core.proofs.Weakening.{first_true, second_true, both_true}
use Rattle.formula_core.proofs.Wellness.{well-Free, well-Node}

-- the equation of `whole_set` at a variant
whole : (x : Ty-F Ty) (t : Ty) → roll-Ty x ≡ t → whole_set t ≡ whole_set_step (map-Ty Ty (Ty × Formula) (λ y. (y, whole_set y)) x)
whole x t e = ap whole_set (sym e) ∙ para-roll-Ty Formula whole_set_step x

abbrev IsSame : Ty → Type 0
IsSame t = same_type t t ≡ true

same_at : (x : Ty-F Ty) (t : Ty) → roll-Ty x ≡ t → out-Ty t ≡ x → same_type_step (map-Ty Ty (Ty → Bool) same_type x) x ≡ true → IsSame t
same_at x t e o h = same_type_at x t e t ∙ ap (same_type_step (map-Ty Ty (Ty → Bool) same_type x)) o ∙ h

-- a type is the same as itself
pub same_type_refl : (t : Ty) → same_type t t ≡ true
same_type_refl = type_induction IsSame
    (same_at IntF ty.Int rolls-Int outs-Int refl)
    (same_at BoolF ty.Bool rolls-Bool outs-Bool refl)
    (λ name. same_at (GivenF name) (ty.Given name) (rolls-Given name) (outs-Given name) (nat_list_eq_equiv.refl name))
    (λ t h. same_at (PowF t) (ty.Pow t) (rolls-Pow t) (outs-Pow t) h)
    (λ t u h k. same_at (PairF t u) (ty.Pair t u) (rolls-Pair t u) (outs-Pair t u) (both_true (same_type t t) (same_type u u) h k))
    (same_at TruthF ty.Truth rolls-Truth outs-Truth refl)

node_type : (o : Op) (parts : List Formula) (t : Ty) → type_of (formula.Node o parts t) ≡ t
node_type o parts t = ap type_of_step (outs-Node o parts t)

pub whole_set_type : (t : Ty) → type_of (whole_set t) ≡ ty.Pow t
whole_set_type = type_induction (λ t. type_of (whole_set t) ≡ ty.Pow t)
    (ap type_of (whole IntF ty.Int rolls-Int) ∙ node_type op.Integers [] (ty.Pow ty.Int))
    (ap type_of (whole BoolF ty.Bool rolls-Bool) ∙ node_type op.Booleans [] (ty.Pow ty.Bool))
    (λ name. ap type_of (whole (GivenF name) (ty.Given name) (rolls-Given name)) ∙ ap type_of_step (outs-Free name (ty.Pow (ty.Given name))))
    (λ t h. ap type_of (whole (PowF t) (ty.Pow t) (rolls-Pow t)) ∙ node_type op.PowerSet (whole_set t ∷ []) (ty.Pow (ty.Pow t)))
    (λ t u h k. ap type_of (whole (PairF t u) (ty.Pair t u) (rolls-Pair t u)) ∙ node_type op.Product (whole_set t ∷ whole_set u ∷ []) (ty.Pow (ty.Pair t u)))
    (ap type_of (whole TruthF ty.Truth rolls-Truth) ∙ node_type op.EmptySet [] (ty.Pow ty.Truth))

pub at_set : (t : Ty) (f : Ty → Bool) → if_set (ty.Pow t) f ≡ f t
at_set t f = ap (λ o. option_map_or f (members_at o) false) (outs-Pow t)

pub pair_of_parts : (t u : Ty) → is_pair_of (ty.Pair t u) t u ≡ true
pair_of_parts t u = ap (λ o. option_map_or (λ p. same_type p.0 t && same_type p.1 u) (components_at o) false) (outs-Pair t u) ∙ both_true _ _ (same_type_refl t) (same_type_refl u)

pub value-Given : (name : List ℕ) → is_value_type (ty.Given name) ≡ true
value-Given name = type_fold is_value_step (GivenF name) _ (rolls-Given name)

pub value-Pow : (t : Ty) → is_value_type (ty.Pow t) ≡ is_value_type t
value-Pow t = type_fold is_value_step (PowF t) _ (rolls-Pow t)

pub value-Pair : (t u : Ty) → is_value_type (ty.Pair t u) ≡ (is_value_type t && is_value_type u)
value-Pair t u = type_fold is_value_step (PairF t u) _ (rolls-Pair t u)

value-Truth : is_value_type ty.Truth ≡ false
value-Truth = type_fold is_value_step TruthF _ rolls-Truth

power_set_fits : (a t : Ty) → a ≡ ty.Pow t → is_value_type t ≡ true → (if_set a is_value_type && is_set_of (ty.Pow (ty.Pow t)) a) ≡ true
power_set_fits a t e v = both_true _ _ (ap (λ s. if_set s is_value_type) e ∙ at_set t is_value_type ∙ v) (at_set (ty.Pow t) (λ p. same_type p a) ∙ ap (same_type (ty.Pow t)) e ∙ same_type_refl (ty.Pow t))

product_fits : (a b t u : Ty) → a ≡ ty.Pow t → b ≡ ty.Pow u → is_value_type t ≡ true → is_value_type u ≡ true
    → if_set a (λ α. is_value_type α && if_set b (λ β. is_value_type β && is_relation_of (ty.Pow (ty.Pair t u)) α β)) ≡ true
product_fits a b t u ea eb v w =
    ap (λ s. if_set s (λ α. is_value_type α && if_set b (λ β. is_value_type β && is_relation_of (ty.Pow (ty.Pair t u)) α β))) ea
    ∙ at_set t (λ α. is_value_type α && if_set b (λ β. is_value_type β && is_relation_of (ty.Pow (ty.Pair t u)) α β))
    ∙ both_true _ _ v
    (ap (λ s. if_set s (λ β. is_value_type β && is_relation_of (ty.Pow (ty.Pair t u)) t β)) eb
    ∙ at_set u (λ β. is_value_type β && is_relation_of (ty.Pow (ty.Pair t u)) t β)
    ∙ both_true _ _ w (at_set (ty.Pair t u) (λ p. is_pair_of p t u) ∙ pair_of_parts t u))

abbrev HasWellSet : Ty → Type 0
HasWellSet t = is_value_type t ≡ true → is_well (whole_set t) ≡ true

at_power_set : (t : Ty) → HasWellSet t → HasWellSet (ty.Pow t)
at_power_set t h v =
    let value : is_value_type t ≡ true = sym (value-Pow t) ∙ v in
    ap is_well (whole (PowF t) (ty.Pow t) (rolls-Pow t)) ∙ well-Node op.PowerSet (whole_set t ∷ []) (ty.Pow (ty.Pow t)) []
    ∙ both_true _ _ (both_true _ _ (h value) refl) (power_set_fits (type_of (whole_set t)) t (whole_set_type t) value)

at_product : (t u : Ty) → HasWellSet t → HasWellSet u → HasWellSet (ty.Pair t u)
at_product t u h k v =
    let both : (is_value_type t && is_value_type u) ≡ true = sym (value-Pair t u) ∙ v in
    let left : is_value_type t ≡ true = first_true _ _ both in
    let right : is_value_type u ≡ true = second_true (is_value_type t) _ both in
    ap is_well (whole (PairF t u) (ty.Pair t u) (rolls-Pair t u)) ∙ well-Node op.Product (whole_set t ∷ whole_set u ∷ []) (ty.Pow (ty.Pair t u)) []
    ∙ both_true _ _ (both_true _ _ (h left) (both_true _ _ (k right) refl))
    (product_fits (type_of (whole_set t)) (type_of (whole_set u)) t u (whole_set_type t) (whole_set_type u) left right)

pub whole_set_is_well : (t : Ty) → IsTrue (is_value_type t) → IsTrue (is_well (whole_set t))
whole_set_is_well = type_induction HasWellSet
    (λ v. ap is_well (whole IntF ty.Int rolls-Int) ∙ well-Node op.Integers [] (ty.Pow ty.Int) [] ∙ at_set ty.Int is_integer ∙ ap is_integer_at outs-Int)
    (λ v. ap is_well (whole BoolF ty.Bool rolls-Bool) ∙ well-Node op.Booleans [] (ty.Pow ty.Bool) [] ∙ at_set ty.Bool is_boolean ∙ ap is_boolean_at outs-Bool)
    (λ name v. ap is_well (whole (GivenF name) (ty.Given name) (rolls-Given name)) ∙ well-Free name (ty.Pow (ty.Given name)) [] ∙ value-Pow (ty.Given name) ∙ value-Given name)
    at_power_set
    at_product
    (λ v. let never : true ≡ false = sym v ∙ value-Truth in cc)

pub ruleset whole_sets = (whole_set_type, whole_set_is_well)

pub whole_set-Int : whole_set ty.Int ≡ formula.Node op.Integers [] (ty.Pow ty.Int)
whole_set-Int = whole IntF ty.Int rolls-Int

pub whole_set-Bool : whole_set ty.Bool ≡ formula.Node op.Booleans [] (ty.Pow ty.Bool)
whole_set-Bool = whole BoolF ty.Bool rolls-Bool

pub whole_set-Given : (name : List ℕ) → whole_set (ty.Given name) ≡ formula.Free name (ty.Pow (ty.Given name))
whole_set-Given name = whole (GivenF name) (ty.Given name) (rolls-Given name)

pub whole_set-Pow : (t : Ty) → whole_set (ty.Pow t) ≡ formula.Node op.PowerSet (whole_set t ∷ []) (ty.Pow (ty.Pow t))
whole_set-Pow t = whole (PowF t) (ty.Pow t) (rolls-Pow t)

pub whole_set-Pair : (t u : Ty) → whole_set (ty.Pair t u) ≡ formula.Node op.Product (whole_set t ∷ whole_set u ∷ []) (ty.Pow (ty.Pair t u))
whole_set-Pair t u = whole (PairF t u) (ty.Pair t u) (rolls-Pair t u)

pub whole_set-Truth : whole_set ty.Truth ≡ formula.Node op.EmptySet [] (ty.Pow ty.Truth)
whole_set-Truth = whole TruthF ty.Truth rolls-Truth

pub ruleset whole_set_equations = (whole_set-Int, whole_set-Bool, whole_set-Given, whole_set-Pow, whole_set-Pair, whole_set-Truth)
