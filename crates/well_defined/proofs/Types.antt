-- What tests of types tell, and the types of formulas.
use Rattle.std.proofs.Common.{◌≡◌, ◌∙◌, sym, ap, refl, ℕ, ℤ, Bool, true, false, ◌&&◌, List, Option, Some, None}
use Rattle.std.specs.Option.{option_map_or, option_and_then}
use Rattle.formula_core.specs.declared.op.Op.{Op}
use Rattle.formula_core.specs.declared.op.Binder.{Binder}
use Rattle.formula_core.specs.declared.ty.Ty.{Ty}
use Rattle.formula_core.specs.declared.ty.Ty.TheOpen.{Ty-F, Int as IntF, Bool as BoolF, Given as GivenF, Pow as PowF, Pair as PairF, Truth as TruthF}
use Rattle.formula_core.specs.declared.ty.Ty.TheVariants as ty
use Rattle.formula_core.specs.declared.ty.Ty.TheViews.{out-Ty, roll-Ty, roll-out-Ty, rolls-Int, rolls-Pow, rolls-Pair, rolls-Truth, outs-Int, outs-Pow, outs-Pair, outs-Truth}
use Rattle.formula_core.specs.declared.formula.Formula.{Formula}
use Rattle.formula_core.specs.declared.formula.Formula.TheVariants as formula
use Rattle.formula_core.specs.declared.formula.Formula.TheViews as view
use Rattle.formula_core.specs.Types.{same_type, is_value_step, is_value_type, is_truth_at, is_truth, is_integer_at, is_integer, members_at, members, components_at, components, relation, if_set, if_relation, is_set_of, is_pair_of, is_relation_of}
use Rattle.formula_core.specs.Wellness.{type_of_step, type_of}
use Rattle.formula_core.proofs.Equations.{type_fold}
use Rattle.formula_core.proofs.Weakening.{both_true}
use Rattle.formula_core.proofs.WholeSets.{same_type_refl}

pub type-Int : (n : ℤ) → type_of (formula.Int n) ≡ ty.Int
type-Int n = ap type_of_step (view.outs-Int n)

pub type-Free : (name : List ℕ) (t : Ty) → type_of (formula.Free name t) ≡ t
type-Free name t = ap type_of_step (view.outs-Free name t)

pub type-Bound : (i : ℕ) (t : Ty) → type_of (formula.Bound i t) ≡ t
type-Bound i t = ap type_of_step (view.outs-Bound i t)

pub type-Node : (o : Op) (parts : List Formula) (t : Ty) → type_of (formula.Node o parts t) ≡ t
type-Node o parts t = ap type_of_step (view.outs-Node o parts t)

pub type-Bind : (binder : Binder) (types : List Ty) (parts : List Formula) (t : Ty) → type_of (formula.Bind binder types parts t) ≡ t
type-Bind binder types parts t = ap type_of_step (view.outs-Bind binder types parts t)

-- the sort of predicates and the type of integers
pub truth : is_truth ty.Truth ≡ true
truth = ap is_truth_at outs-Truth

pub integer : is_integer ty.Int ≡ true
integer = ap is_integer_at outs-Int

truth_at : (y : Ty-F Ty) → is_truth_at y ≡ true → y ≡ TruthF
truth_at IntF h = cc
truth_at BoolF h = cc
truth_at (GivenF n) h = cc
truth_at (PowF t) h = cc
truth_at (PairF t u) h = cc
truth_at TruthF h = refl

pub truth_exact : (t : Ty) → is_truth t ≡ true → t ≡ ty.Truth
truth_exact t h = sym (roll-out-Ty t) ∙ ap roll-Ty (truth_at (out-Ty t) h) ∙ rolls-Truth

integer_at : (y : Ty-F Ty) → is_integer_at y ≡ true → y ≡ IntF
integer_at IntF h = refl
integer_at BoolF h = cc
integer_at (GivenF n) h = cc
integer_at (PowF t) h = cc
integer_at (PairF t u) h = cc
integer_at TruthF h = cc

pub integer_exact : (t : Ty) → is_integer t ≡ true → t ≡ ty.Int
integer_exact t h = sym (roll-out-Ty t) ∙ ap roll-Ty (integer_at (out-Ty t) h) ∙ rolls-Int

-- types of sets
members_is : (y : Ty-F Ty) (s : Ty) → members_at y ≡ Some s → y ≡ PowF s
members_is IntF s e = cc
members_is BoolF s e = cc
members_is (GivenF n) s e = cc
members_is (PowF t) s e = let same : t ≡ s = cc in ap PowF same
members_is (PairF t u) s e = cc
members_is TruthF s e = cc

set_is : (a s : Ty) → members a ≡ Some s → a ≡ ty.Pow s
set_is a s e = sym (roll-out-Ty a) ∙ ap roll-Ty (members_is (out-Ty a) s e) ∙ rolls-Pow s

found_set : (a : Ty) (f : Ty → Bool) (o : Option Ty) → members a ≡ o → option_map_or f o false ≡ true → (s : Ty) × (a ≡ ty.Pow s) × (f s ≡ true)
found_set a f None e h = absurd cc
found_set a f (Some s) e h = (s, set_is a s e, h)

pub if_set_is : (a : Ty) (f : Ty → Bool) → if_set a f ≡ true → (s : Ty) × (a ≡ ty.Pow s) × (f s ≡ true)
if_set_is a f h = found_set a f (members a) refl h

pub at_set : (t : Ty) (f : Ty → Bool) → if_set (ty.Pow t) f ≡ f t
at_set t f = ap (λ o. option_map_or f (members_at o) false) (outs-Pow t)

pub set_of : (t : Ty) → is_set_of (ty.Pow t) t ≡ true
set_of t = at_set t (λ p. same_type p t) ∙ same_type_refl t

-- types of relations
components_are : (y : Ty-F Ty) (r : Ty × Ty) → components_at y ≡ Some r → y ≡ PairF r.0 r.1
components_are IntF r e = cc
components_are BoolF r e = cc
components_are (GivenF n) r e = cc
components_are (PowF t) r e = cc
components_are (PairF t u) r e = let same : (t, u) ≡ r = cc in ap (λ p. PairF p.0 p.1) same
components_are TruthF r e = cc

pair_is : (m : Ty) (r : Ty × Ty) → components m ≡ Some r → m ≡ ty.Pair r.0 r.1
pair_is m r e = sym (roll-out-Ty m) ∙ ap roll-Ty (components_are (out-Ty m) r e) ∙ rolls-Pair r.0 r.1

found_relation : (a : Ty) (r : Ty × Ty) (o : Option Ty) → members a ≡ o → option_and_then components o ≡ Some r → a ≡ ty.Pow (ty.Pair r.0 r.1)
found_relation a r None e h = cc
found_relation a r (Some m) e h = set_is a m e ∙ ap ty.Pow (pair_is m r h)

pub relation_is : (a : Ty) (r : Ty × Ty) → relation a ≡ Some r → a ≡ ty.Pow (ty.Pair r.0 r.1)
relation_is a r e = found_relation a r (members a) refl e

at_relation : (t u : Ty) → relation (ty.Pow (ty.Pair t u)) ≡ Some (t, u)
at_relation t u = ap (λ o. option_and_then components (members_at o)) (outs-Pow (ty.Pair t u)) ∙ ap components_at (outs-Pair t u)

pub at_if_relation : (t u : Ty) (f : Ty → Ty → Bool) → if_relation (ty.Pow (ty.Pair t u)) f ≡ f t u
at_if_relation t u f = ap (λ o. option_map_or (λ p. f p.0 p.1) o false) (at_relation t u)

pair_of : (t u : Ty) → is_pair_of (ty.Pair t u) t u ≡ true
pair_of t u =
    ap (λ o. option_map_or (λ p. same_type p.0 t && same_type p.1 u) (components_at o) false) (outs-Pair t u) ∙ both_true _ _ (same_type_refl t) (same_type_refl u)

pub relation_of : (t u : Ty) → is_relation_of (ty.Pow (ty.Pair t u)) t u ≡ true
relation_of t u = at_set (ty.Pair t u) (λ p. is_pair_of p t u) ∙ pair_of t u

-- types of values
pub value-Int : is_value_type ty.Int ≡ true
value-Int = type_fold is_value_step IntF _ rolls-Int

pub value-Pow : (t : Ty) → is_value_type (ty.Pow t) ≡ is_value_type t
value-Pow t = type_fold is_value_step (PowF t) _ (rolls-Pow t)

pub value-Pair : (t u : Ty) → is_value_type (ty.Pair t u) ≡ (is_value_type t && is_value_type u)
value-Pair t u = type_fold is_value_step (PairF t u) _ (rolls-Pair t u)
