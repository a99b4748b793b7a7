-- What the tests of types tell.
use Rattle.std.proofs.Common.{Bool, List, None, Option, Some, ap, false, refl, sym, true, ◌&&◌, ◌∙◌, ◌≡◌}
use Rattle.std.specs.Option.{option_and_then, option_map_or}
use Rattle.formula_core.proofs.Types.{same_type_exact}
use Rattle.formula_core.proofs.Weakening.{first_true, second_true}
use Rattle.formula_core.specs.Types.{components, components_at, if_pair, if_relation, if_set, is_boolean, is_boolean_at, is_integer, is_integer_at, is_pair_of, is_set_of, is_truth, is_truth_at, members, members_at, relation, same_type}
use Rattle.formula_core.specs.Wellness.{type_of, type_of_step}
use Rattle.formula_core.specs.declared.Binder.{Binder}
use Rattle.formula_core.specs.declared.Formula.{Formula}
use Rattle.formula_core.specs.declared.Formula.TheVariants.{Bind, Node}
use Rattle.formula_core.specs.declared.Op.{Op}
use Rattle.formula_core.specs.declared.Ty.{Ty, out-Ty}
use Rattle.formula_core.specs.declared.Ty.TheOpen.{Bool as BoolF, Bool as BoolT, Given as GivenF, Given as GivenT, Int as IntF, Int as IntT, Pair as PairF, Pair as PairT, Pow as PowF, Pow as PowT, Truth as TruthF, Truth as TruthT, Ty-F}
use Rattle.formula_core.specs.declared.Ty.TheVariants as ty
use Rattle.formula_core.specs.declared.formula.Formula.TheViews.{outs-Bind, outs-Node}
use Rattle.formula_core.specs.declared.ty.Ty.TheViews.{outs-Pair, outs-Pow, roll-Ty, roll-out-Ty, rolls-Bool, rolls-Int, rolls-Pair, rolls-Pow, rolls-Truth}

pub type-Node : (o : Op) (parts : List Formula) (t : Ty) → type_of (Node o parts t) ≡ t
type-Node o parts t = ap type_of_step (outs-Node o parts t)

pub type-Bind : (b : Binder) (own : List Ty) (parts : List Formula) (t : Ty) → type_of (Bind b own parts t) ≡ t
type-Bind b own parts t = ap type_of_step (outs-Bind b own parts t)

truth_at : (x : Ty-F Ty) → is_truth_at x ≡ true → roll-Ty x ≡ ty.Truth
truth_at IntF h = absurd cc
truth_at BoolF h = absurd cc
truth_at (GivenF n) h = absurd cc
truth_at (PowF t) h = absurd cc
truth_at (PairF t u) h = absurd cc
truth_at TruthF h = rolls-Truth

pub truth_is : (t : Ty) → is_truth t ≡ true → t ≡ ty.Truth
truth_is t h = sym (roll-out-Ty t) ∙ truth_at (out-Ty t) h

integer_at : (x : Ty-F Ty) → is_integer_at x ≡ true → roll-Ty x ≡ ty.Int
integer_at IntF h = rolls-Int
integer_at BoolF h = absurd cc
integer_at (GivenF n) h = absurd cc
integer_at (PowF t) h = absurd cc
integer_at (PairF t u) h = absurd cc
integer_at TruthF h = absurd cc

pub integer_is : (t : Ty) → is_integer t ≡ true → t ≡ ty.Int
integer_is t h = sym (roll-out-Ty t) ∙ integer_at (out-Ty t) h

set_at : (x : Ty-F Ty) (p : Ty) → members_at x ≡ Some p → roll-Ty x ≡ ty.Pow p
set_at IntF p h = absurd cc
set_at BoolF p h = absurd cc
set_at (GivenF n) p h = absurd cc
set_at (PowF t) p h = let e : t ≡ p = cc in rolls-Pow t ∙ ap ty.Pow e
set_at (PairF t u) p h = absurd cc
set_at TruthF p h = absurd cc

pub set_is : (t p : Ty) → members t ≡ Some p → t ≡ ty.Pow p
set_is t p h = sym (roll-out-Ty t) ∙ set_at (out-Ty t) p h

pair_at : (x : Ty-F Ty) (p : Ty × Ty) → components_at x ≡ Some p → roll-Ty x ≡ ty.Pair p.0 p.1
pair_at IntF p h = absurd cc
pair_at BoolF p h = absurd cc
pair_at (GivenF n) p h = absurd cc
pair_at (PowF t) p h = absurd cc
pair_at (PairF t u) p h = let e : (t, u) ≡ p = cc in rolls-Pair t u ∙ (λ i. ty.Pair (e i).0 (e i).1)
pair_at TruthF p h = absurd cc

pub pair_is : (t : Ty) (p : Ty × Ty) → components t ≡ Some p → t ≡ ty.Pair p.0 p.1
pair_is t p h = sym (roll-out-Ty t) ∙ pair_at (out-Ty t) p h

pub relation_is : (t : Ty) (p : Ty × Ty) → relation t ≡ Some p → t ≡ ty.Pow (ty.Pair p.0 p.1)
relation_is t p h = go (members t) refl h
  where
    go : (o : Option Ty) → members t ≡ o → option_and_then components o ≡ Some p → t ≡ ty.Pow (ty.Pair p.0 p.1)
    go None e k = absurd cc
    go (Some m) e k = set_is t m e ∙ ap ty.Pow (pair_is m p k)

-- where a test of a set, a pair or a relation holds, it is one
pub if_set_tells : (t : Ty) (test : Ty → Bool) → if_set t test ≡ true → (p : Ty) × (t ≡ ty.Pow p) × (test p ≡ true)
if_set_tells t test h = go (members t) refl h
  where
    go : (o : Option Ty) → members t ≡ o → option_map_or test o false ≡ true → (p : Ty) × (t ≡ ty.Pow p) × (test p ≡ true)
    go None e k = absurd cc
    go (Some p) e k = (p, set_is t p e, k)

pub if_pair_tells : (t : Ty) (test : Ty → Ty → Bool) → if_pair t test ≡ true → (p : Ty × Ty) × (t ≡ ty.Pair p.0 p.1) × (test p.0 p.1 ≡ true)
if_pair_tells t test h = go (components t) refl h
  where
    go : (o : Option (Ty × Ty)) → components t ≡ o → option_map_or (λ (p : Ty × Ty). test p.0 p.1) o false ≡ true → (p : Ty × Ty) × (t ≡ ty.Pair p.0 p.1) × (test p.0 p.1 ≡ true)
    go None e k = absurd cc
    go (Some p) e k = (p, pair_is t p e, k)

pub if_relation_tells : (t : Ty) (test : Ty → Ty → Bool) → if_relation t test ≡ true → (p : Ty × Ty) × (t ≡ ty.Pow (ty.Pair p.0 p.1)) × (test p.0 p.1 ≡ true)
if_relation_tells t test h = go (relation t) refl h
  where
    go : (o : Option (Ty × Ty)) → relation t ≡ o → option_map_or (λ (p : Ty × Ty). test p.0 p.1) o false ≡ true → (p : Ty × Ty) × (t ≡ ty.Pow (ty.Pair p.0 p.1)) × (test p.0 p.1 ≡ true)
    go None e k = absurd cc
    go (Some p) e k = (p, relation_is t p e, k)

pub set_of_is : (t a : Ty) → is_set_of t a ≡ true → t ≡ ty.Pow a
set_of_is t a h = let k = if_set_tells t (λ p. same_type p a) h in k.1 ∙ ap ty.Pow (same_type_exact k.0 a k.2)

pub pair_of_is : (t a b : Ty) → is_pair_of t a b ≡ true → t ≡ ty.Pair a b
pair_of_is t a b h =
    let k = if_pair_tells t (λ p q. same_type p a && same_type q b) h in
    k.1 ∙ (λ i. ty.Pair (same_type_exact k.0.0 a (first_true _ _ k.2) i) (same_type_exact k.0.1 b (second_true (same_type k.0.0 a) _ k.2) i))

-- the parts of a relation's type
pub pair_parts : (a b c d : Ty) → ty.Pow (ty.Pair a b) ≡ ty.Pow (ty.Pair c d) → (a ≡ c) × (b ≡ d)
pair_parts a b c d h =
    let out : relation (ty.Pow (ty.Pair a b)) ≡ relation (ty.Pow (ty.Pair c d)) = ap relation h in
    let one : Some (a, b) ≡ Some (c, d) = sym (made a b) ∙ out ∙ made c d in
    let same : (a, b) ≡ (c, d) = cc in (ap (λ (p : Ty × Ty). p.0) same, ap (λ (p : Ty × Ty). p.1) same)
  where
    made : (a b : Ty) → relation (ty.Pow (ty.Pair a b)) ≡ Some (a, b)
    made a b = (λ i. option_and_then components (members_at (outs-Pow (ty.Pair a b) i))) ∙ (λ i. components_at (outs-Pair a b i))

boolean_at : (x : Ty-F Ty) → is_boolean_at x ≡ true → roll-Ty x ≡ ty.Bool
boolean_at IntT h = absurd cc
boolean_at BoolT h = rolls-Bool
boolean_at (GivenT n) h = absurd cc
boolean_at (PowT t) h = absurd cc
boolean_at (PairT t u) h = absurd cc
boolean_at TruthT h = absurd cc

pub boolean_is : (t : Ty) → is_boolean t ≡ true → t ≡ ty.Bool
boolean_is t h = sym (roll-out-Ty t) ∙ boolean_at (out-Ty t) h
