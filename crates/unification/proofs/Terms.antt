-- Types of values, and the equations of recursions over types.
use Rattle.std.proofs.Common.{◌≡◌, ◌∙◌, sym, ap, ℕ, suc, max, true, false, ◌&&◌, List, refl}
use Rattle.std.specs.Prelude.{◌+◌}
use Rattle.formula_core.specs.declared.ty.Ty.{Ty, out-Ty}
use Rattle.formula_core.specs.declared.ty.Ty.TheOpen.{Ty-F, Int as IntF, Bool as BoolF, Given as GivenF, Pow as PowF, Pair as PairF, Truth as TruthF}
use Rattle.formula_core.specs.declared.ty.Ty.TheVariants as ty
use Rattle.formula_core.specs.declared.ty.Ty.TheViews.{rolls-Int, rolls-Bool, rolls-Given, rolls-Pow, rolls-Pair, rolls-Truth, outs-Int, outs-Bool, outs-Given, outs-Pow, outs-Pair, outs-Truth}
use Rattle.formula_core.specs.Types.{is_value_step, is_value_type}
use Rattle.formula_core.specs.Schemes as scheme
use Rattle.formula_core.specs.Schemes.{Scheme, type_of_scheme, Letters}
use Rattle.formula_core.proofs.Equations.{type_fold}
use Rattle.formula_core.proofs.Types.{type_induction}
use Rattle.unification.specs.PrivateOrder.{depth_step, depth}
use Rattle.unification.specs.Terms.{Open, integers, booleans, predicates, carrier, variable, powerset, product, value, open_of_step, open_of, instance_from}

-- the types of four variables, as those of the letters
abbrev pub letters_at : (ℕ → Ty) → ℕ → Letters
letters_at v n = record { alpha = v n; beta = v (n + 1); gamma = v (n + 2); delta = v (n + 3) }

pub value-Int : is_value_type ty.Int ≡ true
value-Int = type_fold is_value_step IntF _ rolls-Int

pub value-Bool : is_value_type ty.Bool ≡ true
value-Bool = type_fold is_value_step BoolF _ rolls-Bool

pub value-Truth : is_value_type ty.Truth ≡ false
value-Truth = type_fold is_value_step TruthF _ rolls-Truth

pub value-Given : (name : List ℕ) → is_value_type (ty.Given name) ≡ true
value-Given name = type_fold is_value_step (GivenF name) _ (rolls-Given name)

pub value-Pow : (t : Ty) → is_value_type (ty.Pow t) ≡ is_value_type t
value-Pow t = type_fold is_value_step (PowF t) _ (rolls-Pow t)

pub value-Pair : (t u : Ty) → is_value_type (ty.Pair t u) ≡ (is_value_type t && is_value_type u)
value-Pair t u = type_fold is_value_step (PairF t u) _ (rolls-Pair t u)

pub depth-Pow : (t : Ty) → depth (ty.Pow t) ≡ suc (depth t)
depth-Pow t = type_fold depth_step (PowF t) _ (rolls-Pow t)

pub depth-Pair : (t u : Ty) → depth (ty.Pair t u) ≡ suc (max (depth t) (depth u))
depth-Pair t u = type_fold depth_step (PairF t u) _ (rolls-Pair t u)

-- Types of different variants are different, and types of one variant are the same only where their parts are.

abbrev first_part : Ty-F Ty → Ty → Ty
first_part (PowF a) t = a
first_part (PairF a b) t = a
first_part _ t = t

abbrev second_part : Ty-F Ty → Ty → Ty
second_part (PairF a b) t = b
second_part _ t = t

abbrev name_in : Ty-F Ty → List ℕ → List ℕ
name_in (GivenF name) other = name
name_in _ other = other

pub same_pow : (a b : Ty) → ty.Pow a ≡ ty.Pow b → a ≡ b
same_pow a b e = ap (λ y. first_part y a) (sym (outs-Pow a) ∙ ap out-Ty e ∙ outs-Pow b)

pub same_left : (a b c d : Ty) → ty.Pair a b ≡ ty.Pair c d → a ≡ c
same_left a b c d e = ap (λ y. first_part y a) (sym (outs-Pair a b) ∙ ap out-Ty e ∙ outs-Pair c d)

pub same_right : (a b c d : Ty) → ty.Pair a b ≡ ty.Pair c d → b ≡ d
same_right a b c d e = ap (λ y. second_part y a) (sym (outs-Pair a b) ∙ ap out-Ty e ∙ outs-Pair c d)

pub same_name : (a b : List ℕ) → ty.Given a ≡ ty.Given b → a ≡ b
same_name a b e = ap (λ y. name_in y a) (sym (outs-Given a) ∙ ap out-Ty e ∙ outs-Given b)

-- the number of a variant
abbrev variant_step : Ty-F Ty → ℕ
variant_step IntF = 0
variant_step BoolF = 1
variant_step TruthF = 2
variant_step (GivenF name) = 3
variant_step (PowF a) = 4
variant_step (PairF a b) = 5

abbrev pub variant : Ty → ℕ
variant t = variant_step (out-Ty t)

-- the same of a term that is no variable
abbrev pub open_variant : Open → ℕ
open_variant integers = 0
open_variant booleans = 1
open_variant predicates = 2
open_variant (carrier name) = 3
open_variant (powerset a) = 4
open_variant (product a b) = 5
open_variant (variable i) = 6

abbrev pub IsForm : Open → Type 0
IsForm (variable i) = ⊥
IsForm _ = Unit {0}

pub variant_of : (v : ℕ → Ty) (t : Open) → IsForm t → variant (value v t) ≡ open_variant t
variant_of v integers f = ap variant_step outs-Int
variant_of v booleans f = ap variant_step outs-Bool
variant_of v predicates f = ap variant_step outs-Truth
variant_of v (carrier name) f = ap variant_step (outs-Given name)
variant_of v (variable i) f = absurd f
variant_of v (powerset a) f = ap variant_step (outs-Pow (value v a))
variant_of v (product a b) f = ap variant_step (outs-Pair (value v a) (value v b))

pub same_variants : (v : ℕ → Ty) (s t : Open) → IsForm s → IsForm t → value v s ≡ value v t → open_variant s ≡ open_variant t
same_variants v s t f g e = sym (variant_of v s f) ∙ ap variant e ∙ variant_of v t g

-- What a type is as a term.

pub open_of-Int : open_of ty.Int ≡ integers
open_of-Int = type_fold open_of_step IntF _ rolls-Int

pub open_of-Bool : open_of ty.Bool ≡ booleans
open_of-Bool = type_fold open_of_step BoolF _ rolls-Bool

pub open_of-Truth : open_of ty.Truth ≡ predicates
open_of-Truth = type_fold open_of_step TruthF _ rolls-Truth

pub open_of-Given : (name : List ℕ) → open_of (ty.Given name) ≡ carrier name
open_of-Given name = type_fold open_of_step (GivenF name) _ (rolls-Given name)

pub open_of-Pow : (t : Ty) → open_of (ty.Pow t) ≡ powerset (open_of t)
open_of-Pow t = type_fold open_of_step (PowF t) _ (rolls-Pow t)

pub open_of-Pair : (t u : Ty) → open_of (ty.Pair t u) ≡ product (open_of t) (open_of u)
open_of-Pair t u = type_fold open_of_step (PairF t u) _ (rolls-Pair t u)

pub ruleset open_of_equations = (open_of-Int, open_of-Bool, open_of-Truth, open_of-Given, open_of-Pow, open_of-Pair)

-- a type as a term stands for itself
pub value_of_type : (v : ℕ → Ty) (t : Ty) → value v (open_of t) ≡ t
value_of_type v = type_induction (λ t. value v (open_of t) ≡ t)
    (ap (value v) open_of-Int)
    (ap (value v) open_of-Bool)
    (λ name. ap (value v) (open_of-Given name))
    (λ t h. ap (value v) (open_of-Pow t) ∙ ap ty.Pow h)
    (λ t u h k. ap (value v) (open_of-Pair t u) ∙ (λ i. ty.Pair (h i) (k i)))
    (ap (value v) open_of-Truth)

-- a scheme as a term stands for the scheme with the types of the variables
pub value_of_scheme : (v : ℕ → Ty) (n : ℕ) (s : Scheme) → value v (instance_from n s) ≡ type_of_scheme (letters_at v n) s
value_of_scheme v n scheme.alpha = refl
value_of_scheme v n scheme.beta = refl
value_of_scheme v n scheme.gamma = refl
value_of_scheme v n scheme.delta = refl
value_of_scheme v n scheme.integer = refl
value_of_scheme v n scheme.boolean = refl
value_of_scheme v n scheme.truth = refl
value_of_scheme v n (scheme.power a) = ap ty.Pow (value_of_scheme v n a)
value_of_scheme v n (scheme.pair a b) = λ i. ty.Pair (value_of_scheme v n a i) (value_of_scheme v n b i)
