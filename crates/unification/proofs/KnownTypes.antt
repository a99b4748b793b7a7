-- The types that are known of variables, and those that terms stand for.
use Rattle.std.proofs.Common.{◌≡◌, ◌≢◌, ℕ, zero, suc, ◌<◌, ◌≤◌, cond, eqb, List, [], ◌∷◌, ◌++◌, ◌⊎◌, inl, inr, length, get_or, set, Option, Some, None, refl, sym, ap, ◌∙◌, arith}
use Rattle.std.proofs.lemmas.Bool.Decides.{eqb_tells}
use Rattle.std.proofs.lemmas.Bool.{eq-eqb, ne_eqb}
use Rattle.formula_core.specs.declared.ty.Ty.{Ty}
use Rattle.formula_core.specs.declared.ty.Ty.TheVariants as ty
use Rattle.unification.specs.Terms.{Open, integers, booleans, predicates, carrier, variable, powerset, product, value}
use Rattle.unification.specs.Known.{type_at, powerset_of, product_of, closed_type}
use Rattle.unification.proofs.Terms.{same_pow, same_left, same_right}

-- all that is known of a type holds under the assignment
abbrev pub HasTypes : (ℕ → Ty) → List (Option Ty) → Type 0
HasTypes v ts = (i : ℕ) (t : Ty) → type_at ts i ≡ Some t → v i ≡ t

-- two assignments differ at each variable without a type
abbrev pub Differ : (ℕ → Ty) → (ℕ → Ty) → List (Option Ty) → Type 0
Differ v w ts = (i : ℕ) → type_at ts i ≡ None → v i ≢ w i

some_powerset : (o : Option Ty) (t : Ty) → powerset_of o ≡ Some t → (a : Ty) × (o ≡ Some a) × (ty.Pow a ≡ t)
some_powerset None t e = cc
some_powerset (Some a) t e = (a, refl, cc)

some_product : (o p : Option Ty) (t : Ty) → product_of o p ≡ Some t → (a : Ty) × (b : Ty) × (o ≡ Some a) × (p ≡ Some b) × (ty.Pair a b ≡ t)
some_product None None t e = cc
some_product None (Some b) t e = cc
some_product (Some a) None t e = cc
some_product (Some a) (Some b) t e = (a, b, refl, refl, cc)

pub closed_value : (v : ℕ → Ty) (ts : List (Option Ty)) → HasTypes v ts → (s : Open) (t : Ty) → closed_type ts s ≡ Some t → value v s ≡ t
closed_value v ts h integers t e = cc
closed_value v ts h booleans t e = cc
closed_value v ts h predicates t e = cc
closed_value v ts h (carrier n) t e = cc
closed_value v ts h (variable i) t e = h i t e
closed_value v ts h (powerset a) t e =
    let p = some_powerset (closed_type ts a) t e in
    let l = closed_value v ts h a p.0 p.1 in
    let q = p.2 in
    cc
closed_value v ts h (product a b) t e =
    let p = some_product (closed_type ts a) (closed_type ts b) t e in
    let l = closed_value v ts h a p.0 p.2 in
    let r = closed_value v ts h b p.1 p.3 in
    let q = p.4 in
    cc

none_powerset : (o : Option Ty) → powerset_of o ≡ None → o ≡ None
none_powerset None e = refl
none_powerset (Some a) e = cc

none_product : (o p : Option Ty) → product_of o p ≡ None → (o ≡ None) ⊎ (p ≡ None)
none_product None p e = inl refl
none_product (Some a) None e = inr refl
none_product (Some a) (Some b) e = cc

pub open_differs : (v w : ℕ → Ty) (ts : List (Option Ty)) → Differ v w ts → (s : Open) → closed_type ts s ≡ None → value v s ≢ value w s
open_differs v w ts h integers e q = cc
open_differs v w ts h booleans e q = cc
open_differs v w ts h predicates e q = cc
open_differs v w ts h (carrier n) e q = cc
open_differs v w ts h (variable i) e q = h i e q
open_differs v w ts h (powerset a) e q =
    open_differs v w ts h a (none_powerset (closed_type ts a) e) (same_pow (value v a) (value w a) q)
open_differs v w ts h (product a b) e q =
    let left : value v a ≡ value w a = same_left _ (value v b) _ (value w b) q in
    let right : value v b ≡ value w b = same_right (value v a) _ (value w a) _ q in
    elim (none_product (closed_type ts a) (closed_type ts b) e) [
      | inl l ↦ open_differs v w ts h a l left
      | inr r ↦ open_differs v w ts h b r right
    ]

pub type_at-get : (ts : List (Option Ty)) (i : ℕ) → i < length ts → type_at ts i ≡ get_or ts i None
type_at-get [] i h = absurd (omega arith)
type_at-get (t ∷ ts) zero h = refl
type_at-get (t ∷ ts) (suc i) h = type_at-get ts i (omega arith)

pub type_at-past : (ts : List (Option Ty)) (i : ℕ) → length ts ≤ i → type_at ts i ≡ None
type_at-past [] i h = refl
type_at-past (t ∷ ts) zero h = absurd (omega arith)
type_at-past (t ∷ ts) (suc i) h = type_at-past ts i (omega arith)

type_at-none : (xs : List (Option Ty)) (j : ℕ) → type_at (xs ++ None ∷ []) j ≡ type_at xs j
type_at-none [] zero = refl
type_at-none [] (suc j) = refl
type_at-none (x ∷ xs) zero = refl
type_at-none (x ∷ xs) (suc j) = type_at-none xs j

pub grown : (old new : List (Option Ty)) → new ≡ old ++ None ∷ [] → (j : ℕ) → type_at new j ≡ type_at old j
grown old new e j = ap (λ ts. type_at ts j) e ∙ type_at-none old j

eqb-suc : (j i : ℕ) → eqb (suc j) (suc i) ≡ eqb j i
eqb-suc j i = elim (eqb_tells j i) [
  | inl t ↦ eq-eqb (suc j) (suc i) (ap suc t.1) ∙ sym t.0
  | inr f ↦ ne_eqb (suc j) (suc i) (λ e. f.1 (omega arith)) ∙ sym f.0
]

pub type_at-set : (xs : List (Option Ty)) (i : ℕ) (t : Option Ty) (j : ℕ) → i < length xs → type_at (set xs i t) j ≡ cond (eqb j i) t (type_at xs j)
type_at-set [] i t j h = absurd (omega arith)
type_at-set (x ∷ xs) zero t zero h = refl
type_at-set (x ∷ xs) zero t (suc j) h = ap (λ b. cond b t (type_at xs j)) (sym (ne_eqb (suc j) 0 (λ e. omega arith)))
type_at-set (x ∷ xs) (suc i) t zero h = ap (λ b. cond b t x) (sym (ne_eqb 0 (suc i) (λ e. omega arith)))
type_at-set (x ∷ xs) (suc i) t (suc j) h =
    let less : i < length xs = omega arith in
    type_at-set xs i t j less ∙ ap (λ b. cond b t (type_at xs j)) (sym (eqb-suc j i))

pub put_step : (old grown_to new : List (Option Ty)) (i : ℕ) (t : Option Ty) → ((j : ℕ) → type_at grown_to j ≡ type_at old j) → i < length grown_to → new ≡ set grown_to i t → (j : ℕ) → type_at new j ≡ cond (eqb j i) t (type_at old j)
put_step old grown_to new i t same within e j =
    ap (λ ts. type_at ts j) e ∙ type_at-set grown_to i t j within ∙ ap (cond (eqb j i) t) (same j)
