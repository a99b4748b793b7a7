-- Induction over types, and what `same_type` tells.
use Rattle.std.proofs.Common.{◌≡◌, ◌∙◌, sym, ap, subst, refl, ℕ, Bool, true, List}
use Rattle.std.specs.Cmp.Lexicographic.{same_text}
use Rattle.formula_core.specs.declared.ty.Ty.{Ty, out-Ty, roll-Ty}
use Rattle.formula_core.specs.declared.ty.Ty.TheOpen.{Ty-F, Int as IntF, Bool as BoolF, Given as GivenF, Pow as PowF, Pair as PairF, Truth as TruthF}
use Rattle.formula_core.specs.declared.ty.Ty.TheVariants.{Int as IntT, Bool as BoolT, Given as GivenT, Pow as PowT, Pair as PairT, Truth as TruthT}
use Rattle.formula_core.specs.declared.ty.Ty.TheViews.{roll-out-Ty, rolls-Int, rolls-Bool, rolls-Given, rolls-Pow, rolls-Pair, rolls-Truth}
use Rattle.formula_core.specs.declared.ty.Ty.TheFolds.{map-Ty, ind-Ty, fold-roll-Ty}
use Rattle.formula_core.specs.Types.{same_type_step, same_type}
use Rattle.formula_core.proofs.Weakening.{first_true, second_true}

module _ (P : Ty → Type 0)
    (int : P IntT)
    (bool : P BoolT)
    (given : (name : List ℕ) → P (GivenT name))
    (pow : (t : Ty) → P t → P (PowT t))
    (pair : (t u : Ty) → P t → P u → P (PairT t u))
    (truth : P TruthT) where
  abbrev Proved : Type 0
  Proved = (t : Ty) × P t

  step : (y : Ty-F Proved) → P (roll-Ty (map-Ty Proved Ty (λ e. e.0) y))
  step IntF = subst P (sym rolls-Int) int
  step BoolF = subst P (sym rolls-Bool) bool
  step (GivenF name) = subst P (sym (rolls-Given name)) (given name)
  step (PowF e) = subst P (sym (rolls-Pow e.0)) (pow e.0 e.1)
  step (PairF e f) = subst P (sym (rolls-Pair e.0 f.0)) (pair e.0 f.0 e.1 f.1)
  step TruthF = subst P (sym rolls-Truth) truth

  -- a fact of every type, from one proof for each variant
  pub type_induction : (t : Ty) → P t
  type_induction = ind-Ty P (λ x y is. let Q : Ty-F Ty → Type 0 = λ z. P (roll-Ty z) in subst Q is (step y))

abbrev IsExact : Ty → Type 0
IsExact t = (u : Ty) → same_type t u ≡ true → t ≡ u

-- the equation of `same_type` at a variant
pub same_type_at : (x : Ty-F Ty) (t : Ty) → roll-Ty x ≡ t → (u : Ty) → same_type t u ≡ same_type_step (map-Ty Ty (Ty → Bool) same_type x) (out-Ty u)
same_type_at x t e u = ap (λ s. same_type s u) (sym e) ∙ ap (λ g. g u) (fold-roll-Ty (Ty → Bool) (λ s v. same_type_step s (out-Ty v)) x)

opened : (x : Ty-F Ty) (t : Ty) → roll-Ty x ≡ t → ((y : Ty-F Ty) → same_type_step (map-Ty Ty (Ty → Bool) same_type x) y ≡ true → x ≡ y) → IsExact t
opened x t e f u h = sym e ∙ ap roll-Ty (f (out-Ty u) (sym (same_type_at x t e u) ∙ h)) ∙ roll-out-Ty u

at_int : (y : Ty-F Ty) → same_type_step (map-Ty Ty (Ty → Bool) same_type IntF) y ≡ true → IntF ≡ y
at_int IntF h = refl
at_int BoolF h = cc
at_int (GivenF n) h = cc
at_int (PowF t) h = cc
at_int (PairF t u) h = cc
at_int TruthF h = cc

at_bool : (y : Ty-F Ty) → same_type_step (map-Ty Ty (Ty → Bool) same_type BoolF) y ≡ true → BoolF ≡ y
at_bool IntF h = cc
at_bool BoolF h = refl
at_bool (GivenF n) h = cc
at_bool (PowF t) h = cc
at_bool (PairF t u) h = cc
at_bool TruthF h = cc

at_given : (name : List ℕ) (y : Ty-F Ty) → same_type_step (map-Ty Ty (Ty → Bool) same_type (GivenF name)) y ≡ true → GivenF name ≡ y
at_given name IntF h = cc
at_given name BoolF h = cc
at_given name (GivenF n) h = ap GivenF (same_text name n (sym h))
at_given name (PowF t) h = cc
at_given name (PairF t u) h = cc
at_given name TruthF h = cc

at_pow : (s : Ty) → IsExact s → (y : Ty-F Ty) → same_type_step (map-Ty Ty (Ty → Bool) same_type (PowF s)) y ≡ true → PowF s ≡ y
at_pow s f IntF h = cc
at_pow s f BoolF h = cc
at_pow s f (GivenF n) h = cc
at_pow s f (PowF t) h = ap PowF (f t h)
at_pow s f (PairF t u) h = cc
at_pow s f TruthF h = cc

at_pair : (s r : Ty) → IsExact s → IsExact r → (y : Ty-F Ty) → same_type_step (map-Ty Ty (Ty → Bool) same_type (PairF s r)) y ≡ true → PairF s r ≡ y
at_pair s r f g IntF h = cc
at_pair s r f g BoolF h = cc
at_pair s r f g (GivenF n) h = cc
at_pair s r f g (PowF t) h = cc
at_pair s r f g (PairF t u) h = λ i. PairF (f t (first_true (same_type s t) (same_type r u) h) i) (g u (second_true (same_type s t) (same_type r u) h) i)
at_pair s r f g TruthF h = cc

at_truth : (y : Ty-F Ty) → same_type_step (map-Ty Ty (Ty → Bool) same_type TruthF) y ≡ true → TruthF ≡ y
at_truth IntF h = cc
at_truth BoolF h = cc
at_truth (GivenF n) h = cc
at_truth (PowF t) h = cc
at_truth (PairF t u) h = cc
at_truth TruthF h = refl

-- types that `same_type` finds the same are the same
pub same_type_exact : (t u : Ty) → same_type t u ≡ true → t ≡ u
same_type_exact = type_induction IsExact
    (opened IntF IntT rolls-Int at_int)
    (opened BoolF BoolT rolls-Bool at_bool)
    (λ name. opened (GivenF name) (GivenT name) (rolls-Given name) (at_given name))
    (λ t f. opened (PowF t) (PowT t) (rolls-Pow t) (at_pow t f))
    (λ t u f g. opened (PairF t u) (PairT t u) (rolls-Pair t u) (at_pair t u f g))
    (opened TruthF TruthT rolls-Truth at_truth)
