-- A test that looks at finitely many atoms passes for all propositional readings, or fails for one.
use Rattle.std.proofs.Common.{◌≡◌, ◌∙◌, ◌⊎◌, inl, inr, sym, ap, subst, refl, Bool, true, false, ◌||◌, List, [], ◌∷◌, if◌then◌else◌}
use Rattle.std.specs.List.{AllByRecursion, list_any}
use Rattle.formula_core.specs.declared.Formula.{Formula}
use Rattle.formula_core.specs.Same.{same_formula}
use Rattle.formula_core.proofs.SameFormulas.{same_formula_exact, same_formula_refl}

abbrev pub is_among : List Formula → Formula → Bool
is_among fs f = list_any (same_formula f) fs

pub all_so : (P Q : Formula → Type 0) → ((f : Formula) → P f → Q f) → (fs : List Formula) → AllByRecursion P fs → AllByRecursion Q fs
all_so P Q each [] all = tt
all_so P Q each (f ∷ fs) all = (each f all.0, all_so P Q each fs all.1)

or_true : (a b : Bool) → b ≡ true → a || b ≡ true
or_true true b e = refl
or_true false b e = e

-- each member is among all
pub each_among : (fs : List Formula) → AllByRecursion (λ f. is_among fs f ≡ true) fs
each_among [] = tt
each_among (f ∷ fs) = (
  ap (λ b. b || is_among fs f) (same_formula_refl f),
  all_so (λ g. is_among fs g ≡ true) (λ g. is_among (f ∷ fs) g ≡ true) (λ g e. or_true (same_formula g f) (is_among fs g) e) fs (each_among fs),
)

abbrev with_value : Formula → Bool → (Formula → Bool) → Formula → Bool
with_value a b given f = if same_formula f a then b else given f

-- the reading is free here, or has what is given
abbrev IsFixed : List Formula → (Formula → Bool) → (Formula → Bool) → Formula → Type 0
IsFixed free given x f = (is_among free f ≡ true) ⊎ (x f ≡ given f)

narrowed : (a : Formula) (free : List Formula) (given x : Formula → Bool) (b : Bool) → x a ≡ b → (f : Formula) → IsFixed (a ∷ free) given x f →
    IsFixed free (with_value a b given) x f
narrowed a free given x b has f fixed = by (same_formula f a) refl fixed
  where
    by : (same : Bool) → same_formula f a ≡ same → IsFixed (a ∷ free) given x f → IsFixed free (with_value a b given) x f
    by true e _ = inr (ap x (same_formula_exact f a e) ∙ has ∙ sym (ap (λ c. if c then b else given f) e))
    by false e (inl among) = inl (sym (ap (λ c. c || is_among free f) e) ∙ among)
    by false e (inr is) = inr (is ∙ sym (ap (λ c. if c then b else given f) e))

module _ (all : List Formula) (test : (Formula → Bool) → Bool) (local : (x y : Formula → Bool) → AllByRecursion (λ a. x a ≡ y a) all → test x ≡ test y) where
  abbrev Passes : List Formula → (Formula → Bool) → Type 0
  Passes free given = (x : Formula → Bool) → AllByRecursion (IsFixed free given x) all → test x ≡ true

  abbrev Fails : Type 0
  Fails = (x : Formula → Bool) × (test x ≡ false)

  nothing_free : (given x : Formula → Bool) (f : Formula) → IsFixed [] given x f → x f ≡ given f
  nothing_free given x f (inl among) = absurd (cc)
  nothing_free given x f (inr is) = is

  at_end : (given : Formula → Bool) (b : Bool) → test given ≡ b → Passes [] given ⊎ Fails
  at_end given true e = inl (λ x fixed. local x given (all_so (IsFixed [] given x) (λ f. x f ≡ given f) (nothing_free given x) all fixed) ∙ e)
  at_end given false e = inr (given, e)

  both : (a : Formula) (free : List Formula) (given : Formula → Bool) → Passes free (with_value a true given) ⊎ Fails → Passes free (with_value a false given) ⊎ Fails → Passes (a ∷ free) given ⊎ Fails
  both a free given (inr fails) other = inr fails
  both a free given (inl one) (inr fails) = inr fails
  both a free given (inl one) (inl other) = inl (λ x fixed. by x (x a) refl fixed)
    where
      by : (x : Formula → Bool) (b : Bool) → x a ≡ b → AllByRecursion (IsFixed (a ∷ free) given x) all → test x ≡ true
      by x true has fixed = one x (all_so (IsFixed (a ∷ free) given x) (IsFixed free (with_value a true given) x) (narrowed a free given x true has) all fixed)
      by x false has fixed = other x (all_so (IsFixed (a ∷ free) given x) (IsFixed free (with_value a false given) x) (narrowed a free given x false has) all fixed)

  decided : (free : List Formula) (given : Formula → Bool) → Passes free given ⊎ Fails
  decided [] given = at_end given (test given) refl
  decided (a ∷ free) given = both a free given (decided free (with_value a true given)) (decided free (with_value a false given))

  abbrev nowhere : Formula → Bool
  nowhere f = false

  each_free : (x : Formula → Bool) → AllByRecursion (IsFixed all nowhere x) all
  each_free x = all_so (λ f. is_among all f ≡ true) (IsFixed all nowhere x) (λ f among. inl among) all (each_among all)

  pub passes_or_fails : ((x : Formula → Bool) → test x ≡ true) ⊎ Fails
  passes_or_fails = go (decided all nowhere)
    where
      go : Passes all nowhere ⊎ Fails → ((x : Formula → Bool) → test x ≡ true) ⊎ Fails
      go (inl passes) = inl (λ x. passes x (each_free x))
      go (inr fails) = inr fails
