-- Two sequents are the same, or not.
use Rattle.std.proofs.Common.{◌≡◌, ◌≢◌, ◌⊎◌, inl, inr, ◌∙◌, refl, sym, ap, subst, ℕ, Bool, true, false, List, [], ◌∷◌}
use Rattle.std.proofs.lemmas.Slice.Eq.{bytes_eq-Decides}
use Rattle.std.specs.Prelude.{bytes_eq}
use Rattle.formula_core.specs.declared.Formula.{Formula}
use Rattle.formula_core.specs.declared.Ty.{Ty}
use Rattle.formula_core.specs.Types.{same_type}
use Rattle.formula_core.specs.Same.{same_formula}
use Rattle.formula_core.proofs.Types.{same_type_exact}
use Rattle.formula_core.proofs.WholeSets.{same_type_refl}
use Rattle.formula_core.proofs.SameFormulas.{same_formula_exact, same_formula_refl}
use Rattle.sequent_core.specs.declared.Sequent.{Sequent}

abbrev Decided : {X : Type 0} → X → X → Type 0
Decided x y = (x ≡ y) ⊎ (x ≢ y)

by_test : {X : Type 0} (b : Bool) (x y : X) → (b ≡ true → x ≡ y) → (x ≡ y → b ≡ true) → Decided x y
by_test true x y f g = inl (f refl)
by_test false x y f g = inr (λ e. let no = g e in cc)

same_text : (x y : List ℕ) → Decided x y
same_text x y = by_test (bytes_eq x y) x y (bytes_eq-Decides x y).0 (bytes_eq-Decides x y).1

same_ty : (t u : Ty) → Decided t u
same_ty t u = by_test (same_type t u) t u (same_type_exact t u) (λ e. subst (λ v. same_type t v ≡ true) e (same_type_refl t))

same_formulas : (f g : Formula) → Decided f g
same_formulas f g = by_test (same_formula f g) f g (same_formula_exact f g) (λ e. subst (λ h. same_formula f h ≡ true) e (same_formula_refl f))

same_pair : (x y : List ℕ × Ty) → Decided x y
same_pair x y = both (same_text x.0 y.0) (same_ty x.1 y.1) where
  both : Decided x.0 y.0 → Decided x.1 y.1 → Decided x y
  both (inl a) (inl b) = inl (λ i. (a i, b i))
  both (inl a) (inr b) = inr (λ e. b (ap (λ z. z.1) e))
  both (inr a) b = inr (λ e. a (ap (λ z. z.0) e))

same_list : {X : Type 0} → ((x y : X) → Decided x y) → (xs ys : List X) → Decided xs ys
same_list each [] [] = inl refl
same_list each [] (y ∷ ys) = inr (λ e. cc)
same_list each (x ∷ xs) [] = inr (λ e. cc)
same_list {X} each (x ∷ xs) (y ∷ ys) = both (each x y) (same_list each xs ys) where
  both : Decided x y → Decided xs ys → Decided (x ∷ xs) (y ∷ ys)
  both (inl a) (inl b) = inl (λ i. a i ∷ b i)
  both (inl a) (inr b) = inr (λ e. let rest : xs ≡ ys = cc in b rest)
  both (inr a) b = inr (λ e. let first : x ≡ y = cc in a first)

pub same_sequent : (p q : Sequent) → Decided p q
same_sequent p q = all (same_list same_pair p.env q.env) (same_list same_formulas p.hyps q.hyps) (same_formulas p.goal q.goal) where
  all : Decided p.env q.env → Decided p.hyps q.hyps → Decided p.goal q.goal → Decided p q
  all (inl a) (inl b) (inl c) = inl (λ i. record { env = a i; hyps = b i; goal = c i })
  all (inl a) (inl b) (inr c) = inr (λ e. c (ap (λ z. z.goal) e))
  all (inl a) (inr b) c = inr (λ e. b (ap (λ z. z.hyps) e))
  all (inr a) b c = inr (λ e. a (ap (λ z. z.env) e))
