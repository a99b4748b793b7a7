-- Two lists of formulas are the same.
use Rattle.std.proofs.Common.{◌≡◌, ◌∙◌, sym, ap, refl, ℕ, zero, suc, ◌<◌, Bool, true, false, ◌&&◌, List, [], ◌∷◌, length, drop, get_or, arith}
use Rattle.formula_core.specs.declared.formula.Formula.{Formula}
use Rattle.formula_core.specs.Same.{same_formula, same_list}

pub other_length : (xs ys : List Formula) → (length xs ≡ length ys → ⊥) → same_list same_formula xs ys ≡ false
other_length [] [] n = absurd (n refl)
other_length [] (y ∷ ys) n = refl
other_length (x ∷ xs) [] n = refl
other_length (x ∷ xs) (y ∷ ys) n = ap (λ b. same_formula x y && b) (other_length xs ys (λ e. n (omega (arith, e)))) ∙ and_false (same_formula x y) where
  and_false : (b : Bool) → (b && false) ≡ false
  and_false true = refl
  and_false false = refl

pub other_formula : (xs ys : List Formula) (i : ℕ) (x y : Formula) → i < length xs → i < length ys → x ≡ get_or xs i x → y ≡ get_or ys i y → same_formula x y ≡ false
    → same_list same_formula (drop i xs) (drop i ys) ≡ false
other_formula [] ys i x y h k a b n = absurd (omega arith)
other_formula (f ∷ xs) [] i x y h k a b n = absurd (omega arith)
other_formula (f ∷ xs) (g ∷ ys) zero x y h k a b n = (λ j. same_formula (sym a j) (sym b j) && same_list same_formula xs ys) ∙ ap (λ c. c && same_list same_formula xs ys) n
other_formula (f ∷ xs) (g ∷ ys) (suc i) x y h k a b n = other_formula xs ys i x y (omega arith) (omega arith) a b n

pub at_end : (xs ys : List Formula) → length xs ≡ length ys → same_list same_formula (drop (length xs) xs) (drop (length xs) ys) ≡ true
at_end [] [] e = refl
at_end [] (y ∷ ys) e = absurd (omega arith)
at_end (x ∷ xs) [] e = absurd (omega arith)
at_end (x ∷ xs) (y ∷ ys) e = at_end xs ys (omega arith)

pub ruleset laws = (other_length, other_formula, at_end)
