-- Terms and their types, from a place on.
use Rattle.std.proofs.Common.{◌≡◌, ◌∙◌, sym, ap, refl, ℕ, zero, suc, ◌<◌, ◌≤◌, true, false, ◌&&◌, List, [], ◌∷◌, length, drop, get_or, leb, arith}
use Rattle.formula_core.specs.declared.Formula.{Formula}
use Rattle.formula_core.specs.declared.Ty.{Ty}
use Rattle.formula_core.specs.Types.{same_type}
use Rattle.formula_core.specs.Wellness.{type_of}
use Rattle.rule_table.specs.Rows.{have_types}

pub too_few : (es : List Formula) (ts : List Ty) (i : ℕ) → i < length es → length ts ≤ i → have_types (drop i es) (drop i ts) ≡ false
too_few [] ts i h k = absurd (omega arith)
too_few (e ∷ es) [] zero h k = refl
too_few (e ∷ es) (t ∷ ts) zero h k = absurd (omega arith)
too_few (e ∷ es) [] (suc i) h k = at_none es i (omega arith) where
  at_none : (es : List Formula) (i : ℕ) → i < length es → have_types (drop i es) [] ≡ false
  at_none [] i h = absurd (omega arith)
  at_none (e ∷ es) zero h = refl
  at_none (e ∷ es) (suc i) h = at_none es i (omega arith)
too_few (e ∷ es) (t ∷ ts) (suc i) h k = too_few es ts i (omega arith) (omega arith)

pub of_another : (es : List Formula) (ts : List Ty) (i : ℕ) (e : Formula) (t : Ty) → i < length es → i < length ts → e ≡ get_or es i e → t ≡ get_or ts i t
    → same_type (type_of e) t ≡ false → have_types (drop i es) (drop i ts) ≡ false
of_another [] ts i e t h k a b n = absurd (omega arith)
of_another (d ∷ es) [] i e t h k a b n = absurd (omega arith)
of_another (d ∷ es) (s ∷ ts) zero e t h k a b n = (λ j. same_type (type_of (sym a j)) (sym b j) && have_types es ts) ∙ ap (λ c. c && have_types es ts) n
of_another (d ∷ es) (s ∷ ts) (suc i) e t h k a b n = of_another es ts i e t (omega arith) (omega arith) a b n

pub at_end : (es : List Formula) (ts : List Ty) → have_types (drop (length es) es) (drop (length es) ts) ≡ leb (length ts) (length es)
at_end [] [] = refl
at_end [] (t ∷ ts) = grind arith
at_end (e ∷ es) [] = at_none es ∙ positive (length es) where
  positive : (n : ℕ) → true ≡ leb 0 (suc n)
  positive n = grind arith

  at_none : (es : List Formula) → have_types (drop (length es) es) [] ≡ true
  at_none [] = refl
  at_none (e ∷ es) = at_none es
at_end (e ∷ es) (t ∷ ts) = at_end es ts ∙ one_more (length ts) (length es) where
  one_more : (m n : ℕ) → leb m n ≡ leb (suc m) (suc n)
  one_more m n = grind arith

pub ruleset laws = (too_few, of_another, at_end)
