-- Pairs that are looked through one by one.
use Rattle.std.proofs.Common.{◌≡◌, ◌∙◌, sym, ap, subst, refl, ℕ, zero, suc, ◌+◌, ◌<◌, Bool, true, false, cond, List, [], ◌∷◌, length, get_or, take, Option, Some, None, arith}
use Rattle.std.specs.Map.{lookup}

module _ {K X : Type 0} (test : K → Bool) where
  -- the first pair doesn't pass where none of the first ones does
  not_first : (b : Bool) (x : X) (o : Option X) → cond b (Some x) o ≡ None → (b ≡ false) × (o ≡ None)
  not_first true x o e = absurd (cc)
  not_first false x o e = (refl, e)

  next : (es : List (K × X)) (i : ℕ) (x : K × X) → i < length es → x ≡ get_or es i x → lookup test (take i es) ≡ None → test x.0 ≡ false → lookup test (take (suc i) es) ≡ None
  next [] i x lt is none fails = absurd (omega (arith, lt))
  next (e ∷ es) zero x lt is none fails = let this : test e.0 ≡ false = subst (λ y. test y.0 ≡ false) is fails in ap (λ b. cond b (Some e.1) None) this
  next (e ∷ es) (suc i) x lt is none fails =
      let both = not_first (test e.0) e.1 (lookup test (take i es)) none in
      let rest = next es i x (omega (arith, lt)) is both.1 fails in
      ap (λ b. cond b (Some e.1) (lookup test (take (suc i) es))) both.0 ∙ rest

  -- one more that doesn't pass
  pub none_yet : (es : List (K × X)) (i : ℕ) (x : K × X) → i < length es → x ≡ get_or es i x → lookup test (take i es) ≡ None → test x.0 ≡ false → lookup test (take (i + 1) es) ≡ None
  none_yet es i x lt is none fails = let same : suc i ≡ i + 1 = omega arith in subst (λ k. lookup test (take k es) ≡ None) same (next es i x lt is none fails)

  -- the first that does
  pub found_at : (es : List (K × X)) (i : ℕ) (x : K × X) → i < length es → x ≡ get_or es i x → lookup test (take i es) ≡ None → test x.0 ≡ true → lookup test es ≡ Some x.1
  found_at [] i x lt is none passes = absurd (omega (arith, lt))
  found_at (e ∷ es) zero x lt is none passes =
      let this : test e.0 ≡ true = subst (λ y. test y.0 ≡ true) is passes in ap (λ b. cond b (Some e.1) (lookup test es)) this ∙ ap (λ y. Some y.1) (sym is)
  found_at (e ∷ es) (suc i) x lt is none passes =
      let both = not_first (test e.0) e.1 (lookup test (take i es)) none in
      let rest = found_at es i x (omega (arith, lt)) is both.1 passes in
      ap (λ b. cond b (Some e.1) (lookup test es)) both.0 ∙ rest
