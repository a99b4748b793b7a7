-- Entries in the order of their keys: where a key stands, and what an edit there makes.
use Rattle.std.proofs.Common.{◌≡◌, ◌⊎◌, inl, inr, ◌∙◌, sym, ap, subst, refl, ℕ, zero, suc, ◌+◌, ◌<◌, ◌≤◌, Bool, true, false, not, ◌&&◌, cond, T, List, [], ◌∷◌, ◌++◌, length, take, drop, get_or, add-one, arith}
use Rattle.std.specs.Prelude.{Option, Some, None, slice_set}
use Rattle.std.specs.List.{AllByRecursion, insert}
use Rattle.std.specs.FinMap.{is_sorted, find, put}
use Rattle.std.specs.FinMap.Entries.{below_all, where_key}
use Rattle.std.specs.Ordering.{eq_by_cmp, is_eq, is_lt, ordering_reverse}
use Rattle.std.specs.declared.cmp.Ordering.{Ordering}
use Rattle.std.specs.declared.cmp.Ordering.TheVariants.{Less, Equal, Greater}
use Rattle.std.specs.Cmp.{IsTotalOrder, alike_right}

first : (a b : Bool) → T (a && b) → T a
first true b p = tt
first false b p = p

second : (a b : Bool) → T (a && b) → T b
second true b p = p
second false b p = absurd p

less_of : (o : Ordering) → T (is_lt o) → o ≡ Less
less_of Less p = refl
less_of Equal p = absurd p
less_of Greater p = absurd p

module _ {K : Type 0} (R : K → K → Ordering) (o : IsTotalOrder R) where
  -- a key at an entry or behind it is behind those before it
  behind : (k x y : K) → R x y ≡ Less → (R k y ≡ Equal) ⊎ (R k y ≡ Greater) → R k x ≡ Greater
  behind k x y less (inl tied) = o.antisymm k x ∙ ap ordering_reverse (alike_right o k y x tied ∙ less)
  behind k x y less (inr greater) = o.antisymm k x ∙ ap ordering_reverse (o.trans x y k less (o.antisymm y k ∙ ap ordering_reverse greater))

  tied_less : (k f y : K) → R k f ≡ Equal → R f y ≡ Less → R k y ≡ Less
  tied_less k f y tied less = o.antisymm k y ∙ ap ordering_reverse (alike_right o k f y tied) ∙ sym (o.antisymm f y) ∙ less

module _ {K X : Type 0} (R : K → K → Ordering) (o : IsTotalOrder R) where
  -- an entry behind another one in order
  less_at : (x : K) (es : List (K × X)) (m : ℕ) (e : K × X) → T (below_all R x es) → m < length es → e ≡ get_or es m e → R x e.0 ≡ Less
  less_at x [] m e below lt is = absurd (omega arith)
  less_at x (f ∷ es) zero e below lt is = subst (λ z. R x z.0 ≡ Less) (sym is) (less_of _ (first _ _ below))
  less_at x (f ∷ es) (suc m) e below lt is = less_at x es m e (second _ _ below) (omega arith) is

  pub greater_before : (k : K) (es : List (K × X)) (at : ℕ) (e : K × X) → T (is_sorted R es) → at < length es → e ≡ get_or es at e →
      (R k e.0 ≡ Equal) ⊎ (R k e.0 ≡ Greater) → AllByRecursion (λ x. R k x.0 ≡ Greater) (take at es)
  greater_before k [] at e sorted lt is by = absurd (omega arith)
  greater_before k (f ∷ es) zero e sorted lt is by = tt
  greater_before k (f ∷ es) (suc at) e sorted lt is by =
      (behind R o k f.0 e.0 (less_at f.0 es at e (first _ _ sorted) (omega arith) is) by, greater_before k es at e (second _ _ sorted) (omega arith) is by)

  less_than_all : (k x : K) (es : List (K × X)) → R k x ≡ Less → T (below_all R x es) → AllByRecursion (λ y. R k y.0 ≡ Less) es
  less_than_all k x [] less below = tt
  less_than_all k x (e ∷ es) less below = (o.trans k x e.0 less (less_of _ (first _ _ below)), less_than_all k x es less (second _ _ below))

  pub less_behind : (k : K) (es : List (K × X)) (at : ℕ) (e : K × X) → T (is_sorted R es) → at < length es → e ≡ get_or es at e →
      R k e.0 ≡ Less → AllByRecursion (λ x. R k x.0 ≡ Less) (drop at es)
  less_behind k [] at e sorted lt is less = absurd (omega arith)
  less_behind k (f ∷ es) zero e sorted lt is less =
      let here : R k f.0 ≡ Less = subst (λ z. R k z.0 ≡ Less) is less in (here, less_than_all k f.0 es here (first _ _ sorted))
  less_behind k (f ∷ es) (suc at) e sorted lt is less = less_behind k es at e (second _ _ sorted) (omega arith) is less

  -- a new entry stands between those before and those behind
  pub put_between : (k : K) (v : X) (es : List (K × X)) (at : ℕ) → at ≤ length es →
      AllByRecursion (λ x. R k x.0 ≡ Greater) (take at es) → AllByRecursion (λ x. R k x.0 ≡ Less) (drop at es) → insert es at (k, v) ≡ put R k v es
  put_between k v [] zero le before rest = refl
  put_between k v [] (suc at) le before rest = absurd (omega arith)
  put_between k v (e ∷ es) zero le before rest = rw rest.0 refl
  put_between k v (e ∷ es) (suc at) le before rest = rw before.0 (ap (λ t. e ∷ t) (put_between k v es at (omega arith) before.1 rest))

  -- a key that stands between entries isn't found
  pub not_found : (k : K) (es : List (K × X)) (at : ℕ) → at ≤ length es →
      AllByRecursion (λ x. R k x.0 ≡ Greater) (take at es) → AllByRecursion (λ x. R k x.0 ≡ Less) (drop at es) → find R k es ≡ None
  not_found k [] zero le before rest = refl
  not_found k [] (suc at) le before rest = refl
  not_found k (e ∷ es) zero le before rest = rw rest.0 (not_found k es zero (omega arith) tt (tail_of k es rest.1)) where
    tail_of : (k : K) (es : List (K × X)) → AllByRecursion (λ x. R k x.0 ≡ Less) es → AllByRecursion (λ x. R k x.0 ≡ Less) (drop zero es)
    tail_of k [] a = tt
    tail_of k (e ∷ es) a = a
  not_found k (e ∷ es) (suc at) le before rest = rw before.0 (not_found k es at (omega arith) before.1 rest)

  -- a key that stands at a place is found there
  pub found_at : (k : K) (es : List (K × X)) (at : ℕ) (e : K × X) → at < length es → e ≡ get_or es at e →
      AllByRecursion (λ x. R k x.0 ≡ Greater) (take at es) → R k e.0 ≡ Equal → find R k es ≡ Some e.1
  found_at k [] at e lt is before tied = absurd (omega arith)
  found_at k (f ∷ es) zero e lt is before tied =
      let here : R k f.0 ≡ Equal = subst (λ z. R k z.0 ≡ Equal) is tied in rw here (ap (λ z. Some z.1) (sym is))
  found_at k (f ∷ es) (suc at) e lt is before tied = rw before.0 (found_at k es at e (omega arith) is before.1 tied)

  -- a key that stands at a place keeps its spelling there, and has the new value
  pub put_at : (k : K) (v : X) (es : List (K × X)) (at : ℕ) (e : K × X) → at < length es → e ≡ get_or es at e →
      AllByRecursion (λ x. R k x.0 ≡ Greater) (take at es) → R k e.0 ≡ Equal → slice_set es at (e.0, v) ≡ put R k v es
  put_at k v [] at e lt is before tied = absurd (omega arith)
  put_at k v (f ∷ es) zero e lt is before tied =
      let here : R k f.0 ≡ Equal = subst (λ z. R k z.0 ≡ Equal) is tied in rw here (ap (λ z. (z.0, v) ∷ es) is)
  put_at k v (f ∷ es) (suc at) e lt is before tied = rw before.0 (ap (λ t. f ∷ t) (put_at k v es at e (omega arith) is before.1 tied))

  tied_than_all : (k x : K) (es : List (K × X)) → R k x ≡ Equal → T (below_all R x es) → AllByRecursion (λ y. R k y.0 ≡ Less) es
  tied_than_all k x [] tied below = tt
  tied_than_all k x (e ∷ es) tied below = (tied_less R o k x e.0 tied (less_of _ (first _ _ below)), tied_than_all k x es tied (second _ _ below))

  all_others : (k : K) (es : List (K × X)) → AllByRecursion (λ y. R k y.0 ≡ Less) es → where_key R (λ x. not (eq_by_cmp R k x)) es ≡ es
  all_others k [] a = refl
  all_others k (e ∷ es) a = rw a.0 (ap (λ t. e ∷ t) (all_others k es a.1))

  -- the entries but the one at the place of a key
  pub dropped_at : (k : K) (es : List (K × X)) (at : ℕ) (e : K × X) → T (is_sorted R es) → at < length es → e ≡ get_or es at e →
      AllByRecursion (λ x. R k x.0 ≡ Greater) (take at es) → R k e.0 ≡ Equal → take at es ++ drop (at + 1) es ≡ where_key R (λ x. not (eq_by_cmp R k x)) es
  dropped_at k [] at e sorted lt is before tied = absurd (omega arith)
  dropped_at k (f ∷ es) zero e sorted lt is before tied =
      let here : R k f.0 ≡ Equal = subst (λ z. R k z.0 ≡ Equal) is tied in
      rw here (whole es ∙ sym (all_others k es (tied_than_all k f.0 es here (first _ _ sorted)))) where
        whole : (xs : List (K × X)) → drop zero xs ≡ xs
        whole [] = refl
        whole (x ∷ xs) = refl
  dropped_at k (f ∷ es) (suc at) e sorted lt is before tied =
      rw (before.0, add-one) (ap (λ t. f ∷ t) (rw add-one at (dropped_at k es at e (second _ _ sorted) (omega arith) is before.1 tied)))

  -- without an entry of the key all stay
  pub none_dropped : (k : K) (es : List (K × X)) (at : ℕ) → at ≤ length es →
      AllByRecursion (λ x. R k x.0 ≡ Greater) (take at es) → AllByRecursion (λ x. R k x.0 ≡ Less) (drop at es) → where_key R (λ x. not (eq_by_cmp R k x)) es ≡ es
  none_dropped k [] at le before rest = refl
  none_dropped k (e ∷ es) zero le before rest = all_others k (e ∷ es) rest
  none_dropped k (e ∷ es) (suc at) le before rest = rw before.0 (ap (λ t. e ∷ t) (none_dropped k es at (omega arith) before.1 rest))
