-- A finite set of integers has bounds, and a least and a greatest member where it has members.
use Rattle.std.proofs.Common.{◌≡◌, ◌∙◌, sym, subst, refl, ℕ, List, [], ◌∷◌, ℤ, pos, int_le, Bool, true, false, not, ◌&&◌, ◌||◌}
use Rattle.std.specs.List.{list_any}
use Rattle.formula_core.proofs.Weakening.{first_true, second_true, both_true}
use Rattle.meanings.specs.Operations.{implies, is_finite, least_number, greatest_number}
use Rattle.meanings.specs.Universes.{Universe, some, every}
use Rattle.meanings.specs.Values.{integer_sort, power_sort}
use Rattle.meanings.proofs.Bools.{implies_from, or_cases}
use Rattle.meanings.proofs.FiniteSets.{finite_is_listed}
use Rattle.meanings.proofs.Quantifiers.{some_holds, every_holds}
use Rattle.true_facts.proofs.Integers.{le_self, le_through, le_other}
use Rattle.true_facts.proofs.Least.{least_exists, greatest_exists, least_is, greatest_is}

lower : (x y : ℤ) → (m : ℤ) × (int_le m x ≡ true) × (int_le m y ≡ true)
lower x y = go (int_le x y) refl
  where
    go : (c : Bool) → int_le x y ≡ c → (m : ℤ) × (int_le m x ≡ true) × (int_le m y ≡ true)
    go true e = (x, le_self x, e)
    go false e = (y, le_other x y e, le_self y)

upper : (x y : ℤ) → (m : ℤ) × (int_le x m ≡ true) × (int_le y m ≡ true)
upper x y = go (int_le x y) refl
  where
    go : (c : Bool) → int_le x y ≡ c → (m : ℤ) × (int_le x m ≡ true) × (int_le y m ≡ true)
    go true e = (y, e, le_self y)
    go false e = (x, le_self x, le_other x y e)

module _ {carrier : List ℕ → Type 0} (U : Universe carrier) where
  -- a number at most each that passes a test, and one at least each
  abbrev Bounded : (ℤ → Bool) → Type 0
  Bounded test = (low : ℤ) × (high : ℤ) × ((v : ℤ) → test v ≡ true → (int_le low v ≡ true) × (int_le v high ≡ true))

  list_bounded : (xs : List ℤ) → Bounded (λ v. list_any (U.same integer_sort v) xs)
  list_bounded [] = (pos 0, pos 0, λ v h. absurd cc)
  list_bounded (x ∷ xs) = go (list_bounded xs)
    where
      go : Bounded (λ v. list_any (U.same integer_sort v) xs) → Bounded (λ v. U.same integer_sort v x || list_any (U.same integer_sort v) xs)
      go w =
          let l = lower x w.0 in let u = upper x w.1 in (
            l.0,
            u.0,
            λ v h. or_cases (U.same integer_sort v x) (list_any (U.same integer_sort v) xs) ((int_le l.0 v ≡ true) × (int_le v u.0 ≡ true)) h
                (λ s. let e = sym ((U.same_exact integer_sort v x).0 s) in (subst (λ z. int_le l.0 z ≡ true) e l.1, subst (λ z. int_le z u.0 ≡ true) e u.1))
                (λ r. let b = w.2 v r in (le_through l.0 w.0 v l.2 b.0, le_through v w.1 u.0 b.1 u.2)),
          )

  finite_bounded : (s : ℤ → Bool) → is_finite U integer_sort s ≡ true → Bounded s
  finite_bounded s h =
      let l = (finite_is_listed U integer_sort s).0 h in let w = list_bounded l.0 in
      (w.0, w.1, λ v m. w.2 v (l.1 v m))

  pub bounds_below : (c : Bool) (s : ℤ → Bool) → implies (c && is_finite U integer_sort s) (some U integer_sort (λ b. every U integer_sort (λ x. implies (s x) (int_le b x)))) ≡ true
  bounds_below c s = implies_from (c && is_finite U integer_sort s) _ (λ h.
      let w = finite_bounded s (second_true c _ h) in
      some_holds U integer_sort (λ b. every U integer_sort (λ x. implies (s x) (int_le b x))) w.0
      (every_holds U integer_sort (λ x. implies (s x) (int_le w.0 x)) (λ x. implies_from (s x) (int_le w.0 x) (λ m. (w.2 x m).0))))

  pub bounds_above : (c : Bool) (s : ℤ → Bool) → implies (c && is_finite U integer_sort s) (some U integer_sort (λ b. every U integer_sort (λ x. implies (s x) (int_le x b)))) ≡ true
  bounds_above c s = implies_from (c && is_finite U integer_sort s) _ (λ h.
      let w = finite_bounded s (second_true c _ h) in
      some_holds U integer_sort (λ b. every U integer_sort (λ x. implies (s x) (int_le x b))) w.1
      (every_holds U integer_sort (λ x. implies (s x) (int_le x w.1)) (λ x. implies_from (s x) (int_le x w.1) (λ m. (w.2 x m).1))))

  -- what isn't empty has a member
  has_member : (s : ℤ → Bool) → not (U.same (power_sort integer_sort) s (λ k. false)) ≡ true → (v : ℤ) × (s v ≡ true)
  has_member s h = go (some U integer_sort s) refl
    where
      fails : some U integer_sort s ≡ false → (v : ℤ) (c : Bool) → s v ≡ c → s v ≡ false
      fails e v false f = f
      fails e v true f = let m : true ≡ false = sym (some_holds U integer_sort s v f) ∙ e in absurd cc

      go : (c : Bool) → some U integer_sort s ≡ c → (v : ℤ) × (s v ≡ true)
      go true e = (U.choose integer_sort s, e)
      go false e =
          let empty : s ≡ (λ k. false) = λ i v. fails e v (s v) refl i in
          let same : not true ≡ true = (λ i. not (sym ((U.same_exact (power_sort integer_sort) s (λ k. false)).1 empty) i)) ∙ h in absurd cc

  pub has_minimum : (c : Bool) (s : ℤ → Bool) → implies ((c && is_finite U integer_sort s) && not (U.same (power_sort integer_sort) s (λ k. false)))
      (s (least_number U s) && every U integer_sort (λ x. implies (s x) (int_le (least_number U s) x))) ≡ true
  has_minimum c s = implies_from ((c && is_finite U integer_sort s) && not (U.same (power_sort integer_sort) s (λ k. false))) _ (λ h.
      let w = finite_bounded s (second_true c _ (first_true (c && is_finite U integer_sort s) _ h)) in
      let v = has_member s (second_true (c && is_finite U integer_sort s) _ h) in
      let found = least_exists s w.0 (λ n m. (w.2 n m).0) v.0 v.1 in
      let least = least_is U s found.0 found.1 in
      both_true (s (least_number U s)) _ least.0 (every_holds U integer_sort (λ x. implies (s x) (int_le (least_number U s) x)) (λ x. implies_from (s x) _ (least.1 x))))

  pub has_maximum : (c : Bool) (s : ℤ → Bool) → implies ((c && is_finite U integer_sort s) && not (U.same (power_sort integer_sort) s (λ k. false)))
      (s (greatest_number U s) && every U integer_sort (λ x. implies (s x) (int_le x (greatest_number U s)))) ≡ true
  has_maximum c s = implies_from ((c && is_finite U integer_sort s) && not (U.same (power_sort integer_sort) s (λ k. false))) _ (λ h.
      let w = finite_bounded s (second_true c _ (first_true (c && is_finite U integer_sort s) _ h)) in
      let v = has_member s (second_true (c && is_finite U integer_sort s) _ h) in
      let found = greatest_exists s w.1 (λ n m. (w.2 n m).1) v.0 v.1 in
      let greatest = greatest_is U s found.0 found.1 in
      both_true (s (greatest_number U s)) _ greatest.0 (every_holds U integer_sort (λ x. implies (s x) (int_le x (greatest_number U s))) (λ x. implies_from (s x) _ (greatest.1 x))))
