-- What is finite with what, and the number of members of a list.
use Rattle.std.proofs.Common.{◌≡◌, ◌∙◌, sym, ap, subst, refl, ℕ, List, ℤ, pos, negsuc, ◌+ℤ◌, ◌-ℤ◌, int_le, Bool, true, false, ◌&&◌, arith}
use Rattle.std.proofs.lemmas.Int.{ints}
use lib.IntN.{+ℤ-neg_ℤ_cancel, -ℤ-+ℤ_cancel}
use Rattle.formula_core.proofs.Weakening.{first_true, second_true, both_true}
use Rattle.meanings.specs.Operations.{implies, equivalent, is_finite, is_subset, is_single_valued}
use Rattle.meanings.specs.Universes.{Universe, some, every}
use Rattle.meanings.specs.Values.{Sort, integer_sort, pair_sort, Value}
use Rattle.meanings.proofs.Bools.{implied_to, implies_from}
use Rattle.meanings.proofs.Quantifiers.{some_holds, every_tells}
use Rattle.true_facts.proofs.Integers.{le_through}
use Rattle.true_facts.proofs.Counting.{Counted, counted_holds, counted_tells, counted_is_finite, finite_is_counted, part_counted, counted_from, size, size_is, one_size, size_within}

module _ {carrier : List ℕ → Type 0} (U : Universe carrier) where
  pub within_tells : (a : Sort) (A B : Value carrier a → Bool) → is_subset U a A B ≡ true → (v : Value carrier a) → A v ≡ true → B v ≡ true
  within_tells a A B h v m = implied_to (A v) (B v) (every_tells U a (λ x. implies (A x) (B x)) h v) m

  pub within_finite : (a : Sort) (c : Bool) (A B : Value carrier a → Bool) → implies ((c && is_finite U a B) && is_subset U a A B) (is_finite U a A) ≡ true
  within_finite a c A B = implies_from ((c && is_finite U a B) && is_subset U a A B) _ (λ h.
      let w = finite_is_counted U a B (second_true c _ (first_true (c && is_finite U a B) _ h)) in
      counted_is_finite U a A w.0 (part_counted U a A B w.0 (within_tells a A B (second_true (c && is_finite U a B) _ h)) w.1))

  pub within_size : (a : Sort) (c : Bool) (A B : Value carrier a → Bool) → implies (((c && is_finite U a B) && is_subset U a A B) && is_finite U a A) (int_le (size U a A) (size U a B)) ≡ true
  within_size a c A B = implies_from (((c && is_finite U a B) && is_subset U a A B) && is_finite U a A) _ (λ h.
      let front = first_true ((c && is_finite U a B) && is_subset U a A B) _ h in
      size_within U a c A B (within_tells a A B (second_true (c && is_finite U a B) _ front)) (second_true c _ (first_true (c && is_finite U a B) _ front))
      (second_true ((c && is_finite U a B) && is_subset U a A B) _ h))

  module _ (a b : Sort) (f : Value carrier (pair_sort a b) → Bool) where
    single_tells : is_single_valued U a b f ≡ true → (x : Value carrier a) (y z : Value carrier b) → f (x, y) ≡ true → f (x, z) ≡ true → y ≡ z
    single_tells h x y z p q =
        (U.same_exact b y z).0 (implied_to (f (x, y) && f (x, z)) _
        (every_tells U b (λ z. implies (f (x, y) && f (x, z)) (U.same b y z))
        (every_tells U b (λ y. every U b (λ z. implies (f (x, y) && f (x, z)) (U.same b y z)))
        (every_tells U a (λ x. every U b (λ y. every U b (λ z. implies (f (x, y) && f (x, z)) (U.same b y z)))) h x) y) z) (both_true _ _ p q))

    -- two pairs of a function with one left side
    one_pair : is_single_valued U a b f ≡ true → (p q : Value carrier (pair_sort a b)) → f p ≡ true → f q ≡ true → p.0 ≡ q.0 → p ≡ q
    one_pair h p q in_p in_q e =
        let right : p.1 ≡ q.1 = single_tells h q.0 p.1 q.1 (subst (λ x. f (x, p.1) ≡ true) e in_p) in_q in λ i. (e i, right i)

    abbrev Domain : Value carrier a → Bool
    Domain x = some U b (λ y. f (x, y))

    pub function_finite : (c : Bool) → implies ((c && is_single_valued U a b f) && is_finite U a Domain) (is_finite U (pair_sort a b) f) ≡ true
    function_finite c = implies_from ((c && is_single_valued U a b f) && is_finite U a Domain) _ (λ h.
        let single = second_true c _ (first_true (c && is_single_valued U a b f) _ h) in
        let w = finite_is_counted U a Domain (second_true (c && is_single_valued U a b f) _ h) in
        counted_is_finite U (pair_sort a b) f w.0 (numbered single w.0 w.1))
      where
        numbered : is_single_valued U a b f ≡ true → (n : ℤ) → Counted U a Domain n → Counted U (pair_sort a b) f n
        numbered single n w = record {
          numbers = λ q. w.numbers (q.0, q.1.0) && f q.1;
          natural = w.natural;
          each = λ p m. let e = w.each p.0 (some_holds U b (λ y. f (p.0, y)) p.1 m) in (e.0, e.1, e.2, both_true (w.numbers (e.0, p.0)) (f p) e.3 m);
          one = λ k p q l m.
              one_pair single p q (second_true (w.numbers (k, p.0)) _ l) (second_true (w.numbers (k, q.0)) _ m)
              (w.one k p.0 q.0 (first_true (w.numbers (k, p.0)) _ l) (first_true (w.numbers (k, q.0)) _ m));
        }

    pub domain_finite : (c : Bool) → implies (c && is_finite U (pair_sort a b) f) (is_finite U a Domain) ≡ true
    domain_finite c = implies_from (c && is_finite U (pair_sort a b) f) _ (λ h.
        let w = finite_is_counted U (pair_sort a b) f (second_true c _ h) in counted_is_finite U a Domain w.0 (numbered w.0 w.1))
      where
        numbered : (n : ℤ) → Counted U (pair_sort a b) f n → Counted U a Domain n
        numbered n w = record {
          numbers = λ q. some U b (λ y. w.numbers (q.0, (q.1, y)));
          natural = w.natural;
          each = λ x m.
              let y : Value carrier b = U.choose b (λ y. f (x, y)) in let e = w.each (x, y) m in
              (e.0, e.1, e.2, some_holds U b (λ z. w.numbers (e.0, (x, z))) y e.3);
          one = λ k x z l m. ap (λ (p : Value carrier a × Value carrier b). p.0) (w.one k (x, U.choose b (λ y. w.numbers (k, (x, y)))) (z, U.choose b (λ y. w.numbers (k, (z, y)))) l m);
        }

  -- the numbers between two
  distance : (low high : ℤ) → int_le low high ≡ true → int_le (pos 0) ((high -ℤ low) +ℤ pos 1) ≡ true
  distance low high h = grind (arith, ints, h)

  from_one : (low v : ℤ) → int_le low v ≡ true → int_le (pos 1) ((v -ℤ low) +ℤ pos 1) ≡ true
  from_one low v h = grind (arith, ints, h)

  to_last : (low high v : ℤ) → int_le v high ≡ true → int_le ((v -ℤ low) +ℤ pos 1) ((high -ℤ low) +ℤ pos 1) ≡ true
  to_last low high v h = grind (arith, ints, h)

  same_place : (low i v w : ℤ) → i ≡ (v -ℤ low) +ℤ pos 1 → i ≡ (w -ℤ low) +ℤ pos 1 → v ≡ w
  same_place low i v w h k = sym (back v) ∙ ap (λ z. (z -ℤ pos 1) +ℤ low) (sym h ∙ k) ∙ back w
    where
      back : (z : ℤ) → (((z -ℤ low) +ℤ pos 1) -ℤ pos 1) +ℤ low ≡ z
      back z = ap (λ y. y +ℤ low) (+ℤ-neg_ℤ_cancel (z -ℤ low) (pos 1)) ∙ -ℤ-+ℤ_cancel z low

  pub between_finite : (c : Bool) (low high : ℤ) (A : ℤ → Bool)
      → implies (c && every U integer_sort (λ x. implies (A x) (int_le low x && int_le x high))) (is_finite U integer_sort A) ≡ true
  between_finite c low high A = implies_from (c && every U integer_sort (λ x. implies (A x) (int_le low x && int_le x high))) _ (λ h.
      let within = every_tells U integer_sort (λ x. implies (A x) (int_le low x && int_le x high)) (second_true c _ h) in
      go (λ v m. implied_to (A v) _ (within v) m) (int_le low high) refl)
    where
      go : ((v : ℤ) → A v ≡ true → (int_le low v && int_le v high) ≡ true) → (d : Bool) → int_le low high ≡ d → is_finite U integer_sort A ≡ true
      go within true e = counted_is_finite U integer_sort A ((high -ℤ low) +ℤ pos 1) (record {
        numbers = λ q. U.same integer_sort q.0 ((q.1 -ℤ low) +ℤ pos 1);
        natural = distance low high e;
        each = λ v m. (
          (v -ℤ low) +ℤ pos 1,
          from_one low v (first_true (int_le low v) _ (within v m)),
          to_last low high v (second_true (int_le low v) _ (within v m)),
          (U.same_exact integer_sort ((v -ℤ low) +ℤ pos 1) ((v -ℤ low) +ℤ pos 1)).1 refl,
        );
        one = λ i v w l m. same_place low i v w ((U.same_exact integer_sort i ((v -ℤ low) +ℤ pos 1)).0 l) ((U.same_exact integer_sort i ((w -ℤ low) +ℤ pos 1)).0 m);
      })
      go within false e = counted_is_finite U integer_sort A (pos 0) (record {
        numbers = λ q. false;
        natural = refl;
        each = λ v m.
            let l : true ≡ false = sym (le_through low v high (first_true (int_le low v) _ (within v m)) (second_true (int_le low v) _ (within v m))) ∙ e in absurd cc;
        one = λ i v w l m. absurd cc;
      })

  -- a function on 1 to n has n pairs
  module _ (b : Sort) (f : Value carrier (pair_sort integer_sort b) → Bool) (B : Value carrier b → Bool) where
    abbrev To : ℤ → ℤ → Bool
    To n x = int_le (pos 1) x && int_le x n

    abbrev Between : ℤ → Bool
    Between n = every U integer_sort (λ x. every U b (λ y. implies (f (x, y)) (To n x && B y)))

    abbrev Whole : ℤ → Bool
    Whole n = every U integer_sort (λ x. equivalent (some U b (λ y. f (x, y))) (To n x))

    whole_tells : (n : ℤ) → Whole n ≡ true → (i : ℤ) → int_le (pos 1) i ≡ true → int_le i n ≡ true → (y : Value carrier b) × (f (i, y) ≡ true)
    whole_tells n h i l m = (
      U.choose b (λ y. f (i, y)),
      implied_to (To n i) _ (second_true (implies (some U b (λ y. f (i, y))) (To n i)) _
          (every_tells U integer_sort (λ x. equivalent (some U b (λ y. f (x, y))) (To n x)) h i)) (both_true (int_le (pos 1) i) (int_le i n) l m),
    )

    counted_by : (n : ℤ) → int_le (pos 0) n ≡ true → Between n ≡ true → is_single_valued U integer_sort b f ≡ true → Counted U (pair_sort integer_sort b) f n
    counted_by n natural between single = record {
      numbers = λ q. U.same integer_sort q.0 q.1.0 && f q.1;
      natural = natural;
      each = λ p m.
          let place : To n p.0 ≡ true = first_true (To n p.0) _ (implied_to (f p) _
          (every_tells U b (λ y. implies (f (p.0, y)) (To n p.0 && B y)) (every_tells U integer_sort (λ x. every U b (λ y. implies (f (x, y)) (To n x && B y))) between p.0) p.1) m) in
          (p.0, first_true (int_le (pos 1) p.0) _ place, second_true (int_le (pos 1) p.0) _ place, both_true (U.same integer_sort p.0 p.0) (f p) ((U.same_exact integer_sort p.0 p.0).1 refl) m);
      one = λ k p q l m.
          one_pair integer_sort b f single p q (second_true (U.same integer_sort k p.0) _ l) (second_true (U.same integer_sort k q.0) _ m)
          (sym ((U.same_exact integer_sort k p.0).0 (first_true (U.same integer_sort k p.0) _ l)) ∙ (U.same_exact integer_sort k q.0).0 (first_true (U.same integer_sort k q.0) _ m));
    }

    at_least : (n k : ℤ) → int_le (pos 0) n ≡ true → Whole n ≡ true → Counted U (pair_sort integer_sort b) f k → int_le n k ≡ true
    at_least (pos n) k natural whole w = counted_from U b n f k (whole_tells (pos n) whole) w
    at_least (negsuc n) k natural whole w = absurd cc

    pub list_size : (n : ℤ) → implies ((int_le (pos 0) n && ((Between n && is_single_valued U integer_sort b f) && Whole n)) && is_finite U (pair_sort integer_sort b) f)
        (U.same integer_sort (size U (pair_sort integer_sort b) f) n) ≡ true
    list_size n = implies_from ((int_le (pos 0) n && ((Between n && is_single_valued U integer_sort b f) && Whole n)) && is_finite U (pair_sort integer_sort b) f) _ (λ h.
        let s : Sort = pair_sort integer_sort b in
        let front = first_true (int_le (pos 0) n && ((Between n && is_single_valued U integer_sort b f) && Whole n)) _ h in
        let natural = first_true (int_le (pos 0) n) _ front in
        let total = second_true (int_le (pos 0) n) _ front in
        let function = first_true (Between n && is_single_valued U integer_sort b f) _ total in
        let counted = counted_by n natural (first_true (Between n) _ function) (second_true (Between n) _ function) in
        let whole = second_true (Between n && is_single_valued U integer_sort b f) _ total in
        (U.same_exact integer_sort (size U s f) n).1 (one_size U s f (size U s f) n (size_is U s f (second_true (int_le (pos 0) n && ((Between n && is_single_valued U integer_sort b f) && Whole n)) _ h))
        (counted_holds U s f n counted, λ k m. at_least n k natural whole (counted_tells U s f k m))))
