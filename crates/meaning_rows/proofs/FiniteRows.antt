-- Numbers of members.
use Rattle.std.proofs.Common.{◌≡◌, ◌∙◌, sym, ap, refl, ℕ, ℤ, pos, int_le, List, Bool, true, false, ◌||◌, ◌&&◌, arith}
use Rattle.std.proofs.lemmas.Int.{ints}
use Rattle.formula_core.proofs.Weakening.{first_true, second_true}
use Rattle.formula_core.specs.declared.Op.TheVariants as op
use Rattle.meanings.specs.Operations.{implies, is_function, is_numbered, has_at_most}
use Rattle.meanings.specs.Universes.{Universe, some, every}
use Rattle.meanings.specs.Values.{integer_sort, power_sort}
use Rattle.meanings.proofs.Quantifiers.{some_holds, every_holds, every_tells}
use Rattle.meaning_rows.proofs.Short.{one, n, both, pairs, claim_of, formula, equal, IsTrueEverywhere}
use Rattle.meaning_rows.proofs.Values.{is, equals, in_second, says}

is_one : (i m : ℤ) → int_le (pos 1) i ≡ true → int_le i m ≡ true → int_le (pos 2) m ≡ false → i ≡ pos 1
is_one i m a b c = grind (arith, ints, a, b, c)

is_two : (m : ℤ) → int_le (pos 2) m ≡ true → int_le m (pos 2) ≡ true → m ≡ pos 2
is_two m a b = grind (arith, ints, a, b)

module _ {carrier : List ℕ → Type 0} (U : Universe carrier) where
  abbrev In : ℤ → Bool
  In m = U.same integer_sort m (pos 1) || (U.same integer_sort m (pos 2) || false)

  abbrev AtMost : ℤ → Bool
  AtMost = has_at_most U integer_sort In

  abbrev Numbers : ℤ → ℤ → (ℤ × ℤ → Bool) → ℤ → Bool
  Numbers k x numbers i = int_le (pos 1) i && int_le i k && numbers (i, x)

  abbrev Each : ℤ → (ℤ × ℤ → Bool) → ℤ → Bool
  Each k numbers x = implies (In x) (some U integer_sort (Numbers k x numbers))

  has_one : In (pos 1) ≡ true
  has_one = λ i. equals U integer_sort (pos 1) i || (U.same integer_sort (pos 1) (pos 2) || false)

  has_two : In (pos 2) ≡ true
  has_two = in_second (U.same integer_sort (pos 2) (pos 1)) (U.same integer_sort (pos 2) (pos 2)) (equals U integer_sort (pos 2))

  -- each member is its own number
  abbrev own : ℤ × ℤ → Bool
  own p = U.same integer_sort p.0 p.1

  each_own : (x : ℤ) → Each (pos 2) own x ≡ true
  each_own x = go (U.same integer_sort x (pos 1)) (U.same integer_sort x (pos 2)) refl refl
    where
      go : (a b : Bool) → U.same integer_sort x (pos 1) ≡ a → U.same integer_sort x (pos 2) ≡ b → implies (a || (b || false)) (some U integer_sort (Numbers (pos 2) x own)) ≡ true
      go true b e h =
          let p : x ≡ pos 1 = (U.same_exact integer_sort x (pos 1)).0 e in
          some_holds U integer_sort (Numbers (pos 2) x own) (pos 1) ((λ i. U.same integer_sort (pos 1) (p i)) ∙ equals U integer_sort (pos 1))
      go false true e h =
          let p : x ≡ pos 2 = (U.same_exact integer_sort x (pos 2)).0 h in
          some_holds U integer_sort (Numbers (pos 2) x own) (pos 2) ((λ i. U.same integer_sort (pos 2) (p i)) ∙ equals U integer_sort (pos 2))
      go false false e h = refl

  one_own : (i x y : ℤ) → implies (own (i, x) && own (i, y)) (U.same integer_sort x y) ≡ true
  one_own i x y = go (U.same integer_sort i x) (U.same integer_sort i y) refl refl
    where
      go : (a b : Bool) → U.same integer_sort i x ≡ a → U.same integer_sort i y ≡ b → implies (a && b) (U.same integer_sort x y) ≡ true
      go false b e h = refl
      go true false e h = refl
      go true true e h = (U.same_exact integer_sort x y).1 (sym ((U.same_exact integer_sort i x).0 e) ∙ (U.same_exact integer_sort i y).0 h)

  function_own : is_function U integer_sort integer_sort (λ i x. own (i, x)) ≡ true
  function_own =
      every_holds U integer_sort (λ i. every U integer_sort (λ x. every U integer_sort (λ y. implies (own (i, x) && own (i, y)) (U.same integer_sort x y)))) (λ i.
      every_holds U integer_sort (λ x. every U integer_sort (λ y. implies (own (i, x) && own (i, y)) (U.same integer_sort x y))) (λ x.
      every_holds U integer_sort (λ y. implies (own (i, x) && own (i, y)) (U.same integer_sort x y)) (λ y. one_own i x y)))

  two_at_most : AtMost (pos 2) ≡ true
  two_at_most = some_holds U (power_sort pairs) (is_numbered U integer_sort In (pos 2)) own (λ i. every_holds U integer_sort (Each (pos 2) own) each_own i && function_own i)

  -- fewer numbers don't do
  two_at_least : (k : ℤ) → AtMost k ≡ true → int_le (pos 2) k ≡ true
  two_at_least k h = go (int_le (pos 2) k) refl
    where
      numbers : ℤ × ℤ → Bool
      numbers = U.choose (power_sort pairs) (is_numbered U integer_sort In k)

      numbered : is_numbered U integer_sort In k numbers ≡ true
      numbered = second_true (int_le (pos 0) k) _ h

      found : (x : ℤ) → In x ≡ true → Numbers k x numbers (U.choose integer_sort (Numbers k x numbers)) ≡ true
      found x e =
          let l : Each k numbers x ≡ true = every_tells U integer_sort (Each k numbers) (first_true (every U integer_sort (Each k numbers)) _ numbered) x in
          ap (λ b. implies b (some U integer_sort (Numbers k x numbers))) (sym e) ∙ l

      at_one : (x : ℤ) → In x ≡ true → int_le (pos 2) k ≡ false → numbers (pos 1, x) ≡ true
      at_one x e c =
          let i : ℤ = U.choose integer_sort (Numbers k x numbers) in
          let l : (int_le (pos 1) i && int_le i k && numbers (i, x)) ≡ true = found x e in
          let m : (int_le (pos 1) i && int_le i k) ≡ true = first_true (int_le (pos 1) i && int_le i k) (numbers (i, x)) l in
          let p : i ≡ pos 1 = is_one i k (first_true (int_le (pos 1) i) (int_le i k) m) (second_true (int_le (pos 1) i) (int_le i k) m) c in
          (λ j. numbers (sym p j, x)) ∙ second_true (int_le (pos 1) i && int_le i k) (numbers (i, x)) l

      go : (b : Bool) → int_le (pos 2) k ≡ b → int_le (pos 2) k ≡ true
      go true e = e
      go false e =
          let f = second_true (every U integer_sort (Each k numbers)) _ numbered in
          let f1 = every_tells U integer_sort (λ i. every U integer_sort (λ x. every U integer_sort (λ y. implies (numbers (i, x) && numbers (i, y)) (U.same integer_sort x y)))) f (pos 1) in
          let f2 = every_tells U integer_sort (λ x. every U integer_sort (λ y. implies (numbers (pos 1, x) && numbers (pos 1, y)) (U.same integer_sort x y))) f1 (pos 1) in
          let f3 = every_tells U integer_sort (λ y. implies (numbers (pos 1, pos 1) && numbers (pos 1, y)) (U.same integer_sort (pos 1) y)) f2 (pos 2) in
          let l : U.same integer_sort (pos 1) (pos 2) ≡ true = (λ i. implies (sym (at_one (pos 1) has_one e) i && sym (at_one (pos 2) has_two e) i) (U.same integer_sort (pos 1) (pos 2))) ∙ f3 in
          let p : pos 1 ≡ pos 2 = (U.same_exact integer_sort (pos 1) (pos 2)).0 l in absurd cc

  abbrev IsLeast : ℤ → Bool
  IsLeast m = AtMost m && every U integer_sort (λ k. implies (AtMost k) (int_le m k))

  above : (k : ℤ) → implies (AtMost k) (int_le (pos 2) k) ≡ true
  above k = go (AtMost k) refl
    where
      go : (b : Bool) → AtMost k ≡ b → implies b (int_le (pos 2) k) ≡ true
      go true e = two_at_least k e
      go false e = refl

  least_is_two : U.choose integer_sort IsLeast ≡ pos 2
  least_is_two = is_two m (two_at_least m (first_true (AtMost m) _ passes)) below
    where
      m : ℤ
      m = U.choose integer_sort IsLeast

      passes : IsLeast m ≡ true
      passes = U.chooses integer_sort IsLeast (pos 2) (λ i. two_at_most i && every_holds U integer_sort (λ k. implies (AtMost k) (int_le (pos 2) k)) above i)

      below : int_le m (pos 2) ≡ true
      below =
          let l : implies (AtMost (pos 2)) (int_le m (pos 2)) ≡ true = every_tells U integer_sort (λ k. implies (AtMost k) (int_le m k)) (second_true (AtMost m) _ passes) (pos 2) in
          ap (λ b. implies b (int_le m (pos 2))) (sym two_at_most) ∙ l

-- finite({1, 2})
pub finite : IsTrueEverywhere (formula (claim_of op.Finite (both (n 1) (n 2))))
finite el U names = says U names (claim_of op.Finite (both (n 1) (n 2))) ∙ some_holds U integer_sort (AtMost U) (pos 2) (two_at_most U)

-- card({1, 2}) = 2
pub cardinality : IsTrueEverywhere (equal (one op.Cardinality integer_sort (both (n 1) (n 2))) (n 2))
cardinality el U names = is U names (one op.Cardinality integer_sort (both (n 1) (n 2))) (n 2) integer_sort (pos 2) (λ i. (integer_sort, least_is_two U i)) refl
