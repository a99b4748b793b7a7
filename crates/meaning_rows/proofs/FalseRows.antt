-- What isn't so.
use Rattle.std.proofs.Common.{◌≡◌, ◌∙◌, sym, ap, refl, ℕ, ℤ, pos, List, Bool, true, false, ◌||◌, ◌&&◌, not}
use Rattle.formula_core.specs.declared.Op.TheVariants as op
use Rattle.meanings.specs.Operations.{implies, equivalent}
use Rattle.meanings.specs.Universes.{Universe, some, every}
use Rattle.meanings.specs.Values.{integer_sort, power_sort}
use Rattle.meanings.proofs.Quantifiers.{some_holds}
use Rattle.meaning_rows.proofs.RelationRows.{in_one, f}
use Rattle.meaning_rows.proofs.Short.{none, two, n, minus, both, just, only, maps, set, pairs, relations, equal, member, relation, IsFalseEverywhere}
use Rattle.meaning_rows.proofs.Values.{row, equals, differs, every_fails, one_or_none}

pub second_false : (a b : Bool) → b ≡ false → (a && b) ≡ false
second_false true b h = h
second_false false b h = refl

-- 1 = 2, 3 ∈ {1, 2}, 2 ∈ {1, 2} ∖ {2}, 1 ↦ 2 ∈ id
pub not_equal : IsFalseEverywhere (equal (n 1) (n 2))
not_equal el U names = row U names op.Equal (n 1) (n 2) ∙ differs U integer_sort (pos 1) (pos 2) (λ e. absurd cc)

pub not_extension : IsFalseEverywhere (member (n 3) (both (n 1) (n 2)))
not_extension el U names =
    row U names op.Member (n 3) (both (n 1) (n 2))
    ∙ (λ i. differs U integer_sort (pos 3) (pos 1) (λ e. absurd cc) i || (differs U integer_sort (pos 3) (pos 2) (λ e. absurd cc) i || false))

pub not_difference : IsFalseEverywhere (member (n 2) (two op.Difference set (both (n 1) (n 2)) (just (n 2))))
not_difference el U names =
    row U names op.Member (n 2) (two op.Difference set (both (n 1) (n 2)) (just (n 2))) ∙ second_false _ _ (λ i. not (in_one U integer_sort (pos 2) i))

pub not_identity : IsFalseEverywhere (member (maps (n 1) (n 2)) (none op.Identity relations))
not_identity el U names = row U names op.Member (maps (n 1) (n 2)) (none op.Identity relations) ∙ differs U integer_sort (pos 1) (pos 2) (λ e. absurd cc)

-- 2 < 2, 3 ∈ 1‥2, −1 ∈ ℕ, 0 ∈ ℕ1
pub not_less : IsFalseEverywhere (relation op.Less (n 2) (n 2))
not_less el U names = row U names op.Less (n 2) (n 2)

pub not_between : IsFalseEverywhere (member (n 3) (two op.Interval set (n 1) (n 2)))
not_between el U names = row U names op.Member (n 3) (two op.Interval set (n 1) (n 2))

pub not_natural : IsFalseEverywhere (member (minus 1) (none op.Naturals set))
not_natural el U names = row U names op.Member (minus 1) (none op.Naturals set)

pub not_positive : IsFalseEverywhere (member (n 0) (none op.PositiveNaturals set))
not_positive el U names = row U names op.Member (n 0) (none op.PositiveNaturals set)

module _ {carrier : List ℕ → Type 0} (U : Universe carrier) where
  -- {1 ↦ 2} gives 2 no value, and no value is 3
  none_at_two : some U integer_sort (λ y. U.same pairs (pos 2, y) (pos 1, pos 2) || false) ≡ false
  none_at_two = go (some U integer_sort test) refl
    where
      test : ℤ → Bool
      test y = U.same pairs (pos 2, y) (pos 1, pos 2) || false

      go : (b : Bool) → some U integer_sort test ≡ b → some U integer_sort test ≡ false
      go false e = e
      go true e =
          let p : pos 2 ≡ pos 1 = ap (λ v. v.0) ((U.same_exact pairs (pos 2, U.choose integer_sort test) (pos 1, pos 2)).0 (one_or_none _ e)) in absurd cc

  none_to_three : some U integer_sort (λ x. U.same pairs (x, pos 3) (pos 1, pos 2) || false) ≡ false
  none_to_three = go (some U integer_sort test) refl
    where
      test : ℤ → Bool
      test x = U.same pairs (x, pos 3) (pos 1, pos 2) || false

      go : (b : Bool) → some U integer_sort test ≡ b → some U integer_sort test ≡ false
      go false e = e
      go true e =
          let p : pos 3 ≡ pos 2 = ap (λ v. v.1) ((U.same_exact pairs (U.choose integer_sort test, pos 3) (pos 1, pos 2)).0 (one_or_none _ e)) in absurd cc

  -- that one of the two values isn't had
  one_sided : (k : ℤ) (l : ℤ) → equivalent false (U.same integer_sort k l || (U.same integer_sort k k || false)) ≡ false
  one_sided k l = go (U.same integer_sort k l) (U.same integer_sort k k) (equals U integer_sort k)
    where
      go : (a b : Bool) → b ≡ true → equivalent false (a || (b || false)) ≡ false
      go true b e = refl
      go false true e = refl
      go false false e = sym e

  -- its domain isn't {1, 2}, and its range isn't {2, 3}
  other_domain : every U integer_sort (λ x. equivalent (some U integer_sort (λ y. U.same pairs (x, y) (pos 1, pos 2) || false)) (U.same integer_sort x (pos 1) || (U.same integer_sort x (pos 2) || false))) ≡ false
  other_domain =
      every_fails U integer_sort
      (λ x. equivalent (some U integer_sort (λ y. U.same pairs (x, y) (pos 1, pos 2) || false)) (U.same integer_sort x (pos 1) || (U.same integer_sort x (pos 2) || false))) (pos 2)
      (ap (λ b. equivalent b (U.same integer_sort (pos 2) (pos 1) || (U.same integer_sort (pos 2) (pos 2) || false))) none_at_two ∙ one_sided (pos 2) (pos 1))

  other_range : every U integer_sort (λ y. equivalent (some U integer_sort (λ x. U.same pairs (x, y) (pos 1, pos 2) || false)) (U.same integer_sort y (pos 2) || (U.same integer_sort y (pos 3) || false))) ≡ false
  other_range =
      every_fails U integer_sort
      (λ y. equivalent (some U integer_sort (λ x. U.same pairs (x, y) (pos 1, pos 2) || false)) (U.same integer_sort y (pos 2) || (U.same integer_sort y (pos 3) || false))) (pos 3)
      (ap (λ b. equivalent b (U.same integer_sort (pos 3) (pos 2) || (U.same integer_sort (pos 3) (pos 3) || false))) none_to_three ∙ one_sided (pos 3) (pos 2))

  -- not each of its pairs leads from {1} to {3}
  leads_elsewhere : every U integer_sort (λ x. every U integer_sort (λ y. implies (U.same pairs (x, y) (pos 1, pos 2) || false) ((U.same integer_sort x (pos 1) || false) && (U.same integer_sort y (pos 3) || false)))) ≡ false
  leads_elsewhere =
      every_fails U integer_sort
      (λ x. every U integer_sort (λ y. implies (U.same pairs (x, y) (pos 1, pos 2) || false) ((U.same integer_sort x (pos 1) || false) && (U.same integer_sort y (pos 3) || false)))) (pos 1)
      (every_fails U integer_sort
      (λ y. implies (U.same pairs (pos 1, y) (pos 1, pos 2) || false) ((U.same integer_sort (pos 1) (pos 1) || false) && (U.same integer_sort y (pos 3) || false))) (pos 2)
      (λ i. implies (in_one U pairs (pos 1, pos 2) i) (in_one U integer_sort (pos 1) i && (differs U integer_sort (pos 2) (pos 3) (λ e. absurd cc) i || false))))

-- {1 ↦ 2} ∈ {1} ↔ {3}
pub not_related : IsFalseEverywhere (member f (two op.Relations (power_sort relations) (just (n 1)) (just (n 3))))
not_related el U names = row U names op.Member f (two op.Relations (power_sort relations) (just (n 1)) (just (n 3))) ∙ leads_elsewhere U

-- {1 ↦ 2} ∈ {1, 2} <<-> {2}, {1 ↦ 2} ∈ {1, 2} → {2}
pub not_total_relation : IsFalseEverywhere (member f (two op.TotalRelations (power_sort relations) (both (n 1) (n 2)) (just (n 2))))
not_total_relation el U names =
    row U names op.Member f (two op.TotalRelations (power_sort relations) (both (n 1) (n 2)) (just (n 2))) ∙ second_false _ _ (other_domain U)

pub not_total : IsFalseEverywhere (member f (two op.TotalFunctions (power_sort relations) (both (n 1) (n 2)) (just (n 2))))
not_total el U names = row U names op.Member f (two op.TotalFunctions (power_sort relations) (both (n 1) (n 2)) (just (n 2))) ∙ second_false _ _ (other_domain U)

-- {1 ↦ 2} ∈ {1} <->> {2, 3}, and of <<->>, ⤀, ↠, ⤖
pub not_onto_relation : IsFalseEverywhere (member f (two op.SurjectiveRelations (power_sort relations) (just (n 1)) (both (n 2) (n 3))))
not_onto_relation el U names =
    row U names op.Member f (two op.SurjectiveRelations (power_sort relations) (just (n 1)) (both (n 2) (n 3))) ∙ second_false _ _ (other_range U)

pub not_total_onto_relation : IsFalseEverywhere (member f (two op.TotalSurjectiveRelations (power_sort relations) (just (n 1)) (both (n 2) (n 3))))
not_total_onto_relation el U names =
    row U names op.Member f (two op.TotalSurjectiveRelations (power_sort relations) (just (n 1)) (both (n 2) (n 3))) ∙ second_false _ _ (other_range U)

pub not_onto : IsFalseEverywhere (member f (two op.PartialSurjections (power_sort relations) (just (n 1)) (both (n 2) (n 3))))
not_onto el U names = row U names op.Member f (two op.PartialSurjections (power_sort relations) (just (n 1)) (both (n 2) (n 3))) ∙ second_false _ _ (other_range U)

pub not_total_onto : IsFalseEverywhere (member f (two op.TotalSurjections (power_sort relations) (just (n 1)) (both (n 2) (n 3))))
not_total_onto el U names = row U names op.Member f (two op.TotalSurjections (power_sort relations) (just (n 1)) (both (n 2) (n 3))) ∙ second_false _ _ (other_range U)

pub not_bijection : IsFalseEverywhere (member f (two op.Bijections (power_sort relations) (just (n 1)) (both (n 2) (n 3))))
not_bijection el U names = row U names op.Member f (two op.Bijections (power_sort relations) (just (n 1)) (both (n 2) (n 3))) ∙ second_false _ _ (other_range U)

-- 1 ↦ 2 ∈ {1 ↦ 2} <+ {1 ↦ 3}
pub overridden : IsFalseEverywhere (member (maps (n 1) (n 2)) (two op.Overriding relations f (only (maps (n 1) (n 3)))))
overridden el U names =
    row U names op.Member (maps (n 1) (n 2)) (two op.Overriding relations f (only (maps (n 1) (n 3))))
    ∙ (λ i. (differs U pairs (pos 1, pos 2) (pos 1, pos 3) apart i || false) || ((equals U pairs (pos 1, pos 2) i || false) && not (given i)))
  where
    apart : Path (ℤ × ℤ) (pos 1, pos 2) (pos 1, pos 3) → ⊥
    apart e = let p : pos 2 ≡ pos 3 = ap (λ v. v.1) e in absurd cc

    given : some U integer_sort (λ z. U.same pairs (pos 1, z) (pos 1, pos 3) || false) ≡ true
    given = some_holds U integer_sort (λ z. U.same pairs (pos 1, z) (pos 1, pos 3) || false) (pos 3) (in_one U pairs (pos 1, pos 3))
