-- Sets and relations.
use Rattle.std.proofs.Common.{◌≡◌, ap, refl, ℤ, pos, Bool, true, false, ◌||◌, ◌&&◌, not}
use Rattle.formula_core.specs.declared.Op.TheVariants as op
use Rattle.meanings.specs.Values.{integer_sort}
use Rattle.meaning_rows.proofs.Short.{two, n, maps, both, just, only, set, pairs, equal, member, IsTrueEverywhere}
use Rattle.meaning_rows.proofs.Values.{is, so, equals, differs, in_second, one_or_none}

union_bool : (a b : Bool) → ((a || (b || false)) || (b || false)) ≡ (a || (b || false))
union_bool true b = refl
union_bool false true = refl
union_bool false false = refl

meet_bool : (a b : Bool) → ((a || (b || false)) && (b || false)) ≡ (b || false)
meet_bool true true = refl
meet_bool true false = refl
meet_bool false true = refl
meet_bool false false = refl

-- 2 ∈ {1, 2}
pub extension : IsTrueEverywhere (member (n 2) (both (n 1) (n 2)))
extension el U names =
    so U names op.Member (n 2) (both (n 1) (n 2)) (in_second (U.same integer_sort (pos 2) (pos 1)) (U.same integer_sort (pos 2) (pos 2)) (equals U integer_sort (pos 2)))

-- {1, 2} ∪ {2} = {1, 2}
pub union : IsTrueEverywhere (equal (two op.Union set (both (n 1) (n 2)) (just (n 2))) (both (n 1) (n 2)))
union el U names =
    is U names (two op.Union set (both (n 1) (n 2)) (just (n 2))) (both (n 1) (n 2)) set _
    (λ i. (set, λ v. union_bool (U.same integer_sort v (pos 1)) (U.same integer_sort v (pos 2)) i)) refl

-- {1, 2} ∩ {2} = {2}
pub intersection : IsTrueEverywhere (equal (two op.Intersection set (both (n 1) (n 2)) (just (n 2))) (just (n 2)))
intersection el U names =
    is U names (two op.Intersection set (both (n 1) (n 2)) (just (n 2))) (just (n 2)) set _
    (λ i. (set, λ v. meet_bool (U.same integer_sort v (pos 1)) (U.same integer_sort v (pos 2)) i)) refl

-- 1 ∈ {1, 2} ∖ {2}
pub difference : IsTrueEverywhere (member (n 1) (two op.Difference set (both (n 1) (n 2)) (just (n 2))))
difference el U names =
    so U names op.Member (n 1) (two op.Difference set (both (n 1) (n 2)) (just (n 2)))
    (λ i. (equals U integer_sort (pos 1) i || (U.same integer_sort (pos 1) (pos 2) || false)) && not (differs U integer_sort (pos 1) (pos 2) (λ e. absurd cc) i || false))

-- {1 ↦ 2}(1) = 2
pub apply : IsTrueEverywhere (equal (two op.Apply integer_sort (only (maps (n 1) (n 2))) (n 1)) (n 2))
apply el U names =
    is U names (two op.Apply integer_sort (only (maps (n 1) (n 2))) (n 1)) (n 2) integer_sort (pos 2) (λ i. (integer_sort, is_two i)) refl
  where
    test : ℤ → Bool
    test w = U.same pairs (pos 1, w) (pos 1, pos 2) || false

    passes : test (U.choose integer_sort test) ≡ true
    passes = U.chooses integer_sort test (pos 2) (ap (λ b. b || false) (equals U pairs (pos 1, pos 2)))

    is_two : U.choose integer_sort test ≡ pos 2
    is_two = ap (λ p. p.1) ((U.same_exact pairs (pos 1, U.choose integer_sort test) (pos 1, pos 2)).0 (one_or_none _ passes))
