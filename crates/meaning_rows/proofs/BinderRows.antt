-- Binders, and sets of sets.
use Rattle.std.proofs.Common.{◌≡◌, ◌∙◌, sym, ap, refl, ℕ, ℤ, pos, List, [], ◌∷◌, Bool, true, false, ◌||◌, ◌&&◌, ◌+ℤ◌}
use Rattle.formula_core.specs.declared.Binder.TheVariants as b
use Rattle.formula_core.specs.declared.Op.TheVariants as op
use Rattle.meanings.specs.Operations.{implies}
use Rattle.meanings.specs.Universes.{Universe}
use Rattle.meanings.specs.Values.{integer_sort, power_sort}
use Rattle.meanings.proofs.Quantifiers.{some_holds, every_holds}
use Rattle.meaning_rows.proofs.RelationRows.{in_one}
use Rattle.meaning_rows.proofs.Short.{Short, top, bottom, bound, none, one, two, binder, n, maps, just, set, pairs, relations, member, IsTrueEverywhere, IsFalseEverywhere}
use Rattle.meaning_rows.proofs.Values.{so, row, equals, differs, every_fails, some_fails, one_or_none}

abbrev x : Short
x = bound 0 integer_sort

-- 1 ↦ 2 ∈ (λx·⊤∣x + 1), kept as {x·⊤∣x ↦ x + 1}
pub lambda : IsTrueEverywhere (member (maps (n 1) (n 2)) (binder b.Comprehension (integer_sort ∷ []) relations top (maps x (two op.Plus integer_sort x (n 1)))))
lambda el U names =
    so U names op.Member (maps (n 1) (n 2)) (binder b.Comprehension (integer_sort ∷ []) relations top (maps x (two op.Plus integer_sort x (n 1))))
    (some_holds U integer_sort (λ v. U.same pairs (pos 1, pos 2) (v, v +ℤ pos 1)) (pos 1) (equals U pairs (pos 1, pos 2)))

-- 1 ∈ (⋃x·⊤∣{x}), 1 ∈ (⋂x·⊤∣{1})
pub quantified_union : IsTrueEverywhere (member (n 1) (binder b.QuantifiedUnion (integer_sort ∷ []) set top (just x)))
quantified_union el U names =
    so U names op.Member (n 1) (binder b.QuantifiedUnion (integer_sort ∷ []) set top (just x))
    (some_holds U integer_sort (λ v. U.same integer_sort (pos 1) v || false) (pos 1) (in_one U integer_sort (pos 1)))

pub quantified_intersection : IsTrueEverywhere (member (n 1) (binder b.QuantifiedIntersection (integer_sort ∷ []) set top (just (n 1))))
quantified_intersection el U names =
    so U names op.Member (n 1) (binder b.QuantifiedIntersection (integer_sort ∷ []) set top (just (n 1)))
    (every_holds U integer_sort (λ v. U.same integer_sort (pos 1) (pos 1) || false) (λ v. in_one U integer_sort (pos 1)))

-- 1 ∈ union({{1}})
abbrev of_one : Short
of_one = one op.SetExtension (power_sort set) (just (n 1))

module _ {carrier : List ℕ → Type 0} (U : Universe carrier) where
  -- what is in {1}, and what in {{1}}
  abbrev One : ℤ → Bool
  One v = U.same integer_sort v (pos 1) || false

  abbrev OfOne : (ℤ → Bool) → Bool
  OfOne m = U.same set m One || false

  two_not_one : One (pos 2) ≡ false
  two_not_one = λ i. differs U integer_sort (pos 2) (pos 1) (λ e. absurd cc) i || false

  is_one : (m : ℤ → Bool) → OfOne m ≡ true → m ≡ One
  is_one m h = (U.same_exact set m One).0 (one_or_none (U.same set m One) h)

  either : (a b : Bool) → (a ≡ true → b ≡ true) → implies a b ≡ true
  either true b f = f refl
  either false b f = refl

  neither : (a b : Bool) → (a ≡ true → b ≡ false) → (a && b) ≡ false
  neither true b f = f refl
  neither false b f = refl

pub general_union : IsTrueEverywhere (member (n 1) (one op.GeneralUnion set of_one))
general_union el U names =
    so U names op.Member (n 1) (one op.GeneralUnion set of_one)
    (some_holds U set (λ m. OfOne U m && m (pos 1)) (One U) (λ i. in_one U set (One U) i && in_one U integer_sort (pos 1) i))

-- not 2 ∈ union({{1}})
pub not_general_union : IsFalseEverywhere (member (n 2) (one op.GeneralUnion set of_one))
not_general_union el U names =
    row U names op.Member (n 2) (one op.GeneralUnion set of_one)
    ∙ some_fails U set (λ m. OfOne U m && m (pos 2)) (λ m. neither U (OfOne U m) (m (pos 2)) (λ h. (λ i. is_one U m h i (pos 2)) ∙ two_not_one U))

-- 1 ∈ inter({{1}}), not 2 ∈ inter({{1}}); 1 ∈ inter(∅), which isn't well-defined
pub general_intersection : IsTrueEverywhere (member (n 1) (one op.GeneralIntersection set of_one))
general_intersection el U names =
    so U names op.Member (n 1) (one op.GeneralIntersection set of_one)
    (every_holds U set (λ m. implies (OfOne U m) (m (pos 1))) (λ m. either U (OfOne U m) (m (pos 1)) (λ h. (λ i. is_one U m h i (pos 1)) ∙ in_one U integer_sort (pos 1))))

pub not_general_intersection : IsFalseEverywhere (member (n 2) (one op.GeneralIntersection set of_one))
not_general_intersection el U names =
    row U names op.Member (n 2) (one op.GeneralIntersection set of_one)
    ∙ every_fails U set (λ m. implies (OfOne U m) (m (pos 2))) (One U) (λ i. implies (in_one U set (One U) i) (two_not_one U i))

pub intersection_of_none : IsTrueEverywhere (member (n 1) (one op.GeneralIntersection set (none op.EmptySet (power_sort set))))
intersection_of_none el U names =
    so U names op.Member (n 1) (one op.GeneralIntersection set (none op.EmptySet (power_sort set)))
    (every_holds U set (λ m. implies false (m (pos 1))) (λ m. refl))

-- not 1 ∈ {x·⊥∣x}, not 1 ∈ (⋃x·⊥∣{x}), not 2 ∈ (⋃x·⊤∣{1}), not 2 ∈ (⋂x·⊤∣{x}), not 1 ↦ 3 ∈ (λx·⊤∣x + 1)
pub not_comprehension : IsFalseEverywhere (member (n 1) (binder b.Comprehension (integer_sort ∷ []) set bottom x))
not_comprehension el U names = row U names op.Member (n 1) (binder b.Comprehension (integer_sort ∷ []) set bottom x)

pub union_of_none : IsFalseEverywhere (member (n 1) (binder b.QuantifiedUnion (integer_sort ∷ []) set bottom (just x)))
union_of_none el U names = row U names op.Member (n 1) (binder b.QuantifiedUnion (integer_sort ∷ []) set bottom (just x))

pub not_quantified_union : IsFalseEverywhere (member (n 2) (binder b.QuantifiedUnion (integer_sort ∷ []) set top (just (n 1))))
not_quantified_union el U names =
    row U names op.Member (n 2) (binder b.QuantifiedUnion (integer_sort ∷ []) set top (just (n 1)))
    ∙ some_fails U integer_sort (λ v. One U (pos 2)) (λ v. two_not_one U)

pub not_quantified_intersection : IsFalseEverywhere (member (n 2) (binder b.QuantifiedIntersection (integer_sort ∷ []) set top (just x)))
not_quantified_intersection el U names =
    row U names op.Member (n 2) (binder b.QuantifiedIntersection (integer_sort ∷ []) set top (just x))
    ∙ every_fails U integer_sort (λ v. U.same integer_sort (pos 2) v || false) (pos 1) (two_not_one U)

pub not_lambda : IsFalseEverywhere (member (maps (n 1) (n 3)) (binder b.Comprehension (integer_sort ∷ []) relations top (maps x (two op.Plus integer_sort x (n 1)))))
not_lambda el U names =
    row U names op.Member (maps (n 1) (n 3)) (binder b.Comprehension (integer_sort ∷ []) relations top (maps x (two op.Plus integer_sort x (n 1))))
    ∙ some_fails U integer_sort (λ v. U.same pairs (pos 1, pos 3) (v, v +ℤ pos 1)) (λ v. differs U pairs (pos 1, pos 3) (v, v +ℤ pos 1) (apart v))
  where
    apart : (v : ℤ) → Path (ℤ × ℤ) (pos 1, pos 3) (v, v +ℤ pos 1) → ⊥
    apart v e =
        let first : pos 1 ≡ v = ap (λ p. p.0) e in
        let second : pos 3 ≡ pos 2 = ap (λ p. p.1) e ∙ ap (λ v. v +ℤ pos 1) (sym first) in
        absurd cc
