-- Sets of functions.
use Rattle.std.proofs.Common.{◌≡◌, ◌∙◌, sym, ap, refl, ℕ, ℤ, pos, List, Bool, true, false, ◌||◌, ◌&&◌}
use Rattle.formula_core.specs.declared.Op.TheVariants as op
use Rattle.meanings.specs.Operations.{implies, equivalent}
use Rattle.meanings.specs.Universes.{Universe, some, every}
use Rattle.meanings.specs.Values.{integer_sort, power_sort}
use Rattle.meanings.proofs.Quantifiers.{some_holds, every_holds}
use Rattle.meaning_rows.proofs.RelationRows.{in_one, f}
use Rattle.meaning_rows.proofs.Short.{one, two, n, just, set, pairs, relations, equal, member, IsTrueEverywhere}
use Rattle.meaning_rows.proofs.Values.{is, so, equals, one_or_none}

module _ {carrier : List ℕ → Type 0} (U : Universe carrier) where
  abbrev F : ℤ → ℤ → Bool
  F x y = U.same pairs (x, y) (pos 1, pos 2) || false

  abbrev One : ℤ → Bool
  One x = U.same integer_sort x (pos 1) || false

  abbrev Two : ℤ → Bool
  Two y = U.same integer_sort y (pos 2) || false

  between : (x y : ℤ) → implies (F x y) (One x && Two y) ≡ true
  between x y = go (U.same pairs (x, y) (pos 1, pos 2)) refl
    where
      go : (b : Bool) → U.same pairs (x, y) (pos 1, pos 2) ≡ b → implies (b || false) (One x && Two y) ≡ true
      go false e = refl
      go true e =
          let p : Path (ℤ × ℤ) (x, y) (pos 1, pos 2) = (U.same_exact pairs (x, y) (pos 1, pos 2)).0 e in
          (λ i. One (p i).0 && Two (p i).1) ∙ (λ i. in_one U integer_sort (pos 1) i && in_one U integer_sort (pos 2) i)

  single : (x y z : ℤ) → implies (F x y && F x z) (U.same integer_sort y z) ≡ true
  single x y z = go (U.same pairs (x, y) (pos 1, pos 2)) (U.same pairs (x, z) (pos 1, pos 2)) refl refl
    where
      go : (b c : Bool) → U.same pairs (x, y) (pos 1, pos 2) ≡ b → U.same pairs (x, z) (pos 1, pos 2) ≡ c → implies ((b || false) && (c || false)) (U.same integer_sort y z) ≡ true
      go false c e k = refl
      go true false e k = refl
      go true true e k =
          let p : Path (ℤ × ℤ) (x, y) (pos 1, pos 2) = (U.same_exact pairs (x, y) (pos 1, pos 2)).0 e in
          let q : Path (ℤ × ℤ) (x, z) (pos 1, pos 2) = (U.same_exact pairs (x, z) (pos 1, pos 2)).0 k in
          (λ i. U.same integer_sort (p i).1 (q i).1) ∙ equals U integer_sort (pos 2)

  -- the domain of {1 ↦ 2} is {1}
  domain_is : (x : ℤ) → some U integer_sort (F x) ≡ One x
  domain_is x = go (some U integer_sort (F x)) (One x) refl refl
    where
      go : (b c : Bool) → some U integer_sort (F x) ≡ b → One x ≡ c → b ≡ c
      go true true e k = refl
      go false false e k = refl
      go true false e k =
          let p : Path (ℤ × ℤ) (x, U.choose integer_sort (F x)) (pos 1, pos 2) = (U.same_exact pairs (x, U.choose integer_sort (F x)) (pos 1, pos 2)).0 (one_or_none _ e) in
          let l : One x ≡ true = (λ i. One (p i).0) ∙ in_one U integer_sort (pos 1) in sym l ∙ k
      go false true e k =
          let p : x ≡ pos 1 = (U.same_exact integer_sort x (pos 1)).0 (one_or_none _ k) in
          let l : some U integer_sort (F x) ≡ true = some_holds U integer_sort (F x) (pos 2) ((λ i. F (p i) (pos 2)) ∙ in_one U pairs (pos 1, pos 2)) in sym e ∙ l

  itself : (b : Bool) → equivalent b b ≡ true
  itself true = refl
  itself false = refl

  -- its range is {2}
  range_is : (y : ℤ) → some U integer_sort (λ x. F x y) ≡ Two y
  range_is y = go (some U integer_sort (λ x. F x y)) (Two y) refl refl
    where
      go : (b c : Bool) → some U integer_sort (λ x. F x y) ≡ b → Two y ≡ c → b ≡ c
      go true true e k = refl
      go false false e k = refl
      go true false e k =
          let p : Path (ℤ × ℤ) (U.choose integer_sort (λ x. F x y), y) (pos 1, pos 2) = (U.same_exact pairs (U.choose integer_sort (λ x. F x y), y) (pos 1, pos 2)).0 (one_or_none _ e) in
          let l : Two y ≡ true = (λ i. Two (p i).1) ∙ in_one U integer_sort (pos 2) in sym l ∙ k
      go false true e k =
          let p : y ≡ pos 2 = (U.same_exact integer_sort y (pos 2)).0 (one_or_none _ k) in
          let l : some U integer_sort (λ x. F x y) ≡ true = some_holds U integer_sort (λ x. F x y) (pos 1) ((λ i. F (pos 1) (p i)) ∙ in_one U pairs (pos 1, pos 2)) in sym e ∙ l

  injects : (y x z : ℤ) → implies (F x y && F z y) (U.same integer_sort x z) ≡ true
  injects y x z = go (U.same pairs (x, y) (pos 1, pos 2)) (U.same pairs (z, y) (pos 1, pos 2)) refl refl
    where
      go : (b c : Bool) → U.same pairs (x, y) (pos 1, pos 2) ≡ b → U.same pairs (z, y) (pos 1, pos 2) ≡ c → implies ((b || false) && (c || false)) (U.same integer_sort x z) ≡ true
      go false c e k = refl
      go true false e k = refl
      go true true e k =
          let p : Path (ℤ × ℤ) (x, y) (pos 1, pos 2) = (U.same_exact pairs (x, y) (pos 1, pos 2)).0 e in
          let q : Path (ℤ × ℤ) (z, y) (pos 1, pos 2) = (U.same_exact pairs (z, y) (pos 1, pos 2)).0 k in
          (λ i. U.same integer_sort (p i).0 (q i).0) ∙ equals U integer_sort (pos 1)

  is_between : every U integer_sort (λ x. every U integer_sort (λ y. implies (F x y) (One x && Two y))) ≡ true
  is_between = every_holds U integer_sort (λ x. every U integer_sort (λ y. implies (F x y) (One x && Two y))) (λ x. every_holds U integer_sort (λ y. implies (F x y) (One x && Two y)) (λ y. between x y))

  is_single : every U integer_sort (λ x. every U integer_sort (λ y. every U integer_sort (λ z. implies (F x y && F x z) (U.same integer_sort y z)))) ≡ true
  is_single = every_holds U integer_sort (λ x. every U integer_sort (λ y. every U integer_sort (λ z. implies (F x y && F x z) (U.same integer_sort y z)))) (λ x.
      every_holds U integer_sort (λ y. every U integer_sort (λ z. implies (F x y && F x z) (U.same integer_sort y z))) (λ y.
      every_holds U integer_sort (λ z. implies (F x y && F x z) (U.same integer_sort y z)) (λ z. single x y z)))

  is_injective : every U integer_sort (λ y. every U integer_sort (λ x. every U integer_sort (λ z. implies (F x y && F z y) (U.same integer_sort x z)))) ≡ true
  is_injective = every_holds U integer_sort (λ y. every U integer_sort (λ x. every U integer_sort (λ z. implies (F x y && F z y) (U.same integer_sort x z)))) (λ y.
      every_holds U integer_sort (λ x. every U integer_sort (λ z. implies (F x y && F z y) (U.same integer_sort x z))) (λ x.
      every_holds U integer_sort (λ z. implies (F x y && F z y) (U.same integer_sort x z)) (λ z. injects y x z)))

  is_total : every U integer_sort (λ x. equivalent (some U integer_sort (λ y. F x y)) (One x)) ≡ true
  is_total = every_holds U integer_sort (λ x. equivalent (some U integer_sort (λ y. F x y)) (One x)) (λ x. ap (λ b. equivalent b (One x)) (domain_is x) ∙ itself (One x))

  is_onto : every U integer_sort (λ y. equivalent (some U integer_sort (λ x. F x y)) (Two y)) ≡ true
  is_onto = every_holds U integer_sort (λ y. equivalent (some U integer_sort (λ x. F x y)) (Two y)) (λ y. ap (λ b. equivalent b (Two y)) (range_is y) ∙ itself (Two y))

-- dom({1 ↦ 2}) = {1}
pub domain_equals : IsTrueEverywhere (equal (one op.Domain set f) (just (n 1)))
domain_equals el U names = is U names (one op.Domain set f) (just (n 1)) set _ (λ i. (set, λ v. domain_is U v i)) refl

-- {1 ↦ 2} ∈ {1} ↔ {2}
pub relations_set : IsTrueEverywhere (member f (two op.Relations (power_sort relations) (just (n 1)) (just (n 2))))
relations_set el U names = so U names op.Member f (two op.Relations (power_sort relations) (just (n 1)) (just (n 2))) (λ i. is_between U i)

-- {1 ↦ 2} ∈ {1} <<-> {2}
pub total_relations : IsTrueEverywhere (member f (two op.TotalRelations (power_sort relations) (just (n 1)) (just (n 2))))
total_relations el U names = so U names op.Member f (two op.TotalRelations (power_sort relations) (just (n 1)) (just (n 2))) (λ i. is_between U i && is_total U i)

-- {1 ↦ 2} ∈ {1} <->> {2}
pub onto_relations : IsTrueEverywhere (member f (two op.SurjectiveRelations (power_sort relations) (just (n 1)) (just (n 2))))
onto_relations el U names = so U names op.Member f (two op.SurjectiveRelations (power_sort relations) (just (n 1)) (just (n 2))) (λ i. is_between U i && is_onto U i)

-- {1 ↦ 2} ∈ {1} <<->> {2}
pub total_onto_relations : IsTrueEverywhere (member f (two op.TotalSurjectiveRelations (power_sort relations) (just (n 1)) (just (n 2))))
total_onto_relations el U names = so U names op.Member f (two op.TotalSurjectiveRelations (power_sort relations) (just (n 1)) (just (n 2))) (λ i. is_between U i && is_total U i && is_onto U i)

-- {1 ↦ 2} ∈ {1} ⇸ {2}
pub partial_functions : IsTrueEverywhere (member f (two op.PartialFunctions (power_sort relations) (just (n 1)) (just (n 2))))
partial_functions el U names = so U names op.Member f (two op.PartialFunctions (power_sort relations) (just (n 1)) (just (n 2))) (λ i. is_between U i && is_single U i)

-- {1 ↦ 2} ∈ {1} → {2}
pub total_functions : IsTrueEverywhere (member f (two op.TotalFunctions (power_sort relations) (just (n 1)) (just (n 2))))
total_functions el U names = so U names op.Member f (two op.TotalFunctions (power_sort relations) (just (n 1)) (just (n 2))) (λ i. is_between U i && is_single U i && is_total U i)

-- {1 ↦ 2} ∈ {1} ⤔ {2}
pub partial_injections : IsTrueEverywhere (member f (two op.PartialInjections (power_sort relations) (just (n 1)) (just (n 2))))
partial_injections el U names = so U names op.Member f (two op.PartialInjections (power_sort relations) (just (n 1)) (just (n 2))) (λ i. is_between U i && is_single U i && is_injective U i)

-- {1 ↦ 2} ∈ {1} ↣ {2}
pub total_injections : IsTrueEverywhere (member f (two op.TotalInjections (power_sort relations) (just (n 1)) (just (n 2))))
total_injections el U names = so U names op.Member f (two op.TotalInjections (power_sort relations) (just (n 1)) (just (n 2))) (λ i. is_between U i && is_single U i && is_total U i && is_injective U i)

-- {1 ↦ 2} ∈ {1} ⤀ {2}
pub partial_surjections : IsTrueEverywhere (member f (two op.PartialSurjections (power_sort relations) (just (n 1)) (just (n 2))))
partial_surjections el U names = so U names op.Member f (two op.PartialSurjections (power_sort relations) (just (n 1)) (just (n 2))) (λ i. is_between U i && is_single U i && is_onto U i)

-- {1 ↦ 2} ∈ {1} ↠ {2}
pub total_surjections : IsTrueEverywhere (member f (two op.TotalSurjections (power_sort relations) (just (n 1)) (just (n 2))))
total_surjections el U names = so U names op.Member f (two op.TotalSurjections (power_sort relations) (just (n 1)) (just (n 2))) (λ i. is_between U i && is_single U i && is_total U i && is_onto U i)

-- {1 ↦ 2} ∈ {1} ⤖ {2}
pub bijections : IsTrueEverywhere (member f (two op.Bijections (power_sort relations) (just (n 1)) (just (n 2))))
bijections el U names = so U names op.Member f (two op.Bijections (power_sort relations) (just (n 1)) (just (n 2))) (λ i. is_between U i && is_single U i && is_total U i && is_injective U i && is_onto U i)
