-- Sides stand for one thing at most.
use Rattle.std.proofs.Common.{◌≡◌, ◌⊎◌, inl, inr, ⊎_elim, ℕ, ◌+◌, ◌^◌, ◌<◌, ◌≤◌, List, [], ◌∷◌, ◌++◌, length, take, drop, get_or, refl, sym, ◌∙◌, ap, subst, arith, append_assoc}
use Rattle.std.proofs.lemmas.List.{take-take, drop_at, drop-drop}
use Rattle.std.proofs.lemmas.Nat.{from_le_bytes-to_le_bytes_4}
use Rattle.std.specs.Int.{w32, to_le_bytes, from_le_bytes}
use Rattle.outside.specs.Disk.{Sides}
use Rattle.outside.specs.declared.side.Side.{Side}
use Rattle.outside.specs.declared.side.Side.TheVariants.{Left, Right}
use Rattle.journal_core.specs.Sides.{record_bytes, open_records, HasRecords, HoldsNone, IsForeign, IsOpenSide, Yields, other, IsWhole, IsBroken, IsDamaged, StandsAt}
use Rattle.journal_core.specs.Start.{JournalMeaning, meaning_of, nothing, records, foreign, damaged, JournalStandsFor, IsJournalCause, IsJournalAnswerFor}
use Rattle.journal_core.specs.declared.piece.JournalFault.{JournalFault}
use Rattle.journal_core.specs.declared.piece.JournalFault.TheVariants as fault
use Rattle.journal_core.proofs.Standing.{unique, same_number, stands_of, not_both, not_two, is_open, same_parts, open_more, length-open_first, length-record_bytes, Stands, empty, counting}

-- a side with an open first gate is a journal
open_is_journal : (side : List ℕ) (generation : ℕ) → IsOpenSide side generation → IsForeign side → ⊥
open_is_journal side generation opened is = is.1 (sym (take-take 8 17 side (omega arith)) ∙ ap (λ (l : List ℕ). take 8 l) opened.1)

none_is_journal : (side : List ℕ) → HoldsNone side → IsForeign side → ⊥
none_is_journal side (inl short) is = omega (arith, short, is.0)
none_is_journal side (inr shut) is = is.1 shut.0

yields_is_journal : (rest : List ℕ) (on : Side) (generation : ℕ) → Yields rest on generation → IsForeign rest → ⊥
yields_is_journal rest on generation (inl none) is = none_is_journal rest none is
yields_is_journal rest on generation (inr older) is = open_is_journal rest older.0 older.1 is

records_are_journals : (side : List ℕ) (generation : ℕ) (bodies : List (List ℕ)) → HasRecords side generation bodies → IsForeign side → ⊥
records_are_journals side generation bodies has is = is.1 (ap (λ (l : List ℕ). take 8 l) has.split)

-- a foreign side is beside none that counts
no_records : (sides : Sides) (bodies : List (List ℕ)) (s : Side) → Stands sides bodies → IsForeign (sides s) → ⊥
no_records sides bodies Left (empty left right none) is = none_is_journal _ left is
no_records sides bodies Right (empty left right none) is = none_is_journal _ right is
no_records sides bodies Left (counting Left g some has yields) is = records_are_journals _ g bodies has is
no_records sides bodies Right (counting Right g some has yields) is = records_are_journals _ g bodies has is
no_records sides bodies Right (counting Left g some has yields) is = yields_is_journal _ Left g yields is
no_records sides bodies Left (counting Right g some has yields) is = yields_is_journal _ Right g yields is

no_damage : (sides : Sides) (side : Side) (gate : ℕ) (s : Side) → IsDamaged sides side gate → IsForeign (sides s) → ⊥
no_damage sides Left gate Left d is = open_is_journal _ d.generation d.opened is
no_damage sides Right gate Right d is = open_is_journal _ d.generation d.opened is
no_damage sides Left gate Right d is = yields_is_journal _ Left d.generation d.yields is
no_damage sides Right gate Left d is = yields_is_journal _ Right d.generation d.yields is

-- sides stand for one list
one_list_stands : (sides : Sides) (xs ys : List (List ℕ)) → Stands sides xs → Stands sides ys → ys ≡ xs
one_list_stands sides xs ys (counting side g some has yields) stands = unique sides side g xs ys has yields (λ e. absurd (some e)) stands
one_list_stands sides xs ys (empty left right none) (empty left' right' none') = none' ∙ sym none
one_list_stands sides xs [] (empty left right none) (counting side g some has yields) = absurd (some refl)
one_list_stands sides xs (y ∷ ys) (empty left right none) (counting Left g some has yields) = absurd (not_both _ g (is_open _ g y ys has) left)
one_list_stands sides xs (y ∷ ys) (empty left right none) (counting Right g some has yields) = absurd (not_both _ g (is_open _ g y ys has) right)

-- Two readings of one list of records.
-- behind the open gate at this offset a whole record stands, which ends before the last gate
record IsMore (l : List ℕ) (at last : ℕ) : Type 0 where
  body : List ℕ
  next : ℕ
  behind : List ℕ
  split : drop at l ≡ 1 ∷ (record_bytes body ++ next ∷ behind)
  within : at + 5 + length body ≤ last

-- the rest of a side is never empty
first_of : (xs : List (List ℕ)) (x : ℕ) (r : List ℕ) → (next : ℕ) × (behind : List ℕ) × (open_records xs ++ x ∷ r ≡ next ∷ behind)
first_of [] x r = (x, r, refl)
first_of (y ∷ ys) x r = (1, record_bytes y ++ open_records ys ++ x ∷ r, refl)

more_here : (y : List ℕ) (ys : List (List ℕ)) (x : ℕ) (r l : List ℕ) → l ≡ open_records (y ∷ ys) ++ x ∷ r → IsMore l 0 (length (open_records (y ∷ ys)))
more_here y ys x r l is =
    let rest = first_of ys x r in
    record {
      body = y;
      next = rest.0;
      behind = rest.1;
      split = is ∙ open_more y ys (x ∷ r) ∙ ap (λ (s : List ℕ). 1 ∷ (to_le_bytes w32 (length y) ++ (y ++ s))) rest.2 ∙ ap (λ (s : List ℕ). 1 ∷ s) (sym (append_assoc (to_le_bytes w32 (length y)) y (rest.0 ∷ rest.1)));
      within = omega (arith, length-open_first y ys);
    }

more_behind : (a : List ℕ) (l l' : List ℕ) (at last : ℕ) → l ≡ 1 ∷ (record_bytes a ++ l') → IsMore l' at last → IsMore l (5 + length a + at) (5 + length a + last)
more_behind a l l' at last is more = record {
  body = more.body;
  next = more.next;
  behind = more.behind;
  split =
      ap (λ (s : List ℕ). drop (5 + length a + at) s) is
      ∙ sym (drop-drop at (5 + length a) (1 ∷ (record_bytes a ++ l')))
      ∙ ap (λ (s : List ℕ). drop at s) (drop_at (1 ∷ record_bytes a) l' (5 + length a) (omega (arith, length-record_bytes a)))
      ∙ more.split;
  within = omega (arith, more.within);
}

-- they end at one gate, or behind the earlier end a whole record stands
compare : (xs ys : List (List ℕ)) (x y : ℕ) (r s l : List ℕ) → l ≡ open_records xs ++ x ∷ r → l ≡ open_records ys ++ y ∷ s → length (open_records xs) < 2 ^ 32 → length (open_records ys) < 2 ^ 32
    → ((x ≡ y) × (length (open_records xs) ≡ length (open_records ys)))
    ⊎ (((y ≡ 1) × IsMore l (length (open_records ys)) (length (open_records xs)))
    ⊎ ((x ≡ 1) × IsMore l (length (open_records xs)) (length (open_records ys))))
compare [] [] x y r s l is is' small small' = inl (ap (λ (t : List ℕ). get_or t 0 0) (sym is ∙ is'), refl)
compare (a ∷ xs) [] x y r s l is is' small small' = inr (inl (sym (ap (λ (t : List ℕ). get_or t 0 0) (sym is ∙ is')), more_here a xs x r l is))
compare [] (b ∷ ys) x y r s l is is' small small' = inr (inr (ap (λ (t : List ℕ). get_or t 0 0) (sym is ∙ is'), more_here b ys y s l is'))
compare (a ∷ xs) (b ∷ ys) x y r s l is is' small small' =
    let flat = ap (λ (t : List ℕ). drop 1 t) (sym (open_more a xs (x ∷ r)) ∙ (sym is ∙ is') ∙ open_more b ys (y ∷ s)) in
    let size_a : length (open_records (a ∷ xs)) ≡ 5 + length a + length (open_records xs) = length-open_first a xs in
    let size_b : length (open_records (b ∷ ys)) ≡ 5 + length b + length (open_records ys) = length-open_first b ys in
    let parts = same_parts (to_le_bytes w32 (length a)) (to_le_bytes w32 (length b)) (a ++ (open_records xs ++ x ∷ r)) (b ++ (open_records ys ++ y ∷ s)) refl flat in
    let long : length a ≡ length b = sym (from_le_bytes-to_le_bytes_4 (length a) (omega (arith, small, size_a))) ∙ ap (from_le_bytes w32) parts.0 ∙ from_le_bytes-to_le_bytes_4 (length b) (omega (arith, small', size_b)) in
    let bodies = same_parts a b (open_records xs ++ x ∷ r) (open_records ys ++ y ∷ s) long parts.1 in
    let here : l ≡ 1 ∷ (record_bytes a ++ (open_records xs ++ x ∷ r)) = is ∙ open_more a xs (x ∷ r) ∙ ap (λ (t : List ℕ). 1 ∷ t) (sym (append_assoc (to_le_bytes w32 (length a)) a (open_records xs ++ x ∷ r))) in
    ⊎_elim
    (λ same. inl (same.0, omega (arith, same.1, size_a, size_b, long)))
    (λ rest. ⊎_elim
    (λ more. inr (inl (
      more.0,
      subst (λ (n : ℕ). IsMore l n (length (open_records (a ∷ xs)))) (omega (arith, size_b, long))
          (subst (λ (n : ℕ). IsMore l (5 + length a + length (open_records ys)) n) (sym size_a) (more_behind a l (open_records xs ++ x ∷ r) (length (open_records ys)) (length (open_records xs)) here more.1)),
    )))
    (λ more. inr (inr (
      more.0,
      subst (λ (n : ℕ). IsMore l n (length (open_records (b ∷ ys)))) (sym size_a)
          (subst (λ (n : ℕ). IsMore l (5 + length a + length (open_records xs)) n) (omega (arith, size_b, long)) (more_behind a l (open_records xs ++ x ∷ r) (length (open_records xs)) (length (open_records ys)) here more.1)),
    )))
    rest)
    (compare xs ys x y r s (open_records xs ++ x ∷ r) refl bodies.1 (omega (arith, small, size_a)) (omega (arith, small', size_b)))

-- a record that stands is whole
whole_of : (side : List ℕ) (at last gate : ℕ) → IsMore (drop 16 side) at last → gate ≡ 16 + at → 16 + last < 67108864 → (body : List ℕ) × IsWhole side gate body
whole_of side at last gate more is small = (
  more.body,
  record {
    next = more.next;
    behind = more.behind;
    split = ap (λ (n : ℕ). drop n side) is ∙ sym (drop-drop at 16 side) ∙ more.split;
    within = omega (arith, is, more.within, small);
  },
)

-- a side with records that end at a closed gate isn't broken
sound_or_broken : (side : List ℕ) (g h gate : ℕ) (bodies : List (List ℕ)) → HasRecords side g bodies → IsBroken side h gate → ⊥
sound_or_broken side g h gate bodies has broken = ⊎_elim
    (λ same. has.closed same.0)
    (λ rest. ⊎_elim
    (λ more. let whole = whole_of side _ _ gate more.1 broken.at has.within in broken.broken whole.0 whole.1)
    (λ more. has.closed more.0)
    rest)
    (compare bodies broken.bodies has.gate 1 has.behind broken.behind (drop 16 side) (ap (λ (t : List ℕ). drop 16 t) has.split) (ap (λ (t : List ℕ). drop 16 t) broken.split)
    (omega (arith, has.within)) (omega (arith, broken.at, broken.within)))

one_gate : (side : List ℕ) (g h gate gate' : ℕ) → IsBroken side g gate → IsBroken side h gate' → gate ≡ gate'
one_gate side g h gate gate' a b = ⊎_elim
    (λ same. a.at ∙ ap (λ (n : ℕ). 16 + n) same.1 ∙ sym b.at)
    (λ rest. ⊎_elim
    (λ more. let whole = whole_of side _ _ gate' more.1 b.at (omega (arith, a.at, a.within)) in absurd (b.broken whole.0 whole.1))
    (λ more. let whole = whole_of side _ _ gate more.1 a.at (omega (arith, b.at, b.within)) in absurd (a.broken whole.0 whole.1))
    rest)
    (compare a.bodies b.bodies 1 1 a.behind b.behind (drop 16 side) (ap (λ (t : List ℕ). drop 16 t) a.split) (ap (λ (t : List ℕ). drop 16 t) b.split)
    (omega (arith, a.at, a.within)) (omega (arith, b.at, b.within)))

-- one side counts
not_two_open : (sides : Sides) (side : Side) (g h : ℕ) → IsOpenSide (sides side) g → IsOpenSide (sides (other side)) h → Yields (sides (other side)) side g → Yields (sides side) (other side) h → ⊥
not_two_open sides Left g h a b first second = not_two sides g h a b first second
not_two_open sides Right g h a b first second = not_two sides h g b a second first

sound_sides : (sides : Sides) (bodies : List (List ℕ)) (side : Side) (gate : ℕ) → Stands sides bodies → IsDamaged sides side gate → ⊥
sound_sides sides bodies Left gate (empty left right none) d = not_both _ d.generation d.opened left
sound_sides sides bodies Right gate (empty left right none) d = not_both _ d.generation d.opened right
sound_sides sides [] side gate (counting on g some has yields) d = some refl
sound_sides sides (x ∷ xs) Left gate (counting Left g some has yields) d = sound_or_broken _ g d.generation gate (x ∷ xs) has d.damage
sound_sides sides (x ∷ xs) Right gate (counting Right g some has yields) d = sound_or_broken _ g d.generation gate (x ∷ xs) has d.damage
sound_sides sides (x ∷ xs) Left gate (counting Right g some has yields) d = not_two_open sides Left d.generation g d.opened (is_open _ g x xs has) d.yields yields
sound_sides sides (x ∷ xs) Right gate (counting Left g some has yields) d = not_two_open sides Right d.generation g d.opened (is_open _ g x xs has) d.yields yields

one_damage : (sides : Sides) (s t : Side) (at at' : ℕ) → IsDamaged sides s at → IsDamaged sides t at' → damaged s at ≡ damaged t at'
one_damage sides Left Left at at' a b = ap (λ (n : ℕ). damaged Left n) (one_gate _ a.generation b.generation at at' a.damage b.damage)
one_damage sides Right Right at at' a b = ap (λ (n : ℕ). damaged Right n) (one_gate _ a.generation b.generation at at' a.damage b.damage)
one_damage sides Left Right at at' a b = absurd (not_two_open sides Left a.generation b.generation a.opened b.opened a.yields b.yields)
one_damage sides Right Left at at' a b = absurd (not_two_open sides Right a.generation b.generation a.opened b.opened a.yields b.yields)

foreign_side : (sides : Sides) (s : Side) → JournalStandsFor sides (foreign s) → IsForeign (sides s)
foreign_side sides Left is = is
foreign_side sides Right is = is.1

one_foreign : (sides : Sides) (s t : Side) → JournalStandsFor sides (foreign s) → JournalStandsFor sides (foreign t) → foreign s ≡ foreign t
one_foreign sides Left Left a b = refl
one_foreign sides Right Right a b = refl
one_foreign sides Left Right a b = absurd (b.0 a)
one_foreign sides Right Left a b = absurd (a.0 b)

-- records that count do so on one side, in one generation
one_counting : (sides : Sides) (s t : Side) (g h : ℕ) (x y : List ℕ) (xs ys : List (List ℕ)) → StandsAt sides s g (x ∷ xs) → StandsAt sides t h (y ∷ ys) → (s ≡ t) × (g ≡ h)
one_counting sides Left Left g h x y xs ys a b = (refl, same_number _ g h (is_open _ g x xs a.0) (is_open _ h y ys b.0))
one_counting sides Right Right g h x y xs ys a b = (refl, same_number _ g h (is_open _ g x xs a.0) (is_open _ h y ys b.0))
one_counting sides Left Right g h x y xs ys a b = absurd (not_two_open sides Left g h (is_open _ g x xs a.0) (is_open _ h y ys b.0) a.1 b.1)
one_counting sides Right Left g h x y xs ys a b = absurd (not_two_open sides Right g h (is_open _ g x xs a.0) (is_open _ h y ys b.0) a.1 b.1)

same_records : (s t : Side) (g h : ℕ) (x y : List ℕ) (xs ys : List (List ℕ)) → s ≡ t → g ≡ h → x ∷ xs ≡ y ∷ ys → records s g x xs ≡ records t h y ys
same_records s t g h x y xs ys side number bodies = cc

-- what means some records stands
pub means_stands : (sides : Sides) (side : Side) (generation : ℕ) (bodies : List (List ℕ)) → JournalStandsFor sides (meaning_of side generation bodies) → StandsAt sides side generation bodies
means_stands sides side generation [] is = is
means_stands sides side generation (body ∷ bodies) is = is

pub stands_means : (sides : Sides) (side : Side) (generation : ℕ) (bodies : List (List ℕ)) → StandsAt sides side generation bodies → JournalStandsFor sides (meaning_of side generation bodies)
stands_means sides side generation [] is = is
stands_means sides side generation (body ∷ bodies) is = is

at_none : (sides : Sides) → JournalStandsFor sides nothing → Stands sides []
at_none sides is = stands_of sides Left 0 [] is

pub one_meaning : (sides : Sides) (a b : JournalMeaning) → JournalStandsFor sides a → JournalStandsFor sides b → a ≡ b
one_meaning sides nothing nothing a b = refl
one_meaning sides nothing (records t h y ys) a b = absurd (let same = one_list_stands sides [] (y ∷ ys) (at_none sides a) (stands_of sides t h (y ∷ ys) b) in cc)
one_meaning sides nothing (foreign s) a b = absurd (no_records sides [] s (at_none sides a) (foreign_side sides s b))
one_meaning sides nothing (damaged s at) a b = absurd (sound_sides sides [] s at (at_none sides a) b)
one_meaning sides (records s g x xs) nothing a b = absurd (let same = one_list_stands sides [] (x ∷ xs) (at_none sides b) (stands_of sides s g (x ∷ xs) a) in cc)
one_meaning sides (records s g x xs) (records t h y ys) a b =
    let place = one_counting sides s t g h x y xs ys a b in
    same_records s t g h x y xs ys place.0 place.1 (one_list_stands sides (y ∷ ys) (x ∷ xs) (stands_of sides t h (y ∷ ys) b) (stands_of sides s g (x ∷ xs) a))
one_meaning sides (records s g x xs) (foreign t) a b = absurd (no_records sides (x ∷ xs) t (stands_of sides s g (x ∷ xs) a) (foreign_side sides t b))
one_meaning sides (records s g x xs) (damaged t at) a b = absurd (sound_sides sides (x ∷ xs) t at (stands_of sides s g (x ∷ xs) a) b)
one_meaning sides (foreign s) nothing a b = absurd (no_records sides [] s (at_none sides b) (foreign_side sides s a))
one_meaning sides (foreign s) (records t h y ys) a b = absurd (no_records sides (y ∷ ys) s (stands_of sides t h (y ∷ ys) b) (foreign_side sides s a))
one_meaning sides (foreign s) (foreign t) a b = one_foreign sides s t a b
one_meaning sides (foreign s) (damaged t at) a b = absurd (no_damage sides t at s b (foreign_side sides s a))
one_meaning sides (damaged s at) nothing a b = absurd (sound_sides sides [] s at (at_none sides b) a)
one_meaning sides (damaged s at) (records t h y ys) a b = absurd (sound_sides sides (y ∷ ys) s at (stands_of sides t h (y ∷ ys) b) a)
one_meaning sides (damaged s at) (foreign t) a b = absurd (no_damage sides s at t a (foreign_side sides t b))
one_meaning sides (damaged s at) (damaged t at') a b = one_damage sides s t at at' a b

pub answer_for : (sides : Sides) (meaning : JournalMeaning) (answer : JournalFault) → JournalStandsFor sides meaning → IsJournalCause sides answer → IsJournalAnswerFor meaning answer
answer_for sides meaning (fault.Foreign s) is cause = one_meaning sides meaning (foreign s) is cause
answer_for sides meaning (fault.Damaged s at) is cause = one_meaning sides meaning (damaged s at) is cause
answer_for sides meaning fault.DiskFault is cause = cause
answer_for sides meaning fault.OutOfMemory is cause = cause
