-- What is left by a stop inside a call is an image.
use Rattle.std.proofs.Common.{◌≡◌, ◌⊎◌, inl, inr, zero, suc, ℕ, ◌+◌, ◌-◌, ◌<◌, ◌≤◌, List, [], ◌∷◌, length, take, drop, refl, sym, subst, arith, rules, IsTrue}
use Rattle.std.specs.Prelude.{replicate, nat_le, Bool, true, false}
use Rattle.std.specs.Bool.{if◌then◌else◌}
use Rattle.std.proofs.lemmas.Bool.{cases_order}
use Rattle.std.proofs.lemmas.List.{places, same_lists, get_or-replicate, length-replicate}
use Rattle.outside.specs.declared.side.Side.{Side}
use Rattle.outside.specs.declared.side.Side.TheVariants.{Left, Right}
use Rattle.outside.specs.Disk.{Sides, overwritten, Torn, TornCut, OnSide}
use Rattle.outside.specs.DiskCalls.{Call, nothing, wrote, tore, was_cut, tore_cut, synced, Images, Since, by_side, contents, changed}
use Rattle.outside.specs.Private.{are_possible}
use Rattle.outside.proofs.Extremes.{extreme, filled_everywhere}
use Rattle.outside.specs.DiskStop.{IsExtreme, IsFilled, torn, torn_cut, left_after, begun, unsynced}
use Rattle.outside.specs.DiskLaws.{counts_now}
use Rattle.outside.proofs.Reading.{torn_done, torn_same, cut_done, cut_same, both_true}

-- some sides as one has them, and the others as another has them
abbrev mixed : (Side → Bool) → Sides → Sides → Sides
mixed which bytes left side = if which side then bytes side else left side

-- this side too
abbrev also : Side → (Side → Bool) → Side → Bool
also Left which Left = true
also Left which Right = which Right
also Right which Left = which Left
also Right which Right = true

either : {X : Type 0} (b : Bool) (x : X) → (if b then x else x) ≡ x
either true x = refl
either false x = refl

-- a step of one side, whichever of two it is taken from
each_step : (b : Bool) (step : List ℕ → List ℕ → Type 0) (was now was' now' : List ℕ) → step was now → step was' now' → step (if b then was else was') (if b then now else now')
each_step true step was now was' now' done rest = done
each_step false step was now was' now' done rest = rest

stepped : (side : Side) (f g : List ℕ → List ℕ) (step : List ℕ → List ℕ → Type 0) (which : Side → Bool) (bytes left : Sides)
    → step (bytes side) (f (bytes side)) → step (left side) (g (left side)) → OnSide side step (mixed which bytes left) (mixed which (changed side f bytes) (changed side g left))
stepped Left f g step which bytes left done rest = record { steps = each_step (which Left) step (bytes Left) (f (bytes Left)) (left Left) (g (left Left)) done rest; stays = elim [ Left ↦ λ same. absurd (same refl) | Right ↦ λ same. refl ] }
stepped Right f g step which bytes left done rest = record { steps = each_step (which Right) step (bytes Right) (f (bytes Right)) (left Right) (g (left Right)) done rest; stays = elim [ Left ↦ λ same. refl | Right ↦ λ same. absurd (same refl) ] }

-- the same where reads give what they gave
stepped_still : (side : Side) (g : List ℕ → List ℕ) (step : List ℕ → List ℕ → Type 0) (which : Side → Bool) (bytes left : Sides)
    → step (bytes side) (bytes side) → step (left side) (g (left side)) → OnSide side step (mixed which bytes left) (mixed which bytes (changed side g left))
stepped_still Left g step which bytes left done rest = record { steps = each_step (which Left) step (bytes Left) (bytes Left) (left Left) (g (left Left)) done rest; stays = elim [ Left ↦ λ same. absurd (same refl) | Right ↦ λ same. refl ] }
stepped_still Right g step which bytes left done rest = record { steps = each_step (which Right) step (bytes Right) (bytes Right) (left Right) (g (left Right)) done rest; stays = elim [ Left ↦ λ same. refl | Right ↦ λ same. absurd (same refl) ] }

-- a side that is as reads give it needs no change by a sync
settled_at : (side : Side) (which : Side → Bool) (bytes left : Sides) (rest : Side) → mixed which bytes (changed side (λ _. bytes side) left) rest ≡ mixed (also side which) bytes left rest
settled_at Left which bytes left Left = either (which Left) (bytes Left)
settled_at Left which bytes left Right = refl
settled_at Right which bytes left Left = refl
settled_at Right which bytes left Right = either (which Right) (bytes Right)

settled : (side : Side) (which : Side → Bool) (bytes left : Sides) → mixed which bytes (changed side (λ _. bytes side) left) ≡ mixed (also side which) bytes left
settled side which bytes left = λ i rest. settled_at side which bytes left rest i

here : (side : Side) (which : Side → Bool) (bytes left : Sides) → mixed (also side which) bytes left side ≡ bytes side
here Left which bytes left = refl
here Right which bytes left = refl

grown_is_torn : (fill at n : ℕ) (old : List ℕ) (below : Bool) → nat_le at (length old) ≡ below → Torn at n old (if below then overwritten at (replicate n fill) old else old)
grown_is_torn fill at n old true is = subst (λ k. Torn at k old (overwritten at (replicate n fill) old)) (length-replicate n fill) (torn_done at (replicate n fill) old (grind (arith, is, rules)))
grown_is_torn fill at n old false is = torn_same at n old

torn_is_torn : (fill : ℕ) (long : Bool) (at n : ℕ) (old : List ℕ) → Torn at n old (torn fill long at n old)
torn_is_torn fill true at n old = grown_is_torn fill at n old (nat_le at (length old)) refl
torn_is_torn fill false at n old = record {
  before = same_lists _ _ (grind (arith, places, length-replicate)) (λ k d h. grind (arith, places, length-replicate, get_or-replicate));
  after = same_lists _ _ (grind (arith, places, length-replicate)) (λ k d h. grind (arith, places, length-replicate, get_or-replicate));
  no_shorter = grind (arith, places, length-replicate);
  no_longer = grind (arith, places, length-replicate);
}

cut_is_torn : (fill : ℕ) (long : Bool) (n : ℕ) (old : List ℕ) → TornCut n old (torn_cut fill long n old)
cut_is_torn fill true n old = record {
  before = same_lists _ _ (grind (arith, places, length-replicate)) (λ k d h. grind (arith, places, length-replicate, get_or-replicate));
  no_shorter = grind (arith, places, length-replicate);
  no_longer = grind (arith, places, length-replicate);
}
cut_is_torn fill false n old = cut_done n old

-- each side may be as reads give it, or as the stop leaves it
mixed_image : (fill : ℕ) (long : Bool) (first : Sides) (calls : List Call) → IsTrue (are_possible first calls) → (which : Side → Bool) → Images first calls (mixed which (contents first calls) (left_after fill long first calls))
mixed_image fill long first [] ok which = λ i side. either (which side) (first side) i
mixed_image fill long first (nothing ∷ calls) ok which = (mixed which (contents first calls) (left_after fill long first calls), mixed_image fill long first calls ok which, refl)
mixed_image fill long first (wrote side at bytes ∷ calls) ok which =
    let parts = both_true at (length (contents first calls side)) (are_possible first calls) ok in
    let now = contents first calls in let left = left_after fill long first calls in
    (mixed which now left, mixed_image fill long first calls parts.1 which, stepped side (overwritten at bytes) (torn fill long at (length bytes)) (Torn at (length bytes)) which now left (torn_done at bytes (now side) parts.0) (torn_is_torn fill long at (length bytes) (left side)))
mixed_image fill long first (tore side at n ∷ calls) ok which =
    let now = contents first calls in let left = left_after fill long first calls in
    (mixed which now left, mixed_image fill long first calls ok which, stepped_still side (torn fill long at n) (Torn at n) which now left (torn_same at n (now side)) (torn_is_torn fill long at n (left side)))
mixed_image fill long first (was_cut side n ∷ calls) ok which =
    let parts = both_true n (length (contents first calls side)) (are_possible first calls) ok in
    let now = contents first calls in let left = left_after fill long first calls in
    (mixed which now left, mixed_image fill long first calls parts.1 which, stepped side (take n) (torn_cut fill long n) (TornCut n) which now left (cut_done n (now side)) (cut_is_torn fill long n (left side)))
mixed_image fill long first (tore_cut side n ∷ calls) ok which =
    let now = contents first calls in let left = left_after fill long first calls in
    (mixed which now left, mixed_image fill long first calls ok which, stepped_still side (torn_cut fill long n) (TornCut n) which now left (cut_same n (now side)) (cut_is_torn fill long n (left side)))
mixed_image fill long first (synced side ∷ calls) ok which =
    let now = contents first calls in let left = left_after fill long first calls in
    (mixed (also side which) now left, mixed_image fill long first calls ok (also side which), (settled side which now left, here side which now left))

pub left_image : (fill : ℕ) (long : Bool) (first : Sides) (calls : List Call) → IsTrue (are_possible first calls) → Images first calls (left_after fill long first calls)
left_image fill long first calls ok = mixed_image fill long first calls ok (λ _. false)

-- earlier calls were possible too
earlier : (first : Sides) (call : Call) (calls : List Call) → IsTrue (are_possible first (call ∷ calls)) → IsTrue (are_possible first calls)
earlier first nothing calls ok = ok
earlier first (wrote side at bytes) calls ok = (both_true at (length (contents first calls side)) (are_possible first calls) ok).1
earlier first (tore side at n) calls ok = ok
earlier first (was_cut side n) calls ok = (both_true n (length (contents first calls side)) (are_possible first calls) ok).1
earlier first (tore_cut side n) calls ok = ok
earlier first (synced side) calls ok = ok

dropped : (first : Sides) (n : ℕ) (calls : List Call) → IsTrue (are_possible first calls) → IsTrue (are_possible first (drop n calls))
dropped first zero calls ok = ok
dropped first (suc n) [] ok = ok
dropped first (suc n) (call ∷ calls) ok = dropped first n calls (earlier first call calls ok)

unsynced_possible : (first : Sides) (calls : List Call) → IsTrue (are_possible first calls) → IsTrue (are_possible first (unsynced calls))
unsynced_possible first [] ok = ok
unsynced_possible first (nothing ∷ calls) ok = ok
unsynced_possible first (wrote side at bytes ∷ calls) ok = ok
unsynced_possible first (tore side at n ∷ calls) ok = ok
unsynced_possible first (was_cut side n ∷ calls) ok = ok
unsynced_possible first (tore_cut side n ∷ calls) ok = ok
unsynced_possible first (synced side ∷ calls) ok = ok

chosen_possible : (first : Sides) (b : Bool) (xs ys : List Call) → IsTrue (are_possible first xs) → IsTrue (are_possible first ys) → IsTrue (are_possible first (if b then xs else ys))
chosen_possible first true xs ys some rest = some
chosen_possible first false xs ys some rest = rest

pub begun_possible : (first : Sides) (number : ℕ) (calls : List Call) → IsTrue (are_possible first calls) → IsTrue (are_possible first (begun number calls))
begun_possible first number calls ok = chosen_possible first (nat_le number (length calls)) (unsynced (drop (length calls - number) calls)) calls (unsynced_possible first (drop (length calls - number) calls) (dropped first (length calls - number) calls ok)) ok

-- what a stop inside the last call leaves is left since before it
since_last : (first : Sides) (call : Call) (calls : List Call) (t : ℕ) (c : Sides) → t ≤ length calls → Images first (unsynced (call ∷ calls)) c → Since first (call ∷ calls) t c
since_last first nothing calls t c le now = inl now
since_last first (wrote side at bytes) calls t c le now = inl now
since_last first (tore side at n) calls t c le now = inl now
since_last first (was_cut side n) calls t c le now = inl now
since_last first (tore_cut side n) calls t c le now = inl now
since_last first (synced side) calls t c le now = inr (le, counts_now first calls t c now)

-- the calls before that stop, by the place of the call among those kept
since_place : (first : Sides) (number : ℕ) (call : Call) (calls : List Call) (t : ℕ) (c : Sides) → t < number → number ≤ length calls + 1 → Images first (unsynced (drop (length (call ∷ calls) - number) (call ∷ calls))) c
    → (number ≤ length calls → Images first (unsynced (drop (length calls - number) calls)) c → Since first calls t c) → (number ≡ length calls + 1) ⊎ ((number < length calls + 1) ⊎ (length calls + 1 < number)) → Since first (call ∷ calls) t c
since_place first number call calls t c before le now past (inl is) =
    let none : length (call ∷ calls) - number ≡ 0 = omega (arith, is) in
    since_last first call calls t c (omega (arith, before, is)) (subst (λ k. Images first (unsynced (drop k (call ∷ calls))) c) none now)
since_place first number call calls t c before le now past (inr (inl less)) =
    let one_more : length (call ∷ calls) - number ≡ suc (length calls - number) = omega (arith, less) in
    inr (omega (arith, before, less), past (omega (arith, less)) (subst (λ k. Images first (unsynced (drop k (call ∷ calls))) c) one_more now))
since_place first number call calls t c before le now past (inr (inr more)) = absurd (omega (arith, more, le))

since_inside : (first : Sides) (number : ℕ) (calls : List Call) (t : ℕ) (c : Sides) → t < number → number ≤ length calls → Images first (unsynced (drop (length calls - number) calls)) c → Since first calls t c
since_inside first number [] t c before le now = absurd (omega (arith, before, le))
since_inside first number (call ∷ calls) t c before le now =
    since_place first number call calls t c before (omega (arith, le)) now (λ less rest. since_inside first number calls t c before less rest) (cases_order number (length calls + 1))

since_chosen : (first : Sides) (number : ℕ) (calls : List Call) (t : ℕ) (c : Sides) (b : Bool) → t < number → nat_le number (length calls) ≡ b → Images first (if b then unsynced (drop (length calls - number) calls) else calls) c → Since first calls t c
since_chosen first number calls t c true before is now = since_inside first number calls t c before (grind (is, arith, rules)) now
since_chosen first number calls t c false before is now = counts_now first calls t c now

-- what a stop inside a call leaves is left since before it
pub since_begun : (first : Sides) (number : ℕ) (calls : List Call) (t : ℕ) (c : Sides) → t < number → Images first (begun number calls) c → Since first calls t c
since_begun first number calls t c before now = since_chosen first number calls t c (nat_le number (length calls)) before refl now

-- sides that are given one by one
each_side : (c : Sides) (left right : List ℕ) → left ≡ c Left → right ≡ c Right → (side : Side) → c side ≡ by_side left right side
each_side c left right is_left is_right Left = sym is_left
each_side c left right is_left is_right Right = sym is_right

by_sides : (c : Sides) (left right : List ℕ) → left ≡ c Left → right ≡ c Right → c ≡ by_side left right
by_sides c left right is_left is_right = λ i side. each_side c left right is_left is_right side i

-- both sides as a stop inside the call of this number leaves them
module _ (fill : ℕ) (long : Bool) (first : Sides) (calls : List Call) (number : ℕ) (left right : List ℕ) (ok : IsTrue (are_possible first calls))
    (is_left : left ≡ left_after fill long first (begun number calls) Left) (is_right : right ≡ left_after fill long first (begun number calls) Right) where
  pub image_of : Images first (begun number calls) (by_side left right)
  image_of = subst (λ (c : Sides). Images first (begun number calls) c) (by_sides (left_after fill long first (begun number calls)) left right is_left is_right)
      (left_image fill long first (begun number calls) (begun_possible first number calls ok))

  pub moment_of : (t : ℕ) → t < number → Since first calls t (by_side left right)
  moment_of t before = since_begun first number calls t (by_side left right) before image_of

  pub extreme_of : IsExtreme long (Images first (begun number calls)) (by_side left right)
  extreme_of = subst (λ (c : Sides). IsExtreme long (Images first (begun number calls)) c) (by_sides (left_after fill long first (begun number calls)) left right is_left is_right) (extreme fill long first (begun number calls))

  pub filled_of : IsFilled fill (Images first (begun number calls)) (by_side left right)
  filled_of = subst (λ (c : Sides). IsFilled fill (Images first (begun number calls)) c) (by_sides (left_after fill long first (begun number calls)) left right is_left is_right) (filled_everywhere fill long first (begun number calls))
