-- What is left by a stop inside a call is as long or as short as an image may be, and its bytes are those of every image where they may not vary.
use Rattle.std.proofs.Common.{◌≡◌, ◌⊎◌, inl, inr, ⊎_elim, ℕ, ◌+◌, ◌-◌, ◌<◌, ◌≤◌, List, [], ◌∷◌, ◌++◌, length, take, drop, get_or, refl, sym, ◌∙◌, ap, subst, arith, rules, min}
use Rattle.std.specs.Prelude.{replicate, nat_le, Bool, true, false}
use Rattle.std.specs.Bool.{if◌then◌else◌}
use Rattle.std.proofs.lemmas.Bool.{cases_order}
use Rattle.std.proofs.lemmas.List.{places, get_or-replicate, length-replicate, get_or-take, get_or-drop, length-take, length-drop, length-append}
use Rattle.outside.specs.declared.side.Side.{Side}
use Rattle.outside.specs.declared.side.Side.TheVariants.{Left, Right}
use Rattle.outside.specs.Disk.{Sides, overwritten, Torn, TornCut, OnSide}
use Rattle.outside.specs.DiskCalls.{Call, nothing, wrote, tore, was_cut, tore_cut, synced, Images, contents, changed}
use Rattle.outside.specs.DiskStop.{torn, torn_cut, left_after, IsExtreme, IsFilled}

-- at least as long, or at most
abbrev IsBound : Bool → ℕ → ℕ → Type 0
IsBound true left rest = rest ≤ left
IsBound false left rest = left ≤ rest

-- one side that a stop leaves, beside any that it may leave
record IsBeside (fill : ℕ) (long : Bool) (left rest : List ℕ) : Type 0 where
  bound : IsBound long (length left) (length rest)
  same : (i : ℕ) → i < length left → i < length rest → (get_or left i 0 ≡ fill) ⊎ (get_or left i 0 ≡ get_or rest i 0)

below_or_not : (m n : ℕ) → (m < n) ⊎ (n ≤ m)
below_or_not m n = ⊎_elim (λ is. inr (omega (arith, is))) (λ rest. ⊎_elim (λ less. inl less) (λ more. inr (omega (arith, more))) rest) (cases_order m n)

-- equal fronts, and equal rests
in_front : (n : ℕ) (xs ys : List ℕ) → take n xs ≡ take n ys → (i : ℕ) → i < n → get_or xs i 0 ≡ get_or ys i 0
in_front n xs ys same i less = sym (get_or-take n xs i 0 less) ∙ ap (λ (l : List ℕ). get_or l i 0) same ∙ get_or-take n ys i 0 less

front_size : (n : ℕ) (xs ys : List ℕ) → take n xs ≡ take n ys → min n (length xs) ≡ min n (length ys)
front_size n xs ys same = sym (length-take n xs) ∙ ap (λ (l : List ℕ). length l) same ∙ length-take n ys

behind : (n : ℕ) (xs ys : List ℕ) → drop n xs ≡ drop n ys → (i : ℕ) → n ≤ i → get_or xs i 0 ≡ get_or ys i 0
behind n xs ys same i le =
    let at : n + (i - n) ≡ i = omega (arith, le) in
    ap (λ (k : ℕ). get_or xs k 0) (sym at) ∙ sym (get_or-drop n xs (i - n) 0) ∙ ap (λ (l : List ℕ). get_or l (i - n) 0) same ∙ get_or-drop n ys (i - n) 0 ∙ ap (λ (k : ℕ). get_or ys k 0) at

rest_size : (n : ℕ) (xs ys : List ℕ) → drop n xs ≡ drop n ys → length xs - n ≡ length ys - n
rest_size n xs ys same = sym (length-drop n xs) ∙ ap (λ (l : List ℕ). length l) same ∙ length-drop n ys

-- a byte that both sides had before
kept : (left left' rest rest' fill : ℕ) → left' ≡ left → rest' ≡ rest → (left ≡ fill) ⊎ (left ≡ rest) → (left' ≡ fill) ⊎ (left' ≡ rest')
kept left left' rest rest' fill is_left is_rest (inl is) = inl (is_left ∙ is)
kept left left' rest rest' fill is_left is_rest (inr is) = inr (is_left ∙ is ∙ sym is_rest)

size_overwritten : (fill at n : ℕ) (old : List ℕ) → length (overwritten at (replicate n fill) old) ≡ min at (length old) + n + (length old - (at + n))
size_overwritten fill at n old = grind (arith, places, length-replicate)

module _ (fill at n : ℕ) (left rest rest' : List ℕ) (step : Torn at n rest rest') where
  fronts : min at (length rest') ≡ min at (length rest)
  fronts = front_size at rest' rest step.before

  rests : length rest' - (at + n) ≡ length rest - (at + n)
  rests = rest_size (at + n) rest' rest step.after

  -- a byte of the overwritten side that stood there before, or is new
  byte : (now : List ℕ) → ((i : ℕ) → i < at → i < length left → get_or now i 0 ≡ get_or left i 0) → ((i : ℕ) → at ≤ i → i < at + n → i < length now → get_or now i 0 ≡ fill) → ((i : ℕ) → at + n ≤ i → get_or now i 0 ≡ get_or left i 0)
      → ((i : ℕ) → i < length now → (i < length left) ⊎ ((at ≤ i) × (i < at + n)))
      → ((i : ℕ) → i < length left → i < length rest → (get_or left i 0 ≡ fill) ⊎ (get_or left i 0 ≡ get_or rest i 0)) → (i : ℕ) → i < length now → i < length rest' → (get_or now i 0 ≡ fill) ⊎ (get_or now i 0 ≡ get_or rest' i 0)
  byte now low mid high within was i inside there = ⊎_elim front (λ past. ⊎_elim (λ less. inl (mid i past less inside)) (back past) (below_or_not i (at + n))) (below_or_not i at)
    where
      old : i < length left → (get_or now i 0 ≡ get_or left i 0) → (get_or rest' i 0 ≡ get_or rest i 0) → i < length rest → (get_or now i 0 ≡ fill) ⊎ (get_or now i 0 ≡ get_or rest' i 0)
      old in_left is_left is_rest in_rest = kept (get_or left i 0) (get_or now i 0) (get_or rest i 0) (get_or rest' i 0) fill is_left is_rest (was i in_left in_rest)

      front : i < at → (get_or now i 0 ≡ fill) ⊎ (get_or now i 0 ≡ get_or rest' i 0)
      front less = ⊎_elim (λ in_left. old in_left (low i less in_left) (in_front at rest' rest step.before i less) (omega (arith, less, there, fronts))) (λ no_more. absurd (omega (arith, less, no_more.0))) (within i inside)

      back : at ≤ i → at + n ≤ i → (get_or now i 0 ≡ fill) ⊎ (get_or now i 0 ≡ get_or rest' i 0)
      back past more = ⊎_elim (λ in_left. old in_left (high i more) (behind (at + n) rest' rest step.after i more) (omega (arith, more, there, rests))) (λ no_more. absurd (omega (arith, more, no_more.1))) (within i inside)

  grew : at ≤ length left → IsBeside fill true left rest → IsBeside fill true (overwritten at (replicate n fill) left) rest'
  grew below was = record {
    bound = omega (arith, size_overwritten fill at n left, below, was.bound, step.no_longer);
    same = byte (overwritten at (replicate n fill) left)
        (λ i less inside. grind (arith, places, length-replicate))
        (λ i past less inside. grind (arith, places, length-replicate, get_or-replicate))
        (λ i more. grind (arith, places, length-replicate))
        (λ i inside. ⊎_elim (λ less. inl less) (λ more. inr (omega (arith, inside, more, below, size_overwritten fill at n left))) (below_or_not i (length left)))
        was.same;
  }

  stayed : length left < at → IsBeside fill true left rest → IsBeside fill true left rest'
  stayed past was = record {
    bound = omega (arith, past, was.bound, step.no_longer, fronts);
    same = byte left (λ i less inside. refl) (λ i more less inside. absurd (omega (arith, past, more, inside))) (λ i more. refl) (λ i inside. inl inside) was.same;
  }

  did_not_grow : IsBeside fill false left rest → IsBeside fill false (take (length left) (overwritten at (replicate n fill) left)) rest'
  did_not_grow was = record {
    bound = omega (arith, was.bound, step.no_shorter, length-take (length left) (overwritten at (replicate n fill) left));
    same = byte (take (length left) (overwritten at (replicate n fill) left))
        (λ i less inside. grind (arith, places, length-replicate))
        (λ i past less inside. grind (arith, places, length-replicate, get_or-replicate))
        (λ i more. grind (arith, places, length-replicate))
        (λ i inside. inl (omega (arith, inside, length-take (length left) (overwritten at (replicate n fill) left))))
        was.same;
  }

  chosen_torn : (below : Bool) → nat_le at (length left) ≡ below → IsBeside fill true left rest → IsBeside fill true (if below then overwritten at (replicate n fill) left else left) rest'
  chosen_torn true is was = grew (grind (arith, is, rules)) was
  chosen_torn false is was = stayed (grind (arith, is, rules)) was

  beside_torn : (long : Bool) → IsBeside fill long left rest → IsBeside fill long (torn fill long at n left) rest'
  beside_torn true was = chosen_torn (nat_le at (length left)) refl was
  beside_torn false was = did_not_grow was

module _ (fill n : ℕ) (left rest rest' : List ℕ) (step : TornCut n rest rest') where
  cut_byte : (now : List ℕ) → ((i : ℕ) → i < n → i < length now → (i < length left) × (get_or now i 0 ≡ get_or left i 0)) → ((i : ℕ) → n ≤ i → i < length now → get_or now i 0 ≡ fill)
      → ((i : ℕ) → i < length left → i < length rest → (get_or left i 0 ≡ fill) ⊎ (get_or left i 0 ≡ get_or rest i 0)) → (i : ℕ) → i < length now → i < length rest' → (get_or now i 0 ≡ fill) ⊎ (get_or now i 0 ≡ get_or rest' i 0)
  cut_byte now low high was i inside there = ⊎_elim
      (λ less. kept (get_or left i 0) (get_or now i 0) (get_or rest i 0) (get_or rest' i 0) fill (low i less inside).1 (in_front n rest' rest step.before i less) (was i (low i less inside).0 (omega (arith, there, step.no_longer))))
      (λ more. inl (high i more inside)) (below_or_not i n)

  beside_cut : (long : Bool) → IsBeside fill long left rest → IsBeside fill long (torn_cut fill long n left) rest'
  beside_cut true was = record {
    bound = omega (arith, was.bound, step.no_longer, length-append (take n left) (replicate (length left - n) fill), length-take n left, length-replicate (length left - n) fill);
    same = cut_byte (take n left ++ replicate (length left - n) fill) (λ i less inside. (grind (arith, places, length-replicate), grind (arith, places, length-replicate))) (λ i more inside. grind (arith, places, length-replicate, get_or-replicate)) was.same;
  }
  beside_cut false was = record {
    bound = omega (arith, was.bound, step.no_shorter, length-take n left);
    same = cut_byte (take n left) (λ i less inside. (omega (arith, inside, length-take n left), get_or-take n left i 0 less)) (λ i more inside. absurd (omega (arith, more, inside, length-take n left))) was.same;
  }

same_beside : (fill : ℕ) (long : Bool) (xs ys : List ℕ) → ys ≡ xs → IsBeside fill long xs ys
same_beside fill true xs ys is = record { bound = omega (arith, ap (λ (l : List ℕ). length l) is); same = λ i inside there. inr (ap (λ (l : List ℕ). get_or l i 0) (sym is)) }
same_beside fill false xs ys is = record { bound = omega (arith, ap (λ (l : List ℕ). length l) is); same = λ i inside there. inr (ap (λ (l : List ℕ). get_or l i 0) (sym is)) }

abbrev is_left : Side → Type 0
is_left Left = Unit {0}
is_left Right = ⊥

apart : Left ≡ Right → ⊥
apart same = subst is_left same tt

-- the side of the call changes, and the other one does not
on_each : (fill : ℕ) (long : Bool) (side : Side) (g : List ℕ → List ℕ) (step : List ℕ → List ℕ → Type 0) (left was c : Sides) → OnSide side step was c
    → (IsBeside fill long (left side) (was side) → IsBeside fill long (g (left side)) (c side)) → ((rest : Side) → IsBeside fill long (left rest) (was rest)) → (rest : Side) → IsBeside fill long (changed side g left rest) (c rest)
on_each fill long Left g step left was c on goes all Left = goes (all Left)
on_each fill long Left g step left was c on goes all Right = subst (λ l. IsBeside fill long (left Right) l) (sym (on.stays Right (λ same. apart (sym same)))) (all Right)
on_each fill long Right g step left was c on goes all Left = subst (λ l. IsBeside fill long (left Left) l) (sym (on.stays Left (λ same. apart same))) (all Left)
on_each fill long Right g step left was c on goes all Right = goes (all Right)

synced_side : (fill : ℕ) (long : Bool) (side : Side) (bytes left was c : Sides) → c ≡ was → was side ≡ bytes side → ((rest : Side) → IsBeside fill long (left rest) (was rest)) → (rest : Side) → IsBeside fill long (changed side (λ _. bytes side) left rest) (c rest)
synced_side fill long Left bytes left was c is here all Left = same_beside fill long (bytes Left) (c Left) (ap (λ (d : Sides). d Left) is ∙ here)
synced_side fill long Left bytes left was c is here all Right = subst (λ (d : Sides). IsBeside fill long (left Right) (d Right)) (sym is) (all Right)
synced_side fill long Right bytes left was c is here all Left = subst (λ (d : Sides). IsBeside fill long (left Left) (d Left)) (sym is) (all Left)
synced_side fill long Right bytes left was c is here all Right = same_beside fill long (bytes Right) (c Right) (ap (λ (d : Sides). d Right) is ∙ here)

-- beside each image
beside : (fill : ℕ) (long : Bool) (first : Sides) (calls : List Call) (c : Sides) → Images first calls c → (side : Side) → IsBeside fill long (left_after fill long first calls side) (c side)
beside fill long first [] c is side = same_beside fill long (first side) (c side) (ap (λ (d : Sides). d side) is)
beside fill long first (nothing ∷ calls) c now side = subst (λ (d : Sides). IsBeside fill long (left_after fill long first calls side) (d side)) (sym now.2) (beside fill long first calls now.0 now.1 side)
beside fill long first (wrote on at bytes ∷ calls) c now side =
    let left = left_after fill long first calls in
    on_each fill long on (torn fill long at (length bytes)) (Torn at (length bytes)) left now.0 c now.2 (beside_torn fill at (length bytes) (left on) (now.0 on) (c on) now.2.steps long) (beside fill long first calls now.0 now.1) side
beside fill long first (tore on at n ∷ calls) c now side =
    let left = left_after fill long first calls in
    on_each fill long on (torn fill long at n) (Torn at n) left now.0 c now.2 (beside_torn fill at n (left on) (now.0 on) (c on) now.2.steps long) (beside fill long first calls now.0 now.1) side
beside fill long first (was_cut on n ∷ calls) c now side =
    let left = left_after fill long first calls in
    on_each fill long on (torn_cut fill long n) (TornCut n) left now.0 c now.2 (beside_cut fill n (left on) (now.0 on) (c on) now.2.steps long) (beside fill long first calls now.0 now.1) side
beside fill long first (tore_cut on n ∷ calls) c now side =
    let left = left_after fill long first calls in
    on_each fill long on (torn_cut fill long n) (TornCut n) left now.0 c now.2 (beside_cut fill n (left on) (now.0 on) (c on) now.2.steps long) (beside fill long first calls now.0 now.1) side
beside fill long first (synced on ∷ calls) c now side =
    synced_side fill long on (contents first calls) (left_after fill long first calls) now.0 c now.2.0 now.2.1 (beside fill long first calls now.0 now.1) side

pub extreme : (fill : ℕ) (long : Bool) (first : Sides) (calls : List Call) → IsExtreme long (Images first calls) (left_after fill long first calls)
extreme fill true first calls = λ c now side. (beside fill true first calls c now side).bound
extreme fill false first calls = λ c now side. (beside fill false first calls c now side).bound

pub filled_everywhere : (fill : ℕ) (long : Bool) (first : Sides) (calls : List Call) → IsFilled fill (Images first calls) (left_after fill long first calls)
filled_everywhere fill long first calls = λ c now side i inside there. (beside fill long first calls c now side).same i inside there
