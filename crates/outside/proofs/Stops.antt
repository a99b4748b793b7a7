-- The calls that a disk in memory kept, made again: what a stop leaves.
use Rattle.std.proofs.Common.{◌≡◌, ℕ, ◌+◌, ◌-◌, ◌<◌, ◌≤◌, List, [], ◌∷◌, ◌++◌, length, take, drop, refl, sym, ◌∙◌, ap, subst, arith, rules, min, map, reverse, get_or, length-drop}
use Rattle.std.specs.Prelude.{nat_le, replicate, max, Bool, true, false, Result, OnOk, is_ok}
use Rattle.std.specs.Bool.{if◌then◌else◌}
use Rattle.std.specs.declared.result.Result.TheVariants.{Ok, Err}
use Rattle.std.proofs.lemmas.List.{places, same_lists, get_or-replicate, length-replicate, length-take, take_at, take_more, take-append-drop, drop_at, map-append, reverse-append, length-reverse, length-map}
use borrow.Rule.Slice.PartMut.{put_mid}
use Rattle.outside.specs.Disk.{overwritten}
use Rattle.outside.specs.DiskCalls.{Call, seen}
use Rattle.outside.specs.declared.side.Side.{Side}
use Rattle.outside.specs.declared.entry.Entry.{Entry}
use Rattle.outside.specs.declared.entry.Entry.TheVariants.{Nothing, Wrote, Tore, Cut, ToreCut, Synced}
use Rattle.outside.specs.DiskStop.{torn, begun, unsynced}

-- a choice by a test of two numbers
pub chosen : {X : Type 0} (m n : ℕ) (x y : X) → m ≤ n → (if nat_le m n then x else y) ≡ x
chosen m n x y le = ap (λ (b : Bool). if b then x else y) yes
  where
    yes : nat_le m n ≡ true
    yes = search (le, rules)

pub refused : {X : Type 0} (m n : ℕ) (x y : X) → n < m → (if nat_le m n then x else y) ≡ y
refused m n x y more = ap (λ (b : Bool). if b then x else y) no_more
  where
    no_more : nat_le m n ≡ false
    no_more = grind (more, arith, rules)

-- a range of a list filled as far as it lies inside
pub filled : (at count fill : ℕ) (old now : List ℕ) (start n : ℕ) → start ≡ min at (length old) → n ≡ min count (length old - start) → now ≡ replicate n fill
    → put_mid start n old now ≡ take (length old) (overwritten at (replicate count fill) old)
filled at count fill old now start n began size is = same_lists _ _ (grind (arith, places, length-replicate)) (λ k d h. grind (arith, places, length-replicate, get_or-replicate))

-- the same, and the list grown by what lies past its end
pub grown : {T E : Type 0} (result : Result T E) (at count fill : ℕ) (long : Bool) (old now new : List ℕ) (size end n : ℕ) → long ≡ true → at ≤ length old → size ≡ length old → now ≡ take (length old) (overwritten at (replicate count fill) old)
    → end ≡ at + count → n ≡ max (length old) end → new ≡ (if is_ok result then take n (take size (now ++ drop (length now) old)) ++ replicate (n - size) fill else take size (now ++ drop (length now) old)) → OnOk result (new ≡ torn fill long at count old)
grown (Err error) at count fill long old now new size end n is_long below sized inside ends most is = search rules
grown {E = E} (Ok value) at count fill long old now new size end n is_long below sized inside ends most is =
    subst (λ b. OnOk {E = E} (Ok value) (new ≡ torn fill b at count old)) (sym is_long) (search (whole, rules))
  where
    sizes : length old ≤ length (overwritten at (replicate count fill) old)
    sizes = grind (arith, places, length-replicate)

    cut : length now ≡ length old
    cut = ap (λ (l : List ℕ). length l) inside ∙ omega (arith, length-take (length old) (overwritten at (replicate count fill) old), sizes)

    taken : take size (now ++ drop (length now) old) ≡ now
    taken = take_at now (drop (length now) old) size (cut ∙ sym sized)

    filling : new ≡ take n now ++ replicate (n - size) fill
    filling = is ∙ ap (λ (l : List ℕ). take n l ++ replicate (n - size) fill) taken

    written : new ≡ overwritten at (replicate count fill) old
    written = same_lists _ _ (grind (arith, places, length-replicate)) (λ k d h. grind (arith, places, length-replicate, get_or-replicate))

    whole : new ≡ torn fill true at count old
    whole = written ∙ sym (chosen at (length old) (overwritten at (replicate count fill) old) old below)

-- a write past the end leaves nothing
pub past_the_end : (at count fill : ℕ) (long : Bool) (old : List ℕ) → length old < at → old ≡ torn fill long at count old
past_the_end at count fill true old past = sym (refused at (length old) (overwritten at (replicate count fill) old) old past)
past_the_end at count fill false old past = same_lists _ _ (grind (arith, places, length-replicate)) (λ k d h. grind (arith, places, length-replicate, get_or-replicate))

module _ {X : Type 0} (f : X → Call) (xs : List X) where
  -- one more call
  pub last_of : (n : ℕ) (d : X) → n < length xs → reverse (map f (take (n + 1) xs)) ≡ f (get_or xs n d) ∷ reverse (map f (take n xs))
  last_of n d more =
      ap (λ (l : List X). reverse (map f l)) (take_more xs n d more)
      ∙ ap (λ (l : List Call). reverse l) (map-append f (take n xs) (get_or xs n d ∷ []))
      ∙ reverse-append (map f (take n xs)) (f (get_or xs n d) ∷ [])

  -- the first so many calls
  first_of_all : (n : ℕ) → n ≤ length xs → drop (length (reverse (map f xs)) - n) (reverse (map f xs)) ≡ reverse (map f (take n xs))
  first_of_all n le =
      ap (λ (l : List Call). drop (length (reverse (map f xs)) - n) l) split
      ∙ drop_at (reverse (map f (drop n xs))) (reverse (map f (take n xs))) _ (omega (arith, le, length-reverse (map f xs), length-reverse (map f (drop n xs)), length-map xs f, length-map (drop n xs) f, length-drop n xs))
    where
      split : reverse (map f xs) ≡ reverse (map f (drop n xs)) ++ reverse (map f (take n xs))
      split = ap (λ (l : List X). reverse (map f l)) (sym (take-append-drop n xs)) ∙ ap (λ (l : List Call). reverse l) (map-append f (take n xs) (drop n xs)) ∙ reverse-append (map f (take n xs)) (map f (drop n xs))

  pub begins : (n : ℕ) → n ≤ length xs → begun n (reverse (map f xs)) ≡ unsynced (reverse (map f (take n xs)))
  begins n le =
      ap (λ (b : Bool). if b then unsynced (drop (length (reverse (map f xs)) - n) (reverse (map f xs))) else reverse (map f xs)) kept
      ∙ ap (λ (l : List Call). unsynced l) (first_of_all n le)
    where
      size : n ≤ length (reverse (map f xs))
      size = omega (arith, le, length-reverse (map f xs), length-map xs f)

      kept : nat_le n (length (reverse (map f xs))) ≡ true
      kept = search (size, rules)

-- a call that is no sync
stays : (written : List ℕ) (entry : Entry) (calls : List Call) → ((side : Side) → entry ≡ Synced side → ⊥) → unsynced (seen written entry ∷ calls) ≡ seen written entry ∷ calls
stays written Nothing calls other = refl
stays written (Wrote side at from count) calls other = refl
stays written (Tore side at count) calls other = refl
stays written (Cut side len) calls other = refl
stays written (ToreCut side len) calls other = refl
stays written (Synced side) calls other = absurd (other side refl)

-- the calls before a stop inside the last of the first n, with that one or without it
module _ (written : List ℕ) (entries : List Entry) (n : ℕ) (entry : Entry) (some : 0 < n) (inside : n ≤ length entries) (is : entry ≡ get_or entries (n - 1) entry) where
  last : unsynced (reverse (map (seen written) (take n entries))) ≡ unsynced (seen written entry ∷ reverse (map (seen written) (take (n - 1) entries)))
  last =
      let size : n ≡ n - 1 + 1 = omega (arith, some) in
      ap (λ (m : ℕ). unsynced (reverse (map (seen written) (take m entries)))) size
      ∙ ap (λ (l : List Call). unsynced l) (last_of (seen written) entries (n - 1) entry (omega (arith, some, inside)))
      ∙ ap (λ (e : Entry). unsynced (seen written e ∷ reverse (map (seen written) (take (n - 1) entries)))) (sym is)

  pub without_sync : (side : Side) → entry ≡ Synced side → reverse (map (seen written) (take (n - 1) entries)) ≡ begun n (reverse (map (seen written) entries))
  without_sync side sync = sym (begins (seen written) entries n inside ∙ last ∙ ap (λ (e : Entry). unsynced (seen written e ∷ reverse (map (seen written) (take (n - 1) entries)))) sync)

  pub with_call : ((side : Side) → entry ≡ Synced side → ⊥) → reverse (map (seen written) (take n entries)) ≡ begun n (reverse (map (seen written) entries))
  with_call other =
      let size : n ≡ n - 1 + 1 = omega (arith, some) in
      sym (begins (seen written) entries n inside ∙ last ∙ stays written entry (reverse (map (seen written) (take (n - 1) entries))) other
      ∙ ap (λ (e : Entry). seen written e ∷ reverse (map (seen written) (take (n - 1) entries))) is
      ∙ sym (last_of (seen written) entries (n - 1) entry (omega (arith, some, inside)))
      ∙ ap (λ (m : ℕ). reverse (map (seen written) (take m entries))) (sym size))

pub no_call : (written : List ℕ) (entries : List Entry) (n : ℕ) → n ≡ 0 → reverse (map (seen written) (take n entries)) ≡ begun n (reverse (map (seen written) entries))
no_call written entries n none = subst (λ m. reverse (map (seen written) (take m entries)) ≡ begun m (reverse (map (seen written) entries))) (sym none) (sym (begins (seen written) entries 0 (omega arith)))
