-- What reads give from a disk in memory is an image.
use Rattle.std.proofs.Common.{◌≡◌, ◌⊎◌, inl, inr, ⊎_elim, ℕ, ◌+◌, ◌-◌, ◌<◌, ◌≤◌, List, [], ◌∷◌, ◌++◌, length, take, drop, refl, sym, ◌∙◌, ap, subst, arith, rules, IsTrue, length-drop, length-append, append_assoc}
use Rattle.std.proofs.lemmas.List.{take_at, drop_at, take-take, length-take, length-take-le}
use Rattle.std.specs.Prelude.{Bool, true, false, nat_le, nat_lt, ◌&&◌}
use Rattle.std.specs.Bool.{if◌then◌else◌}
use Rattle.std.specs.declared.result.Result.TheVariants.{Ok, Err}
use Rattle.outside.specs.Disk.{Sides, overwritten, Torn, TornCut, OnSide, ReadsSide, Leaves, SameImages, Syncs, Elapses}
use Rattle.outside.specs.DiskCalls.{Call, nothing, wrote, tore, was_cut, tore_cut, synced, Images, Since, contents, changed, noted}
use Rattle.outside.specs.Private.{are_possible, IsStill}
use Rattle.outside.specs.declared.side.Side.{Side}
use Rattle.outside.proofs.Kept.{elapses, elapses_same}
use Rattle.outside.specs.declared.side.Side.TheVariants.{Left, Right}

pub torn_done : (at : ℕ) (bytes old : List ℕ) → at ≤ length old → Torn at (length bytes) old (overwritten at bytes old)
torn_done at bytes old inside = record {
  before = take_at (take at old) (bytes ++ drop (at + length bytes) old) at short;
  after =
      ap (λ (l : List ℕ). drop (at + length bytes) l) (sym (append_assoc (take at old) bytes (drop (at + length bytes) old)))
      ∙ drop_at (take at old ++ bytes) (drop (at + length bytes) old) (at + length bytes) (omega (arith, short, length-append (take at old) bytes));
  no_shorter = omega (arith, size, inside);
  no_longer = omega (arith, size, inside);
}
  where
    short : length (take at old) ≡ at
    short = length-take-le at old inside

    size : length (overwritten at bytes old) ≡ at + (length bytes + (length old - (at + length bytes)))
    size = omega (arith, short, length-append (take at old) (bytes ++ drop (at + length bytes) old), length-append bytes (drop (at + length bytes) old), length-drop (at + length bytes) old)

pub torn_same : (at n : ℕ) (old : List ℕ) → Torn at n old old
torn_same at n old = record { before = refl; after = refl; no_shorter = omega arith; no_longer = omega arith }

pub cut_done : (n : ℕ) (old : List ℕ) → TornCut n old (take n old)
cut_done n old = record { before = take-take n n old (omega arith); no_shorter = omega (arith, length-take n old); no_longer = omega (arith, length-take n old) }

pub cut_same : (n : ℕ) (old : List ℕ) → TornCut n old old
cut_same n old = record { before = refl; no_shorter = omega arith; no_longer = omega arith }

on_side : (side : Side) (f : List ℕ → List ℕ) (step : List ℕ → List ℕ → Type 0) (sides : Sides) → step (sides side) (f (sides side)) → OnSide side step sides (changed side f sides)
on_side Left f step sides done = record { steps = done; stays = elim [ Left ↦ λ no. absurd (no refl) | Right ↦ λ no. refl ] }
on_side Right f step sides done = record { steps = done; stays = elim [ Left ↦ λ no. refl | Right ↦ λ no. absurd (no refl) ] }

unmoved : (side : Side) (step : List ℕ → List ℕ → Type 0) (sides : Sides) → step (sides side) (sides side) → OnSide side step sides sides
unmoved side step sides same = record { steps = same; stays = λ rest no. refl }

pub both_true : (m n : ℕ) (b : Bool) → IsTrue (nat_le m n && b) → (m ≤ n) × IsTrue b
both_true m n b is = grind (arith, rules)

pub and_true : (m n : ℕ) (b : Bool) → m ≤ n → IsTrue b → IsTrue (nat_le m n && b)
and_true m n b le is = search rules

pub reads_image : (first : Sides) (calls : List Call) → IsTrue (are_possible first calls) → Images first calls (contents first calls)
reads_image first [] ok = refl
reads_image first (nothing ∷ calls) ok = (contents first calls, reads_image first calls ok, refl)
reads_image first (wrote side at bytes ∷ calls) ok =
    let parts = both_true at (length (contents first calls side)) (are_possible first calls) ok in
    (contents first calls, reads_image first calls parts.1, on_side side (overwritten at bytes) (Torn at (length bytes)) (contents first calls) (torn_done at bytes (contents first calls side) parts.0))
reads_image first (tore side at count ∷ calls) ok = (contents first calls, reads_image first calls ok, unmoved side (Torn at count) (contents first calls) (torn_same at count (contents first calls side)))
reads_image first (was_cut side len ∷ calls) ok =
    let parts = both_true len (length (contents first calls side)) (are_possible first calls) ok in
    (contents first calls, reads_image first calls parts.1, on_side side (take len) (TornCut len) (contents first calls) (cut_done len (contents first calls side)))
reads_image first (tore_cut side len ∷ calls) ok = (contents first calls, reads_image first calls ok, unmoved side (TornCut len) (contents first calls) (cut_same len (contents first calls side)))
reads_image first (synced side ∷ calls) ok = (contents first calls, reads_image first calls ok, (refl, refl))

-- a call that is kept if there is room
kept_if : (b : Bool) (call : Call) (old new : List Call) → new ≡ (if b then call ∷ old else old) → (new ≡ call ∷ old) ⊎ (new ≡ old)
kept_if true call old new is = inl is
kept_if false call old new is = inr is

pub kept_or_not : (limit : ℕ) (call : Call) (old new : List Call) → new ≡ noted limit call old → (new ≡ call ∷ old) ⊎ (new ≡ old)
kept_or_not limit call old new is = kept_if (nat_lt (length old) limit) call old new is

still_contents : (first : Sides) (call : Call) (calls : List Call) → IsStill call → contents first (call ∷ calls) ≡ contents first calls
still_contents first nothing calls still = refl
still_contents first (wrote side at bytes) calls still = absurd still
still_contents first (tore side at n) calls still = refl
still_contents first (was_cut side n) calls still = absurd still
still_contents first (tore_cut side n) calls still = refl
still_contents first (synced side) calls still = refl

-- the disk that is given back began as the one handed in; one more call is kept, or none
module _ (first first' : Sides) (began : first' ≡ first) (call : Call) (old new : List Call) (kept : (new ≡ call ∷ old) ⊎ (new ≡ old)) where
  -- what holds of the calls with this one and without it holds of those that are kept
  either_way : (P : Sides → List Call → Type 0) → P first (call ∷ old) → P first old → P first' new
  either_way P with_it without = subst (λ (f : Sides). P f new) (sym began)
      (⊎_elim (λ is. subst (λ calls. P first calls) (sym is) with_it) (λ is. subst (λ calls. P first calls) (sym is) without) kept)

  pub still : IsStill call → contents first' new ≡ contents first old
  still unchanged = either_way (λ f calls. contents f calls ≡ contents first old) (still_contents first call old unchanged) refl

  pub still_reads : {T E : Type 0} (side : Side) (done : List ℕ) (error : E) → IsStill call → ReadsSide {T = T} side done (Err error) (contents first old) (contents first' new)
  still_reads side done error unchanged = record { done = search rules; stays = λ rest no. ap (λ (b : Sides). b rest) (still unchanged) }

  pub image : IsTrue (are_possible first old) → IsTrue (are_possible first (call ∷ old)) → Images first' new (contents first' new)
  image ok ok_then = either_way (λ f calls. Images f calls (contents f calls)) (reads_image first (call ∷ old) ok_then) (reads_image first old ok)

  pub time : Elapses (length old) (length new) (Since first old) (Since first' new) (Images first' new)
  time = either_way (λ f calls. Elapses (length old) (length calls) (Since first old) (Since f calls) (Images f calls)) (elapses first call old) (elapses_same first old)

-- a call that changes nothing
pub same_images : (first first' : Sides) (began : first' ≡ first) (old new : List Call) → (new ≡ nothing ∷ old) ⊎ (new ≡ old) → SameImages (Images first old) (Images first' new)
same_images first first' began old new kept = either_way first first' began nothing old new kept (λ f calls. SameImages (Images first old) (Images f calls))
    (record { follows = λ c now. subst (Images first old) (sym now.2) now.1; keeps = λ c was. (c, was, refl) })
    (record { follows = λ c now. now; keeps = λ c was. was })

-- a write that failed and may have changed something
pub leaves_torn : {T E : Type 0} (first first' : Sides) (began : first' ≡ first) (old new : List Call) (side : Side) (at n : ℕ) (error : E) → (new ≡ tore side at n ∷ old) ⊎ (new ≡ old) → Leaves {T = T} (OnSide side (Torn at n)) (Err error) (Images first old) (Images first' new)
leaves_torn {T = T} first first' began old new side at n error kept =
    either_way first first' began (tore side at n) old new kept (λ f calls. Leaves {T = T} (OnSide side (Torn at n)) (Err error) (Images first old) (Images f calls))
    (record { follows = λ c now. now; reaches = search rules; keeps = λ c was. (c, was, same c) })
    (record { follows = λ c now. (c, now, same c); reaches = search rules; keeps = λ c was. was })
  where
    same : (c : Sides) → OnSide side (Torn at n) c c
    same c = unmoved side (Torn at n) c (torn_same at n (c side))

pub leaves_torn_cut : {T E : Type 0} (first first' : Sides) (began : first' ≡ first) (old new : List Call) (side : Side) (n : ℕ) (error : E) → (new ≡ tore_cut side n ∷ old) ⊎ (new ≡ old) → Leaves {T = T} (OnSide side (TornCut n)) (Err error) (Images first old) (Images first' new)
leaves_torn_cut {T = T} first first' began old new side n error kept =
    either_way first first' began (tore_cut side n) old new kept (λ f calls. Leaves {T = T} (OnSide side (TornCut n)) (Err error) (Images first old) (Images f calls))
    (record { follows = λ c now. now; reaches = search rules; keeps = λ c was. (c, was, same c) })
    (record { follows = λ c now. (c, now, same c); reaches = search rules; keeps = λ c was. was })
  where
    same : (c : Sides) → OnSide side (TornCut n) c c
    same c = unmoved side (TornCut n) c (cut_same n (c side))

-- a write, a cut and a sync that succeeded
module _ (first first' : Sides) (began : first' ≡ first) (old new : List Call) where
  exactly : (P : Sides → List Call → Type 0) (call : Call) → new ≡ call ∷ old → P first (call ∷ old) → P first' new
  exactly P call is holds = subst (λ (f : Sides). P f new) (sym began) (subst (λ calls. P first calls) (sym is) holds)

  pub leaves_wrote : {T : Type 0} {E : Type 0} (value : T) (side : Side) (at : ℕ) (bytes : List ℕ) → new ≡ wrote side at bytes ∷ old → Leaves {T = T} {E = E} (OnSide side (Torn at (length bytes))) (Ok value) (Images first old) (Images first' new)
  leaves_wrote {E = E} value side at bytes is = exactly (λ f calls. Leaves {E = E} (OnSide side (Torn at (length bytes))) (Ok value) (Images first old) (Images f calls)) (wrote side at bytes) is
      (record { follows = λ c now. now; reaches = λ d c was step. (d, was, step); keeps = λ c was. (c, was, unmoved side (Torn at (length bytes)) c (torn_same at (length bytes) (c side))) })

  pub leaves_cut : {T : Type 0} {E : Type 0} (value : T) (side : Side) (n : ℕ) → new ≡ was_cut side n ∷ old → Leaves {T = T} {E = E} (OnSide side (TornCut n)) (Ok value) (Images first old) (Images first' new)
  leaves_cut {E = E} value side n is = exactly (λ f calls. Leaves {E = E} (OnSide side (TornCut n)) (Ok value) (Images first old) (Images f calls)) (was_cut side n) is
      (record { follows = λ c now. now; reaches = λ d c was step. (d, was, step); keeps = λ c was. (c, was, unmoved side (TornCut n) c (cut_same n (c side))) })

  pub syncs : {T : Type 0} {E : Type 0} (value : T) (side : Side) → new ≡ synced side ∷ old → Syncs {T = T} {E = E} side (contents first old side) (Ok value) (Images first old) (Images first' new)
  syncs {E = E} value side is = exactly (λ f calls. Syncs {E = E} side (contents first old side) (Ok value) (Images first old) (Images f calls)) (synced side) is
      (record {
        follows = λ c now. subst (Images first old) (sym now.2.0) now.1;
        only = λ c now. ap (λ (b : Sides). b side) now.2.0 ∙ now.2.1;
        keeps = λ c was here. (c, was, (refl, here));
      })

pub failed_sync : {T E : Type 0} (first first' : Sides) (began : first' ≡ first) (old new : List Call) (side : Side) (bytes : List ℕ) (error : E) → (new ≡ nothing ∷ old) ⊎ (new ≡ old) → Syncs {T = T} side bytes (Err error) (Images first old) (Images first' new)
failed_sync first first' began old new side bytes error kept =
    let same = same_images first first' began old new kept in
    record { follows = same.follows; only = search rules; keeps = λ c was here. same.keeps c was }

-- a test that was false
pub lacks : (test : Bool) (m n : ℕ) → test ≡ false → (m ≤ n → test ≡ true) → n < m
lacks test m n was_false is = grind (arith, rules)
