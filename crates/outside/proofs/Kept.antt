-- What is known of kept calls once more are kept.
use Rattle.std.proofs.Common.{◌≡◌, inl, inr, ⊎_elim, ℕ, List, [], ◌∷◌, ◌++◌, length, take, drop, map, reverse, refl, ◌∙◌, ap, arith, length-drop}
use Rattle.std.proofs.lemmas.List.{drop-append-le, take-append-le, take_all, drop_at, reverse-append, map-append}
use Rattle.std.proofs.lemmas.List.Elements.{All-head, All-tail}
use Rattle.std.specs.List.{All}
use Rattle.outside.specs.Disk.{Sides, Elapses}
use Rattle.outside.specs.DiskCalls.{Call, seen, wrote, Images, Since}
use Rattle.outside.specs.Private.{IsInside}
use Rattle.outside.specs.declared.side.Side.{Side}
use Rattle.outside.specs.declared.entry.Entry.{Entry}
use Rattle.outside.specs.declared.entry.Entry.TheVariants.{Nothing, Wrote, Tore, Cut, ToreCut, Synced}

seen_more : (written more : List ℕ) (entry : Entry) → IsInside (length written) entry → seen (written ++ more) entry ≡ seen written entry
seen_more written more Nothing inside = refl
seen_more written more (Wrote side at from count) inside = ap (λ (l : List ℕ). wrote side at l)
    (ap (λ (l : List ℕ). take count l) (drop-append-le from written more (omega (arith, inside))) ∙ take-append-le count (drop from written) more (omega (arith, inside, length-drop from written)))
seen_more written more (Tore side at count) inside = refl
seen_more written more (Cut side len) inside = refl
seen_more written more (ToreCut side len) inside = refl
seen_more written more (Synced side) inside = refl

all_seen_more : (written more : List ℕ) (entries : List Entry) → All (IsInside (length written)) entries → map (seen (written ++ more)) entries ≡ map (seen written) entries
all_seen_more written more [] inside = refl
all_seen_more written more (entry ∷ entries) inside = λ i. seen_more written more entry (All-head (IsInside (length written)) entry entries inside) i ∷ all_seen_more written more entries (All-tail (IsInside (length written)) entry entries inside) i

-- the calls once a write is kept
pub one_more : (written bytes written' : List ℕ) (entries entries' : List Entry) (side : Side) (at from : ℕ) → from ≡ length written → All (IsInside (length written)) entries → written' ≡ written ++ bytes → entries' ≡ entries ++ Wrote side at from (length bytes) ∷ []
    → reverse (map (seen written') entries') ≡ wrote side at bytes ∷ reverse (map (seen written) entries)
one_more written bytes written' entries entries' side at from end inside is more =
    let last : seen (written ++ bytes) (Wrote side at (length written) (length bytes)) ≡ wrote side at bytes =
    ap (λ (l : List ℕ). wrote side at l) (ap (λ (l : List ℕ). take (length bytes) l) (drop_at written bytes (length written) refl) ∙ take_all (length bytes) bytes (omega arith)) in
    (λ i. reverse (map (seen (is i)) ((more ∙ ap (λ (n : ℕ). entries ++ Wrote side at n (length bytes) ∷ []) end) i)))
    ∙ ap (λ (l : List Call). reverse l) (map-append (seen (written ++ bytes)) entries (Wrote side at (length written) (length bytes) ∷ []))
    ∙ reverse-append (map (seen (written ++ bytes)) entries) (seen (written ++ bytes) (Wrote side at (length written) (length bytes)) ∷ [])
    ∙ (λ i. last i ∷ reverse (all_seen_more written bytes entries inside i))

-- one call later
pub elapses : (first : Sides) (call : Call) (calls : List Call) → Elapses (length calls) (length (call ∷ calls)) (Since first calls) (Since first (call ∷ calls)) (Images first (call ∷ calls))
elapses first call calls = record {
  later = omega arith;
  nothing_else = λ t c le left. ⊎_elim (λ now. inr now) (λ past. inl past.1) left;
  keeps = λ t c le past. inr (le, past);
}

pub elapses_same : (first : Sides) (calls : List Call) → Elapses (length calls) (length calls) (Since first calls) (Since first calls) (Images first calls)
elapses_same first calls = record { later = omega arith; nothing_else = λ t c le left. inl left; keeps = λ t c le left. left }
