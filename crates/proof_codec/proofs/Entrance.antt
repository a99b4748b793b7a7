-- What begins with the first byte of an entry.
use Rattle.std.proofs.Common.{◌≡◌, ◌∙◌, sym, ap, refl, ℕ, ◌≤◌, ◌<◌, List, [], ◌∷◌, ◌++◌, length, length-append, arith}
use Rattle.proof_entries.specs.declared.entry.Entry.{Entry}
use Rattle.proof_entries.specs.declared.entry.Entry.TheVariants.{Put, Drop, Build, SetProof, Purge}
use Rattle.proof_entries.specs.declared.proof.Proof.{Proof}
use Rattle.proof_codec.specs.declared.reader.ReadFault.{ReadFault}
use Rattle.proof_codec.specs.declared.reader.ReadFault.TheVariants as faults
use Rattle.proof_codec.specs.Forms.{BeginsNone}
use Rattle.proof_codec.specs.Private.{IsReadAs, Misses}
use Rattle.proof_codec.specs.Numbers.{IsByte, byte, IsText, text_bytes}
use Rattle.proof_codec.specs.Parts.{pair_bytes, IsPair, list_bytes, IsList}
use Rattle.proof_codec.specs.Entries.{IsComponentName, IsPoName, IsEntryBy, bytes_by}
use Rattle.proof_codec.proofs.Tags.{tag_read, tag_none, same_behind}

module _ (IsGoodProof : Proof → Type 0) (proof_bytes : Proof → List ℕ) (old mid new : List ℕ) where
  abbrev At : {A : Type 0} → ℕ → (A → Type 0) → (A → List ℕ) → (A → Entry) → Type 0
  At {A} tag P f form = (z : Entry) (others : List ℕ) → IsEntryBy IsGoodProof z → tag ∷ mid ≡ bytes_by proof_bytes z ++ others → (x : A) × (z ≡ form x) × P x × (mid ≡ f x ++ others)

  put_at : At 1 (IsPair IsComponentName (IsText 65536)) (pair_bytes text_bytes text_bytes) (λ x. Put x.0 x.1)
  put_at (Put name text) others good split = ((name, text), refl, good, same_behind 1 _ _ split)
  put_at _ others good split = absurd cc

  drop_at : At 2 IsComponentName text_bytes (λ x. Drop x)
  drop_at (Drop name) others good split = (name, refl, good, same_behind 2 _ _ split)
  drop_at _ others good split = absurd cc

  set_at : At 4 (IsPair IsPoName IsGoodProof) (pair_bytes text_bytes proof_bytes) (λ x. SetProof x.0 x.1)
  set_at (SetProof name proof) others good split = ((name, proof), refl, good, same_behind 4 _ _ split)
  set_at _ others good split = absurd cc

  purge_at : At 5 (IsList IsPoName) (list_bytes text_bytes) (λ x. Purge x)
  purge_at (Purge names) others good split = (names, refl, good, same_behind 5 _ _ split)
  purge_at _ others good split = absurd cc

  abbrev Is : Entry → Type 0
  Is = IsEntryBy IsGoodProof

  abbrev bytes : Entry → List ℕ
  bytes = bytes_by proof_bytes

  pub put_read : (name text : List ℕ) → IsReadAs IsByte byte old 1 mid → IsReadAs (IsPair IsComponentName (IsText 65536)) (pair_bytes text_bytes text_bytes) mid (name, text) new → IsReadAs Is bytes old (Put name text) new
  put_read name text first read = tag_read Is bytes old mid new 1 _ _ (λ x. Put x.0 x.1) put_at (name, text) read.here.good refl first read

  pub no_put : (fault : ReadFault) → IsReadAs IsByte byte old 1 mid → Misses (IsPair IsComponentName (IsText 65536)) (pair_bytes text_bytes text_bytes) mid fault → Misses Is bytes old fault
  no_put = tag_none Is bytes old mid new 1 _ _ (λ x. Put x.0 x.1) put_at

  pub drop_read : (name : List ℕ) → IsReadAs IsByte byte old 2 mid → IsReadAs IsComponentName text_bytes mid name new → IsReadAs Is bytes old (Drop name) new
  drop_read name first read = tag_read Is bytes old mid new 2 _ _ (λ x. Drop x) drop_at name read.here.good refl first read

  pub no_drop : (fault : ReadFault) → IsReadAs IsByte byte old 2 mid → Misses IsComponentName text_bytes mid fault → Misses Is bytes old fault
  no_drop = tag_none Is bytes old mid new 2 _ _ (λ x. Drop x) drop_at

  pub build_read : IsReadAs IsByte byte old 3 new → IsReadAs Is bytes old Build new
  build_read first = record { here = record { good = tt; split = first.here.split }; only = λ z others begins. only z others begins.good (sym first.here.split ∙ begins.split) }
    where
      only : (z : Entry) (others : List ℕ) → Is z → 3 ∷ new ≡ bytes z ++ others → (z ≡ Build) × (others ≡ new)
      only Build others good split = (refl, sym (same_behind 3 _ _ split))
      only _ others good split = absurd cc

  pub set_read : (name : List ℕ) (proof : Proof) → IsReadAs IsByte byte old 4 mid → IsReadAs (IsPair IsPoName IsGoodProof) (pair_bytes text_bytes proof_bytes) mid (name, proof) new → IsReadAs Is bytes old (SetProof name proof) new
  set_read name proof first read = tag_read Is bytes old mid new 4 _ _ (λ x. SetProof x.0 x.1) set_at (name, proof) read.here.good refl first read

  pub no_set : (fault : ReadFault) → IsReadAs IsByte byte old 4 mid → Misses (IsPair IsPoName IsGoodProof) (pair_bytes text_bytes proof_bytes) mid fault → Misses Is bytes old fault
  no_set = tag_none Is bytes old mid new 4 _ _ (λ x. SetProof x.0 x.1) set_at

  pub purge_read : (names : List (List ℕ)) → IsReadAs IsByte byte old 5 mid → IsReadAs (IsList IsPoName) (list_bytes text_bytes) mid names new → IsReadAs Is bytes old (Purge names) new
  purge_read names first read = tag_read Is bytes old mid new 5 _ _ (λ x. Purge x) purge_at names read.here.good refl first read

  pub no_purge : (fault : ReadFault) → IsReadAs IsByte byte old 5 mid → Misses (IsList IsPoName) (list_bytes text_bytes) mid fault → Misses Is bytes old fault
  no_purge = tag_none Is bytes old mid new 5 _ _ (λ x. Purge x) purge_at

-- each entry begins with one of five bytes
record HasTag (bytes : List ℕ) : Type 0 where
  tag : ℕ
  behind : List ℕ
  is : bytes ≡ tag ∷ behind
  above : 1 ≤ tag
  below : tag ≤ 5

has_tag : (proof_bytes : Proof → List ℕ) (z : Entry) (others : List ℕ) → HasTag (bytes_by proof_bytes z ++ others)
has_tag proof_bytes (Put name text) others = record { tag = 1; behind = pair_bytes text_bytes text_bytes (name, text) ++ others; is = refl; above = omega arith; below = omega arith }
has_tag proof_bytes (Drop name) others = record { tag = 2; behind = text_bytes name ++ others; is = refl; above = omega arith; below = omega arith }
has_tag proof_bytes Build others = record { tag = 3; behind = others; is = refl; above = omega arith; below = omega arith }
has_tag proof_bytes (SetProof name proof) others = record { tag = 4; behind = pair_bytes text_bytes proof_bytes (name, proof) ++ others; is = refl; above = omega arith; below = omega arith }
has_tag proof_bytes (Purge names) others = record { tag = 5; behind = list_bytes text_bytes names ++ others; is = refl; above = omega arith; below = omega arith }

pub no_entry : (IsGoodProof : Proof → Type 0) (proof_bytes : Proof → List ℕ) (old mid : List ℕ) (tag : ℕ) → IsReadAs IsByte byte old tag mid → (tag ≡ 1 → ⊥) → (tag ≡ 2 → ⊥) → (tag ≡ 3 → ⊥) → (tag ≡ 4 → ⊥) → (tag ≡ 5 → ⊥) → BeginsNone (IsEntryBy IsGoodProof) (bytes_by proof_bytes) old
no_entry IsGoodProof proof_bytes old mid tag first a b c d e = record {
  none = λ z others begins.
      let t = has_tag proof_bytes z others in
      let same : tag ≡ t.tag = (let k : tag ∷ mid ≡ t.tag ∷ t.behind = sym first.here.split ∙ begins.split ∙ t.is in cc) in
      omega (arith, t.above, t.below, same, a, b, c, d, e);
}

pub no_tag : (IsGoodProof : Proof → Type 0) (proof_bytes : Proof → List ℕ) (fault : ReadFault) (old : List ℕ) → Misses IsByte byte old fault → Misses (IsEntryBy IsGoodProof) (bytes_by proof_bytes) old fault
no_tag IsGoodProof proof_bytes faults.OutOfMemory old bad = tt
no_tag IsGoodProof proof_bytes faults.Bad old bad = record {
  none = λ z others begins.
      let t = has_tag proof_bytes z others in
      bad.none t.tag t.behind (record { good = omega (arith, t.below); split = begins.split ∙ t.is });
}

pub not_empty : (proof_bytes : Proof → List ℕ) (z : Entry) (others : List ℕ) → bytes_by proof_bytes z ++ others ≡ [] → ⊥
not_empty proof_bytes z others e = let t = has_tag proof_bytes z others in (let k : t.tag ∷ t.behind ≡ [] = sym t.is ∙ e in cc)

pub shorter : (proof_bytes : Proof → List ℕ) (z : Entry) (old new : List ℕ) → old ≡ bytes_by proof_bytes z ++ new → length new < length old
shorter proof_bytes z old new is = longer (bytes_by proof_bytes z) new (not_empty proof_bytes z []) old is
  where
    longer : (front new : List ℕ) → (front ++ [] ≡ [] → ⊥) → (old : List ℕ) → old ≡ front ++ new → length new < length old
    longer [] new more old is = absurd (more refl)
    longer (b ∷ front) new more old is = omega (arith, ap length is, length-append front new)
