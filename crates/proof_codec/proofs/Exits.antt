-- Entries that are written: a tag, and what stands behind it.
use Rattle.std.proofs.Common.{refl, ℕ, List}
use Rattle.proof_entries.specs.declared.entry.Entry.{Entry}
use Rattle.proof_entries.specs.declared.entry.Entry.TheVariants.{Put, Drop, Build, SetProof, Purge}
use Rattle.proof_entries.specs.declared.proof.Proof.{Proof}
use Rattle.proof_codec.specs.Private.{IsWrittenAs}
use Rattle.proof_codec.specs.Numbers.{IsByte, byte, IsText, text_bytes}
use Rattle.proof_codec.specs.Parts.{pair_bytes, IsPair, list_bytes, IsList}
use Rattle.proof_codec.specs.Entries.{IsComponentName, IsPoName, IsEntryBy, bytes_by}
use Rattle.proof_codec.proofs.Writing.{tag_written, lone_written}

module _ (IsGoodProof : Proof → Type 0) (proof_bytes : Proof → List ℕ) (old mid new : List ℕ) where
  abbrev Is : Entry → Type 0
  Is = IsEntryBy IsGoodProof

  abbrev bytes : Entry → List ℕ
  bytes = bytes_by proof_bytes

  pub put_written : (name text : List ℕ) → IsWrittenAs IsByte byte 1 old mid → IsWrittenAs (IsPair IsComponentName (IsText 65536)) (pair_bytes text_bytes text_bytes) (name, text) mid new
      → IsWrittenAs Is bytes (Put name text) old new
  put_written name text = tag_written (IsPair IsComponentName (IsText 65536)) (pair_bytes text_bytes text_bytes) Is bytes 1 old mid new (name, text) (Put name text) (λ good. good) refl

  pub drop_written : (name : List ℕ) → IsWrittenAs IsByte byte 2 old mid → IsWrittenAs IsComponentName text_bytes name mid new → IsWrittenAs Is bytes (Drop name) old new
  drop_written name = tag_written IsComponentName text_bytes Is bytes 2 old mid new name (Drop name) (λ good. good) refl

  pub build_written : IsWrittenAs IsByte byte 3 old new → IsWrittenAs Is bytes Build old new
  build_written = lone_written Is bytes 3 old new Build tt refl

  pub set_written : (name : List ℕ) (proof : Proof) → IsWrittenAs IsByte byte 4 old mid → IsWrittenAs (IsPair IsPoName IsGoodProof) (pair_bytes text_bytes proof_bytes) (name, proof) mid new
      → IsWrittenAs Is bytes (SetProof name proof) old new
  set_written name proof = tag_written (IsPair IsPoName IsGoodProof) (pair_bytes text_bytes proof_bytes) Is bytes 4 old mid new (name, proof) (SetProof name proof) (λ good. good) refl

  pub purge_written : (names : List (List ℕ)) → IsWrittenAs IsByte byte 5 old mid → IsWrittenAs (IsList IsPoName) (list_bytes text_bytes) names mid new → IsWrittenAs Is bytes (Purge names) old new
  purge_written names = tag_written (IsList IsPoName) (list_bytes text_bytes) Is bytes 5 old mid new names (Purge names) (λ good. good) refl
