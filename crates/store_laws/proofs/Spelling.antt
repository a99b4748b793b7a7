-- Bytes are those of one list of entries.
use Rattle.std.proofs.Common.{◌≡◌, ◌∙◌, refl, sym, ℕ, List, arith}
use Rattle.proof_entries.specs.declared.Entry.{Entry}
use Rattle.proof_entries.specs.declared.Entry.TheVariants.{Put, Drop, Build, SetProof, Purge}
use Rattle.proof_entries.specs.declared.Origin.{Origin}
use Rattle.proof_entries.specs.declared.Origin.TheVariants.{Unknown, User, Prover}
use Rattle.proof_entries.specs.declared.Proof.{Proof}
use Rattle.proof_codec.specs.Names.{IsGoodName}
use Rattle.proof_codec.specs.Numbers.{IsText, text_bytes}
use Rattle.proof_codec.specs.Parts.{IsAny, IsPair, pair_bytes, IsList, list_bytes}
use Rattle.proof_codec.specs.ProofTrees.{tree_bytes, IsWritableTree}
use Rattle.proof_codec.specs.Entries.{IsComponentName, IsPoName, origin_number, origin_bytes, proof_parts, proof_bytes, IsGoodProof, old_proof_bytes, IsGoodOldProof, bytes_by, IsEntryBy, AreEntriesBy}
use Rattle.proof_codec.proofs.Entrance.{not_empty}
use Rattle.proof_codec.proofs.NarrowNames.{po_name_short}
use Rattle.proof_codec.proofs.Tags.{same_behind}
use Rattle.store_laws.specs.Laws.{HasOneSpelling}
use Rattle.store_laws.proofs.Readings.{Reads, narrow_reads, tag_reads, pair_reads, list_reads, text_reads, name_reads, spelled_once}
use Rattle.store_laws.proofs.Trees.{tree_reads}

component_reads : Reads IsComponentName text_bytes
component_reads = narrow_reads IsGoodName IsComponentName text_bytes (λ name is. is.0) name_reads

po_name_reads : Reads IsPoName text_bytes
po_name_reads = narrow_reads (IsText 300) IsPoName text_bytes (λ name is. (is.1, po_name_short name is.0)) (text_reads 300 (omega arith))

content_reads : Reads (IsText 65536) text_bytes
content_reads = text_reads 65536 (omega arith)

put_reads : Reads (IsPair IsComponentName (IsText 65536)) (pair_bytes text_bytes text_bytes)
put_reads = pair_reads IsComponentName text_bytes (IsText 65536) text_bytes component_reads content_reads

purge_reads : Reads (IsList IsPoName) (list_bytes text_bytes)
purge_reads = list_reads IsPoName text_bytes po_name_reads

same_origin : (x y : Origin) → origin_number x ≡ origin_number y → x ≡ y
same_origin Unknown Unknown is = refl
same_origin User User is = refl
same_origin Prover Prover is = refl
same_origin _ _ is = absurd (omega (arith, is))

origin_reads : Reads IsAny origin_bytes
origin_reads = tag_reads IsAny origin_number same_origin

proof_reads : Reads IsGoodProof proof_bytes
proof_reads x good y r s fine is =
    let same = pair_reads IsAny origin_bytes IsWritableTree tree_bytes origin_reads tree_reads (proof_parts x) (tt, good) (proof_parts y) r s (tt, fine) is in
    ((λ i. record { tree = (same.0 i).1; origin = (same.0 i).0 }), same.1)

old_proof_reads : Reads IsGoodOldProof old_proof_bytes
old_proof_reads x good y r s fine is =
    let same = tree_reads x.tree good.0 y.tree r s fine.0 is in
    let origin : x.origin ≡ y.origin = good.1 ∙ sym fine.1 in
    ((λ i. record { tree = same.0 i; origin = origin i }), same.1)

module _ (P : Proof → Type 0) (f : Proof → List ℕ) (reads : Reads P f) where
  set_reads : Reads (IsPair IsPoName P) (pair_bytes text_bytes f)
  set_reads = pair_reads IsPoName text_bytes P f po_name_reads reads

  entry_reads : Reads (IsEntryBy P) (bytes_by f)
  entry_reads (Put name text) good (Put other more) r s fine is =
      let same = put_reads (name, text) good (other, more) r s fine (same_behind 1 _ _ is) in
      ((λ i. Put (same.0 i).0 (same.0 i).1), same.1)
  entry_reads (Put name text) good _ r s fine is = absurd cc
  entry_reads (Drop name) good (Drop other) r s fine is = let same = component_reads name good other r s fine (same_behind 2 _ _ is) in ((λ i. Drop (same.0 i)), same.1)
  entry_reads (Drop name) good _ r s fine is = absurd cc
  entry_reads Build good Build r s fine is = (refl, same_behind 3 _ _ is)
  entry_reads Build good _ r s fine is = absurd cc
  entry_reads (SetProof name proof) good (SetProof other more) r s fine is =
      let same = set_reads (name, proof) good (other, more) r s fine (same_behind 4 _ _ is) in
      ((λ i. SetProof (same.0 i).0 (same.0 i).1), same.1)
  entry_reads (SetProof name proof) good _ r s fine is = absurd cc
  entry_reads (Purge names) good (Purge others) r s fine is =
      let same = purge_reads names good others r s fine (same_behind 5 _ _ is) in
      ((λ i. Purge (same.0 i)), same.1)
  entry_reads (Purge names) good _ r s fine is = absurd cc

  one_list : (bytes : List ℕ) (es fs : List Entry) → AreEntriesBy P f es bytes → AreEntriesBy P f fs bytes → es ≡ fs
  one_list bytes es fs a b = spelled_once (IsEntryBy P) (bytes_by f) (not_empty f) entry_reads es fs a.0 b.0 (sym a.1 ∙ b.1)

pub one_spelling : HasOneSpelling
one_spelling bytes es fs = (one_list IsGoodProof proof_bytes proof_reads bytes es fs, one_list IsGoodOldProof old_proof_bytes old_proof_reads bytes es fs)
