-- Entries as bytes, in both versions, and lists of them. What the format calls bad is what isn't an entry here.
use Rattle.std.specs.Prelude.{◌≡◌, ◌≢◌, ◌≤◌, ℕ, IsTrue, true, List, [], ◌∷◌, ◌++◌, length}
use Rattle.std.specs.List.{flat_map, AllByRecursion}
use Rattle.std.specs.Str.{is_utf8}
use Rattle.formula_core.specs.Names.{is_identifier}
use Rattle.formula_core.specs.Texts.{is_po_name}
use Rattle.sequent_core.specs.declared.tree.Tree.{Tree}
use Rattle.proof_entries.specs.declared.entry.Entry.{Entry}
use Rattle.proof_entries.specs.declared.entry.Entry.TheVariants.{Put, Drop, Build, SetProof, Purge}
use Rattle.proof_entries.specs.declared.proof.Origin.{Origin}
use Rattle.proof_entries.specs.declared.proof.Origin.TheVariants.{Unknown, User, Prover}
use Rattle.proof_entries.specs.declared.proof.Proof.{Proof}
use Rattle.proof_codec.specs.Forms.{BeginsNone}
use Rattle.proof_codec.specs.Names.{IsGoodName}
use Rattle.proof_codec.specs.Numbers.{IsText, text_bytes}
use Rattle.proof_codec.specs.Parts.{IsAny, pair_bytes, IsPair, list_bytes, IsList}
use Rattle.proof_codec.specs.ProofTrees.{tree_bytes, IsWritableTree, IsFitTree}

-- the name of a component has no prime
abbrev pub IsComponentName : List ℕ → Type 0
IsComponentName name = IsGoodName name × IsTrue (is_identifier name)

abbrev pub IsUnprimed : List ℕ → Type 0
IsUnprimed name = IsTrue (is_identifier name)

abbrev pub IsPoName : List ℕ → Type 0
IsPoName name = IsTrue (is_po_name name) × (is_utf8 name ≡ true)

abbrev pub IsShortText : List ℕ → Type 0
IsShortText text = length text ≤ 65536

abbrev pub origin_number : Origin → ℕ
origin_number Unknown = 0
origin_number User = 1
origin_number Prover = 2

abbrev pub origin_bytes : Origin → List ℕ
origin_bytes origin = origin_number origin ∷ []

-- one byte of origin, and a tree
abbrev pub proof_parts : Proof → Origin × Tree
proof_parts proof = (proof.origin, proof.tree)

abbrev pub proof_bytes : Proof → List ℕ
proof_bytes proof = pair_bytes origin_bytes tree_bytes (proof_parts proof)

abbrev pub IsGoodProof : Proof → Type 0
IsGoodProof proof = IsWritableTree proof.tree

abbrev pub IsFitProof : Proof → Type 0
IsFitProof proof = IsFitTree proof.tree

-- version 1: a tree, whose origin is unknown
abbrev pub old_proof_bytes : Proof → List ℕ
old_proof_bytes proof = tree_bytes proof.tree

abbrev pub IsGoodOldProof : Proof → Type 0
IsGoodOldProof proof = IsWritableTree proof.tree × (proof.origin ≡ Unknown)

abbrev pub IsFitOldProof : Proof → Type 0
IsFitOldProof proof = IsFitTree proof.tree × (proof.origin ≡ Unknown)

-- all else is one for both versions: a tag, and the parts
abbrev pub bytes_by : (Proof → List ℕ) → Entry → List ℕ
bytes_by of_proof (Put name text) = 1 ∷ pair_bytes text_bytes text_bytes (name, text)
bytes_by of_proof (Drop name) = 2 ∷ text_bytes name
bytes_by of_proof Build = 3 ∷ []
bytes_by of_proof (SetProof name proof) = 4 ∷ pair_bytes text_bytes of_proof (name, proof)
bytes_by of_proof (Purge names) = 5 ∷ list_bytes text_bytes names

abbrev pub IsEntryOf : (List ℕ → Type 0) → (List ℕ → Type 0) → (List ℕ → Type 0) → (Proof → Type 0) → Entry → Type 0
IsEntryOf IsComponent IsContent IsObligation IsOfProof (Put name text) = IsPair IsComponent IsContent (name, text)
IsEntryOf IsComponent IsContent IsObligation IsOfProof (Drop name) = IsComponent name
IsEntryOf IsComponent IsContent IsObligation IsOfProof Build = Unit {0}
IsEntryOf IsComponent IsContent IsObligation IsOfProof (SetProof name proof) = IsPair IsObligation IsOfProof (name, proof)
IsEntryOf IsComponent IsContent IsObligation IsOfProof (Purge names) = IsList IsObligation names

abbrev pub IsEntryBy : (Proof → Type 0) → Entry → Type 0
IsEntryBy = IsEntryOf IsComponentName (IsText 65536) IsPoName

abbrev pub IsFitBy : (Proof → Type 0) → Entry → Type 0
IsFitBy = IsEntryOf IsUnprimed IsShortText IsAny

-- the bytes of an entry
abbrev pub entry_bytes : Entry → List ℕ
entry_bytes = bytes_by proof_bytes

-- what has bytes
abbrev pub IsEntry : Entry → Type 0
IsEntry = IsEntryBy IsGoodProof

-- what may be written: beside this the types give that names are names and texts are UTF-8
abbrev pub IsWritable : Entry → Type 0
IsWritable = IsFitBy IsFitProof

-- the same in version 1
abbrev pub old_entry_bytes : Entry → List ℕ
old_entry_bytes = bytes_by old_proof_bytes

abbrev pub IsOldEntry : Entry → Type 0
IsOldEntry = IsEntryBy IsGoodOldProof

abbrev pub IsOldWritable : Entry → Type 0
IsOldWritable = IsFitBy IsFitOldProof

-- the bytes of a list of values, one behind the other
abbrev pub AreSpelled : {A : Type 0} → (A → Type 0) → (A → List ℕ) → List A → List ℕ → Type 0
AreSpelled P f xs bytes = AllByRecursion P xs × (bytes ≡ flat_map f xs)

-- behind these values, at this place, something stands that begins with none
pub record IsStuckAt {A : Type 0} (P : A → Type 0) (f : A → List ℕ) (bytes : List ℕ) (at : ℕ) : Type 0 where
  pub before : List A
  pub rest : List ℕ
  pub good : AllByRecursion P before
  pub split : bytes ≡ flat_map f before ++ rest
  pub place : at ≡ length (flat_map f before)
  pub some : rest ≢ []
  pub none : BeginsNone P f rest
  -- no longer list of values begins the bytes
  pub longest : (xs : List A) (others : List ℕ) → AllByRecursion P xs → bytes ≡ flat_map f xs ++ others → (behind : List A) × (before ≡ xs ++ behind)

abbrev pub AreEntriesBy : (Proof → Type 0) → (Proof → List ℕ) → List Entry → List ℕ → Type 0
AreEntriesBy IsOfProof of_proof = AreSpelled (IsEntryBy IsOfProof) (bytes_by of_proof)

abbrev pub IsStuckBy : (Proof → Type 0) → (Proof → List ℕ) → List ℕ → ℕ → Type 0
IsStuckBy IsOfProof of_proof = IsStuckAt (IsEntryBy IsOfProof) (bytes_by of_proof)

-- the bytes are those of these entries
abbrev pub AreEntries : List Entry → List ℕ → Type 0
AreEntries = AreEntriesBy IsGoodProof proof_bytes

-- the first part that begins with no entry stands here
abbrev pub IsStuck : List ℕ → ℕ → Type 0
IsStuck = IsStuckBy IsGoodProof proof_bytes

-- the same in version 1
abbrev pub AreOldEntries : List Entry → List ℕ → Type 0
AreOldEntries = AreEntriesBy IsGoodOldProof old_proof_bytes

abbrev pub IsOldStuck : List ℕ → ℕ → Type 0
IsOldStuck = IsStuckBy IsGoodOldProof old_proof_bytes
