-- Statuses of obligations, and who made their proofs.
use Rattle.std.specs.Prelude.{◌≡◌, ◌≢◌, ◌⊎◌, ℕ, true, false, List, [], ◌∷◌, Option, Some, None}
use Rattle.std.specs.List.{AllZip}
use Rattle.std.specs.FinMap.{FinMap, get}
use Rattle.sequent_core.specs.declared.Sequent.{Sequent}
use Rattle.sequent_core.specs.declared.Obligation.{Obligation}
use Rattle.sequent_core.specs.declared.Tree.{Tree, out-Tree}
use Rattle.sequent_core.specs.declared.tree.Tree.TheOpen as shape
use Rattle.sequent_core.specs.declared.Tree.TheVariants.{Leaf}
use Rattle.sequent_core.specs.Trees.{Applies, Derives, is_closed, is_reviewed}
use Rattle.proof_entries.specs.declared.Origin.{Origin}
use Rattle.proof_entries.specs.declared.Proof.{Proof}
use Rattle.core_steps.specs.Durable.{text_cmp}
use Rattle.core_steps.specs.Table.{IsTable}
use Rattle.core_steps.specs.declared.durable.Durable.{Durable}
use Rattle.core_steps.specs.declared.events.Status.{Status}
use Rattle.core_steps.specs.declared.events.Status.TheVariants.{Unattempted, Pending, Reviewed, Discharged, Broken}

-- the status of a tree for a sequent
abbrev pub IsTreeStatus : Tree → Sequent → Status → Type 0
IsTreeStatus tree s Unattempted = tree ≡ Leaf
IsTreeStatus tree s Broken = (tree ≢ Leaf) × (Applies tree s → ⊥)
IsTreeStatus tree s Pending = (tree ≢ Leaf) × Applies tree s × (is_closed tree ≡ false)
IsTreeStatus tree s Reviewed = (tree ≢ Leaf) × Applies tree s × (is_closed tree ≡ true) × (is_reviewed tree ≡ true)
IsTreeStatus tree s Discharged = Derives tree s

-- without a stored proof the status is unattempted
abbrev pub IsStatus : Option Proof → Sequent → Status → Type 0
IsStatus None s status = status ≡ Unattempted
IsStatus (Some proof) s status = IsTreeStatus proof.tree s status

abbrev pub origin_at : shape.Tree-F Tree → Origin → Option Origin
origin_at shape.Leaf origin = None
origin_at (shape.Node r children) origin = Some origin

-- who made the stored proof, unless it is a bare leaf
abbrev pub origin_of : Option Proof → Option Origin
origin_of None = None
origin_of (Some proof) = origin_at (out-Tree proof.tree) proof.origin

-- what is shown of an obligation: its name, and the status and the origin of the proof that is stored under its name
abbrev pub Shows : FinMap text_cmp Proof → Obligation → List ℕ × Status × Option Origin → Type 0
Shows proofs o shown = (shown.0 ≡ o.name) × IsStatus (get proofs o.name) o.sequent shown.1 × (shown.2 ≡ origin_of (get proofs o.name))

-- The clean rebuild: what is shown of each obligation of the built texts, in the table's order.
abbrev pub IsRebuilt : Durable → List (List ℕ × Status × Option Origin) → Type 0
IsRebuilt d shown = (table : List Obligation) × IsTable d.built table × AllZip (Shows d.proofs) table shown

-- a prover may be asked: the status is unattempted or broken
abbrev pub IsUnsettled : Status → Type 0
IsUnsettled status = (status ≡ Unattempted) ⊎ (status ≡ Broken)

-- no proof is stored that applies, or only a bare leaf
abbrev pub IsUnsettledBy : FinMap text_cmp Proof → Obligation → Type 0
IsUnsettledBy proofs o = (status : Status) × IsStatus (get proofs o.name) o.sequent status × IsUnsettled status
