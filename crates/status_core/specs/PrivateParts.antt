-- What the parts of the core tell each other.
use Rattle.std.specs.Prelude.{◌≡◌, ◌≢◌, ◌<◌, ◌≤◌, ℕ, List, length, take, Option, Some, None, Result, Ok, Err, true, false}
use Rattle.std.specs.List.{AllByRecursion, HoldsAt}
use Rattle.sequent_core.specs.declared.Sequent.{Sequent}
use Rattle.sequent_core.specs.declared.Obligation.{Obligation}
use Rattle.sequent_core.specs.declared.Tree.{Tree}
use Rattle.sequent_core.specs.Sequents.{IsSequent}
use Rattle.sequent_core.specs.Trees.{Applies}
use Rattle.proof_steps.specs.Places.{leaf_at}
use Rattle.formula_core.specs.Names.{is_identifier}
use Rattle.rule_table.specs.declared.Rule.{Rule}
use Rattle.rule_making.specs.declared.RuleFault.{RuleFault}
use Rattle.rule_making.specs.declared.RuleFault.TheVariants.{OutOfMemory}
use Rattle.rule_making.specs.Make.{FitsAt}
use Rattle.core_steps.specs.declared.events.Reply.{Reply}
use Rattle.core_steps.specs.Outcomes.{told, StepOutcome}
use Rattle.core_steps.specs.Editing.{IsFullFor, Edits}
use Rattle.core_steps.specs.Durable.{text_cmp, ProjectMap}
use Rattle.core_steps.specs.Stored.{AreFactsOf}
use Rattle.proof_entries.specs.declared.Proof.{Proof}
use Rattle.std.specs.FinMap.{FinMap, contains_key, len}
use Rattle.status_core.specs.declared.proving.Held.{Held}
use Rattle.core_steps.specs.Table.{IsTable, IsPresent}
use Rattle.core_steps.specs.State.{State}
use Rattle.core_steps.specs.Tickets.{IsOpen}
use Rattle.core_steps.specs.declared.events.Event.{Event}
use Rattle.core_steps.specs.Step.{Comes}
use Rattle.prepared_events.specs.Prepared.{without_ticket, Ready, changed_by, IsReady}

-- the table of the project has the obligation of the name, whose sequent is well typed; or it has none
abbrev pub FindsObligation : ProjectMap → List ℕ → Option Obligation → Type 0
FindsObligation project name None = (table : List Obligation) × IsTable project table × IsPresent table name None
FindsObligation project name (Some o) =
    (table : List Obligation) × IsTable project table × IsPresent table name (Some o.sequent) × (o.name ≡ name) × IsSequent o.sequent

-- the place of the first open obligation of a table, if there is one
abbrev pub IsFirstOpen : State → List Obligation → Option ℕ → Type 0
IsFirstOpen s table None = AllByRecursion (λ o. IsOpen s o → ⊥) table
IsFirstOpen s table (Some at) =
    (at < length table) × AllByRecursion (λ o. IsOpen s o → ⊥) (take at table) × HoldsAt (λ o. IsOpen s o) table at

-- the sequent itself, or that at the leaf of the path, if the tree applies and has one there
abbrev pub IsShownAt : Tree → Sequent → Option (List ℕ) → Option Sequent → Type 0
IsShownAt tree s None shown = shown ≡ Some s
IsShownAt tree s (Some path) shown = (Applies tree s → shown ≡ leaf_at path tree s) × ((Applies tree s → ⊥) → shown ≡ None)

-- the state without the ticket at a place
abbrev pub without_at : State → ℕ → State
without_at s at = record s { out = without_ticket at s.out }

-- why an edit changes nothing; or its name is an identifier, its text is short, and the project has room
abbrev pub RefusesEdit : ProjectMap → List ℕ → List ℕ → Option Reply → Type 0
RefusesEdit texts name text None = (is_identifier name ≡ true) × (length text ≤ 65536) × (IsFullFor texts name → ⊥)
RefusesEdit texts name text (Some reply) = (s : State) → s.durable.texts ≡ texts → Edits s name text (told s reply)

-- a rule that was made fits at the leaf, and a fault isn't that of memory
abbrev pub IsMade : Sequent → Result Rule RuleFault → Type 0
IsMade leaf (Ok rule) = FitsAt rule leaf
IsMade leaf (Err fault) = fault ≢ OutOfMemory

-- what is held for the tree, which is to be stored under the name beside these proofs
abbrev pub IsHeldProof : FinMap text_cmp Proof → List ℕ → Tree → Held → Type 0
IsHeldProof proofs name tree held =
    (held.told ≡ name) × (held.name ≡ name) × AreFactsOf tree held.facts × (contains_key proofs name ≡ false → len proofs < held.room)

-- what comes of what is prepared
abbrev pub made : Ready → State → StepOutcome
made p s = record { reply = p.reply; entry = p.entry; new = changed_by p s }

-- in this state something comes of it, and all is there for it
pub record ComesAs (s : State) (X : StepOutcome → Type 0) (p : Ready) : Type 0 where
  pub comes : X (made p s)
  pub ready : IsReady s p

-- in this state the event comes of it, and all is there for it
abbrev pub Prepares : State → Event → Ready → Type 0
Prepares s event p = ComesAs s (Comes s event) p
