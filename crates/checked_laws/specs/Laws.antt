-- What is known of a checked component beside sound ones.
use Rattle.std.specs.Prelude.{⊤, ◌≡◌, ◌≢◌, List, [], ◌++◌, length, IsTrue, Ok}
use Rattle.std.specs.List.{AllByRecursion}
use Rattle.formula_core.specs.declared.raw.Ref.{Ref}
use Rattle.formula_core.specs.Names.{is_identifier}
use Rattle.model_core.specs.declared.component.RawComponent.{RawComponent}
use Rattle.model_core.specs.declared.component.RawComponent.TheVariants as raw
use Rattle.model_core.specs.declared.checked.Checked.{Checked}
use Rattle.check_rules.specs.Assignments.{written_targets}
use Rattle.check_rules.specs.Components.{contexts_in, first_machine_in, ChecksBeside}
use Rattle.checked_laws.specs.Projects.{ProjectNames, Has, BelongsTo}
use Rattle.checked_laws.specs.Sound.{IsSoundComponent}
use Rattle.checked_laws.specs.Refining.{IsSoundBeside}

-- names that are declared have no prime
abbrev pub DeclareIdentifiers : List Ref → Type 0
DeclareIdentifiers refs = AllByRecursion (λ r. IsTrue (is_identifier r.name)) refs

abbrev pub DeclaresIdentifiers : RawComponent → Type 0
DeclaresIdentifiers (raw.Context name extends sets constants axioms) = DeclareIdentifiers (sets ++ constants)
DeclaresIdentifiers (raw.Machine name refines sees variables invariants variant events) =
    DeclareIdentifiers variables × AllByRecursion (λ e. DeclareIdentifiers e.params) events

-- each action assigns something
abbrev pub AssignsSomething : RawComponent → Type 0
AssignsSomething (raw.Context name extends sets constants axioms) = ⊤
AssignsSomething (raw.Machine name refines sees variables invariants variant events) =
    AllByRecursion (λ e. AllByRecursion (λ s. written_targets s.action ≢ []) e.actions) events

abbrev pub references_to_contexts : RawComponent → List Ref
references_to_contexts (raw.Context name extends sets constants axioms) = extends
references_to_contexts (raw.Machine name refines sees variables invariants variant events) = sees

-- the components that are referenced: as many contexts as references to contexts, each sound and of the project
pub record AreSoundParts (project : ProjectNames) (written : RawComponent) (parts : List Checked) : Type 0 where
  pub all : length (contexts_in parts) ≡ length (references_to_contexts written)
  pub sound : AllByRecursion (λ part. IsSoundComponent part × BelongsTo project part) parts

abbrev pub CheckedIsSound : Type 0
CheckedIsSound =
    (project : ProjectNames) (written : RawComponent) (parts : List Checked) (checked : Checked) →
    DeclaresIdentifiers written → AssignsSomething written → AreSoundParts project written parts → Has project checked → ChecksBeside written parts (Ok checked) →
    IsSoundComponent checked × IsSoundBeside (first_machine_in parts) checked × BelongsTo project checked
