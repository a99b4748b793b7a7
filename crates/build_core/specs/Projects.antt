-- The verdict on each component of a project: the checked component, or its first fault.
use Rattle.std.specs.Prelude.{◌≡◌, ◌≤◌, length, ℕ, zero, suc, Bool, true, false, List, [], ◌∷◌, ◌++◌, map, ◌⊎◌, if◌then◌else◌, Option, Some, None, Result, Ok, Err, MatchOption}
use Rattle.std.specs.Option.{option_to_list}
use Rattle.std.specs.List.{Contains, AllZip, AllByRecursion, filter_map}
use Rattle.std.specs.Map.{keys_of}
use Rattle.formula_core.specs.declared.raw.Ref.{Ref}
use Rattle.model_core.specs.Components.{heading}
use Rattle.model_core.specs.Each.{is_among}
use Rattle.model_core.specs.Faults.{first_by_place, fault_at}
use Rattle.model_core.specs.declared.fault.Fault.{Fault}
use Rattle.model_core.specs.declared.fault.FaultKind.TheVariants as kind
use Rattle.model_core.specs.declared.component.RawComponent.{RawComponent}
use Rattle.model_core.specs.declared.component.RawComponent.TheVariants as raw
use Rattle.model_core.specs.declared.checked.Checked.{Checked}
use Rattle.model_core.specs.declared.checked.Checked.TheVariants.{Context, Machine}
use Rattle.component_text.specs.Spelled.{IsRead}
use Rattle.check_rules.specs.Contexts.{Outcome}
use Rattle.check_rules.specs.Components.{ChecksBeside}

-- the text of each component, by its name; names are distinct and in byte order
abbrev pub Project : Type 0
Project = List (List ℕ × List ℕ)

-- the component that a text is, or its first fault
abbrev pub Reading : Type 0
Reading = Result RawComponent Fault

-- at most 256 components, whose texts have at most 65,536 bytes each
abbrev pub IsSmallList : Project → Type 0
IsSmallList project = (length project ≤ 256) × AllByRecursion (λ entry. length entry.1 ≤ 65536) project

-- texts of at most 65,536 bytes each
abbrev pub IsBuildableList : Project → Type 0
IsBuildableList project = AllByRecursion (λ entry. length entry.1 ≤ 65536) project

abbrev pub has_text : Project → List ℕ → Bool
has_text project name = is_among (keys_of project) name

-- a reference, and whether it wants a context
abbrev pub wanting : Bool → List Ref → List (Ref × Bool)
wanting context refs = map (λ r. (r, context)) refs

abbrev pub wanted_references : RawComponent → List (Ref × Bool)
wanted_references (raw.Context name extends sets constants axioms) = wanting true extends
wanted_references (raw.Machine name refines sees variables invariants variant events) = wanting false (option_to_list refines) ++ wanting true sees

-- whether a part is of the sort that is wanted
abbrev pub is_wanted : Bool → Checked → Bool
is_wanted true (Context c) = true
is_wanted true (Machine m) = false
is_wanted false (Context c) = false
is_wanted false (Machine m) = true

-- `no component NAME`, `blocked by NAME`, `NAME has the wrong kind`: what is at the reference is nothing, a fault, or of the other sort
abbrev pub reference_row : List ℕ → Ref × Bool → Option Outcome → List Fault
reference_row component r None = fault_at component kind.NoComponent r.0.place r.0.name ∷ []
reference_row component r (Some (Err fault)) = fault_at component kind.Blocked r.0.place r.0.name ∷ []
reference_row component r (Some (Ok part)) = if is_wanted r.1 part then [] else (fault_at component kind.WrongKind r.0.place r.0.name ∷ [])

abbrev pub reference_faults : List ℕ → List (Ref × Bool) → List (Option Outcome) → List Fault
reference_faults component (r ∷ refs) (part ∷ parts) = reference_row component r part ++ reference_faults component refs parts
reference_faults component _ _ = []

abbrev pub checked_in : Option Outcome → Option Checked
checked_in (Some (Ok part)) = Some part
checked_in _ = None

-- The first fault of its references by place, or else what follows beside the parts.
abbrev pub Concludes : RawComponent → List (Option Outcome) → Outcome → Type 0
Concludes c parts outcome =
    MatchOption (first_by_place (reference_faults (heading c).name (wanted_references c) parts))
    (ChecksBeside c (filter_map checked_in parts) outcome)
    (λ fault. outcome ≡ Err fault)

-- what is at a reference: nothing where there is no text, or an outcome in P
abbrev pub IsPart : Project → (List ℕ → Outcome → Type 0) → Ref × Bool → Option Outcome → Type 0
IsPart project P r None = has_text project r.0.name ≡ false
IsPart project P r (Some outcome) = P r.0.name outcome

abbrev pub ConcludesFrom : Project → (List ℕ → Outcome → Type 0) → Reading → Outcome → Type 0
ConcludesFrom project P (Err fault) outcome = outcome ≡ Err fault
ConcludesFrom project P (Ok c) outcome = (parts : List (Option Outcome)) × AllZip (IsPart project P) (wanted_references c) parts × Concludes c parts outcome

-- the verdict on a component that is settled in one of the first k rounds
abbrev pub ChecksBy : Project → ℕ → List ℕ → Outcome → Type 0
ChecksBy project zero name outcome = ⊥
ChecksBy project (suc k) name outcome =
    (text : List ℕ) × (reading : Reading) × Contains project (name, text) × IsRead name text reading
    × ConcludesFrom project (ChecksBy project k) reading outcome

-- a text with a fault has no references
abbrev pub references_in : Reading → List (Ref × Bool)
references_in (Err fault) = []
references_in (Ok c) = wanted_references c

-- settled in one of the first k rounds: each reference has no text, or is settled in an earlier round
abbrev pub IsSettledBy : Project → ℕ → List ℕ → Type 0
IsSettledBy project zero name = ⊥
IsSettledBy project (suc k) name =
    (text : List ℕ) × (reading : Reading) × Contains project (name, text) × IsRead name text reading
    × AllByRecursion (λ r. IsSettledBy project k r.0.name ⊎ (has_text project r.0.name ≡ false)) (references_in reading)

-- `cyclic`: it is read, and never settled
abbrev pub IsCyclic : Project → List ℕ → Fault → Type 0
IsCyclic project name fault =
    (text : List ℕ) × (c : RawComponent) × Contains project (name, text) × IsRead name text (Ok c)
    × ((k : ℕ) → IsSettledBy project k name → ⊥) × (fault ≡ fault_at name kind.Cyclic (heading c).place [])

-- The verdict on a component.
pub data Checks (project : Project) (name : List ℕ) (outcome : Outcome) : Type 0 where
  settled : (k : ℕ) → ChecksBy project k name outcome → Checks project name outcome
  cyclic : (fault : Fault) → IsCyclic project name fault → outcome ≡ Err fault → Checks project name outcome
