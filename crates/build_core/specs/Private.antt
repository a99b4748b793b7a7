-- What only private contracts cite.
use Rattle.std.specs.Prelude.{◌≡◌, ◌≢◌, ◌⊎◌, ℕ, ◌≤◌, ◌<◌, ◌+◌, Bool, true, false, ◌&&◌, List, [], ◌∷◌, ◌++◌, map, length, if◌then◌else◌, Option, Some, None, IsSome, Ok, Err, bytes_eq}
use Rattle.std.specs.Arc.{arc_value}
use Rattle.std.specs.List.{Contains, HoldsAt, IsDistinct, filter_map, list_all}
use Rattle.std.specs.Map.{lookup, keys_of}
use Rattle.std.specs.Option.{option_to_list}
use Rattle.std.specs.BTreeMap.{is_at}
use Rattle.std.specs.Ordering.{nat_cmp}
use Rattle.std.specs.Cmp.Lexicographic.{slice_cmp}
use Rattle.formula_core.specs.declared.raw.Ref.{Ref}
use Rattle.model_core.specs.Components.{heading}
use Rattle.model_core.specs.Each.{for_each, is_among}
use Rattle.model_core.specs.Faults.{fault_at, first_by_place}
use Rattle.model_core.specs.declared.fault.Fault.{Fault}
use Rattle.model_core.specs.declared.fault.FaultKind.{FaultKind}
use Rattle.model_core.specs.declared.fault.FaultKind.TheVariants as kind
use Rattle.model_core.specs.declared.component.RawComponent.{RawComponent}
use Rattle.model_core.specs.declared.component.RawComponent.TheVariants as raw
use Rattle.model_core.specs.declared.checked.Checked.{Checked}
use Rattle.model_core.specs.declared.checked.Checked.TheVariants.{Machine}
use Rattle.model_core.specs.declared.checked.CheckedMachine.{CheckedMachine}
use Rattle.component_text.specs.Spelled.{IsRead}
use Rattle.check_rules.specs.Contexts.{Outcome}
use Rattle.static_check.specs.declared.settled.Order.{Order}
use Rattle.static_check.specs.Settling.{own_name, has_component, IsComponentOrder}
use Rattle.sequent_core.specs.declared.sequent.Obligation.{Obligation}
use Rattle.po_rules.specs.Gathering.{gathered, table_nodes, table_limit}
use Rattle.po_rules.specs.Tables.{obligations_of}
use Rattle.po_generate.specs.Laws as gathering
use Rattle.build_core.specs.Projects.{Project, Reading, wanted_references, is_wanted, reference_row, checked_in, Concludes, Checks}
use Rattle.build_core.specs.declared.owns.Own.{Own}
use Rattle.build_core.specs.Tables.{refined_in, IsPlaceInTable, Gives}

-- what the map of these entries has at a name
abbrev pub found : {X : Type 0} → List (List ℕ × X) → List ℕ → Option X
found entries name = lookup (is_at (slice_cmp nat_cmp name)) entries

-- x is set at a name, and nothing else is changed
abbrev pub Sets : {X : Type 0} → List (List ℕ × X) → List ℕ → X → List (List ℕ × X) → Type 0
Sets before name x behind = (q : List ℕ) → found behind q ≡ (if is_at (slice_cmp nat_cmp name) q then Some x else found before q)

-- outcomes by the names of their components
abbrev pub Outcomes : Type 0
Outcomes = List (List ℕ × Outcome)

-- READING

-- the component that a text is
abbrev pub IsComponentIn : Project → RawComponent → Type 0
IsComponentIn project c = (text : List ℕ) × Contains project (own_name c, text) × IsRead (own_name c) text (Ok c)

-- the fault of a text
abbrev pub IsFaultIn : Project → List ℕ → Outcome → Type 0
IsFaultIn project name outcome =
    (text : List ℕ) × (fault : Fault) × Contains project (name, text) × IsRead name text (Err fault) × (outcome ≡ Err fault)

-- The components that are read, and the faults of the other texts.
pub record AreRead (project : Project) (components : List RawComponent) (outcomes : Outcomes) : Type 0 where
  pub read : (c : RawComponent) → Contains components c → IsComponentIn project c
  pub faulted : (name : List ℕ) (outcome : Outcome) → found outcomes name ≡ Some outcome → IsFaultIn project name outcome
  pub all : (name text : List ℕ) → Contains project (name, text) → (has_component components name ≡ true) ⊎ IsSome (found outcomes name)
  pub few : length components ≤ length project

-- a reading is added to the components or to the faults
abbrev pub Collects : List ℕ → Reading → List RawComponent → Outcomes → List RawComponent → Outcomes → Type 0
Collects name (Ok c) components outcomes more others = (more ≡ components ++ c ∷ []) × (others ≡ outcomes)
Collects name (Err fault) components outcomes more others = (more ≡ components) × Sets outcomes name (Err fault) others

-- the place of a component with each name that one has
pub record IsIndex (components : List RawComponent) (index : List (List ℕ × ℕ)) : Type 0 where
  pub place : (name : List ℕ) (i : ℕ) → found index name ≡ Some i → (i < length components) × HoldsAt (λ c. own_name c ≡ name) components i
  pub all : (name : List ℕ) → has_component components name ≡ true → IsSome (found index name)

-- the components of a project that are read, with the place of each
pub record AreListed (project : Project) (components : List RawComponent) (index : List (List ℕ × ℕ)) : Type 0 where
  pub once : IsDistinct bytes_eq (keys_of project)
  pub read : (c : RawComponent) → Contains components c → IsComponentIn project c
  pub indexed : IsIndex components index

-- CHECKING

-- what is concluded of the references of a component
abbrev pub outcomes_at : Outcomes → List (Ref × Bool) → List (Option Outcome)
outcomes_at outcomes refs = map (λ r. found outcomes r.0.name) refs

-- what is wrong with a reference
abbrev pub wrong_kind : Bool → Option Outcome → Option FaultKind
wrong_kind context None = Some kind.NoComponent
wrong_kind context (Some (Err fault)) = Some kind.Blocked
wrong_kind context (Some (Ok part)) = if is_wanted context part then None else Some kind.WrongKind

-- the faults of references
abbrev pub faults_at : Outcomes → List ℕ → List (Ref × Bool) → List Fault
faults_at outcomes component refs = for_each (λ r. reference_row component r (found outcomes r.0.name)) refs

-- the components without fault at references
abbrev pub parts_at : Outcomes → List (Ref × Bool) → List Checked
parts_at outcomes refs = filter_map checked_in (outcomes_at outcomes refs)

-- From the outcomes before, each of these names, in order, is given an outcome of a component with the name.
abbrev pub AreSet : (RawComponent → Outcomes → Outcome → Type 0) → List RawComponent → List (List ℕ) → Outcomes → Outcomes → Type 0
AreSet Gives components [] before behind = behind ≡ before
AreSet Gives components (name ∷ names) before behind =
    (c : RawComponent) × (outcome : Outcome) × (next : Outcomes) × Contains components c × (own_name c ≡ name)
    × Gives c before outcome × Sets before name outcome next × AreSet Gives components names next behind

-- the outcome of a component beside the outcomes before
abbrev pub ConcludesIn : RawComponent → Outcomes → Outcome → Type 0
ConcludesIn c before outcome = Concludes c (outcomes_at before (wanted_references c)) outcome

-- the outcome of a component that is never settled
abbrev pub IsToldCyclic : RawComponent → Outcomes → Outcome → Type 0
IsToldCyclic c before outcome = outcome ≡ Err (fault_at (own_name c) kind.Cyclic (heading c).place [])

-- each of these names is that of a component
abbrev pub HaveNames : List RawComponent → List (List ℕ) → Type 0
HaveNames components names = (name : List ℕ) → is_among names name ≡ true → has_component components name ≡ true

-- first the components that are settled, in an order with references first, and then those that never are
abbrev pub AreConcluded : List RawComponent → Outcomes → Outcomes → Type 0
AreConcluded components before behind =
    (order : Order) × (middle : Outcomes) × IsComponentOrder components order
    × AreSet ConcludesIn components order.sorted before middle × AreSet IsToldCyclic components order.cyclic middle behind

-- GATHERING

-- what an outcome gives, where there is one
abbrev pub given_at : {X : Type 0} → (Outcome → List X) → Option Outcome → List X
given_at each None = []
given_at each (Some outcome) = each outcome

-- what the outcomes of these components give
abbrev pub given_in : {X : Type 0} → (List ℕ → Outcome → List X) → Outcomes → Project → List X
given_in each outcomes entries = for_each (λ e. given_at (each e.1) (found outcomes e.0)) entries

abbrev pub machine_in_outcome : Option Outcome → Option CheckedMachine
machine_in_outcome (Some (Ok (Machine m))) = Some m
machine_in_outcome _ = None

-- the checked machine at a reference
abbrev pub abstraction_in : Outcomes → Option Ref → Option CheckedMachine
abstraction_in outcomes None = None
abstraction_in outcomes (Some r) = machine_in_outcome (found outcomes r.name)

-- the obligations of a component of this name, where it has no fault
abbrev pub OwnFrom : List RawComponent → Outcomes → List ℕ → Option Outcome → List Obligation → Type 0
OwnFrom components outcomes name (Some (Ok checked)) own =
    (c : RawComponent) × Contains components c × (own_name c ≡ name) × (own ≡ obligations_of checked (abstraction_in outcomes (refined_in c)))
OwnFrom components outcomes name _ own = own ≡ []

abbrev pub IsOwn : List RawComponent → Outcomes → List ℕ → List Obligation → Type 0
IsOwn components outcomes name own = OwnFrom components outcomes name (found outcomes name) own

-- each component without fault is one of these
abbrev pub HaveComponents : List RawComponent → Outcomes → Type 0
HaveComponents components outcomes = (name : List ℕ) (checked : Checked) → found outcomes name ≡ Some (Ok checked) → has_component components name ≡ true

-- BUILDERS

-- the verdict on each component
pub record AreVerdicts (project : Project) (outcomes : Outcomes) : Type 0 where
  pub sound : (n : List ℕ) (o : Outcome) → found outcomes n ≡ Some o → Checks project n o
  pub whole : (n text : List ℕ) → Contains project (n, text) → IsSome (found outcomes n)

abbrev pub obligation_names : List Obligation → List (List ℕ)
obligation_names table = map (λ o. o.name) table

-- the map has the place of each name
abbrev pub IndexesTable : List Obligation → List (List ℕ × ℕ) → Type 0
IndexesTable table places = (name : List ℕ) → IsPlaceInTable table name (found places name)

abbrev pub is_true : Option Bool → Bool
is_true (Some b) = b
is_true None = false

-- whether a name's outcome is known to be that of the build before
abbrev pub is_kept : List (List ℕ × Bool) → List ℕ → Bool
is_kept kept name = is_true (found kept name)

-- whether there are two texts, and they are the same
abbrev pub are_same : Option (List ℕ) → Option (List ℕ) → Bool
are_same (Some one) (Some other) = bytes_eq one other
are_same _ _ = false

-- whether each reference is kept
abbrev pub all_kept : List (List ℕ × Bool) → RawComponent → Bool
all_kept kept (raw.Context name extends sets constants axioms) = list_all (λ r. is_kept kept r.name) extends
all_kept kept (raw.Machine name refines sees variables invariants variant events) =
    list_all (λ r. is_kept kept r.name) (option_to_list refines) && list_all (λ r. is_kept kept r.name) sees

-- A name that is kept has its outcome of before. A component without fault that isn't kept has another one.
pub record AreSteady (was now : Outcomes) (kept : List (List ℕ × Bool)) : Type 0 where
  pub same : (name : List ℕ) → is_kept kept name ≡ true → found was name ≡ found now name
  pub other : (name : List ℕ) (checked : Checked) → found now name ≡ Some (Ok checked) → is_kept kept name ≡ false → found was name ≢ found now name

-- an outcome beside that of before: `kept` where it is the same, and only there if it is a component without fault
pub record IsSteady (before : Option Outcome) (outcome : Outcome) (kept : Bool) : Type 0 where
  pub same : kept ≡ true → before ≡ Some outcome
  pub other : (checked : Checked) → outcome ≡ Ok checked → kept ≡ false → before ≢ Some outcome

-- No step, or one where something is new to a component whose references have no fault.
abbrev pub IsStepFor : Project → Project → Outcomes → List (List ℕ × Bool) → RawComponent → ℕ → ℕ → Type 0
IsStepFor old new now kept c before behind =
    (behind ≤ before)
    ⊎ ((behind ≤ before + 1) × (None ≡ first_by_place (faults_at now (own_name c) (wanted_references c)))
    × ((are_same (found old (own_name c)) (found new (own_name c)) && all_kept kept c) ≡ false))

-- a project with its verdicts
pub record IsJudged (project : Project) (outcomes : Outcomes) : Type 0 where
  pub once : IsDistinct bytes_eq (keys_of project)
  pub verdicts : AreVerdicts project outcomes

-- each is a component of the project
abbrev pub AreComponentsIn : Project → List RawComponent → Type 0
AreComponentsIn project components = (c : RawComponent) → Contains components c → IsComponentIn project c

-- the components of a project, with the verdicts on all its texts
pub record AreJudged (project : Project) (components : List RawComponent) (outcomes : Outcomes) : Type 0 where
  pub judged : IsJudged project outcomes
  pub read : AreComponentsIn project components
  pub whole : HaveComponents components outcomes

-- the components of a project, and what is known of them before they are checked
pub record IsBegun (project : Project) (components : List RawComponent) (start : Outcomes) : Type 0 where
  pub once : IsDistinct bytes_eq (keys_of project)
  pub read : AreRead project components start

-- OBLIGATIONS OF ONE COMPONENT

-- obligations that are shared
abbrev pub own_list : Own → List Obligation
own_list own = map arc_value own.obligations.items

-- with the number of their nodes
abbrev pub IsCounted : Own → Type 0
IsCounted own = own.nodes ≡ table_nodes (own_list own)

-- those of a component without fault
abbrev pub AreMade : Checked → Option CheckedMachine → Own → Type 0
AreMade checked abstraction own = (own_list own ≡ obligations_of checked abstraction) × IsCounted own

-- those of a component
abbrev pub IsOwnOf : Project → List ℕ → Own → Type 0
IsOwnOf project name own = Gives project name (own_list own) × IsCounted own

-- the obligations of each component
abbrev pub AreOwnsOf : Project → List (List ℕ × Own) → Type 0
AreOwnsOf project owns = (name : List ℕ) (own : Own) → found owns name ≡ Some own → IsOwnOf project name own

-- those of a component of this name
abbrev pub OwnsOf : List RawComponent → Outcomes → List ℕ → Own → Type 0
OwnsOf components outcomes name own = IsOwn components outcomes name (own_list own) × IsCounted own

-- whether text, outcome and abstraction are those of before
abbrev pub keeps_obligations : Project → Project → List (List ℕ × Bool) → RawComponent → Bool
keeps_obligations old new kept c =
    (are_same (found old (own_name c)) (found new (own_name c)) && is_kept kept (own_name c)) && list_all (λ r. is_kept kept r.name) (option_to_list (refined_in c))

-- n nodes are counted where these obligations, behind so many nodes of others, pass the limit
abbrev pub PassesLimitAt : List Obligation → ℕ → ℕ → Type 0
PassesLimitAt list before n = (table_limit < n) × (n ≡ (gathered (gathering.begun_at before) list).nodes)
