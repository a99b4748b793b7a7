-- The table of a project, its faults and its warnings.
use Rattle.std.specs.Prelude.{◌≡◌, ◌≢◌, ◌⊎◌, ◌<◌, ℕ, List, [], ◌∷◌, ◌++◌, map, length, take, Option, Some, None, Ok, Err}
use Rattle.std.specs.List.{Contains, AllByRecursion, HoldsAt}
use Rattle.formula_core.specs.declared.raw.Ref.{Ref}
use Rattle.model_core.specs.declared.fault.Fault.{Fault}
use Rattle.model_core.specs.declared.component.RawComponent.{RawComponent}
use Rattle.model_core.specs.declared.component.RawComponent.TheVariants as raw
use Rattle.model_core.specs.declared.checked.Checked.{Checked}
use Rattle.model_core.specs.declared.checked.Checked.TheVariants.{Context, Machine}
use Rattle.model_core.specs.declared.checked.CheckedMachine.{CheckedMachine}
use Rattle.component_text.specs.Spelled.{IsRead}
use Rattle.component_tokens.specs.Positions.{position_in_text}
use Rattle.build_core.specs.declared.fault_line.FaultLine.{FaultLine}
use Rattle.sequent_core.specs.declared.sequent.Obligation.{Obligation}
use Rattle.check_rules.specs.Contexts.{Outcome}
use Rattle.po_rules.specs.Gathering.{gathered, table_limit}
use Rattle.po_rules.specs.Tables.{obligations_of}
use Rattle.build_core.specs.Projects.{Project, Checks}

-- the machine that a component refines
abbrev pub refined_in : RawComponent → Option Ref
refined_in (raw.Context name extends sets constants axioms) = None
refined_in (raw.Machine name refines sees variables invariants variant events) = refines

-- the checked machine that a component refines
abbrev pub IsAbstraction : Project → Option Ref → Option CheckedMachine → Type 0
IsAbstraction project None abstraction = abstraction ≡ None
IsAbstraction project (Some r) abstraction = (m : CheckedMachine) × Checks project r.name (Ok (Machine m)) × (abstraction ≡ Some m)

-- The obligations of a component. One with a fault has none.
abbrev pub Gives : Project → List ℕ → List Obligation → Type 0
Gives project name obligations =
    ((fault : Fault) × Checks project name (Err fault) × (obligations ≡ []))
    ⊎ ((text : List ℕ) × (component : RawComponent) × (checked : Checked) × (abstraction : Option CheckedMachine)
    × Contains project (name, text) × IsRead name text (Ok component) × Checks project name (Ok checked)
    × IsAbstraction project (refined_in component) abstraction × (obligations ≡ obligations_of checked abstraction))

abbrev pub AreObligations : Project → Project → List Obligation → Type 0
AreObligations project [] table = table ≡ []
AreObligations project (entry ∷ entries) table =
    (own : List Obligation) × (others : List Obligation) × Gives project entry.0 own × AreObligations project entries others × (table ≡ own ++ others)

-- the table of a project: the obligations of its components, in byte order of their names
abbrev pub IsTableOf : Project → List Obligation → Type 0
IsTableOf project table = AreObligations project project table

-- a fault of a text, with the line and the column of its place there
abbrev pub line_of : List ℕ → Fault → FaultLine
line_of text fault = record { fault = fault; line = (position_in_text text fault.place).line; column = (position_in_text text fault.place).column }

abbrev pub faults_in : List ℕ → Outcome → List FaultLine
faults_in text (Err fault) = line_of text fault ∷ []
faults_in text (Ok checked) = []

-- each machine without fault, with each event of its abstraction that none of its events refines or extends
abbrev pub warnings_in : List ℕ → Outcome → List (List ℕ × List ℕ)
warnings_in text (Err fault) = []
warnings_in text (Ok (Context c)) = []
warnings_in text (Ok (Machine m)) = map (λ event. (m.name, event)) m.unrefined

-- what the verdicts on these components give, one component after another
abbrev pub AreGiven : {X : Type 0} → (List ℕ → Outcome → List X) → Project → Project → List X → Type 0
AreGiven each project [] all = all ≡ []
AreGiven {X} each project (entry ∷ entries) all =
    (outcome : Outcome) × (others : List X) × Checks project entry.0 outcome × AreGiven each project entries others × (all ≡ each entry.1 outcome ++ others)

-- the first fault of each component that has one, with its line and column, in byte order of the components' names
abbrev pub AreFaultsOf : Project → List FaultLine → Type 0
AreFaultsOf project faults = AreGiven faults_in project project faults

abbrev pub AreWarningsOf : Project → List (List ℕ × List ℕ) → Type 0
AreWarningsOf project warnings = AreGiven warnings_in project project warnings

-- The formula nodes that are counted of a table in its order, until they pass the limit.
abbrev pub counted_nodes : List Obligation → ℕ
counted_nodes table = (gathered (record { obligations = []; nodes = 0 }) table).nodes

-- n formula nodes of the table of a project are counted, and these are more than a table may have
abbrev pub IsTooLargeOf : Project → ℕ → Type 0
IsTooLargeOf project n =
    (table : List Obligation) × IsTableOf project table × (table_limit < n) × (n ≡ counted_nodes table)

-- the obligation of a name in a table
abbrev pub IsOfName : List Obligation → List ℕ → Option Obligation → Type 0
IsOfName table name None = AllByRecursion (λ o. o.name ≢ name) table
IsOfName table name (Some o) = Contains table o × (o.name ≡ name)

-- the place of the first obligation of a name in a table
abbrev pub IsPlaceInTable : List Obligation → List ℕ → Option ℕ → Type 0
IsPlaceInTable table name None = AllByRecursion (λ o. o.name ≢ name) table
IsPlaceInTable table name (Some at) = (at < length table) × AllByRecursion (λ o. o.name ≢ name) (take at table) × HoldsAt (λ o. o.name ≡ name) table at
