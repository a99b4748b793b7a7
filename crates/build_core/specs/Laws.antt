-- Laws on the definitions: a project gives one verdict on each of its components, and has one table.
use Rattle.std.specs.Prelude.{◌≡◌, ◌≤◌, ℕ, List, length, bytes_eq}
use Rattle.std.specs.List.{IsDistinct}
use Rattle.std.specs.Map.{keys_of}
use Rattle.build_core.specs.declared.fault_line.FaultLine.{FaultLine}
use Rattle.sequent_core.specs.declared.sequent.Obligation.{Obligation}
use Rattle.check_rules.specs.Contexts.{Outcome}
use Rattle.name_laws.specs.Laws.{HaveDistinctNames}
use Rattle.build_core.specs.Projects.{Project, Checks}
use Rattle.build_core.specs.Tables.{IsTableOf, AreFaultsOf, AreWarningsOf}

abbrev pub HasOneVerdict : Type 0
HasOneVerdict =
    (project : Project) → IsDistinct bytes_eq (keys_of project) → (name : List ℕ) (one two : Outcome) →
    Checks project name one → Checks project name two → one ≡ two

abbrev pub HasOneTable : Type 0
HasOneTable =
    (project : Project) → IsDistinct bytes_eq (keys_of project) → (one two : List Obligation) →
    IsTableOf project one → IsTableOf project two → one ≡ two

abbrev pub HasOneListOfFaults : Type 0
HasOneListOfFaults =
    (project : Project) → IsDistinct bytes_eq (keys_of project) → (one two : List FaultLine) →
    AreFaultsOf project one → AreFaultsOf project two → one ≡ two

abbrev pub HasOneListOfWarnings : Type 0
HasOneListOfWarnings =
    (project : Project) → IsDistinct bytes_eq (keys_of project) → (one two : List (List ℕ × List ℕ)) →
    AreWarningsOf project one → AreWarningsOf project two → one ≡ two

-- no two obligations of a project have the same name
abbrev pub HasDistinctObligations : Type 0
HasDistinctObligations =
    (project : Project) → IsDistinct bytes_eq (keys_of project) → (table : List Obligation) →
    IsTableOf project table → HaveDistinctNames table

-- a component has at most one fault
abbrev pub HasFewFaults : Type 0
HasFewFaults = (project : Project) → (faults : List FaultLine) → AreFaultsOf project faults → length faults ≤ length project
