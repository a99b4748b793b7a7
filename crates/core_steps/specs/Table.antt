-- The table of obligations of a project.
use Rattle.std.specs.Prelude.{◌≡◌, ◌≢◌, ◌≤◌, ℕ, Bool, List, ◌∷◌, ◌++◌, Option, Some, None, bytes_eq}
use Rattle.std.specs.List.{AllByRecursion, list_any}
use Rattle.std.specs.FinMap.{entries}
use Rattle.sequent_core.specs.declared.Sequent.{Sequent}
use Rattle.sequent_core.specs.declared.Obligation.{Obligation}
use Rattle.po_rules.specs.Gathering.{table_nodes, table_limit}
use Rattle.build_core.specs.Tables.{IsTableOf, IsTooLargeOf}
use Rattle.core_steps.specs.Durable.{ProjectMap}

-- the table of a project: the obligations of its components, in byte order of the components' names
abbrev pub IsTable : ProjectMap → List Obligation → Type 0
IsTable project table = IsTableOf (entries project) table

-- the table of a project, whose sequents have no more formula nodes than a table may have
abbrev pub IsTableWithin : ProjectMap → List Obligation → Type 0
IsTableWithin project table = IsTable project table × (table_nodes table ≤ table_limit)

-- the sequents of a project's table have more formula nodes than a table may have, and n are counted when this is found
abbrev pub IsTooLarge : ProjectMap → ℕ → Type 0
IsTooLarge project n = IsTooLargeOf (entries project) n

-- the sequent of the first obligation of this name
abbrev pub IsPresent : List Obligation → List ℕ → Option Sequent → Type 0
IsPresent table name None = AllByRecursion (λ o. o.name ≢ name) table
IsPresent table name (Some sequent) =
    (before : List Obligation) × (behind : List Obligation) × (table ≡ before ++ record { name = name; sequent = sequent } ∷ behind)
    × AllByRecursion (λ o. o.name ≢ name) before

-- whether the table has an obligation of this name
abbrev pub is_obligation : List Obligation → List ℕ → Bool
is_obligation table name = list_any (λ o. bytes_eq o.name name) table
