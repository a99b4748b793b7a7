-- Laws of what is gathered.
use Rattle.std.specs.Prelude.{◌≡◌, ◌≤◌, ◌<◌, ◌+◌, ℕ, List, []}
use Rattle.sequent_core.specs.declared.sequent.Obligation.{Obligation}
use Rattle.po_rules.specs.Gathering.{Gathered, table_nodes, table_limit, gathered}

-- nothing yet, behind so many formula nodes of other components
abbrev pub begun_at : ℕ → Gathered
begun_at n = record { obligations = []; nodes = n }

-- Obligations whose nodes a table may have are all gathered, in order, and their nodes are counted.
abbrev pub AllAreGathered : Type 0
AllAreGathered = (n : ℕ) (rows : List Obligation) → n + table_nodes rows ≤ table_limit
    → gathered (begun_at n) rows ≡ record { obligations = rows; nodes = n + table_nodes rows }

-- Of obligations with more nodes than a table may have, more are counted than it may have, and at most those that they have.
abbrev pub TooManyAreNoticed : Type 0
TooManyAreNoticed = (n : ℕ) (rows : List Obligation) → n ≤ table_limit → table_limit < n + table_nodes rows
    → (table_limit < (gathered (begun_at n) rows).nodes) × ((gathered (begun_at n) rows).nodes ≤ n + table_nodes rows)
