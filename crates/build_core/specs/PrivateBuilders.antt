-- What holds of a builder.
use Rattle.std.specs.Prelude.{◌≤◌, ℕ, List}
use Rattle.model_core.specs.declared.component.RawComponent.{RawComponent}
use Rattle.sequent_core.specs.declared.sequent.Obligation.{Obligation}
use Rattle.po_rules.specs.Gathering.{table_nodes, table_limit}
use Rattle.build_core.specs.declared.fault_line.FaultLine.{FaultLine}
use Rattle.build_core.specs.declared.owns.Own.{Own}
use Rattle.build_core.specs.Projects.{Project}
use Rattle.build_core.specs.Tables.{IsTableOf, AreFaultsOf, AreWarningsOf}
use Rattle.build_core.specs.Private.{Outcomes, AreListed, IsJudged, AreOwnsOf, IndexesTable}

-- All that a builder keeps is that of its project: components with their places, outcomes and obligations by name, the obligations with their places, lines of faults, and pairs of names.
pub record IsBuilt (project : Project) (components : List RawComponent) (index : List (List ℕ × ℕ)) (outcomes : Outcomes) (each : List (List ℕ × Own)) (obligations : List Obligation)
    (places : List (List ℕ × ℕ)) (lines : List FaultLine) (pairs : List (List ℕ × List ℕ)) : Type 0 where
  pub listed : AreListed project components index
  pub judged : IsJudged project outcomes
  pub owns : AreOwnsOf project each
  pub table : IsTableOf project obligations
  pub placed : IndexesTable obligations places
  pub fits : table_nodes obligations ≤ table_limit
  pub faults : AreFaultsOf project lines
  pub warnings : AreWarningsOf project pairs
