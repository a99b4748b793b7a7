-- The table of a project has sequents alone.
use Rattle.std.specs.Prelude.{List, bytes_eq}
use Rattle.std.specs.List.{IsDistinct}
use Rattle.std.specs.Map.{keys_of}
use Rattle.sequent_core.specs.declared.sequent.Obligation.{Obligation}
use Rattle.po_rules.specs.Sequents.{AreSequents}
use Rattle.build_core.specs.Projects.{Project}
use Rattle.build_core.specs.Tables.{IsTableOf}

-- in the environment of each obligation, which is good, its hypotheses and its goal are predicates
abbrev pub AreSequentsOfTables : Type 0
AreSequentsOfTables =
    (project : Project) → IsDistinct bytes_eq (keys_of project) → (table : List Obligation) →
    IsTableOf project table → AreSequents table
