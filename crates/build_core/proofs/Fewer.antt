-- A project has at most one fault a component.
use Rattle.std.proofs.Common.{ap, ℕ, ◌≤◌, List, [], ◌∷◌, length, arith}
use Rattle.std.specs.Prelude.{Ok, Err}
use Rattle.std.proofs.lemmas.List.{length-append}
use Rattle.check_rules.specs.Contexts.{Outcome}
use Rattle.build_core.specs.declared.fault_line.FaultLine.{FaultLine}
use Rattle.build_core.specs.Projects.{Project}
use Rattle.build_core.specs.Tables.{faults_in, AreGiven}
use Rattle.build_core.specs.Laws.{HasFewFaults}

at_most_one : (text : List ℕ) (outcome : Outcome) → length (faults_in text outcome) ≤ 1
at_most_one text (Err fault) = omega arith
at_most_one text (Ok checked) = omega arith

few_given : (project entries : Project) (faults : List FaultLine) → AreGiven faults_in project entries faults → length faults ≤ length entries
few_given project [] faults given = omega (arith, ap length given)
few_given project (entry ∷ entries) faults given =
    omega (arith, ap length given.4, length-append (faults_in entry.1 given.0) given.1, at_most_one entry.1 given.0, few_given project entries given.1 given.3)

pub few_faults : HasFewFaults
few_faults project faults given = few_given project project faults given
