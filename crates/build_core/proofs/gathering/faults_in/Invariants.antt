use Rattle.std.proofs.Common.{◌≡◌, ◌++◌, ℕ, List}
use Rattle.build_core.specs.Tables.{faults_in}
use Rattle.build_core.specs.Private.{given_in}
use Rattle.build_core.proofs.gathering.faults_in.Given as goal

abbrev pub invariant-loop-name : goal.invariant-loop-name
invariant-loop-name l =
    (done : List (List ℕ × List ℕ)) × (done ++ l.name-iterator ≡ l.texts.entries) × (l.faults.items ≡ given_in faults_in l.outcomes done)
