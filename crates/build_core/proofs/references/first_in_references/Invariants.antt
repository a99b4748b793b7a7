use Rattle.std.proofs.Common.{◌≡◌, take}
use Rattle.model_core.specs.Faults.{first_by_place}
use Rattle.build_core.specs.Projects.{wanting}
use Rattle.build_core.specs.Private.{faults_at}
use Rattle.build_core.proofs.references.first_in_references.Given as goal

abbrev pub invariant-loop-reference : goal.invariant-loop-reference
invariant-loop-reference l =
    l.first ≡ first_by_place (faults_at l.outcomes l.component (wanting l.context (take l.reference-index l.references)))
