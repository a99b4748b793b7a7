-- Builders: of no texts, and of texts that are copied.
use Rattle.std.proofs.Common.{◌≡◌, refl, ℕ, List, [], arith}
use Rattle.model_core.specs.declared.component.RawComponent.{RawComponent}
use Rattle.sequent_core.specs.declared.sequent.Obligation.{Obligation}
use Rattle.build_core.specs.declared.fault_line.FaultLine.{FaultLine}
use Rattle.build_core.specs.declared.owns.Own.{Own}
use Rattle.build_core.specs.Projects.{Project}
use Rattle.build_core.specs.Private.{Outcomes}
use Rattle.build_core.specs.PrivateBuilders.{IsBuilt}
use Rattle.build_core.proofs.Nothing.{nothing_listed, nothing_judged, nothing_owned}

nothing : IsBuilt [] [] [] [] [] [] [] [] []
nothing = record {
  listed = nothing_listed;
  judged = nothing_judged;
  owns = nothing_owned;
  table = refl;
  placed = λ name. tt;
  fits = omega arith;
  faults = refl;
  warnings = refl;
}

pub nothing_built : (texts : Project) (components : List RawComponent) (index : List (List ℕ × ℕ)) (outcomes : Outcomes) (owns : List (List ℕ × Own)) (table : List Obligation) (places : List (List ℕ × ℕ)) (faults : List FaultLine) (warnings : List (List ℕ × List ℕ)) →
    texts ≡ [] → components ≡ [] → index ≡ [] → outcomes ≡ [] → owns ≡ [] → table ≡ [] → places ≡ [] → faults ≡ [] → warnings ≡ [] → IsBuilt texts components index outcomes owns table places faults warnings
nothing_built texts components index outcomes owns table places faults warnings a b c d e f g h i = rw (a, b, c, d, e, f, g, h, i) nothing
