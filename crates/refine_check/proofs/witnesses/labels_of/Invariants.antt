use Rattle.std.proofs.Common.{◌≡◌, map, take}
use Rattle.model_core.specs.Borrowed.{texts}
use Rattle.refine_check.proofs.witnesses.labels_of.Given as goal

abbrev pub invariant-loop-witness : goal.invariant-loop-witness
invariant-loop-witness l = texts l.found.items ≡ map (λ w. w.label) (take l.witness-index l.witnesses)
