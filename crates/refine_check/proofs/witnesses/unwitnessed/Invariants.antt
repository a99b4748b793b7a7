use Rattle.std.proofs.Common.{◌≡◌, not, take}
use Rattle.std.specs.List.{filter}
use Rattle.type_action.specs.CoreActions.{primed}
use Rattle.model_core.specs.Each.{is_among}
use Rattle.model_core.specs.Borrowed.{texts}
use Rattle.refine_check.proofs.witnesses.unwitnessed.Given as goal

abbrev pub invariant-loop-name : goal.invariant-loop-name
invariant-loop-name l = texts l.found.items ≡ filter (λ n. not (is_among l.labels (primed n))) (texts (take l.name-index l.chosen))
