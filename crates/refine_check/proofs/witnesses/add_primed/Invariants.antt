use Rattle.std.proofs.Common.{◌≡◌, ◌++◌, map, take}
use Rattle.std.specs.List.{filter}
use Rattle.type_action.specs.CoreActions.{primed}
use Rattle.model_core.specs.Each.{is_among}
use Rattle.model_core.specs.Borrowed.{texts}
use Rattle.refine_check.proofs.witnesses.add_primed.Given as goal

abbrev pub invariant-loop-name : goal.invariant-loop-name
invariant-loop-name l = l.found.items ≡ l.initial.found.items ++ map primed (filter (is_among l.lost) (texts (take l.name-index l.chosen)))
