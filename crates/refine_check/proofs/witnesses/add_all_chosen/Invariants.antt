use Rattle.std.proofs.Common.{◌≡◌, ◌++◌, take}
use Rattle.check_rules.specs.Refinements.{all_chosen, without_labels}
use Rattle.model_core.specs.Borrowed.{texts}
use Rattle.refine_check.proofs.witnesses.add_all_chosen.Given as goal

abbrev pub invariant-loop-action : goal.invariant-loop-action
invariant-loop-action l = texts l.found.items ≡ texts l.initial.found.items ++ all_chosen (without_labels (take l.action-index l.actions))
