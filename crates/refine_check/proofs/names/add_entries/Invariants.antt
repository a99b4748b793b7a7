use Rattle.std.proofs.Common.{◌≡◌, ◌++◌, take}
use Rattle.check_rules.specs.Visible.{names}
use Rattle.model_core.specs.Borrowed.{texts}
use Rattle.refine_check.proofs.names.add_entries.Given as goal

abbrev pub invariant-loop-entry : goal.invariant-loop-entry
invariant-loop-entry l = texts l.found.items ≡ texts l.initial.found.items ++ names (take l.entry-index l.entries)
