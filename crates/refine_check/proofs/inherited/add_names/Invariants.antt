use Rattle.std.proofs.Common.{◌≡◌, ◌++◌, take}
use Rattle.check_rules.specs.Visible.{names}
use Rattle.refine_check.proofs.inherited.add_names.Given as goal

abbrev pub invariant-loop-identifier : goal.invariant-loop-identifier
invariant-loop-identifier l = l.found.items ≡ l.initial.found.items ++ names (take l.identifier-index l.identifiers)
