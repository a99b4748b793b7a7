use Rattle.std.proofs.Common.{◌≡◌, take}
use Rattle.check_rules.specs.Contexts.{names_of}
use Rattle.context_check.proofs.copies.names_of.Given as goal

abbrev pub invariant-loop-r : goal.invariant-loop-r
invariant-loop-r l = l.names.items ≡ names_of (take l.r-index l.refs)
