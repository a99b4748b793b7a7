use Rattle.std.proofs.Common.{◌≡◌, ◌++◌, take}
use Rattle.check_rules.specs.Contexts.{names_of}
use Rattle.check_rules.specs.Typed.{in_order}
use Rattle.context_check.proofs.typing.add_in_order.Given as goal

abbrev pub invariant-loop-one : goal.invariant-loop-one
invariant-loop-one l = l.entries.items ≡ l.initial.entries.items ++ in_order l.env (names_of (take l.one-index l.declared))
