use Rattle.std.proofs.Common.{◌≡◌, ◌++◌, take}
use Rattle.check_rules.specs.Typed.{in_order}
use Rattle.machine_check.proofs.machine_parts.add_typed_names.Given as goal

abbrev pub invariant-loop-name : goal.invariant-loop-name
invariant-loop-name l = l.all.items ≡ l.initial.all.items ++ in_order l.env (take l.name-index l.names)
