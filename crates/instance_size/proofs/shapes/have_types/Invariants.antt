use Rattle.std.proofs.Common.{◌≡◌, drop}
use Rattle.rule_table.specs.Rows.{have_types}
use Rattle.instance_size.proofs.shapes.have_types.Given as goal

abbrev pub invariant-loop-i : goal.invariant-loop-i
invariant-loop-i l = have_types (drop l.i l.terms) (drop l.i l.types) ≡ have_types l.terms l.types
