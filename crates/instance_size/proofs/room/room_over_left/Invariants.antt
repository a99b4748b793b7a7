use Rattle.std.proofs.Common.{◌≡◌, map, take}
use Rattle.formula_core.specs.Formulas.{joined}
use Rattle.rule_table.specs.Rules.{antecedent_formulas}
use Rattle.instance_size.specs.Private.{room_over}
use Rattle.instance_size.proofs.room.room_over_left.Given as goal

abbrev pub invariant-loop-antecedent : goal.invariant-loop-antecedent
invariant-loop-antecedent l = l.room ≡ room_over l.fn.room (joined (map antecedent_formulas (take l.antecedent-index l.antecedents)))
