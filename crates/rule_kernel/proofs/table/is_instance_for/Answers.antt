use Rattle.std.proofs.Common.{map, subst}
use Rattle.std.specs.List.{AllByRecursion}
use Rattle.formula_core.specs.Formulas.{joined}
use Rattle.rule_table.specs.Rules.{antecedent_formulas, body_of}
use Rattle.instance_size.specs.Extents.{HasRoom}
use Rattle.rule_kernel.proofs.Grown.{not_built}
use Rattle.rule_kernel.proofs.table.is_instance_for.Goals as goal

pub returns-then-large : goal.returns-then-large
returns-then-large c = (
  λ h. absurd (cc h),
  λ is. absurd (not_built c.room_of-room.result c.args.rule.now.kind c.args.main.now (body_of c.args.rule.now) (c.in_ok-large.ensures.large c.if-large.true)
      (subst (λ bs. AllByRecursion (HasRoom c.room_of-room.result) (joined (map antecedent_formulas bs))) c.items.ensures c.room_of-room.ensures.room) is),
)
