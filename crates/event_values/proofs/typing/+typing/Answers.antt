use Rattle.event_values.proofs.TypedParts.{set_is_typed}
use Rattle.event_values.proofs.typing.+typing.Goals as goal

pub is_value_of-returns-then-are_values_of : goal.is_value_of-returns-then-are_values_of
is_value_of-returns-then-are_values_of t c =
    set_is_typed c.args.sizes.now c.args.ty.now c.in-Pow.member c.get.result.now c.args.value.now c.in-Set.members c.items.result.now c.items-then-are_values_of.result.now
    c.are_values_of.result c.ascends.result c.in-Pow.is c.get.ensures c.in-Set.is c.items.ensures c.items-then-are_values_of.ensures
    c.are_values_of.ensures c.if-are_values_of.true c.ascends.ensures
