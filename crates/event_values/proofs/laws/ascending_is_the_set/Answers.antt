use Rattle.event_values.proofs.Orders.{ascending_ascends, ascending_members}
use Rattle.event_values.proofs.laws.ascending_is_the_set.Goals as goal

pub returns : goal.returns
returns c = record { ascends = ascending_ascends; members = ascending_members }
