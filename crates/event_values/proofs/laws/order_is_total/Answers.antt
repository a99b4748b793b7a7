use Rattle.event_values.proofs.Orders.{equal_is_same}
use Rattle.event_values.proofs.Total.{order_total}
use Rattle.event_values.proofs.laws.order_is_total.Goals as goal

pub returns : goal.returns
returns c = record { total = order_total; exact = equal_is_same }
