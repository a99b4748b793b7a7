use Rattle.event_values.proofs.ReadTyped.{read_is_typed}
use Rattle.event_values.proofs.laws.read_is_of_the_type.Goals as goal

pub returns : goal.returns
returns c = read_is_typed
