use Rattle.std.proofs.Common.{◌∙◌}
use Rattle.core_steps.proofs.Removed.{searched}
use Rattle.core_steps.proofs.maps.is_none_of.Goals as goal

pub returns : goal.returns
returns c = λ order.
    c.is_err.ensures.value
    ∙ searched c.args.names.now c.args.name.now c.binary_search.result order c.binary_search.ensures.bound c.binary_search.ensures.position
