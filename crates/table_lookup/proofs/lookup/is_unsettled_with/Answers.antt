use Rattle.std.proofs.Common.{subst}
use Rattle.core_steps.specs.Status.{IsUnsettled}
use Rattle.core_steps.proofs.OneWay.{one_status}
use Rattle.table_lookup.proofs.lookup.is_unsettled_with.Goals as goal

pub returns : goal.returns
returns c = (
  (λ t. (c.status_with.result, c.status_with.ensures.status, c.is_unsettled.ensures.0 t)),
  (λ un. c.is_unsettled.ensures.1 (subst IsUnsettled (one_status _ _ un.0 c.status_with.result un.1 c.status_with.ensures.status) un.2)),
)
