use Rattle.std.proofs.Common.{◌+◌, ◌<◌, ◌^◌, sym, subst, List}
use Rattle.sequent_core.specs.declared.Obligation.{Obligation}
use Rattle.core_steps.specs.State.{State}
use Rattle.core_steps.specs.Table.{IsTable}
use Rattle.status_core.specs.PrivateParts.{IsFirstOpen}
use Rattle.status_core.proofs.core_state.Core.prepare_take.Goals as goal

pub take_at-requires : goal.take_at-requires
take_at-requires c = record {
  next = subst (λ (z : State). z.next + 1 < 2 ^ 64) (sym c.find_open-found.ensures.same) c.requires;
  first =
      subst (λ (z : State). (table : List Obligation) → IsTable z.durable.built table → IsFirstOpen z table c.find_open-found.result) (sym c.find_open-found.ensures.same)
      c.find_open-found.ensures.first;
}
