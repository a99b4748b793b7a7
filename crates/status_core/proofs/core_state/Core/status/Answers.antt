use Rattle.std.proofs.Common.{subst}
use Rattle.std.specs.Option.{option_copied, option_map}
use Rattle.sequent_core.specs.declared.Obligation.{Obligation}
use Rattle.core_steps.specs.State.{State}
use Rattle.core_steps.specs.Tickets.{IsPresentStatus}
use Rattle.status_core.proofs.Finding.{found_rebuilt}
use Rattle.status_core.proofs.core_state.Core.status.Goals as goal

pub returns : goal.returns
returns c = record {
  status =
      let found = option_copied c.find-obligation.result in
      let name = c.args.name.now in
      let status = c.present_status.result in
      found_rebuilt c.args.self.now.durable name found status c.find-obligation.ensures
      (subst (λ (z : State). IsPresentStatus z.durable.proofs name (option_map (λ (o : Obligation). o.sequent) found) status) c.self.view_is c.present_status.ensures.status);
}
