use Rattle.std.proofs.Common.{◌≡◌, ◌∙◌, sym, ap, subst, get_or}
use Rattle.std.specs.Prelude.{Some, IfOk}
use Rattle.std.specs.Option.{option_copied, option_map}
use Rattle.std.proofs.lemmas.Option.{slice_get-get_or}
use Rattle.sequent_core.specs.declared.Obligation.{Obligation}
use Rattle.sequent_core.specs.declared.Attempt.TheVariants.{Found, NoProof, NoMemory}
use Rattle.sequent_core.specs.declared.Attempt.{Attempt}
use Rattle.core_steps.specs.declared.events.Event.TheVariants.{Finish}
use Rattle.core_steps.specs.State.{State}
use Rattle.core_steps.specs.Tickets.{EndsTicket, IsPresentStatus}
use Rattle.status_core.specs.PrivateParts.{without_at, Prepares}
use Rattle.status_core.proofs.Finding.{found_sequent}
use Rattle.status_core.proofs.Ending.{result_as, noted_named, no_memory_named, finish_result}
use Rattle.status_core.proofs.core_state.Core.finish_at.Goals as goal

pub present_status-status-requires : goal.present_status-status-requires
present_status-status-requires g c = record { sequent = found_sequent _ _ (option_copied c.find-obligation.result) c.find-obligation.ensures }

pub found-requires-clause-sequent : goal.found-requires-clause-sequent
found-requires-clause-sequent g c = found_sequent _ _ (option_copied c.find-obligation.result) c.find-obligation.ensures

pub returns-in-NoProof-clause-prepared : goal.returns-in-NoProof-clause-prepared
returns-in-NoProof-clause-prepared g c =
    let s = c.args.self.now in
    let at = c.args.at in
    let found = option_copied c.find-obligation.result in
    let sequent = option_map (λ (o : Obligation). o.sequent) found in
    let status = c.present_status-status.result in
    let ticket = c.index-ticket.result.now in
    let there = subst (λ (z : State). ticket ≡ get_or z.out at ticket) c.self.view_is c.index-ticket.ensures in
    let some = slice_get-get_or s.out at ticket c.requires.0 ∙ ap Some (sym there) in
    let shown = subst (λ (z : State). IsPresentStatus z.durable.proofs ticket.name sequent status) c.self.view_is c.present_status-status.ensures.status in
    subst (λ (a : Attempt). IfOk c.try_in.result (λ p. Prepares s (Finish c.args.number a) p)) (sym c.in-NoProof.is)
    (finish_result s c.args.number at ticket found NoProof c.try_in.result c.find-obligation.ensures c.requires there
    (result_as s (EndsTicket (without_at s at) ticket sequent NoProof) _ c.try_in.result (noted_named (without_at s at) ticket sequent status c.in_ok-name.name c.in_ok-name.ensures shown)
    (c.try_in.ensures ticket some)))

pub returns-in-NoMemory-clause-prepared : goal.returns-in-NoMemory-clause-prepared
returns-in-NoMemory-clause-prepared g c =
    let s = c.args.self.now in
    let at = c.args.at in
    let found = option_copied c.find-obligation.result in
    let sequent = option_map (λ (o : Obligation). o.sequent) found in
    let status = c.present_status-status.result in
    let ticket = c.index-ticket.result.now in
    let there = subst (λ (z : State). ticket ≡ get_or z.out at ticket) c.self.view_is c.index-ticket.ensures in
    let some = slice_get-get_or s.out at ticket c.requires.0 ∙ ap Some (sym there) in
    let shown = subst (λ (z : State). IsPresentStatus z.durable.proofs ticket.name sequent status) c.self.view_is c.present_status-status.ensures.status in
    subst (λ (a : Attempt). IfOk c.try_in-in-NoMemory.result (λ p. Prepares s (Finish c.args.number a) p)) (sym c.in-NoMemory.is)
    (finish_result s c.args.number at ticket found NoMemory c.try_in-in-NoMemory.result c.find-obligation.ensures c.requires there
    (result_as s (EndsTicket (without_at s at) ticket sequent NoMemory) _ c.try_in-in-NoMemory.result (no_memory_named (without_at s at) ticket sequent status c.in_ok-name.name c.in_ok-name.ensures shown)
    (c.try_in-in-NoMemory.ensures ticket some)))

pub returns-in-Found-clause-prepared : goal.returns-in-Found-clause-prepared
returns-in-Found-clause-prepared g c =
    let s = c.args.self.now in
    let at = c.args.at in
    let found = option_copied c.find-obligation.result in
    let ticket = c.index-ticket.result.now in
    let there = subst (λ (z : State). ticket ≡ get_or z.out at ticket) c.self.view_is c.index-ticket.ensures in
    let some = slice_get-get_or s.out at ticket c.requires.0 ∙ ap Some (sym there) in
    subst (λ (a : Attempt). IfOk c.found.result (λ p. Prepares s (Finish c.args.number a) p)) (sym c.in-Found.is)
    (finish_result s c.args.number at ticket found (Found c.in-Found.tree) c.found.result c.find-obligation.ensures c.requires there (c.found.ensures.comes ticket some))
