use Rattle.std.proofs.Common.{◌≡◌, ◌∙◌, sym, ap, subst, ◌<◌, length}
use Rattle.std.specs.Prelude.{Some, is_some, slice_get}
use Rattle.std.specs.Option.{option_copied, option_map}
use Rattle.sequent_core.specs.declared.Ticket.{Ticket}
use Rattle.sequent_core.specs.declared.Attempt.TheVariants.{Found}
use Rattle.sequent_core.specs.Provers.{IsGoodTree}
use Rattle.core_steps.specs.State.{State}
use Rattle.core_steps.specs.Tickets.{EndsTicket}
use Rattle.status_core.specs.PrivateParts.{without_at}
use Rattle.status_core.proofs.Made.{as_made}
use Rattle.status_core.proofs.Finished.{same_ticket, ticket_there}
use Rattle.status_core.proofs.Ending.{isnt, result_as, stored_named, stale_named, refused_named}
use Rattle.status_core.proofs.core_state.Core.found.Goals as goal

pub returns-in-Some-clause-comes : goal.returns-in-Some-clause-comes
returns-in-Some-clause-comes g c = λ ticket there.
    let s = c.args.self.now in
    let at = c.args.at in
    let tree = c.args.tree.now in
    let name = c.args.name in
    let sequent = option_map (λ o. o.sequent) (option_copied c.args.obligation) in
    let named = sym (c.requires.name ticket) ∙ ap (λ (t : Ticket). t.name) (sym (ticket_there s.out at ticket c.requires.within there)) in
    let can = (c.in_ok-facts.ensures.can s.durable.proofs name c.requires.status).0 (ap is_some c.in-Some.is) in
    result_as s (EndsTicket (without_at s at) ticket sequent (Found tree)) _ c.store.result (stored_named (without_at s at) ticket sequent c.args.status tree name named can) c.store.ensures

pub returns-then-branch-clause-comes : goal.returns-then-branch-clause-comes
returns-then-branch-clause-comes g c = λ ticket there.
    let s = c.args.self.now in
    let at = c.args.at in
    let tree = c.args.tree.now in
    let name = c.args.name in
    let sequent = option_map (λ o. o.sequent) (option_copied c.args.obligation) in
    let named = sym (c.requires.name ticket) ∙ ap (λ (t : Ticket). t.name) (sym (ticket_there s.out at ticket c.requires.within there)) in
    let some = subst (λ (z : State). slice_get z.out at ≡ Some ticket) (sym c.self.view_is) there in
    let lt = subst (λ (z : State). at < length z.out) (sym c.self.view_is) c.requires.within in
    let same = same_ticket c.self.inside.out.items at c.index.result.now ticket lt c.index.ensures some in
    let good = subst (λ (k : Ticket). IsGoodTree tree k.sequent) same (c.in_ok-is_good_proof.ensures.good.0 c.if-branch.true) in
    let cannot = isnt (is_some c.in_ok-facts.field-0) (ap is_some c.in_default.is) (c.in_ok-facts.ensures.can s.durable.proofs name c.requires.status) in
    as_made s (EndsTicket (without_at s at) ticket sequent (Found tree)) c.take_in.result _ c.take_in.ensures
    (stale_named (without_at s at) ticket sequent c.args.status tree name named c.requires.status cannot good)

pub returns-clause-comes : goal.returns-clause-comes
returns-clause-comes g c = λ ticket there.
    let s = c.args.self.now in
    let at = c.args.at in
    let tree = c.args.tree.now in
    let name = c.args.name in
    let sequent = option_map (λ o. o.sequent) (option_copied c.args.obligation) in
    let named = sym (c.requires.name ticket) ∙ ap (λ (t : Ticket). t.name) (sym (ticket_there s.out at ticket c.requires.within there)) in
    let some = subst (λ (z : State). slice_get z.out at ≡ Some ticket) (sym c.self.view_is) there in
    let lt = subst (λ (z : State). at < length z.out) (sym c.self.view_is) c.requires.within in
    let same = same_ticket c.self.inside.out.items at c.index.result.now ticket lt c.index.ensures some in
    let bad = λ (g : IsGoodTree tree ticket.sequent). isnt _ c.if-branch.false c.in_ok-is_good_proof.ensures.good (subst (λ (k : Ticket). IsGoodTree tree k.sequent) (sym same) g) in
    let cannot = isnt (is_some c.in_ok-facts.field-0) (ap is_some c.in_default.is) (c.in_ok-facts.ensures.can s.durable.proofs name c.requires.status) in
    result_as s (EndsTicket (without_at s at) ticket sequent (Found tree)) _ c.try_in.result
    (refused_named (without_at s at) ticket sequent c.args.status tree name named c.requires.status cannot bad) (c.try_in.ensures ticket there)
