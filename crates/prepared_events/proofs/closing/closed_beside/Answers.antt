use Rattle.std.proofs.Common.{◌≡◌, ◌<◌, sym, ap, subst, length, get_or, List}
use Rattle.sequent_core.specs.declared.Ticket.{Ticket}
use Rattle.prepared_events.specs.declared.moves.TicketMove.{TicketMove}
use Rattle.prepared_events.specs.declared.moves.TicketMove.TheVariants.{SendOut, TakeIn, Try}
use Rattle.prepared_events.specs.Closed.{IsThere}
use Rattle.prepared_events.proofs.StillClosed.{sent_closed, taken_closed, tried_closed, move_is}
use Rattle.prepared_events.proofs.closing.closed_beside.Goals as goal

pub returns-in-SendOut : goal.returns-in-SendOut
returns-in-SendOut c = record {
  closed = λ s is out closed.
      move_is s c.args.tickets.now (SendOut c.in-SendOut.field-0) c.args.closed c.in-SendOut.is (sent_closed s c.in-SendOut.field-0 c.args.closed closed);
}

pub returns-in-TakeIn : goal.returns-in-TakeIn
returns-in-TakeIn c = record {
  closed = λ s is out closed.
      let at = c.in-TakeIn.at in
      let k = get_or c.args.out.now at c.index-out-at.result in
      let there : k ≡ get_or c.args.out.now at k = ap (λ (t : Ticket). get_or c.args.out.now at t) c.index-out-at.is in
      let lt : at < length c.args.out.now = subst (λ (m : TicketMove). IsThere c.args.out.now m) c.in-TakeIn.is c.requires.there in
      move_is s c.args.tickets.now (TakeIn at) c.closed_for_others.result c.in-TakeIn.is
      (taken_closed s c.args.builder.now at k c.args.closed c.closed_for_others.result
      (subst (λ (ks : List Ticket). at < length ks) (sym out) lt) (subst (λ (ks : List Ticket). k ≡ get_or ks at k) (sym out) there)
      c.closed_for_others.ensures.most c.closed_for_others.ensures.others is closed);
}

pub returns-in-Try : goal.returns-in-Try
returns-in-Try c = record {
  closed = λ s is out closed.
      let at = c.in-Try.at in
      let k = get_or c.args.out.now at c.index-out-at-in-Try.result in
      let there : k ≡ get_or c.args.out.now at k = ap (λ (t : Ticket). get_or c.args.out.now at t) c.index-out-at-in-Try.is in
      let lt : at < length c.args.out.now = subst (λ (m : TicketMove). IsThere c.args.out.now m) c.in-Try.is c.requires.there in
      move_is s c.args.tickets.now (Try at) c.closed_for_others-in-Try.result c.in-Try.is
      (tried_closed s c.args.builder.now at k c.args.closed c.closed_for_others-in-Try.result
      (subst (λ (ks : List Ticket). at < length ks) (sym out) lt) (subst (λ (ks : List Ticket). k ≡ get_or ks at k) (sym out) there)
      c.closed_for_others-in-Try.ensures.most c.closed_for_others-in-Try.ensures.others is closed);
}
