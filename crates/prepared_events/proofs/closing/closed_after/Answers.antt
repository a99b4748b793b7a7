use Rattle.std.proofs.Common.{◌∙◌, ap}
use Rattle.std.specs.Prelude.{Some, None}
use Rattle.std.specs.Option.{option_copied}
use Rattle.proof_entries.specs.declared.Entry.TheVariants.{Put, Drop, SetProof}
use Rattle.prepared_events.proofs.StillClosed.{set_closed, after_is}
use Rattle.prepared_events.proofs.closing.closed_after.Goals as goal

pub returns-in-None : goal.returns-in-None
returns-in-None c = record { closed = λ s is closed. after_is s _ None c.args.closed (ap option_copied c.in-None.is) closed }

pub returns-in-Some-Put : goal.returns-in-Some-Put
returns-in-Some-Put c = record {
  closed = λ s is closed.
      let entry_is = rw c.in-Some-Put.is at c.in-Some-Put.field-0-is in
      after_is s _ (Some (Put c.in-Some-Put.field-0-0 c.in-Some-Put.field-0-1)) c.args.closed (ap option_copied c.in-Some-Put.is ∙ ap Some entry_is) closed;
}

pub returns-in-Some-Drop : goal.returns-in-Some-Drop
returns-in-Some-Drop c = record {
  closed = λ s is closed.
      let entry_is = rw c.in-Some-Drop.is at c.in-Some-Drop.field-0-is in
      after_is s _ (Some (Drop c.in-Some-Drop.field-0-0)) c.args.closed (ap option_copied c.in-Some-Drop.is ∙ ap Some entry_is) closed;
}

pub returns-in-Some-SetProof : goal.returns-in-Some-SetProof
returns-in-Some-SetProof c = record {
  closed = λ s is closed.
      let name = c.in-Some-SetProof.name in
      let proof = c.in-Some-SetProof.field-0-1 in
      let entry_is = rw c.in-Some-SetProof.is at c.in-Some-SetProof.field-0-is in
      after_is s _ (Some (SetProof name proof)) c.closed_for_others.result (ap option_copied c.in-Some-SetProof.is ∙ ap Some entry_is)
      (set_closed s c.args.builder.now name proof c.args.closed c.closed_for_others.result c.closed_for_others.ensures.most c.closed_for_others.ensures.others is closed);
}
