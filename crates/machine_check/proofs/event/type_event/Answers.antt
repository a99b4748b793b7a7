use Rattle.std.proofs.Common.{◌∙◌, ap, length}
use Rattle.machine_check.proofs.Growing.{cut_back}
use Rattle.machine_check.proofs.event.type_event.Goals as goal

pub returns : goal.returns
returns c = record {
  typed = c.in_ok-one.ensures.typed;
  kept = c.cut.ensures ∙ cut_back c.args.env.now c.type_in_place.new.env (length c.entries-len.result.now) c.in_ok-one.ensures.grown (ap length c.entries-len.ensures.entries);
  primed_kept = c.in_ok-one.ensures.primed_kept;
}
