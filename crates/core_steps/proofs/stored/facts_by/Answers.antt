use Rattle.core_steps.proofs.Known.{fits_some}
use Rattle.core_steps.proofs.stored.facts_by.Goals as goal

pub returns-clause-facts : goal.returns-clause-facts
returns-clause-facts g c = record {
  deps = fits_some c.args.tree.now c.in_ok-deps.deps c.in_ok-deps.ensures.deps c.in_ok-deps.ensures.none;
  settled = c.settled.ensures;
}
