use Rattle.std.proofs.Common.{◌≢◌, arith}
use Rattle.sequent_core.specs.declared.Obligation.{Obligation}
use Rattle.core_steps.proofs.Alls.{all_fewer, all_front}
use Rattle.prepared_events.proofs.closing.closed_for_others.Goals as goal

pub returns-in-Some-clause-others : goal.returns-in-Some-clause-others
returns-in-Some-clause-others c = λ table of.
    all_fewer (λ (o : Obligation). o.name ≢ c.args.name.now) c.min.result c.in-Some.place table (omega (arith, c.min.ensures)) (c.in-Some.ensures.exact table of).1

pub returns-in-None-clause-others : goal.returns-in-None-clause-others
returns-in-None-clause-others c = λ table of. all_front (λ (o : Obligation). o.name ≢ c.args.name.now) c.args.closed table (c.in-None.ensures.exact table of)
