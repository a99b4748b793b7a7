use Rattle.core_steps.proofs.stored.status_by.Goals as goal

pub returns : goal.returns
returns c = λ tree are. c.status_where.ensures tree c.args.sequent.now are (c.applies.ensures tree are)
