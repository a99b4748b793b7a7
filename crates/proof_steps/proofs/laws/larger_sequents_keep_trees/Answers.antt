use Rattle.proof_steps.proofs.Weakening.{weakens}
use Rattle.proof_steps.proofs.laws.larger_sequents_keep_trees.Goals as goal

pub returns-clause-applies : goal.returns-clause-applies
returns-clause-applies c = λ l a. weakens c.args.tree.now c.args.sequent.now c.args.larger.now l a

pub returns-clause-derives : goal.returns-clause-derives
returns-clause-derives c = λ l d. record {
  applies = weakens c.args.tree.now c.args.sequent.now c.args.larger.now l d.applies;
  closed = d.closed;
  unreviewed = d.unreviewed;
}
