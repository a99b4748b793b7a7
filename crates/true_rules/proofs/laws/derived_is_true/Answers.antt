use Rattle.true_rules.proofs.Theorem.{derived_sequents_are_true}
use Rattle.true_rules.proofs.laws.derived_is_true.Goals as goal

-- src/laws.rt:7:1
pub returns : goal.returns
returns c = derived_sequents_are_true
