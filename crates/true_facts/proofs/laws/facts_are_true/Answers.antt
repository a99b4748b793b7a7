use Rattle.true_facts.proofs.Truths.{facts_hold}
use Rattle.true_facts.proofs.laws.facts_are_true.Goals as goal

-- src/laws.rt:6:1
pub returns : goal.returns
returns c S T shape test U names = facts_hold U names S T
