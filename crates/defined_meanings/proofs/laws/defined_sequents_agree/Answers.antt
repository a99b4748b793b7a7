use Rattle.defined_meanings.proofs.Theorem.{sequents_agree}
use Rattle.defined_meanings.proofs.laws.defined_sequents_agree.Goals as goal

-- src/laws.rt:15:1
pub returns : goal.returns
returns c shape test U V names env hyps goal each is defined = sequents_agree U V names env hyps goal each is defined
