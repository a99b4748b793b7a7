use Rattle.true_laws.proofs.AllLaws.{keeps_denotations}
use Rattle.true_laws.proofs.laws.laws_keep_denotations.Goals as goal

-- src/laws.rt:6:1
pub returns : goal.returns
returns c = keeps_denotations
