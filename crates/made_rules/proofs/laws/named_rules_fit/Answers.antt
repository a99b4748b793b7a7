use Rattle.made_rules.proofs.NoForm.{named_rules_fit}
use Rattle.made_rules.proofs.laws.named_rules_fit.Goals as goal

pub returns : goal.returns
returns c = named_rules_fit
