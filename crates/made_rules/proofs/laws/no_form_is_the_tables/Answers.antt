use Rattle.made_rules.proofs.NoForm.{no_form_is_the_tables}
use Rattle.made_rules.proofs.laws.no_form_is_the_tables.Goals as goal

pub returns : goal.returns
returns c = no_form_is_the_tables
