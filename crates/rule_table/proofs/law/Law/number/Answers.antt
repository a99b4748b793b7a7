use Rattle.rule_table.proofs.Numbers.{law_at_number}
use Rattle.rule_table.proofs.law.Law.number.Goals as goal

pub returns : goal.returns
returns c = record { number = law_at_number c.place.result c.args.self c.place.ensures.at }
