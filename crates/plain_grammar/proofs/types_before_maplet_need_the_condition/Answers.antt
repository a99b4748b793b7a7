use Rattle.plain_grammar.proofs.OpenTypes.{open_accepted, open_refused}
use Rattle.plain_grammar.proofs.types_before_maplet_need_the_condition.Goals as goal

pub returns-clause-accepted : goal.returns-clause-accepted
returns-clause-accepted c = open_accepted

pub returns-clause-refused : goal.returns-clause-refused
returns-clause-refused c = open_refused
