use Rattle.plain_grammar.proofs.Included.{included}
use Rattle.plain_grammar.proofs.Accepted.{accepted}
use Rattle.plain_grammar.proofs.same_sentences.Goals as goal

pub returns-clause-spelled : goal.returns-clause-spelled
returns-clause-spelled c = included

pub returns-clause-accepted : goal.returns-clause-accepted
returns-clause-accepted c = accepted
