use Rattle.session_lines.specs.Commands.{commands_in}
use Rattle.session_words.proofs.OneWay.{one_list}
use Rattle.session_words.proofs.laws.one_list.Goals as goal

pub returns : goal.returns
returns c = λ bytes ended a b. one_list c.one_hint.ensures (commands_in bytes ended) a b
