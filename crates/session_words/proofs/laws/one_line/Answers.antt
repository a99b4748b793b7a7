use Rattle.session_words.proofs.OneWay.{one_line}
use Rattle.session_words.proofs.laws.one_line.Goals as goal

pub returns : goal.returns
returns c = one_line c.one_hint.ensures
