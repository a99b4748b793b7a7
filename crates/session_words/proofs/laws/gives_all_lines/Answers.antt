use Rattle.session_words.proofs.Calls.{all_given}
use Rattle.session_words.proofs.laws.gives_all_lines.Goals as goal

pub returns : goal.returns
returns c = all_given
