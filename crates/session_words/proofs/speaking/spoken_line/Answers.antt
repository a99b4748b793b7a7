use Rattle.session_words.proofs.Saying.{says}
use Rattle.session_words.proofs.speaking.spoken_line.Goals as goal

pub returns : goal.returns
returns c = says c.args.bytes.now c.in_ok-said.said c.meant.result c.in_ok-said.ensures c.meant.ensures
