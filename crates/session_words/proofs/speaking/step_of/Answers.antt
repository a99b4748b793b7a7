use Rattle.session_words.proofs.Saying.{means_items}
use Rattle.session_words.proofs.speaking.step_of.Goals as goal

pub returns : goal.returns
returns c = means_items c.args.name c.args.path c.args.kind c.items.result.now c.args.written c.step_with.result c.items.ensures c.step_with.ensures
