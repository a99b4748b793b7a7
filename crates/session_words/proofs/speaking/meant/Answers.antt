use Rattle.session_words.proofs.Saying.{means_at_once, means_step}
use Rattle.session_words.proofs.speaking.meant.Goals as goal

pub returns-in-AtOnce : goal.returns-in-AtOnce
returns-in-AtOnce c = means_at_once c.args.said c.in-AtOnce.line c.in-AtOnce.is

pub returns-in-OfItems : goal.returns-in-OfItems
returns-in-OfItems c =
    means_step c.args.said c.in-OfItems.name c.in-OfItems.path c.in-OfItems.kind c.in-OfItems.items c.step_of.result c.in-OfItems.is c.step_of.ensures
