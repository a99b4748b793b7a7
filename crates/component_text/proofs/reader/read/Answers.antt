use Rattle.component_text.proofs.Utf8.{marks_are_text}
use Rattle.component_text.proofs.Texted.{found_in, only}
use Rattle.component_text.proofs.reader.read.Goals as goal

pub read_pieces-requires-clause-texts : goal.read_pieces-requires-clause-texts
read_pieces-requires-clause-texts c = marks_are_text c.args.text.now 0 c.in_ok-pieces.pieces.tokens.items c.in_ok-pieces.pieces.fault c.in_ok-pieces.ensures

pub returns-clause-found : goal.returns-clause-found
returns-clause-found c =
    found_in c.one_formula.ensures c.one_action.ensures c.pieces_one_way.ensures c.args.name.now c.args.text.now c.in_ok-pieces.pieces.tokens.items c.in_ok-pieces.pieces.fault c.in_ok-pieces.ensures
    c.read_pieces.result c.read_pieces.ensures

pub returns-clause-only : goal.returns-clause-only
returns-clause-only c =
    only c.one_formula.ensures c.one_action.ensures c.pieces_one_way.ensures c.args.name.now c.args.text.now c.in_ok-pieces.pieces.tokens.items c.in_ok-pieces.pieces.fault c.in_ok-pieces.ensures
    c.read_pieces.result c.read_pieces.ensures
