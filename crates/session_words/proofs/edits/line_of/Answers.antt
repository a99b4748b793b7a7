use Rattle.session_words.proofs.Saying.{of_line, of_edit}
use Rattle.session_words.proofs.edits.line_of.Goals as goal

pub returns-in-Line : goal.returns-in-Line
returns-in-Line c =
    of_line c.args.command.now c.in-Line.bytes c.items.result.now c.spoken_line.result c.in-Line.is c.items.ensures c.spoken_line.ensures

pub returns-in-Edit : goal.returns-in-Edit
returns-in-Edit c =
    of_edit c.args.command.now c.in-Edit.word c.in-Edit.text c.items-in-Edit.result.now c.items-in-Edit-2.result.now c.edited.result c.in-Edit.is
    c.items-in-Edit.ensures c.items-in-Edit-2.ensures c.edited.ensures
