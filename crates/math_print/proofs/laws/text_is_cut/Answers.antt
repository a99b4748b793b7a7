use Rattle.math_print.proofs.CutBack.{text_cut}
use Rattle.math_print.proofs.laws.text_is_cut.Goals as goal

pub returns : goal.returns
returns c = text_cut
