use Rattle.reply_text.proofs.ShownWell.{shown_well}
use Rattle.reply_text.proofs.laws.shows_well_formulas.Goals as goal

pub returns : goal.returns
returns c = λ s e reply entry new does. shown_well c.typed_tables.ensures s e (record { reply = reply; entry = entry; new = new }) does
