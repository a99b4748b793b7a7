use Rattle.math_tokens.specs.Private.{table}
use Rattle.math_tokens.proofs.Fronts.{begins}
use Rattle.math_tokens.proofs.lexemes.longest_lexeme.Goals as goal

pub returns : goal.returns
returns c =
    rw (c.choose.ensures, c.word_length-word.ensures, c.name_length-name.ensures, c.digits_length-digits.ensures)
    (begins (table c.args.forms.now) c.args.bytes.now c.longest_form-sign.result c.longest_form-sign.ensures)
