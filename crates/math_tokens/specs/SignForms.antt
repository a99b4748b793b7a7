-- The forms of the signs of formulas.
use Rattle.std.specs.Prelude.{map}
use Rattle.math_tokens.specs.declared.signs.TheConstants.{SIGNS}
use Rattle.math_tokens.specs.Lexemes.{Forms}

abbrev pub sign_forms : Forms
sign_forms = map (λ e. (e.0.now, e.1)) SIGNS
