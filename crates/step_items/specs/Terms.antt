-- Formulas of a step.
use Rattle.std.specs.Prelude.{◌≡◌, ℕ, ◌^◌, ◌<◌, Bool, true, List, length, Ok}
use Rattle.std.specs.Str.{is_utf8}
use Rattle.formula_core.specs.declared.raw.Raw.{Raw}
use Rattle.math_tokens.specs.declared.cutting.Token.{Token}
use Rattle.math_tokens.specs.SignForms.{sign_forms}
use Rattle.math_tokens.specs.Texts.{Cut}
use Rattle.math_grammar.specs.declared.holes.Hole.{Hole}
use Rattle.math_grammar.specs.Tokens.{items_of}
use Rattle.formula_parse.specs.Limits.{IsSentence}

-- The bytes spell the formula, a predicate or an expression as the hole says.
pub record IsTermText (hole : Hole) (bytes : List ℕ) (t : Raw) : Type 0 where
  pub is_text : is_utf8 bytes ≡ true
  pub is_short : length bytes < 2 ^ 32
  pub tokens : List Token
  pub cut : Cut sign_forms bytes 0 (Ok tokens)
  pub spelled : IsSentence hole (items_of bytes tokens) t
