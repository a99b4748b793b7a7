-- What is printed: tokens, and blanks between some of them.
use Rattle.std.specs.Prelude.{ℕ, List, [], ◌∷◌, ◌++◌}
use Rattle.formula_core.specs.declared.op.Op.{Op}
use Rattle.formula_core.specs.declared.raw.RawOp.{RawOp}
use Rattle.formula_core.specs.declared.raw.RawOp.TheVariants as rawop
use Rattle.formula_core.specs.declared.raw.RawBinder.{RawBinder}
use Rattle.math_grammar.specs.declared.levels.Level.TheVariants as lev
use Rattle.math_grammar.specs.declared.levels.Bracket.TheVariants as bracket
use Rattle.math_grammar.specs.declared.symbols.Symbol.{Symbol}
use Rattle.math_grammar.specs.declared.symbols.Symbol.TheVariants as sym
use Rattle.math_grammar.specs.Characters.{bytes}
use Rattle.math_grammar.specs.Tokens.{Item}
use Rattle.math_grammar.specs.Grammar.{item}
use Rattle.math_grammar.specs.Operators.{raw_sign_of, raw_class_of, raw_binder_sign_of, raw_binder_class_of}

pub data Piece : Type 0 where
  Blank : Piece
  Token : Symbol → List ℕ → Piece

abbrev pub piece_text : Piece → List ℕ
piece_text Blank = bytes " "
piece_text (Token x w) = w

-- the text of the pieces
abbrev pub text_of : List Piece → List ℕ
text_of [] = []
text_of (p ∷ ps) = piece_text p ++ text_of ps

-- their tokens, all at the place 0
abbrev pub tokens_of : List Piece → List Item
tokens_of [] = []
tokens_of (Blank ∷ ps) = tokens_of ps
tokens_of (Token x w ∷ ps) = item x 0 w ∷ tokens_of ps

abbrev pub word_piece : List ℕ → Piece
word_piece name = Token sym.Word name

abbrev pub open_round_piece : Piece
open_round_piece = Token (sym.Open bracket.Round) (bytes "(")

abbrev pub close_round_piece : Piece
close_round_piece = Token (sym.Close bracket.Round) (bytes ")")

abbrev pub open_square_piece : Piece
open_square_piece = Token (sym.Open bracket.Square) (bytes "[")

abbrev pub close_square_piece : Piece
close_square_piece = Token (sym.Close bracket.Square) (bytes "]")

abbrev pub open_brace_piece : Piece
open_brace_piece = Token (sym.Open bracket.Brace) (bytes "{")

abbrev pub close_brace_piece : Piece
close_brace_piece = Token (sym.Close bracket.Brace) (bytes "}")

abbrev pub comma_piece : Piece
comma_piece = Token sym.Comma (bytes ",")

abbrev pub dot_piece : Piece
dot_piece = Token sym.Dot (bytes "·")

abbrev pub bar_piece : Piece
bar_piece = Token sym.Bar (bytes "∣")

abbrev pub typing_piece : Piece
typing_piece = Token (sym.Infix lev.Typing rawop.OfType) (bytes "⦂")

abbrev pub not_piece : Piece
not_piece = Token sym.Not (bytes "¬")

-- the sign of an operator as it is written, of one of formulas, and of a binder
abbrev pub operator_piece : RawOp → Piece
operator_piece o = Token (raw_class_of o) (raw_sign_of o)

abbrev pub sign_piece : Op → Piece
sign_piece o = operator_piece (rawop.Plain o)

abbrev pub binder_piece : RawBinder → Piece
binder_piece b = Token (raw_binder_class_of b) (raw_binder_sign_of b)

abbrev pub becomes : Piece
becomes = Token sym.Becomes (bytes "≔")

abbrev pub becomes_in : Piece
becomes_in = Token sym.BecomesIn (bytes ":∈")

abbrev pub becomes_such : Piece
becomes_such = Token sym.BecomesSuch (bytes ":∣")

abbrev pub in_round : List Piece → List Piece
in_round ps = open_round_piece ∷ (ps ++ close_round_piece ∷ [])

abbrev pub in_square : List Piece → List Piece
in_square ps = open_square_piece ∷ (ps ++ close_square_piece ∷ [])

abbrev pub in_braces : List Piece → List Piece
in_braces ps = open_brace_piece ∷ (ps ++ close_brace_piece ∷ [])

-- a sign or a bar between two parts has a blank on each side
abbrev pub sign_between : List Piece → Piece → List Piece → List Piece
sign_between left sign right = left ++ (Blank ∷ sign ∷ Blank ∷ right)

-- parts behind others, each with a comma and a blank before it
abbrev pub behind_commas : List (List Piece) → List Piece
behind_commas [] = []
behind_commas (part ∷ parts) = comma_piece ∷ Blank ∷ (part ++ behind_commas parts)

-- parts with a comma and a blank between them
abbrev pub separated_pieces : List (List Piece) → List Piece
separated_pieces [] = []
separated_pieces (part ∷ parts) = part ++ behind_commas parts
