-- How types are printed.
use Rattle.std.specs.Prelude.{List, [], ◌∷◌, is_some, if◌then◌else◌}
use Rattle.formula_core.specs.declared.op.Op.TheVariants as op
use Rattle.formula_core.specs.declared.ty.Ty.{Ty}
use Rattle.formula_core.specs.declared.ty.Ty.TheOpen.{Ty-F, Int as Integer, Bool as Boolean, Given, Pow, Pair, Truth}
use Rattle.formula_core.specs.declared.ty.Ty.TheFolds.{para-Ty}
use Rattle.formula_core.specs.Types.{components}
use Rattle.token_text.specs.Pieces.{Piece, word_piece, sign_piece, in_round, sign_between}

-- the right side of a product: in parentheses, if it is a product
abbrev pub right_of_product : Ty × List Piece → List Piece
right_of_product t = if is_some (components t.0) then in_round t.1 else t.1

-- One level. Each part stands beside its pieces.
abbrev pub type_pieces_step : Ty-F (Ty × List Piece) → List Piece
type_pieces_step Integer = sign_piece op.Integers ∷ []
type_pieces_step Boolean = sign_piece op.Booleans ∷ []
type_pieces_step (Given name) = word_piece name ∷ []
type_pieces_step (Pow part) = sign_piece op.PowerSet ∷ in_round part.1
type_pieces_step (Pair left right) = sign_between left.1 (sign_piece op.Product) (right_of_product right)
type_pieces_step Truth = []

-- the pieces of a type, with × to the left (the sort of predicates is never printed)
abbrev pub type_pieces : Ty → List Piece
type_pieces = para-Ty (List Piece) type_pieces_step
