-- What only private contracts cite.
use Rattle.std.specs.Prelude.{ℕ, zero, suc, List, [], ◌∷◌, map}
use Rattle.formula_core.specs.declared.ty.Ty.{Ty}
use Rattle.formula_core.specs.declared.formula.Formula.{Formula}
use Rattle.token_text.specs.Pieces.{Piece, Blank, comma_piece, text_of}
use Rattle.formula_print.specs.Printing.{PrintedPart, printed}
use Rattle.formula_print.specs.Types.{type_pieces}

-- formulas beside their pieces
abbrev pub printed_parts : List (List ℕ) → List Formula → List PrintedPart
printed_parts names parts = map (λ f. (f, printed names f)) parts

-- a comma and a blank behind so many others, if there are any
abbrev pub comma_after : ℕ → List Piece
comma_after zero = []
comma_after (suc before) = comma_piece ∷ Blank ∷ []

-- the text of a type
abbrev pub type_text : Ty → List ℕ
type_text t = text_of (type_pieces t)
