-- What only private contracts cite.
use Rattle.std.specs.Prelude.{List}
use Rattle.std.specs.Option.{option_map}
use Rattle.formula_core.specs.declared.raw.RawBound.{RawBound}
use Rattle.formula_core.specs.declared.raw.Raw.{Raw}
use Rattle.token_text.specs.Pieces.{Piece}
use Rattle.raw_print.specs.Printing.{PartWithPieces, declaration, PatternPrinter, pattern, pieces}

-- a pattern beside its pieces
abbrev pub with_pattern : Raw → Raw × PatternPrinter
with_pattern r = (r, pattern r)

-- a formula beside its pieces
abbrev pub with_pieces : Raw → PartWithPieces
with_pieces r = (r, pieces r)

-- the pieces of a name that is bound
abbrev pub declared : RawBound → List Piece
declared b = declaration b.name (option_map with_pieces b.ty)
