-- How formulas are denied.
use Rattle.std.specs.Prelude.{List, [], ◌∷◌}
use Rattle.formula_core.specs.declared.op.Op.{Op}
use Rattle.formula_core.specs.declared.op.Op.TheVariants as op
use Rattle.formula_core.specs.declared.raw.RawOp.{RawOp}
use Rattle.formula_core.specs.declared.raw.RawOp.TheVariants as rawop
use Rattle.token_text.specs.Pieces.{Piece, not_piece, open_round_piece, close_round_piece}

-- the operator that denies a relation, where it has a sign, and else the operator itself
abbrev pub denied_op : Op → RawOp
denied_op op.Equal = rawop.NotEqual
denied_op op.Member = rawop.NotMember
denied_op op.ProperSubset = rawop.NotProperSubset
denied_op op.Subset = rawop.NotSubset
denied_op o = rawop.Plain o

-- what stands before a form that is denied ..
abbrev pub opening_of : Op → List Piece
opening_of op.Equal = []
opening_of op.Member = []
opening_of op.ProperSubset = []
opening_of op.Subset = []
opening_of op.Top = not_piece ∷ []
opening_of op.Bottom = not_piece ∷ []
opening_of op.Finite = not_piece ∷ []
opening_of _ = not_piece ∷ open_round_piece ∷ []

-- .. and behind it
abbrev pub closing_of : Op → List Piece
closing_of op.Equal = []
closing_of op.Member = []
closing_of op.ProperSubset = []
closing_of op.Subset = []
closing_of op.Top = []
closing_of op.Bottom = []
closing_of op.Finite = []
closing_of _ = close_round_piece ∷ []
