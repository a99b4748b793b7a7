-- The printed text of a formula.
use Rattle.std.specs.Prelude.{ℕ, ◌+◌, ◌-◌, Bool, true, false, List, [], ◌∷◌, ◌++◌, length, map, slice_get, unwrap_or, if◌then◌else◌}
use Rattle.std.specs.Fmt.{signed_decimal}
use Rattle.formula_core.specs.declared.ty.Ty.{Ty}
use Rattle.formula_core.specs.declared.op.Op.{Op}
use Rattle.formula_core.specs.declared.op.Op.TheVariants as op
use Rattle.formula_core.specs.declared.op.Binder.{Binder}
use Rattle.formula_core.specs.declared.op.Binder.TheVariants as binder
use Rattle.formula_core.specs.declared.raw.RawBinder.TheVariants as rawbinder
use Rattle.formula_core.specs.declared.formula.Formula.{Formula}
use Rattle.formula_core.specs.declared.formula.Formula.TheOpen.{Formula-F, Int, Free, Bound, Node, Bind}
use Rattle.formula_core.specs.declared.formula.Formula.TheFolds.{para-Formula}
use Rattle.math_grammar.specs.declared.symbols.Symbol.TheVariants as sym
use Rattle.token_text.specs.Pieces.{Piece, Blank, Token, text_of, word_piece, close_brace_piece, dot_piece, bar_piece, typing_piece, not_piece, operator_piece, sign_piece, binder_piece, in_round, in_square, in_braces, sign_between, separated_pieces}
use Rattle.formula_print.specs.declared.levels.Side.{Side}
use Rattle.formula_print.specs.declared.levels.Side.TheVariants as side
use Rattle.formula_print.specs.Signs.{denied_op, opening_of, closing_of}
use Rattle.formula_print.specs.Levels.{needs_parentheses}
use Rattle.formula_print.specs.Types.{type_pieces}
use Rattle.formula_print.specs.Names.{bound_names}

-- the pieces of a formula, as it stands or denied, below so many bound identifiers
abbrev pub Printed : Type 0
Printed = Bool → ℕ → List Piece

-- a part beside its pieces
abbrev pub PrintedPart : Type 0
PrintedPart = Formula × Printed

abbrev pub in_round_if : Bool → List Piece → List Piece
in_round_if needed ps = if needed then in_round ps else ps

abbrev pub printed_operand : Op → Side → PrintedPart → ℕ → List Piece
printed_operand o s part depth = in_round_if (needs_parentheses o s part.0) (part.1 false depth)

-- a constant with its type
abbrev pub typed_constant : Piece → Ty → List Piece
typed_constant sign t = in_round (sign ∷ typing_piece ∷ type_pieces t)

-- An operator with its sign, without operands: one whose sign doesn't tell its type is printed with it ..
abbrev pub printed_constant : Op → Piece → Ty → List Piece
printed_constant op.EmptySet sign t = typed_constant sign t
printed_constant op.Identity sign t = typed_constant sign t
printed_constant op.FirstProjection sign t = typed_constant sign t
printed_constant op.SecondProjection sign t = typed_constant sign t
printed_constant _ sign t = sign ∷ []

-- .. with one operand ..
abbrev pub printed_unary : Op → Piece → PrintedPart → ℕ → List Piece
printed_unary op.Not sign p depth = p.1 true depth
printed_unary op.Negate sign a depth = sign ∷ printed_operand op.Negate side.Right a depth
printed_unary op.Converse sign a depth = printed_operand op.Converse side.Left a depth ++ sign ∷ []
printed_unary o sign a depth = sign ∷ in_round (a.1 false depth)

-- .. and with two: what follows the first one
abbrev pub printed_second : Op → Piece → PrintedPart → ℕ → List Piece
printed_second op.Apply sign a depth = in_round (a.1 false depth)
printed_second op.Image sign a depth = in_square (a.1 false depth)
printed_second o sign b depth = Blank ∷ sign ∷ Blank ∷ printed_operand o side.Right b depth

abbrev pub printed_members : List PrintedPart → ℕ → List Piece
printed_members parts depth = in_braces (separated_pieces (map (λ p. p.1 false depth) parts))

-- more operands stand in no well formula, unless they are the members of a set
abbrev pub printed_operator : Op → Piece → List PrintedPart → Ty → ℕ → List Piece
printed_operator op.SetExtension sign parts t depth = printed_members parts depth
printed_operator o sign [] t depth = printed_constant o sign t
printed_operator o sign (a ∷ []) t depth = printed_unary o sign a depth
printed_operator o sign (a ∷ b ∷ []) t depth = printed_operand o side.Left a depth ++ printed_second o sign b depth
printed_operator o sign _ t depth = []

abbrev pub printed_node : Op → List PrintedPart → Ty → Bool → ℕ → List Piece
printed_node o parts t denied depth =
    if denied then (opening_of o ++ (printed_operator o (operator_piece (denied_op o)) parts t depth ++ closing_of o)) else printed_operator o (sign_piece o) parts t depth

-- the name of the bound identifier with so many around it
abbrev pub name_at : List (List ℕ) → ℕ → List ℕ
name_at names at = unwrap_or (slice_get names at) []

-- a bound identifier with its type, and more of them
abbrev pub printed_declaration : List ℕ → Ty → List Piece
printed_declaration name t = word_piece name ∷ typing_piece ∷ type_pieces t

abbrev pub printed_declarations : List (List ℕ) → List Ty → ℕ → List (List Piece)
printed_declarations names [] depth = []
printed_declarations names (t ∷ types) depth = printed_declaration (name_at names depth) t ∷ printed_declarations names types (depth + 1)

abbrev pub binder_end_of : Binder → List Piece
binder_end_of binder.Comprehension = close_brace_piece ∷ []
binder_end_of _ = []

-- a predicate, or a predicate and an expression
abbrev pub printed_body : List PrintedPart → ℕ → List Piece
printed_body (p ∷ []) depth = p.1 false depth
printed_body (p ∷ e ∷ []) depth = sign_between (p.1 false depth) bar_piece (e.1 false depth)
printed_body _ depth = []

abbrev pub printed_binder : List (List ℕ) → Binder → List Ty → List PrintedPart → ℕ → List Piece
printed_binder names b types parts depth =
    binder_piece (rawbinder.Plain b) ∷ (separated_pieces (printed_declarations names types depth) ++ (dot_piece ∷ (printed_body parts (depth + length types) ++ binder_end_of b)))

abbrev pub printed_bind : List (List ℕ) → Binder → List Ty → List PrintedPart → Bool → ℕ → List Piece
printed_bind names b types parts denied depth =
    if denied then (not_piece ∷ in_round (printed_binder names b types parts depth)) else printed_binder names b types parts depth

-- One level. What is denied is a predicate, and so no literal or identifier.
abbrev pub printed_step : List (List ℕ) → Formula-F PrintedPart → Printed
printed_step names (Int n) denied depth = Token (sym.Number n) (signed_decimal n) ∷ []
printed_step names (Free name t) denied depth = word_piece name ∷ []
printed_step names (Bound at t) denied depth = word_piece (name_at names (depth - 1 - at)) ∷ []
printed_step names (Node o parts t) denied depth = printed_node o parts t denied depth
printed_step names (Bind b types parts t) denied depth = printed_bind names b types parts denied depth

-- the pieces of a formula whose bound identifiers have these names, from the outermost one on
abbrev pub printed : List (List ℕ) → Formula → Printed
printed names = para-Formula Printed (printed_step names)

-- the pieces of a formula, and its printed text
abbrev pub formula_pieces : Formula → List Piece
formula_pieces f = printed (bound_names f) f false 0

abbrev pub formula_text : Formula → List ℕ
formula_text f = text_of (formula_pieces f)
