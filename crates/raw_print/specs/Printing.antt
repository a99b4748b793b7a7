-- The printed text of a formula and of an action, as they are written.
use Rattle.std.specs.Prelude.{ℕ, ◌+◌, Bool, true, false, List, [], ◌∷◌, ◌++◌, map, drop, Option, Some, None, if◌then◌else◌}
use Rattle.std.specs.Fmt.{signed_decimal}
use Rattle.formula_core.specs.declared.op.Op.TheVariants as op
use Rattle.formula_core.specs.declared.raw.RawOp.{RawOp}
use Rattle.formula_core.specs.declared.raw.RawBinder.{RawBinder}
use Rattle.formula_core.specs.declared.raw.RawBinder.TheVariants as rawbinder
use Rattle.formula_core.specs.declared.raw.RawBound.{RawBound}
use Rattle.formula_core.specs.declared.raw.Ref.{Ref}
use Rattle.formula_core.specs.declared.raw.RawAction.{RawAction}
use Rattle.formula_core.specs.declared.raw.RawAction.TheVariants.{Assign, Apply, ChooseIn, ChooseSuch}
use Rattle.formula_core.specs.declared.raw.Raw.{Raw, out-Raw}
use Rattle.formula_core.specs.declared.raw.Raw.TheOpen.{Raw-F, RawBound-F, Int, Name, Node, Bind}
use Rattle.formula_core.specs.declared.raw.Raw.TheFolds.{fold-Raw, para-Raw}
use Rattle.math_grammar.specs.declared.levels.Bracket.TheVariants as bracket
use Rattle.math_grammar.specs.declared.symbols.Symbol.{Symbol}
use Rattle.math_grammar.specs.declared.symbols.Symbol.TheVariants as sym
use Rattle.math_grammar.specs.Tokens.{Item}
use Rattle.math_grammar.specs.Operators.{raw_class_of, raw_binder_class_of}
use Rattle.token_text.specs.Pieces.{Piece, Blank, Token, text_of, tokens_of, word_piece, close_brace_piece, dot_piece, bar_piece, typing_piece, operator_piece, sign_piece, binder_piece, becomes, becomes_in, becomes_such, in_round, in_square, in_braces, sign_between, separated_pieces}

-- a sign that is a form of its own, or one that brackets close
abbrev pub is_atomic : Symbol → Bool
is_atomic (sym.Truth o) = true
is_atomic (sym.Constant o) = true
is_atomic (sym.Call c o) = true
is_atomic (sym.Open b) = true
is_atomic _ = false

abbrev pub stands_alone_at : Raw-F Raw RawBound → Bool
stands_alone_at (Int n place) = true
stands_alone_at (Name x place) = true
stands_alone_at (Node o parts place) = is_atomic (raw_class_of o)
stands_alone_at (Bind b names parts place) = is_atomic (raw_binder_class_of b)

-- a name, a number, a constant or a bracketed form
abbrev pub stands_alone : Raw → Bool
stands_alone r = stands_alone_at (out-Raw r)

-- a part beside its pieces
abbrev pub PartWithPieces : Type 0
PartWithPieces = Raw × List Piece

-- an operand: in parentheses, unless it stands alone
abbrev pub operand_pieces : PartWithPieces → List Piece
operand_pieces p = if stands_alone p.0 then p.1 else in_round p.1

abbrev pub bare : List PartWithPieces → List (List Piece)
bare parts = map (λ p. p.1) parts

-- An operator, by its sign: before one operand or behind it ..
abbrev pub unary : Symbol → Piece → PartWithPieces → List Piece
unary sym.Converse sign a = operand_pieces a ++ sign ∷ []
unary x sign a = sign ∷ operand_pieces a

-- .. behind the first of two, with the second one behind it or in brackets ..
abbrev pub second : Symbol → Piece → PartWithPieces → List Piece
second (sym.Open bracket.Round) sign b = in_round b.1
second (sym.Open bracket.Square) sign b = in_square b.1
second x sign b = Blank ∷ sign ∷ Blank ∷ operand_pieces b

-- .. or alone. No formula that is read has other operands.
abbrev pub operation_pieces : Symbol → Piece → List PartWithPieces → List Piece
operation_pieces x sign [] = sign ∷ []
operation_pieces x sign (a ∷ []) = unary x sign a
operation_pieces x sign (a ∷ b ∷ []) = operand_pieces a ++ second x sign b
operation_pieces x sign _ = []

-- a word before parts in parentheses, a set of members, or an operator with its operands
abbrev pub form : Symbol → Piece → List PartWithPieces → List Piece
form (sym.Call c o) sign parts = sign ∷ in_round (separated_pieces (bare parts))
form (sym.Open bracket.Brace) sign parts = in_braces (separated_pieces (bare parts))
form x sign parts = operation_pieces x sign parts

abbrev pub node_pieces : RawOp → List PartWithPieces → List Piece
node_pieces o parts = form (raw_class_of o) (operator_piece o) parts

-- the type behind a name
abbrev pub declared_type : Option PartWithPieces → List Piece
declared_type None = []
declared_type (Some t) = typing_piece ∷ operand_pieces t

-- a name that is bound, with its type where that is written
abbrev pub declaration : List ℕ → Option PartWithPieces → List Piece
declaration name t = word_piece name ∷ declared_type t

abbrev pub names_in_parts : List ℕ → ℕ
names_in_parts (l ∷ r ∷ []) = l + r
names_in_parts _ = 0

abbrev pub names_in_step : Raw-F ℕ ℕ → ℕ
names_in_step (Name x place) = 1
names_in_step (Node o parts place) = names_in_parts parts
names_in_step _ = 0

-- how many names a pattern has
abbrev pub pattern_name_count : Raw → ℕ
pattern_name_count = fold-Raw ℕ ℕ names_in_step (λ b. 0)

-- the pieces of a pattern, whose names stand at the front of a list
abbrev pub PatternPrinter : Type 0
PatternPrinter = List (List Piece) → List Piece

abbrev pub first_name : PatternPrinter
first_name [] = []
first_name (name ∷ names) = name

abbrev pub side : Raw × PatternPrinter → PatternPrinter
side p names = operand_pieces (p.0, p.1 names)

abbrev pub pattern_of_parts : List (Raw × PatternPrinter) → PatternPrinter
pattern_of_parts (l ∷ r ∷ []) names =
    sign_between (side l names) (sign_piece op.Maplet) (side r (drop (pattern_name_count l.0) names))
pattern_of_parts _ names = []

abbrev pub pattern_step : Raw-F (Raw × PatternPrinter) (RawBound-F Raw (Unit {0}) × Unit {0}) → PatternPrinter
pattern_step (Name x place) names = first_name names
pattern_step (Node o parts place) names = pattern_of_parts parts names
pattern_step _ names = []

-- the pattern of λ: names with their types, and ↦ between patterns
abbrev pub pattern : Raw → PatternPrinter
pattern = para-Raw PatternPrinter (Unit {0}) pattern_step (λ b. tt)

-- a predicate, or two parts with a bar between them
abbrev pub body_pieces : List PartWithPieces → List Piece
body_pieces (p ∷ []) = p.1
body_pieces (p ∷ e ∷ []) = sign_between p.1 bar_piece e.1
body_pieces _ = []

-- braces are closed
abbrev pub ending : Symbol → List Piece
ending (sym.Open b) = close_brace_piece ∷ []
ending _ = []

abbrev pub lambda_pieces : List (List Piece) → List PartWithPieces → List Piece
lambda_pieces names [] = []
lambda_pieces names (tree ∷ parts) = pattern tree.0 names ++ (dot_piece ∷ body_pieces parts)

-- what stands behind the sign of a binder
abbrev pub scope : RawBinder → List (List Piece) → List PartWithPieces → List Piece
scope (rawbinder.Plain b) names parts = separated_pieces names ++ (dot_piece ∷ body_pieces parts)
scope rawbinder.Lambda names parts = lambda_pieces names parts
scope (rawbinder.Implicit b) names parts = body_pieces parts

abbrev pub bind_pieces : RawBinder → List (List Piece) → List PartWithPieces → List Piece
bind_pieces b names parts = binder_piece b ∷ (scope b names parts ++ ending (raw_binder_class_of b))

abbrev pub pieces_step : Raw-F PartWithPieces (RawBound-F Raw (Unit {0}) × List Piece) → List Piece
pieces_step (Int n place) = Token (sym.Number n) (signed_decimal n) ∷ []
pieces_step (Name x place) = word_piece x ∷ []
pieces_step (Node o parts place) = node_pieces o parts
pieces_step (Bind b names parts place) = bind_pieces b (map (λ n. n.1) names) parts

abbrev pub declaration_step : RawBound-F PartWithPieces (RawBound-F Raw (Unit {0}) × List Piece) → List Piece
declaration_step b = declaration b.name b.ty

-- the pieces of a formula
abbrev pub pieces : Raw → List Piece
pieces = para-Raw (List Piece) (List Piece) pieces_step declaration_step

-- a name that is assigned, and more of them
abbrev pub target : Ref → List Piece
target r = word_piece r.name ∷ []

abbrev pub targets : List Ref → List Piece
targets refs = separated_pieces (map target refs)

-- the pieces of an action
abbrev pub action_pieces : RawAction → List Piece
action_pieces (Assign names values) = sign_between (targets names) becomes (separated_pieces (map pieces values))
action_pieces (Apply f a e) = sign_between (word_piece f.name ∷ in_round (pieces a)) becomes (pieces e)
action_pieces (ChooseIn x s) = sign_between (word_piece x.name ∷ []) becomes_in (pieces s)
action_pieces (ChooseSuch names p) = sign_between (targets names) becomes_such (pieces p)

-- the tokens of the printed formula, and its text
abbrev pub raw_tokens : Raw → List Item
raw_tokens r = tokens_of (pieces r)

abbrev pub raw_text : Raw → List ℕ
raw_text r = text_of (pieces r)

-- the same of an action
abbrev pub action_tokens : RawAction → List Item
action_tokens a = tokens_of (action_pieces a)

abbrev pub action_text : RawAction → List ℕ
action_text a = text_of (action_pieces a)
