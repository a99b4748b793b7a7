-- How the tokens of printed forms are read, one form at a time.
use Rattle.std.proofs.Common.{◌≡◌, ◌∙◌, sym as back, ap, subst, refl, ℕ, Bool, true, false, cond, List, [], ◌∷◌, ◌++◌, append_assoc, Some, None}
use Rattle.std.proofs.lemmas.List.{append-nil}
use Rattle.formula_core.specs.declared.op.Op.TheVariants as op
use Rattle.formula_core.specs.declared.raw.RawOp.{RawOp}
use Rattle.formula_core.specs.declared.raw.RawOp.TheVariants as rawop
use Rattle.formula_core.specs.declared.raw.Raw.{Raw}
use Rattle.formula_core.specs.declared.raw.Raw.TheVariants as raw
use Rattle.math_grammar.specs.declared.holes.Grade.{Grade}
use Rattle.math_grammar.specs.declared.holes.Grade.TheVariants as grade
use Rattle.math_grammar.specs.declared.holes.Hole.TheVariants as hole
use Rattle.math_grammar.specs.declared.levels.Level.{Level}
use Rattle.math_grammar.specs.declared.levels.Prefix.{Prefix}
use Rattle.math_grammar.specs.declared.levels.Bracket.TheVariants as bracket
use Rattle.math_grammar.specs.declared.levels.Call.{Call}
use Rattle.math_grammar.specs.declared.symbols.Symbol.{Symbol}
use Rattle.math_grammar.specs.declared.symbols.Symbol.TheVariants as sym
use Rattle.math_grammar.specs.Levels.{level, right_of, takes_left, fits, grouped, suffixes, infix_of, prefix_of, prefix_hole, prefix_grade, prefix_op, call_hole, call_grade}
use Rattle.math_grammar.specs.Tokens.{Item}
use Rattle.math_grammar.specs.Grammar.{place_of, between, Ends, Reads, prefixed, two_sides, in_parentheses, called, applied, converted, set_by_members, Parts, last_one, next_one}
use Rattle.token_text.specs.Pieces.{Piece, Blank, Token, tokens_of, open_round_piece, close_round_piece, open_square_piece, close_square_piece, open_brace_piece, close_brace_piece, comma_piece, in_round, in_square, in_braces, sign_between, behind_commas, separated_pieces}
use Rattle.token_text.proofs.Pieces.{tokens-behind, token_before}
use Rattle.formula_print.specs.Printing.{in_round_if}
use Rattle.math_print.proofs.Tables.{Quiet, zero_le}

-- pieces whose tokens are read whole, whatever follows that is quiet enough
abbrev pub Whole : ℕ → Grade → List Piece → Raw → Type 0
Whole n g ps t = (rest : List Item) → Quiet n rest → Reads None g (tokens_of ps ++ rest) t rest

-- something in parentheses, where it needs them
abbrev pub round_grade : Bool → Grade → Grade
round_grade needed g = cond needed (grouped g) g

pub in_brackets : (n : ℕ) (g : Grade) (ps : List Piece) (t : Raw) → Whole n g ps t → (rest : List Item) → Reads None (grouped g) (tokens_of (in_round ps) ++ rest) t rest
in_brackets n g ps t whole rest =
    let inner : Reads None g (tokens_of ps ++ token_before close_round_piece rest) t (token_before close_round_piece rest) = whole (token_before close_round_piece rest) (zero_le n) in
    let P : List Item → Type 0 = λ l. Reads None (grouped g) (token_before open_round_piece l) t rest in
    subst P (back (tokens-behind ps (close_round_piece ∷ []) rest)) (in_parentheses inner refl)

pub rounded : (needed : Bool) (n : ℕ) (g : Grade) (ps : List Piece) (t : Raw) → Whole n g ps t → (rest : List Item) → (needed ≡ false → Quiet n rest)
    → Reads None (round_grade needed g) (tokens_of (in_round_if needed ps) ++ rest) t rest
rounded true n g ps t whole rest q = in_brackets n g ps t whole rest
rounded false n g ps t whole rest q = whole rest (q refl)

-- two operands with a sign between them
pub infix_form : (l : Level) (o : RawOp) (x : Symbol) (w : List ℕ) (g h : Grade) (left right : List Piece) (rest : List Item) (a b : Raw) → infix_of x ≡ Some (l, o) → takes_left l g ≡ true
    → fits (right_of l) h ≡ true → Ends (right_of l) h rest
    → Reads None g (tokens_of left ++ token_before (Token x w) (tokens_of right ++ rest)) a (token_before (Token x w) (tokens_of right ++ rest)) → Reads None h (tokens_of right ++ rest) b rest
    → Reads None (level l g) (tokens_of (sign_between left (Token x w) right) ++ rest) (between o a b) rest
infix_form l o x w g h left right rest a b is takes fit end first second =
    let whole : Reads None (level l g) (tokens_of left ++ token_before (Token x w) (tokens_of right ++ rest)) (between o a b) rest = two_sides first is takes second fit end refl in
    let P : List Item → Type 0 = λ s. Reads None (level l g) s (between o a b) rest in
    subst P (back (tokens-behind left (Blank ∷ Token x w ∷ Blank ∷ right) rest)) whole

-- a sign before an operand
pub prefix_form : (q : Prefix) (x : Symbol) (w : List ℕ) (g : Grade) (ps : List Piece) (rest : List Item) (t : Raw) → prefix_of x ≡ Some q → fits (prefix_hole q) g ≡ true → Ends (prefix_hole q) g rest
    → Reads None g (tokens_of ps ++ rest) t rest → Reads None (prefix_grade q) (tokens_of (Token x w ∷ ps) ++ rest) (raw.Node (prefix_op q) (t ∷ []) 0) rest
prefix_form q x w g ps rest t is fit end inner = prefixed is inner fit end refl

-- a word before parentheses
pub call_form : (c : Call) (o : RawOp) (w : List ℕ) (n : ℕ) (g : Grade) (ps : List Piece) (t : Raw) → fits (call_hole c) g ≡ true → Whole n g ps t → (rest : List Item)
    → Reads None (call_grade c) (tokens_of (Token (sym.Call c o) w ∷ in_round ps) ++ rest) (raw.Node o (t ∷ []) 0) rest
call_form c o w n g ps t fit whole rest =
    let inner : Reads None g (tokens_of ps ++ token_before close_round_piece rest) t (token_before close_round_piece rest) = whole (token_before close_round_piece rest) (zero_le n) in
    let P : List Item → Type 0 = λ l. Reads None (call_grade c) (token_before (Token (sym.Call c o) w) (token_before open_round_piece l)) (raw.Node o (t ∷ []) 0) rest in
    subst P (back (tokens-behind ps (close_round_piece ∷ []) rest)) (called (last_one inner fit) refl)

-- an argument behind a formula
pub apply_form : (g h : Grade) (f : List Piece) (n : ℕ) (ps : List Piece) (a b : Raw) (rest : List Item) → suffixes hole.Operand g ≡ true → fits hole.Expression h ≡ true
    → Reads None g (tokens_of f ++ token_before open_round_piece (tokens_of ps ++ token_before close_round_piece rest)) a (token_before open_round_piece (tokens_of ps ++ token_before close_round_piece rest)) → Whole n h ps b
    → Reads None grade.Suffixed (tokens_of (f ++ in_round ps) ++ rest) (between (rawop.Plain op.Apply) a b) rest
apply_form g h f n ps a b rest suffix fit first whole =
    let P : List Item → Type 0 = λ l. Reads None grade.Suffixed l (between (rawop.Plain op.Apply) a b) rest in
    let all : P (tokens_of f ++ token_before open_round_piece (tokens_of ps ++ token_before close_round_piece rest)) = applied first refl suffix (whole (token_before close_round_piece rest) (zero_le n)) fit in
    subst P (ap (λ l. tokens_of f ++ token_before open_round_piece l) (back (tokens-behind ps (close_round_piece ∷ []) rest)) ∙ back (tokens-behind f (in_round ps) rest)) all

pub image_form : (g h : Grade) (f : List Piece) (n : ℕ) (ps : List Piece) (a b : Raw) (rest : List Item) → suffixes hole.Operand g ≡ true → fits hole.Expression h ≡ true
    → Reads None g (tokens_of f ++ token_before open_square_piece (tokens_of ps ++ token_before close_square_piece rest)) a (token_before open_square_piece (tokens_of ps ++ token_before close_square_piece rest)) → Whole n h ps b
    → Reads None grade.Suffixed (tokens_of (f ++ in_square ps) ++ rest) (between (rawop.Plain op.Image) a b) rest
image_form g h f n ps a b rest suffix fit first whole =
    let P : List Item → Type 0 = λ l. Reads None grade.Suffixed l (between (rawop.Plain op.Image) a b) rest in
    let all : P (tokens_of f ++ token_before open_square_piece (tokens_of ps ++ token_before close_square_piece rest)) = applied first refl suffix (whole (token_before close_square_piece rest) (zero_le n)) fit in
    subst P (ap (λ l. tokens_of f ++ token_before open_square_piece l) (back (tokens-behind ps (close_square_piece ∷ []) rest)) ∙ back (tokens-behind f (in_square ps) rest)) all

pub converse_form : (g : Grade) (f : List Piece) (w : List ℕ) (a : Raw) (rest : List Item) → suffixes hole.Operand g ≡ true
    → Reads None g (tokens_of f ++ token_before (Token sym.Converse w) rest) a (token_before (Token sym.Converse w) rest)
    → Reads None grade.Suffixed (tokens_of (f ++ Token sym.Converse w ∷ []) ++ rest) (raw.Node (rawop.Plain op.Converse) (a ∷ []) (place_of a)) rest
converse_form g f w a rest suffix first =
    let P : List Item → Type 0 = λ l. Reads None grade.Suffixed l (raw.Node (rawop.Plain op.Converse) (a ∷ []) (place_of a)) rest in
    subst P (back (tokens-behind f (Token sym.Converse w ∷ []) rest)) (converted first suffix)

-- pieces that are read as an expression
pub record IsValue (ps : List Piece) (t : Raw) : Type 0 where
  pub least : ℕ
  pub g : Grade
  pub whole : Whole least g ps t
  pub fit : fits hole.Expression g ≡ true

-- lists that are read as expressions, beside their trees
pub data AreValues : List (List Piece) → List Raw → Type 0 where
  none_more : AreValues [] []
  one_more : {ps : List Piece} {t : Raw} {pss : List (List Piece)} {ts : List Raw} → IsValue ps t → AreValues pss ts → AreValues (ps ∷ pss) (t ∷ ts)

-- what is separated by commas is read up to the brace
pub parts_form : (before : List Raw) (ps : List Piece) (t : Raw) (pss : List (List Piece)) (ts : List Raw) → IsValue ps t → AreValues pss ts → (rest : List Item)
    → Parts None hole.Expression None bracket.Brace before (tokens_of (ps ++ behind_commas pss) ++ token_before close_brace_piece rest) (before ++ (t ∷ ts)) rest
parts_form before ps t [] [] value none_more rest =
    let P : List Piece → Type 0 = λ l. Parts None hole.Expression None bracket.Brace before (tokens_of l ++ token_before close_brace_piece rest) (before ++ (t ∷ [])) rest in
    subst P (back (append-nil ps)) (last_one (value.whole (token_before close_brace_piece rest) (zero_le value.least)) value.fit)
parts_form before ps t [] (v ∷ ts) value values rest = elim values [ ]
parts_form before ps t (qs ∷ pss) [] value values rest = elim values [ ]
parts_form before ps t (qs ∷ pss) (v ∷ ts) value (one_more next more) rest =
    let after : List Item = token_before comma_piece (tokens_of (qs ++ behind_commas pss) ++ token_before close_brace_piece rest) in
    let later : Parts None hole.Expression None bracket.Brace (before ++ t ∷ []) (tokens_of (qs ++ behind_commas pss) ++ token_before close_brace_piece rest) ((before ++ t ∷ []) ++ (v ∷ ts)) rest
    = parts_form (before ++ t ∷ []) qs v pss ts next more rest in
    let P : List Raw → Type 0 = λ l. Parts None hole.Expression None bracket.Brace before (tokens_of ps ++ after) l rest in
    let all : P (before ++ (t ∷ v ∷ ts)) = subst P (append_assoc before (t ∷ []) (v ∷ ts)) (next_one refl (value.whole after (zero_le value.least)) value.fit later) in
    let R : List Item → Type 0 = λ l. Parts None hole.Expression None bracket.Brace before l (before ++ (t ∷ v ∷ ts)) rest in
    subst R (back (tokens-behind ps (behind_commas (qs ∷ pss)) (token_before close_brace_piece rest))) all

pub set_form : (ps : List Piece) (t : Raw) (pss : List (List Piece)) (ts : List Raw) → IsValue ps t → AreValues pss ts → (rest : List Item)
    → Reads None grade.Primary (tokens_of (in_braces (separated_pieces (ps ∷ pss))) ++ rest) (raw.Node (rawop.Plain op.SetExtension) (t ∷ ts) 0) rest
set_form ps t pss ts value values rest =
    let P : List Item → Type 0 = λ l. Reads None grade.Primary (token_before open_brace_piece l) (raw.Node (rawop.Plain op.SetExtension) (t ∷ ts) 0) rest in
    subst P (back (tokens-behind (separated_pieces (ps ∷ pss)) (close_brace_piece ∷ []) rest)) (set_by_members refl (parts_form [] ps t pss ts value values rest))
