-- Connectives, relations, negations and operators with one operand: what they read.
use Rattle.std.proofs.Common.{◌≡◌, ◌∙◌, sym as back, ap, subst, refl, ℕ, Bool, true, false, ◌&&◌, List, [], ◌∷◌, ◌++◌, nat_le, nat_lt, Some, None}
use Rattle.std.specs.Prelude.{not}
use Rattle.formula_core.specs.declared.ty.Ty.{Ty}
use Rattle.formula_core.specs.declared.op.Op.{Op}
use Rattle.formula_core.specs.declared.op.Op.TheVariants as op
use Rattle.formula_core.specs.declared.row.Row.TheVariants as row
use Rattle.formula_core.specs.declared.row.BinaryRow.TheVariants as binary
use Rattle.formula_core.specs.declared.formula.Formula.{Formula, out-Formula}
use Rattle.formula_core.specs.declared.formula.Formula.TheOpen.{Formula-F}
use Rattle.formula_core.specs.declared.raw.RawOp.{RawOp}
use Rattle.formula_core.specs.declared.raw.RawOp.TheVariants as rawop
use Rattle.formula_core.specs.declared.raw.Raw.{Raw}
use Rattle.formula_core.specs.declared.raw.Raw.TheVariants as raw
use Rattle.formula_core.specs.Rows.{row_of}
use Rattle.formula_core.specs.Types.{is_value_type}
use Rattle.formula_core.specs.Wellness.{type_of}
use Rattle.math_grammar.specs.declared.holes.Grade.{Grade}
use Rattle.math_grammar.specs.declared.holes.Grade.TheVariants as grade
use Rattle.math_grammar.specs.declared.holes.Hole.TheVariants as hole
use Rattle.math_grammar.specs.declared.levels.Level.{Level as Sort}
use Rattle.math_grammar.specs.declared.levels.Level.TheVariants as sort
use Rattle.math_grammar.specs.declared.levels.Prefix.TheVariants as pre
use Rattle.math_grammar.specs.declared.levels.Bracket.TheVariants as bracket
use Rattle.math_grammar.specs.declared.symbols.Symbol.{Symbol}
use Rattle.math_grammar.specs.declared.symbols.Symbol.TheVariants as sym
use Rattle.math_grammar.specs.Levels.{rank, suffixes, level, right_of, takes_left, least, fits, infix_of}
use Rattle.math_grammar.specs.Tokens.{Item}
use Rattle.math_grammar.specs.Grammar.{between, Reads}
use Rattle.math_grammar.specs.Characters.{bytes}
use Rattle.math_grammar.specs.Operators.{sign_of, class_of}
use Rattle.formula_print.specs.declared.levels.Side.{Side}
use Rattle.formula_print.specs.declared.levels.Side.TheVariants as side
use Rattle.formula_print.specs.Levels.{level_of, formula_level, is_relation, is_same_connective, is_enclosed, goes_on_left, goes_on_at, formula_level_at, needs_parentheses}
use Rattle.formula_print.specs.Written.{written, operator_raw}
use Rattle.token_text.specs.Pieces.{Piece, Token, tokens_of, close_round_piece, close_square_piece, not_piece, sign_piece, in_round, in_square, sign_between}
use Rattle.token_text.proofs.Pieces.{token_before}
use Rattle.formula_print.specs.Printing.{PrintedPart, printed_operand, printed_operator, printed}
use Rattle.math_print.proofs.Grades.{operator_grade, grade_of, grade_at}
use Rattle.math_print.proofs.Tables.{quiet_at, left_of_implication, left_of_equivalence, left_of_and, left_of_or, right_of_implication, right_of_junction, top, ends, le_through, quieter, least_value, quiet, left_value, sign_rank, value_at, left_is_tight, right_is_tight, left_is_quiet, right_is_quiet, goes_on_chained}
use Rattle.math_print.proofs.Readings.{Whole, round_grade, rounded, in_brackets, infix_form, prefix_form, apply_form, image_form, converse_form}
use Rattle.math_print.proofs.Infixes.{IsRead, both_true, grouped_value, grouped_predicate, rank_most}
use Rattle.math_print.proofs.TypeReadings.{fits_value}

-- a connective, with its sign between its operands
pub record IsConnective (o : Op) : Type 0 where
  pub l : Sort
  pub takes : (x : Formula-F Formula) → nat_lt 3 (rank (grade_at x)) ≡ false → is_enclosed (level_of o) (formula_level_at x) (goes_on_at o x) ≡ false → takes_left l (grade_at x) ≡ true
  pub takes_literal : takes_left l grade.Literal ≡ true
  pub fitting : (x : Formula-F Formula) → nat_lt 3 (rank (grade_at x)) ≡ false → is_enclosed (level_of o) (formula_level_at x) false ≡ false → fits (right_of l) (grade_at x) ≡ true
  pub fits_literal : fits (right_of l) grade.Literal ≡ true
  pub its_row : row_of o ≡ row.Binary binary.Connective
  pub of_predicate : nat_lt 3 (rank (operator_grade o)) ≡ false
  pub graded : (g : Grade) → level l g ≡ operator_grade o
  pub sign : infix_of (class_of o) ≡ Some (l, rawop.Plain o)
  pub calm : nat_lt (quiet (level_of o)) (least (right_of l)) ≡ true
  pub reached : nat_le (top (class_of o)) (sign_rank (level_of o)) ≡ true
  pub unrelated : is_relation (level_of o) ≡ false
  pub tokens : (a b : PrintedPart) (t : Ty) (d : ℕ) → printed_operator o (sign_piece o) (a ∷ b ∷ []) t d ≡ sign_between (printed_operand o side.Left a d) (sign_piece o) (printed_operand o side.Right b d)
  pub tree : (a b : Raw) (t : Ty) → operator_raw o (a ∷ b ∷ []) t ≡ raw.Node (rawop.Plain o) (a ∷ b ∷ []) 0

module _ (names : List (List ℕ)) (d : ℕ) (o : Op) (i : IsConnective o) where
  abbrev enclosed : Side → Formula → Bool
  enclosed s a = is_enclosed (level_of o) (formula_level a) (goes_on_left o s a)

  needed : (s : Side) (a : Formula) → needs_parentheses o s a ≡ enclosed s a
  needed s a = ap (λ b. not b && enclosed s a) i.unrelated

  left_takes : (a : Formula) → nat_lt 3 (rank (grade_of a)) ≡ false → (b : Bool) → enclosed side.Left a ≡ b → takes_left i.l (round_grade b (grade_of a)) ≡ true
  left_takes a v true e = ap (takes_left i.l) (grouped_predicate (grade_of a) v) ∙ i.takes_literal
  left_takes a v false e = i.takes (out-Formula a) v e

  right_fits : (a : Formula) → nat_lt 3 (rank (grade_of a)) ≡ false → (b : Bool) → enclosed side.Right a ≡ b → fits (right_of i.l) (round_grade b (grade_of a)) ≡ true
  right_fits a v true e = ap (fits (right_of i.l)) (grouped_predicate (grade_of a) v) ∙ i.fits_literal
  right_fits a v false e = i.fitting (out-Formula a) v e

  abbrev left_pieces : Formula → List Piece
  left_pieces a = printed_operand o side.Left (a, printed names a) d

  abbrev right_pieces : Formula → List Piece
  right_pieces a = printed_operand o side.Right (a, printed names a) d

  pub connective_reads : (a b : Formula) (t : Ty) → IsRead names d a → IsRead names d b → is_value_type (type_of a) ≡ false → is_value_type (type_of b) ≡ false
      → Whole (quiet (level_of o)) (operator_grade o) (printed_operator o (sign_piece o) ((a, printed names a) ∷ (b, printed names b) ∷ []) t d) (operator_raw o (written names a d ∷ written names b d ∷ []) t)
  connective_reads a b t ra rb va vb rest q =
      let na : Bool = needs_parentheses o side.Left a in
      let nb : Bool = needs_parentheses o side.Right b in
      let ga : Grade = round_grade na (grade_of a) in
      let gb : Grade = round_grade nb (grade_of b) in
      let after : List Item = token_before (sign_piece o) (tokens_of (right_pieces b) ++ rest) in
      let first : Reads None ga (tokens_of (left_pieces a) ++ after) (written names a d) after
      = rounded na (quiet (formula_level a)) (grade_of a) (printed names a false d) (written names a d) ra.plain after (λ e.
      le_through (top (class_of o)) (sign_rank (level_of o)) (quiet (formula_level a)) i.reached
      (left_is_quiet (level_of o) (formula_level a) (goes_on_left o side.Left a) (back (needed side.Left a) ∙ e))) in
      let second : Reads None gb (tokens_of (right_pieces b) ++ rest) (written names b d) rest
      = rounded nb (quiet (formula_level b)) (grade_of b) (printed names b false d) (written names b d) rb.plain rest (λ e.
      quieter (quiet (level_of o)) (quiet (formula_level b)) rest (right_is_quiet (level_of o) (formula_level b) (back (needed side.Right b) ∙ e)) q) in
      let whole : Reads None (level i.l ga) (tokens_of (sign_between (left_pieces a) (sign_piece o) (right_pieces b)) ++ rest) (between (rawop.Plain o) (written names a d) (written names b d)) rest
      = infix_form i.l (rawop.Plain o) (class_of o) (sign_of o) ga gb (left_pieces a) (right_pieces b) rest (written names a d) (written names b d) i.sign
      (left_takes a (ra.sorted ∙ va) na (back (needed side.Left a))) (right_fits b (rb.sorted ∙ vb) nb (back (needed side.Right b)))
      (ends (right_of i.l) gb (quiet (level_of o)) rest i.calm q) first second in
      let tree : between (rawop.Plain o) (written names a d) (written names b d) ≡ operator_raw o (written names a d ∷ written names b d ∷ []) t
      = ap (raw.Node (rawop.Plain o) (written names a d ∷ written names b d ∷ [])) ra.starts ∙ back (i.tree (written names a d) (written names b d) t) in
      let P : Grade → List Piece → Raw → Type 0 = λ g s r. Reads None g (tokens_of s ++ rest) r rest in
      let one : P (operator_grade o) (sign_between (left_pieces a) (sign_piece o) (right_pieces b)) (between (rawop.Plain o) (written names a d) (written names b d))
      = subst (λ g. P g (sign_between (left_pieces a) (sign_piece o) (right_pieces b)) (between (rawop.Plain o) (written names a d) (written names b d))) (i.graded ga) whole in
      let two : P (operator_grade o) (sign_between (left_pieces a) (sign_piece o) (right_pieces b)) (operator_raw o (written names a d ∷ written names b d ∷ []) t)
      = subst (λ r. P (operator_grade o) (sign_between (left_pieces a) (sign_piece o) (right_pieces b)) r) tree one in
      subst (λ s. P (operator_grade o) s (operator_raw o (written names a d ∷ written names b d ∷ []) t)) (back (i.tokens (a, printed names a) (b, printed names b) t d)) two

pub connective-Implies : IsConnective op.Implies
connective-Implies = record { l = sort.Implication; takes = left_of_implication; takes_literal = refl; fitting = right_of_implication; fits_literal = refl; its_row = refl; of_predicate = refl; graded = λ g. refl; sign = refl; calm = refl; reached = refl; unrelated = refl; tokens = λ a b t d. refl; tree = λ a b t. refl }

pub connective-Equivalent : IsConnective op.Equivalent
connective-Equivalent = record { l = sort.Implication; takes = left_of_equivalence; takes_literal = refl; fitting = right_of_implication; fits_literal = refl; its_row = refl; of_predicate = refl; graded = λ g. refl; sign = refl; calm = refl; reached = refl; unrelated = refl; tokens = λ a b t d. refl; tree = λ a b t. refl }

pub connective-And : IsConnective op.And
connective-And = record { l = sort.Conjunction; takes = left_of_and; takes_literal = refl; fitting = right_of_junction; fits_literal = refl; its_row = refl; of_predicate = refl; graded = λ g. refl; sign = refl; calm = refl; reached = refl; unrelated = refl; tokens = λ a b t d. refl; tree = λ a b t. refl }

pub connective-Or : IsConnective op.Or
connective-Or = record { l = sort.Disjunction; takes = left_of_or; takes_literal = refl; fitting = right_of_junction; fits_literal = refl; its_row = refl; of_predicate = refl; graded = λ g. refl; sign = refl; calm = refl; reached = refl; unrelated = refl; tokens = λ a b t d. refl; tree = λ a b t. refl }

takes_value : (g : Grade) → nat_lt 3 (rank g) ≡ true → takes_left sort.Relation g ≡ true
takes_value grade.Implication h = cc
takes_value grade.Conjunction h = cc
takes_value grade.Disjunction h = cc
takes_value grade.Literal h = cc
takes_value _ h = refl

suffix_value : (g : Grade) → nat_le 15 (rank g) ≡ true → suffixes hole.Operand g ≡ true
suffix_value g h = both_true _ _ (le_through 14 15 (rank g) refl h) refl

-- what is denied in parentheses ..
pub negated_form : (n : ℕ) (g : Grade) (s : List Piece) (t : Raw) → Whole n g s t → nat_lt 3 (rank g) ≡ false → Whole 2 grade.Literal (not_piece ∷ in_round s) (raw.Node (rawop.Plain op.Not) (t ∷ []) 0)
negated_form n g s t whole p rest q =
    let inner : Reads None grade.Literal (tokens_of (in_round s) ++ rest) t rest
    = let P : Grade → Type 0 = λ k. Reads None k (tokens_of (in_round s) ++ rest) t rest in subst P (grouped_predicate g p) (in_brackets n g s t whole rest) in
    prefix_form pre.Not sym.Not (bytes "¬") grade.Literal (in_round s) rest t refl refl (ends hole.Literal grade.Literal 2 rest refl q) inner

-- .. and what needs none
pub bare_negated_form : (n : ℕ) (s : List Piece) (t : Raw) → nat_le 2 n ≡ true → Whole n grade.Literal s t → Whole 2 grade.Literal (not_piece ∷ s) (raw.Node (rawop.Plain op.Not) (t ∷ []) 0)
bare_negated_form n s t low whole rest q =
    prefix_form pre.Not sym.Not (bytes "¬") grade.Literal s rest t refl refl (ends hole.Literal grade.Literal 2 rest refl q) (whole rest (quieter 2 n rest low q))

module _ (names : List (List ℕ)) (d : ℕ) where
  abbrev own : Formula → List Piece
  own a = printed names a false d

  pub relation_reads : (o : RawOp) (x : Symbol) (w : List ℕ) → infix_of x ≡ Some (sort.Relation, o) → top x ≡ 3 → (a b : Formula) → IsRead names d a → IsRead names d b
      → is_value_type (type_of a) ≡ true → is_value_type (type_of b) ≡ true → Whole 2 grade.Literal (sign_between (own a) (Token x w) (own b)) (raw.Node o (written names a d ∷ written names b d ∷ []) 0)
  relation_reads o x w is three a b ra rb va vb rest q =
      let ea : nat_lt 3 (rank (grade_of a)) ≡ true = ra.sorted ∙ va in
      let eb : nat_lt 3 (rank (grade_of b)) ≡ true = rb.sorted ∙ vb in
      let after : List Item = token_before (Token x w) (tokens_of (own b) ++ rest) in
      let whole : Reads None grade.Literal (tokens_of (sign_between (own a) (Token x w) (own b)) ++ rest) (between o (written names a d) (written names b d)) rest
      = infix_form sort.Relation o x w (grade_of a) (grade_of b) (own a) (own b) rest (written names a d) (written names b d) is (takes_value (grade_of a) ea) (fits_value (grade_of b) eb)
      (ends hole.Expression (grade_of b) 2 rest refl q) (ra.plain after (ap (λ k. nat_le k (quiet (formula_level a))) three ∙ quiet_at (out-Formula a) ea))
      (rb.plain rest (quieter 2 (quiet (formula_level b)) rest (le_through 2 3 (quiet (formula_level b)) refl (quiet_at (out-Formula b) eb)) q)) in
      let P : ℕ → Type 0 = λ p. Reads None grade.Literal (tokens_of (sign_between (own a) (Token x w) (own b)) ++ rest) (raw.Node o (written names a d ∷ written names b d ∷ []) p) rest in
      subst P ra.starts whole

  -- −, before a term
  negative_fits : (a : Formula) → nat_lt 3 (rank (grade_of a)) ≡ true → (b : Bool) → is_enclosed (level_of op.Negate) (formula_level a) false ≡ b → fits hole.Term (round_grade b (grade_of a)) ≡ true
  negative_fits a v true e = ap (fits hole.Term) (grouped_value (grade_of a) v)
  negative_fits a v false e =
      both_true _ _
      (le_through 11 (least_value (formula_level a)) (rank (grade_of a)) (right_is_tight (level_of op.Negate) (formula_level a) e) (value_at (out-Formula a) v))
      (rank_most (grade_of a))

  pub negative_reads : (a : Formula) → IsRead names d a → is_value_type (type_of a) ≡ true
      → Whole 9 grade.Negative (sign_piece op.Negate ∷ printed_operand op.Negate side.Right (a, printed names a) d) (raw.Node (rawop.Plain op.Negate) (written names a d ∷ []) 0)
  negative_reads a ra va rest q =
      let needed : Bool = needs_parentheses op.Negate side.Right a in
      let g : Grade = round_grade needed (grade_of a) in
      prefix_form pre.Minus sym.Minus (sign_of op.Negate) g (printed_operand op.Negate side.Right (a, printed names a) d) rest (written names a d) refl (negative_fits a (ra.sorted ∙ va) needed refl)
      (ends hole.Term g 9 rest refl q)
      (rounded needed (quiet (formula_level a)) (grade_of a) (own a) (written names a d) ra.plain rest (λ e. quieter 9 (quiet (formula_level a)) rest (right_is_quiet (level_of op.Negate) (formula_level a) e) q))

  -- what stands before a bracket or ∼
  tight_suffix : (o : Op) → level_of o ≡ level_of op.Apply → ((left : Op) → is_same_connective o left ≡ false) → (a : Formula) → nat_lt 3 (rank (grade_of a)) ≡ true → (b : Bool)
      → is_enclosed (level_of o) (formula_level a) (goes_on_left o side.Left a) ≡ b → suffixes hole.Operand (round_grade b (grade_of a)) ≡ true
  tight_suffix o is alone a v true e = ap (suffixes hole.Operand) (grouped_value (grade_of a) v)
  tight_suffix o is alone a v false e =
      suffix_value (grade_of a)
      (le_through 15 (least_value (formula_level a)) (rank (grade_of a))
      (ap (λ l. nat_le (left_value l) (least_value (formula_level a))) (back is)
      ∙ left_is_tight (level_of o) (formula_level a) (goes_on_left o side.Left a) (goes_on_chained o side.Left a alone) e) (value_at (out-Formula a) v))

  before_suffix : (o : Op) → level_of o ≡ level_of op.Apply → needs_parentheses o side.Left ≡ (λ a. is_enclosed (level_of o) (formula_level a) (goes_on_left o side.Left a)) → (a : Formula) → IsRead names d a → (x : Symbol) (w : List ℕ) (m : List Item) → nat_le (top x) 14 ≡ true
      → Reads None (round_grade (needs_parentheses o side.Left a) (grade_of a)) (tokens_of (printed_operand o side.Left (a, printed names a) d) ++ token_before (Token x w) m) (written names a d) (token_before (Token x w) m)
  before_suffix o is plain a ra x w m low =
      rounded (needs_parentheses o side.Left a) (quiet (formula_level a)) (grade_of a) (own a) (written names a d) ra.plain (token_before (Token x w) m) (λ e.
      le_through (top x) 14 (quiet (formula_level a)) low
      (ap (λ l. nat_le (sign_rank l) (quiet (formula_level a))) (back is) ∙ left_is_quiet (level_of o) (formula_level a) (goes_on_left o side.Left a) (ap (λ f. f a) (back plain) ∙ e)))

  pub converse_reads : (a : Formula) → IsRead names d a → is_value_type (type_of a) ≡ true
      → Whole 14 grade.Suffixed (printed_operand op.Converse side.Left (a, printed names a) d ++ (sign_piece op.Converse ∷ [])) (raw.Node (rawop.Plain op.Converse) (written names a d ∷ []) 0)
  converse_reads a ra va rest q =
      let P : ℕ → Type 0 = λ p. Reads None grade.Suffixed (tokens_of (printed_operand op.Converse side.Left (a, printed names a) d ++ (sign_piece op.Converse ∷ [])) ++ rest) (raw.Node (rawop.Plain op.Converse) (written names a d ∷ []) p) rest in
      subst P ra.starts (converse_form (round_grade (needs_parentheses op.Converse side.Left a) (grade_of a)) (printed_operand op.Converse side.Left (a, printed names a) d) (sign_of op.Converse) (written names a d) rest
      (tight_suffix op.Converse refl (λ left. refl) a (ra.sorted ∙ va) (needs_parentheses op.Converse side.Left a) refl) (before_suffix op.Converse refl refl a ra sym.Converse (sign_of op.Converse) rest refl))

  pub apply_reads : (a b : Formula) → IsRead names d a → IsRead names d b → is_value_type (type_of a) ≡ true → is_value_type (type_of b) ≡ true
      → Whole 14 grade.Suffixed (printed_operand op.Apply side.Left (a, printed names a) d ++ in_round (own b)) (raw.Node (rawop.Plain op.Apply) (written names a d ∷ written names b d ∷ []) 0)
  apply_reads a b ra rb va vb rest q =
      let P : ℕ → Type 0 = λ p. Reads None grade.Suffixed (tokens_of (printed_operand op.Apply side.Left (a, printed names a) d ++ in_round (own b)) ++ rest) (raw.Node (rawop.Plain op.Apply) (written names a d ∷ written names b d ∷ []) p) rest in
      subst P ra.starts (apply_form (round_grade (needs_parentheses op.Apply side.Left a) (grade_of a)) (grade_of b) (printed_operand op.Apply side.Left (a, printed names a) d) (quiet (formula_level b)) (own b) (written names a d) (written names b d) rest
      (tight_suffix op.Apply refl (λ left. refl) a (ra.sorted ∙ va) (needs_parentheses op.Apply side.Left a) refl) (fits_value (grade_of b) (rb.sorted ∙ vb))
      (before_suffix op.Apply refl refl a ra (sym.Open bracket.Round) (bytes "(") (tokens_of (own b) ++ token_before close_round_piece rest) refl) rb.plain)

  pub image_reads : (a b : Formula) → IsRead names d a → IsRead names d b → is_value_type (type_of a) ≡ true → is_value_type (type_of b) ≡ true
      → Whole 14 grade.Suffixed (printed_operand op.Image side.Left (a, printed names a) d ++ in_square (own b)) (raw.Node (rawop.Plain op.Image) (written names a d ∷ written names b d ∷ []) 0)
  image_reads a b ra rb va vb rest q =
      let P : ℕ → Type 0 = λ p. Reads None grade.Suffixed (tokens_of (printed_operand op.Image side.Left (a, printed names a) d ++ in_square (own b)) ++ rest) (raw.Node (rawop.Plain op.Image) (written names a d ∷ written names b d ∷ []) p) rest in
      subst P ra.starts (image_form (round_grade (needs_parentheses op.Image side.Left a) (grade_of a)) (grade_of b) (printed_operand op.Image side.Left (a, printed names a) d) (quiet (formula_level b)) (own b) (written names a d) (written names b d) rest
      (tight_suffix op.Image refl (λ left. refl) a (ra.sorted ∙ va) (needs_parentheses op.Image side.Left a) refl) (fits_value (grade_of b) (rb.sorted ∙ vb))
      (before_suffix op.Image refl refl a ra (sym.Open bracket.Square) (bytes "[") (tokens_of (own b) ++ token_before close_square_piece rest) refl) rb.plain)
