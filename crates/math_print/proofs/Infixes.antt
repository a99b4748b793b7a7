-- The operators between two operands that are printed with a sign, and what they read.
use Rattle.std.proofs.Common.{◌≡◌, ◌∙◌, sym as back, ap, subst, refl, ℕ, Bool, true, false, ◌&&◌, ◌||◌, List, [], ◌∷◌, ◌++◌, nat_le, nat_lt, Some, None}
use Rattle.std.specs.Prelude.{not}
use Rattle.std.specs.List.{list_all}
use Rattle.formula_core.specs.declared.ty.Ty.{Ty}
use Rattle.formula_core.specs.declared.op.Op.{Op}
use Rattle.formula_core.specs.declared.op.Op.TheVariants as op
use Rattle.formula_core.specs.declared.op.TheConstants.{OPERATORS}
use Rattle.formula_core.specs.declared.row.Row.{Row}
use Rattle.formula_core.specs.declared.row.Row.TheVariants as row
use Rattle.formula_core.specs.declared.row.BinaryRow.{BinaryRow}
use Rattle.formula_core.specs.declared.formula.Formula.{Formula, out-Formula}
use Rattle.formula_core.specs.declared.raw.RawOp.TheVariants as rawop
use Rattle.formula_core.specs.declared.raw.Raw.{Raw}
use Rattle.formula_core.specs.declared.raw.Raw.TheVariants as raw
use Rattle.formula_core.specs.Rows.{row_of}
use Rattle.formula_core.specs.Schemes.{Scheme, truth, power, pair, binary_scheme}
use Rattle.formula_core.specs.Types.{is_value_type}
use Rattle.formula_core.specs.Wellness.{type_of}
use Rattle.math_grammar.specs.declared.holes.Grade.{Grade}
use Rattle.math_grammar.specs.declared.holes.Grade.TheVariants as grade
use Rattle.math_grammar.specs.declared.levels.Level.{Level as Sort}
use Rattle.math_grammar.specs.declared.levels.Level.TheVariants as sort
use Rattle.math_grammar.specs.declared.operators.Form.{Form}
use Rattle.math_grammar.specs.declared.operators.Form.TheVariants as form
use Rattle.math_grammar.specs.Levels.{rank, level, right_of, left_of, agrees, takes_left, least, most, fits, grouped, infix_of}
use Rattle.math_grammar.specs.Tokens.{Item}
use Rattle.math_grammar.specs.Grammar.{place_of, between, Reads}
use Rattle.math_grammar.specs.Operators.{sign_of, op_form, form_class, class_of}
use Rattle.token_text.specs.Pieces.{Piece, tokens_of, sign_piece, sign_between}
use Rattle.token_text.proofs.Operators.{passed}
use Rattle.token_text.proofs.Pieces.{token_before}
use Rattle.formula_print.specs.declared.levels.Side.{Side}
use Rattle.formula_print.specs.declared.levels.Side.TheVariants as side
use Rattle.formula_print.specs.Levels.{level_of, formula_level, is_relation, is_same_connective, is_enclosed, goes_on_left, needs_parentheses}
use Rattle.formula_print.specs.Printing.{PrintedPart, printed_operand, printed_operator, printed}
use Rattle.formula_print.specs.Written.{written, denied, operator_raw}
use Rattle.math_print.proofs.Grades.{form_grade, operator_grade, grade_of}
use Rattle.math_print.proofs.Tables.{sort_rank, top, ends, le_through, quieter, least_value, quiet, left_value, right_value, sign_rank, value_at, left_is_tight, right_is_tight, left_is_quiet, right_is_quiet, goes_on_chained}
use Rattle.math_print.proofs.Readings.{Whole, round_grade, rounded, infix_form}

-- How the tokens of a formula are read, as it stands and denied.
pub record IsRead (names : List (List ℕ)) (d : ℕ) (f : Formula) : Type 0 where
  pub sorted : nat_lt 3 (rank (grade_of f)) ≡ is_value_type (type_of f)
  pub starts : place_of (written names f d) ≡ 0
  pub plain : Whole (quiet (formula_level f)) (grade_of f) (printed names f false d) (written names f d)
  pub denied_too : is_value_type (type_of f) ≡ false → Whole 2 grade.Literal (printed names f true d) (denied (written names f d))

-- a scheme without the sort of predicates is a type of values
abbrev pub is_of_values : Scheme → Bool
is_of_values truth = false
is_of_values (power s) = is_of_values s
is_of_values (pair s u) = is_of_values s && is_of_values u
is_of_values _ = true

pub both_true : (a b : Bool) → a ≡ true → b ≡ true → (a && b) ≡ true
both_true true b h k = k
both_true false b h k = cc

pub grouped_value : (g : Grade) → nat_lt 3 (rank g) ≡ true → grouped g ≡ grade.Primary
grouped_value grade.Implication h = cc
grouped_value grade.Conjunction h = cc
grouped_value grade.Disjunction h = cc
grouped_value grade.Literal h = cc
grouped_value _ h = refl

pub grouped_predicate : (g : Grade) → nat_lt 3 (rank g) ≡ false → grouped g ≡ grade.Literal
grouped_predicate grade.Implication h = refl
grouped_predicate grade.Conjunction h = refl
grouped_predicate grade.Disjunction h = refl
grouped_predicate grade.Literal h = refl
grouped_predicate _ h = cc

pub rank_most : (g : Grade) → nat_le (rank g) 16 ≡ true
rank_most grade.Name = refl
rank_most _ = refl

-- an operator on values, with its sign between them
pub record IsInfix (o : Op) : Type 0 where
  pub l : Sort
  pub r : BinaryRow
  pub its_row : row_of o ≡ row.Binary r
  pub first : is_of_values (binary_scheme r).0 ≡ true
  pub second : is_of_values (binary_scheme r).1 ≡ true
  pub result : is_of_values (binary_scheme r).2 ≡ true
  pub of_value : nat_lt 3 (rank (operator_grade o)) ≡ true
  pub graded : (g : Grade) → level l g ≡ operator_grade o
  pub sign : infix_of (class_of o) ≡ Some (l, rawop.Plain o)
  pub agreeing : (g : Grade) → agrees l g ≡ true
  pub left : nat_le (left_of l) (left_value (level_of o)) ≡ true
  pub left_grouped : nat_le (left_of l) 15 ≡ true
  pub right : nat_le (least (right_of l)) (right_value (level_of o)) ≡ true
  pub right_grouped : nat_le (least (right_of l)) 15 ≡ true
  pub all : most (right_of l) ≡ 16
  pub calm : nat_lt (quiet (level_of o)) (least (right_of l)) ≡ true
  pub reached : nat_le (top (class_of o)) (sign_rank (level_of o)) ≡ true
  pub unrelated : is_relation (level_of o) ≡ false
  pub alone : (left : Op) → is_same_connective o left ≡ false
  pub tokens : (a b : PrintedPart) (t : Ty) (d : ℕ) → printed_operator o (sign_piece o) (a ∷ b ∷ []) t d ≡ sign_between (printed_operand o side.Left a d) (sign_piece o) (printed_operand o side.Right b d)
  pub tree : (a b : Raw) (t : Ty) → operator_raw o (a ∷ b ∷ []) t ≡ raw.Node (rawop.Plain o) (a ∷ b ∷ []) 0

module _ (names : List (List ℕ)) (d : ℕ) (o : Op) (i : IsInfix o) where
  abbrev enclosed : Side → Formula → Bool
  enclosed s a = is_enclosed (level_of o) (formula_level a) (goes_on_left o s a)

  needed : (s : Side) (a : Formula) → needs_parentheses o s a ≡ enclosed s a
  needed s a = ap (λ b. not b && enclosed s a) i.unrelated

  left_takes : (a : Formula) → nat_lt 3 (rank (grade_of a)) ≡ true → (b : Bool) → enclosed side.Left a ≡ b → takes_left i.l (round_grade b (grade_of a)) ≡ true
  left_takes a v true e = ap (takes_left i.l) (grouped_value (grade_of a) v) ∙ both_true _ _ i.left_grouped (i.agreeing grade.Primary)
  left_takes a v false e =
      both_true _ _
      (le_through (left_of i.l) (left_value (level_of o)) (rank (grade_of a)) i.left
      (le_through (left_value (level_of o)) (least_value (formula_level a)) (rank (grade_of a))
      (left_is_tight (level_of o) (formula_level a) (goes_on_left o side.Left a) (goes_on_chained o side.Left a i.alone) e) (value_at (out-Formula a) v)))
      (i.agreeing (grade_of a))

  right_fits : (a : Formula) → nat_lt 3 (rank (grade_of a)) ≡ true → (b : Bool) → enclosed side.Right a ≡ b → fits (right_of i.l) (round_grade b (grade_of a)) ≡ true
  right_fits a v true e = ap (fits (right_of i.l)) (grouped_value (grade_of a) v) ∙ both_true _ _ i.right_grouped (ap (nat_le 15) i.all)
  right_fits a v false e =
      both_true _ _
      (le_through (least (right_of i.l)) (right_value (level_of o)) (rank (grade_of a)) i.right
      (le_through (right_value (level_of o)) (least_value (formula_level a)) (rank (grade_of a)) (right_is_tight (level_of o) (formula_level a) e) (value_at (out-Formula a) v)))
      (ap (nat_le (rank (grade_of a))) i.all ∙ rank_most (grade_of a))

  abbrev left_pieces : Formula → List Piece
  left_pieces a = printed_operand o side.Left (a, printed names a) d

  abbrev right_pieces : Formula → List Piece
  right_pieces a = printed_operand o side.Right (a, printed names a) d

  pub infix_reads : (a b : Formula) (t : Ty) → IsRead names d a → IsRead names d b → is_value_type (type_of a) ≡ true → is_value_type (type_of b) ≡ true
      → Whole (quiet (level_of o)) (operator_grade o) (printed_operator o (sign_piece o) ((a, printed names a) ∷ (b, printed names b) ∷ []) t d) (operator_raw o (written names a d ∷ written names b d ∷ []) t)
  infix_reads a b t ra rb va vb rest q =
      let na : Bool = needs_parentheses o side.Left a in
      let nb : Bool = needs_parentheses o side.Right b in
      let ga : Grade = round_grade na (grade_of a) in
      let gb : Grade = round_grade nb (grade_of b) in
      let after : List Item = token_before (sign_piece o) (tokens_of (right_pieces b) ++ rest) in
      let first : Reads None ga (tokens_of (left_pieces a) ++ after) (written names a d) after
      = rounded na (quiet (formula_level a)) (grade_of a) (printed names a false d) (written names a d) ra.plain after (λ e.
      le_through (top (class_of o)) (sign_rank (level_of o)) (quiet (formula_level a)) i.reached
      (left_is_quiet (level_of o) (formula_level a) (goes_on_left o side.Left a) (back (needed side.Left a) ∙ e))) in
      let second : Reads None gb (tokens_of (right_pieces b) ++ rest) (written names b d) rest
      = rounded nb (quiet (formula_level b)) (grade_of b) (printed names b false d) (written names b d) rb.plain rest (λ e.
      quieter (quiet (level_of o)) (quiet (formula_level b)) rest (right_is_quiet (level_of o) (formula_level b) (back (needed side.Right b) ∙ e)) q) in
      let whole : Reads None (level i.l ga) (tokens_of (sign_between (left_pieces a) (sign_piece o) (right_pieces b)) ++ rest) (between (rawop.Plain o) (written names a d) (written names b d)) rest
      = infix_form i.l (rawop.Plain o) (class_of o) (sign_of o) ga gb (left_pieces a) (right_pieces b) rest (written names a d) (written names b d) i.sign
      (left_takes a (ra.sorted ∙ va) na (back (needed side.Left a))) (right_fits b (rb.sorted ∙ vb) nb (back (needed side.Right b)))
      (ends (right_of i.l) gb (quiet (level_of o)) rest i.calm q) first second in
      let tree : between (rawop.Plain o) (written names a d) (written names b d) ≡ operator_raw o (written names a d ∷ written names b d ∷ []) t
      = ap (raw.Node (rawop.Plain o) (written names a d ∷ written names b d ∷ [])) ra.starts ∙ back (i.tree (written names a d) (written names b d) t) in
      let P : Grade → List Piece → Raw → Type 0 = λ g s r. Reads None g (tokens_of s ++ rest) r rest in
      let one : P (operator_grade o) (sign_between (left_pieces a) (sign_piece o) (right_pieces b)) (between (rawop.Plain o) (written names a d) (written names b d))
      = subst (λ g. P g (sign_between (left_pieces a) (sign_piece o) (right_pieces b)) (between (rawop.Plain o) (written names a d) (written names b d))) (i.graded ga) whole in
      let two : P (operator_grade o) (sign_between (left_pieces a) (sign_piece o) (right_pieces b)) (operator_raw o (written names a d ∷ written names b d ∷ []) t)
      = subst (λ r. P (operator_grade o) (sign_between (left_pieces a) (sign_piece o) (right_pieces b)) r) tree one in
      subst (λ s. P (operator_grade o) s (operator_raw o (written names a d ∷ written names b d ∷ []) t)) (back (i.tokens (a, printed names a) (b, printed names b) t d)) two

-- the operators on values, by how they stand to their operands
abbrev pub joins_values : Form → Bool
joins_values (form.Infix l) = nat_le 5 (sort_rank l)
joins_values form.Minus = true
joins_values _ = false

abbrev sort_of : Form → Sort
sort_of (form.Infix l) = l
sort_of _ = sort.Additive

graded_so : (f : Form) → joins_values f ≡ true → (g : Grade) → level (sort_of f) g ≡ form_grade f
graded_so (form.Infix sort.Typing) h g = cc
graded_so (form.Infix _) h g = refl
graded_so form.Minus h g = refl
graded_so _ h g = cc

agreeing_so : (f : Form) → joins_values f ≡ true → (g : Grade) → agrees (sort_of f) g ≡ true
agreeing_so (form.Infix sort.Implication) h g = cc
agreeing_so (form.Infix sort.Conjunction) h g = cc
agreeing_so (form.Infix sort.Disjunction) h g = cc
agreeing_so (form.Infix _) h g = refl
agreeing_so form.Minus h g = refl
agreeing_so _ h g = cc

all_so : (f : Form) → joins_values f ≡ true → most (right_of (sort_of f)) ≡ 16
all_so (form.Infix sort.Implication) h = cc
all_so (form.Infix sort.Conjunction) h = cc
all_so (form.Infix sort.Disjunction) h = cc
all_so (form.Infix _) h = refl
all_so form.Minus h = refl
all_so _ h = cc

minus_is : (o : Op) → op_form o ≡ form.Minus → op.Minus ≡ o
minus_is op.Minus e = refl
minus_is _ e = cc

sign_so : (o : Op) → joins_values (op_form o) ≡ true → infix_of (class_of o) ≡ Some (sort_of (op_form o), rawop.Plain o)
sign_so o h = go (op_form o) refl h
  where
    go : (f : Form) → op_form o ≡ f → joins_values f ≡ true → infix_of (form_class (op_form o) o) ≡ Some (sort_of (op_form o), rawop.Plain o)
    go (form.Infix l) e h = let P : Form → Type 0 = λ f. infix_of (form_class f o) ≡ Some (sort_of f, rawop.Plain o) in subst P (back e) refl
    go form.Minus e h =
        let P : Form → Type 0 = λ f. infix_of (form_class f o) ≡ Some (sort_of f, rawop.Plain o) in
        subst P (back e) (ap (λ q. Some (sort.Additive, rawop.Plain q)) (minus_is o e))
    go _ e h = cc

abbrev values_row : Row → Bool
values_row (row.Binary r) = is_of_values (binary_scheme r).0 && (is_of_values (binary_scheme r).1 && is_of_values (binary_scheme r).2)
values_row _ = false

split : (a b : Bool) → (a && b) ≡ true → (a ≡ true) × (b ≡ true)
split true b h = (refl, h)
split false b h = cc

row_so : (o : Op) → joins_values (op_form o) ≡ true → (r : BinaryRow) × (row_of o ≡ row.Binary r) × (is_of_values (binary_scheme r).0 ≡ true) × (is_of_values (binary_scheme r).1 ≡ true) × (is_of_values (binary_scheme r).2 ≡ true)
row_so o h = go (row_of o) refl (passed (λ o. joins_values (op_form o)) (λ o. values_row (row_of o)) refl o h)
  where
    go : (x : Row) → row_of o ≡ x → values_row x ≡ true → (r : BinaryRow) × (row_of o ≡ row.Binary r) × (is_of_values (binary_scheme r).0 ≡ true) × (is_of_values (binary_scheme r).1 ≡ true) × (is_of_values (binary_scheme r).2 ≡ true)
    go (row.Binary r) e k =
        let first : (is_of_values (binary_scheme r).0 ≡ true) × ((is_of_values (binary_scheme r).1 && is_of_values (binary_scheme r).2) ≡ true) = split (is_of_values (binary_scheme r).0) _ k in
        let second : (is_of_values (binary_scheme r).1 ≡ true) × (is_of_values (binary_scheme r).2 ≡ true) = split (is_of_values (binary_scheme r).1) _ first.1 in
        (r, e, first.0, second.0, second.1)
    go _ e k = cc

alone_so : (o : Op) → joins_values (op_form o) ≡ true → (left : Op) → is_same_connective o left ≡ false
alone_so op.And h left = cc
alone_so op.Or h left = cc
alone_so _ h left = refl

tokens_so : (o : Op) → joins_values (op_form o) ≡ true → (a b : PrintedPart) (t : Ty) (d : ℕ) → printed_operator o (sign_piece o) (a ∷ b ∷ []) t d ≡ sign_between (printed_operand o side.Left a d) (sign_piece o) (printed_operand o side.Right b d)
tokens_so op.Apply h a b t d = cc
tokens_so op.Image h a b t d = cc
tokens_so op.SetExtension h a b t d = cc
tokens_so _ h a b t d = refl

tree_so : (o : Op) (a b : Raw) (t : Ty) → operator_raw o (a ∷ b ∷ []) t ≡ raw.Node (rawop.Plain o) (a ∷ b ∷ []) 0
tree_so op.Top a b t = refl
tree_so _ a b t = refl

of_values : (test : Op → Bool) → list_all (λ o. not (joins_values (op_form o)) || test o) OPERATORS ≡ true → (o : Op) → joins_values (op_form o) ≡ true → test o ≡ true
of_values test = passed (λ o. joins_values (op_form o)) test

denied_test : (b : Bool) → not b ≡ true → b ≡ false
denied_test true h = cc
denied_test false h = refl

pub infix_values : (o : Op) → joins_values (op_form o) ≡ true → IsInfix o
infix_values o h = record {
  l = sort_of (op_form o);
  r = (row_so o h).0;
  its_row = (row_so o h).1;
  first = (row_so o h).2;
  second = (row_so o h).3;
  result = (row_so o h).4;
  of_value = of_values (λ o. nat_lt 3 (rank (operator_grade o))) refl o h;
  graded = graded_so (op_form o) h;
  sign = sign_so o h;
  agreeing = agreeing_so (op_form o) h;
  left = of_values (λ o. nat_le (left_of (sort_of (op_form o))) (left_value (level_of o))) refl o h;
  left_grouped = of_values (λ o. nat_le (left_of (sort_of (op_form o))) 15) refl o h;
  right = of_values (λ o. nat_le (least (right_of (sort_of (op_form o)))) (right_value (level_of o))) refl o h;
  right_grouped = of_values (λ o. nat_le (least (right_of (sort_of (op_form o)))) 15) refl o h;
  all = all_so (op_form o) h;
  calm = of_values (λ o. nat_lt (quiet (level_of o)) (least (right_of (sort_of (op_form o))))) refl o h;
  reached = of_values (λ o. nat_le (top (class_of o)) (sign_rank (level_of o))) refl o h;
  unrelated = denied_test (is_relation (level_of o)) (of_values (λ o. not (is_relation (level_of o))) refl o h);
  alone = alone_so o h;
  tokens = tokens_so o h;
  tree = tree_so o;
}
