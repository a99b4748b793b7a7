-- How the tokens of types are read, and of names with types.
use Rattle.std.proofs.Common.{◌≡◌, ◌∙◌, sym as back, ap, subst, refl, ℕ, suc, ◌+◌, ◌<◌, ◌≤◌, Bool, true, false, ◌&&◌, List, [], ◌∷◌, ◌++◌, length, append_assoc, arith, nat_le, nat_lt, Some, None}
use Rattle.std.proofs.lemmas.List.{append-nil}
use Rattle.std.specs.Prelude.{is_some}
use Rattle.std.specs.List.{AllByRecursion}
use Rattle.formula_core.specs.Names.{is_name}
use Rattle.formula_core.specs.declared.ty.Ty.{Ty}
use Rattle.formula_core.specs.declared.ty.Ty.TheOpen.{Int as IntF, Bool as BoolF, Given as GivenF, Pow as PowF, Pair as PairF, Truth as TruthF}
use Rattle.formula_core.specs.declared.ty.Ty.TheVariants as ty
use Rattle.formula_core.specs.declared.ty.Ty.TheViews.{rolls-Int, rolls-Bool, rolls-Given, rolls-Pow, rolls-Pair, rolls-Truth, outs-Pair}
use Rattle.formula_core.specs.declared.op.Op.{Op}
use Rattle.formula_core.specs.declared.op.Op.TheVariants as op
use Rattle.formula_core.specs.declared.raw.RawOp.{RawOp}
use Rattle.formula_core.specs.declared.raw.RawOp.TheVariants as rawop
use Rattle.formula_core.specs.declared.raw.RawBound.{RawBound}
use Rattle.formula_core.specs.declared.raw.Raw.{Raw}
use Rattle.formula_core.specs.declared.raw.Raw.TheVariants as raw
use Rattle.formula_core.specs.declared.raw.Raw.TheViews.{outs-Name, outs-Node}
use Rattle.formula_core.specs.Types.{is_value_step, is_value_type, components_at, components}
use Rattle.formula_core.specs.Identifiers.{carriers}
use Rattle.formula_core.proofs.Equations.{type_fold, carriers-Given, carriers-Pow, carriers-Pair}
use Rattle.formula_core.proofs.Types.{type_induction}
use Rattle.formula_core.proofs.WholeSets.{value-Pow, value-Pair}
use Rattle.math_grammar.specs.declared.holes.Grade.{Grade}
use Rattle.math_grammar.specs.declared.holes.Grade.TheVariants as grade
use Rattle.math_grammar.specs.declared.holes.Hole.TheVariants as hole
use Rattle.math_grammar.specs.declared.levels.Level.TheVariants as lev
use Rattle.math_grammar.specs.declared.levels.Call.TheVariants as call
use Rattle.math_grammar.specs.declared.symbols.Symbol.{Symbol}
use Rattle.math_grammar.specs.declared.symbols.Symbol.TheVariants as sym
use Rattle.math_grammar.specs.Levels.{rank, fits}
use Rattle.math_grammar.specs.Tokens.{Item}
use Rattle.math_grammar.specs.Grammar.{place_at, place_of, between, Reads, a_name, a_constant, in_parentheses, last_side, Bound, of_type, Declares, last_name, next_name}
use Rattle.math_grammar.specs.Operators.{sign_of}
use Rattle.math_grammar.specs.Characters.{bytes}
use Rattle.token_text.specs.Pieces.{Piece, Token, tokens_of, word_piece, open_round_piece, close_round_piece, comma_piece, dot_piece, typing_piece, sign_piece, in_round, sign_between, behind_commas, separated_pieces}
use Rattle.token_text.proofs.Pieces.{tokens-behind, token_before}
use Rattle.formula_print.specs.Printing.{typed_constant, name_at, printed_declaration, printed_declarations}
use Rattle.formula_print.specs.Types.{right_of_product, type_pieces}
use Rattle.formula_print.specs.Written.{constant, type_raw_step, type_raw, typed_raw, declared_with_types}
use Rattle.formula_print.proofs.NamedScopes.{all_left, all_right}
use Rattle.formula_print.proofs.TypeTexts.{type_pieces-Int, type_pieces-Bool, type_pieces-Given, type_pieces-Pow, type_pieces-Pair}
use Rattle.math_print.proofs.Tables.{Quiet, ends, le_through}
use Rattle.math_print.proofs.Readings.{Whole, round_grade, rounded, infix_form, call_form}
use Rattle.math_print.proofs.Infixes.{both_true, grouped_value, rank_most}

-- a type is read as an expression, and as the right side of a product unless it is one
pub record IsTypeRead (t : Ty) : Type 0 where
  pub g : Grade
  pub whole : Whole 7 g (type_pieces t) (type_raw t)
  pub starts : place_of (type_raw t) ≡ 0
  pub loose : nat_le 7 (rank g) ≡ true
  pub tight : is_some (components t) ≡ false → nat_le 8 (rank g) ≡ true

abbrev pub AreNames : {A : Type 0} → List (List ℕ × A) → Type 0
AreNames xs = AllByRecursion (λ x. is_name x.0 ≡ true) xs

abbrev IsTypeReadBack : Ty → Type 0
IsTypeReadBack t = is_value_type t ≡ true → AreNames (carriers t) → IsTypeRead t

same_pieces : (n : ℕ) (g : Grade) (s s' : List Piece) (t t' : Raw) → s' ≡ s → t' ≡ t → Whole n g s t → Whole n g s' t'
same_pieces n g s s' t t' e h w = let P : List Piece → Raw → Type 0 = λ l r. Whole n g l r in subst (λ l. P l t') (back e) (subst (λ r. P s r) (back h) w)

place_node : (o : RawOp) (parts : List Raw) → place_of (raw.Node o parts 0) ≡ 0
place_node o parts = ap place_at (outs-Node o parts 0)

at_int : IsTypeReadBack ty.Int
at_int v names = record {
  g = grade.Primary;
  whole = same_pieces 7 grade.Primary (sign_piece op.Integers ∷ []) _ (constant op.Integers) _ type_pieces-Int (type_fold type_raw_step IntF ty.Int rolls-Int) (λ rest q. a_constant);
  starts = ap place_of (type_fold type_raw_step IntF ty.Int rolls-Int) ∙ place_node (rawop.Plain op.Integers) [];
  loose = refl;
  tight = λ h. refl;
}

at_bool : IsTypeReadBack ty.Bool
at_bool v names = record {
  g = grade.Primary;
  whole = same_pieces 7 grade.Primary (sign_piece op.Booleans ∷ []) _ (constant op.Booleans) _ type_pieces-Bool (type_fold type_raw_step BoolF ty.Bool rolls-Bool) (λ rest q. a_constant);
  starts = ap place_of (type_fold type_raw_step BoolF ty.Bool rolls-Bool) ∙ place_node (rawop.Plain op.Booleans) [];
  loose = refl;
  tight = λ h. refl;
}

at_given : (x : List ℕ) → IsTypeReadBack (ty.Given x)
at_given x v names =
    let named : is_name x ≡ true = (subst AreNames (carriers-Given x) names).0 in
    record {
      g = grade.Name;
      whole = same_pieces 7 grade.Name (word_piece x ∷ []) _ (raw.Name x 0) _ (type_pieces-Given x) (type_fold type_raw_step (GivenF x) (ty.Given x) (rolls-Given x)) (λ rest q. a_name named);
      starts = ap place_of (type_fold type_raw_step (GivenF x) (ty.Given x) (rolls-Given x)) ∙ ap place_at (outs-Name x 0);
      loose = refl;
      tight = λ h. refl;
    }

above_three : (g : Grade) → nat_le 7 (rank g) ≡ true → nat_lt 3 (rank g) ≡ true
above_three grade.Implication h = cc
above_three grade.Conjunction h = cc
above_three grade.Disjunction h = cc
above_three grade.Literal h = cc
above_three _ h = refl

pub fits_value : (g : Grade) → nat_lt 3 (rank g) ≡ true → fits hole.Expression g ≡ true
fits_value grade.Implication h = cc
fits_value grade.Conjunction h = cc
fits_value grade.Disjunction h = cc
fits_value grade.Literal h = cc
fits_value _ h = refl

pub fits_predicate : (g : Grade) → nat_lt 3 (rank g) ≡ false → fits hole.Predicate g ≡ true
fits_predicate grade.Implication h = refl
fits_predicate grade.Conjunction h = refl
fits_predicate grade.Disjunction h = refl
fits_predicate grade.Literal h = refl
fits_predicate _ h = cc

at_pow : (t : Ty) → IsTypeReadBack t → IsTypeReadBack (ty.Pow t)
at_pow t is v names =
    let part : IsTypeRead t = is (back (value-Pow t) ∙ v) (subst AreNames (carriers-Pow t) names) in
    record {
      g = grade.Primary;
      whole = same_pieces 7 grade.Primary (sign_piece op.PowerSet ∷ in_round (type_pieces t)) _ (raw.Node (rawop.Plain op.PowerSet) (type_raw t ∷ []) 0) _
          (type_pieces-Pow t) (type_fold type_raw_step (PowF t) (ty.Pow t) (rolls-Pow t))
          (λ rest q. call_form call.Function (rawop.Plain op.PowerSet) (sign_of op.PowerSet) 7 part.g (type_pieces t) (type_raw t) (fits_value part.g (above_three part.g part.loose)) part.whole rest);
      starts = ap place_of (type_fold type_raw_step (PowF t) (ty.Pow t) (rolls-Pow t)) ∙ place_node (rawop.Plain op.PowerSet) (type_raw t ∷ []);
      loose = refl;
      tight = λ h. refl;
    }

first_true : (a b : Bool) → (a && b) ≡ true → a ≡ true
first_true true b h = refl
first_true false b h = cc

second_true : (a b : Bool) → (a && b) ≡ true → b ≡ true
second_true true b h = h
second_true false b h = cc

right_fits : (g : Grade) (b : Bool) → nat_le 7 (rank g) ≡ true → (b ≡ false → nat_le 8 (rank g) ≡ true) → fits hole.Range (round_grade b g) ≡ true
right_fits g true loose tight = ap (fits hole.Range) (grouped_value g (above_three g loose))
right_fits g false loose tight = both_true _ _ (tight refl) (rank_most g)

at_pair : (t u : Ty) → IsTypeReadBack t → IsTypeReadBack u → IsTypeReadBack (ty.Pair t u)
at_pair t u is is' v names =
    let both : (is_value_type t && is_value_type u) ≡ true = back (value-Pair t u) ∙ v in
    let parts : AreNames (carriers t ++ carriers u) = subst AreNames (carriers-Pair t u) names in
    let left : IsTypeRead t = is (first_true (is_value_type t) (is_value_type u) both) (all_left (λ x. is_name x.0 ≡ true) (carriers t) (carriers u) parts) in
    let right : IsTypeRead u = is' (second_true (is_value_type t) (is_value_type u) both) (all_right (λ x. is_name x.0 ≡ true) (carriers t) (carriers u) parts) in
    let needed : Bool = is_some (components u) in
    let written : type_raw (ty.Pair t u) ≡ raw.Node (rawop.Plain op.Product) (type_raw t ∷ type_raw u ∷ []) 0 = type_fold type_raw_step (PairF t u) (ty.Pair t u) (rolls-Pair t u) in
    record {
      g = grade.Set;
      whole = same_pieces 7 grade.Set (sign_between (type_pieces t) (sign_piece op.Product) (right_of_product (u, type_pieces u))) _ (between (rawop.Plain op.Product) (type_raw t) (type_raw u)) _
          (type_pieces-Pair t u) (written ∙ ap (raw.Node (rawop.Plain op.Product) (type_raw t ∷ type_raw u ∷ [])) (back left.starts))
          (λ rest q. infix_form lev.SetOperator (rawop.Plain op.Product) (sym.Infix lev.SetOperator (rawop.Plain op.Product)) (sign_of op.Product) left.g (round_grade needed right.g)
          (type_pieces t) (right_of_product (u, type_pieces u)) rest (type_raw t) (type_raw u) refl (both_true _ _ left.loose refl) (right_fits right.g needed right.loose right.tight)
          (ends hole.Range (round_grade needed right.g) 7 rest refl q) (left.whole (token_before (sign_piece op.Product) (tokens_of (right_of_product (u, type_pieces u)) ++ rest)) refl)
          (rounded needed 7 right.g (type_pieces u) (type_raw u) right.whole rest (λ e. q)));
      starts = ap place_of written ∙ place_node (rawop.Plain op.Product) (type_raw t ∷ type_raw u ∷ []);
      loose = refl;
      tight = λ h. let pair : is_some (components (ty.Pair t u)) ≡ true = ap (λ x. is_some (components_at x)) (outs-Pair t u) in cc;
    }

value_truth : is_value_type ty.Truth ≡ false
value_truth = type_fold is_value_step TruthF ty.Truth rolls-Truth

pub type_reads : (t : Ty) → is_value_type t ≡ true → AreNames (carriers t) → IsTypeRead t
type_reads = type_induction IsTypeReadBack at_int at_bool at_given at_pow at_pair (λ v names. let never : true ≡ false = back v ∙ value_truth in cc)

fits_pair : (g : Grade) → nat_le 7 (rank g) ≡ true → fits hole.Pair g ≡ true
fits_pair g h = both_true _ _ (le_through 5 7 (rank g) refl h) (rank_most g)

-- a constant with its type
pub typed_form : (o : Op) (w : List ℕ) (t : Ty) → IsTypeRead t → (rest : List Item) → Reads None grade.Primary (tokens_of (typed_constant (Token (sym.Constant o) w) t) ++ rest) (typed_raw o t) rest
typed_form o w t is rest =
    let c : Piece = Token (sym.Constant o) w in
    let after : List Item = token_before close_round_piece rest in
    let inner : Reads None grade.Typed (token_before c (token_before typing_piece (tokens_of (type_pieces t) ++ after))) (between rawop.OfType (constant o) (type_raw t)) after
    = infix_form lev.Typing rawop.OfType (sym.Infix lev.Typing rawop.OfType) (bytes "⦂") grade.Primary is.g (c ∷ []) (type_pieces t) after (constant o) (type_raw t) refl refl
    (fits_pair is.g is.loose) (ends hole.Pair is.g 4 after refl refl) a_constant (is.whole after refl) in
    let P : List Item → Raw → Type 0 = λ l r. Reads None grade.Primary (token_before open_round_piece (token_before c (token_before typing_piece l))) r rest in
    let whole : P (tokens_of (type_pieces t) ++ after) (between rawop.OfType (constant o) (type_raw t)) = in_parentheses inner refl in
    subst (λ l. P l (typed_raw o t)) (back (tokens-behind (type_pieces t) (close_round_piece ∷ []) rest))
    (subst (λ r. P (tokens_of (type_pieces t) ++ after) r) (ap (raw.Node rawop.OfType (constant o ∷ type_raw t ∷ [])) (place_node (rawop.Plain o) [])) whole)

-- the types of bound identifiers are read
abbrev pub AreTypesRead : List Ty → Type 0
AreTypesRead types = AllByRecursion IsTypeRead types

module _ (names : List (List ℕ)) (named : (i : ℕ) → i < length names → is_name (name_at names i) ≡ true) where
  one : (t : Ty) (depth : ℕ) → IsTypeRead t → depth < length names → (x : Symbol) (w : List ℕ) (m : List Item) → Quiet 7 (token_before (Token x w) m)
      → Bound None (tokens_of (printed_declaration (name_at names depth) t) ++ token_before (Token x w) m) (record { name = name_at names depth; ty = Some (type_raw t); place = 0 }) (token_before (Token x w) m)
  one t depth is short x w m q = of_type (named depth short) (last_side (is.whole (token_before (Token x w) m) q) (fits_pair is.g is.loose))

  pub declares : (before : List RawBound) (t : Ty) (types : List Ty) (depth : ℕ) → IsTypeRead t → AreTypesRead types → depth + suc (length types) ≤ length names → (m : List Item)
      → Declares None before (tokens_of (separated_pieces (printed_declarations names (t ∷ types) depth)) ++ token_before dot_piece m) (before ++ declared_with_types names (t ∷ types) depth) m
  declares before t [] depth is all few m =
      let ps : List Piece = printed_declaration (name_at names depth) t in
      let P : List Piece → Type 0 = λ l. Declares None before (tokens_of l ++ token_before dot_piece m) (before ++ declared_with_types names (t ∷ []) depth) m in
      subst P (back (append-nil ps)) (last_name (one t depth is (omega (arith, few)) sym.Dot (bytes "·") m refl))
  declares before t (u ∷ types) depth is all few m =
      let ps : List Piece = printed_declaration (name_at names depth) t in
      let b : RawBound = record { name = name_at names depth; ty = Some (type_raw t); place = 0 } in
      let tail : List Item = tokens_of (separated_pieces (printed_declarations names (u ∷ types) (depth + 1))) ++ token_before dot_piece m in
      let more : List RawBound = declared_with_types names (u ∷ types) (depth + 1) in
      let later : Declares None (before ++ b ∷ []) tail ((before ++ b ∷ []) ++ more) m = declares (before ++ b ∷ []) u types (depth + 1) all.0 all.1 (omega (arith, few)) m in
      let R : List RawBound → Type 0 = λ l. Declares None before (tokens_of ps ++ token_before comma_piece tail) l m in
      let whole : R (before ++ (b ∷ more)) = subst R (append_assoc before (b ∷ []) more) (next_name (one t depth is (omega (arith, few)) sym.Comma (bytes ",") tail refl) later) in
      let P : List Item → Type 0 = λ l. Declares None before l (before ++ (b ∷ more)) m in
      subst P (back (tokens-behind ps (behind_commas (printed_declarations names (u ∷ types) (depth + 1))) (token_before dot_piece m))) whole
