-- What an operator on operands that are read reads.
use Rattle.std.proofs.Common.{◌≡◌, ◌∙◌, sym as back, ap, subst, refl, ℕ, zero, suc, ◌-◌, Bool, true, false, ◌&&◌, List, [], ◌∷◌, ◌++◌, length, map, nat_lt, Some, None}
use Rattle.std.specs.Prelude.{replicate}
use Rattle.std.proofs.lemmas.List.{append-nil}
use Rattle.std.specs.List.{AllByRecursion}
use Rattle.formula_core.specs.declared.ty.Ty.{Ty}
use Rattle.formula_core.specs.declared.ty.Ty.TheOpen.{Int as IntT, Bool as BoolT, Truth as TruthT}
use Rattle.formula_core.specs.declared.ty.Ty.TheVariants as ty
use Rattle.formula_core.specs.declared.ty.Ty.TheViews as of_type
use Rattle.formula_core.specs.declared.op.Op.{Op}
use Rattle.formula_core.specs.declared.op.Op.TheVariants as op
use Rattle.formula_core.specs.declared.row.Row.{Row}
use Rattle.formula_core.specs.declared.row.Row.TheVariants as row
use Rattle.formula_core.specs.declared.row.NullaryRow.{NullaryRow}
use Rattle.formula_core.specs.declared.row.NullaryRow.TheVariants as nullary
use Rattle.formula_core.specs.declared.row.UnaryRow.{UnaryRow}
use Rattle.formula_core.specs.declared.row.UnaryRow.TheVariants as unary
use Rattle.formula_core.specs.declared.row.BinaryRow.{BinaryRow}
use Rattle.formula_core.specs.declared.row.BinaryRow.TheVariants as binary
use Rattle.formula_core.specs.declared.formula.Formula.{Formula}
use Rattle.formula_core.specs.declared.raw.RawOp.{RawOp}
use Rattle.formula_core.specs.declared.raw.RawOp.TheVariants as rawop
use Rattle.formula_core.specs.declared.raw.RawBound.{RawBound}
use Rattle.formula_core.specs.declared.raw.Raw.{Raw, out-Raw}
use Rattle.formula_core.specs.declared.raw.Raw.TheVariants as raw
use Rattle.formula_core.specs.declared.raw.Raw.TheOpen.{Raw-F, Node as RawNode}
use Rattle.formula_core.specs.declared.raw.Raw.TheViews.{outs-Node}
use Rattle.formula_core.specs.Rows.{row_of}
use Rattle.formula_core.specs.Schemes.{Scheme, alpha, beta, gamma, delta, integer, boolean, truth, power, pair, Letters, AreValues as AreLetters, type_of_scheme, nullary_scheme, unary_scheme, binary_scheme, operand_schemes, result_scheme, IsSchemeInstance}
use Rattle.formula_core.specs.TypeTable.{row_fits}
use Rattle.formula_core.specs.Types.{is_value_step, is_value_type}
use Rattle.formula_core.specs.Wellness.{type_of}
use Rattle.formula_core.proofs.Equations.{type_fold}
use Rattle.formula_core.proofs.Schemes.{fits_exactly}
use Rattle.formula_core.proofs.WholeSets.{value-Pow, value-Pair}
use Rattle.math_grammar.specs.declared.holes.Grade.{Grade}
use Rattle.math_grammar.specs.declared.holes.Grade.TheVariants as grade
use Rattle.math_grammar.specs.declared.levels.Level.TheVariants as sort
use Rattle.math_grammar.specs.declared.levels.Call.TheVariants as call
use Rattle.math_grammar.specs.declared.symbols.Symbol.TheVariants as sym
use Rattle.math_grammar.specs.Levels.{rank, infix_of}
use Rattle.math_grammar.specs.Grammar.{place_at, place_of, Reads, a_truth, a_constant}
use Rattle.math_grammar.specs.Operators.{sign_of, class_of, raw_sign_of, raw_class_of}
use Rattle.token_text.specs.Pieces.{Piece, Token, tokens_of, not_piece, operator_piece, sign_piece, in_round, sign_between}
use Rattle.formula_print.specs.Levels.{level_of, formula_level}
use Rattle.formula_print.specs.Printing.{PrintedPart, typed_constant, printed_operator, printed_node, printed}
use Rattle.formula_print.specs.Private.{printed_parts}
use Rattle.formula_print.specs.Signs.{denied_op}
use Rattle.formula_print.specs.Written.{written, denied_at, denied, typed_raw, operator_raw}
use Rattle.math_print.proofs.Grades.{operator_grade, grade_of}
use Rattle.math_print.proofs.Tables.{quiet, top}
use Rattle.math_print.proofs.Readings.{Whole, call_form, set_form, IsValue, AreValues, none_more, one_more}
use Rattle.math_print.proofs.Infixes.{IsRead, is_of_values, both_true, IsInfix, infix_reads, infix_values}
use Rattle.math_print.proofs.TypeReadings.{IsTypeRead, typed_form, fits_value, fits_predicate}
use Rattle.math_print.proofs.Forms.{IsConnective, connective_reads, connective-Implies, connective-Equivalent, connective-And, connective-Or, negated_form, bare_negated_form, relation_reads, negative_reads, converse_reads, apply_reads, image_reads}

first_true : (a b : Bool) → (a && b) ≡ true → a ≡ true
first_true true b h = refl
first_true false b h = cc

second_true : (a b : Bool) → (a && b) ≡ true → b ≡ true
second_true true b h = h
second_true false b h = cc

pub values_at : (l : Letters) → AreLetters l → (s : Scheme) → is_of_values s ≡ true → is_value_type (type_of_scheme l s) ≡ true
values_at l v alpha h = v.alpha
values_at l v beta h = v.beta
values_at l v gamma h = v.gamma
values_at l v delta h = v.delta
values_at l v integer h = type_fold is_value_step IntT ty.Int of_type.rolls-Int
values_at l v boolean h = type_fold is_value_step BoolT ty.Bool of_type.rolls-Bool
values_at l v truth h = cc
values_at l v (power s) h = value-Pow (type_of_scheme l s) ∙ values_at l v s h
values_at l v (pair s u) h =
    value-Pair (type_of_scheme l s) (type_of_scheme l u)
    ∙ both_true _ _ (values_at l v s (first_true (is_of_values s) (is_of_values u) h)) (values_at l v u (second_true (is_of_values s) (is_of_values u) h))

pub value_truth : is_value_type ty.Truth ≡ false
value_truth = type_fold is_value_step TruthT ty.Truth of_type.rolls-Truth

place_node : (o : RawOp) (parts : List Raw) → place_of (raw.Node o parts 0) ≡ 0
place_node o parts = ap place_at (outs-Node o parts 0)

denied_node : (o : RawOp) (parts : List Raw) → denied (raw.Node o parts 0) ≡ denied_at (raw.Node o parts 0) (RawNode o parts 0)
denied_node o parts = ap (denied_at (raw.Node o parts 0)) (outs-Node o parts 0)

place_denied : (r : Raw) → place_of (denied r) ≡ 0
place_denied r = go (out-Raw r)
  where
    go : (x : Raw-F Raw RawBound) → place_of (denied_at r x) ≡ 0
    go (RawNode (rawop.Plain op.Equal) parts place) = place_node rawop.NotEqual parts
    go (RawNode (rawop.Plain op.Member) parts place) = place_node rawop.NotMember parts
    go (RawNode (rawop.Plain op.ProperSubset) parts place) = place_node rawop.NotProperSubset parts
    go (RawNode (rawop.Plain op.Subset) parts place) = place_node rawop.NotSubset parts
    go _ = place_node (rawop.Plain op.Not) (r ∷ [])

-- what is denied twice
twice : (r : Raw) → denied (denied r) ≡ raw.Node (rawop.Plain op.Not) (denied r ∷ []) 0
twice r = go (out-Raw r)
  where
    go : (x : Raw-F Raw RawBound) → denied (denied_at r x) ≡ raw.Node (rawop.Plain op.Not) (denied_at r x ∷ []) 0
    go (RawNode (rawop.Plain op.Equal) parts place) = denied_node rawop.NotEqual parts
    go (RawNode (rawop.Plain op.Member) parts place) = denied_node rawop.NotMember parts
    go (RawNode (rawop.Plain op.ProperSubset) parts place) = denied_node rawop.NotProperSubset parts
    go (RawNode (rawop.Plain op.Subset) parts place) = denied_node rawop.NotSubset parts
    go _ = denied_node (rawop.Plain op.Not) (r ∷ [])

retreed : (n : ℕ) (g : Grade) (s : List Piece) (t u : Raw) → t ≡ u → Whole n g s t → Whole n g s u
retreed n g s t u e w = subst (Whole n g s) e w

retokened : (n : ℕ) (g : Grade) (s s' : List Piece) (t : Raw) → s' ≡ s → Whole n g s t → Whole n g s' t
retokened n g s s' t e w = let P : List Piece → Type 0 = λ l. Whole n g l t in subst P (back e) w

module _ (names : List (List ℕ)) (d : ℕ) where
  abbrev tree : Op → List Formula → Ty → Raw
  tree o parts t = operator_raw o (map (λ (p : ℕ → Raw). p d) (map (written names) parts)) t

  pub record NodeRead (o : Op) (parts : List Formula) (t : Ty) : Type 0 where
    pub sorted : nat_lt 3 (rank (operator_grade o)) ≡ is_value_type t
    pub starts : place_of (tree o parts t) ≡ 0
    pub plain : Whole (quiet (level_of o)) (operator_grade o) (printed_operator o (sign_piece o) (printed_parts names parts) t d) (tree o parts t)
    pub denied_too : is_value_type t ≡ false → Whole 2 grade.Literal (printed_node o (printed_parts names parts) t true d) (denied (tree o parts t))

  abbrev Parts : List Formula → Type 0
  Parts parts = AllByRecursion (IsRead names d) parts

  value_node : (o : Op) (parts : List Formula) (t : Ty) → nat_lt 3 (rank (operator_grade o)) ≡ true → is_value_type t ≡ true → place_of (tree o parts t) ≡ 0
      → Whole (quiet (level_of o)) (operator_grade o) (printed_operator o (sign_piece o) (printed_parts names parts) t d) (tree o parts t) → NodeRead o parts t
  value_node o parts t g v starts plain = record { sorted = g ∙ back v; starts = starts; plain = plain; denied_too = λ h. let never : true ≡ false = back v ∙ h in cc }

  instance_of : (o : Op) (r : Row) → row_of o ≡ r → (parts : List Formula) (t : Ty) → row_fits (row_of o) (map type_of parts) t ≡ true
      → IsSchemeInstance (operand_schemes r (length (map type_of parts))) (result_scheme r) (map type_of parts) t
  instance_of o r e parts t h = (fits_exactly r (map type_of parts) t).0 (let P : Row → Type 0 = λ x. row_fits x (map type_of parts) t ≡ true in subst P e h)

  infix_node : (o : Op) → IsInfix o → (parts : List Formula) (t : Ty) → Parts parts → row_fits (row_of o) (map type_of parts) t ≡ true → NodeRead o parts t
  infix_node o i parts t all h = go parts all (instance_of o (row.Binary i.r) i.its_row parts t h)
    where
      go : (parts : List Formula) → Parts parts → IsSchemeInstance ((binary_scheme i.r).0 ∷ (binary_scheme i.r).1 ∷ []) (binary_scheme i.r).2 (map type_of parts) t → NodeRead o parts t
      go [] all is = let e : [] ≡ type_of_scheme is.letters (binary_scheme i.r).0 ∷ type_of_scheme is.letters (binary_scheme i.r).1 ∷ [] = is.operands_are in cc
      go (a ∷ []) all is = let e : type_of a ∷ [] ≡ type_of_scheme is.letters (binary_scheme i.r).0 ∷ type_of_scheme is.letters (binary_scheme i.r).1 ∷ [] = is.operands_are in cc
      go (a ∷ b ∷ []) all is =
          let e : type_of a ∷ type_of b ∷ [] ≡ type_of_scheme is.letters (binary_scheme i.r).0 ∷ type_of_scheme is.letters (binary_scheme i.r).1 ∷ [] = is.operands_are in
          let ea : type_of a ≡ type_of_scheme is.letters (binary_scheme i.r).0 = cc in
          let eb : type_of b ≡ type_of_scheme is.letters (binary_scheme i.r).1 = cc in
          value_node o (a ∷ b ∷ []) t i.of_value (ap is_value_type is.whole_is ∙ values_at is.letters is.values (binary_scheme i.r).2 i.result)
          (ap place_of (i.tree (written names a d) (written names b d) t) ∙ place_node (rawop.Plain o) (written names a d ∷ written names b d ∷ []))
          (infix_reads names d o i a b t all.0 all.1.0 (ap is_value_type ea ∙ values_at is.letters is.values (binary_scheme i.r).0 i.first)
          (ap is_value_type eb ∙ values_at is.letters is.values (binary_scheme i.r).1 i.second))
      go (a ∷ b ∷ c ∷ more) all is = let e : type_of a ∷ type_of b ∷ type_of c ∷ map type_of more ≡ type_of_scheme is.letters (binary_scheme i.r).0 ∷ type_of_scheme is.letters (binary_scheme i.r).1 ∷ [] = is.operands_are in cc

  -- the operands of a row
  with_two : (P : List Formula → Type 0) (r : BinaryRow) (t : Ty) (parts : List Formula) → IsSchemeInstance ((binary_scheme r).0 ∷ (binary_scheme r).1 ∷ []) (binary_scheme r).2 (map type_of parts) t → Parts parts
      → ((l : Letters) → AreLetters l → t ≡ type_of_scheme l (binary_scheme r).2 → (a b : Formula) → IsRead names d a → IsRead names d b → type_of a ≡ type_of_scheme l (binary_scheme r).0 → type_of b ≡ type_of_scheme l (binary_scheme r).1 → P (a ∷ b ∷ [])) → P parts
  with_two P r t [] is all go = let e : [] ≡ type_of_scheme is.letters (binary_scheme r).0 ∷ type_of_scheme is.letters (binary_scheme r).1 ∷ [] = is.operands_are in cc
  with_two P r t (a ∷ []) is all go = let e : type_of a ∷ [] ≡ type_of_scheme is.letters (binary_scheme r).0 ∷ type_of_scheme is.letters (binary_scheme r).1 ∷ [] = is.operands_are in cc
  with_two P r t (a ∷ b ∷ []) is all go =
      let e : type_of a ∷ type_of b ∷ [] ≡ type_of_scheme is.letters (binary_scheme r).0 ∷ type_of_scheme is.letters (binary_scheme r).1 ∷ [] = is.operands_are in
      let ea : type_of a ≡ type_of_scheme is.letters (binary_scheme r).0 = cc in
      let eb : type_of b ≡ type_of_scheme is.letters (binary_scheme r).1 = cc in
      go is.letters is.values is.whole_is a b all.0 all.1.0 ea eb
  with_two P r t (a ∷ b ∷ c ∷ more) is all go =
      let e : type_of a ∷ type_of b ∷ type_of c ∷ map type_of more ≡ type_of_scheme is.letters (binary_scheme r).0 ∷ type_of_scheme is.letters (binary_scheme r).1 ∷ [] = is.operands_are in cc

  with_one : (P : List Formula → Type 0) (r : UnaryRow) (t : Ty) (parts : List Formula) → IsSchemeInstance ((unary_scheme r).0 ∷ []) (unary_scheme r).1 (map type_of parts) t → Parts parts
      → ((l : Letters) → AreLetters l → t ≡ type_of_scheme l (unary_scheme r).1 → (a : Formula) → IsRead names d a → type_of a ≡ type_of_scheme l (unary_scheme r).0 → P (a ∷ [])) → P parts
  with_one P r t [] is all go = let e : [] ≡ type_of_scheme is.letters (unary_scheme r).0 ∷ [] = is.operands_are in cc
  with_one P r t (a ∷ []) is all go =
      let e : type_of a ∷ [] ≡ type_of_scheme is.letters (unary_scheme r).0 ∷ [] = is.operands_are in
      let ea : type_of a ≡ type_of_scheme is.letters (unary_scheme r).0 = cc in
      go is.letters is.values is.whole_is a all.0 ea
  with_one P r t (a ∷ b ∷ more) is all go = let e : type_of a ∷ type_of b ∷ map type_of more ≡ type_of_scheme is.letters (unary_scheme r).0 ∷ [] = is.operands_are in cc

  with_none : (P : List Formula → Type 0) (r : NullaryRow) (t : Ty) (parts : List Formula) → IsSchemeInstance [] (nullary_scheme r) (map type_of parts) t → ((l : Letters) → AreLetters l → t ≡ type_of_scheme l (nullary_scheme r) → P []) → P parts
  with_none P r t [] is go = go is.letters is.values is.whole_is
  with_none P r t (a ∷ more) is go = let e : type_of a ∷ map type_of more ≡ [] = is.operands_are in cc

  value_by : (l : Letters) → AreLetters l → (t : Ty) (s : Scheme) → t ≡ type_of_scheme l s → is_of_values s ≡ true → is_value_type t ≡ true
  value_by l v t s e h = ap is_value_type e ∙ values_at l v s h

  truth_by : (t : Ty) → t ≡ ty.Truth → is_value_type t ≡ false
  truth_by t e = ap is_value_type e ∙ value_truth

  -- a predicate that is denied in parentheses
  negated_node : (o : Op) (parts : List Formula) (t : Ty) → nat_lt 3 (rank (operator_grade o)) ≡ false → is_value_type t ≡ false → place_of (tree o parts t) ≡ 0
      → Whole (quiet (level_of o)) (operator_grade o) (printed_operator o (sign_piece o) (printed_parts names parts) t d) (tree o parts t)
      → printed_node o (printed_parts names parts) t true d ≡ not_piece ∷ in_round (printed_operator o (sign_piece o) (printed_parts names parts) t d)
      → denied (tree o parts t) ≡ raw.Node (rawop.Plain op.Not) (tree o parts t ∷ []) 0 → NodeRead o parts t
  negated_node o parts t g v starts plain tokens denies = record {
    sorted = g ∙ back v;
    starts = starts;
    plain = plain;
    denied_too = λ h. let s : List Piece = not_piece ∷ in_round (printed_operator o (sign_piece o) (printed_parts names parts) t d) in
        retokened 2 grade.Literal s (printed_node o (printed_parts names parts) t true d) (denied (tree o parts t)) tokens (retreed 2 grade.Literal s (raw.Node (rawop.Plain op.Not) (tree o parts t ∷ []) 0) (denied (tree o parts t)) (back denies)
        (negated_form (quiet (level_of o)) (operator_grade o) (printed_operator o (sign_piece o) (printed_parts names parts) t d) (tree o parts t) plain g));
  }

  connective_node : (o : Op) → IsConnective o → ((ps : List PrintedPart) (t : Ty) → printed_node o ps t true d ≡ not_piece ∷ in_round (printed_operator o (sign_piece o) ps t d))
      → ((r : Raw) (rs : List Raw) → denied_at r (RawNode (rawop.Plain o) rs 0) ≡ raw.Node (rawop.Plain op.Not) (r ∷ []) 0)
      → (parts : List Formula) (t : Ty) → Parts parts → row_fits (row_of o) (map type_of parts) t ≡ true → NodeRead o parts t
  connective_node o i tokens denies parts t all h = with_two (λ ps. NodeRead o ps t) binary.Connective t parts (instance_of o (row.Binary binary.Connective) i.its_row parts t h) all
      (λ l v e a b ra rb ea eb.
      let rs : List Raw = written names a d ∷ written names b d ∷ [] in
      let same : tree o (a ∷ b ∷ []) t ≡ raw.Node (rawop.Plain o) rs 0 = i.tree (written names a d) (written names b d) t in
      negated_node o (a ∷ b ∷ []) t i.of_predicate (truth_by t e) (ap place_of same ∙ place_node (rawop.Plain o) rs)
      (connective_reads names d o i a b t ra rb (truth_by (type_of a) ea) (truth_by (type_of b) eb)) (tokens (printed_parts names (a ∷ b ∷ [])) t)
      (ap denied same ∙ denied_node (rawop.Plain o) rs ∙ denies (raw.Node (rawop.Plain o) rs 0) rs ∙ ap (λ r. raw.Node (rawop.Plain op.Not) (r ∷ []) 0) (back same)))

  -- a function before its argument
  function_node : (o : Op) (r : UnaryRow) → row_of o ≡ row.Unary r → is_of_values (unary_scheme r).0 ≡ true → is_of_values (unary_scheme r).1 ≡ true → operator_grade o ≡ grade.Primary
      → ((a : PrintedPart) (t : Ty) → printed_operator o (sign_piece o) (a ∷ []) t d ≡ Token (sym.Call call.Function (rawop.Plain o)) (sign_of o) ∷ in_round (a.1 false d))
      → ((a : Raw) (t : Ty) → operator_raw o (a ∷ []) t ≡ raw.Node (rawop.Plain o) (a ∷ []) 0)
      → (parts : List Formula) (t : Ty) → Parts parts → row_fits (row_of o) (map type_of parts) t ≡ true → NodeRead o parts t
  function_node o r is first result graded tokens same parts t all h = with_one (λ ps. NodeRead o ps t) r t parts (instance_of o (row.Unary r) is parts t h) all
      (λ l v e a ra ea.
      value_node o (a ∷ []) t (ap (λ g. nat_lt 3 (rank g)) graded) (value_by l v t (unary_scheme r).1 e result) (ap place_of (same (written names a d) t) ∙ place_node (rawop.Plain o) (written names a d ∷ []))
      (λ rest q.
      let P : Grade → List Piece → Raw → Type 0 = λ g s u. Reads None g (tokens_of s ++ rest) u rest in
      let s : List Piece = Token (sym.Call call.Function (rawop.Plain o)) (sign_of o) ∷ in_round (printed names a false d) in
      let whole : P grade.Primary s (raw.Node (rawop.Plain o) (written names a d ∷ []) 0)
      = call_form call.Function (rawop.Plain o) (sign_of o) (quiet (formula_level a)) (grade_of a) (printed names a false d) (written names a d)
      (fits_value (grade_of a) (ra.sorted ∙ value_by l v (type_of a) (unary_scheme r).0 ea first)) ra.plain rest in
      subst (λ g. P g (printed_operator o (sign_piece o) ((a, printed names a) ∷ []) t d) (operator_raw o (written names a d ∷ []) t)) (back graded)
      (subst (λ l. P grade.Primary l (operator_raw o (written names a d ∷ []) t)) (back (tokens (a, printed names a) t)) (subst (λ u. P grade.Primary s u) (back (same (written names a d) t)) whole))))

  -- a constant whose sign tells its type
  constant_node : (o : Op) (r : NullaryRow) → row_of o ≡ row.Nullary r → is_of_values (nullary_scheme r) ≡ true → operator_grade o ≡ grade.Primary
      → ((t : Ty) → printed_operator o (sign_piece o) [] t d ≡ Token (sym.Constant o) (sign_of o) ∷ []) → ((t : Ty) → operator_raw o [] t ≡ raw.Node (rawop.Plain o) [] 0)
      → (parts : List Formula) (t : Ty) → row_fits (row_of o) (map type_of parts) t ≡ true → NodeRead o parts t
  constant_node o r is result graded tokens same parts t h = with_none (λ ps. NodeRead o ps t) r t parts (instance_of o (row.Nullary r) is parts t h)
      (λ l v e.
      value_node o [] t (ap (λ g. nat_lt 3 (rank g)) graded) (value_by l v t (nullary_scheme r) e result) (ap place_of (same t) ∙ place_node (rawop.Plain o) [])
      (λ rest q.
      let P : Grade → List Piece → Raw → Type 0 = λ g s u. Reads None g (tokens_of s ++ rest) u rest in
      let s : List Piece = Token (sym.Constant o) (sign_of o) ∷ [] in
      let whole : P grade.Primary s (raw.Node (rawop.Plain o) [] 0) = a_constant in
      subst (λ g. P g (printed_operator o (sign_piece o) [] t d) (operator_raw o [] t)) (back graded)
      (subst (λ l. P grade.Primary l (operator_raw o [] t)) (back (tokens t)) (subst (λ u. P grade.Primary s u) (back (same t)) whole))))

  -- and one with its type
  typed_node : (o : Op) (r : NullaryRow) → row_of o ≡ row.Nullary r → is_of_values (nullary_scheme r) ≡ true → operator_grade o ≡ grade.Primary
      → ((t : Ty) → printed_operator o (sign_piece o) [] t d ≡ typed_constant (Token (sym.Constant o) (sign_of o)) t) → ((t : Ty) → operator_raw o [] t ≡ typed_raw o t)
      → (parts : List Formula) (t : Ty) → (is_value_type t ≡ true → IsTypeRead t) → row_fits (row_of o) (map type_of parts) t ≡ true → NodeRead o parts t
  typed_node o r is result graded tokens same parts t read h = with_none (λ ps. NodeRead o ps t) r t parts (instance_of o (row.Nullary r) is parts t h)
      (λ l v e.
      let value : is_value_type t ≡ true = value_by l v t (nullary_scheme r) e result in
      value_node o [] t (ap (λ g. nat_lt 3 (rank g)) graded) value (ap place_of (same t) ∙ place_node rawop.OfType _)
      (λ rest q.
      let P : Grade → List Piece → Raw → Type 0 = λ g s u. Reads None g (tokens_of s ++ rest) u rest in
      let s : List Piece = typed_constant (Token (sym.Constant o) (sign_of o)) t in
      let whole : P grade.Primary s (typed_raw o t) = typed_form o (sign_of o) t (read value) rest in
      subst (λ g. P g (printed_operator o (sign_piece o) [] t d) (operator_raw o [] t)) (back graded)
      (subst (λ l. P grade.Primary l (operator_raw o [] t)) (back (tokens t)) (subst (λ u. P grade.Primary s u) (back (same t)) whole))))

  truth_node : (o : Op) → row_of o ≡ row.Nullary nullary.Predicate → operator_grade o ≡ grade.Literal → ((t : Ty) → printed_operator o (sign_piece o) [] t d ≡ Token (sym.Truth o) (sign_of o) ∷ [])
      → ((t : Ty) → printed_node o [] t true d ≡ not_piece ∷ Token (sym.Truth o) (sign_of o) ∷ []) → ((t : Ty) → operator_raw o [] t ≡ raw.Node (rawop.Plain o) [] 0)
      → ((r : Raw) (rs : List Raw) → denied_at r (RawNode (rawop.Plain o) rs 0) ≡ raw.Node (rawop.Plain op.Not) (r ∷ []) 0)
      → (parts : List Formula) (t : Ty) → row_fits (row_of o) (map type_of parts) t ≡ true → NodeRead o parts t
  truth_node o is graded tokens denied_tokens same denies parts t h = with_none (λ ps. NodeRead o ps t) nullary.Predicate t parts (instance_of o (row.Nullary nullary.Predicate) is parts t h)
      (λ l v e.
      let s : List Piece = Token (sym.Truth o) (sign_of o) ∷ [] in
      let r : Raw = raw.Node (rawop.Plain o) [] 0 in
      let whole : Whole 2 grade.Literal s r = λ rest q. a_truth in
      record {
        sorted = ap (λ g. nat_lt 3 (rank g)) graded ∙ back (truth_by t e);
        starts = ap place_of (same t) ∙ place_node (rawop.Plain o) [];
        plain = λ rest q.
            let P : Grade → List Piece → Raw → Type 0 = λ g s u. Reads None g (tokens_of s ++ rest) u rest in
            let one : P grade.Literal s r = a_truth in
            subst (λ g. P g (printed_operator o (sign_piece o) [] t d) (operator_raw o [] t)) (back graded)
            (subst (λ l. P grade.Literal l (operator_raw o [] t)) (back (tokens t)) (subst (λ u. P grade.Literal s u) (back (same t)) one));
        denied_too = λ x. retokened 2 grade.Literal (not_piece ∷ s) (printed_node o [] t true d) (denied (operator_raw o [] t)) (denied_tokens t) (retreed 2 grade.Literal (not_piece ∷ s) (raw.Node (rawop.Plain op.Not) (r ∷ []) 0) (denied (operator_raw o [] t))
            (back (ap denied (same t) ∙ denied_node (rawop.Plain o) [] ∙ denies r [])) (bare_negated_form 2 s r refl whole));
      })

  -- a relation, with a sign of its own where it is denied ..
  signed_node : (o : Op) (r : BinaryRow) (n : RawOp) → row_of o ≡ row.Binary r → is_of_values (binary_scheme r).0 ≡ true → is_of_values (binary_scheme r).1 ≡ true → (binary_scheme r).2 ≡ truth
      → operator_grade o ≡ grade.Literal → quiet (level_of o) ≡ 2 → infix_of (class_of o) ≡ Some (sort.Relation, rawop.Plain o) → top (class_of o) ≡ 3
      → infix_of (raw_class_of (denied_op o)) ≡ Some (sort.Relation, n) → top (raw_class_of (denied_op o)) ≡ 3
      → ((a b : PrintedPart) (t : Ty) → printed_operator o (sign_piece o) (a ∷ b ∷ []) t d ≡ sign_between (a.1 false d) (sign_piece o) (b.1 false d))
      → ((a b : PrintedPart) (t : Ty) → printed_node o (a ∷ b ∷ []) t true d ≡ sign_between (a.1 false d) (operator_piece (denied_op o)) (b.1 false d) ++ [])
      → ((a b : Raw) (t : Ty) → operator_raw o (a ∷ b ∷ []) t ≡ raw.Node (rawop.Plain o) (a ∷ b ∷ []) 0) → ((r : Raw) (rs : List Raw) → denied_at r (RawNode (rawop.Plain o) rs 0) ≡ raw.Node n rs 0)
      → (parts : List Formula) (t : Ty) → Parts parts → row_fits (row_of o) (map type_of parts) t ≡ true → NodeRead o parts t
  signed_node o r n is first second result graded low sign three denied_sign denied_three tokens denied_tokens same denies parts t all h =
      with_two (λ ps. NodeRead o ps t) r t parts (instance_of o (row.Binary r) is parts t h) all
      (λ l v e a b ra rb ea eb.
      let va : is_value_type (type_of a) ≡ true = value_by l v (type_of a) (binary_scheme r).0 ea first in
      let vb : is_value_type (type_of b) ≡ true = value_by l v (type_of b) (binary_scheme r).1 eb second in
      let rs : List Raw = written names a d ∷ written names b d ∷ [] in
      let pa : PrintedPart = (a, printed names a) in
      let pb : PrintedPart = (b, printed names b) in
      let W : ℕ → Grade → List Piece → Raw → Type 0 = Whole in
      record {
        sorted = ap (λ g. nat_lt 3 (rank g)) graded ∙ back (truth_by t (e ∙ ap (type_of_scheme l) result));
        starts = ap place_of (same (written names a d) (written names b d) t) ∙ place_node (rawop.Plain o) rs;
        plain = subst (λ k. W k (operator_grade o) (printed_operator o (sign_piece o) (pa ∷ pb ∷ []) t d) (tree o (a ∷ b ∷ []) t)) (back low)
            (subst (λ g. W 2 g (printed_operator o (sign_piece o) (pa ∷ pb ∷ []) t d) (tree o (a ∷ b ∷ []) t)) (back graded)
            (retokened 2 grade.Literal (sign_between (printed names a false d) (sign_piece o) (printed names b false d)) (printed_operator o (sign_piece o) (pa ∷ pb ∷ []) t d) (tree o (a ∷ b ∷ []) t) (tokens pa pb t) (retreed 2 grade.Literal (sign_between (printed names a false d) (sign_piece o) (printed names b false d)) (raw.Node (rawop.Plain o) rs 0) (tree o (a ∷ b ∷ []) t) (back (same (written names a d) (written names b d) t))
            (relation_reads names d (rawop.Plain o) (class_of o) (sign_of o) sign three a b ra rb va vb))));
        denied_too = λ x. retokened 2 grade.Literal (sign_between (printed names a false d) (operator_piece (denied_op o)) (printed names b false d)) (printed_node o (pa ∷ pb ∷ []) t true d) (denied (tree o (a ∷ b ∷ []) t)) (denied_tokens pa pb t ∙ append-nil (sign_between (printed names a false d) (operator_piece (denied_op o)) (printed names b false d)))
            (retreed 2 grade.Literal (sign_between (printed names a false d) (operator_piece (denied_op o)) (printed names b false d)) (raw.Node n rs 0) (denied (tree o (a ∷ b ∷ []) t)) (back (ap denied (same (written names a d) (written names b d) t) ∙ denied_node (rawop.Plain o) rs ∙ denies (raw.Node (rawop.Plain o) rs 0) rs))
            (relation_reads names d n (raw_class_of (denied_op o)) (raw_sign_of (denied_op o)) denied_sign denied_three a b ra rb va vb));
      })

  -- .. and one without
  compared_node : (o : Op) → row_of o ≡ row.Binary binary.Comparison
      → operator_grade o ≡ grade.Literal → quiet (level_of o) ≡ 2 → infix_of (class_of o) ≡ Some (sort.Relation, rawop.Plain o) → top (class_of o) ≡ 3
      → ((a b : PrintedPart) (t : Ty) → printed_operator o (sign_piece o) (a ∷ b ∷ []) t d ≡ sign_between (a.1 false d) (sign_piece o) (b.1 false d))
      → ((ps : List PrintedPart) (t : Ty) → printed_node o ps t true d ≡ not_piece ∷ in_round (printed_operator o (sign_piece o) ps t d))
      → ((a b : Raw) (t : Ty) → operator_raw o (a ∷ b ∷ []) t ≡ raw.Node (rawop.Plain o) (a ∷ b ∷ []) 0)
      → ((r : Raw) (rs : List Raw) → denied_at r (RawNode (rawop.Plain o) rs 0) ≡ raw.Node (rawop.Plain op.Not) (r ∷ []) 0)
      → (parts : List Formula) (t : Ty) → Parts parts → row_fits (row_of o) (map type_of parts) t ≡ true → NodeRead o parts t
  compared_node o is graded low sign three tokens denied_tokens same denies parts t all h =
      with_two (λ ps. NodeRead o ps t) binary.Comparison t parts (instance_of o (row.Binary binary.Comparison) is parts t h) all
      (λ l v e a b ra rb ea eb.
      let va : is_value_type (type_of a) ≡ true = value_by l v (type_of a) integer ea refl in
      let vb : is_value_type (type_of b) ≡ true = value_by l v (type_of b) integer eb refl in
      let rs : List Raw = written names a d ∷ written names b d ∷ [] in
      let pa : PrintedPart = (a, printed names a) in
      let pb : PrintedPart = (b, printed names b) in
      let W : ℕ → Grade → List Piece → Raw → Type 0 = Whole in
      let equal : tree o (a ∷ b ∷ []) t ≡ raw.Node (rawop.Plain o) rs 0 = same (written names a d) (written names b d) t in
      negated_node o (a ∷ b ∷ []) t (ap (λ g. nat_lt 3 (rank g)) graded) (truth_by t e) (ap place_of equal ∙ place_node (rawop.Plain o) rs)
      (subst (λ k. W k (operator_grade o) (printed_operator o (sign_piece o) (pa ∷ pb ∷ []) t d) (tree o (a ∷ b ∷ []) t)) (back low)
      (subst (λ g. W 2 g (printed_operator o (sign_piece o) (pa ∷ pb ∷ []) t d) (tree o (a ∷ b ∷ []) t)) (back graded)
      (retokened 2 grade.Literal (sign_between (printed names a false d) (sign_piece o) (printed names b false d)) (printed_operator o (sign_piece o) (pa ∷ pb ∷ []) t d) (tree o (a ∷ b ∷ []) t) (tokens pa pb t) (retreed 2 grade.Literal (sign_between (printed names a false d) (sign_piece o) (printed names b false d)) (raw.Node (rawop.Plain o) rs 0) (tree o (a ∷ b ∷ []) t) (back equal)
      (relation_reads names d (rawop.Plain o) (class_of o) (sign_of o) sign three a b ra rb va vb)))))
      (denied_tokens (pa ∷ pb ∷ []) t)
      (ap denied equal ∙ denied_node (rawop.Plain o) rs ∙ denies (raw.Node (rawop.Plain o) rs 0) rs ∙ ap (λ r. raw.Node (rawop.Plain op.Not) (r ∷ []) 0) (back equal)))

  not_node : (parts : List Formula) (t : Ty) → Parts parts → row_fits (row_of op.Not) (map type_of parts) t ≡ true → NodeRead op.Not parts t
  not_node parts t all h = with_one (λ ps. NodeRead op.Not ps t) unary.Negation t parts (instance_of op.Not (row.Unary unary.Negation) refl parts t h) all
      (λ l v e a ra ea.
      negated_node op.Not (a ∷ []) t refl (truth_by t e) (place_denied (written names a d)) (ra.denied_too (truth_by (type_of a) ea)) refl (twice (written names a d)))

  finite_node : (parts : List Formula) (t : Ty) → Parts parts → row_fits (row_of op.Finite) (map type_of parts) t ≡ true → NodeRead op.Finite parts t
  finite_node parts t all h = with_one (λ ps. NodeRead op.Finite ps t) unary.Finiteness t parts (instance_of op.Finite (row.Unary unary.Finiteness) refl parts t h) all
      (λ l v e a ra ea.
      let s : List Piece = sign_piece op.Finite ∷ in_round (printed names a false d) in
      let r : Raw = raw.Node (rawop.Plain op.Finite) (written names a d ∷ []) 0 in
      let whole : (n : ℕ) → Whole n grade.Literal s r
      = λ n rest q. call_form call.Finite (rawop.Plain op.Finite) (sign_of op.Finite) (quiet (formula_level a)) (grade_of a) (printed names a false d) (written names a d)
      (fits_value (grade_of a) (ra.sorted ∙ value_by l v (type_of a) (power alpha) ea refl)) ra.plain rest in
      record {
        sorted = back (truth_by t e);
        starts = place_node (rawop.Plain op.Finite) (written names a d ∷ []);
        plain = whole 14;
        denied_too = λ x. retokened 2 grade.Literal (not_piece ∷ s) (not_piece ∷ (s ++ [])) (denied r) (ap (λ l. not_piece ∷ l) (append-nil s)) (retreed 2 grade.Literal (not_piece ∷ s) (raw.Node (rawop.Plain op.Not) (r ∷ []) 0) (denied r) (back (denied_node (rawop.Plain op.Finite) (written names a d ∷ []))) (bare_negated_form 2 s r refl (whole 2)));
      })

  bool_node : (parts : List Formula) (t : Ty) → Parts parts → row_fits (row_of op.BoolOf) (map type_of parts) t ≡ true → NodeRead op.BoolOf parts t
  bool_node parts t all h = with_one (λ ps. NodeRead op.BoolOf ps t) unary.TruthOf t parts (instance_of op.BoolOf (row.Unary unary.TruthOf) refl parts t h) all
      (λ l v e a ra ea.
      value_node op.BoolOf (a ∷ []) t refl (value_by l v t boolean e refl) (place_node (rawop.Plain op.BoolOf) (written names a d ∷ []))
      (λ rest q. call_form call.Bool (rawop.Plain op.BoolOf) (sign_of op.BoolOf) (quiet (formula_level a)) (grade_of a) (printed names a false d) (written names a d)
      (fits_predicate (grade_of a) (ra.sorted ∙ truth_by (type_of a) ea)) ra.plain rest))

  negate_node : (parts : List Formula) (t : Ty) → Parts parts → row_fits (row_of op.Negate) (map type_of parts) t ≡ true → NodeRead op.Negate parts t
  negate_node parts t all h = with_one (λ ps. NodeRead op.Negate ps t) unary.Opposite t parts (instance_of op.Negate (row.Unary unary.Opposite) refl parts t h) all
      (λ l v e a ra ea.
      value_node op.Negate (a ∷ []) t refl (value_by l v t integer e refl) (place_node (rawop.Plain op.Negate) (written names a d ∷ []))
      (negative_reads names d a ra (value_by l v (type_of a) integer ea refl)))

  converse_node : (parts : List Formula) (t : Ty) → Parts parts → row_fits (row_of op.Converse) (map type_of parts) t ≡ true → NodeRead op.Converse parts t
  converse_node parts t all h = with_one (λ ps. NodeRead op.Converse ps t) unary.Converse t parts (instance_of op.Converse (row.Unary unary.Converse) refl parts t h) all
      (λ l v e a ra ea.
      value_node op.Converse (a ∷ []) t refl (value_by l v t (unary_scheme unary.Converse).1 e refl) (place_node (rawop.Plain op.Converse) (written names a d ∷ []))
      (converse_reads names d a ra (value_by l v (type_of a) (unary_scheme unary.Converse).0 ea refl)))

  apply_node : (parts : List Formula) (t : Ty) → Parts parts → row_fits (row_of op.Apply) (map type_of parts) t ≡ true → NodeRead op.Apply parts t
  apply_node parts t all h = with_two (λ ps. NodeRead op.Apply ps t) binary.Application t parts (instance_of op.Apply (row.Binary binary.Application) refl parts t h) all
      (λ l v e a b ra rb ea eb.
      value_node op.Apply (a ∷ b ∷ []) t refl (value_by l v t (binary_scheme binary.Application).2 e refl) (place_node (rawop.Plain op.Apply) (written names a d ∷ written names b d ∷ []))
      (apply_reads names d a b ra rb (value_by l v (type_of a) (binary_scheme binary.Application).0 ea refl) (value_by l v (type_of b) (binary_scheme binary.Application).1 eb refl)))

  image_node : (parts : List Formula) (t : Ty) → Parts parts → row_fits (row_of op.Image) (map type_of parts) t ≡ true → NodeRead op.Image parts t
  image_node parts t all h = with_two (λ ps. NodeRead op.Image ps t) binary.Image t parts (instance_of op.Image (row.Binary binary.Image) refl parts t h) all
      (λ l v e a b ra rb ea eb.
      value_node op.Image (a ∷ b ∷ []) t refl (value_by l v t (binary_scheme binary.Image).2 e refl) (place_node (rawop.Plain op.Image) (written names a d ∷ written names b d ∷ []))
      (image_reads names d a b ra rb (value_by l v (type_of a) (binary_scheme binary.Image).0 ea refl) (value_by l v (type_of b) (binary_scheme binary.Image).1 eb refl)))

  -- the members of a set
  are_values : (l : Letters) → AreLetters l → (k : ℕ) (parts : List Formula) → map type_of parts ≡ map (type_of_scheme l) (replicate k alpha) → Parts parts
      → AreValues (map (λ (p : PrintedPart). p.1 false d) (printed_parts names parts)) (map (λ (p : ℕ → Raw). p d) (map (written names) parts))
  are_values l v zero [] e all = none_more
  are_values l v zero (a ∷ parts) e all = cc
  are_values l v (suc k) [] e all = cc
  are_values l v (suc k) (a ∷ parts) e all =
      let e' : type_of a ∷ map type_of parts ≡ l.alpha ∷ map (type_of_scheme l) (replicate k alpha) = e in
      let ea : type_of a ≡ l.alpha = cc in
      let later : map type_of parts ≡ map (type_of_scheme l) (replicate k alpha) = cc in
      one_more (is_value l v a all.0 ea) (are_values l v k parts later all.1)
    where
      is_value : (l : Letters) → AreLetters l → (a : Formula) → IsRead names d a → type_of a ≡ l.alpha → IsValue (printed names a false d) (written names a d)
      is_value l v a ra ea = record { least = quiet (formula_level a); g = grade_of a; whole = ra.plain; fit = fits_value (grade_of a) (ra.sorted ∙ ap is_value_type ea ∙ v.alpha) }

  set_node : (parts : List Formula) (t : Ty) → Parts parts → row_fits (row_of op.SetExtension) (map type_of parts) t ≡ true → NodeRead op.SetExtension parts t
  set_node parts t all h = go parts all (instance_of op.SetExtension row.SetExtension refl parts t h)
    where
      go : (parts : List Formula) → Parts parts → IsSchemeInstance (alpha ∷ replicate (length (map type_of parts) - 1) alpha) (power alpha) (map type_of parts) t → NodeRead op.SetExtension parts t
      go [] all is = let e : [] ≡ is.letters.alpha ∷ map (type_of_scheme is.letters) (replicate (0 - 1) alpha) = is.operands_are in cc
      go (a ∷ parts) all is =
          let k : ℕ = length (map type_of (a ∷ parts)) - 1 in
          let e : type_of a ∷ map type_of parts ≡ is.letters.alpha ∷ map (type_of_scheme is.letters) (replicate k alpha) = is.operands_are in
          let ea : type_of a ≡ is.letters.alpha = cc in
          let later : map type_of parts ≡ map (type_of_scheme is.letters) (replicate k alpha) = cc in
          let value : IsValue (printed names a false d) (written names a d)
          = record { least = quiet (formula_level a); g = grade_of a; whole = all.0.plain; fit = fits_value (grade_of a) (all.0.sorted ∙ ap is_value_type ea ∙ is.values.alpha) } in
          value_node op.SetExtension (a ∷ parts) t refl (value_by is.letters is.values t (power alpha) is.whole_is refl) (place_node (rawop.Plain op.SetExtension) _)
          (λ rest q. set_form (printed names a false d) (written names a d) (map (λ (p : PrintedPart). p.1 false d) (printed_parts names parts)) (map (λ (p : ℕ → Raw). p d) (map (written names) parts)) value
          (are_values is.letters is.values k parts later all.1) rest)

  pub node_reads : (o : Op) (parts : List Formula) (t : Ty) → Parts parts → (is_value_type t ≡ true → IsTypeRead t) → row_fits (row_of o) (map type_of parts) t ≡ true → NodeRead o parts t
  node_reads op.Top parts t all read h = truth_node op.Top refl refl (λ t. refl) (λ t. refl) (λ t. refl) (λ r rs. refl) parts t h
  node_reads op.Bottom parts t all read h = truth_node op.Bottom refl refl (λ t. refl) (λ t. refl) (λ t. refl) (λ r rs. refl) parts t h
  node_reads op.Not parts t all read h = not_node parts t all h
  node_reads op.And parts t all read h = connective_node op.And connective-And (λ ps t. refl) (λ r rs. refl) parts t all h
  node_reads op.Or parts t all read h = connective_node op.Or connective-Or (λ ps t. refl) (λ r rs. refl) parts t all h
  node_reads op.Implies parts t all read h = connective_node op.Implies connective-Implies (λ ps t. refl) (λ r rs. refl) parts t all h
  node_reads op.Equivalent parts t all read h = connective_node op.Equivalent connective-Equivalent (λ ps t. refl) (λ r rs. refl) parts t all h
  node_reads op.Equal parts t all read h = signed_node op.Equal binary.Equality rawop.NotEqual refl refl refl refl refl refl refl refl refl refl (λ a b t. refl) (λ a b t. refl) (λ a b t. refl) (λ r rs. refl) parts t all h
  node_reads op.Member parts t all read h = signed_node op.Member binary.Membership rawop.NotMember refl refl refl refl refl refl refl refl refl refl (λ a b t. refl) (λ a b t. refl) (λ a b t. refl) (λ r rs. refl) parts t all h
  node_reads op.ProperSubset parts t all read h = signed_node op.ProperSubset binary.Inclusion rawop.NotProperSubset refl refl refl refl refl refl refl refl refl refl (λ a b t. refl) (λ a b t. refl) (λ a b t. refl) (λ r rs. refl) parts t all h
  node_reads op.Subset parts t all read h = signed_node op.Subset binary.Inclusion rawop.NotSubset refl refl refl refl refl refl refl refl refl refl (λ a b t. refl) (λ a b t. refl) (λ a b t. refl) (λ r rs. refl) parts t all h
  node_reads op.Less parts t all read h = compared_node op.Less refl refl refl refl refl (λ a b t. refl) (λ ps t. refl) (λ a b t. refl) (λ r rs. refl) parts t all h
  node_reads op.LessOrEqual parts t all read h = compared_node op.LessOrEqual refl refl refl refl refl (λ a b t. refl) (λ ps t. refl) (λ a b t. refl) (λ r rs. refl) parts t all h
  node_reads op.Finite parts t all read h = finite_node parts t all h
  node_reads op.TrueValue parts t all read h = constant_node op.TrueValue nullary.TruthValue refl refl refl (λ t. refl) (λ t. refl) parts t h
  node_reads op.FalseValue parts t all read h = constant_node op.FalseValue nullary.TruthValue refl refl refl (λ t. refl) (λ t. refl) parts t h
  node_reads op.Booleans parts t all read h = constant_node op.Booleans nullary.TruthValueSet refl refl refl (λ t. refl) (λ t. refl) parts t h
  node_reads op.Integers parts t all read h = constant_node op.Integers nullary.IntegerSet refl refl refl (λ t. refl) (λ t. refl) parts t h
  node_reads op.Naturals parts t all read h = constant_node op.Naturals nullary.IntegerSet refl refl refl (λ t. refl) (λ t. refl) parts t h
  node_reads op.PositiveNaturals parts t all read h = constant_node op.PositiveNaturals nullary.IntegerSet refl refl refl (λ t. refl) (λ t. refl) parts t h
  node_reads op.Predecessor parts t all read h = constant_node op.Predecessor nullary.IntegerMap refl refl refl (λ t. refl) (λ t. refl) parts t h
  node_reads op.Successor parts t all read h = constant_node op.Successor nullary.IntegerMap refl refl refl (λ t. refl) (λ t. refl) parts t h
  node_reads op.EmptySet parts t all read h = typed_node op.EmptySet nullary.EmptySet refl refl refl (λ t. refl) (λ t. refl) parts t read h
  node_reads op.Identity parts t all read h = typed_node op.Identity nullary.Identity refl refl refl (λ t. refl) (λ t. refl) parts t read h
  node_reads op.FirstProjection parts t all read h = typed_node op.FirstProjection nullary.FirstProjection refl refl refl (λ t. refl) (λ t. refl) parts t read h
  node_reads op.SecondProjection parts t all read h = typed_node op.SecondProjection nullary.SecondProjection refl refl refl (λ t. refl) (λ t. refl) parts t read h
  node_reads op.Negate parts t all read h = negate_node parts t all h
  node_reads op.Converse parts t all read h = converse_node parts t all h
  node_reads op.Apply parts t all read h = apply_node parts t all h
  node_reads op.Image parts t all read h = image_node parts t all h
  node_reads op.PowerSet parts t all read h = function_node op.PowerSet unary.PowerSet refl refl refl refl (λ a t. refl) (λ a t. refl) parts t all h
  node_reads op.NonEmptyPowerSet parts t all read h = function_node op.NonEmptyPowerSet unary.PowerSet refl refl refl refl (λ a t. refl) (λ a t. refl) parts t all h
  node_reads op.Cardinality parts t all read h = function_node op.Cardinality unary.Cardinality refl refl refl refl (λ a t. refl) (λ a t. refl) parts t all h
  node_reads op.Domain parts t all read h = function_node op.Domain unary.Domain refl refl refl refl (λ a t. refl) (λ a t. refl) parts t all h
  node_reads op.Range parts t all read h = function_node op.Range unary.Range refl refl refl refl (λ a t. refl) (λ a t. refl) parts t all h
  node_reads op.GeneralUnion parts t all read h = function_node op.GeneralUnion unary.Flattening refl refl refl refl (λ a t. refl) (λ a t. refl) parts t all h
  node_reads op.GeneralIntersection parts t all read h = function_node op.GeneralIntersection unary.Flattening refl refl refl refl (λ a t. refl) (λ a t. refl) parts t all h
  node_reads op.Minimum parts t all read h = function_node op.Minimum unary.Extremum refl refl refl refl (λ a t. refl) (λ a t. refl) parts t all h
  node_reads op.Maximum parts t all read h = function_node op.Maximum unary.Extremum refl refl refl refl (λ a t. refl) (λ a t. refl) parts t all h
  node_reads op.BoolOf parts t all read h = bool_node parts t all h
  node_reads op.SetExtension parts t all read h = set_node parts t all h
  node_reads o parts t all read h = infix_node o (infix_values o refl) parts t all h
