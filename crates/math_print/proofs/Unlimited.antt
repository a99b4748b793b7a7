-- A printed formula has no partition, so no limit of its parts matters.
use Rattle.std.proofs.Common.{◌≡◌, sym as back, subst, refl, ℕ, ◌+◌, Bool, true, false, List, [], ◌∷◌, ◌++◌, length, map}
use Rattle.std.specs.List.{AllByRecursion}
use Rattle.std.specs.Prelude.{is_some}
use Rattle.formula_core.specs.declared.ty.Ty.{Ty}
use Rattle.formula_core.specs.declared.op.Op.{Op}
use Rattle.formula_core.specs.declared.op.Op.TheVariants as op
use Rattle.formula_core.specs.declared.op.Binder.{Binder}
use Rattle.formula_core.specs.declared.op.Binder.TheVariants as binder
use Rattle.formula_core.specs.declared.formula.Formula.{Formula}
use Rattle.formula_core.specs.Types.{components}
use Rattle.formula_core.proofs.Induction.{formula_induction}
use Rattle.formula_core.proofs.Types.{type_induction}
use Rattle.math_grammar.specs.declared.symbols.Symbol.{Symbol}
use Rattle.math_grammar.specs.Operators.{sign_of, class_of, raw_sign_of, raw_class_of, binder_class_of}
use Rattle.token_text.specs.Pieces.{Piece, Blank, Token, tokens_of, word_piece, close_round_piece, close_square_piece, close_brace_piece, dot_piece, bar_piece, operator_piece, sign_piece, in_round, sign_between, behind_commas, separated_pieces}
use Rattle.formula_print.specs.declared.levels.Side.{Side}
use Rattle.formula_print.specs.declared.levels.Side.TheVariants as side
use Rattle.formula_print.specs.Levels.{needs_parentheses}
use Rattle.formula_print.specs.Names.{bound_names}
use Rattle.formula_print.specs.Printing.{PrintedPart, in_round_if, printed_operand, typed_constant, printed_constant, printed_unary, printed_second, printed_operator, printed_node, printed_declarations, binder_end_of, printed_body, printed_binder, printed_bind, printed}
use Rattle.formula_print.specs.Private.{printed_parts}
use Rattle.formula_print.specs.Signs.{denied_op, opening_of, closing_of}
use Rattle.formula_print.specs.Types.{right_of_product, type_pieces}
use Rattle.formula_print.proofs.Equations.{printed-Int, printed-Free, printed-Bound, printed-Node, printed-Bind}
use Rattle.formula_print.proofs.TypeTexts.{type_pieces-Int, type_pieces-Bool, type_pieces-Given, type_pieces-Pow, type_pieces-Pair, type_pieces-Truth}
use Rattle.math_print.specs.Grades.{items_of_formula}
use Rattle.math_print.proofs.AnyLimit.{is_limited, AreUnlimited}

-- none of their tokens is the word partition
abbrev IsClear : List Piece → Type 0
IsClear ps = AreUnlimited (tokens_of ps)

beside : (ps qs : List Piece) → IsClear ps → IsClear qs → IsClear (ps ++ qs)
beside [] qs all others = others
beside (Blank ∷ ps) qs all others = beside ps qs all others
beside (Token x w ∷ ps) qs all others = (all.0, beside ps qs all.1 others)

sign_clear : (o : Op) → is_limited (class_of o) ≡ false
sign_clear op.Top = refl
sign_clear _ = refl

denied_clear : (o : Op) → is_limited (raw_class_of (denied_op o)) ≡ false
denied_clear op.Top = refl
denied_clear _ = refl

-- Types.

by : (ps qs : List Piece) → qs ≡ ps → IsClear ps → IsClear qs
by ps qs e all = let P : List Piece → Type 0 = λ l. IsClear l in subst P (back e) all

round : (needed : Bool) (ps : List Piece) → IsClear ps → IsClear (in_round_if needed ps)
round true ps all = (refl, beside ps (close_round_piece ∷ []) all (refl, tt))
round false ps all = all

type_clear : (t : Ty) → IsClear (type_pieces t)
type_clear = type_induction (λ t. IsClear (type_pieces t))
    (by (sign_piece op.Integers ∷ []) _ type_pieces-Int (refl, tt))
    (by (sign_piece op.Booleans ∷ []) _ type_pieces-Bool (refl, tt))
    (λ x. by (word_piece x ∷ []) _ (type_pieces-Given x) (refl, tt))
    (λ t h. by (sign_piece op.PowerSet ∷ in_round (type_pieces t)) _ (type_pieces-Pow t) (refl, (refl, beside (type_pieces t) (close_round_piece ∷ []) h (refl, tt))))
    (λ t u h k.
    by (sign_between (type_pieces t) (sign_piece op.Product) (right_of_product (u, type_pieces u))) _ (type_pieces-Pair t u)
    (beside (type_pieces t) (Blank ∷ sign_piece op.Product ∷ Blank ∷ right_of_product (u, type_pieces u)) h (refl, round (is_some (components u)) (type_pieces u) k)))
    (by [] _ type_pieces-Truth tt)

-- Operators.

abbrev IsClearPart : PrintedPart → Type 0
IsClearPart p = (denied : Bool) (d : ℕ) → IsClear (p.1 denied d)

operand : (o : Op) (s : Side) (p : PrintedPart) (d : ℕ) → IsClearPart p → IsClear (printed_operand o s p d)
operand o s p d h = round (needs_parentheses o s p.0) (p.1 false d) (h false d)

members : (parts : List PrintedPart) (d : ℕ) → AllByRecursion IsClearPart parts → AllByRecursion IsClear (map (λ p. p.1 false d) parts)
members [] d all = tt
members (p ∷ parts) d all = (all.0 false d, members parts d all.1)

behind : (pss : List (List Piece)) → AllByRecursion IsClear pss → IsClear (behind_commas pss)
behind [] all = tt
behind (ps ∷ pss) all = (refl, beside ps (behind_commas pss) all.0 (behind pss all.1))

separated : (pss : List (List Piece)) → AllByRecursion IsClear pss → IsClear (separated_pieces pss)
separated [] all = tt
separated (ps ∷ pss) all = beside ps (behind_commas pss) all.0 (behind pss all.1)

module _ (x : Symbol) (w : List ℕ) (free : is_limited x ≡ false) where
  abbrev sign : Piece
  sign = Token x w

  typed : (t : Ty) → IsClear (typed_constant sign t)
  typed t = (refl, (free, (refl, beside (type_pieces t) (close_round_piece ∷ []) (type_clear t) (refl, tt))))

  constant : (o : Op) (t : Ty) → IsClear (printed_constant o sign t)
  constant op.EmptySet t = typed t
  constant op.Identity t = typed t
  constant op.FirstProjection t = typed t
  constant op.SecondProjection t = typed t
  constant _ t = (free, tt)

  unary : (o : Op) (p : PrintedPart) (d : ℕ) → IsClearPart p → IsClear (printed_unary o sign p d)
  unary op.Not p d h = h true d
  unary op.Negate p d h = (free, operand op.Negate side.Right p d h)
  unary op.Converse p d h = beside (printed_operand op.Converse side.Left p d) (sign ∷ []) (operand op.Converse side.Left p d h) (free, tt)
  unary _ p d h = (free, (refl, beside (p.1 false d) (close_round_piece ∷ []) (h false d) (refl, tt)))

  second : (o : Op) (p : PrintedPart) (d : ℕ) → IsClearPart p → IsClear (printed_second o sign p d)
  second op.Apply p d h = (refl, beside (p.1 false d) (close_round_piece ∷ []) (h false d) (refl, tt))
  second op.Image p d h = (refl, beside (p.1 false d) (close_square_piece ∷ []) (h false d) (refl, tt))
  second o p d h = (free, operand o side.Right p d h)

  operator : (o : Op) (parts : List PrintedPart) (t : Ty) (d : ℕ) → AllByRecursion IsClearPart parts → IsClear (printed_operator o sign parts t d)
  operator op.SetExtension parts t d all =
      (refl, beside (separated_pieces (map (λ p. p.1 false d) parts)) (close_brace_piece ∷ []) (separated (map (λ p. p.1 false d) parts) (members parts d all)) (refl, tt))
  operator o [] t d all = constant o t
  operator o (a ∷ []) t d all = unary o a d all.0
  operator o (a ∷ b ∷ []) t d all = beside (printed_operand o side.Left a d) (printed_second o sign b d) (operand o side.Left a d all.0) (second o b d all.1.0)
  operator o (a ∷ b ∷ c ∷ parts) t d all = tt

opening : (o : Op) → IsClear (opening_of o)
opening op.Equal = tt
opening op.Member = tt
opening op.ProperSubset = tt
opening op.Subset = tt
opening op.Top = (refl, tt)
opening op.Bottom = (refl, tt)
opening op.Finite = (refl, tt)
opening _ = (refl, (refl, tt))

closing : (o : Op) → IsClear (closing_of o)
closing op.Equal = tt
closing op.Member = tt
closing op.ProperSubset = tt
closing op.Subset = tt
closing op.Top = tt
closing op.Bottom = tt
closing op.Finite = tt
closing _ = (refl, tt)

node : (o : Op) (parts : List PrintedPart) (t : Ty) (denied : Bool) (d : ℕ) → AllByRecursion IsClearPart parts → IsClear (printed_node o parts t denied d)
node o parts t true d all =
    let inner : List Piece = printed_operator o (operator_piece (denied_op o)) parts t d in
    beside (opening_of o) (inner ++ closing_of o) (opening o) (beside inner (closing_of o) (operator (raw_class_of (denied_op o)) (raw_sign_of (denied_op o)) (denied_clear o) o parts t d all) (closing o))
node o parts t false d all = operator (class_of o) (sign_of o) (sign_clear o) o parts t d all

-- Binders.

module _ (names : List (List ℕ)) where
  declared : (types : List Ty) (d : ℕ) → AllByRecursion IsClear (printed_declarations names types d)
  declared [] d = tt
  declared (t ∷ types) d = ((refl, (refl, type_clear t)), declared types (d + 1))

  body : (parts : List PrintedPart) (d : ℕ) → AllByRecursion IsClearPart parts → IsClear (printed_body parts d)
  body [] d all = tt
  body (p ∷ []) d all = all.0 false d
  body (p ∷ e ∷ []) d all = beside (p.1 false d) (Blank ∷ bar_piece ∷ Blank ∷ e.1 false d) (all.0 false d) (refl, all.1.0 false d)
  body (p ∷ e ∷ x ∷ parts) d all = tt

  binder_clear : (b : Binder) → is_limited (binder_class_of b) ≡ false
  binder_clear binder.ForAll = refl
  binder_clear _ = refl

  last : (b : Binder) → IsClear (binder_end_of b)
  last binder.Comprehension = (refl, tt)
  last _ = tt

  binding : (b : Binder) (types : List Ty) (parts : List PrintedPart) (d : ℕ) → AllByRecursion IsClearPart parts → IsClear (printed_binder names b types parts d)
  binding b types parts d all =
      let inner : List Piece = printed_body parts (d + length types) in (
        binder_clear b,
        beside (separated_pieces (printed_declarations names types d)) (dot_piece ∷ (inner ++ binder_end_of b)) (separated (printed_declarations names types d) (declared types d))
            (refl, beside inner (binder_end_of b) (body parts (d + length types) all) (last b)),
      )

  bind : (b : Binder) (types : List Ty) (parts : List PrintedPart) (denied : Bool) (d : ℕ) → AllByRecursion IsClearPart parts → IsClear (printed_bind names b types parts denied d)
  bind b types parts true d all = (refl, (refl, beside (printed_binder names b types parts d) (close_round_piece ∷ []) (binding b types parts d all) (refl, tt)))
  bind b types parts false d all = binding b types parts d all

  abbrev IsFormulaClear : Formula → Type 0
  IsFormulaClear f = IsClearPart (f, printed names f)

  parts_clear : (fs : List Formula) → AllByRecursion IsFormulaClear fs → AllByRecursion IsClearPart (printed_parts names fs)
  parts_clear [] all = tt
  parts_clear (f ∷ fs) all = (all.0, parts_clear fs all.1)

  formula_clear : (f : Formula) → IsFormulaClear f
  formula_clear = formula_induction IsFormulaClear
      (λ n denied d. by _ _ (printed-Int names n denied d) (refl, tt))
      (λ x t denied d. by _ _ (printed-Free names x t denied d) (refl, tt))
      (λ i t denied d. by _ _ (printed-Bound names i t denied d) (refl, tt))
      (λ o parts t all denied d. by _ _ (printed-Node names o parts t denied d) (node o (printed_parts names parts) t denied d (parts_clear parts all)))
      (λ b types parts t all denied d. by _ _ (printed-Bind names b types parts t denied d) (bind b types (printed_parts names parts) denied d (parts_clear parts all)))

pub unlimited : (f : Formula) → AreUnlimited (items_of_formula f)
unlimited f = formula_clear (bound_names f) f false 0
