-- The pieces of an operator on operands fit together.
use Rattle.std.proofs.Common.{◌≡◌, sym as back, subst, refl, ℕ, ◌-◌, Bool, true, false, ◌||◌, List, [], ◌∷◌, ◌++◌, length, map}
use Rattle.std.specs.Prelude.{replicate}
use Rattle.std.specs.List.{AllByRecursion}
use Rattle.formula_core.specs.declared.ty.Ty.{Ty}
use Rattle.formula_core.specs.declared.op.Op.{Op}
use Rattle.formula_core.specs.declared.op.Op.TheVariants as op
use Rattle.formula_core.specs.declared.row.Row.{Row}
use Rattle.formula_core.specs.declared.row.Row.TheVariants as row
use Rattle.formula_core.specs.declared.row.NullaryRow.{NullaryRow}
use Rattle.formula_core.specs.declared.row.NullaryRow.TheVariants as nullary
use Rattle.formula_core.specs.declared.row.UnaryRow.{UnaryRow}
use Rattle.formula_core.specs.declared.row.UnaryRow.TheVariants as unary
use Rattle.formula_core.specs.declared.row.BinaryRow.{BinaryRow}
use Rattle.formula_core.specs.declared.row.BinaryRow.TheVariants as binary
use Rattle.formula_core.specs.declared.formula.Formula.{Formula}
use Rattle.formula_core.specs.Identifiers.{carriers}
use Rattle.formula_core.specs.Rows.{row_of}
use Rattle.formula_core.specs.Schemes.{alpha, power, type_of_scheme, operand_schemes, result_scheme, IsSchemeInstance}
use Rattle.formula_core.specs.TypeTable.{row_fits}
use Rattle.formula_core.specs.Wellness.{type_of}
use Rattle.formula_core.proofs.Schemes.{fits_exactly}
use Rattle.math_grammar.specs.Operators.{sign_of, op_form}
use Rattle.token_text.specs.Pieces.{Piece, text_of, not_piece, operator_piece, sign_piece, in_round, in_square, sign_between, separated_pieces}
use Rattle.token_text.proofs.Fitting.{Fits}
use Rattle.token_text.proofs.Following.{stops, Follows}
use Rattle.token_text.proofs.Operators.{is_alone, passed, fits_spaced, fits_alone}
use Rattle.token_text.proofs.Signs.{opens_set}
use Rattle.formula_print.specs.declared.levels.Side.{Side}
use Rattle.formula_print.specs.declared.levels.Side.TheVariants as side
use Rattle.formula_print.specs.Levels.{needs_parentheses}
use Rattle.formula_print.specs.Signs.{denied_op, opening_of, closing_of}
use Rattle.formula_print.specs.Printing.{PrintedPart, printed_operand, typed_constant, printed_operator, printed}
use Rattle.formula_print.specs.Private.{printed_parts}
use Rattle.math_print.proofs.TypeReadings.{AreNames}
use Rattle.math_print.proofs.OperatorRows.{is_between, is_call, is_plain_constant, between_row, call_row, constant_row, between_signed, call_alone, constant_alone}
use Rattle.math_print.proofs.SignFits.{fits-Negate, fits-not, fits_denied}
use Rattle.math_print.proofs.Printed.{IsPrinted, Opens, opens_with, nothing, nothing_stops, lone, token, beside, round, square, braces, rounded, rounded_opens, infix_form, call_form, ArePrinted, separated_form}
use Rattle.math_print.proofs.TypesPrinted.{typed_form}

-- the pieces of a formula, as it stands or denied, below so many bound identifiers
pub record IsFormulaPrinted (names : List (List ℕ)) (d : ℕ) (f : Formula) : Type 0 where
  pub plain : IsPrinted (printed names f false d)
  pub denied : IsPrinted (printed names f true d)
  pub opens : Opens (printed names f false d)
  pub denied_opens : Opens (printed names f true d)

-- ¬ before others
pub negated : (ps : List Piece) → IsPrinted ps → IsPrinted (not_piece ∷ ps)
negated ps is = token not_piece ps (λ rest h. fits-not (text_of ps ++ rest)) is

-- what stands round a form that is denied
pub denied_form : (o : Op) (ps : List Piece) → IsPrinted ps → IsPrinted (opening_of o ++ (ps ++ closing_of o))
denied_form op.Equal ps is = beside ps [] is nothing_stops nothing
denied_form op.Member ps is = beside ps [] is nothing_stops nothing
denied_form op.ProperSubset ps is = beside ps [] is nothing_stops nothing
denied_form op.Subset ps is = beside ps [] is nothing_stops nothing
denied_form op.Top ps is = negated (ps ++ []) (beside ps [] is nothing_stops nothing)
denied_form op.Bottom ps is = negated (ps ++ []) (beside ps [] is nothing_stops nothing)
denied_form op.Finite ps is = negated (ps ++ []) (beside ps [] is nothing_stops nothing)
denied_form _ ps is = negated (in_round ps) (round ps is)

pub denied_opens : (o : Op) (ps : List Piece) → Opens ps → Opens (opening_of o ++ (ps ++ closing_of o))
denied_opens op.Equal ps o = opens_with ps [] o
denied_opens op.Member ps o = opens_with ps [] o
denied_opens op.ProperSubset ps o = opens_with ps [] o
denied_opens op.Subset ps o = opens_with ps [] o
denied_opens _ ps o = λ rest. refl

module _ (names : List (List ℕ)) (d : ℕ) where
  -- an operator with this sign
  pub record IsOperatorPrinted (o : Op) (p : Piece) (parts : List Formula) (t : Ty) : Type 0 where
    pub whole : IsPrinted (printed_operator o p (printed_parts names parts) t d)
    pub opens : Opens (printed_operator o p (printed_parts names parts) t d)

  pub record IsNodePrinted (o : Op) (parts : List Formula) (t : Ty) : Type 0 where
    pub plain : IsOperatorPrinted o (sign_piece o) parts t
    pub denied : IsOperatorPrinted o (operator_piece (denied_op o)) parts t

  same_sign : (o : Op) (parts : List Formula) (t : Ty) → operator_piece (denied_op o) ≡ sign_piece o → IsOperatorPrinted o (sign_piece o) parts t → IsNodePrinted o parts t
  same_sign o parts t e a = record { plain = a; denied = subst (λ p. IsOperatorPrinted o p parts t) (back e) a }

  abbrev Parts : List Formula → Type 0
  Parts parts = AllByRecursion (IsFormulaPrinted names d) parts

  instance_of : (o : Op) (r : Row) → row_of o ≡ r → (parts : List Formula) (t : Ty) → row_fits (row_of o) (map type_of parts) t ≡ true
      → IsSchemeInstance (operand_schemes r (length (map type_of parts))) (result_scheme r) (map type_of parts) t
  instance_of o r e parts t h = (fits_exactly r (map type_of parts) t).0 (let P : Row → Type 0 = λ x. row_fits x (map type_of parts) t ≡ true in subst P e h)

  -- the operands of a row
  with_none : (P : List Formula → Type 0) (o : Op) (r : NullaryRow) → row_of o ≡ row.Nullary r → (parts : List Formula) (t : Ty) → row_fits (row_of o) (map type_of parts) t ≡ true → P [] → P parts
  with_none P o r e parts t h p = go parts (instance_of o (row.Nullary r) e parts t h).operands_are
    where
      go : (parts : List Formula) → map type_of parts ≡ [] → P parts
      go [] e = p
      go (a ∷ more) e = let never : type_of a ∷ map type_of more ≡ [] = e in cc

  with_one : (P : List Formula → Type 0) (o : Op) (r : UnaryRow) → row_of o ≡ row.Unary r → (parts : List Formula) (t : Ty) → row_fits (row_of o) (map type_of parts) t ≡ true → Parts parts
      → ((a : Formula) → IsFormulaPrinted names d a → P (a ∷ [])) → P parts
  with_one P o r e parts t h all p = go _ parts all (instance_of o (row.Unary r) e parts t h).operands_are
    where
      go : (u : Ty) (parts : List Formula) → Parts parts → map type_of parts ≡ u ∷ [] → P parts
      go u [] all e = cc
      go u (a ∷ []) all e = p a all.0
      go u (a ∷ b ∷ more) all e = let never : type_of a ∷ type_of b ∷ map type_of more ≡ u ∷ [] = e in cc

  with_two : (P : List Formula → Type 0) (o : Op) (r : BinaryRow) → row_of o ≡ row.Binary r → (parts : List Formula) (t : Ty) → row_fits (row_of o) (map type_of parts) t ≡ true → Parts parts
      → ((a b : Formula) → IsFormulaPrinted names d a → IsFormulaPrinted names d b → P (a ∷ b ∷ [])) → P parts
  with_two P o r e parts t h all p = go _ _ parts all (instance_of o (row.Binary r) e parts t h).operands_are
    where
      go : (u v : Ty) (parts : List Formula) → Parts parts → map type_of parts ≡ u ∷ v ∷ [] → P parts
      go u v [] all e = cc
      go u v (a ∷ []) all e = let never : type_of a ∷ [] ≡ u ∷ v ∷ [] = e in cc
      go u v (a ∷ b ∷ []) all e = p a b all.0 all.1.0
      go u v (a ∷ b ∷ c ∷ more) all e = let never : type_of a ∷ type_of b ∷ type_of c ∷ map type_of more ≡ u ∷ v ∷ [] = e in cc

  abbrev part : Formula → PrintedPart
  part a = (a, printed names a)

  operand_form : (o : Op) (s : Side) (a : Formula) → IsFormulaPrinted names d a → IsPrinted (printed_operand o s (part a) d)
  operand_form o s a is = rounded (needs_parentheses o s a) (printed names a false d) is.plain

  operand_opens : (o : Op) (s : Side) (a : Formula) → IsFormulaPrinted names d a → Opens (printed_operand o s (part a) d)
  operand_opens o s a is = rounded_opens (needs_parentheses o s a) (printed names a false d) is.opens

  by : (o : Op) (p : Piece) (parts : List Formula) (t : Ty) (ps : List Piece) → printed_operator o p (printed_parts names parts) t d ≡ ps → IsPrinted ps → Opens ps → IsOperatorPrinted o p parts t
  by o p parts t ps e is open_too =
      let P : List Piece → Type 0 = λ l. IsPrinted l in
      let Q : List Piece → Type 0 = λ l. Opens l in
      record { whole = subst P (back e) is; opens = subst Q (back e) open_too }

  infix_node : (o : Op) (p : Piece) (r : BinaryRow) → row_of o ≡ row.Binary r
      → ((a b : PrintedPart) (t : Ty) → printed_operator o p (a ∷ b ∷ []) t d ≡ sign_between (printed_operand o side.Left a d) p (printed_operand o side.Right b d))
      → ((rest : List ℕ) → Fits p (32 ∷ rest)) → (parts : List Formula) (t : Ty) → Parts parts → row_fits (row_of o) (map type_of parts) t ≡ true → IsOperatorPrinted o p parts t
  infix_node o p r is pieces fit parts t all h = with_two (λ ps. IsOperatorPrinted o p ps t) o r is parts t h all
      (λ a b ia ib.
      by o p (a ∷ b ∷ []) t _ (pieces (part a) (part b) t)
      (infix_form p (printed_operand o side.Left (part a) d) (printed_operand o side.Right (part b) d) fit (operand_form o side.Left a ia) (operand_form o side.Right b ib))
      (opens_with (printed_operand o side.Left (part a) d) _ (operand_opens o side.Left a ia)))

  call_node : (o : Op) (p : Piece) (r : UnaryRow) → row_of o ≡ row.Unary r
      → ((a : PrintedPart) (t : Ty) → printed_operator o p (a ∷ []) t d ≡ p ∷ in_round (a.1 false d))
      → ((rest : List ℕ) → Fits p (40 ∷ rest)) → Opens (p ∷ []) → (parts : List Formula) (t : Ty) → Parts parts → row_fits (row_of o) (map type_of parts) t ≡ true → IsOperatorPrinted o p parts t
  call_node o p r is pieces fit open_sign parts t all h = with_one (λ ps. IsOperatorPrinted o p ps t) o r is parts t h all
      (λ a ia. by o p (a ∷ []) t _ (pieces (part a) t) (call_form p (printed names a false d) fit ia.plain) (opens_with (p ∷ []) (in_round (printed names a false d)) open_sign))

  constant_node : (o : Op) (p : Piece) (r : NullaryRow) → row_of o ≡ row.Nullary r → ((t : Ty) → printed_operator o p [] t d ≡ p ∷ [])
      → ((rest : List ℕ) → Follows stops rest → Fits p rest) → Opens (p ∷ []) → (parts : List Formula) (t : Ty) → row_fits (row_of o) (map type_of parts) t ≡ true → IsOperatorPrinted o p parts t
  constant_node o p r is pieces fit open_sign parts t h = with_none (λ ps. IsOperatorPrinted o p ps t) o r is parts t h (by o p [] t (p ∷ []) (pieces t) (lone p fit) open_sign)

  typed_node : (o : Op) (p : Piece) (r : NullaryRow) → row_of o ≡ row.Nullary r → ((t : Ty) → printed_operator o p [] t d ≡ typed_constant p t)
      → ((rest : List ℕ) → Follows stops rest → Fits p rest) → (parts : List Formula) (t : Ty) → AreNames (carriers t) → row_fits (row_of o) (map type_of parts) t ≡ true → IsOperatorPrinted o p parts t
  typed_node o p r is pieces fit parts t carried h = with_none (λ ps. IsOperatorPrinted o p ps t) o r is parts t h (by o p [] t (typed_constant p t) (pieces t) (typed_form p t carried fit) (λ rest. refl))

  not_node : (parts : List Formula) (t : Ty) → Parts parts → row_fits (row_of op.Not) (map type_of parts) t ≡ true → IsNodePrinted op.Not parts t
  not_node parts t all h = same_sign op.Not parts t refl (with_one (λ ps. IsOperatorPrinted op.Not (sign_piece op.Not) ps t) op.Not unary.Negation refl parts t h all
      (λ a ia. record { whole = ia.denied; opens = ia.denied_opens }))

  negate_node : (parts : List Formula) (t : Ty) → Parts parts → row_fits (row_of op.Negate) (map type_of parts) t ≡ true → IsNodePrinted op.Negate parts t
  negate_node parts t all h = same_sign op.Negate parts t refl (with_one (λ ps. IsOperatorPrinted op.Negate (sign_piece op.Negate) ps t) op.Negate unary.Opposite refl parts t h all
      (λ a ia. record {
        whole = token (sign_piece op.Negate) (printed_operand op.Negate side.Right (part a) d) (λ rest h. fits-Negate (text_of (printed_operand op.Negate side.Right (part a) d) ++ rest)) (operand_form op.Negate side.Right a ia);
        opens = λ rest. refl;
      }))

  converse_node : (parts : List Formula) (t : Ty) → Parts parts → row_fits (row_of op.Converse) (map type_of parts) t ≡ true → IsNodePrinted op.Converse parts t
  converse_node parts t all h = same_sign op.Converse parts t refl (with_one (λ ps. IsOperatorPrinted op.Converse (sign_piece op.Converse) ps t) op.Converse unary.Converse refl parts t h all
      (λ a ia. record {
        whole = beside (printed_operand op.Converse side.Left (part a) d) (sign_piece op.Converse ∷ []) (operand_form op.Converse side.Left a ia) (λ rest h. refl) (lone (sign_piece op.Converse) (fits_alone op.Converse refl));
        opens = opens_with (printed_operand op.Converse side.Left (part a) d) _ (operand_opens op.Converse side.Left a ia);
      }))

  apply_node : (parts : List Formula) (t : Ty) → Parts parts → row_fits (row_of op.Apply) (map type_of parts) t ≡ true → IsNodePrinted op.Apply parts t
  apply_node parts t all h = same_sign op.Apply parts t refl (with_two (λ ps. IsOperatorPrinted op.Apply (sign_piece op.Apply) ps t) op.Apply binary.Application refl parts t h all
      (λ a b ia ib. record {
        whole = beside (printed_operand op.Apply side.Left (part a) d) (in_round (printed names b false d)) (operand_form op.Apply side.Left a ia) (λ rest h. refl) (round (printed names b false d) ib.plain);
        opens = opens_with (printed_operand op.Apply side.Left (part a) d) _ (operand_opens op.Apply side.Left a ia);
      }))

  image_node : (parts : List Formula) (t : Ty) → Parts parts → row_fits (row_of op.Image) (map type_of parts) t ≡ true → IsNodePrinted op.Image parts t
  image_node parts t all h = same_sign op.Image parts t refl (with_two (λ ps. IsOperatorPrinted op.Image (sign_piece op.Image) ps t) op.Image binary.Image refl parts t h all
      (λ a b ia ib. record {
        whole = beside (printed_operand op.Image side.Left (part a) d) (in_square (printed names b false d)) (operand_form op.Image side.Left a ia) (λ rest h. refl) (square (printed names b false d) ib.plain);
        opens = opens_with (printed_operand op.Image side.Left (part a) d) _ (operand_opens op.Image side.Left a ia);
      }))

  -- the members of a set
  members : (parts : List Formula) → Parts parts → ArePrinted (map (λ (p : PrintedPart). p.1 false d) (printed_parts names parts))
  members [] all = tt
  members (a ∷ parts) all = (all.0.plain, members parts all.1)

  set_node : (parts : List Formula) (t : Ty) → Parts parts → row_fits (row_of op.SetExtension) (map type_of parts) t ≡ true → IsNodePrinted op.SetExtension parts t
  set_node parts t all h = same_sign op.SetExtension parts t refl (go parts all (instance_of op.SetExtension row.SetExtension refl parts t h))
    where
      go : (parts : List Formula) → Parts parts → IsSchemeInstance (alpha ∷ replicate (length (map type_of parts) - 1) alpha) (power alpha) (map type_of parts) t → IsOperatorPrinted op.SetExtension (sign_piece op.SetExtension) parts t
      go [] all is = let e : [] ≡ is.letters.alpha ∷ map (type_of_scheme is.letters) (replicate (0 - 1) alpha) = is.operands_are in cc
      go (a ∷ parts) all is =
          let pss : List (List Piece) = map (λ (p : PrintedPart). p.1 false d) (printed_parts names (a ∷ parts)) in
          record {
            whole = braces (separated_pieces pss) (opens_with (printed names a false d) _ all.0.opens) (separated_form pss (members (a ∷ parts) all));
            opens = λ rest. refl;
          }

  -- what is printed of an operator between its operands, of a word before its operand, and of a constant
  between_pieces : (o : Op) → is_between (op_form o) ≡ true → (p : Piece) (a b : PrintedPart) (t : Ty) → printed_operator o p (a ∷ b ∷ []) t d ≡ sign_between (printed_operand o side.Left a d) p (printed_operand o side.Right b d)
  between_pieces op.Apply f p a b t = cc
  between_pieces op.Image f p a b t = cc
  between_pieces op.SetExtension f p a b t = cc
  between_pieces _ f p a b t = refl

  call_pieces : (o : Op) → is_call (op_form o) ≡ true → (p : Piece) (a : PrintedPart) (t : Ty) → printed_operator o p (a ∷ []) t d ≡ p ∷ in_round (a.1 false d)
  call_pieces op.Not f p a t = cc
  call_pieces op.Negate f p a t = cc
  call_pieces op.Converse f p a t = cc
  call_pieces op.SetExtension f p a t = cc
  call_pieces _ f p a t = refl

  constant_pieces : (o : Op) → is_plain_constant o ≡ true → (p : Piece) (t : Ty) → printed_operator o p [] t d ≡ p ∷ []
  constant_pieces op.EmptySet f p t = cc
  constant_pieces op.Identity f p t = cc
  constant_pieces op.FirstProjection f p t = cc
  constant_pieces op.SecondProjection f p t = cc
  constant_pieces op.SetExtension f p t = cc
  constant_pieces _ f p t = refl

  -- only relations have a sign where they are denied
  same_denied : (o : Op) → is_alone (op_form o) ≡ true → operator_piece (denied_op o) ≡ sign_piece o
  same_denied op.Equal f = cc
  same_denied op.Member f = cc
  same_denied op.ProperSubset f = cc
  same_denied op.Subset f = cc
  same_denied _ f = refl

  abbrev begins_open : List ℕ → Bool
  begins_open [] = false
  begins_open (c ∷ cs) = opens_set c

  sign_opens : (o : Op) → is_alone (op_form o) ≡ true → Opens (sign_piece o ∷ [])
  sign_opens o f = go (sign_of o) (passed (λ o. is_alone (op_form o)) (λ o. begins_open (sign_of o)) refl o f)
    where
      go : (w : List ℕ) → begins_open w ≡ true → (rest : List ℕ) → Follows opens_set ((w ++ []) ++ rest)
      go [] h = cc
      go (c ∷ cs) h = λ rest. h

  between_printed : (o : Op) → is_between (op_form o) ≡ true → (parts : List Formula) (t : Ty) → Parts parts → row_fits (row_of o) (map type_of parts) t ≡ true → IsNodePrinted o parts t
  between_printed o f parts t all h =
      record { plain = with_its (sign_piece o) (λ rest. fits_spaced o (between_signed o f) (32 ∷ rest) refl); denied = with_its (operator_piece (denied_op o)) (λ rest. fits_denied o (between_signed o f) (32 ∷ rest) refl) }
    where
      with_its : (p : Piece) → ((rest : List ℕ) → Fits p (32 ∷ rest)) → IsOperatorPrinted o p parts t
      with_its p fit = infix_node o p (between_row o f).0 (between_row o f).1 (between_pieces o f p) fit parts t all h

  call_printed : (o : Op) → is_call (op_form o) ≡ true → (parts : List Formula) (t : Ty) → Parts parts → row_fits (row_of o) (map type_of parts) t ≡ true → IsNodePrinted o parts t
  call_printed o f parts t all h =
      same_sign o parts t (same_denied o (call_alone o f))
      (call_node o (sign_piece o) (call_row o f).0 (call_row o f).1 (call_pieces o f (sign_piece o)) (λ rest. fits_alone o (call_alone o f) (40 ∷ rest) refl) (sign_opens o (call_alone o f)) parts t all h)

  constant_printed : (o : Op) → is_plain_constant o ≡ true → (parts : List Formula) (t : Ty) → row_fits (row_of o) (map type_of parts) t ≡ true → IsNodePrinted o parts t
  constant_printed o f parts t h =
      same_sign o parts t (same_denied o (constant_alone o f))
      (constant_node o (sign_piece o) (constant_row o f).0 (constant_row o f).1 (constant_pieces o f (sign_piece o)) (fits_alone o (constant_alone o f)) (sign_opens o (constant_alone o f)) parts t h)

  regular_printed : (o : Op) → (is_between (op_form o) || (is_call (op_form o) || is_plain_constant o)) ≡ true → (parts : List Formula) (t : Ty) → Parts parts → row_fits (row_of o) (map type_of parts) t ≡ true → IsNodePrinted o parts t
  regular_printed o k parts t all h = go (is_between (op_form o)) refl (is_call (op_form o)) refl k
    where
      go : (a : Bool) → is_between (op_form o) ≡ a → (b : Bool) → is_call (op_form o) ≡ b → (a || (b || is_plain_constant o)) ≡ true → IsNodePrinted o parts t
      go true e b f k = between_printed o e parts t all h
      go false e true f k = call_printed o f parts t all h
      go false e false f k = constant_printed o k parts t h

  pub node_printed : (o : Op) (parts : List Formula) (t : Ty) → Parts parts → AreNames (carriers t) → row_fits (row_of o) (map type_of parts) t ≡ true → IsNodePrinted o parts t
  node_printed op.Not parts t all carried h = not_node parts t all h
  node_printed op.Negate parts t all carried h = negate_node parts t all h
  node_printed op.Converse parts t all carried h = converse_node parts t all h
  node_printed op.Apply parts t all carried h = apply_node parts t all h
  node_printed op.Image parts t all carried h = image_node parts t all h
  node_printed op.SetExtension parts t all carried h = set_node parts t all h
  node_printed op.EmptySet parts t all carried h = same_sign op.EmptySet parts t refl (typed_node op.EmptySet (sign_piece op.EmptySet) nullary.EmptySet refl (λ t. refl) (fits_alone op.EmptySet refl) parts t carried h)
  node_printed op.Identity parts t all carried h = same_sign op.Identity parts t refl (typed_node op.Identity (sign_piece op.Identity) nullary.Identity refl (λ t. refl) (fits_alone op.Identity refl) parts t carried h)
  node_printed op.FirstProjection parts t all carried h =
      same_sign op.FirstProjection parts t refl (typed_node op.FirstProjection (sign_piece op.FirstProjection) nullary.FirstProjection refl (λ t. refl) (fits_alone op.FirstProjection refl) parts t carried h)
  node_printed op.SecondProjection parts t all carried h =
      same_sign op.SecondProjection parts t refl (typed_node op.SecondProjection (sign_piece op.SecondProjection) nullary.SecondProjection refl (λ t. refl) (fits_alone op.SecondProjection refl) parts t carried h)
  node_printed o parts t all carried h = regular_printed o refl parts t all h
