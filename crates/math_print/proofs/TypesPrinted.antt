-- The pieces of types, and of names with types, fit together.
use Rattle.std.proofs.Common.{◌≡◌, sym as back, subst, refl, ℕ, ◌+◌, ◌<◌, ◌≤◌, true, List, [], ◌∷◌, ◌++◌, length, map, arith}
use Rattle.std.specs.Prelude.{is_some}
use Rattle.std.proofs.lemmas.List.{append-nil}
use Rattle.formula_core.specs.Names.{is_name}
use Rattle.formula_core.specs.declared.op.Op.TheVariants as op
use Rattle.formula_core.specs.declared.ty.Ty.{Ty}
use Rattle.formula_core.specs.declared.ty.Ty.TheVariants as ty
use Rattle.formula_core.specs.Formulas.{joined}
use Rattle.formula_core.specs.Identifiers.{carriers}
use Rattle.formula_core.specs.Types.{components}
use Rattle.formula_core.proofs.Equations.{carriers-Given, carriers-Pow, carriers-Pair}
use Rattle.formula_core.proofs.Types.{type_induction}
use Rattle.token_text.specs.Pieces.{Piece, text_of, word_piece, open_round_piece, close_round_piece, typing_piece, sign_piece, in_round, sign_between, behind_commas, separated_pieces}
use Rattle.token_text.proofs.Fitting.{Fits}
use Rattle.token_text.proofs.Following.{stops, Follows}
use Rattle.token_text.proofs.Names.{fits-name, name_lettered}
use Rattle.token_text.proofs.Operators.{fits_spaced, fits_alone}
use Rattle.token_text.proofs.Signs.{opens_set}
use Rattle.token_text.proofs.Words.{lettered_opens_set}
use Rattle.formula_print.specs.Printing.{typed_constant, name_at, printed_declarations}
use Rattle.formula_print.specs.Types.{right_of_product, type_pieces}
use Rattle.formula_print.proofs.NamedScopes.{all_left, all_right}
use Rattle.formula_print.proofs.TypeTexts.{type_pieces-Int, type_pieces-Bool, type_pieces-Given, type_pieces-Pow, type_pieces-Pair, type_pieces-Truth}
use Rattle.math_print.proofs.TypeReadings.{AreNames}
use Rattle.math_print.proofs.SignFits.{fits-open_round, fits-close_round, fits-typing}
use Rattle.math_print.proofs.Printed.{IsPrinted, Opens, opens_with, nothing, lone, token, beside, rounded, infix_form, call_form, ArePrinted, separated_form}

abbrev IsTypePrinted : Ty → Type 0
IsTypePrinted t = AreNames (carriers t) → IsPrinted (type_pieces t)

by : (ps qs : List Piece) → qs ≡ ps → IsPrinted ps → IsPrinted qs
by ps qs e is = let P : List Piece → Type 0 = λ l. IsPrinted l in subst P (back e) is

pub named : (x : List ℕ) → is_name x ≡ true → IsPrinted (word_piece x ∷ [])
named x is = lone (word_piece x) (fits-name x is)

pub name_opens : (x : List ℕ) → is_name x ≡ true → Opens (word_piece x ∷ [])
name_opens x is rest = let P : List ℕ → Type 0 = λ u. Follows opens_set (u ++ rest) in subst P (back (append-nil x)) (lettered_opens_set x rest (name_lettered x is))

at_pair : (t u : Ty) → IsTypePrinted t → IsTypePrinted u → IsTypePrinted (ty.Pair t u)
at_pair t u a b names =
    let split : AreNames (carriers t ++ carriers u) = subst AreNames (carriers-Pair t u) names in
    by (sign_between (type_pieces t) (sign_piece op.Product) (right_of_product (u, type_pieces u))) _ (type_pieces-Pair t u)
    (infix_form (sign_piece op.Product) (type_pieces t) (right_of_product (u, type_pieces u)) (λ rest. fits_spaced op.Product refl (32 ∷ rest) refl)
    (a (all_left (λ x. is_name x.0 ≡ true) (carriers t) (carriers u) split))
    (rounded (is_some (components u)) (type_pieces u) (b (all_right (λ x. is_name x.0 ≡ true) (carriers t) (carriers u) split))))

pub type_printed : (t : Ty) → IsTypePrinted t
type_printed = type_induction IsTypePrinted
    (λ names. by (sign_piece op.Integers ∷ []) _ type_pieces-Int (lone (sign_piece op.Integers) (fits_alone op.Integers refl)))
    (λ names. by (sign_piece op.Booleans ∷ []) _ type_pieces-Bool (lone (sign_piece op.Booleans) (fits_alone op.Booleans refl)))
    (λ x names. by (word_piece x ∷ []) _ (type_pieces-Given x) (named x (subst AreNames (carriers-Given x) names).0))
    (λ t is names. by (sign_piece op.PowerSet ∷ in_round (type_pieces t)) _ (type_pieces-Pow t)
    (call_form (sign_piece op.PowerSet) (type_pieces t) (λ rest. fits_alone op.PowerSet refl (40 ∷ rest) refl) (is (subst AreNames (carriers-Pow t) names))))
    at_pair
    (λ names. by [] _ type_pieces-Truth nothing)

-- ⦂ before others
typing : (ps : List Piece) → IsPrinted ps → IsPrinted (typing_piece ∷ ps)
typing ps is = token typing_piece ps (λ rest h. fits-typing (text_of ps ++ rest)) is

-- a constant with its type, in parentheses
pub typed_form : (p : Piece) (t : Ty) → AreNames (carriers t) → ((rest : List ℕ) → Follows stops rest → Fits p rest) → IsPrinted (typed_constant p t)
typed_form p t names fit =
    let close : List Piece = close_round_piece ∷ [] in
    let end : IsPrinted (type_pieces t ++ close) = beside (type_pieces t) close (type_printed t names) (λ rest h. refl) (lone close_round_piece (λ rest h. fits-close_round rest)) in
    let constant : IsPrinted (p ∷ typing_piece ∷ (type_pieces t ++ close)) = token p (typing_piece ∷ (type_pieces t ++ close)) (λ rest h. fit (text_of (typing_piece ∷ (type_pieces t ++ close)) ++ rest) refl) (typing (type_pieces t ++ close) end) in
    token open_round_piece (p ∷ typing_piece ∷ (type_pieces t ++ close)) (λ rest h. fits-open_round (text_of (p ∷ typing_piece ∷ (type_pieces t ++ close)) ++ rest)) constant

module _ (names : List (List ℕ)) (are_names : (i : ℕ) → i < length names → is_name (name_at names i) ≡ true) where
  declared : (types : List Ty) (d : ℕ) → d + length types ≤ length names → AreNames (joined (map carriers types)) → ArePrinted (printed_declarations names types d)
  declared [] d few carried = tt
  declared (t ∷ types) d few carried =
      let x : List ℕ = name_at names d in
      let is : is_name x ≡ true = are_names d (omega (arith, few)) in
      let own : IsPrinted (type_pieces t) = type_printed t (all_left (λ x. is_name x.0 ≡ true) (carriers t) (joined (map carriers types)) carried) in (
        token (word_piece x) (typing_piece ∷ type_pieces t) (λ rest h. fits-name x is (text_of (typing_piece ∷ type_pieces t) ++ rest) refl)
            (typing (type_pieces t) own),
        declared types (d + 1) (omega (arith, few)) (all_right (λ x. is_name x.0 ≡ true) (carriers t) (joined (map carriers types)) carried),
      )

  -- bound identifiers
  pub declarations_form : (types : List Ty) (d : ℕ) → d + length types ≤ length names → AreNames (joined (map carriers types)) → IsPrinted (separated_pieces (printed_declarations names types d))
  declarations_form types d few carried = separated_form (printed_declarations names types d) (declared types d few carried)

  pub declarations_open : (t : Ty) (types : List Ty) (d : ℕ) → d < length names → Opens (separated_pieces (printed_declarations names (t ∷ types) d))
  declarations_open t types d few =
      opens_with (word_piece (name_at names d) ∷ []) (typing_piece ∷ (type_pieces t ++ behind_commas (printed_declarations names types (d + 1)))) (name_opens (name_at names d) (are_names d few))
