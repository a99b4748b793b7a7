-- The signs and words of operators are tokens where they are printed.
use Rattle.std.proofs.Common.{◌≡◌, refl, ℕ, Bool, true, false, ◌&&◌, not, List, [], ◌∷◌, ◌++◌, Some}
use Rattle.formula_core.specs.Names.{starts_word}
use Rattle.formula_core.specs.Texts.{begins_with}
use Rattle.formula_core.specs.declared.op.Op.{Op}
use Rattle.formula_core.specs.declared.op.Binder.TheVariants as binder
use Rattle.formula_core.specs.declared.raw.RawOp.{RawOp}
use Rattle.formula_core.specs.declared.raw.RawOp.TheVariants as rawop
use Rattle.math_tokens.specs.declared.cutting.TokenKind.TheVariants as kind
use Rattle.math_tokens.specs.Lexemes.{sign_in, is_digit}
use Rattle.math_tokens.specs.SignForms.{sign_forms}
use Rattle.math_tokens.specs.Texts.{blank_length}
use Rattle.math_grammar.specs.declared.levels.Level.TheVariants as lev
use Rattle.math_grammar.specs.declared.levels.Bracket.TheVariants as bracket
use Rattle.math_grammar.specs.declared.levels.Binding.TheVariants as binding
use Rattle.math_grammar.specs.declared.symbols.Symbol.{Symbol}
use Rattle.math_grammar.specs.declared.symbols.Symbol.TheVariants as sym
use Rattle.math_grammar.specs.declared.operators.Form.{Form}
use Rattle.math_grammar.specs.declared.operators.Form.TheVariants as form
use Rattle.math_grammar.specs.Grammar.{item}
use Rattle.math_grammar.specs.Tokens.{symbol_of}
use Rattle.component_tokens.specs.Pieces.{at_sign}
use Rattle.component_text.specs.Marks.{is_structural}
use Rattle.token_text.specs.Spacing.{is_space, FitsBefore}
use Rattle.token_text.proofs.Following.{stops, Follows}
use Rattle.token_text.proofs.Tokens.{NoneGoesOn, both_true}
use Rattle.token_text.proofs.Signs.{opens_set, free_fits, passing_sign, stopped_fits}
use Rattle.token_text.proofs.Operators.{is_signed, is_alone, passed, fits_alone, is_written, written_fits}
use Rattle.math_grammar.specs.Characters.{bytes}
use Rattle.math_grammar.specs.Operators.{sign_of, op_form, form_class, raw_sign_of, raw_class_of}
use Rattle.raw_print.proofs.Proper.{is_infix}
use Rattle.component_print.proofs.Laying.{opens_no_piece}

-- it begins no label and no comment, and is no structural word
abbrev pub IsPlainText : List ℕ → Type 0
IsPlainText w = (opens_no_piece w ≡ true) × (begins_with at_sign w ≡ false) × (is_structural w ≡ false)

-- a token of formulas before what passes
pub record Ready (p : ℕ → Bool) (x : Symbol) (w : List ℕ) : Type 0 where
  pub fits : (t : List ℕ) → Follows p t → FitsBefore (item x 0 w) t
  pub plain : IsPlainText w
  -- it is no closing brace
  pub opens : (t : List ℕ) → Follows opens_set (w ++ t)

spaced : (k : ℕ) (x : Symbol) (b : ℕ) (bs : List ℕ) → starts_word b ≡ false → is_digit b ≡ false → sign_in sign_forms (b ∷ bs) ≡ Some k → ((rest : List ℕ) → blank_length ((b ∷ bs) ++ rest) ≡ 0) →
    NoneGoesOn sign_forms (b ∷ bs) is_space → symbol_of (kind.Sign k) (b ∷ bs) ≡ x → IsPlainText (b ∷ bs) → opens_set b ≡ true → Ready is_space x (b ∷ bs)
spaced k x b bs word digit is no_blank none class plain opens = record { fits = passing_sign is_space k x b bs word digit is no_blank none class; plain = plain; opens = λ t. opens }

free : (k : ℕ) (x : Symbol) (b : ℕ) (bs : List ℕ) → starts_word b ≡ false → is_digit b ≡ false → sign_in sign_forms (b ∷ bs) ≡ Some k → ((rest : List ℕ) → blank_length ((b ∷ bs) ++ rest) ≡ 0) →
    NoneGoesOn sign_forms (b ∷ bs) (λ c. true) → symbol_of (kind.Sign k) (b ∷ bs) ≡ x → IsPlainText (b ∷ bs) → opens_set b ≡ true → Ready (λ c. true) x (b ∷ bs)
free k x b bs word digit is no_blank none class plain opens = record { fits = λ t f. free_fits k x b bs word digit is no_blank none class t; plain = plain; opens = λ t. opens }

-- the same as tests
abbrev is_plain_text : List ℕ → Bool
is_plain_text w = opens_no_piece w && (not (begins_with at_sign w) && not (is_structural w))

abbrev begins_open : List ℕ → Bool
begins_open [] = false
begins_open (c ∷ cs) = opens_set c

false_of : (b : Bool) → not b ≡ true → b ≡ false
false_of true h = cc
false_of false h = refl

plain_of : (w : List ℕ) → is_plain_text w ≡ true → IsPlainText w
plain_of w h =
    let first : (opens_no_piece w ≡ true) × ((not (begins_with at_sign w) && not (is_structural w)) ≡ true) = both_true (opens_no_piece w) _ h in
    let second : (not (begins_with at_sign w) ≡ true) × (not (is_structural w) ≡ true) = both_true (not (begins_with at_sign w)) _ first.1 in
    (first.0, false_of (begins_with at_sign w) second.0, false_of (is_structural w) second.1)

opens_of : (w t : List ℕ) → begins_open w ≡ true → Follows opens_set (w ++ t)
opens_of [] t h = cc
opens_of (c ∷ cs) t h = h

-- the sign of each operator is so
abbrev is_ready : List ℕ → Bool
is_ready w = begins_open w && is_plain_text w

own_ready : (o : Op) → is_signed (op_form o) ≡ true → is_ready (sign_of o) ≡ true
unfolding lib.Utf8.encode
own_ready = passed (λ o. is_signed (op_form o)) (λ o. is_ready (sign_of o)) refl

written_ready : (o : RawOp) → is_written o ≡ true → is_ready (raw_sign_of o) ≡ true
unfolding lib.Utf8.encode
written_ready (rawop.Plain o) h = own_ready o h
written_ready _ h = refl

-- an operator between two operands, before a blank
pub before_space : (o : RawOp) → is_infix (raw_class_of o) ≡ true → Ready is_space (raw_class_of o) (raw_sign_of o)
before_space o h =
    let signed : is_written o ≡ true = infix_written o h in
    let ready : (begins_open (raw_sign_of o) ≡ true) × (is_plain_text (raw_sign_of o) ≡ true) = both_true (begins_open (raw_sign_of o)) _ (written_ready o signed) in
    record { fits = written_fits o signed; plain = plain_of (raw_sign_of o) ready.1; opens = λ t. opens_of (raw_sign_of o) t ready.0 }
  where
    of_form : (f : Form) (o : Op) → is_infix (form_class f o) ≡ true → is_signed f ≡ true
    of_form (form.Open b) o h = cc
    of_form _ o h = refl

    infix_written : (o : RawOp) → is_infix (raw_class_of o) ≡ true → is_written o ≡ true
    infix_written (rawop.Plain o) h = of_form (op_form o) o h
    infix_written _ h = refl

-- a constant or a word with parentheses behind it, before what stops
abbrev pub is_wordy : Symbol → Bool
is_wordy (sym.Truth o) = true
is_wordy (sym.Constant o) = true
is_wordy (sym.Call c o) = true
is_wordy _ = false

pub before_stop : (o : RawOp) → is_wordy (raw_class_of o) ≡ true → Ready stops (raw_class_of o) (raw_sign_of o)
unfolding lib.Utf8.encode
before_stop (rawop.Plain o) h =
    let alone : is_alone (op_form o) ≡ true = of_form (op_form o) o h in
    let ready : (begins_open (sign_of o) ≡ true) × (is_plain_text (sign_of o) ≡ true) = both_true (begins_open (sign_of o)) _ (own_ready o (of_alone (op_form o) alone)) in
    record { fits = fits_alone o alone; plain = plain_of (sign_of o) ready.1; opens = λ t. opens_of (sign_of o) t ready.0 }
  where
    of_form : (f : Form) (o : Op) → is_wordy (form_class f o) ≡ true → is_alone f ≡ true
    of_form (form.Infix l) o h = cc
    of_form form.Minus o h = cc
    of_form (form.Open b) o h = cc
    of_form _ o h = refl

    of_alone : (f : Form) → is_alone f ≡ true → is_signed f ≡ true
    of_alone (form.Open b) h = cc
    of_alone _ h = refl
before_stop rawop.Partition h = record { fits = stopped_fits (raw_class_of rawop.Partition) (raw_sign_of rawop.Partition) refl refl; plain = (refl, refl, refl); opens = λ t. refl }
before_stop _ h = cc

-- before anything
pub ready-not : Ready (λ c. true) (sym.Not) (bytes "¬")
unfolding lib.Utf8.encode
ready-not = free 2 (sym.Not) 194 (172 ∷ []) refl refl refl (λ rest. refl) refl refl (refl, refl, refl) refl

pub ready-minus : Ready (λ c. true) (sym.Minus) (bytes "−")
unfolding lib.Utf8.encode
ready-minus = free 50 (sym.Minus) 226 (136 ∷ 146 ∷ []) refl refl refl (λ rest. refl) refl refl (refl, refl, refl) refl

pub ready-converse : Ready (λ c. true) (sym.Converse) (bytes "∼")
unfolding lib.Utf8.encode
ready-converse = free 55 (sym.Converse) 226 (136 ∷ 188 ∷ []) refl refl refl (λ rest. refl) refl refl (refl, refl, refl) refl

pub ready-open_round : Ready (λ c. true) (sym.Open bracket.Round) (bytes "(")
unfolding lib.Utf8.encode
ready-open_round = free 69 (sym.Open bracket.Round) 40 ([]) refl refl refl (λ rest. refl) refl refl (refl, refl, refl) refl

pub ready-close_round : Ready (λ c. true) (sym.Close bracket.Round) (bytes ")")
unfolding lib.Utf8.encode
ready-close_round = free 70 (sym.Close bracket.Round) 41 ([]) refl refl refl (λ rest. refl) refl refl (refl, refl, refl) refl

pub ready-open_square : Ready (λ c. true) (sym.Open bracket.Square) (bytes "[")
unfolding lib.Utf8.encode
ready-open_square = free 71 (sym.Open bracket.Square) 91 ([]) refl refl refl (λ rest. refl) refl refl (refl, refl, refl) refl

pub ready-close_square : Ready (λ c. true) (sym.Close bracket.Square) (bytes "]")
unfolding lib.Utf8.encode
ready-close_square = free 72 (sym.Close bracket.Square) 93 ([]) refl refl refl (λ rest. refl) refl refl (refl, refl, refl) refl

pub ready-comma : Ready (λ c. true) (sym.Comma) (bytes ",")
unfolding lib.Utf8.encode
ready-comma = free 75 (sym.Comma) 44 ([]) refl refl refl (λ rest. refl) refl refl (refl, refl, refl) refl

pub ready-dot : Ready (λ c. true) (sym.Dot) (bytes "·")
unfolding lib.Utf8.encode
ready-dot = free 9 (sym.Dot) 194 (183 ∷ []) refl refl refl (λ rest. refl) refl refl (refl, refl, refl) refl

pub ready-bar : Ready (λ c. true) (sym.Bar) (bytes "∣")
unfolding lib.Utf8.encode
ready-bar = free 10 (sym.Bar) 226 (136 ∷ 163 ∷ []) refl refl refl (λ rest. refl) refl refl (refl, refl, refl) refl

pub ready-typing : Ready (λ c. true) (sym.Infix lev.Typing rawop.OfType) (bytes "⦂")
unfolding lib.Utf8.encode
ready-typing = free 56 (sym.Infix lev.Typing rawop.OfType) 226 (166 ∷ 130 ∷ []) refl refl refl (λ rest. refl) refl refl (refl, refl, refl) refl

pub ready-for_all : Ready (λ c. true) (sym.Binder (binding.Quantified binder.ForAll)) (bytes "∀")
unfolding lib.Utf8.encode
ready-for_all = free 7 (sym.Binder (binding.Quantified binder.ForAll)) 226 (136 ∷ 128 ∷ []) refl refl refl (λ rest. refl) refl refl (refl, refl, refl) refl

pub ready-exists : Ready (λ c. true) (sym.Binder (binding.Quantified binder.Exists)) (bytes "∃")
unfolding lib.Utf8.encode
ready-exists = free 8 (sym.Binder (binding.Quantified binder.Exists)) 226 (136 ∷ 131 ∷ []) refl refl refl (λ rest. refl) refl refl (refl, refl, refl) refl

pub ready-union : Ready (λ c. true) (sym.Binder (binding.Reaching binder.QuantifiedUnion)) (bytes "⋃")
unfolding lib.Utf8.encode
ready-union = free 58 (sym.Binder (binding.Reaching binder.QuantifiedUnion)) 226 (139 ∷ 131 ∷ []) refl refl refl (λ rest. refl) refl refl (refl, refl, refl) refl

pub ready-intersection : Ready (λ c. true) (sym.Binder (binding.Reaching binder.QuantifiedIntersection)) (bytes "⋂")
unfolding lib.Utf8.encode
ready-intersection = free 59 (sym.Binder (binding.Reaching binder.QuantifiedIntersection)) 226 (139 ∷ 130 ∷ []) refl refl refl (λ rest. refl) refl refl (refl, refl, refl) refl

pub ready-lambda : Ready (λ c. true) (sym.Binder binding.Lambda) (bytes "λ")
unfolding lib.Utf8.encode
ready-lambda = free 57 (sym.Binder binding.Lambda) 206 (187 ∷ []) refl refl refl (λ rest. refl) refl refl (refl, refl, refl) refl

pub ready-becomes : Ready (λ c. true) (sym.Becomes) (bytes "≔")
unfolding lib.Utf8.encode
ready-becomes = free 66 (sym.Becomes) 226 (137 ∷ 148 ∷ []) refl refl refl (λ rest. refl) refl refl (refl, refl, refl) refl

pub ready-becomes_in : Ready is_space (sym.BecomesIn) (bytes ":∈")
unfolding lib.Utf8.encode
ready-becomes_in = spaced 67 (sym.BecomesIn) 58 (226 ∷ 136 ∷ 136 ∷ []) refl refl refl (λ rest. refl) refl refl (refl, refl, refl) refl

pub ready-becomes_such : Ready is_space (sym.BecomesSuch) (bytes ":∣")
unfolding lib.Utf8.encode
ready-becomes_such = spaced 68 (sym.BecomesSuch) 58 (226 ∷ 136 ∷ 163 ∷ []) refl refl refl (λ rest. refl) refl refl (refl, refl, refl) refl

-- the braces: the one that opens before anything but the one that closes
pub fits-open_brace : (t : List ℕ) → Follows opens_set t → FitsBefore (item (sym.Open bracket.Brace) 0 (bytes "{")) t
unfolding lib.Utf8.encode
fits-open_brace = passing_sign opens_set 73 (sym.Open bracket.Brace) 123 [] refl refl refl (λ rest. refl) refl refl

pub fits-close_brace : (t : List ℕ) → FitsBefore (item (sym.Close bracket.Brace) 0 (bytes "}")) t
unfolding lib.Utf8.encode
fits-close_brace = free_fits 74 (sym.Close bracket.Brace) 125 [] refl refl refl (λ rest. refl) refl refl
