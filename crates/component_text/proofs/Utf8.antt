-- The bytes of a token are text.
use Rattle.std.proofs.Common.{◌≡◌, ◌∙◌, ap, ℕ, zero, suc, ◌+◌, ◌-◌, ◌<◌, ◌≤◌, ◌==◌, List, [], ◌∷◌, ◌++◌, Bool, true, false, cond, take, drop, Some, refl, sym, subst, arith, inl, inr, bytes_eq}
use Rattle.std.specs.Prelude.{Option}
use Rattle.std.specs.List.{list_all, prefix_len}
use Rattle.std.specs.Str.{IsAscii, IsUtf8, is_utf8, chars}
use lib.Utf8.{encode}
use Rattle.std.proofs.lemmas.Bool.{eqb-true}
use Rattle.std.proofs.lemmas.Str.{IsUtf8-from_ascii, IsUtf8-from_is_utf8}
use Rattle.std.proofs.lemmas.Bool.Decides.{nat_tests}
use Rattle.std.proofs.lemmas.Slice.Eq.{bytes_eq-Decides}
use Rattle.formula_core.specs.Names.{starts_word, is_in_word}
use Rattle.formula_core.specs.Texts.{is_in_label}
use Rattle.math_tokens.specs.declared.lexemes.Lexeme.{Lexeme}
use Rattle.math_tokens.specs.declared.cutting.Token.{Token}
use Rattle.math_tokens.specs.SignForms.{sign_forms}
use Rattle.math_tokens.specs.Lexemes.{Forms, sign_in, is_digit, is_token_word, is_digits, IsLexeme, a_sign, a_word, a_primed, a_number}
use Rattle.math_grammar.specs.Tokens.{bytes_of}
use Rattle.component_tokens.specs.declared.piece.CutFault.{CutFault}
use Rattle.component_tokens.specs.declared.piece.Piece.TheVariants as piece
use Rattle.component_tokens.specs.Pieces.{at_sign, label_run, label_length, IsPieceAt, CutInto, at_end, over_gap, past_token, at_fault}
use Rattle.std.specs.Prelude.{slice_get}
use Rattle.std.specs.List.{AllByRecursion}
use Rattle.formula_core.specs.Texts.{begins_with}
use Rattle.math_grammar.specs.Tokens.{item_of}
use Rattle.component_text.specs.Marks.{Mark, token_mark, marks_of, is_structural}
use Rattle.component_text.specs.Spelled.{place_of_mark, text_of_mark}
use Rattle.component_text.specs.PrivatePieces.{HasText}
use Rattle.component_text.proofs.Marks.{by_word, by_label, by_plain}
use Rattle.component_text.proofs.Texts.{both, all_low, in_word_low, in_label_low, start_in_word}

ascii_cons : (c : ℕ) (cs : List ℕ) → c < 128 → IsAscii cs → IsAscii (c ∷ cs)
ascii_cons c cs h a zero = h
ascii_cons c cs h a (suc i) = a i

ascii_nil : IsAscii []
ascii_nil zero = omega arith
ascii_nil (suc i) = omega arith

ascii_append : (xs ys : List ℕ) → IsAscii xs → IsAscii ys → IsAscii (xs ++ ys)
ascii_append [] ys a b = b
ascii_append (x ∷ xs) ys a b = ascii_cons x (xs ++ ys) (a zero) (ascii_append xs ys (λ i. a (suc i)) b)

digit_low : (c : ℕ) → is_digit c ≡ true → c < 128
digit_low c h = grind (arith, nat_tests)

word_ascii : (w : List ℕ) → is_token_word w ≡ true → IsAscii w
word_ascii [] h = ascii_nil
word_ascii (c ∷ cs) h =
    let two = both (starts_word c) (list_all is_in_word cs) h in
    ascii_cons c cs (in_word_low c (start_in_word c two.0)) (all_low is_in_word in_word_low cs two.1)

digits_ascii : (w : List ℕ) → is_digits w ≡ true → IsAscii w
digits_ascii [] h = ascii_nil
digits_ascii (c ∷ cs) h =
    let two = both (is_digit c) (list_all is_digit cs) h in
    ascii_cons c cs (digit_low c two.0) (all_low is_digit digit_low cs two.1)

-- each form of a sign
abbrev AreText : Forms → Type 0
AreText forms = list_all (λ e. is_utf8 e.0) forms ≡ true

signs_are_text : AreText sign_forms
unfolding is_utf8 chars encode
signs_are_text = refl

sign_text : (forms : Forms) → AreText forms → (bytes : List ℕ) (k : ℕ) → sign_in forms bytes ≡ Some k → IsUtf8 bytes
sign_text [] all bytes k h = cc
sign_text (e ∷ forms) all bytes k h = go (bytes_eq e.0 bytes) refl h (sign_text forms (both (is_utf8 e.0) (list_all (λ f. is_utf8 f.0) forms) all).1 bytes k)
  where
    go : (b : Bool) → bytes_eq e.0 bytes ≡ b → cond b (Some e.1) (sign_in forms bytes) ≡ Some k → (sign_in forms bytes ≡ Some k → IsUtf8 bytes) → IsUtf8 bytes
    go true is h later =
        let same : e.0 ≡ bytes = (bytes_eq-Decides e.0 bytes).0 is in
        subst IsUtf8 same (IsUtf8-from_is_utf8 e.0 (both (is_utf8 e.0) (list_all (λ f. is_utf8 f.0) forms) all).0)
    go false is h later = later h

lexeme_text : (bytes : List ℕ) (l : Lexeme) → IsLexeme sign_forms bytes l → IsUtf8 bytes
lexeme_text bytes l (a_sign {k = k} s) = sign_text sign_forms signs_are_text bytes k s
lexeme_text bytes l (a_word n w) = IsUtf8-from_ascii bytes (word_ascii bytes w)
lexeme_text bytes l (a_primed v n w e) = subst IsUtf8 (sym e) (IsUtf8-from_ascii (v ++ 39 ∷ []) (ascii_append v (39 ∷ []) (word_ascii v w) (ascii_cons 39 [] (omega arith) ascii_nil)))
lexeme_text bytes l (a_number n d) = IsUtf8-from_ascii bytes (digits_ascii bytes d)

run_low : (p : ℕ → Bool) → ((c : ℕ) → p c ≡ true → c < 128) → (n : ℕ) (xs : List ℕ) → n ≤ prefix_len p xs → IsAscii (take n xs)
run_low p low zero xs h = ascii_nil
run_low p low (suc n) [] h = ascii_nil
run_low p low (suc n) (x ∷ xs) h = go (p x) refl h (run_low p low n xs)
  where
    go : (b : Bool) → p x ≡ b → suc n ≤ cond b (1 + prefix_len p xs) 0 → (n ≤ prefix_len p xs → IsAscii (take n xs)) → IsAscii (x ∷ take n xs)
    go true e h later = ascii_cons x (take n xs) (low x e) (later (omega arith))
    go false e h later = absurd (omega arith)

label_text : (xs : List ℕ) → 0 < label_length xs → IsAscii (take (1 + label_length xs) xs)
label_text [] h = ascii_nil
label_text (c ∷ cs) h = go (c == at_sign) refl h
  where
    go : (b : Bool) → (c == at_sign) ≡ b → 0 < cond b (label_run cs) 0 → IsAscii (take (1 + cond b (label_run cs) 0) (c ∷ cs))
    go true e h =
        let n : 1 + label_run cs ≡ suc (label_run cs) = omega arith in
        let low : c < 128 = omega (arith, eqb-true c at_sign e) in
        subst (λ k. IsAscii (take k (c ∷ cs))) (sym n) (ascii_cons c (take (label_run cs) cs) low (run_low is_in_label in_label_low (label_run cs) cs (omega arith)))
    go false e h = absurd (omega arith)

module _ (text : List ℕ) where
  -- the bytes from a place on, so many
  bytes_at : (t : Token) (at n : ℕ) → t.from ≡ at → t.to ≡ at + n → bytes_of text t ≡ take n (drop at text)
  bytes_at t at n e f = let k : t.to - t.from ≡ n = omega (arith, e, f) in ap (λ m. take m (drop t.from text)) k ∙ ap (λ m. take n (drop m text)) e

  piece_text : (at : ℕ) (t : Token) → IsPieceAt text at (piece.Token t) → IsUtf8 (bytes_of text t)
  piece_text at t h = elim h.1 [
    | inl l ↦ (
        let n = label_length (drop at text) in
        let from : t.from ≡ at = ap (λ u. u.from) l.1 in
        let to : t.to ≡ at + (1 + n) = ap (λ u. u.to) l.1 ∙ (let e : at + 1 + n ≡ at + (1 + n) = omega arith in e) in
        subst IsUtf8 (sym (bytes_at t at (1 + n) from to)) (IsUtf8-from_ascii (take (1 + n) (drop at text)) (label_text (drop at text) l.0)))
    | inr k ↦ subst IsUtf8 (sym (bytes_at t at k.1.1 k.1.4 k.1.5)) (lexeme_text (take k.1.1 (drop at text)) k.1.0 k.1.3.spells)
  ]

  begins_cons : (b : List ℕ) → begins_with at_sign b ≡ true → at_sign ∷ drop 1 b ≡ b
  begins_cons [] e = cc
  begins_cons (c ∷ cs) e = ap (λ d. d ∷ cs) (sym (eqb-true c at_sign e))

  pub mark_text : (t : Token) → text_of_mark (token_mark text t) ≡ bytes_of text t
  mark_text t = go (begins_with at_sign (bytes_of text t)) refl (is_structural (bytes_of text t)) refl
    where
      go : (a : Bool) → begins_with at_sign (bytes_of text t) ≡ a → (b : Bool) → is_structural (bytes_of text t) ≡ b → text_of_mark (token_mark text t) ≡ bytes_of text t
      go true e b f = ap text_of_mark (by_label (bytes_of text t) t.from (item_of text t) e) ∙ begins_cons (bytes_of text t) e
      go false e true f = ap text_of_mark (by_word (bytes_of text t) t.from (item_of text t) e f)
      go false e false f = ap text_of_mark (by_plain (bytes_of text t) t.from (item_of text t) e f)

  pub mark_place : (t : Token) → place_of_mark (token_mark text t) ≡ t.from
  mark_place t = go (begins_with at_sign (bytes_of text t)) refl (is_structural (bytes_of text t)) refl
    where
      go : (a : Bool) → begins_with at_sign (bytes_of text t) ≡ a → (b : Bool) → is_structural (bytes_of text t) ≡ b → place_of_mark (token_mark text t) ≡ t.from
      go true e b f = ap place_of_mark (by_label (bytes_of text t) t.from (item_of text t) e)
      go false e true f = ap place_of_mark (by_word (bytes_of text t) t.from (item_of text t) e f)
      go false e false f = ap place_of_mark (by_plain (bytes_of text t) t.from (item_of text t) e f)

  pub marks_are_text : (at : ℕ) (ts : List Token) (o : Option CutFault) → CutInto text at ts o → AllByRecursion HasText (marks_of text ts)
  marks_are_text at ts o (at_end e) = tt
  marks_are_text at ts o (over_gap {n = n} i h c) = marks_are_text (at + n) ts o c
  marks_are_text at ts o (past_token {ts = us} t i h c) = (subst IsUtf8 (sym (mark_text t)) (piece_text at t h), marks_are_text t.to us o c)
  marks_are_text at ts o (at_fault f i h) = tt

pub all_behind : (front rest : List Mark) → AllByRecursion HasText (front ++ rest) → AllByRecursion HasText rest
all_behind [] rest h = h
all_behind (x ∷ front) rest h = all_behind front rest h.1

pub first_is : (text : List ℕ) (tokens : List Token) (t : Token) → Some t ≡ slice_get tokens 0 →
    (x : Mark) × (later : List Mark) × (marks_of text tokens ≡ x ∷ later) × (t.from ≡ place_of_mark x) × (bytes_of text t ≡ text_of_mark x)
first_is text [] t e = cc
first_is text (u ∷ tokens) t e =
    let same : u ≡ t = cc in
    (token_mark text t, marks_of text tokens, ap (λ v. token_mark text v ∷ marks_of text tokens) same, sym (mark_place text t), sym (mark_text text t))
