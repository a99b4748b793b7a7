-- A text is cut in at most one way.
use Rattle.std.proofs.Common.{◌≡◌, ℕ, ◌+◌, ◌<◌, List, [], ◌∷◌, ◌++◌, length, take, drop, Bool, true, false, Option, Some, None, Result, Ok, Err, inl, inr, refl, ap, sym, subst, ◌∙◌, arith, length-drop, nat_lt}
use Rattle.std.specs.List.{list_all}
use Rattle.std.proofs.lemmas.Bool.Decides.{nat_tests}
use Rattle.std.proofs.lemmas.List.{drop_all}
use Rattle.math_tokens.specs.declared.lexemes.Lexeme.{Lexeme}
use Rattle.math_tokens.specs.declared.cutting.TokenKind.{TokenKind}
use Rattle.math_tokens.specs.declared.cutting.TokenFault.{TokenFault}
use Rattle.math_tokens.specs.declared.cutting.Token.{Token}
use Rattle.formula_core.specs.Names.{starts_word, is_in_word}
use Rattle.math_tokens.specs.Lexemes.{Forms, is_digit, is_token_word, is_digits, IsLexeme, a_sign, a_word, a_primed, a_number, IsLongest}
use Rattle.math_tokens.specs.Texts.{blank_length, meaning, HasNoLexeme, IsTokenAt, Cut, at_end, over_blank, past_token, fault_later, fault_here}
use Rattle.math_tokens.specs.SignForms.{sign_forms}
use Rattle.math_tokens.proofs.Fronts.{both}

-- a prime is no part of a word
no_prime_in : (w : List ℕ) → list_all is_in_word (w ++ 39 ∷ []) ≡ true → ⊥
no_prime_in [] h = cc
no_prime_in (c ∷ w) h = no_prime_in w (both (is_in_word c) (list_all is_in_word (w ++ 39 ∷ [])) h).1

no_primed_word : (w : List ℕ) → is_token_word (w ++ 39 ∷ []) ≡ true → ⊥
no_primed_word [] h = cc
no_primed_word (c ∷ w) h = no_prime_in w (both (starts_word c) (list_all is_in_word (w ++ 39 ∷ [])) h).1

-- a digit begins no word
no_digit_starts : (c : ℕ) → starts_word c ≡ true → is_digit c ≡ true → ⊥
no_digit_starts c h d = grind (arith, nat_tests)

no_digit_word : (bytes : List ℕ) → is_token_word bytes ≡ true → is_digits bytes ≡ true → ⊥
no_digit_word [] h d = cc
no_digit_word (c ∷ cs) h d = no_digit_starts c (both (starts_word c) (list_all is_in_word cs) h).0 (both (is_digit c) (list_all is_digit cs) d).0

no_digit_primed : (w bytes : List ℕ) → is_token_word w ≡ true → bytes ≡ w ++ 39 ∷ [] → is_digits bytes ≡ true → ⊥
no_digit_primed [] bytes h e d = cc
no_digit_primed (c ∷ w) bytes h e d =
    let d' : is_digits (c ∷ (w ++ 39 ∷ [])) ≡ true = subst (λ b. is_digits b ≡ true) e d in
    no_digit_starts c (both (starts_word c) (list_all is_in_word w) h).0 (both (is_digit c) (list_all is_digit (w ++ 39 ∷ [])) d').0

-- no bytes spell two tokens
one_lexeme : (forms : Forms) (bytes : List ℕ) (k l : Lexeme) → IsLexeme forms bytes k → IsLexeme forms bytes l → k ≡ l
one_lexeme forms bytes k l (a_sign s) (a_sign t) = cc
one_lexeme forms bytes k l (a_sign s) (a_word n w) = cc
one_lexeme forms bytes k l (a_sign s) (a_primed v n w e) = cc
one_lexeme forms bytes k l (a_sign s) (a_number n d) = cc
one_lexeme forms bytes k l (a_word n w) (a_sign t) = cc
one_lexeme forms bytes k l (a_word n w) (a_word m v) = refl
one_lexeme forms bytes k l (a_word n w) (a_primed v m x e) = absurd (no_primed_word v (subst (λ b. is_token_word b ≡ true) e w))
one_lexeme forms bytes k l (a_word n w) (a_number m d) = absurd (no_digit_word bytes w d)
one_lexeme forms bytes k l (a_primed v n w e) (a_sign t) = cc
one_lexeme forms bytes k l (a_primed v n w e) (a_word m x) = absurd (no_primed_word v (subst (λ b. is_token_word b ≡ true) e x))
one_lexeme forms bytes k l (a_primed v n w e) (a_primed u m x f) = refl
one_lexeme forms bytes k l (a_primed v n w e) (a_number m d) = absurd (no_digit_primed v bytes w e d)
one_lexeme forms bytes k l (a_number n d) (a_sign t) = cc
one_lexeme forms bytes k l (a_number n d) (a_word m w) = absurd (no_digit_word bytes w d)
one_lexeme forms bytes k l (a_number n d) (a_primed v m w e) = absurd (no_digit_primed v bytes w e d)
one_lexeme forms bytes k l (a_number n d) (a_number m f) = refl

module _ (forms : Forms) (text : List ℕ) where
  -- the longest token is one
  one_length : (n m : ℕ) (k l : Lexeme) → IsLongest forms text n k → IsLongest forms text m l → n ≡ m
  one_length n m k l a b = go (nat_lt n m) refl (nat_lt m n) refl
    where
      go : (v : Bool) → nat_lt n m ≡ v → (w : Bool) → nat_lt m n ≡ w → n ≡ m
      go true e w f = absurd (a.longest m (grind (arith, nat_tests)) b.within l b.spells)
      go false e true f = absurd (b.longest n (grind (arith, nat_tests)) a.within k a.spells)
      go false e false f = grind (arith, nat_tests)

  one_longest : (n m : ℕ) (k l : Lexeme) → IsLongest forms text n k → IsLongest forms text m l → (n ≡ m) × (k ≡ l)
  one_longest n m k l a b =
      let same : n ≡ m = one_length n m k l a b in
      (same, one_lexeme forms (take n text) k l a.spells (rw same b.spells))

  some_longest : (n : ℕ) (k : Lexeme) → HasNoLexeme forms text → IsLongest forms text n k → ⊥
  some_longest n k none a = none n a.some a.within k a.spells

-- a token is known by its fields
abbrev token_of : TokenKind → ℕ → ℕ → Token
token_of kind from to = record { kind = kind; from = from; to = to }

token_is : (t u : Token) → t.kind ≡ u.kind → t.from ≡ u.from → t.to ≡ u.to → t ≡ u
token_is t u k f e = ap (λ x. token_of x t.from t.to) k ∙ ap (λ x. token_of u.kind x t.to) f ∙ ap (λ x. token_of u.kind u.from x) e

module _ (forms : Forms) (text : List ℕ) (at : ℕ) where
  none_or_some : (t : Token) → IsTokenAt forms text at (Ok None) → IsTokenAt forms text at (Ok (Some t)) → ⊥
  none_or_some t a b = elim a [ inl e ↦ omega (arith, e, b.3.some, b.3.within, length-drop at text) | inr h ↦ omega (arith, h, b.2) ]

  none_or_fault : (f : TokenFault) → IsTokenAt forms text at (Ok None) → IsTokenAt forms text at (Err f) → ⊥
  none_or_fault f a b = elim a [ inl e ↦ omega (arith, e, b.0) | inr h ↦ omega (arith, h, b.1) ]

  some_or_fault : (t : Token) (f : TokenFault) → IsTokenAt forms text at (Ok (Some t)) → IsTokenAt forms text at (Err f) → ⊥
  some_or_fault t f a b = elim b.2 [
    | inl none ↦ some_longest forms (drop at text) a.1 a.0 none.0 a.3
    | inr c ↦ (
        let same = one_longest forms (drop at text) a.1 c.1 a.0 c.0 a.3 c.2 in
        let again : meaning (take a.1 (drop at text)) a.0 at ≡ Err f = rw (same.0, same.1) c.3 in
        cc)
  ]

  -- at a byte stands one token, none, or one fault
  pub one_token : (o p : Result (Option Token) TokenFault) → IsTokenAt forms text at o → IsTokenAt forms text at p → o ≡ p
  one_token (Ok None) (Ok None) a b = refl
  one_token (Ok None) (Ok (Some t)) a b = absurd (none_or_some t a b)
  one_token (Ok None) (Err f) a b = absurd (none_or_fault f a b)
  one_token (Ok (Some t)) (Ok None) a b = absurd (none_or_some t b a)
  one_token (Ok (Some t)) (Ok (Some u)) a b =
      let same = one_longest forms (drop at text) a.1 b.1 a.0 b.0 a.3 b.3 in
      let again : meaning (take a.1 (drop at text)) a.0 at ≡ Ok u.kind = rw (same.0, same.1) b.6 in
      let kinds : t.kind ≡ u.kind = cc in
      ap (λ v. Ok (Some v)) (token_is t u kinds (a.4 ∙ sym b.4) (a.5 ∙ ap (λ n. at + n) same.0 ∙ sym b.5))
  one_token (Ok (Some t)) (Err f) a b = absurd (some_or_fault t f a b)
  one_token (Err f) (Ok None) a b = absurd (none_or_fault f b a)
  one_token (Err f) (Ok (Some t)) a b = absurd (some_or_fault t f b a)
  one_token (Err f) (Err g) a b = elim a.2 [
    | inl none ↦ elim b.2 [ inl other ↦ ap Err (none.1 ∙ sym other.1) | inr c ↦ absurd (some_longest forms (drop at text) c.1 c.0 none.0 c.2) ]
    | inr d ↦ elim b.2 [
      | inl other ↦ absurd (some_longest forms (drop at text) d.1 d.0 other.0 d.2)
      | inr c ↦ (
          let same = one_longest forms (drop at text) d.1 c.1 d.0 c.0 d.2 c.2 in
          let again : meaning (take d.1 (drop at text)) d.0 at ≡ Err g = rw (same.0, same.1) c.3 in
          cc)
    ]
  ]

module _ (forms : Forms) (text : List ℕ) where
  -- a blank is no token, no fault and not the end
  blank_or_end : (at : ℕ) → at ≡ length text → 0 < blank_length (drop at text) → ⊥
  blank_or_end at e h = let none : drop at text ≡ [] = drop_all at text (omega (arith, e)) in absurd (omega (arith, h, ap blank_length none))

  abbrev Same : (o p : Result (List Token) TokenFault) → Type 0
  Same o p = o ≡ p

  pub one_cut : (at : ℕ) (o p : Result (List Token) TokenFault) → Cut forms text at o → Cut forms text at p → o ≡ p
  one_cut at o p (at_end e) (at_end f) = refl
  one_cut at o p (at_end e) (over_blank h n c) = absurd (blank_or_end at e h)
  one_cut at o p (at_end e) (past_token t b c) = absurd (none_or_some forms text at t (inl e) b)
  one_cut at o p (at_end e) (fault_later t b c) = absurd (none_or_some forms text at t (inl e) b)
  one_cut at o p (at_end e) (fault_here {f = f} b) = absurd (none_or_fault forms text at f (inl e) b)
  one_cut at o p (over_blank h n c) (at_end e) = absurd (blank_or_end at e h)
  one_cut at o p (over_blank {next = next} h n c) (over_blank h' n' d) = one_cut next o p c (rw (n, ← n') d)
  one_cut at o p (over_blank h n c) (past_token t b d) = absurd (none_or_some forms text at t (inr h) b)
  one_cut at o p (over_blank h n c) (fault_later t b d) = absurd (none_or_some forms text at t (inr h) b)
  one_cut at o p (over_blank h n c) (fault_here {f = f} b) = absurd (none_or_fault forms text at f (inr h) b)
  one_cut at o p (past_token t a c) (at_end e) = absurd (none_or_some forms text at t (inl e) a)
  one_cut at o p (past_token t a c) (over_blank h n d) = absurd (none_or_some forms text at t (inr h) a)
  one_cut at o p (past_token {ts = ts} t a c) (past_token {ts = us} u b d) =
      let same : t ≡ u = let s = one_token forms text at (Ok (Some t)) (Ok (Some u)) a b in cc in
      let rest : Same (Ok ts) (Ok us) = one_cut t.to (Ok ts) (Ok us) c (rw same d) in
      cc
  one_cut at o p (past_token {ts = ts} t a c) (fault_later {f = f} u b d) =
      let same : t ≡ u = let s = one_token forms text at (Ok (Some t)) (Ok (Some u)) a b in cc in
      let rest : Same (Ok ts) (Err f) = one_cut t.to (Ok ts) (Err f) c (rw same d) in
      cc
  one_cut at o p (past_token t a c) (fault_here {f = f} b) = absurd (some_or_fault forms text at t f a b)
  one_cut at o p (fault_later t a c) (at_end e) = absurd (none_or_some forms text at t (inl e) a)
  one_cut at o p (fault_later t a c) (over_blank h n d) = absurd (none_or_some forms text at t (inr h) a)
  one_cut at o p (fault_later {f = f} t a c) (past_token {ts = us} u b d) =
      let same : t ≡ u = let s = one_token forms text at (Ok (Some t)) (Ok (Some u)) a b in cc in
      let rest : Same (Err f) (Ok us) = one_cut t.to (Err f) (Ok us) c (rw same d) in
      cc
  one_cut at o p (fault_later {f = f} t a c) (fault_later {f = g} u b d) =
      let same : t ≡ u = let s = one_token forms text at (Ok (Some t)) (Ok (Some u)) a b in cc in
      one_cut t.to (Err f) (Err g) c (rw same d)
  one_cut at o p (fault_later t a c) (fault_here {f = f} b) = absurd (some_or_fault forms text at t f a b)
  one_cut at o p (fault_here {f = f} a) (at_end e) = absurd (none_or_fault forms text at f (inl e) a)
  one_cut at o p (fault_here {f = f} a) (over_blank h n d) = absurd (none_or_fault forms text at f (inr h) a)
  one_cut at o p (fault_here {f = f} a) (past_token t b d) = absurd (some_or_fault forms text at t f b a)
  one_cut at o p (fault_here {f = f} a) (fault_later t b d) = absurd (some_or_fault forms text at t f b a)
  one_cut at o p (fault_here {f = f} a) (fault_here {f = g} b) = let s = one_token forms text at (Err f) (Err g) a b in cc

pub cut_is_one : (text : List ℕ) (first second : Result (List Token) TokenFault) → Cut sign_forms text 0 first → Cut sign_forms text 0 second → first ≡ second
cut_is_one text first second = one_cut sign_forms text 0 first second
