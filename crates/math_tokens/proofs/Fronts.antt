-- Words and numbers at the front of a text.
use Rattle.std.proofs.Common.{◌≡◌, ℕ, zero, suc, ◌+◌, ◌<◌, ◌≤◌, List, [], ◌∷◌, ◌++◌, ◌==◌, length, take, get_or, Bool, true, false, ◌&&◌, cond, Option, Some, None, ◌⊎◌, inl, inr, refl, ap, ◌∙◌, arith, nat_lt, nat_le}
use Rattle.std.specs.List.{list_all, prefix_len}
use Rattle.std.proofs.lemmas.Bool.Decides.{nat_tests}
use Rattle.std.proofs.lemmas.List.{length-take-le, length-append}
use Rattle.std.proofs.lemmas.List.Sums.{prefix_len-le-length}
use Rattle.std.proofs.lemmas.Bool.{leb-true, lt-ltb, eq-eqb, eqb-true}
use borrow.Author.Tests.{ltb-true}
use Rattle.std.proofs.lemmas.List.{take_more}
use Rattle.math_tokens.proofs.Longest.{none_beyond}
use Rattle.math_tokens.specs.declared.lexemes.Lexeme.{Lexeme}
use Rattle.math_tokens.specs.declared.lexemes.Lexeme.TheVariants.{Sign, Word, Primed, Number}
use Rattle.formula_core.specs.Names.{starts_word, is_in_word}
use Rattle.math_tokens.specs.Lexemes.{Forms, sign_in, is_digit, is_token_word, is_digits, IsLexeme, a_sign, a_word, a_primed, a_number}
use Rattle.math_tokens.specs.Private.{word_length, HasLexeme, Best, length_of, name_length, other_choice, choice}

module _ (p : ℕ → Bool) where
  -- a front that passes is no longer than the longest that does
  front_passes : (m : ℕ) (xs : List ℕ) → m ≤ length xs → list_all p (take m xs) ≡ true → m ≤ prefix_len p xs
  front_passes zero xs short h = omega arith
  front_passes (suc m) [] short h = absurd (omega arith)
  front_passes (suc m) (x ∷ xs) short h = grind (arith, front_passes m xs (omega arith))

  longest_passes : (xs : List ℕ) → list_all p (take (prefix_len p xs) xs) ≡ true
  longest_passes [] = refl
  longest_passes (x ∷ xs) = go (p x) refl (longest_passes xs)
    where
      go : (b : Bool) → p x ≡ b → list_all p (take (prefix_len p xs) xs) ≡ true → list_all p (take (cond b (1 + prefix_len p xs) 0) (x ∷ xs)) ≡ true
      go true e ih = let one : 1 + prefix_len p xs ≡ suc (prefix_len p xs) = omega arith in rw (one, e) ih
      go false e ih = refl

-- what both parts of a test say
pub both : (a b : Bool) → (a && b) ≡ true → (a ≡ true) × (b ≡ true)
both true b h = (refl, h)
both false b h = cc

word_front : (m : ℕ) (xs : List ℕ) → m ≤ length xs → is_token_word (take m xs) ≡ true → (0 < m) × (m ≤ word_length xs)
word_front zero xs short h = cc
word_front (suc m) [] short h = absurd (omega arith)
word_front (suc m) (c ∷ cs) short h =
    let t : (starts_word c ≡ true) × (list_all is_in_word (take m cs) ≡ true) = both (starts_word c) (list_all is_in_word (take m cs)) h in
    (omega arith, rw t.0 (omega (arith, front_passes is_in_word m cs (omega arith) t.1)))

word_longest : (xs : List ℕ) → 0 < word_length xs → is_token_word (take (word_length xs) xs) ≡ true
word_longest [] h = absurd (omega arith)
word_longest (c ∷ cs) h = go (starts_word c) refl h
  where
    go : (b : Bool) → starts_word c ≡ b → 0 < cond b (1 + prefix_len is_in_word cs) 0 → is_token_word (take (cond b (1 + prefix_len is_in_word cs) 0) (c ∷ cs)) ≡ true
    go true e h = let one : 1 + prefix_len is_in_word cs ≡ suc (prefix_len is_in_word cs) = omega arith in rw (one, e) (longest_passes is_in_word cs)
    go false e h = absurd (omega arith)

word_length-le : (xs : List ℕ) → word_length xs ≤ length xs
word_length-le [] = omega arith
word_length-le (c ∷ cs) = go (starts_word c)
  where
    go : (b : Bool) → cond b (1 + prefix_len is_in_word cs) 0 ≤ length (c ∷ cs)
    go true = omega (arith, prefix_len-le-length is_in_word cs)
    go false = omega arith

digits_front : (m : ℕ) (xs : List ℕ) → m ≤ length xs → is_digits (take m xs) ≡ true → (0 < m) × (m ≤ prefix_len is_digit xs)
digits_front zero xs short h = cc
digits_front (suc m) [] short h = absurd (omega arith)
digits_front (suc m) (c ∷ cs) short h = (omega arith, front_passes is_digit (suc m) (c ∷ cs) short h)

digits_longest : (xs : List ℕ) → 0 < prefix_len is_digit xs → is_digits (take (prefix_len is_digit xs) xs) ≡ true
digits_longest [] h = absurd (omega arith)
digits_longest (c ∷ cs) h = go (is_digit c) refl h
  where
    go : (b : Bool) → is_digit c ≡ b → 0 < cond b (1 + prefix_len is_digit cs) 0 → is_digits (take (cond b (1 + prefix_len is_digit cs) 0) (c ∷ cs)) ≡ true
    go true e h = let one : 1 + prefix_len is_digit cs ≡ suc (prefix_len is_digit cs) = omega arith in rw (one, e) (longest_passes is_digit cs)
    go false e h = absurd (omega arith)

-- a prime ends the word before it
prime_ends : (w cs : List ℕ) (m : ℕ) → m ≤ length cs → list_all is_in_word w ≡ true → take m cs ≡ w ++ 39 ∷ [] →
    (m ≡ prefix_len is_in_word cs + 1) × (get_or cs (prefix_len is_in_word cs) 0 ≡ 39)
prime_ends w [] zero short h e = absurd (omega (arith, ap length e, length-append w (39 ∷ [])))
prime_ends w [] (suc m) short h e = absurd (omega arith)
prime_ends w (c ∷ cs) zero short h e = absurd (omega (arith, ap length e, length-append w (39 ∷ [])))
prime_ends [] (c ∷ cs) (suc m) short h e =
    let at : c ≡ 39 = cc in
    let len : length (take m cs) ≡ 0 = let t : take m cs ≡ [] = cc in ap length t in
    let none : m ≡ 0 = omega (arith, length-take-le m cs (omega arith), len) in
    (rw (at, none) refl, rw at refl)
prime_ends (d ∷ w) (c ∷ cs) (suc m) short h e =
    let same : d ≡ c = cc in
    let rest : take m cs ≡ w ++ 39 ∷ [] = cc in
    let t : (is_in_word d ≡ true) × (list_all is_in_word w ≡ true) = both (is_in_word d) (list_all is_in_word w) h in
    let passes : is_in_word c ≡ true = rw (← same) t.0 in
    let ih : (m ≡ prefix_len is_in_word cs + 1) × (get_or cs (prefix_len is_in_word cs) 0 ≡ 39) = prime_ends w cs m (omega arith) t.1 rest in
    let one : 1 + prefix_len is_in_word cs ≡ suc (prefix_len is_in_word cs) = omega arith in
    (rw passes (omega (arith, ih.0)), rw (passes, one) ih.1)

primed_front : (w xs : List ℕ) (m : ℕ) → m ≤ length xs → is_token_word w ≡ true → take m xs ≡ w ++ 39 ∷ [] →
    (m ≡ word_length xs + 1) × (0 < word_length xs) × (get_or xs (word_length xs) 0 ≡ 39)
primed_front [] xs m short h e = cc
primed_front (d ∷ w) [] zero short h e = cc
primed_front (d ∷ w) [] (suc m) short h e = absurd (omega arith)
primed_front (d ∷ w) (c ∷ cs) zero short h e = cc
primed_front (d ∷ w) (c ∷ cs) (suc m) short h e =
    let same : d ≡ c = cc in
    let rest : take m cs ≡ w ++ 39 ∷ [] = cc in
    let t : (starts_word d ≡ true) × (list_all is_in_word w ≡ true) = both (starts_word d) (list_all is_in_word w) h in
    let starts : starts_word c ≡ true = rw (← same) t.0 in
    let ih : (m ≡ prefix_len is_in_word cs + 1) × (get_or cs (prefix_len is_in_word cs) 0 ≡ 39) = prime_ends w cs m (omega arith) t.1 rest in
    let one : 1 + prefix_len is_in_word cs ≡ suc (prefix_len is_in_word cs) = omega arith in
    (rw starts (omega (arith, ih.0)), rw starts (omega arith), rw (starts, one) ih.1)

-- a name is a word, or a word and the prime after it
name_ways : (text : List ℕ) → (name_length text ≡ word_length text) ⊎ ((name_length text ≡ word_length text + 1) × (0 < word_length text) × (word_length text < length text) × (get_or text (word_length text) 0 ≡ 39))
name_ways text = go (nat_lt 0 (word_length text)) refl (nat_lt (word_length text) (length text)) refl (get_or text (word_length text) 0 == 39) refl
  where
    go : (a : Bool) → nat_lt 0 (word_length text) ≡ a → (b : Bool) → nat_lt (word_length text) (length text) ≡ b → (d : Bool) → (get_or text (word_length text) 0 == 39) ≡ d →
        (cond (a && (b && d)) (word_length text + 1) (word_length text) ≡ word_length text)
        ⊎ ((cond (a && (b && d)) (word_length text + 1) (word_length text) ≡ word_length text + 1) × (0 < word_length text) × (word_length text < length text) × (get_or text (word_length text) 0 ≡ 39))
    go true e true f true g = inr (refl, ltb-true 0 (word_length text) e, ltb-true (word_length text) (length text) f, eqb-true (get_or text (word_length text) 0) 39 g)
    go true e true f false g = inl refl
    go true e false f d g = inl refl
    go false e b f d g = inl refl

take_next : (text : List ℕ) (n : ℕ) → n < length text → get_or text n 0 ≡ 39 → take (n + 1) text ≡ take n text ++ 39 ∷ []
take_next text n short at = take_more text n 0 short ∙ ap (λ c. take n text ++ c ∷ []) at

module _ (forms : Forms) (text : List ℕ) (sign : Option (ℕ × ℕ)) (best : Best forms text sign) where
  -- no token is longer than what was found
  bounded : (m : ℕ) → m ≤ length text → (l : Lexeme) → IsLexeme forms (take m text) l → 0 < m → (m ≤ length_of sign) ⊎ (m ≤ name_length text) ⊎ (m ≤ prefix_len is_digit text)
  bounded m short l (a_sign {k = k} s) some = go (nat_le m (length_of sign)) refl
    where
      go : (b : Bool) → nat_le m (length_of sign) ≡ b → (m ≤ length_of sign) ⊎ (m ≤ name_length text) ⊎ (m ≤ prefix_len is_digit text)
      go true e = inl (leb-true m (length_of sign) e)
      go false e = let n : sign_in forms (take m text) ≡ None = none_beyond forms [] text 0 sign best m (grind (arith, nat_tests)) short in cc
  bounded m short l (a_word n w) some =
      let f : (0 < m) × (m ≤ word_length text) = word_front m text short w in
      elim (name_ways text) [ inl same ↦ inr (inl (omega (arith, same, f.1))) | inr more ↦ inr (inl (omega (arith, more.0, f.1))) ]
  bounded m short l (a_primed w n is e) some =
      let f : (m ≡ word_length text + 1) × (0 < word_length text) × (get_or text (word_length text) 0 ≡ 39) = primed_front w text m short is e in
      inr (inl (rw (lt-ltb 0 (word_length text) f.1, lt-ltb (word_length text) (length text) (omega (arith, f.0)), eq-eqb (get_or text (word_length text) 0) 39 f.2) (omega (arith, f.0))))
  bounded m short l (a_number n d) some = let f : (0 < m) × (m ≤ prefix_len is_digit text) = digits_front m text short d in inr (inr f.1)

  no_sign : (m : ℕ) → length_of sign < m → m ≤ length text → sign_in forms (take m text) ≡ None
  no_sign m more short = none_beyond forms [] text 0 sign best m more short

  -- the longest of them, where no sign is as long
  others : (length_of sign < name_length text) ⊎ (length_of sign < prefix_len is_digit text) ⊎ (length_of sign ≡ 0) →
      HasLexeme forms text (other_choice (word_length text) (name_length text) (prefix_len is_digit text))
  others low = go (nat_lt (name_length text) (prefix_len is_digit text)) refl (nat_lt (word_length text) (name_length text)) refl (nat_lt 0 (word_length text)) refl
    where
      go : (a : Bool) → nat_lt (name_length text) (prefix_len is_digit text) ≡ a → (b : Bool) → nat_lt (word_length text) (name_length text) ≡ b → (d : Bool) → nat_lt 0 (word_length text) ≡ d →
          HasLexeme forms text (cond a (Some (prefix_len is_digit text, Number)) (cond b (Some (name_length text, Primed)) (cond d (Some (word_length text, Word)) None)))
      go true e b f d g =
          let wins : name_length text < prefix_len is_digit text = ltb-true (name_length text) (prefix_len is_digit text) e in
          let high : length_of sign < prefix_len is_digit text = elim low [ inl x ↦ omega arith | inr y ↦ elim y [ inl x ↦ x | inr z ↦ omega arith ] ] in
          record {
            some = omega arith;
            within = prefix_len-le-length is_digit text;
            spells = a_number (no_sign (prefix_len is_digit text) high (prefix_len-le-length is_digit text)) (digits_longest text (omega arith));
            longest = λ m more short l is. elim (bounded m short l is (omega arith)) [ inl x ↦ omega arith | inr y ↦ elim y [ inl x ↦ omega arith | inr x ↦ omega arith ] ];
          }
      go false e true f d g =
          let wins : word_length text < name_length text = ltb-true (word_length text) (name_length text) f in
          let most : prefix_len is_digit text ≤ name_length text = grind (arith, nat_tests) in
          let high : length_of sign < name_length text = elim low [ inl x ↦ x | inr y ↦ elim y [ inl x ↦ omega arith | inr z ↦ omega arith ] ] in
          elim (name_ways text) [
            | inl same ↦ absurd (omega (arith, same, wins))
            | inr way ↦ (
                let fits_in : name_length text ≤ length text = omega (arith, way.0, way.2) in
                let is : take (name_length text) text ≡ take (word_length text) text ++ 39 ∷ [] = ap (λ n. take n text) way.0 ∙ take_next text (word_length text) way.2 way.3 in
                record {
                  some = omega arith;
                  within = fits_in;
                  spells = a_primed (take (word_length text) text) (no_sign (name_length text) high fits_in) (word_longest text way.1) is;
                  longest = λ m more short l k. elim (bounded m short l k (omega arith)) [ inl x ↦ omega arith | inr y ↦ elim y [ inl x ↦ omega arith | inr x ↦ omega arith ] ];
                })
          ]
      go false e false f true g =
          let some_word : 0 < word_length text = ltb-true 0 (word_length text) g in
          let most : prefix_len is_digit text ≤ name_length text = grind (arith, nat_tests) in
          let no_prime : name_length text ≤ word_length text = grind (arith, nat_tests) in
          let high : length_of sign < word_length text = elim low [ inl x ↦ omega arith | inr y ↦ elim y [ inl x ↦ omega arith | inr z ↦ omega arith ] ] in
          record {
            some = some_word;
            within = word_length-le text;
            spells = a_word (no_sign (word_length text) high (word_length-le text)) (word_longest text some_word);
            longest = λ m more short l is. elim (bounded m short l is (omega arith)) [ inl x ↦ omega arith | inr y ↦ elim y [ inl x ↦ omega arith | inr x ↦ omega arith ] ];
          }
      go false e false f false g =
          let no_word : word_length text ≤ 0 = grind (arith, nat_tests) in
          let most : prefix_len is_digit text ≤ name_length text = grind (arith, nat_tests) in
          let no_prime : name_length text ≤ word_length text = grind (arith, nat_tests) in
          let none : length_of sign ≤ 0 = elim low [ inl x ↦ omega arith | inr y ↦ elim y [ inl x ↦ omega arith | inr z ↦ omega arith ] ] in
          λ m some short l is. elim (bounded m short l is some) [ inl x ↦ omega arith | inr y ↦ elim y [ inl x ↦ omega arith | inr x ↦ omega arith ] ]

-- the choice is the longest token
pub begins : (forms : Forms) (text : List ℕ) (sign : Option (ℕ × ℕ)) → Best forms text sign → HasLexeme forms text (choice sign (word_length text) (name_length text) (prefix_len is_digit text))
begins forms text None best = others forms text None best (inr (inr refl))
begins forms text (Some found) best = go (nat_le (name_length text) found.0) refl (nat_le (prefix_len is_digit text) found.0) refl
  where
    go : (a : Bool) → nat_le (name_length text) found.0 ≡ a → (b : Bool) → nat_le (prefix_len is_digit text) found.0 ≡ b →
        HasLexeme forms text (cond (a && b) (Some (found.0, Sign found.1)) (other_choice (word_length text) (name_length text) (prefix_len is_digit text)))
    go true e true f =
        let low : name_length text ≤ found.0 = leb-true (name_length text) found.0 e in
        let low' : prefix_len is_digit text ≤ found.0 = leb-true (prefix_len is_digit text) found.0 f in
        record {
          some = best.some;
          within = best.within;
          spells = a_sign best.is;
          longest = λ m more short l is. elim (bounded forms text (Some found) best m short l is (omega arith)) [ inl x ↦ omega arith | inr y ↦ elim y [ inl x ↦ omega arith | inr x ↦ omega arith ] ];
        }
    go true e false f = others forms text (Some found) best (inr (inl (grind (arith, nat_tests))))
    go false e b f = others forms text (Some found) best (inl (grind (arith, nat_tests)))
