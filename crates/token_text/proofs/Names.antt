-- A name is a token before what stops.
use Rattle.std.proofs.Common.{◌≡◌, ◌∙◌, sym as back, ap, subst, refl, ℕ, ◌-◌, ◌≤◌, Bool, true, false, ◌&&◌, not, List, [], ◌∷◌, ◌++◌, length, take, drop, append_assoc, arith, None, Ok, ◌⊎◌, inl, inr}
use Rattle.std.specs.Prelude.{bytes_eq, if◌then◌else◌, nat_le}
use Rattle.std.specs.List.{list_all}
use Rattle.std.proofs.lemmas.Bool.Decides.{nat_tests}
use Rattle.std.proofs.lemmas.List.{length-append, append-nil, take-append-drop}
use Rattle.std.proofs.lemmas.Slice.Eq.{bytes_eq-Decides}
use Rattle.formula_core.specs.Names.{starts_word, is_in_word, is_reserved, is_identifier, prime, is_name}
use Rattle.math_tokens.specs.declared.lexemes.Lexeme.{Lexeme}
use Rattle.math_tokens.specs.declared.lexemes.Lexeme.TheVariants as lexeme
use Rattle.math_tokens.specs.declared.cutting.TokenKind.TheVariants as kind
use Rattle.math_tokens.specs.Lexemes.{sign_in, is_digit, is_token_word, IsLexeme, a_sign, a_word, a_primed, a_number}
use Rattle.math_tokens.specs.SignForms.{sign_forms}
use Rattle.math_tokens.specs.Texts.{meaning}
use Rattle.math_grammar.specs.declared.symbols.Symbol.TheVariants as sym
use Rattle.math_grammar.specs.Tokens.{or_word}
use Rattle.math_grammar.specs.Grammar.{item}
use Rattle.token_text.specs.Spacing.{FitsBefore}
use Rattle.token_text.proofs.Following.{stops, Follows}
use Rattle.token_text.proofs.Tokens.{IsToken, fits, both_true, holds_inside, before_prime, no_form, stopped}
use Rattle.token_text.proofs.Words.{ends_word, is_lettered, starts_in_word, no_blank_there, none_ends, none_goes_on, name_is_no_sign, name_is_no_word}

-- what an identifier is
pub record IsFreeWord (b : ℕ) (bs : List ℕ) : Type 0 where
  pub starts : starts_word b ≡ true
  pub goes_on : list_all is_in_word bs ≡ true
  pub short : length bs ≤ 63
  pub free : is_reserved (b ∷ bs) ≡ false

three_true : (a b c : Bool) → (a && b && c) ≡ true → (a ≡ true) × (b ≡ true) × (c ≡ true)
three_true true true true h = (refl, refl, refl)
three_true true true false h = cc
three_true true false true h = cc
three_true true false false h = cc
three_true false true true h = cc
three_true false true false h = cc
three_true false false true h = cc
three_true false false false h = cc

not_true : (b : Bool) → not b ≡ true → b ≡ false
not_true true h = cc
not_true false h = refl

few : (n m : ℕ) → nat_le n m ≡ true → n ≤ m
few n m h = grind (arith, nat_tests)

is_few : (n m : ℕ) → n ≤ m → nat_le n m ≡ true
is_few n m h = grind (arith, nat_tests)

free_word : (b : ℕ) (bs : List ℕ) → is_identifier (b ∷ bs) ≡ true → IsFreeWord b bs
free_word b bs h =
    let parts : ((starts_word b && list_all is_in_word bs && nat_le (length bs) 63) ≡ true) × (not (is_reserved (b ∷ bs)) ≡ true) = both_true _ (not (is_reserved (b ∷ bs))) h in
    let three : (starts_word b ≡ true) × (list_all is_in_word bs ≡ true) × (nat_le (length bs) 63 ≡ true) = three_true (starts_word b) (list_all is_in_word bs) (nat_le (length bs) 63) parts.0 in
    record { starts = three.0; goes_on = three.1; short = few (length bs) 63 three.2; free = not_true (is_reserved (b ∷ bs)) parts.1 }

module _ (b : ℕ) (bs : List ℕ) (is : IsFreeWord b bs) where
  in_word : is_in_word b ≡ true
  in_word = starts_in_word b is.starts

  a_word_there : is_token_word (b ∷ bs) ≡ true
  a_word_there = (λ i. is.starts i && is.goes_on i)

  short_word : (at : ℕ) → meaning (b ∷ bs) lexeme.Word at ≡ Ok kind.Word
  short_word at = rw (is_few (length (b ∷ bs)) 64 (omega (arith, is.short))) refl

  word_token : IsToken stops (item sym.Word 0 (b ∷ bs))
  word_token = record {
    lexeme = lexeme.Word;
    kind = kind.Word;
    some = omega arith;
    no_blank = λ rest. no_blank_there b (bs ++ rest) in_word;
    spells = a_word (name_is_no_sign (b ∷ bs) in_word is.free) a_word_there;
    means = short_word;
    class = ap or_word (name_is_no_word (b ∷ bs) is.free);
    no_longer = stopped b bs (none_goes_on b bs in_word);
  }

  abbrev text : List ℕ
  text = (b ∷ bs) ++ prime ∷ []

  -- what stands behind the prime
  behind : (c : ℕ) (more : List ℕ) → text ++ c ∷ more ≡ (b ∷ bs) ++ prime ∷ c ∷ more
  behind c more = append_assoc (b ∷ bs) (prime ∷ []) (c ∷ more)

  no_longer : (c : ℕ) (more : List ℕ) (other : Lexeme) → IsLexeme sign_forms ((b ∷ bs) ++ prime ∷ c ∷ more) other → ⊥
  no_longer c more other (a_sign e) = let n : sign_in sign_forms ((b ∷ bs) ++ prime ∷ c ∷ more) ≡ None = no_form sign_forms (b ∷ bs) ends_word (none_ends b bs in_word) prime (c ∷ more) refl in cc
  no_longer c more other (a_word n w) =
      let never : is_in_word prime ≡ true = holds_inside is_in_word bs prime (c ∷ more) (both_true (starts_word b) (list_all is_in_word (bs ++ prime ∷ c ∷ more)) w).1 in cc
  no_longer c more other (a_primed w n is_w e) = primed w is_w e
    where
      primed : (w : List ℕ) → is_token_word w ≡ true → (b ∷ bs) ++ prime ∷ c ∷ more ≡ w ++ 39 ∷ [] → ⊥
      primed [] is_w e = cc
      primed (d ∷ ds) is_w e =
          let tail : bs ++ prime ∷ c ∷ more ≡ ds ++ 39 ∷ [] = cc in
          go (before_prime is_in_word bs ds prime (c ∷ more) (both_true (starts_word d) (list_all is_in_word ds) is_w).1 tail)
        where
          go : (is_in_word prime ≡ true) ⊎ ((prime ≡ 39) × (c ∷ more ≡ [])) → ⊥
          go (inl word) = cc
          go (inr both) = let never : c ∷ more ≡ [] = both.1 in cc
  no_longer c more other (a_number n d) =
      let never : is_digit prime ≡ true = holds_inside is_digit bs prime (c ∷ more) (both_true (is_digit b) (list_all is_digit (bs ++ prime ∷ c ∷ more)) d).1 in cc

  short_primed : (at : ℕ) → meaning text lexeme.Primed at ≡ Ok kind.Primed
  short_primed at = rw (is_few (length text) 65 (omega (arith, is.short, length-append (b ∷ bs) (prime ∷ [])))) refl

  primed_token : IsToken stops (item sym.Word 0 text)
  primed_token = record {
    lexeme = lexeme.Primed;
    kind = kind.Primed;
    some = omega (arith, length-append (b ∷ bs) (prime ∷ []));
    no_blank = λ rest. no_blank_there b ((bs ++ prime ∷ []) ++ rest) in_word;
    spells = a_primed (b ∷ bs) (no_form sign_forms (b ∷ bs) ends_word (none_ends b bs in_word) prime [] refl) a_word_there refl;
    means = short_primed;
    class = refl;
    no_longer = λ c more h other is_lexeme. no_longer c more other (subst (λ t. IsLexeme sign_forms t other) (behind c more) is_lexeme);
  }

-- a name with its prime, or without one
identifier_token : (w : List ℕ) → is_identifier w ≡ true → IsToken stops (item sym.Word 0 w)
identifier_token [] h = cc
identifier_token (b ∷ bs) h = word_token b bs (free_word b bs h)

with_prime : (w : List ℕ) → is_identifier w ≡ true → IsToken stops (item sym.Word 0 (w ++ prime ∷ []))
with_prime [] h = cc
with_prime (b ∷ bs) h = primed_token b bs (free_word b bs h)

name_token : (n : List ℕ) → is_name n ≡ true → IsToken stops (item sym.Word 0 n)
name_token n h = go (bytes_eq (drop (length n - 1) n) (prime ∷ [])) refl h
  where
    go : (t : Bool) → bytes_eq (drop (length n - 1) n) (prime ∷ []) ≡ t → is_identifier (if bytes_eq (drop (length n - 1) n) (prime ∷ []) then take (length n - 1) n else n) ≡ true
        → IsToken stops (item sym.Word 0 n)
    go true e v =
        let w : List ℕ = take (length n - 1) n in
        let last : drop (length n - 1) n ≡ prime ∷ [] = (bytes_eq-Decides (drop (length n - 1) n) (prime ∷ [])).0 e in
        let whole : w ++ prime ∷ [] ≡ n = ap (λ t. w ++ t) (back last) ∙ take-append-drop (length n - 1) n in
        let own : is_identifier w ≡ true = (λ i. is_identifier (if back e i then w else n)) ∙ v in
        subst (λ t. IsToken stops (item sym.Word 0 t)) whole (with_prime w own)
    go false e v = identifier_token n ((λ i. is_identifier (if back e i then take (length n - 1) n else n)) ∙ v)

pub fits-name : (n : List ℕ) → is_name n ≡ true → (rest : List ℕ) → Follows stops rest → FitsBefore (item sym.Word 0 n) rest
fits-name n h = fits stops (item sym.Word 0 n) (name_token n h)

-- a name begins with a byte of a word
lettered_identifier : (w rest : List ℕ) → is_identifier w ≡ true → is_lettered (w ++ rest) ≡ true
lettered_identifier [] rest h = cc
lettered_identifier (b ∷ bs) rest h = starts_in_word b (free_word b bs h).starts

pub name_lettered : (n : List ℕ) → is_name n ≡ true → is_lettered n ≡ true
name_lettered n h = go (bytes_eq (drop (length n - 1) n) (prime ∷ [])) refl h
  where
    go : (t : Bool) → bytes_eq (drop (length n - 1) n) (prime ∷ []) ≡ t → is_identifier (if bytes_eq (drop (length n - 1) n) (prime ∷ []) then take (length n - 1) n else n) ≡ true → is_lettered n ≡ true
    go true e v =
        let w : List ℕ = take (length n - 1) n in
        let own : is_identifier w ≡ true = (λ i. is_identifier (if back e i then w else n)) ∙ v in
        ap is_lettered (back (take-append-drop (length n - 1) n)) ∙ lettered_identifier w (drop (length n - 1) n) own
    go false e v = ap is_lettered (back (append-nil n)) ∙ lettered_identifier n [] ((λ i. is_identifier (if back e i then take (length n - 1) n else n)) ∙ v)
