-- A number is a token before what stops.
use Rattle.std.proofs.Common.{◌≡◌, ◌∙◌, ap, refl, ℕ, ◌+◌, ◌*◌, ◌-◌, ◌/◌, ◌%◌, ◌<◌, ◌≤◌, ◌^◌, true, ◌&&◌, List, [], ◌∷◌, ◌++◌, arith, Ok, nat_lt}
use Rattle.std.specs.Prelude.{pos}
use Rattle.std.specs.Fmt.{decimal}
use Rattle.std.specs.List.{list_all}
use Rattle.std.proofs.lemmas.Bool.Decides.{nat_tests}
use Rattle.std.proofs.lemmas.Fmt.{decimal_by_steps_wide}
use Rattle.formula_core.specs.Names.{is_in_word}
use Rattle.math_tokens.specs.declared.lexemes.Lexeme.TheVariants as lexeme
use Rattle.math_tokens.specs.declared.cutting.TokenKind.TheVariants as kind
use Rattle.math_tokens.specs.Lexemes.{is_digit, is_digits, a_number, value_after, value_of}
use Rattle.math_tokens.specs.Texts.{meaning}
use Rattle.math_grammar.specs.declared.symbols.Symbol.TheVariants as sym
use Rattle.math_grammar.specs.Grammar.{item}
use Rattle.token_text.specs.Spacing.{FitsBefore}
use Rattle.token_text.proofs.Following.{stops, Follows}
use Rattle.token_text.proofs.Tokens.{IsToken, fits, both_true, stopped}
use Rattle.token_text.proofs.Words.{is_lettered, digit_in_word, no_blank_there, none_goes_on, number_is_no_sign}

-- digits of this value
pub record Writes (n : ℕ) (ds : List ℕ) : Type 0 where
  pub digits : is_digits ds ≡ true
  pub value : value_of ds ≡ n

one_digit : (n : ℕ) → n < 10 → is_digit (48 + n) ≡ true
one_digit n h = grind (arith, nat_tests)

value_more : (v : ℕ) (ds : List ℕ) (c : ℕ) → value_after v (ds ++ c ∷ []) ≡ 10 * value_after v ds + (c - 48)
value_more v [] c = refl
value_more v (d ∷ ds) c = value_more (10 * v + (d - 48)) ds c

digits_more : (ds : List ℕ) (c : ℕ) → list_all is_digit ds ≡ true → is_digit c ≡ true → list_all is_digit (ds ++ c ∷ []) ≡ true
digits_more [] c h k = rw k refl
digits_more (d ∷ ds) c h k = let parts : (is_digit d ≡ true) × (list_all is_digit ds ≡ true) = both_true (is_digit d) (list_all is_digit ds) h in (λ i. parts.0 i && digits_more ds c parts.1 k i)

number_more : (ds : List ℕ) (c : ℕ) → is_digits ds ≡ true → is_digit c ≡ true → is_digits (ds ++ c ∷ []) ≡ true
number_more [] c h k = cc
number_more (d ∷ ds) c h k = digits_more (d ∷ ds) c h k

first : (n : ℕ) → n < 10 → Writes n ((48 + n) ∷ [])
first n small = record { digits = rw (one_digit n small) refl; value = omega arith }

next : (n : ℕ) (ds : List ℕ) → 10 ≤ n → Writes (n / 10) ds → Writes n (ds ++ (48 + n % 10) ∷ [])
next n ds big w = record {
  digits = number_more ds (48 + n % 10) w.digits (one_digit (n % 10) (omega arith));
  value = value_more 0 ds (48 + n % 10) ∙ ap (λ m. 10 * m + (48 + n % 10 - 48)) w.value ∙ omega arith;
}

pub decimal_writes : (n : ℕ) → n < 2 ^ 127 → Writes n (decimal n)
decimal_writes n small = decimal_by_steps_wide Writes first next n (omega (arith, small))

number_token : (n : ℕ) (ds : List ℕ) → n < 2 ^ 127 → Writes n ds → IsToken stops (item (sym.Number (pos n)) 0 ds)
number_token n [] small w = let never : is_digits [] ≡ true = w.digits in cc
number_token n (d ∷ ds) small w = record {
  lexeme = lexeme.Number;
  kind = kind.Number (pos n);
  some = omega arith;
  no_blank = λ rest. no_blank_there d (ds ++ rest) in_word;
  spells = a_number (number_is_no_sign d ds digit) w.digits;
  means = means;
  class = refl;
  no_longer = stopped d ds (none_goes_on d ds in_word);
}
  where
    digit : is_digit d ≡ true
    digit = (both_true (is_digit d) (list_all is_digit ds) w.digits).0

    in_word : is_in_word d ≡ true
    in_word = digit_in_word d digit

    below : nat_lt n (2 ^ 127) ≡ true
    below = grind (arith, nat_tests)

    means : (at : ℕ) → meaning (d ∷ ds) lexeme.Number at ≡ Ok (kind.Number (pos n))
    means at = rw (w.value, below) refl

-- a natural number in decimal, before what stops
pub fits-number : (n : ℕ) → n < 2 ^ 127 → (rest : List ℕ) → Follows stops rest → FitsBefore (item (sym.Number (pos n)) 0 (decimal n)) rest
fits-number n small = fits stops (item (sym.Number (pos n)) 0 (decimal n)) (number_token n (decimal n) small (decimal_writes n small))

-- it begins with a digit, and so with a byte of a word
lettered_digits : (ds : List ℕ) → is_digits ds ≡ true → is_lettered ds ≡ true
lettered_digits [] h = cc
lettered_digits (d ∷ ds) h = digit_in_word d (both_true (is_digit d) (list_all is_digit ds) h).0

pub number_lettered : (n : ℕ) → n < 2 ^ 127 → is_lettered (decimal n) ≡ true
number_lettered n small = lettered_digits (decimal n) (decimal_writes n small).digits
