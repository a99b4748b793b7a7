-- A sign or a word with a meaning of its own is a token of its class: premises that hold by `refl` for each of them.
use Rattle.std.proofs.Common.{◌≡◌, ◌∙◌, sym as back, ap, refl, ℕ, ◌<◌, true, false, cond, ◌&&◌, ◌||◌, List, [], ◌∷◌, ◌++◌, length, nat_eq, nat_le, not, Bool, arith, Option, Some, None, Ok, Err}
use Rattle.std.specs.Prelude.{◌==◌, is_some}
use Rattle.std.specs.List.{list_all}
use Rattle.std.specs.Option.{option_map_or}
use Rattle.std.proofs.lemmas.Bool.{eqb-true}
use Rattle.formula_core.specs.Names.{starts_word}
use Rattle.math_tokens.specs.declared.lexemes.Lexeme.{Lexeme}
use Rattle.math_tokens.specs.declared.lexemes.Lexeme.TheVariants as lexeme
use Rattle.math_tokens.specs.declared.cutting.TokenKind.{TokenKind}
use Rattle.math_tokens.specs.declared.cutting.TokenKind.TheVariants as kind
use Rattle.math_tokens.specs.declared.cutting.TokenFault.TheVariants as fault
use Rattle.math_tokens.specs.Lexemes.{sign_in, is_digit, is_token_word, IsLexeme, a_sign, a_word}
use Rattle.math_tokens.specs.SignForms.{sign_forms}
use Rattle.math_tokens.specs.Texts.{second_length, blank_length, meaning}
use Rattle.math_grammar.specs.declared.symbols.Symbol.{Symbol}
use Rattle.math_grammar.specs.Tokens.{symbol_of}
use Rattle.math_grammar.specs.Grammar.{item}
use Rattle.token_text.specs.Spacing.{is_space, FitsBefore}
use Rattle.token_text.proofs.Following.{stops, Follows}
use Rattle.token_text.proofs.Tokens.{goes_further, NoneGoesOn, IsToken, both_true, fits, stopped, free_sign}

-- no closing brace: with one, { is a sign of its own
abbrev pub opens_set : ℕ → Bool
opens_set c = not (nat_eq c 125)

pub anything : (rest : List ℕ) → Follows (λ c. true) rest
anything [] = tt
anything (c ∷ rest) = refl

-- a sign before anything ..
pub free_fits : (k : ℕ) (x : Symbol) (b : ℕ) (bs : List ℕ) → starts_word b ≡ false → is_digit b ≡ false → sign_in sign_forms (b ∷ bs) ≡ Some k → ((rest : List ℕ) → blank_length ((b ∷ bs) ++ rest) ≡ 0)
    → NoneGoesOn sign_forms (b ∷ bs) (λ c. true) → symbol_of (kind.Sign k) (b ∷ bs) ≡ x → (rest : List ℕ) → FitsBefore (item x 0 (b ∷ bs)) rest
free_fits k x b bs word digit is no_blank none class rest = fits (λ c. true) (item x 0 (b ∷ bs))
    (record { lexeme = lexeme.Sign k; kind = kind.Sign k; some = omega arith; no_blank = no_blank; spells = a_sign is; means = λ at. refl; class = class; no_longer = free_sign (λ c. true) b bs word digit none }) rest (anything rest)

-- .. one before what passes
pub passing_sign : (p : ℕ → Bool) (k : ℕ) (x : Symbol) (b : ℕ) (bs : List ℕ) → starts_word b ≡ false → is_digit b ≡ false → sign_in sign_forms (b ∷ bs) ≡ Some k → ((rest : List ℕ) → blank_length ((b ∷ bs) ++ rest) ≡ 0)
    → NoneGoesOn sign_forms (b ∷ bs) p → symbol_of (kind.Sign k) (b ∷ bs) ≡ x → (rest : List ℕ) → Follows p rest → FitsBefore (item x 0 (b ∷ bs)) rest
passing_sign p k x b bs word digit is no_blank none class rest = fits p (item x 0 (b ∷ bs))
    (record { lexeme = lexeme.Sign k; kind = kind.Sign k; some = omega arith; no_blank = no_blank; spells = a_sign is; means = λ at. refl; class = class; no_longer = free_sign p b bs word digit none }) rest

-- a word with a meaning of its own, before what stops
pub stop_word : (x : Symbol) (b : ℕ) (bs : List ℕ) → sign_in sign_forms (b ∷ bs) ≡ None → is_token_word (b ∷ bs) ≡ true → ((rest : List ℕ) → blank_length ((b ∷ bs) ++ rest) ≡ 0)
    → NoneGoesOn sign_forms (b ∷ bs) stops → symbol_of kind.Word (b ∷ bs) ≡ x → ((at : ℕ) → meaning (b ∷ bs) lexeme.Word at ≡ Ok kind.Word) → (rest : List ℕ) → Follows stops rest → FitsBefore (item x 0 (b ∷ bs)) rest
stop_word x b bs none_is word no_blank none class means rest = fits stops (item x 0 (b ∷ bs))
    (record { lexeme = lexeme.Word; kind = kind.Word; some = omega arith; no_blank = no_blank; spells = a_word none_is word; means = means; class = class; no_longer = stopped b bs none }) rest

-- The same by tests of the bytes alone, which a table of signs passes as a whole.
abbrev second_is_plain : List ℕ → Bool
second_is_plain [] = false
second_is_plain (c ∷ cs) = not (c == 160)

-- no blank begins there, whatever follows
abbrev pub begins_no_blank : List ℕ → Bool
begins_no_blank [] = false
begins_no_blank (c ∷ cs) = not (c == 32 || (c == 9 || (c == 13 || c == 10))) && (not (c == 194) || second_is_plain cs)

abbrev pub begins_no_word : List ℕ → Bool
begins_no_word [] = false
begins_no_word (c ∷ cs) = not (starts_word c) && not (is_digit c)

-- a sign, or a word that isn't too long
abbrev pub is_spelled : List ℕ → Bool
is_spelled w = is_some (sign_in sign_forms w) || (is_token_word w && nat_le (length w) 64)

-- its kind
abbrev pub kind_of : List ℕ → TokenKind
kind_of w = option_map_or (λ k. kind.Sign k) (sign_in sign_forms w) kind.Word

-- no form goes on with it before what passes
abbrev pub none_passes : (ℕ → Bool) → List ℕ → Bool
none_passes p w = list_all (λ e. not (goes_further w p e.0)) sign_forms

-- a token before what stops, and a sign before a blank
abbrev pub is_stopped : List ℕ → Bool
is_stopped w = begins_no_blank w && (is_spelled w && none_passes stops w)

abbrev pub is_spaced : List ℕ → Bool
is_spaced w = begins_no_blank w && (is_spelled w && (begins_no_word w && none_passes is_space w))

stays_no_blank : (w rest : List ℕ) → begins_no_blank w ≡ true → blank_length (w ++ rest) ≡ 0
stays_no_blank [] rest h = cc
stays_no_blank (c ∷ cs) rest h = go (c == 32 || (c == 9 || (c == 13 || c == 10))) (c == 194) cs h
  where
    second : (s : Bool) → not s ≡ true → ◌≡◌ {A = ℕ} (cond s 2 0) 0
    second true h = cc
    second false h = refl

    go : (blank two : Bool) (cs : List ℕ) → (not blank && (not two || second_is_plain cs)) ≡ true → ◌≡◌ {A = ℕ} (cond blank 1 (cond two (second_length (cs ++ rest)) 0)) 0
    go true two cs h = cc
    go false false cs h = refl
    go false true [] h = cc
    go false true (d ∷ ds) h = second (d == 160) h

token_of : (p : ℕ → Bool) (x : Symbol) (w : List ℕ) → 0 < length w → begins_no_blank w ≡ true → is_spelled w ≡ true → symbol_of (kind_of w) w ≡ x
    → ((c : ℕ) (more : List ℕ) → p c ≡ true → (other : Lexeme) → IsLexeme sign_forms (w ++ c ∷ more) other → ⊥) → IsToken p (item x 0 w)
token_of p x w some begins spelled class no_longer = go (sign_in sign_forms w) refl spelled
  where
    go : (found : Option ℕ) → sign_in sign_forms w ≡ found → (is_some found || (is_token_word w && nat_le (length w) 64)) ≡ true → IsToken p (item x 0 w)
    go (Some k) e h = record {
      lexeme = lexeme.Sign k;
      kind = kind.Sign k;
      some = some;
      no_blank = λ rest. stays_no_blank w rest begins;
      spells = a_sign e;
      means = λ at. refl;
      class = ap (λ found. symbol_of (option_map_or (λ k. kind.Sign k) found kind.Word) w) (back e) ∙ class;
      no_longer = no_longer;
    }
    go None e h = record {
      lexeme = lexeme.Word;
      kind = kind.Word;
      some = some;
      no_blank = λ rest. stays_no_blank w rest begins;
      spells = a_word e (both_true (is_token_word w) (nat_le (length w) 64) h).0;
      means = λ at. ap (λ b. cond b (Ok kind.Word) (Err (fault.BadSign at))) (both_true (is_token_word w) (nat_le (length w) 64) h).1;
      class = ap (λ found. symbol_of (option_map_or (λ k. kind.Sign k) found kind.Word) w) (back e) ∙ class;
      no_longer = no_longer;
    }

false_of : (b : Bool) → not b ≡ true → b ≡ false
false_of true h = cc
false_of false h = refl

pub stopped_fits : (x : Symbol) (w : List ℕ) → symbol_of (kind_of w) w ≡ x → is_stopped w ≡ true → (rest : List ℕ) → Follows stops rest → FitsBefore (item x 0 w) rest
stopped_fits x [] class h rest f = cc
stopped_fits x (b ∷ bs) class h rest f =
    let begins : (begins_no_blank (b ∷ bs) ≡ true) × ((is_spelled (b ∷ bs) && none_passes stops (b ∷ bs)) ≡ true) = both_true (begins_no_blank (b ∷ bs)) _ h in
    let spelled : (is_spelled (b ∷ bs) ≡ true) × (none_passes stops (b ∷ bs) ≡ true) = both_true (is_spelled (b ∷ bs)) _ begins.1 in
    fits stops (item x 0 (b ∷ bs)) (token_of stops x (b ∷ bs) (omega arith) begins.0 spelled.0 class (stopped b bs spelled.1)) rest f

spaced_fits : (x : Symbol) (w : List ℕ) → symbol_of (kind_of w) w ≡ x → is_spaced w ≡ true → (rest : List ℕ) → Follows is_space rest → FitsBefore (item x 0 w) rest
spaced_fits x [] class h rest f = cc
spaced_fits x (b ∷ bs) class h rest f =
    let begins : (begins_no_blank (b ∷ bs) ≡ true) × ((is_spelled (b ∷ bs) && (begins_no_word (b ∷ bs) && none_passes is_space (b ∷ bs))) ≡ true) = both_true (begins_no_blank (b ∷ bs)) _ h in
    let spelled : (is_spelled (b ∷ bs) ≡ true) × ((begins_no_word (b ∷ bs) && none_passes is_space (b ∷ bs)) ≡ true) = both_true (is_spelled (b ∷ bs)) _ begins.1 in
    let free : (begins_no_word (b ∷ bs) ≡ true) × (none_passes is_space (b ∷ bs) ≡ true) = both_true (begins_no_word (b ∷ bs)) _ spelled.1 in
    let first : (not (starts_word b) ≡ true) × (not (is_digit b) ≡ true) = both_true (not (starts_word b)) _ free.0 in
    fits is_space (item x 0 (b ∷ bs))
    (token_of is_space x (b ∷ bs) (omega arith) begins.0 spelled.0 class (free_sign is_space b bs (false_of (starts_word b) first.0) (false_of (is_digit b) first.1) free.1)) rest f

-- a blank stops
pub space_stops : (t : List ℕ) → Follows is_space t → Follows stops t
space_stops [] f = tt
space_stops (c ∷ t) f = go (c == 32) refl (c == 9) refl (c == 13) refl (c == 10) refl
  where
    go : (a : Bool) → (c == 32) ≡ a → (d : Bool) → (c == 9) ≡ d → (e : Bool) → (c == 13) ≡ e → (g : Bool) → (c == 10) ≡ g → stops c ≡ true
    go true i d j e k g l = rw (eqb-true c 32 i) refl
    go false i true j e k g l = rw (eqb-true c 9 j) refl
    go false i false j true k g l = rw (eqb-true c 13 k) refl
    go false i false j false k true l = rw (eqb-true c 10 l) refl
    go false i false j false k false l = let contra : false ≡ true = back (λ n. (i n || (j n || (k n || l n)))) ∙ f in cc

-- before a blank, one of both will do
pub before_blank : (x : Symbol) (w : List ℕ) → symbol_of (kind_of w) w ≡ x → (is_spaced w || is_stopped w) ≡ true → (rest : List ℕ) → Follows is_space rest → FitsBefore (item x 0 w) rest
before_blank x w class h rest f = go (is_spaced w) refl h
  where
    go : (s : Bool) → is_spaced w ≡ s → (s || is_stopped w) ≡ true → FitsBefore (item x 0 w) rest
    go true e k = spaced_fits x w class e rest f
    go false e k = stopped_fits x w class k rest (space_stops rest f)
