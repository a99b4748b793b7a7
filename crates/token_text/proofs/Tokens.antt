-- Words that are tokens wherever they stand, if what follows doesn't go on with them.
use Rattle.std.proofs.Common.{◌≡◌, ◌∙◌, sym, ap, subst, refl, ℕ, suc, ◌+◌, ◌-◌, ◌<◌, ◌≤◌, Bool, true, false, ◌&&◌, not, nat_eq, List, [], ◌∷◌, ◌++◌, length, take, arith, None, Ok, ◌⊎◌, inl, inr, eq-eqb}
use Rattle.std.specs.Prelude.{◌==◌, bytes_eq}
use Rattle.std.specs.List.{list_all}
use Rattle.std.proofs.Math.Seq.{take-append_seam, take-append-add}
use Rattle.std.proofs.lemmas.List.{length-append}
use Rattle.std.proofs.lemmas.Slice.Eq.{bytes_eq-Decides}
use Rattle.formula_core.specs.Names.{starts_word, is_in_word}
use Rattle.math_tokens.specs.declared.lexemes.Lexeme.{Lexeme}
use Rattle.math_tokens.specs.declared.cutting.TokenKind.{TokenKind}
use Rattle.math_tokens.specs.Lexemes.{Forms, sign_in, is_digit, is_token_word, IsLexeme, a_sign, a_word, a_primed, a_number}
use Rattle.math_tokens.specs.SignForms.{sign_forms}
use Rattle.math_tokens.specs.Texts.{blank_length, meaning}
use Rattle.math_grammar.specs.Tokens.{Item, symbol_of}
use Rattle.token_text.specs.Spacing.{FitsBefore}
use Rattle.token_text.proofs.Following.{stops, Follows}

-- a form begins with these bytes, and goes on with one that passes
abbrev pub goes_further : List ℕ → (ℕ → Bool) → List ℕ → Bool
goes_further [] p [] = false
goes_further [] p (y ∷ ys) = p y
goes_further (x ∷ xs) p [] = false
goes_further (x ∷ xs) p (y ∷ ys) = nat_eq x y && goes_further xs p ys

further : (xs : List ℕ) (p : ℕ → Bool) (c : ℕ) (more : List ℕ) → p c ≡ true → goes_further xs p (xs ++ c ∷ more) ≡ true
further [] p c more h = h
further (x ∷ xs) p c more h = rw (eq-eqb x x refl) (further xs p c more h)

pub both_true : (a b : Bool) → (a && b) ≡ true → (a ≡ true) × (b ≡ true)
both_true true b h = (refl, h)
both_true false b h = cc

pub false_unless : (b : Bool) → (b ≡ true → ⊥) → b ≡ false
false_unless true h = absurd (h refl)
false_unless false h = refl

pub clash : (b : Bool) → b ≡ true → not b ≡ true → ⊥
clash true h k = cc
clash false h k = cc

-- no form of the table begins so and goes on so
abbrev pub NoneGoesOn : Forms → List ℕ → (ℕ → Bool) → Type 0
NoneGoesOn forms s p = list_all (λ e. not (goes_further s p e.0)) forms ≡ true

pub no_form : (forms : Forms) (s : List ℕ) (p : ℕ → Bool) → NoneGoesOn forms s p → (c : ℕ) (more : List ℕ) → p c ≡ true → sign_in forms (s ++ c ∷ more) ≡ None
no_form [] s p none c more h = refl
no_form (e ∷ forms) s p none c more h =
    let parts : (not (goes_further s p e.0) ≡ true) × (list_all (λ e. not (goes_further s p e.0)) forms ≡ true) = both_true _ _ none in
    let differs : bytes_eq e.0 (s ++ c ∷ more) ≡ false = false_unless _ (λ t. (
    let same : e.0 ≡ s ++ c ∷ more = (bytes_eq-Decides e.0 (s ++ c ∷ more)).0 t in
    let goes : goes_further s p e.0 ≡ true = ap (goes_further s p) same ∙ further s p c more h in
    clash (goes_further s p e.0) goes parts.0)) in
    rw differs (no_form forms s p parts.1 c more h)

-- the bytes are a token, whatever follows, if that begins with a byte that passes
pub record IsToken (p : ℕ → Bool) (x : Item) : Type 0 where
  pub lexeme : Lexeme
  pub kind : TokenKind
  pub some : 0 < length x.text
  pub no_blank : (rest : List ℕ) → blank_length (x.text ++ rest) ≡ 0
  pub spells : IsLexeme sign_forms x.text lexeme
  pub means : (at : ℕ) → meaning x.text lexeme at ≡ Ok kind
  pub class : symbol_of kind x.text ≡ x.symbol
  pub no_longer : (c : ℕ) (more : List ℕ) → p c ≡ true → (other : Lexeme) → IsLexeme sign_forms (x.text ++ c ∷ more) other → ⊥

beyond : (p : ℕ → Bool) (x : Item) → IsToken p x → (rest : List ℕ) → Follows p rest → (m : ℕ) → length x.text < m → m ≤ length (x.text ++ rest) → (other : Lexeme)
    → IsLexeme sign_forms (take m (x.text ++ rest)) other → ⊥
beyond p x is [] follows m more short other lexeme = omega (arith, length-append x.text [])
beyond p x is (c ∷ rest) follows m more short other lexeme =
    let s : List ℕ = x.text in
    let j : m ≡ length s + suc (m - length s - 1) = omega arith in
    let t : take m (s ++ c ∷ rest) ≡ s ++ c ∷ take (m - length s - 1) rest = ap (λ n. take n (s ++ c ∷ rest)) j ∙ take-append-add s (c ∷ rest) (suc (m - length s - 1)) in
    is.no_longer c (take (m - length s - 1) rest) follows other (subst (λ u. IsLexeme sign_forms u other) t lexeme)

pub fits : (p : ℕ → Bool) (x : Item) → IsToken p x → (rest : List ℕ) → Follows p rest → FitsBefore x rest
fits p x is rest follows = record {
  lexeme = is.lexeme;
  kind = is.kind;
  longest = record {
    some = is.some;
    within = omega (arith, length-append x.text rest);
    spells = subst (λ t. IsLexeme sign_forms t is.lexeme) (sym (take-append_seam x.text rest)) is.spells;
    longest = beyond p x is rest follows;
  };
  no_blank = is.no_blank rest;
  means = is.means;
  class = is.class;
}

pub holds_inside : (q : ℕ → Bool) (xs : List ℕ) (c : ℕ) (more : List ℕ) → list_all q (xs ++ c ∷ more) ≡ true → q c ≡ true
holds_inside q [] c more h = (both_true (q c) (list_all q more) h).0
holds_inside q (x ∷ xs) c more h = holds_inside q xs c more (both_true (q x) (list_all q (xs ++ c ∷ more)) h).1

not_nil : (xs : List ℕ) (c : ℕ) (more : List ℕ) → xs ++ c ∷ more ≡ [] → ⊥
not_nil [] c more e = cc
not_nil (x ∷ xs) c more e = cc

-- a byte of what ends with a prime is a byte before it, or the prime itself
pub before_prime : (q : ℕ → Bool) (xs ws : List ℕ) (c : ℕ) (more : List ℕ) → list_all q ws ≡ true → xs ++ c ∷ more ≡ ws ++ 39 ∷ [] → (q c ≡ true) ⊎ ((c ≡ 39) × (more ≡ []))
before_prime q [] [] c more h e = let same : c ≡ 39 = cc in let none : more ≡ [] = cc in inr (same, none)
before_prime q [] (d ∷ ds) c more h e = let same : c ≡ d = cc in inl (ap q same ∙ (both_true (q d) (list_all q ds) h).0)
before_prime q (x ∷ xs) [] c more h e = let none : xs ++ c ∷ more ≡ [] = cc in absurd (not_nil xs c more none)
before_prime q (x ∷ xs) (d ∷ ds) c more h e = let tail : xs ++ c ∷ more ≡ ds ++ 39 ∷ [] = cc in before_prime q xs ds c more (both_true (q d) (list_all q ds) h).1 tail

-- nothing goes on with a byte that stops, unless a form does
pub stopped : (b : ℕ) (bs : List ℕ) → NoneGoesOn sign_forms (b ∷ bs) stops → (c : ℕ) (more : List ℕ) → stops c ≡ true → (other : Lexeme) → IsLexeme sign_forms ((b ∷ bs) ++ c ∷ more) other → ⊥
stopped b bs none c more h other (a_sign e) = let n : sign_in sign_forms ((b ∷ bs) ++ c ∷ more) ≡ None = no_form sign_forms (b ∷ bs) stops none c more h in cc
stopped b bs none c more h other (a_word n w) =
    clash (is_in_word c) (holds_inside is_in_word bs c more (both_true (starts_word b) (list_all is_in_word (bs ++ c ∷ more)) w).1) (both_true (not (is_in_word c)) _ h).0
stopped b bs none c more h other (a_primed w n is e) = primed w is e
  where
    primed : (w : List ℕ) → is_token_word w ≡ true → (b ∷ bs) ++ c ∷ more ≡ w ++ 39 ∷ [] → ⊥
    primed [] is e = cc
    primed (d ∷ ds) is e =
        let tail : bs ++ c ∷ more ≡ ds ++ 39 ∷ [] = cc in
        let parts : (not (is_in_word c) ≡ true) × ((not (is_digit c) && not (c == 39)) ≡ true) = both_true (not (is_in_word c)) _ h in
        go (before_prime is_in_word bs ds c more (both_true (starts_word d) (list_all is_in_word ds) is).1 tail) parts.0 (both_true (not (is_digit c)) _ parts.1).1
      where
        go : (is_in_word c ≡ true) ⊎ ((c ≡ 39) × (more ≡ [])) → not (is_in_word c) ≡ true → not (c == 39) ≡ true → ⊥
        go (inl word) k l = clash (is_in_word c) word k
        go (inr prime) k l = clash (c == 39) (eq-eqb c 39 prime.0) l
stopped b bs none c more h other (a_number n d) =
    let parts : (not (is_in_word c) ≡ true) × ((not (is_digit c) && not (c == 39)) ≡ true) = both_true (not (is_in_word c)) _ h in
    clash (is_digit c) (holds_inside is_digit bs c more (both_true (is_digit b) (list_all is_digit (bs ++ c ∷ more)) d).1) (both_true (not (is_digit c)) _ parts.1).0

-- a sign that begins with no byte of a word, before what passes
pub free_sign : (p : ℕ → Bool) (b : ℕ) (bs : List ℕ) → starts_word b ≡ false → is_digit b ≡ false → NoneGoesOn sign_forms (b ∷ bs) p → (c : ℕ) (more : List ℕ) → p c ≡ true → (other : Lexeme)
    → IsLexeme sign_forms ((b ∷ bs) ++ c ∷ more) other → ⊥
free_sign p b bs word digit none c more h other (a_sign e) = let n : sign_in sign_forms ((b ∷ bs) ++ c ∷ more) ≡ None = no_form sign_forms (b ∷ bs) p none c more h in cc
free_sign p b bs word digit none c more h other (a_word n w) = let f : starts_word b ≡ true = (both_true (starts_word b) (list_all is_in_word (bs ++ c ∷ more)) w).0 in cc
free_sign p b bs word digit none c more h other (a_primed w n is e) = primed w is e
  where
    primed : (w : List ℕ) → is_token_word w ≡ true → (b ∷ bs) ++ c ∷ more ≡ w ++ 39 ∷ [] → ⊥
    primed [] is e = cc
    primed (d ∷ ds) is e =
        let same : b ≡ d = cc in
        let f : starts_word d ≡ true = (both_true (starts_word d) (list_all is_in_word ds) is).0 in
        let g : starts_word b ≡ true = ap starts_word same ∙ f in
        cc
free_sign p b bs word digit none c more h other (a_number n d) = let f : is_digit b ≡ true = (both_true (is_digit b) (list_all is_digit (bs ++ c ∷ more)) d).0 in cc
