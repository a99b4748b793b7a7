-- What begins with a byte of a word: no form goes on with it where the word ends, and no name is a form or a word of the table.
use Rattle.std.proofs.Common.{◌≡◌, ◌∙◌, sym as back, ap, refl, ℕ, Bool, true, false, ◌&&◌, ◌||◌, not, nat_eq, List, [], ◌∷◌, ◌++◌, None, arith}
use Rattle.std.specs.Prelude.{bytes_eq}
use Rattle.std.specs.List.{list_all}
use Rattle.std.proofs.lemmas.Bool.{eqb-true}
use Rattle.std.proofs.lemmas.Bool.Decides.{nat_tests}
use Rattle.std.proofs.lemmas.Slice.Eq.{bytes_eq-Decides}
use Rattle.formula_core.specs.Names.{starts_word, is_in_word, is_reserved}
use Rattle.math_tokens.specs.Lexemes.{Forms, sign_in, is_digit}
use Rattle.math_tokens.specs.SignForms.{sign_forms}
use Rattle.math_tokens.specs.Texts.{blank_length}
use Rattle.math_grammar.specs.declared.symbols.Symbol.{Symbol}
use Rattle.math_grammar.specs.Tokens.{words, word_in}
use Rattle.token_text.proofs.Following.{stops, Follows}
use Rattle.token_text.proofs.Tokens.{goes_further, NoneGoesOn, both_true, false_unless, clash}
use Rattle.token_text.proofs.Signs.{opens_set}

-- no byte of a word
abbrev pub ends_word : ℕ → Bool
ends_word c = not (is_in_word c)

-- begins with a byte of a word
abbrev pub is_lettered : List ℕ → Bool
is_lettered [] = false
is_lettered (c ∷ cs) = is_in_word c

-- a form that begins with a byte of a word has no other bytes
abbrev is_whole : List ℕ → Bool
is_whole e = not (is_lettered e) || list_all is_in_word e

forms_are_whole : list_all (λ e. is_whole e.0) sign_forms ≡ true
forms_are_whole = refl

and_false : (a b : Bool) → b ≡ false → (a && b) ≡ false
and_false true b h = h
and_false false b h = refl

differs : (b y : ℕ) → is_in_word b ≡ true → is_in_word y ≡ false → nat_eq b y ≡ false
differs b y h k = false_unless (nat_eq b y) (λ e. (
    let same : b ≡ y = eqb-true b y e in
    let never : true ≡ false = back h ∙ ap is_in_word same ∙ k in
    cc))

-- a byte of a word begins no blank
pub no_blank_there : (b : ℕ) (rest : List ℕ) → is_in_word b ≡ true → blank_length (b ∷ rest) ≡ 0
no_blank_there b rest h = rw (differs b 32 h refl, differs b 9 h refl, differs b 13 h refl, differs b 10 h refl, differs b 194 h refl) refl

pub starts_in_word : (c : ℕ) → starts_word c ≡ true → is_in_word c ≡ true
starts_in_word c h = grind (arith, nat_tests)

pub digit_in_word : (c : ℕ) → is_digit c ≡ true → is_in_word c ≡ true
digit_in_word c h = grind (arith, nat_tests)

module _ (p : ℕ → Bool) (outside : (c : ℕ) → is_in_word c ≡ true → p c ≡ false) where
  inside : (xs e : List ℕ) → list_all is_in_word e ≡ true → goes_further xs p e ≡ false
  inside [] [] h = refl
  inside [] (y ∷ ys) h = outside y (both_true (is_in_word y) (list_all is_in_word ys) h).0
  inside (x ∷ xs) [] h = refl
  inside (x ∷ xs) (y ∷ ys) h = and_false (nat_eq x y) _ (inside xs ys (both_true (is_in_word y) (list_all is_in_word ys) h).1)

  by_form : (b : ℕ) (bs e : List ℕ) → is_in_word b ≡ true → is_whole e ≡ true → goes_further (b ∷ bs) p e ≡ false
  by_form b bs [] h w = refl
  by_form b bs (y ∷ ys) h w = go (is_in_word y) refl w
    where
      go : (t : Bool) → is_in_word y ≡ t → (not (is_in_word y) || list_all is_in_word (y ∷ ys)) ≡ true → goes_further (b ∷ bs) p (y ∷ ys) ≡ false
      go true e v = let whole : list_all is_in_word (y ∷ ys) ≡ true = (λ i. (not (back e i)) || list_all is_in_word (y ∷ ys)) ∙ v in inside (b ∷ bs) (y ∷ ys) whole
      go false e v = (λ i. differs b y h e i && goes_further bs p ys)

  each_form : (forms : Forms) (b : ℕ) (bs : List ℕ) → is_in_word b ≡ true → list_all (λ e. is_whole e.0) forms ≡ true → NoneGoesOn forms (b ∷ bs) p
  each_form [] b bs h w = refl
  each_form (e ∷ forms) b bs h w =
      let parts : (is_whole e.0 ≡ true) × (list_all (λ e. is_whole e.0) forms ≡ true) = both_true (is_whole e.0) (list_all (λ e. is_whole e.0) forms) w in
      (λ i. not (by_form b bs e.0 h parts.0 i) && list_all (λ e. not (goes_further (b ∷ bs) p e.0)) forms) ∙ each_form forms b bs h parts.1

-- no form goes on with what begins with a byte of a word and then ends the word, or stops
pub none_ends : (b : ℕ) (bs : List ℕ) → is_in_word b ≡ true → NoneGoesOn sign_forms (b ∷ bs) ends_word
none_ends b bs h = each_form ends_word (λ c h. ap not h) sign_forms b bs h forms_are_whole

pub none_goes_on : (b : ℕ) (bs : List ℕ) → is_in_word b ≡ true → NoneGoesOn sign_forms (b ∷ bs) stops
none_goes_on b bs h = each_form stops (λ c h. rw h refl) sign_forms b bs h forms_are_whole

-- what passes a test that no entry passes isn't in the table
module _ (q : List ℕ → Bool) (n : List ℕ) (passes : q n ≡ true) where
  no_entry : (e : List ℕ) → not (q e) ≡ true → bytes_eq e n ≡ false
  no_entry e fails = false_unless (bytes_eq e n) (λ t. (
      let same : e ≡ n = (bytes_eq-Decides e n).0 t in
      clash (q e) (ap q same ∙ passes) fails))

  pub no_sign : (forms : Forms) → list_all (λ e. not (q e.0)) forms ≡ true → sign_in forms n ≡ None
  no_sign [] h = refl
  no_sign (e ∷ forms) h =
      let parts : (not (q e.0) ≡ true) × (list_all (λ e. not (q e.0)) forms ≡ true) = both_true (not (q e.0)) _ h in
      rw (no_entry e.0 parts.0) (no_sign forms parts.1)

  pub no_word : (table : List (List ℕ × Symbol)) → list_all (λ e. not (q e.0)) table ≡ true → word_in table n ≡ None
  no_word [] h = refl
  no_word (e ∷ table) h =
      let parts : (not (q e.0) ≡ true) × (list_all (λ e. not (q e.0)) table ≡ true) = both_true (not (q e.0)) _ h in
      rw (no_entry e.0 parts.0) (no_word table parts.1)

-- the forms that begin as words are reserved, and so are the words with a meaning of their own
abbrev is_free_word : List ℕ → Bool
is_free_word n = is_lettered n && not (is_reserved n)

free_word : (n : List ℕ) → is_lettered n ≡ true → is_reserved n ≡ false → is_free_word n ≡ true
free_word n l h = (λ i. l i && not (h i))

pub name_is_no_sign : (n : List ℕ) → is_lettered n ≡ true → is_reserved n ≡ false → sign_in sign_forms n ≡ None
name_is_no_sign n l h = no_sign is_free_word n (free_word n l h) sign_forms refl

pub name_is_no_word : (n : List ℕ) → is_reserved n ≡ false → word_in words n ≡ None
name_is_no_word n h = no_word (λ w. not (is_reserved w)) n (ap not h) words refl

-- no form begins with a digit
abbrev begins_with_digit : List ℕ → Bool
begins_with_digit [] = false
begins_with_digit (c ∷ cs) = is_digit c

pub number_is_no_sign : (c : ℕ) (cs : List ℕ) → is_digit c ≡ true → sign_in sign_forms (c ∷ cs) ≡ None
number_is_no_sign c cs h = no_sign begins_with_digit (c ∷ cs) h sign_forms refl

-- what begins with a byte of a word opens a set behind {
pub lettered_opens_set : (n rest : List ℕ) → is_lettered n ≡ true → Follows opens_set (n ++ rest)
lettered_opens_set [] rest h = cc
lettered_opens_set (c ∷ cs) rest h = ap not (differs c 125 h refl)
