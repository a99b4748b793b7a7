-- Words of the command line.
use Rattle.std.proofs.Common.{◌≡◌, ◌≢◌, ◌∙◌, ◌<◌, ◌≤◌, ◌^◌, ℕ, List, [], ◌∷◌, ap, sym, subst, length, get_or, map, arith, String, Global}
use Rattle.std.specs.Prelude.{Option, Some, None, MatchOption, Result, Ok, Err, codes, string_bytes}
use Rattle.std.specs.Str.Parse.{digits_value, IsNumeral, ParsesUnsigned}
use Rattle.std.proofs.lemmas.Str.Parse.{digit_at, without_leading_plus_none}
use Rattle.rodin_cli.specs.Check.{IsCheckWords}
use Rattle.rodin_cli.specs.Private.{AreDemoWords}
use Rattle.rodin_cli.specs.Words.{IsDemoWords, IsSessionWords, IsNumberWord}

-- a list of one word has that word
pub one_word : (words : List (String Global)) (word : String Global) → 1 ≤ length words → length words < 2 → word ≡ get_or words 0 word →
    map string_bytes words ≡ string_bytes word ∷ []
one_word [] word low high is = absurd (omega arith)
one_word (first ∷ []) word low high is = ap (λ w. string_bytes w ∷ []) (sym is)
one_word (first ∷ second ∷ words) word low high is = absurd (omega arith)

-- a list of three words has those words
pub three_words : (words : List (String Global)) (a b c : String Global) → 3 ≤ length words → length words < 4 → a ≡ get_or words 0 a → b ≡ get_or words 1 b → c ≡ get_or words 2 c →
    map string_bytes words ≡ string_bytes a ∷ string_bytes b ∷ string_bytes c ∷ []
three_words [] a b c low high p q r = absurd (omega arith)
three_words (x ∷ []) a b c low high p q r = absurd (omega arith)
three_words (x ∷ y ∷ []) a b c low high p q r = absurd (omega arith)
three_words (x ∷ y ∷ z ∷ []) a b c low high p q r =
    ap (λ w. string_bytes w ∷ string_bytes y ∷ string_bytes z ∷ []) (sym p) ∙ ap (λ w. string_bytes a ∷ string_bytes w ∷ string_bytes z ∷ []) (sym q)
    ∙ ap (λ w. string_bytes a ∷ string_bytes b ∷ string_bytes w ∷ []) (sym r)
three_words (x ∷ y ∷ z ∷ w ∷ words) a b c low high p q r = absurd (omega arith)

first_same : (a b c d e f : List ℕ) → a ∷ b ∷ c ∷ [] ≡ d ∷ e ∷ f ∷ [] → (a ≡ d) × (b ≡ e) × (c ≡ f)
first_same a b c d e f same = (cc, cc, cc)

-- what three words say, as what the words of the command line say
pub demo_words_of : (words : List (String Global)) (a b c : List ℕ) → map string_bytes words ≡ a ∷ b ∷ c ∷ [] → (found : Option (ℕ × ℕ)) →
    MatchOption found ((s k : ℕ) → AreDemoWords a b c s k → ⊥) (λ numbers. AreDemoWords a b c numbers.0 numbers.1) →
    MatchOption found ((s k : ℕ) → IsDemoWords words s k → ⊥) (λ numbers. IsDemoWords words numbers.0 numbers.1)
demo_words_of words a b c e None none = λ s k is.
    let same = first_same a b c (codes "demo") is.seed_word is.n_word (sym e ∙ is.words_are) in
    none s k (record {
      word_is = same.0;
      seed_is = subst (λ w. IsNumberWord w s × (s < 2 ^ 64)) (sym same.1) is.seed_is;
      n_is = subst (λ w. IsNumberWord w k × (1 ≤ k) × (k ≤ 128)) (sym same.2) is.n_is;
    })
demo_words_of words a b c e (Some numbers) some =
    record { seed_word = b; n_word = c; words_are = e ∙ ap (λ w. w ∷ b ∷ c ∷ []) some.word_is; seed_is = some.seed_is; n_is = some.n_is }

-- WORDS THAT ARE NUMBERS

-- a numeral doesn't begin with a plus
pub no_plus : (bs : List ℕ) → IsNumeral 10 bs → get_or bs 0 0 ≢ 43
no_plus bs digits e = let d = digit_at bs 0 digits.1 digits.0 in omega (arith, d.0, d.1, e)

pub number_read : {E : Type 0} (bs : List ℕ) (n : ℕ) (r : Result ℕ E) → r ≡ Ok n → get_or bs 0 0 ≢ 43 → length bs ≤ 20 → ParsesUnsigned 64 10 bs r → IsNumberWord bs n
number_read bs n r is plain short parses =
    let told = subst (ParsesUnsigned 64 10 bs) is parses in
    let same = without_leading_plus_none bs plain in
    (subst (IsNumeral 10) same told.0.0, short, ap (digits_value 10) (sym same) ∙ sym told.1)

pub not_read : {E : Type 0} (bs : List ℕ) (e : E) (r : Result ℕ E) → r ≡ Err e → get_or bs 0 0 ≢ 43 → ParsesUnsigned 64 10 bs r → (n : ℕ) → IsNumberWord bs n → n < 2 ^ 64 → ⊥
not_read bs e r is plain parses n word small =
    let told = subst (ParsesUnsigned 64 10 bs) is parses in
    let same = without_leading_plus_none bs plain in
    told (subst (IsNumeral 10) (sym same) word.0, subst (λ v. v < 2 ^ 64) (sym (ap (digits_value 10) same ∙ word.2)) small)

-- a word is one number
pub one_number : (word : List ℕ) (n m : ℕ) → IsNumberWord word n → IsNumberWord word m → n ≡ m
one_number word n m p q = sym p.2 ∙ q.2

-- words say one pair of numbers
pub one_demo : (words : List (String Global)) (s n t m : ℕ) → IsDemoWords words s n → IsDemoWords words t m → (s ≡ t) × (n ≡ m)
one_demo words s n t m p q =
    let same = first_same (codes "demo") p.seed_word p.n_word (codes "demo") q.seed_word q.n_word (sym p.words_are ∙ q.words_are) in (
      one_number q.seed_word s t (subst (λ w. IsNumberWord w s) same.1 p.seed_is.0) q.seed_is.0,
      one_number q.n_word n m (subst (λ w. IsNumberWord w n) same.2 p.n_is.0) q.n_is.0,
    )

-- words say one number of workers
pub one_session : (words : List (String Global)) (n m : ℕ) → IsSessionWords words n → IsSessionWords words m → n ≡ m
one_session words n m p q =
    let same = sym p.words_are ∙ q.words_are in
    let word : p.workers_word ≡ q.workers_word = cc (same) in
    one_number q.workers_word n m (subst (λ w. IsNumberWord w n) word p.workers_is.0) q.workers_is.0

-- THE FORMS

-- the words of one form are those of no other
pub check_or_demo : (words : List (String Global)) (seed n : ℕ) → IsCheckWords words → IsDemoWords words seed n → ⊥
check_or_demo words seed n check demo =
    let both = ap length (sym check ∙ demo.words_are) in omega (arith, both)

pub check_or_session : (words : List (String Global)) (workers : ℕ) → IsCheckWords words → IsSessionWords words workers → ⊥
check_or_session words workers check session =
    let both = ap length (sym check ∙ session.words_are) in omega (arith, both)

pub session_or_demo : (words : List (String Global)) (workers seed n : ℕ) → IsSessionWords words workers → IsDemoWords words seed n → ⊥
session_or_demo words workers seed n session demo =
    let both = ap length (sym session.words_are ∙ demo.words_are) in omega (arith, both)
