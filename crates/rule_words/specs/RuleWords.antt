-- The words of the rules.
use Rattle.std.specs.Prelude.{ℕ, ◌==◌, List, [], ◌∷◌, map, Option, Some, None, bytes_eq, if◌then◌else◌}
use Rattle.rule_words.specs.declared.words.TheConstants.{RULE_WORDS}

-- each word with the number of its rule
abbrev pub rule_words : List (List ℕ × ℕ)
rule_words = map (λ row. (row.0.now, row.1)) RULE_WORDS

-- the number beside a word
abbrev pub number_beside : List (List ℕ × ℕ) → List ℕ → Option ℕ
number_beside [] word = None
number_beside (row ∷ table) word = if bytes_eq row.0 word then Some row.1 else number_beside table word

-- the number of the rule that the word names
abbrev pub rule_named : List ℕ → Option ℕ
rule_named word = number_beside rule_words word

-- the word beside a number
abbrev pub word_beside : List (List ℕ × ℕ) → ℕ → List ℕ
word_beside [] number = []
word_beside (row ∷ table) number = if row.1 == number then row.0 else word_beside table number

-- the word that names the rule of this number
abbrev pub rule_word : ℕ → List ℕ
rule_word number = word_beside rule_words number
