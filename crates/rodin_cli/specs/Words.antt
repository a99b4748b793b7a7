-- The words of the command line, and the forms that they may have.
use Rattle.std.specs.Prelude.{◌≡◌, ◌≤◌, ◌<◌, ◌^◌, ℕ, List, [], ◌∷◌, length, map, codes, String, string_bytes}
use Rattle.std.specs.Str.Parse.{IsNumeral, digits_value}
use Rattle.std.specs.declared.alloc.Global.{Global}
use Rattle.rodin_cli.specs.declared.command.Command.{Command}
use Rattle.rodin_cli.specs.declared.command.Command.TheVariants.{Check, Session, Demo}
use Rattle.rodin_cli.specs.Check.{IsCheckWords}

-- the word is the number in 1 to 20 ASCII digits
abbrev pub IsNumberWord : List ℕ → ℕ → Type 0
IsNumberWord word n = IsNumeral 10 word × (length word ≤ 20) × (digits_value 10 word ≡ n)

-- the words `session WORKERS`: a number of 1 to 20 digits from 0 to 8
pub record IsSessionWords (words : List (String Global)) (workers : ℕ) : Type 0 where
  pub workers_word : List ℕ
  pub words_are : map string_bytes words ≡ codes "session" ∷ workers_word ∷ []
  pub workers_is : IsNumberWord workers_word workers × (workers ≤ 8)

-- the words `demo SEED N`: two numbers of 1 to 20 digits, the first of 64 bits and the second from 1 to 128
pub record IsDemoWords (words : List (String Global)) (seed n : ℕ) : Type 0 where
  pub seed_word : List ℕ
  pub n_word : List ℕ
  pub words_are : map string_bytes words ≡ codes "demo" ∷ seed_word ∷ n_word ∷ []
  pub seed_is : IsNumberWord seed_word seed × (seed < 2 ^ 64)
  pub n_is : IsNumberWord n_word n × (1 ≤ n) × (n ≤ 128)

-- the words of a command
abbrev pub AreWordsOf : List (String Global) → Command → Type 0
AreWordsOf words Check = IsCheckWords words
AreWordsOf words (Session workers) = IsSessionWords words workers
AreWordsOf words (Demo seed n) = IsDemoWords words seed n

-- the words are none of the forms
abbrev pub HaveNoForm : List (String Global) → Type 0
HaveNoForm words = (command : Command) → AreWordsOf words command → ⊥
