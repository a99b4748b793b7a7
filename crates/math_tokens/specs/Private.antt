-- The longest token at the front, as the code finds it, and the forms of a table by their first byte.
use Rattle.std.specs.Prelude.{ℕ, ◌+◌, ◌-◌, ◌==◌, ◌&&◌, not, Bool, true, List, [], ◌∷◌, length, take, drop, nat_le, Option, ◌≡◌, ◌<◌, ◌≤◌, map, Some, None, cond, nat_lt, nat_eq, slice_index}
use Rattle.std.specs.Borrow.{Bor}
use Rattle.std.specs.List.{prefix_len, starts_with}
use Rattle.formula_core.specs.Names.{starts_word, is_in_word}
use Rattle.math_tokens.specs.declared.lexemes.Lexeme.{Lexeme}
use Rattle.math_tokens.specs.declared.lexemes.Lexeme.TheVariants.{Sign, Word, Primed, Number}
use Rattle.math_tokens.specs.Lexemes.{Forms, sign_in, IsLexeme, IsLongest}
use Rattle.formula_core.specs.Texts.{begins_with}

abbrev pub none_begins : ℕ → List (Bor (List ℕ) × ℕ) → Bool
none_begins b [] = true
none_begins b (e ∷ entries) = not (begins_with b e.0.now) && none_begins b entries

-- none begins with the byte but those from one number up to another
abbrev pub is_group : List (Bor (List ℕ) × ℕ) → ℕ → ℕ → ℕ → Bool
is_group entries b from to =
    nat_le from to && (nat_le to (length entries) && (none_begins b (take from entries) && none_begins b (drop (to - from) (drop from entries))))

-- the group of each byte from b on starts at its number and ends at the next one
abbrev pub are_groups : List (Bor (List ℕ) × ℕ) → ℕ → List ℕ → Bool
are_groups entries b [] = true
are_groups entries b (from ∷ []) = true
are_groups entries b (from ∷ (to ∷ starts)) = is_group entries b from to && are_groups entries (b + 1) (to ∷ starts)

-- what a search for the longest form finds
pub record IsBest (forms : Forms) (text : List ℕ) (n k : ℕ) : Type 0 where
  pub some : 0 < n
  pub within : n ≤ length text
  pub is : sign_in forms (take n text) ≡ Some k
  pub longest : (m : ℕ) → n < m → m ≤ length text → sign_in forms (take m text) ≡ None

abbrev pub Best : Forms → List ℕ → Option (ℕ × ℕ) → Type 0
Best forms text (Some found) = IsBest forms text found.0 found.1
Best forms text None = (m : ℕ) → 0 < m → m ≤ length text → sign_in forms (take m text) ≡ None

-- the table of a program, as forms
abbrev pub table : List (Bor (List ℕ) × ℕ) → Forms
table entries = map (λ e. (e.0.now, e.1)) entries

-- where the bytes begin with b, the longest form of the group is the longest of all
abbrev pub IsGroup : List (Bor (List ℕ) × ℕ) → ℕ → List (Bor (List ℕ) × ℕ) → Type 0
IsGroup entries b group = (rest : List ℕ) (found : Option (ℕ × ℕ)) → Best (table group) (b ∷ rest) found → Best (table entries) (b ∷ rest) found

-- how many bytes at the front are a word
abbrev pub word_length : List ℕ → ℕ
word_length [] = 0
word_length (c ∷ cs) = cond (starts_word c) (1 + prefix_len is_in_word cs) 0

-- what a search for the longest token finds
abbrev pub HasLexeme : Forms → List ℕ → Option (ℕ × Lexeme) → Type 0
HasLexeme forms text (Some found) = IsLongest forms text found.0 found.1
HasLexeme forms text None = (m : ℕ) → 0 < m → m ≤ length text → (k : Lexeme) → IsLexeme forms (take m text) k → ⊥

-- the better of the best so far and a form
abbrev pub length_of : Option (ℕ × ℕ) → ℕ
length_of None = 0
length_of (Some found) = found.0

abbrev pub better : Option (ℕ × ℕ) → List ℕ → ℕ → List ℕ → Option (ℕ × ℕ)
better best form k text = cond (nat_lt (length_of best) (length form) && starts_with nat_eq text form) (Some (length form, k)) best

-- how many bytes at the front are a word, with a prime directly after it
abbrev pub name_length : List ℕ → ℕ
name_length text =
    let w = word_length text in
    cond (nat_lt 0 w && (nat_lt w (length text) && (slice_index text w == 39))) (w + 1) w

-- the longest of what may begin there: a sign before a word or a number as long as it
abbrev pub other_choice : ℕ → ℕ → ℕ → Option (ℕ × Lexeme)
other_choice word name digits =
    cond (nat_lt name digits) (Some (digits, Number)) (cond (nat_lt word name) (Some (name, Primed)) (cond (nat_lt 0 word) (Some (word, Word)) None))

abbrev pub choice : Option (ℕ × ℕ) → ℕ → ℕ → ℕ → Option (ℕ × Lexeme)
choice None word name digits = other_choice word name digits
choice (Some found) word name digits = cond (nat_le name found.0 && nat_le digits found.0) (Some (found.0, Sign found.1)) (other_choice word name digits)
