-- Blanks and comments.
use Rattle.std.specs.Prelude.{ℕ, ◌+◌, Bool, false, not, ◌&&◌, ◌==◌, nat_lt, List, [], ◌∷◌, Option, Some, None, if◌then◌else◌}
use Rattle.std.specs.List.{prefix_len}
use Rattle.std.specs.Option.{option_map}
use Rattle.formula_core.specs.Texts.{begins_with}
use Rattle.math_tokens.specs.Texts.{blank_length}
use Rattle.component_tokens.specs.declared.gap.Gap.{Gap}
use Rattle.component_tokens.specs.declared.gap.Gap.TheVariants as gap

-- the bytes of `/`, `*` and the line feed
abbrev pub slash : ℕ
slash = 47

abbrev pub star : ℕ
star = 42

abbrev pub line_feed : ℕ
line_feed = 10

-- how many bytes stand before the end of the line
abbrev pub line_length : List ℕ → ℕ
line_length text = prefix_len (λ c. not (c == line_feed)) text

-- whether the text begins with `*/`
abbrev pub closes : List ℕ → Bool
closes [] = false
closes (c ∷ cs) = c == star && begins_with slash cs

-- how many bytes the first `*/` ends
abbrev pub closing : List ℕ → Option ℕ
closing [] = None
closing (c ∷ cs) = if closes (c ∷ cs) then Some 2 else option_map (λ n. 1 + n) (closing cs)

abbrev pub comment_closed : Option ℕ → Gap
comment_closed None = gap.OpenComment
comment_closed (Some n) = gap.Bytes (2 + n)

-- `//` begins a comment to the end of the line, and `/*` one up to `*/`
abbrev pub behind_slash : List ℕ → Gap
behind_slash [] = gap.Nothing
behind_slash (c ∷ cs) = if c == slash then gap.Bytes (2 + line_length cs) else (if c == star then comment_closed (closing cs) else gap.Nothing)

abbrev pub comment_in : List ℕ → Gap
comment_in [] = gap.Nothing
comment_in (c ∷ cs) = if c == slash then behind_slash cs else gap.Nothing

-- the blank or the comment at the front of a text
abbrev pub gap_in : List ℕ → Gap
gap_in text = if nat_lt 0 (blank_length text) then gap.Bytes (blank_length text) else comment_in text
