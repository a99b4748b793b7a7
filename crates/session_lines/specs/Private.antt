-- The first line of what was fed, and the edit that is open.
use Rattle.std.specs.Prelude.{◌≡◌, ◌≢◌, ℕ, ◌<◌, ◌+◌, Bool, true, List, [], length, take, drop, slice_index, Option}
use Rattle.std.specs.List.{AllByRecursion}
use Rattle.std.specs.Option.{option_map}
use Rattle.std.specs.Str.Lines.{strip_carriage_return}
use Rattle.session_lines.specs.declared.lines.Found.{Found}
use Rattle.session_lines.specs.declared.lines.Found.TheVariants.{Ended, Last}
use Rattle.session_lines.specs.declared.input.OpenEdit.{OpenEdit}
use Rattle.session_lines.specs.Commands.{EditSoFar}
use Rattle.session_lines.specs.Reading.{Fed}

-- the bytes whose lines weren't read, and whether the input ended
pub record Unread : Type 0 where
  pub left : List ℕ
  pub ended : Bool

-- the bytes of a reader, and whether the input ended
abbrev pub unread : Fed → Unread
unread fed = record { left = fed.left; ended = fed.ended }

-- no line feed
abbrev pub HasNoFeed : List ℕ → Type 0
HasNoFeed bytes = AllByRecursion (λ b. b ≢ 10) bytes

-- the first line feed is at this place
abbrev pub IsFirstFeed : List ℕ → ℕ → Type 0
IsFirstFeed bytes at = (at < length bytes) × HasNoFeed (take at bytes) × (slice_index bytes at ≡ 10)

-- the first line ends so
abbrev pub IsFirstLine : Unread → Found → Type 0
IsFirstLine unread (Ended at) = IsFirstFeed unread.left at
IsFirstLine unread Last = (unread.ended ≡ true) × (unread.left ≢ []) × HasNoFeed unread.left

-- no line is whole
abbrev pub HasNoLine : Unread → Type 0
HasNoLine unread = HasNoFeed unread.left × (unread.ended ≡ true → unread.left ≡ [])

-- the first line
abbrev pub line_at : List ℕ → Found → List ℕ
line_at left (Ended at) = strip_carriage_return (take at left)
line_at left Last = left

-- what stands behind it
abbrev pub left_behind : List ℕ → Found → List ℕ
left_behind left (Ended at) = drop (at + 1) left
left_behind left Last = []

-- what contracts see of an open edit
abbrev pub edit_seen : Option OpenEdit → Option EditSoFar
edit_seen edit = option_map (λ e. (e.word.items, e.text.items)) edit
