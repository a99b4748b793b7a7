-- What only private contracts on cutting cite.
use Rattle.std.specs.Prelude.{◌≡◌, ◌⊎◌, ℕ, ◌+◌, ◌<◌, List, [], ◌∷◌, ◌++◌, length, Option, Some, None}
use Rattle.check_input.specs.declared.cutting.Piece.{Piece}
use Rattle.check_input.specs.declared.cutting.Rest.{Rest}
use Rattle.check_input.specs.Inputs.{Component, Numbered, headed, whole_lines, line_feeds, numbered, after_front}

-- the lines before the first heading line of a text, and the components from there on
abbrev pub front_of : List ℕ → List ℕ
front_of text = (headed (whole_lines text)).front

abbrev pub parts_behind : List ℕ → List Component
parts_behind text = (headed (whole_lines text)).parts

-- a text's first line, and what stands behind it
abbrev pub BeginsWithLine : List ℕ → List ℕ → List ℕ → Type 0
BeginsWithLine text line behind =
    (text ≡ line ++ behind)
    × (((text ≡ []) × (line ≡ [])) ⊎ ((0 < length line) × (whole_lines text ≡ line ∷ whole_lines behind)))

-- what stands behind some of the lines before the first heading line
pub record IsBehindPlain (text rest : List ℕ) : Type 0 where
  pub passed : List ℕ
  pub whole : text ≡ passed ++ rest
  pub front : front_of text ≡ passed ++ front_of rest
  pub parts : parts_behind text ≡ parts_behind rest

-- the components of lines of which the first has this number
abbrev pub numbered_from : ℕ → List ℕ → List Numbered
numbered_from line text =
    after_front (front_of text) (numbered (line + line_feeds (front_of text)) (parts_behind text))

abbrev pub numbered_of : Piece → Numbered
numbered_of p = (p.line, (p.name.now, p.text.now))

-- the first component of lines before those in the rest
abbrev pub numbered_by : Option (Piece × Rest) → List Numbered
numbered_by None = []
numbered_by (Some x) = numbered_of x.0 ∷ numbered_from x.1.line x.1.text.now
