-- Paths in trees, and places in formulas: numbers with dots between them.
use Rattle.std.specs.Prelude.{ℕ, ◌==◌, List, [], ◌∷◌, Option, Some, None, bytes_eq, codes, if◌then◌else◌}
use Rattle.step_items.specs.Numbers.{number_at_most}

-- a byte at the begin of the first of some parts
abbrev pub onto_first : ℕ → List (List ℕ) → List (List ℕ)
onto_first c [] = (c ∷ []) ∷ []
onto_first c (part ∷ parts) = (c ∷ part) ∷ parts

-- the parts between the dots
abbrev pub between_dots : List ℕ → List (List ℕ)
between_dots [] = [] ∷ []
between_dots (c ∷ rest) = if c == 46 then [] ∷ between_dots rest else onto_first c (between_dots rest)

-- an element before others, where there are both
abbrev pub with_others : {A : Type 0} → Option A → Option (List A) → Option (List A)
with_others (Some x) (Some xs) = Some (x ∷ xs)
with_others _ _ = None

-- what each part is, where each is something
abbrev pub all_of : {A : Type 0} → (List ℕ → Option A) → List (List ℕ) → Option (List A)
all_of read [] = Some []
all_of read (part ∷ parts) = with_others (read part) (all_of read parts)

-- `-` for the root, else numbers of 32 bits with dots between them
abbrev pub path_of : List ℕ → Option (List ℕ)
path_of word = if bytes_eq word (codes "-") then Some [] else all_of (number_at_most 4294967295) (between_dots word)
