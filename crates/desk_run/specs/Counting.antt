-- What counting does to the entries, and what a chair has after so many acts.
use Rattle.std.specs.Prelude.{◌≡◌, ℕ, List, [], ◌∷◌, ◌++◌, length, Option, Some, None}
use Rattle.turn_desk.specs.Log.{entries_of}

-- the chair's number is added, and the answer is how many there are then
abbrev pub IsCount : ℕ → List ℕ → Option ℕ → List ℕ → Type 0
IsCount k before (Some n) after = (after ≡ before ++ k ∷ []) × (n ≡ length after)
IsCount k before None after = after ≡ before

-- how often the chair counted
abbrev pub count_of : ℕ → List ℕ → ℕ
count_of k entries = length (entries_of (λ e. e) k entries)
