-- What only private contracts cite.
use Rattle.std.specs.Prelude.{ℕ, List, map}
use Rattle.std.specs.Borrow.{Bor}

-- the rows with their words themselves
abbrev pub rows : List (Bor (List ℕ) × ℕ) → List (List ℕ × ℕ)
rows table = map (λ row. (row.0.now, row.1)) table
