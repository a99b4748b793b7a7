-- Lists of names.
use Rattle.std.specs.Prelude.{◌≡◌, ℕ, Bool, true, not, List, length}
use Rattle.std.specs.List.{AllAdjacentBelow, list_any}
use Rattle.std.specs.Ordering.{eq_by_cmp, is_le}
use Rattle.core_steps.specs.Durable.{text_cmp}

-- no name comes before, in byte order, one that it stands behind
abbrev pub AreAscending : List (List ℕ) → Type 0
AreAscending names = AllAdjacentBelow (λ a b. is_le (text_cmp a b) ≡ true) names (length names)

-- whether a name is none of these
abbrev pub is_none_of : List (List ℕ) → List ℕ → Bool
is_none_of names q = not (list_any (λ name. eq_by_cmp text_cmp name q) names)
