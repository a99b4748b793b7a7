-- Lists of entries, each of which names a chair.
use Rattle.std.specs.Prelude.{◌≡◌, ◌⊎◌, ◌==◌, ℕ, ◌<◌, ◌≤◌, List, [], ◌∷◌, ◌++◌, length, nat_lt, if◌then◌else◌}
use Rattle.std.specs.List.{filter}
use mathlib.Core.Option.{some}
use lib.ListN.{get_elem?}

module _ {E : Type 0} where
  -- the second list begins with the first
  abbrev pub IsPrefix : List E → List E → Type 0
  IsPrefix xs ys = (rest : List E) × (ys ≡ xs ++ rest)

  abbrev pub longer : List E → List E → List E
  longer xs ys = if nat_lt (length xs) (length ys) then ys else xs

  abbrev pub shorter : List E → List E → List E
  shorter xs ys = if nat_lt (length xs) (length ys) then xs else ys

  -- the chair k is among the joined ones, with these entries
  abbrev pub Joined : List (ℕ × List E) → ℕ → List E → Type 0
  Joined js k own = (i : ℕ) × (get_elem? js i ≡ some (k, own))

  -- each chair below n but chair 0 is among the joined ones
  abbrev pub AllJoined : List (ℕ × List E) → ℕ → Type 0
  AllJoined js n = (k : ℕ) → 0 < k → k < n → (own : List E) × Joined js k own

  module _ (chair_of : E → ℕ) where
    -- the entries that name the chair, in order
    abbrev pub entries_of : ℕ → List E → List E
    entries_of k = filter (λ e. chair_of e == k)

    -- at most one entry was added, which names the chair
    abbrev pub Grows : ℕ → List E → List E → Type 0
    Grows k xs ys = (ys ≡ xs) ⊎ ((e : E) × (chair_of e ≡ k) × (ys ≡ xs ++ e ∷ []))

    -- what the chair k has seen is a beginning of the log, and all entries of that chair are in it
    abbrev pub HasSeen : ℕ → List E → List E → Type 0
    HasSeen k seen log = IsPrefix seen log × (entries_of k log ≡ entries_of k seen)

    -- the entries of the joined chairs are those that they had when they were joined
    abbrev pub JoinedStay : List (ℕ × List E) → List E → Type 0
    JoinedStay js log = (k : ℕ) (own : List E) → Joined js k own → entries_of k log ≡ own

    -- chairs from n on have no entry
    abbrev pub NoneFrom : ℕ → List E → Type 0
    NoneFrom n log = (k : ℕ) → n ≤ k → entries_of k log ≡ []
