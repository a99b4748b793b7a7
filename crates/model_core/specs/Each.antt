-- Lists that are made element by element.
use Rattle.std.specs.Prelude.{◌≡◌, ◌⊎◌, ℕ, Bool, List, [], ◌∷◌, ◌++◌, bytes_eq}
use Rattle.std.specs.List.{list_any}

-- what `rows` gives at each element, beside those before it
abbrev pub at_each : {X Y : Type 0} → (List X → X → List Y) → List X → List X → List Y
at_each rows before [] = []
at_each rows before (x ∷ xs) = rows before x ++ at_each rows (before ++ x ∷ []) xs

abbrev pub is_among : List (List ℕ) → List ℕ → Bool
is_among names name = list_any (bytes_eq name) names

-- what `rows` gives at each element
abbrev pub for_each : {X Y : Type 0} → (X → List Y) → List X → List Y
for_each rows [] = []
for_each rows (x ∷ xs) = rows x ++ for_each rows xs

-- y is one of the elements
abbrev pub IsIn : {Y : Type 0} → Y → List Y → Type 0
IsIn y [] = ⊥
IsIn y (z ∷ zs) = (y ≡ z) ⊎ IsIn y zs

-- y is given at some element, beside those before it
abbrev pub IsGivenBeside : {X Y : Type 0} → (List X → X → List Y) → List X → List X → Y → Type 0
IsGivenBeside {X} rows earlier xs y =
    (before : List X) × (x : X) × (behind : List X) × (xs ≡ before ++ x ∷ behind) × IsIn y (rows (earlier ++ before) x)
