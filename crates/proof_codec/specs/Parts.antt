-- Pairs, values that may be absent, and lists, of values that have bytes.
use Rattle.std.specs.Prelude.{ℕ, ◌<◌, ◌^◌, List, [], ◌∷◌, ◌++◌, length, Option, Some, None}
use Rattle.std.specs.List.{flat_map, AllByRecursion}
use Rattle.proof_codec.specs.Numbers.{number_bytes}

-- any value
abbrev pub IsAny : {A : Type 0} → A → Type 0
IsAny x = Unit {0}

-- one behind the other
abbrev pub pair_bytes : {A B : Type 0} → (A → List ℕ) → (B → List ℕ) → A × B → List ℕ
pair_bytes f g pair = f pair.0 ++ g pair.1

abbrev pub IsPair : {A B : Type 0} → (A → Type 0) → (B → Type 0) → A × B → Type 0
IsPair P Q pair = P pair.0 × Q pair.1

-- 0, or 1 and the value
abbrev pub option_bytes : {A : Type 0} → (A → List ℕ) → Option A → List ℕ
option_bytes f None = 0 ∷ []
option_bytes f (Some x) = 1 ∷ f x

abbrev pub IsOption : {A : Type 0} → (A → Type 0) → Option A → Type 0
IsOption P None = Unit {0}
IsOption P (Some x) = P x

-- the number of members, and the members
abbrev pub list_bytes : {A : Type 0} → (A → List ℕ) → List A → List ℕ
list_bytes f xs = number_bytes (length xs) ++ flat_map f xs

abbrev pub IsList : {A : Type 0} → (A → Type 0) → List A → Type 0
IsList P xs = (length xs < 2 ^ 32) × AllByRecursion P xs
