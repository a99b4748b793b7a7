-- Where names stand in a list of identifiers. Private contracts alone cite this.
use Rattle.std.specs.Prelude.{◌≡◌, ℕ, true, false, List, Option, Some, None, bytes_eq, cond, if◌then◌else◌}
use Rattle.std.specs.List.{AllByRecursion, slice_get}
use Rattle.std.specs.Map.{lookup}
use Rattle.std.specs.BTreeMap.{is_at}
use Rattle.std.specs.Ordering.{nat_cmp}
use Rattle.std.specs.Cmp.Lexicographic.{slice_cmp}
use Rattle.formula_core.specs.declared.ty.Ty.{Ty}

-- the place of an identifier that has the name, or none where no identifier has it
abbrev pub IsPlaceOf : List (List ℕ × Ty) → List ℕ → Option ℕ → Type 0
IsPlaceOf found name None = AllByRecursion (λ x. bytes_eq x.0 name ≡ false) found
IsPlaceOf found name (Some at) = (x : List ℕ × Ty) × (slice_get found at ≡ Some x) × (bytes_eq x.0 name ≡ true)

-- the map has a place for each name
abbrev pub HasPlaces : List (List ℕ × Ty) → List (List ℕ × ℕ) → Type 0
HasPlaces found places = (name : List ℕ) → IsPlaceOf found name (lookup (is_at (slice_cmp nat_cmp name)) places)

-- the map has for each name the place where it stands
abbrev pub AreAtPlaces : List (List ℕ × Ty) → List (List ℕ × ℕ) → Type 0
AreAtPlaces entries places = (at : ℕ) (x : List ℕ × Ty) → slice_get entries at ≡ Some x → lookup (is_at (slice_cmp nat_cmp x.0)) places ≡ Some at

-- the type at a place, if the name stands there
abbrev pub type_of_name : List ℕ → Option (List ℕ × Ty) → Option Ty
type_of_name name None = None
type_of_name name (Some x) = if bytes_eq name x.0 then Some x.1 else None

abbrev pub type_there : List (List ℕ × Ty) → List ℕ → Option ℕ → Option Ty
type_there entries name None = None
type_there entries name (Some at) = type_of_name name (slice_get entries at)

-- the name has the place now, and each other name the place that it had
abbrev pub IsNoted : List (List ℕ × ℕ) → List (List ℕ × ℕ) → List ℕ → ℕ → Type 0
IsNoted places now name at =
    (q : List ℕ) → lookup (is_at (slice_cmp nat_cmp q)) now ≡ cond (is_at (slice_cmp nat_cmp name) q) (Some at) (lookup (is_at (slice_cmp nat_cmp q)) places)
