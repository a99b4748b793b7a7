-- Types as bytes.
use Rattle.std.specs.Prelude.{ℕ, ◌≤◌, Bool, true, ◌&&◌, IsTrue, List, [], ◌∷◌, ◌++◌}
use Rattle.formula_core.specs.declared.Ty.{Ty}
use Rattle.formula_core.specs.declared.Ty.TheOpen.{Ty-F, Int, Bool as Boolean, Given, Pow, Pair, Truth}
use Rattle.formula_core.specs.declared.Ty.TheFolds.{fold-Ty}
use Rattle.formula_core.specs.Names.{is_name}
use Rattle.formula_core.specs.Sizes.{type_nodes}
use Rattle.proof_codec.specs.Numbers.{text_bytes}

abbrev pub type_bytes_step : Ty-F (List ℕ) → List ℕ
type_bytes_step Int = 0 ∷ []
type_bytes_step Boolean = 1 ∷ []
type_bytes_step (Given name) = 2 ∷ text_bytes name
type_bytes_step (Pow part) = 3 ∷ part
type_bytes_step (Pair left right) = 4 ∷ left ++ right
type_bytes_step Truth = 5 ∷ []

-- the bytes of a type
abbrev pub type_bytes : Ty → List ℕ
type_bytes = fold-Ty (List ℕ) type_bytes_step

abbrev pub has_carriers_step : Ty-F Bool → Bool
has_carriers_step Int = true
has_carriers_step Boolean = true
has_carriers_step (Given name) = is_name name
has_carriers_step (Pow part) = part
has_carriers_step (Pair left right) = left && right
has_carriers_step Truth = true

-- whether each carrier set in a type has a name
abbrev pub has_carriers : Ty → Bool
has_carriers = fold-Ty Bool has_carriers_step

-- a type of at most so many nodes
pub record IsTypeWithin (room : ℕ) (ty : Ty) : Type 0 where
  pub named : IsTrue (has_carriers ty)
  pub small : type_nodes ty ≤ room

-- a type in a formula
abbrev pub IsGoodType : Ty → Type 0
IsGoodType ty = IsTypeWithin 4096 ty

-- a type that may be written
abbrev pub IsFitType : Ty → Type 0
IsFitType ty = type_nodes ty ≤ 4096
