-- Formulas as bytes.
use Rattle.std.specs.Prelude.{ℕ, ◌^◌, Bool, true, ◌&&◌, nat_lt, nat_le, IsTrue, List, ◌∷◌, ◌++◌, length, map}
use Rattle.formula_core.specs.declared.Ty.{Ty}
use Rattle.formula_core.specs.declared.Formula.{Formula}
use Rattle.formula_core.specs.declared.Formula.TheOpen.{Formula-F, Int, Free, Bound, Node, Bind}
use Rattle.formula_core.specs.declared.Formula.TheFolds.{fold-Formula}
use Rattle.formula_core.specs.Formulas.{joined}
use Rattle.formula_core.specs.Names.{is_name}
use Rattle.formula_core.specs.Numbers.{number_of, binder_number_of}
use Rattle.formula_core.specs.Sizes.{type_nodes, all_hold, IsWithinLimits}
use Rattle.formula_core.specs.Wellness.{is_well}
use Rattle.rule_table.specs.Linear.{fits_i128}
use Rattle.proof_codec.specs.Numbers.{number_bytes, integer, text_bytes}
use Rattle.proof_codec.specs.Parts.{list_bytes}
use Rattle.proof_codec.specs.Types.{type_bytes, has_carriers}

-- whether a type in a formula has bytes
abbrev pub is_type : Ty → Bool
is_type ty = has_carriers ty && nat_le (type_nodes ty) 4096

-- the number of parts, and their bytes
abbrev pub parts_bytes : List (List ℕ) → List ℕ
parts_bytes parts = number_bytes (length parts) ++ joined parts

abbrev pub formula_bytes_step : Formula-F (List ℕ) → List ℕ
formula_bytes_step (Int n) = 0 ∷ integer n
formula_bytes_step (Free name ty) = 1 ∷ text_bytes name ++ type_bytes ty
formula_bytes_step (Bound at ty) = 2 ∷ number_bytes at ++ type_bytes ty
formula_bytes_step (Node op parts ty) = 3 ∷ number_of op ∷ (parts_bytes parts ++ type_bytes ty)
formula_bytes_step (Bind binder types parts ty) = 4 ∷ binder_number_of binder ∷ (list_bytes type_bytes types ++ (parts_bytes parts ++ type_bytes ty))

-- the bytes of a formula
abbrev pub formula_bytes : Formula → List ℕ
formula_bytes = fold-Formula (List ℕ) formula_bytes_step

abbrev pub is_coded_step : Formula-F Bool → Bool
is_coded_step (Int n) = fits_i128 n
is_coded_step (Free name ty) = is_name name && is_type ty
is_coded_step (Bound at ty) = nat_lt at (2 ^ 32) && is_type ty
is_coded_step (Node op parts ty) = nat_lt (length parts) (2 ^ 32) && all_hold parts && is_type ty
is_coded_step (Bind binder types parts ty) =
    nat_lt (length types) (2 ^ 32) && all_hold (map is_type types) && nat_lt (length parts) (2 ^ 32) && all_hold parts && is_type ty

-- whether all numbers, names and types in a formula have bytes
abbrev pub is_coded : Formula → Bool
is_coded = fold-Formula Bool is_coded_step

abbrev pub is_counted_step : Formula-F Bool → Bool
is_counted_step (Int n) = true
is_counted_step (Free name ty) = true
is_counted_step (Bound at ty) = true
is_counted_step (Node op parts ty) = nat_lt (length parts) (2 ^ 32) && all_hold parts
is_counted_step (Bind binder types parts ty) = nat_lt (length types) (2 ^ 32) && nat_lt (length parts) (2 ^ 32) && all_hold parts

-- whether each list in a formula has less than 2^32 members
abbrev pub is_counted : Formula → Bool
is_counted = fold-Formula Bool is_counted_step

-- a well formula within the limits
pub record IsGoodFormula (f : Formula) : Type 0 where
  pub coded : IsTrue (is_coded f)
  pub within : IsWithinLimits f
  pub well : IsTrue (is_well f)

-- a formula that may be written: it is well, within the limits, and its lists have few members
pub record IsFitFormula (f : Formula) : Type 0 where
  pub within : IsWithinLimits f
  pub well : IsTrue (is_well f)
  pub counted : IsTrue (is_counted f)
