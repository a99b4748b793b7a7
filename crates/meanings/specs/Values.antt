-- Sorts, and the values of each: what a type of formulas stands for.
use Rattle.std.specs.Prelude.{ℕ, ℤ, Bool, List}
use Rattle.formula_core.specs.declared.Ty.{Ty}
use Rattle.formula_core.specs.declared.Ty.TheOpen as ty
use Rattle.formula_core.specs.declared.Ty.TheOpen.{Ty-F}
use Rattle.formula_core.specs.declared.Ty.TheFolds.{fold-Ty}

pub data Sort : Type 0 where
  integer_sort : Sort
  boolean_sort : Sort
  carrier_sort : List ℕ → Sort
  power_sort : Sort → Sort
  pair_sort : Sort → Sort → Sort

abbrev pub sort_step : Ty-F Sort → Sort
sort_step ty.Int = integer_sort
sort_step ty.Bool = boolean_sort
sort_step (ty.Given name) = carrier_sort name
sort_step (ty.Pow part) = power_sort part
sort_step (ty.Pair left right) = pair_sort left right
sort_step ty.Truth = boolean_sort

-- the sort of a type; a predicate is a truth value
abbrev pub sort : Ty → Sort
sort = fold-Ty Sort sort_step

-- The values of a sort, over the elements of each carrier set, which is told by its name. A set is the test of what is in it.
abbrev pub Value : (List ℕ → Type 0) → Sort → Type 0
Value carrier integer_sort = ℤ
Value carrier boolean_sort = Bool
Value carrier (carrier_sort name) = carrier name
Value carrier (power_sort part) = Value carrier part → Bool
Value carrier (pair_sort left right) = Value carrier left × Value carrier right

-- what a formula stands for: a sort, and a value of it
abbrev pub Denotation : (List ℕ → Type 0) → Type 0
Denotation carrier = (s : Sort) × Value carrier s
