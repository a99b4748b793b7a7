-- The type of the values of each sort.
use Rattle.std.proofs.Common.{◌≡◌, ◌∙◌, ap}
use Rattle.formula_core.specs.declared.Ty.{Ty}
use Rattle.formula_core.specs.declared.Ty.TheVariants as ty
use Rattle.meanings.specs.Values.{Sort, integer_sort, boolean_sort, carrier_sort, power_sort, pair_sort, sort}
use Rattle.meanings.proofs.Denotations.{sort-Int, sort-Bool, sort-Given, sort-Pow, sort-Pair}

abbrev pub type : Sort → Ty
type integer_sort = ty.Int
type boolean_sort = ty.Bool
type (carrier_sort name) = ty.Given name
type (power_sort s) = ty.Pow (type s)
type (pair_sort s t) = ty.Pair (type s) (type t)

pub sort_type : (s : Sort) → sort (type s) ≡ s
sort_type integer_sort = sort-Int
sort_type boolean_sort = sort-Bool
sort_type (carrier_sort name) = sort-Given name
sort_type (power_sort s) = sort-Pow (type s) ∙ ap power_sort (sort_type s)
sort_type (pair_sort s t) = sort-Pair (type s) (type t) ∙ (λ i. pair_sort (sort_type s i) (sort_type t i))
