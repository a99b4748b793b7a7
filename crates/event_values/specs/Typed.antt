-- Values of a type.
use Rattle.std.specs.Prelude.{ℕ, ℤ, pos, negsuc, Bool, true, false, ◌&&◌, ◌^◌, List, bytes_eq, nat_lt}
use Rattle.std.specs.List.{list_all}
use Rattle.std.specs.Option.{option_map_or}
use Rattle.std.specs.Map.{lookup}
use Rattle.formula_core.specs.declared.ty.Ty.{Ty}
use Rattle.formula_core.specs.declared.ty.Ty.TheOpen.{Ty-F, Int as Integer, Bool as Boolean, Given, Pow, Pair as Product, Truth as Predicate}
use Rattle.formula_core.specs.declared.ty.Ty.TheFolds.{fold-Ty}
use Rattle.formula_core.specs.Names.{is_identifier}
use Rattle.event_values.specs.declared.value.Value.{Value, out-Value}
use Rattle.event_values.specs.declared.value.Value.TheOpen.{Value-F, Int, Truth, Elem, Pair, Set}
use Rattle.event_values.specs.Order.{ascends}

-- a number of 128 bits
abbrev pub has_128_bits : ℤ → Bool
has_128_bits (pos n) = nat_lt n (2 ^ 127)
has_128_bits (negsuc n) = nat_lt n (2 ^ 127)

abbrev pub is_number_at : Value-F Value → Bool
is_number_at (Int n) = has_128_bits n
is_number_at other = false

abbrev pub is_truth_value_at : Value-F Value → Bool
is_truth_value_at (Truth b) = true
is_truth_value_at other = false

-- one of the elements of the carrier set, whose numbers have 32 bits
abbrev pub is_element_at : List (List ℕ × ℕ) → List ℕ → Value-F Value → Bool
is_element_at sizes set (Elem s k) = bytes_eq s set && nat_lt k (2 ^ 32) && option_map_or (λ size. nat_lt k size) (lookup (bytes_eq set) sizes) false
is_element_at sizes set other = false

abbrev pub is_set_at : (Value → Bool) → Value-F Value → Bool
is_set_at is_member (Set members) = list_all is_member members && ascends members
is_set_at is_member other = false

abbrev pub is_pair_at : (Value → Bool) → (Value → Bool) → Value-F Value → Bool
is_pair_at is_left is_right (Pair left right) = is_left left && is_right right
is_pair_at is_left is_right other = false

abbrev pub is_value_of_step : List (List ℕ × ℕ) → Ty-F (Value → Bool) → Value → Bool
is_value_of_step sizes Integer v = is_number_at (out-Value v)
is_value_of_step sizes Boolean v = is_truth_value_at (out-Value v)
is_value_of_step sizes (Given set) v = is_element_at sizes set (out-Value v)
is_value_of_step sizes (Pow is_member) v = is_set_at is_member (out-Value v)
is_value_of_step sizes (Product is_left is_right) v = is_pair_at is_left is_right (out-Value v)
is_value_of_step sizes Predicate v = is_truth_value_at (out-Value v)

-- a value of the type, where carrier sets have these sizes
abbrev pub is_value_of : List (List ℕ × ℕ) → Ty → Value → Bool
is_value_of sizes = fold-Ty (Value → Bool) (is_value_of_step sizes)

abbrev pub has_identifiers_step : Ty-F Bool → Bool
has_identifiers_step Integer = true
has_identifiers_step Boolean = true
has_identifiers_step (Given set) = is_identifier set
has_identifiers_step (Pow member) = member
has_identifiers_step (Product left right) = left && right
has_identifiers_step Predicate = true

-- the carrier sets of the type are identifiers
abbrev pub has_identifiers : Ty → Bool
has_identifiers = fold-Ty Bool has_identifiers_step
