-- The order of values, and sets as ascending lists.
use Rattle.std.specs.Prelude.{◌+◌, ℕ, Bool, true, ◌&&◌, List, [], ◌∷◌, sum}
use Rattle.std.specs.declared.cmp.Ordering.{Ordering}
use Rattle.std.specs.declared.cmp.Ordering.TheVariants.{Less, Equal, Greater}
use Rattle.std.specs.Ordering.{nat_cmp, int_cmp, bool_cmp, ordering_then, is_lt}
use Rattle.std.specs.Cmp.Lexicographic.{slice_cmp}
use Rattle.event_values.specs.declared.value.Value.{Value, out-Value}
use Rattle.event_values.specs.declared.value.Value.TheOpen.{Value-F, Int, Truth, Elem, Pair, Set}
use Rattle.event_values.specs.declared.value.Value.TheFolds.{fold-Value}

-- the members of two sets, in the order of dictionaries
abbrev pub members_cmp : List (Value → Ordering) → List Value → Ordering
members_cmp [] [] = Equal
members_cmp [] (y ∷ ys) = Less
members_cmp (x ∷ xs) [] = Greater
members_cmp (x ∷ xs) (y ∷ ys) = ordering_then (x y) (members_cmp xs ys)

-- One value, with the order of each part in its place, against another. Values of one type are of one kind; the order of
-- the kinds closes the definition.
abbrev pub value_cmp_step : Value-F (Value → Ordering) → Value-F Value → Ordering
value_cmp_step (Int m) (Int n) = int_cmp m n
value_cmp_step (Int m) other = Less
value_cmp_step (Truth a) (Int n) = Greater
value_cmp_step (Truth a) (Truth b) = bool_cmp a b
value_cmp_step (Truth a) other = Less
value_cmp_step (Elem s m) (Int n) = Greater
value_cmp_step (Elem s m) (Truth b) = Greater
value_cmp_step (Elem s m) (Elem t n) = ordering_then (slice_cmp nat_cmp s t) (nat_cmp m n)
value_cmp_step (Elem s m) other = Less
value_cmp_step (Pair left right) (Pair a b) = ordering_then (left a) (right b)
value_cmp_step (Pair left right) (Set ys) = Less
value_cmp_step (Pair left right) other = Greater
value_cmp_step (Set xs) (Set ys) = members_cmp xs ys
value_cmp_step (Set xs) other = Greater

-- numbers by size, FALSE before TRUE, pairs by left and then right, sets as the lists of their members
abbrev pub value_cmp : Value → Value → Ordering
value_cmp = fold-Value (Value → Ordering) (λ v w. value_cmp_step v (out-Value w))

abbrev pub value_nodes_step : Value-F ℕ → ℕ
value_nodes_step (Int n) = 1
value_nodes_step (Truth b) = 1
value_nodes_step (Elem set k) = 1
value_nodes_step (Pair left right) = left + right + 1
value_nodes_step (Set members) = sum members + 1

-- all parts of a value, itself among them
abbrev pub value_nodes : Value → ℕ
value_nodes = fold-Value ℕ value_nodes_step

-- each value is below the next one
abbrev pub ascends_behind : Value → List Value → Bool
ascends_behind v [] = true
ascends_behind v (w ∷ ws) = is_lt (value_cmp v w) && ascends_behind w ws

abbrev pub ascends : List Value → Bool
ascends [] = true
ascends (v ∷ vs) = ascends_behind v vs

-- by how the value compares with the first of the list, where `behind` is the rest of it with the value in its place
abbrev pub insert_by : Ordering → Value → Value → List Value → List Value → List Value
insert_by Less v w ws behind = v ∷ w ∷ ws
insert_by Equal v w ws behind = w ∷ ws
insert_by Greater v w ws behind = w ∷ behind

-- an ascending list with the value in its place, unless it is there
abbrev pub insert_value : Value → List Value → List Value
insert_value v [] = v ∷ []
insert_value v (w ∷ ws) = insert_by (value_cmp v w) v w ws (insert_value v ws)

-- the values in ascending order, each once
abbrev pub ascending : List Value → List Value
ascending [] = []
ascending (v ∷ vs) = insert_value v (ascending vs)
