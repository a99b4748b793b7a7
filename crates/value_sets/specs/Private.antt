-- What only private contracts cite.
use Rattle.std.specs.Prelude.{◌≡◌, ◌⊎◌, ◌+◌, ◌+ℤ◌, ◌≤ℤ◌, ◌<ℤ◌, ◌<◌, ℕ, zero, suc, ℤ, pos, Bool, true, false, not, ◌&&◌, ◌||◌, List, [], ◌∷◌, ◌++◌, map, Contains, Option, Some, None, if◌then◌else◌}
use Rattle.std.specs.Option.{option_map_or}
use Rattle.std.specs.List.{filter, filter_map}
use Rattle.std.specs.Int.{int_min, int_max}
use Rattle.std.specs.Ordering.{is_eq}
use Rattle.event_values.specs.declared.value.Value.{Value, out-Value}
use Rattle.event_values.specs.declared.value.Value.TheOpen.{Value-F, Pair}
use Rattle.event_values.specs.declared.value.Value.TheVariants as value
use Rattle.event_values.specs.Order.{value_cmp, ascending}
use Rattle.value_sets.specs.declared.lists.Side.{Side}
use Rattle.value_sets.specs.declared.lists.Side.TheVariants as side
use Rattle.value_sets.specs.Sets.{integer_of}

-- PARTS OF MEMBERS

abbrev pub side_at : Side → Value → Value-F Value → Option Value
side_at side.Whole v f = Some v
side_at side.Left v (Pair a b) = Some a
side_at side.Left v f = None
side_at side.Right v (Pair a b) = Some b
side_at side.Right v f = None

-- the value itself, or the one side of a pair
abbrev pub part_of : Side → Value → Option Value
part_of s v = side_at s v (out-Value v)

abbrev pub converse_at : Value-F Value → Option Value
converse_at (Pair a b) = Some (value.Pair b a)
converse_at f = None

-- the pair the other way round
abbrev pub converse_of : Value → Option Value
converse_of v = converse_at (out-Value v)

-- TESTS OF MEMBERS

abbrev pub among : List Value → Value → Bool
among [] x = false
among (y ∷ ys) x = is_eq (value_cmp y x) || among ys x

abbrev pub agrees : Bool → Bool → Bool
agrees true b = b
agrees false b = not b

-- whether the part of a member is one of others, as it is wanted
abbrev pub is_chosen : Side → Bool → List Value → Value → Bool
is_chosen s wanted others x = option_map_or (λ p. agrees wanted (among others p)) (part_of s x) false

-- each value of the one list is one of the other
abbrev pub all_among : List Value → List Value → Bool
all_among ys [] = true
all_among ys (x ∷ xs) = among ys x && all_among ys xs

-- RELATIONS

-- the right sides of the pairs whose left side is one of these
abbrev pub images : List Value → List Value → List Value
images xs rs = filter_map (part_of side.Right) (filter (is_chosen side.Left true xs) rs)

-- what is reached from a value by the one relation and then by the other
abbrev pub reached : List Value → List Value → Value → List Value
reached ps qs a = ascending (images (images (a ∷ []) ps) qs)

-- LISTS THAT ASCEND AS THEY ARE MADE

-- from each value one pair with each of the values that belong to it
abbrev pub pairs_from : (Value → List Value) → List Value → List Value
pairs_from f [] = []
pairs_from f (a ∷ others) = map (value.Pair a) (f a) ++ pairs_from f others

-- a pair in the rows
abbrev pub InRows : (Value → List Value) → List Value → Value → Type 0
InRows f lefts x = (a b : Value) × (x ≡ value.Pair a b) × Contains lefts a × Contains (f a) b

-- there are so many numbers from m to n, fewer than are too many for a set
abbrev pub IsCount : ℤ → ℤ → ℕ → Type 0
IsCount m n k = (k < 65536) × (n <ℤ (m +ℤ pos k)) × ((k ≡ 0) ⊎ ((m +ℤ pos k) ≤ℤ (n +ℤ pos 1)))

-- so many numbers from one on
abbrev pub numbers_from : ℤ → ℕ → List Value
numbers_from n zero = []
numbers_from n (suc k) = value.Int n ∷ numbers_from (n +ℤ pos 1) k

-- so many elements from one on
abbrev pub elements_from : List ℕ → ℕ → ℕ → List Value
elements_from set n zero = []
elements_from set n (suc k) = value.Elem set n ∷ elements_from set (n + 1) k

-- FUNCTIONS

abbrev pub same_left_at : Value-F Value → Value-F Value → Bool
same_left_at (Pair a b) (Pair c d) = is_eq (value_cmp a c)
same_left_at f g = false

abbrev pub have_same_left : Value → Value → Bool
have_same_left v w = same_left_at (out-Value v) (out-Value w)

abbrev pub lefts_differ_behind : Value → List Value → Bool
lefts_differ_behind v [] = true
lefts_differ_behind v (w ∷ ws) = not (have_same_left v w) && lefts_differ_behind w ws

-- no two neighbours have one left side
abbrev pub lefts_differ : List Value → Bool
lefts_differ [] = true
lefts_differ (v ∷ vs) = lefts_differ_behind v vs

abbrev pub value_by : Value → Value-F Value → Option Value → Option Value
value_by a (Pair left right) rest = if is_eq (value_cmp left a) then Some right else rest
value_by a f rest = rest

-- the right side of the first pair with this left side
abbrev pub partner_of : List Value → Value → Option Value
partner_of [] a = None
partner_of (x ∷ xs) a = value_by a (out-Value x) (partner_of xs a)

-- ENDS

-- the least and the greatest of a number and those of these values
abbrev pub least_from : ℤ → List Value → ℤ
least_from n [] = n
least_from n (v ∷ vs) = least_from (int_min n (integer_of v)) vs

abbrev pub greatest_from : ℤ → List Value → ℤ
greatest_from n [] = n
greatest_from n (v ∷ vs) = greatest_from (int_max n (integer_of v)) vs

abbrev pub least_of : List Value → Option ℤ
least_of [] = None
least_of (v ∷ vs) = Some (least_from (integer_of v) vs)

abbrev pub greatest_of : List Value → Option ℤ
greatest_of [] = None
greatest_of (v ∷ vs) = Some (greatest_from (integer_of v) vs)
