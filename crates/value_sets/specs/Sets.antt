-- What is in the sets that operators make of sets, and which value such a set is.
use Rattle.std.specs.Prelude.{◌≡◌, ◌⊎◌, ◌↔◌, ◌<◌, ◌≤◌, ◌≤ℤ◌, ℕ, ℤ, pos, true, List, [], Contains, Result, Ok, Err}
use Rattle.std.specs.List.{AllByRecursion}
use Rattle.event_values.specs.declared.value.Value.{Value, out-Value}
use Rattle.event_values.specs.declared.value.Value.TheOpen.{Value-F, Int, Set}
use Rattle.event_values.specs.declared.value.Value.TheVariants as value
use Rattle.event_values.specs.Order.{value_nodes, ascends}
use Rattle.event_values.specs.Reading.{most_nodes}
use Rattle.value_sets.specs.declared.fault.ValueFault.{ValueFault}
use Rattle.value_sets.specs.declared.fault.ValueFault.TheVariants.{TooLarge, Undefined, OutOfMemory}

-- PARTS OF VALUES. A well formula over values of their types never meets the other cases.

abbrev pub set_members_at : Value-F Value → List Value
set_members_at (Set members) = members
set_members_at other = []

-- the members of a set
abbrev pub set_members : Value → List Value
set_members v = set_members_at (out-Value v)

abbrev pub integer_at : Value-F Value → ℤ
integer_at (Int n) = n
integer_at other = pos 0

abbrev pub integer_of : Value → ℤ
integer_of v = integer_at (out-Value v)

-- MEMBERS

-- x ∈ s
abbrev pub In : Value → Value → Type 0
In x s = Contains (set_members s) x

-- a ↦ b ∈ r
abbrev pub Relates : Value → Value → Value → Type 0
Relates r a b = In (value.Pair a b) r

-- a ∈ dom(r), b ∈ ran(r)
abbrev pub InDomain : Value → Value → Type 0
InDomain r a = (b : Value) × Relates r a b

abbrev pub InRange : Value → Value → Type 0
InRange r b = (a : Value) × Relates r a b

-- x ∈ s ∪ t, and so on
abbrev pub InUnion : Value → Value → Value → Type 0
InUnion s t x = In x s ⊎ In x t

abbrev pub InIntersection : Value → Value → Value → Type 0
InIntersection s t x = In x s × In x t

abbrev pub InDifference : Value → Value → Value → Type 0
InDifference s t x = In x s × (In x t → ⊥)

abbrev pub InProduct : Value → Value → Value → Type 0
InProduct s t x = (a b : Value) × (x ≡ value.Pair a b) × In a s × In b t

abbrev pub InConverse : Value → Value → Type 0
InConverse r x = (a b : Value) × (x ≡ value.Pair a b) × Relates r b a

abbrev pub InDomainRestriction : Value → Value → Value → Type 0
InDomainRestriction s r x = (a b : Value) × (x ≡ value.Pair a b) × In a s × In x r

abbrev pub InDomainSubtraction : Value → Value → Value → Type 0
InDomainSubtraction s r x = (a b : Value) × (x ≡ value.Pair a b) × (In a s → ⊥) × In x r

abbrev pub InRangeRestriction : Value → Value → Value → Type 0
InRangeRestriction r s x = (a b : Value) × (x ≡ value.Pair a b) × In b s × In x r

abbrev pub InRangeSubtraction : Value → Value → Value → Type 0
InRangeSubtraction r s x = (a b : Value) × (x ≡ value.Pair a b) × (In b s → ⊥) × In x r

abbrev pub InOverriding : Value → Value → Value → Type 0
InOverriding r s x = In x s ⊎ ((a b : Value) × (x ≡ value.Pair a b) × (InDomain s a → ⊥) × In x r)

abbrev pub InComposition : Value → Value → Value → Type 0
InComposition p q x = (a b c : Value) × (x ≡ value.Pair a c) × Relates p a b × Relates q b c

abbrev pub InImage : Value → Value → Value → Type 0
InImage r s b = (a : Value) × In a s × Relates r a b

abbrev pub InInterval : ℤ → ℤ → Value → Type 0
InInterval m n x = (k : ℤ) × (x ≡ value.Int k) × (m ≤ℤ k) × (k ≤ℤ n)

-- so many elements of a carrier set
abbrev pub InCarrier : List ℕ → ℕ → Value → Type 0
InCarrier set size x = (k : ℕ) × (x ≡ value.Elem set k) × (k < size)

-- s ⊆ t
abbrev pub Within : Value → Value → Type 0
Within s t = (x : Value) → In x s → In x t

-- WHICH VALUE A SET IS

-- a value that a form makes, which may not have too many nodes
abbrev pub IsMade : Value → Result Value ValueFault → Type 0
IsMade v (Ok made) = (made ≡ v) × (value_nodes v ≤ most_nodes)
IsMade v (Err fault) = (fault ≡ TooLarge) × (most_nodes < value_nodes v)

-- The set of the values of which this holds: its members are these, in ascending order. It is too large where some of them
-- have too many nodes together.
abbrev pub IsCollected : (Value → Type 0) → Result Value ValueFault → Type 0
IsCollected holds (Ok made) =
    (members : List Value) × (made ≡ value.Set members) × (ascends members ≡ true)
    × ((x : Value) → Contains members x ↔ holds x) × (value_nodes made ≤ most_nodes)
IsCollected holds (Err fault) =
    (fault ≡ TooLarge) × (some : List Value) × (ascends some ≡ true)
    × AllByRecursion holds some × (most_nodes < value_nodes (value.Set some))

-- FUNCTIONS AND NUMBERS

-- no two pairs have one left side
abbrev pub IsFunctional : Value → Type 0
IsFunctional r = (a b c : Value) → Relates r a b → Relates r a c → b ≡ c

-- the value of a function at an argument
abbrev pub IsApplied : Value → Value → Result Value ValueFault → Type 0
IsApplied r a (Ok b) = IsFunctional r × Relates r a b
IsApplied r a (Err fault) = (fault ≡ Undefined) × ((InDomain r a × IsFunctional r) → ⊥)

-- the number of a member, at most that of each other one
abbrev pub IsLeast : Value → ℤ → Type 0
IsLeast s n = (x : Value) × In x s × (n ≡ integer_of x) × ((y : Value) → In y s → n ≤ℤ integer_of y)

abbrev pub IsGreatest : Value → ℤ → Type 0
IsGreatest s n = (x : Value) × In x s × (n ≡ integer_of x) × ((y : Value) → In y s → integer_of y ≤ℤ n)

-- WHAT A CALL ANSWERS

-- the answer that it means, or that memory ran out
abbrev pub IsTold : {A : Type 0} → (Result A ValueFault → Type 0) → Result A ValueFault → Type 0
IsTold means answer = (answer ≡ Err OutOfMemory) ⊎ means answer
