-- What a formula means over finite values: its value, or the first fault in the order of evaluation.
use Rattle.std.specs.Prelude.{◌≡◌, ◌⊎◌, ◌↔◌, ◌≤ℤ◌, ◌<ℤ◌, ℕ, ℤ, pos, Bool, true, false, List, [], ◌∷◌, length, bytes_eq, Option, Some, None, Result, Ok, Err, IsTrue, MatchOption, Contains, ⊤, not}
use Rattle.std.specs.Map.{lookup}
use Rattle.formula_core.specs.declared.op.Op.{Op}
use Rattle.formula_core.specs.declared.op.Op.TheVariants as op
use Rattle.formula_core.specs.declared.ty.Ty.{Ty, out-Ty}
use Rattle.formula_core.specs.declared.ty.Ty.TheOpen as open_type
use Rattle.formula_core.specs.declared.formula.Formula.{Formula, out-Formula}
use Rattle.formula_core.specs.declared.formula.Formula.TheOpen.{Formula-F, Int, Free, Bound, Node, Bind}
use Rattle.formula_core.specs.declared.formula.Formula.TheFolds.{rec-Formula}
use Rattle.rule_table.specs.ArithmeticLaws.{computed_value}
use Rattle.rule_table.specs.Linear.{fits_i128}
use Rattle.event_values.specs.declared.value.Value.{Value, out-Value}
use Rattle.event_values.specs.declared.value.Value.TheOpen as open_value
use Rattle.event_values.specs.declared.value.Value.TheVariants as value
use Rattle.value_sets.specs.declared.fault.ValueFault.{ValueFault}
use Rattle.value_sets.specs.declared.fault.ValueFault.TheVariants.{NotComputed, NoValue, Undefined, TooWide}
use Rattle.value_sets.specs.Sets.{set_members, integer_of, In, InDomain, InRange, InConverse, InUnion, InIntersection, InDifference, InProduct, InDomainRestriction, InDomainSubtraction, InRangeRestriction, InRangeSubtraction, InOverriding, InComposition, InImage, InInterval, InCarrier, Within, IsMade, IsCollected, IsApplied, IsLeast, IsGreatest}
use Rattle.formula_values.specs.declared.forms.Unary.{Unary}
use Rattle.formula_values.specs.declared.forms.Unary.TheVariants as unary
use Rattle.formula_values.specs.declared.forms.Binary.{Binary}
use Rattle.formula_values.specs.declared.forms.Binary.TheVariants as binary
use Rattle.formula_values.specs.declared.values.Values.{Values}

-- THE FORMS THAT ARE COMPUTED, beside the connectives, names, numbers and set extensions

-- a form without operands, which is its value
abbrev pub constant_of : Op → Option Value
constant_of op.Top = Some (value.Truth true)
constant_of op.Bottom = Some (value.Truth false)
constant_of op.TrueValue = Some (value.Truth true)
constant_of op.FalseValue = Some (value.Truth false)
constant_of op.Booleans = Some (value.Set (value.Truth false ∷ value.Truth true ∷ []))
constant_of op.EmptySet = Some (value.Set [])
constant_of _ = None

abbrev pub unary_of : Op → Option Unary
unary_of op.Not = Some unary.Not
unary_of op.Finite = Some unary.Finite
unary_of op.BoolOf = Some unary.BoolOf
unary_of op.Negate = Some unary.Negate
unary_of op.Cardinality = Some unary.Cardinality
unary_of op.Minimum = Some unary.Minimum
unary_of op.Maximum = Some unary.Maximum
unary_of op.Converse = Some unary.Converse
unary_of op.Domain = Some unary.Domain
unary_of op.Range = Some unary.Range
unary_of _ = None

abbrev pub binary_of : Op → Option Binary
binary_of op.Equivalent = Some binary.Equivalent
binary_of op.Equal = Some binary.Equal
binary_of op.Member = Some binary.Member
binary_of op.ProperSubset = Some binary.ProperSubset
binary_of op.Subset = Some binary.Subset
binary_of op.Less = Some binary.Less
binary_of op.LessOrEqual = Some binary.LessOrEqual
binary_of op.Maplet = Some binary.Maplet
binary_of op.Union = Some binary.Union
binary_of op.Intersection = Some binary.Intersection
binary_of op.Difference = Some binary.Difference
binary_of op.Product = Some binary.Product
binary_of op.DomainRestriction = Some binary.DomainRestriction
binary_of op.DomainSubtraction = Some binary.DomainSubtraction
binary_of op.RangeRestriction = Some binary.RangeRestriction
binary_of op.RangeSubtraction = Some binary.RangeSubtraction
binary_of op.Overriding = Some binary.Overriding
binary_of op.Composition = Some binary.Composition
binary_of op.Interval = Some binary.Interval
binary_of op.Plus = Some binary.Plus
binary_of op.Minus = Some binary.Minus
binary_of op.Times = Some binary.Times
binary_of op.Divide = Some binary.Divide
binary_of op.Modulo = Some binary.Modulo
binary_of op.Power = Some binary.Power
binary_of op.Apply = Some binary.Apply
binary_of op.Image = Some binary.Image
binary_of _ = None

-- FORMS OVER THE VALUES OF THEIR OPERANDS. A well formula over values of their types has operands of the right kind.

abbrev pub truth_at : open_value.Value-F Value → Bool
truth_at (open_value.Truth b) = b
truth_at other = false

abbrev pub truth_of : Value → Bool
truth_of v = truth_at (out-Value v)

-- a truth value: whether this holds
abbrev pub Says : Type 0 → Result Value ValueFault → Type 0
Says what answer = (b : Bool) × (answer ≡ Ok (value.Truth b)) × (IsTrue b ↔ what)

-- a number, unless it is too wide
abbrev pub IsNumber : ℤ → ValueFault → Result Value ValueFault → Type 0
IsNumber k wide (Ok v) = (v ≡ value.Int k) × (fits_i128 k ≡ true)
IsNumber k wide (Err fault) = (fault ≡ wide) × (fits_i128 k ≡ false)

-- m op n: undefined, or a number
abbrev pub IsComputed : Op → ℤ → ℤ → Result Value ValueFault → Type 0
IsComputed o m n answer = MatchOption (computed_value o m n) (answer ≡ Err Undefined) (λ k. IsNumber k (TooWide m n) answer)

-- a number of a set, which the empty set lacks
abbrev pub IsEnd : (ℤ → Type 0) → List Value → Result Value ValueFault → Type 0
IsEnd holds [] answer = answer ≡ Err Undefined
IsEnd holds (x ∷ xs) answer = (n : ℤ) × (answer ≡ Ok (value.Int n)) × holds n

abbrev pub GivesUnary : Unary → Value → Result Value ValueFault → Type 0
GivesUnary unary.Not v answer = answer ≡ Ok (value.Truth (not (truth_of v)))
GivesUnary unary.Finite v answer = answer ≡ Ok (value.Truth true)
GivesUnary unary.BoolOf v answer = answer ≡ Ok (value.Truth (truth_of v))
GivesUnary unary.Negate v answer = IsComputed op.Minus (pos 0) (integer_of v) answer
GivesUnary unary.Cardinality v answer = answer ≡ Ok (value.Int (pos (length (set_members v))))
GivesUnary unary.Minimum v answer = IsEnd (IsLeast v) (set_members v) answer
GivesUnary unary.Maximum v answer = IsEnd (IsGreatest v) (set_members v) answer
GivesUnary unary.Converse v answer = IsCollected (InConverse v) answer
GivesUnary unary.Domain v answer = IsCollected (InDomain v) answer
GivesUnary unary.Range v answer = IsCollected (InRange v) answer

abbrev pub GivesBinary : Binary → Value → Value → Result Value ValueFault → Type 0
GivesBinary binary.Equivalent v w answer = Says (truth_of v ≡ truth_of w) answer
GivesBinary binary.Equal v w answer = Says (v ≡ w) answer
GivesBinary binary.Member v w answer = Says (In v w) answer
GivesBinary binary.ProperSubset v w answer = Says (Within v w × (Within w v → ⊥)) answer
GivesBinary binary.Subset v w answer = Says (Within v w) answer
GivesBinary binary.Less v w answer = Says (integer_of v <ℤ integer_of w) answer
GivesBinary binary.LessOrEqual v w answer = Says (integer_of v ≤ℤ integer_of w) answer
GivesBinary binary.Maplet v w answer = IsMade (value.Pair v w) answer
GivesBinary binary.Union v w answer = IsCollected (InUnion v w) answer
GivesBinary binary.Intersection v w answer = IsCollected (InIntersection v w) answer
GivesBinary binary.Difference v w answer = IsCollected (InDifference v w) answer
GivesBinary binary.Product v w answer = IsCollected (InProduct v w) answer
GivesBinary binary.DomainRestriction v w answer = IsCollected (InDomainRestriction v w) answer
GivesBinary binary.DomainSubtraction v w answer = IsCollected (InDomainSubtraction v w) answer
GivesBinary binary.RangeRestriction v w answer = IsCollected (InRangeRestriction v w) answer
GivesBinary binary.RangeSubtraction v w answer = IsCollected (InRangeSubtraction v w) answer
GivesBinary binary.Overriding v w answer = IsCollected (InOverriding v w) answer
GivesBinary binary.Composition v w answer = IsCollected (InComposition v w) answer
GivesBinary binary.Interval v w answer = IsCollected (InInterval (integer_of v) (integer_of w)) answer
GivesBinary binary.Plus v w answer = IsComputed op.Plus (integer_of v) (integer_of w) answer
GivesBinary binary.Minus v w answer = IsComputed op.Minus (integer_of v) (integer_of w) answer
GivesBinary binary.Times v w answer = IsComputed op.Times (integer_of v) (integer_of w) answer
GivesBinary binary.Divide v w answer = IsComputed op.Divide (integer_of v) (integer_of w) answer
GivesBinary binary.Modulo v w answer = IsComputed op.Modulo (integer_of v) (integer_of w) answer
GivesBinary binary.Power v w answer = IsComputed op.Power (integer_of v) (integer_of w) answer
GivesBinary binary.Apply v w answer = IsApplied v w answer
GivesBinary binary.Image v w answer = IsCollected (InImage v w) answer

-- by how many operands there are; a form that isn't computed says so
abbrev pub GivesSome : Op → List Value → Result Value ValueFault → Type 0
GivesSome o [] answer = MatchOption (constant_of o) (answer ≡ Err NotComputed) (λ v. answer ≡ Ok v)
GivesSome o (v ∷ []) answer = MatchOption (unary_of o) (answer ≡ Err NotComputed) (λ form. GivesUnary form v answer)
GivesSome o (v ∷ w ∷ []) answer = MatchOption (binary_of o) (answer ≡ Err NotComputed) (λ form. GivesBinary form v w answer)
GivesSome o (v ∷ w ∷ u ∷ vs) answer = answer ≡ Err NotComputed

-- {v, w, ..}, and the others
abbrev pub GivesMany : Op → List Value → Result Value ValueFault → Type 0
GivesMany op.SetExtension vs answer = IsCollected (Contains vs) answer
GivesMany o vs answer = GivesSome o vs answer

-- over the values of the operands, or their first fault
abbrev pub Gives : Op → Result (List Value) ValueFault → Result Value ValueFault → Type 0
Gives o (Ok vs) answer = GivesMany o vs answer
Gives o (Err fault) answer = answer ≡ Err fault

-- NAMES

abbrev pub IsKnown : List (List ℕ × Value) → List ℕ → Result Value ValueFault → Type 0
IsKnown known name answer = MatchOption (lookup (bytes_eq name) known) (answer ≡ Err (NoValue name)) (λ v. IsMade v answer)

abbrev pub HasSize : List (List ℕ × ℕ) → List ℕ → Result Value ValueFault → Type 0
HasSize sizes name answer = MatchOption (lookup (bytes_eq name) sizes) (answer ≡ Err (NoValue name)) (λ size. IsCollected (InCarrier name size) answer)

abbrev pub given_at : List ℕ → open_type.Ty-F Ty → Bool
given_at name (open_type.Given set) = bytes_eq name set
given_at name other = false

abbrev pub carrier_at : List ℕ → open_type.Ty-F Ty → Bool
carrier_at name (open_type.Pow member) = given_at name (out-Ty member)
carrier_at name other = false

-- a carrier set S is the name of type ℙ(S)
abbrev pub is_carrier : List ℕ → Ty → Bool
is_carrier name t = carrier_at name (out-Ty t)

abbrev pub IsNamed : Values → List ℕ → Bool → Result Value ValueFault → Type 0
IsNamed values name true answer = HasSize values.sizes name answer
IsNamed values name false answer = IsKnown values.known name answer

-- THE ORDER OF EVALUATION

abbrev pub after_first : Value → Result (List Value) ValueFault → Result (List Value) ValueFault
after_first v (Ok vs) = Ok (v ∷ vs)
after_first v (Err fault) = Err fault

-- what the left side decides alone
abbrev pub decided : Op → Bool → Option Bool
decided op.And false = Some false
decided op.Or true = Some true
decided op.Implies false = Some true
decided _ left = None

-- the least number of ℕ and ℕ1, and none of ℤ
abbrev pub least_at : Formula-F Formula → Option (Option ℤ)
least_at (Node op.Integers parts t) = Some None
least_at (Node op.Naturals parts t) = Some (Some (pos 0))
least_at (Node op.PositiveNaturals parts t) = Some (Some (pos 1))
least_at other = None

abbrev pub AtLeast : Option ℤ → Value → Type 0
AtLeast None v = ⊤
AtLeast (Some least) v = least ≤ℤ integer_of v

module _ {X : Type 0} (whole : X → Formula) (means : X → Result Value ValueFault → Type 0) where
  -- from left to right, up to the first fault
  abbrev pub AllMean : List X → Result (List Value) ValueFault → Type 0
  AllMean [] answer = answer ≡ Ok []
  AllMean (p ∷ ps) answer =
      ((fault : ValueFault) × means p (Err fault) × (answer ≡ Err fault))
      ⊎ ((v : Value) × means p (Ok v) × (rest : Result (List Value) ValueFault) × AllMean ps rest × (answer ≡ after_first v rest))

  abbrev pub ByOperands : Op → List X → Result Value ValueFault → Type 0
  ByOperands o parts answer = (vs : Result (List Value) ValueFault) × AllMean parts vs × Gives o vs answer

  -- the left side alone, where it decides or has a fault, and else the right side
  abbrev pub IsConnected : Op → X → X → Result Value ValueFault → Type 0
  IsConnected o p q answer =
      ((fault : ValueFault) × means p (Err fault) × (answer ≡ Err fault))
      ⊎ ((v : Value) × means p (Ok v) × MatchOption (decided o (truth_of v)) (means q answer) (λ b. answer ≡ Ok (value.Truth b)))

  -- ∈ ℤ, ℕ, ℕ1, and ∈ another set
  abbrev pub IsMember : Option (Option ℤ) → X → X → Result Value ValueFault → Type 0
  IsMember None p q answer = ByOperands op.Member (p ∷ q ∷ []) answer
  IsMember (Some least) p q answer =
      ((fault : ValueFault) × means p (Err fault) × (answer ≡ Err fault))
      ⊎ ((v : Value) × means p (Ok v) × Says (AtLeast least v) answer)

  abbrev pub TwoMean : Op → X → X → Result Value ValueFault → Type 0
  TwoMean op.And p q answer = IsConnected op.And p q answer
  TwoMean op.Or p q answer = IsConnected op.Or p q answer
  TwoMean op.Implies p q answer = IsConnected op.Implies p q answer
  TwoMean op.Member p q answer = IsMember (least_at (out-Formula (whole q))) p q answer
  TwoMean o p q answer = ByOperands o (p ∷ q ∷ []) answer

  abbrev pub NodeMeans : Op → List X → Result Value ValueFault → Type 0
  NodeMeans o (p ∷ q ∷ []) answer = TwoMean o p q answer
  NodeMeans o parts answer = ByOperands o parts answer

  -- the parts of a binder have their faults first, and it is not computed
  abbrev pub IsNotComputed : Result (List Value) ValueFault → Result Value ValueFault → Type 0
  IsNotComputed (Err fault) answer = answer ≡ Err fault
  IsNotComputed (Ok vs) answer = answer ≡ Err NotComputed

abbrev pub MeansStep : Values → (X : Type 0) → (X → Formula) → (X → Result Value ValueFault → Type 0) → Formula-F X → Result Value ValueFault → Type 0
MeansStep values X whole means (Int n) answer = answer ≡ Ok (value.Int n)
MeansStep values X whole means (Free name t) answer = IsNamed values name (is_carrier name t) answer
MeansStep values X whole means (Bound at t) answer = answer ≡ Err NotComputed
MeansStep values X whole means (Node o parts t) answer = NodeMeans whole means o parts answer
MeansStep values X whole means (Bind binder types parts t) answer =
    (vs : Result (List Value) ValueFault) × AllMean whole means parts vs × IsNotComputed whole means vs answer

-- the value of the formula over these values, or its first fault
abbrev pub Means : Values → Formula → Result Value ValueFault → Type 0
Means values = rec-Formula (Result Value ValueFault → Type 0) (MeansStep values)
