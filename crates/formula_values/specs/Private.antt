-- What only private contracts cite.
use Rattle.std.specs.Prelude.{ℤ, ◌≤ℤ◌, ⊤, Bool, true, false, List, [], ◌∷◌, Option, Some, None, Result, Ok, Err}
use Rattle.formula_core.specs.declared.op.Op.{Op}
use Rattle.formula_core.specs.declared.op.Op.TheVariants as op
use Rattle.formula_core.specs.declared.formula.Formula.{Formula, out-Formula}
use Rattle.event_values.specs.declared.value.Value.{Value}
use Rattle.value_sets.specs.declared.fault.ValueFault.{ValueFault}
use Rattle.formula_values.specs.declared.operand.Operand.{Operand}
use Rattle.formula_values.specs.declared.operand.Operand.TheVariants as operand
use Rattle.formula_values.specs.Means.{AllMean, IsNotComputed, after_first, least_at}

-- the value of an operand, and of an answer that has one
abbrev pub held : Operand → Value
held (operand.Known v) = v.now
held (operand.Made v) = v

abbrev pub answered : Result Operand ValueFault → Result Value ValueFault
answered (Ok v) = Ok (held v)
answered (Err fault) = Err fault

-- what a call answers that adds values to a list
abbrev pub listed : {A : Type 0} → Result A ValueFault → List Value → Result (List Value) ValueFault
listed (Ok done) values = Ok values
listed (Err fault) values = Err fault

abbrev pub after_all : List Value → Result (List Value) ValueFault → Result (List Value) ValueFault
after_all [] rest = rest
after_all (v ∷ vs) rest = after_first v (after_all vs rest)

-- the answer for these parts is what the values of the first of them make of the answer for the others
unfoldable pub Leads : (Formula → Result Value ValueFault → Type 0) → List Formula → List Value → List Formula → Type 0
Leads means parts done others =
    (answer : Result (List Value) ValueFault) → AllMean (λ f. f) means others answer → AllMean (λ f. f) means parts (after_all done answer)

-- ∧, ∨ and ⇒
abbrev pub is_connective : Op → Bool
is_connective op.And = true
is_connective op.Or = true
is_connective op.Implies = true
is_connective _ = false

abbrev pub is_member : Op → Bool
is_member op.Member = true
is_member _ = false

-- {v, w, ..}
abbrev pub is_extension : Op → Bool
is_extension op.SetExtension = true
is_extension _ = false

-- the least number of the set at the right of two parts, where that is ℤ, ℕ or ℕ1
abbrev pub second_least : List Formula → Option (Option ℤ)
second_least (p ∷ q ∷ []) = least_at (out-Formula q)
second_least _ = None

-- what a binder on parts means
abbrev pub BindMeans : (Formula → Result Value ValueFault → Type 0) → List Formula → Result Value ValueFault → Type 0
BindMeans means parts answer = (vs : Result (List Value) ValueFault) × AllMean (λ f. f) means parts vs × IsNotComputed (λ f. f) means vs answer

-- the number is at least this, if anything
abbrev pub IsFrom : Option ℤ → ℤ → Type 0
IsFrom None n = ⊤
IsFrom (Some least) n = least ≤ℤ n
