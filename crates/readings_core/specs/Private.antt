-- What only private contracts cite.
use Rattle.std.specs.Prelude.{ℕ, ℤ, pos, ◌-ℤ◌, ◌++◌, Bool, true, false, not, List, [], ◌∷◌, Option, Some, None, Result, Ok, Err, if◌then◌else◌}
use Rattle.formula_core.specs.declared.Op.{Op}
use Rattle.formula_core.specs.declared.Formula.{Formula}
use Rattle.formula_readings.specs.Forms.{negates, joins_two, turns_sign, adds_up, are_integers, compares}
use Rattle.formula_readings.specs.Readings.{AtomValues, number_by, binary_number, truth_in, nullary_truth, binary_truth, compared}
use Rattle.readings_core.specs.declared.values.ValueFault.{ValueFault}
use Rattle.readings_core.specs.Values.{unless_wide}
use Rattle.readings_core.specs.Widths.{unless_fitting, wide_of_two, wide_in_number, wide_in_truth}

-- the number of an expression and the truth of a predicate, as far as i128 goes
abbrev pub checked_number : (Formula → ℤ) → Formula → Result ℤ ValueFault
checked_number number f = unless_wide (wide_in_number number f) (number_by number f)

abbrev pub checked_truth : AtomValues → Formula → Result Bool ValueFault
checked_truth v f = unless_wide (wide_in_truth v.number f) (truth_in v f)

-- operations on numbers, and on what was computed
abbrev pub calculated : Op → ℤ → ℤ → Result ℤ ValueFault
calculated o m n = unless_wide (wide_of_two o m n) (binary_number o (pos 0) m n)

abbrev pub operated : Op → Result ℤ ValueFault → Result ℤ ValueFault → Result ℤ ValueFault
operated o (Ok m) (Ok n) = calculated o m n
operated o (Ok m) (Err fault) = Err fault
operated o (Err fault) n = Err fault

abbrev pub opposite : Result ℤ ValueFault → Result ℤ ValueFault
opposite (Ok m) = unless_wide (unless_fitting (pos 0 -ℤ m) (pos 0) m) (pos 0 -ℤ m)
opposite (Err fault) = Err fault

-- the number of f, which is this operator on these parts
abbrev pub node_number : (Formula → ℤ) → Op → Formula → List Formula → Result ℤ ValueFault
node_number number o f (e ∷ []) = if turns_sign o then opposite (checked_number number e) else Ok (number f)
node_number number o f (e ∷ g ∷ []) =
    if adds_up o then operated o (checked_number number e) (checked_number number g) else Ok (number f)
node_number number o f _ = Ok (number f)

-- the same of truth values
abbrev pub truth_negated : Result Bool ValueFault → Result Bool ValueFault
truth_negated (Ok p) = Ok (not p)
truth_negated (Err fault) = Err fault

abbrev pub truths_joined : Op → Result Bool ValueFault → Result Bool ValueFault → Result Bool ValueFault
truths_joined o (Ok p) (Ok q) = Ok (binary_truth o false p q)
truths_joined o (Ok p) (Err fault) = Err fault
truths_joined o (Err fault) q = Err fault

abbrev pub numbers_compared : Op → Result ℤ ValueFault → Result ℤ ValueFault → Result Bool ValueFault
numbers_compared o (Ok m) (Ok n) = Ok (compared o true false m n)
numbers_compared o (Ok m) (Err fault) = Err fault
numbers_compared o (Err fault) n = Err fault

abbrev pub checked_comparison : AtomValues → Op → Formula → Formula → Formula → Result Bool ValueFault
checked_comparison v o f e g =
    if compares o (are_integers e g) then numbers_compared o (checked_number v.number e) (checked_number v.number g) else Ok (v.truth f)

abbrev pub node_truth : AtomValues → Op → Formula → List Formula → Result Bool ValueFault
node_truth v o f [] = Ok (nullary_truth o (v.truth f))
node_truth v o f (p ∷ []) = if negates o then truth_negated (checked_truth v p) else Ok (v.truth f)
node_truth v o f (p ∷ q ∷ []) =
    if joins_two o then truths_joined o (checked_truth v p) (checked_truth v q) else checked_comparison v o f p q
node_truth v o f _ = Ok (v.truth f)

-- whether a rule was found below, and the path to it behind the path so far
abbrev pub with_rest : List ℕ → Option (List ℕ) → Bool × List ℕ
with_rest path (Some rest) = (true, path ++ rest)
with_rest path None = (false, path)
