-- Truth in readings. A reading gives a value to each atom; what is built of atoms by connectives, comparisons of
-- integers and arithmetic has the value that these give.
use Rattle.std.specs.Prelude.{ℤ, pos, ◌+ℤ◌, ◌-ℤ◌, ◌*ℤ◌, neg_ℤ, int_le, int_lt, Bool, true, false, not, ◌&&◌, ◌||◌, List, [], ◌∷◌, map, IsTrue, if◌then◌else◌, unwrap_or}
use Rattle.std.specs.Ordering.{int_eq}
use Rattle.std.specs.Map.{lookup}
use Rattle.formula_core.specs.declared.Op.{Op}
use Rattle.formula_core.specs.declared.Op.TheVariants as op
use Rattle.formula_core.specs.declared.Formula.{Formula, out-Formula}
use Rattle.formula_core.specs.declared.Formula.TheOpen.{Formula-F, Int, Free, Bound, Node, Bind}
use Rattle.formula_core.specs.declared.Formula.TheVariants as formula
use Rattle.formula_core.specs.declared.Formula.TheFolds.{para-Formula}
use Rattle.formula_core.specs.Same.{same_formula}
use Rattle.formula_readings.specs.declared.reading.Reading.{Reading}
use Rattle.formula_readings.specs.Forms.{are_integers}

-- A connective on truth values; `atom` is the truth value of what no connective heads.
abbrev pub nullary_truth : Op → Bool → Bool
nullary_truth op.Top atom = true
nullary_truth op.Bottom atom = false
nullary_truth _ atom = atom

abbrev pub unary_truth : Op → Bool → Bool → Bool
unary_truth op.Not atom p = not p
unary_truth _ atom p = atom

abbrev pub binary_truth : Op → Bool → Bool → Bool → Bool
binary_truth op.And atom p q = p && q
binary_truth op.Or atom p q = p || q
binary_truth op.Implies atom p q = not p || q
binary_truth op.Equivalent atom p q = if p then q else not q
binary_truth _ atom p q = atom

abbrev pub on_truths : Op → Bool → List Bool → Bool
on_truths o atom [] = nullary_truth o atom
on_truths o atom (p ∷ []) = unary_truth o atom p
on_truths o atom (p ∷ q ∷ []) = binary_truth o atom p q
on_truths o atom _ = atom

abbrev pub truth_step : (Formula → Bool) → Formula-F (Formula × Bool) → Bool
truth_step atom (Int n) = atom (formula.Int n)
truth_step atom (Free name t) = atom (formula.Free name t)
truth_step atom (Bound at t) = atom (formula.Bound at t)
truth_step atom (Node o parts t) = on_truths o (atom (formula.Node o (map (λ p. p.0) parts) t)) (map (λ p. p.1) parts)
truth_step atom (Bind binder types parts t) = atom (formula.Bind binder types (map (λ p. p.0) parts) t)

-- the truth of a predicate in a propositional reading, which gives a truth value to each predicate that isn't ⊤, ⊥ or
-- headed by a connective
abbrev pub truth_by : (Formula → Bool) → Formula → Bool
truth_by atom = para-Formula Bool (truth_step atom)

-- An operator of arithmetic on numbers; `atom` is the number of every other expression.
abbrev pub unary_number : Op → ℤ → ℤ → ℤ
unary_number op.Negate atom m = neg_ℤ m
unary_number _ atom m = atom

abbrev pub binary_number : Op → ℤ → ℤ → ℤ → ℤ
binary_number op.Plus atom m n = m +ℤ n
binary_number op.Minus atom m n = m -ℤ n
binary_number op.Times atom m n = m *ℤ n
binary_number _ atom m n = atom

abbrev pub on_numbers : Op → ℤ → List ℤ → ℤ
on_numbers o atom (m ∷ []) = unary_number o atom m
on_numbers o atom (m ∷ n ∷ []) = binary_number o atom m n
on_numbers o atom _ = atom

abbrev pub number_step : (Formula → ℤ) → Formula-F (Formula × ℤ) → ℤ
number_step atom (Int n) = n
number_step atom (Free name t) = atom (formula.Free name t)
number_step atom (Bound at t) = atom (formula.Bound at t)
number_step atom (Node o parts t) = on_numbers o (atom (formula.Node o (map (λ p. p.0) parts) t)) (map (λ p. p.1) parts)
number_step atom (Bind binder types parts t) = atom (formula.Bind binder types (map (λ p. p.0) parts) t)

-- the number of an integer expression, where each atom has one
abbrev pub number_by : (Formula → ℤ) → Formula → ℤ
number_by atom = para-Formula ℤ (number_step atom)

-- a comparison on numbers; `atom` is the truth value of what is none
abbrev pub compared : Op → Bool → Bool → ℤ → ℤ → Bool
compared op.Equal integers atom m n = if integers then int_eq m n else atom
compared op.Less integers atom m n = int_lt m n
compared op.LessOrEqual integers atom m n = int_le m n
compared _ integers atom m n = atom

-- the values of the atoms: truth values and numbers
pub record AtomValues : Type 0 where
  pub truth : Formula → Bool
  pub number : Formula → ℤ

abbrev pub comparison_at : AtomValues → Bool → Formula-F Formula → Bool
comparison_at v atom (Node o (e ∷ f ∷ []) t) =
    compared o (are_integers e f) atom (number_by v.number e) (number_by v.number f)
comparison_at v atom _ = atom

-- the truth of a predicate that no connective heads: a comparison of integers has the one that its numbers give, any
-- other is an atom
abbrev pub comparison : AtomValues → Formula → Bool
comparison v f = comparison_at v (v.truth f) (out-Formula f)

-- the truth of a predicate
abbrev pub truth_in : AtomValues → Formula → Bool
truth_in v = truth_by (comparison v)

-- the values that a reading gives: of the pairs with an atom the first one counts, and an atom without pair is false
-- or 0
abbrev pub values_of : Reading → AtomValues
values_of r = record {
  truth = λ f. unwrap_or (lookup (same_formula f) r.truths) false;
  number = λ f. unwrap_or (lookup (same_formula f) r.numbers) (pos 0);
}

-- the predicate is true in the reading
abbrev pub IsTrueIn : Reading → Formula → Type 0
IsTrueIn r f = IsTrue (truth_in (values_of r) f)
