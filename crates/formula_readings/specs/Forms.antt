-- The forms that a reading sees into: connectives, comparisons of integers, and arithmetic.
use Rattle.std.specs.Prelude.{Bool, true, false, ◌||◌, [], ◌∷◌}
use Rattle.formula_core.specs.declared.Op.{Op}
use Rattle.formula_core.specs.declared.Op.TheVariants as op
use Rattle.formula_core.specs.declared.Formula.{Formula}
use Rattle.formula_core.specs.declared.Formula.TheOpen.{Formula-F, Node}
use Rattle.formula_core.specs.Types.{is_integer}
use Rattle.formula_core.specs.Wellness.{type_of}

-- the connectives on one predicate and on two
abbrev pub negates : Op → Bool
negates op.Not = true
negates _ = false

abbrev pub joins_two : Op → Bool
joins_two op.And = true
joins_two op.Or = true
joins_two op.Implies = true
joins_two op.Equivalent = true
joins_two _ = false

-- the operators of arithmetic on one expression and on two
abbrev pub turns_sign : Op → Bool
turns_sign op.Negate = true
turns_sign _ = false

abbrev pub adds_up : Op → Bool
adds_up op.Plus = true
adds_up op.Minus = true
adds_up op.Times = true
adds_up _ = false

-- an equation is one of integers; in a well formula both sides have the same type
abbrev pub are_integers : Formula → Formula → Bool
are_integers e f = is_integer (type_of e) || is_integer (type_of f)

-- what compares two integers; of an equation that they are integers must be said
abbrev pub compares : Op → Bool → Bool
compares op.Equal integers = integers
compares op.Less integers = true
compares op.LessOrEqual integers = true
compares _ integers = false

-- A form counts with its number of operands: an ∧ of three parts is an atom.
abbrev pub is_connected_at : Formula-F Formula → Bool
is_connected_at (Node o (p ∷ []) t) = negates o
is_connected_at (Node o (p ∷ q ∷ []) t) = joins_two o
is_connected_at _ = false

abbrev pub is_comparison_at : Formula-F Formula → Bool
is_comparison_at (Node o (e ∷ f ∷ []) t) = compares o (are_integers e f)
is_comparison_at _ = false

abbrev pub is_arithmetic_at : Formula-F Formula → Bool
is_arithmetic_at (Node o (e ∷ []) t) = turns_sign o
is_arithmetic_at (Node o (e ∷ f ∷ []) t) = adds_up o
is_arithmetic_at _ = false
