-- Numbers of formulas.
use Rattle.std.specs.Prelude.{ℕ, ◌+◌, ◌*◌, ◌%◌, ◌^◌, List, [], fold, unsigned_abs}
use Rattle.formula_core.specs.declared.formula.Formula.{Formula, out-Formula}
use Rattle.formula_core.specs.declared.formula.Formula.TheOpen.{Formula-F, Int, Free, Bound, Node, Bind}
use Rattle.formula_core.specs.Numbers.{number_of, binder_number_of}

-- one number of two
abbrev pub mixed : ℕ → ℕ → ℕ
mixed print next = (print * 11400714819323198485 % 2 ^ 64 + next) % 2 ^ 64

abbrev pub root_print_at : Formula-F Formula → ℕ
root_print_at (Int n) = unsigned_abs n % 2 ^ 61
root_print_at (Free name ty) = fold mixed 2 name
root_print_at (Bound at ty) = mixed 1 at
root_print_at (Node op parts ty) = number_of op
root_print_at (Bind binder types parts ty) = 128 + binder_number_of binder

-- the number of a root
abbrev pub root_print : Formula → ℕ
root_print f = root_print_at (out-Formula f)

abbrev pub subformulas_at : Formula-F Formula → List Formula
subformulas_at (Node op parts ty) = parts
subformulas_at (Bind binder types parts ty) = parts
subformulas_at _ = []

abbrev pub subformulas_of : Formula → List Formula
subformulas_of f = subformulas_at (out-Formula f)

-- the number of a root and of its parts
abbrev pub near_print : Formula → ℕ
near_print f = fold (λ print part. mixed print (root_print part)) (root_print f) (subformulas_of f)

-- the number of a formula: that of its root, of its parts and of theirs
abbrev pub print_of : Formula → ℕ
print_of f = fold (λ print part. mixed print (near_print part)) (root_print f) (subformulas_of f)
