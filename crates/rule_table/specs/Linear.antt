-- Linear forms: sums of integer multiples of atoms and a constant, in i128. Where an operation leaves i128, its two
-- operands are the answer instead.
use Rattle.std.specs.Prelude.{ℤ, pos, negsuc, ◌+ℤ◌, ◌-ℤ◌, ◌*ℤ◌, ◌^◌, nat_lt, List, [], ◌∷◌, ◌++◌, map, Option, Some, None, Result, Ok, Err, Bool, true, false, not, ◌&&◌, ◌==◌, int_le, if◌then◌else◌}
use Rattle.std.specs.List.{list_all, list_any}
use Rattle.formula_core.specs.declared.Op.{Op}
use Rattle.formula_core.specs.declared.Op.TheVariants as op
use Rattle.formula_core.specs.declared.Formula.{Formula, out-Formula}
use Rattle.formula_core.specs.declared.Formula.TheOpen.{Formula-F, Int, Free, Bound, Node, Bind}
use Rattle.formula_core.specs.declared.Formula.TheVariants as formula
use Rattle.formula_core.specs.declared.Formula.TheFolds.{para-Formula}
use Rattle.formula_core.specs.Types.{is_integer}
use Rattle.formula_core.specs.Wellness.{type_of}
use Rattle.formula_core.specs.Same.{same_formula}

-- a constant, and atoms with their multiples in the order in which they were met; a multiple may be 0
pub record Linear : Type 0 where
  pub constant : ℤ
  pub atoms : List (Formula × ℤ)

-- a value, or the two operands of the first operation that leaves i128
abbrev pub OrTooWide : Type 0 → Type 0
OrTooWide X = Result X (ℤ × ℤ)

abbrev pub then_do : {X Y : Type 0} → OrTooWide X → (X → OrTooWide Y) → OrTooWide Y
then_do (Ok x) next = next x
then_do (Err operands) next = Err operands

abbrev pub fits_i128 : ℤ → Bool
fits_i128 (pos n) = nat_lt n (2 ^ 127)
fits_i128 (negsuc n) = nat_lt n (2 ^ 127)

-- the operations
pub data Act : Type 0 where
  plus : Act
  minus : Act
  times : Act

abbrev pub acted : Act → ℤ → ℤ → ℤ
acted plus m n = m +ℤ n
acted minus m n = m -ℤ n
acted times m n = m *ℤ n

abbrev pub checked : Act → ℤ → ℤ → OrTooWide ℤ
checked act m n = if fits_i128 (acted act m n) then Ok (acted act m n) else Err (m, n)

-- the multiple of an atom, which is 0 where it was not met
abbrev pub multiple_of : List (Formula × ℤ) → Formula → ℤ
multiple_of [] f = pos 0
multiple_of (a ∷ atoms) f = if same_formula a.0 f then a.1 else multiple_of atoms f

abbrev pub is_met : List (Formula × ℤ) → Formula → Bool
is_met atoms f = list_any (λ a. same_formula a.0 f) atoms

-- one more atom in front
abbrev pub with_atom : Formula → OrTooWide ℤ → OrTooWide (List (Formula × ℤ)) → OrTooWide (List (Formula × ℤ))
with_atom f n rest = then_do n (λ n. then_do rest (λ rest. Ok ((f, n) ∷ rest)))

-- each atom of the first form, with what the second has of it
abbrev pub kept : Act → List (Formula × ℤ) → List (Formula × ℤ) → OrTooWide (List (Formula × ℤ))
kept act second [] = Ok []
kept act second (a ∷ first) = with_atom a.0 (checked act a.1 (multiple_of second a.0)) (kept act second first)

-- each atom of the second form that the first doesn't have
abbrev pub further : Act → List (Formula × ℤ) → List (Formula × ℤ) → OrTooWide (List (Formula × ℤ))
further act first [] = Ok []
further act first (b ∷ second) =
    if is_met first b.0 then further act first second
    else with_atom b.0 (checked act (pos 0) b.1) (further act first second)

-- the sum or the difference of two forms: the constant first, and then the atoms in the order in which they were met
abbrev pub joined_by : Act → Linear → Linear → OrTooWide Linear
joined_by act a b =
    then_do (checked act a.constant b.constant) (λ c. then_do (kept act b.atoms a.atoms)
    (λ ks. then_do (further act a.atoms b.atoms) (λ fs.
    Ok (record { constant = c; atoms = ks ++ fs }))))

abbrev pub each_times : (ℤ → OrTooWide ℤ) → List (Formula × ℤ) → OrTooWide (List (Formula × ℤ))
each_times by [] = Ok []
each_times by (a ∷ atoms) = with_atom a.0 (by a.1) (each_times by atoms)

abbrev pub scaled : (ℤ → OrTooWide ℤ) → Linear → OrTooWide Linear
scaled by a =
    then_do (by a.constant) (λ c. then_do (each_times by a.atoms) (λ xs. Ok (record { constant = c; atoms = xs })))

-- k times a form, and a form times k
abbrev pub times_form : ℤ → Linear → OrTooWide Linear
times_form k a = scaled (checked times k) a

abbrev pub form_times : Linear → ℤ → OrTooWide Linear
form_times a k = scaled (λ n. checked times n k) a

-- whether no atom has a multiple but 0
abbrev pub is_zero : ℤ → Bool
is_zero (pos n) = n == 0
is_zero (negsuc n) = false

abbrev pub is_constant : Linear → Bool
is_constant a = list_all (λ x. is_zero x.1) a.atoms

abbrev pub constant_form : ℤ → Linear
constant_form n = record { constant = n; atoms = [] }

abbrev pub atom : Formula → Linear
atom f = record { constant = pos 0; atoms = (f, pos 1) ∷ [] }

-- a product of the forms of two sides, of which one is constant; else the whole is an atom
abbrev pub product_form : Formula → Linear → Linear → OrTooWide Linear
product_form f a b =
    if is_constant a then times_form a.constant b else (if is_constant b then form_times a b.constant else Ok (atom f))

abbrev pub unary_form : Op → Formula → OrTooWide Linear → OrTooWide Linear
unary_form op.Negate f a = then_do a (joined_by minus (constant_form (pos 0)))
unary_form _ f a = Ok (atom f)

abbrev pub binary_form : Op → Formula → OrTooWide Linear → OrTooWide Linear → OrTooWide Linear
binary_form op.Plus f a b = then_do a (λ a. then_do b (joined_by plus a))
binary_form op.Minus f a b = then_do a (λ a. then_do b (joined_by minus a))
binary_form op.Times f a b = then_do a (λ a. then_do b (product_form f a))
binary_form _ f a b = Ok (atom f)

abbrev pub node_form : Op → Formula → List (OrTooWide Linear) → OrTooWide Linear
node_form o f (a ∷ []) = unary_form o f a
node_form o f (a ∷ b ∷ []) = binary_form o f a b
node_form o f _ = Ok (atom f)

abbrev pub linear_step : Formula-F (Formula × OrTooWide Linear) → OrTooWide Linear
linear_step (Int n) = Ok (constant_form n)
linear_step (Free name t) = Ok (atom (formula.Free name t))
linear_step (Bound at t) = Ok (atom (formula.Bound at t))
linear_step (Node o parts t) = node_form o (formula.Node o (map (λ p. p.0) parts) t) (map (λ p. p.1) parts)
linear_step (Bind binder types parts t) = Ok (atom (formula.Bind binder types (map (λ p. p.0) parts) t))

-- the linear form of an integer expression
abbrev pub linear : Formula → OrTooWide Linear
linear = para-Formula (OrTooWide Linear) linear_step

-- lin(E) − lin(F), lin(E) first
abbrev pub difference : Formula → Formula → OrTooWide Linear
difference e f = then_do (linear e) (λ a. then_do (linear f) (joined_by minus a))

abbrev pub plus_one_form : OrTooWide Linear → OrTooWide Linear
plus_one_form a = then_do a (λ a. joined_by plus a (constant_form (pos 1)))

-- what kind of comparison a formula is, of integers: `≤` or `<`, or an equation
pub data LinearShape : Type 0 where
  at_most : Formula → Formula → LinearShape
  less : Formula → Formula → LinearShape
  equation : Formula → Formula → LinearShape
  falsum : LinearShape
  other : LinearShape

abbrev pub shape_of_two : Op → Formula → Formula → LinearShape
shape_of_two op.LessOrEqual e f = at_most e f
shape_of_two op.Less e f = less e f
shape_of_two op.Equal e f = if is_integer (type_of e) then equation e f else other
shape_of_two _ e f = other

abbrev pub shape_of_none : Op → LinearShape
shape_of_none op.Bottom = falsum
shape_of_none _ = other

abbrev pub shape_at : Formula-F Formula → LinearShape
shape_at (Node o [] t) = shape_of_none o
shape_at (Node o (e ∷ f ∷ []) t) = shape_of_two o e f
shape_at _ = other

abbrev pub shape : Formula → LinearShape
shape f = shape_at (out-Formula f)

-- whether a formula may be the goal of a linear step, and whether it may be a hypothesis with this multiplier
abbrev pub may_be_goal : LinearShape → Bool
may_be_goal (at_most e f) = true
may_be_goal (less e f) = true
may_be_goal falsum = true
may_be_goal _ = false

abbrev pub may_be_multiplied : LinearShape → ℤ → Bool
may_be_multiplied (at_most e f) k = int_le (pos 0) k
may_be_multiplied (less e f) k = int_le (pos 0) k
may_be_multiplied (equation e f) k = true
may_be_multiplied _ k = false

abbrev pub goal_form : LinearShape → OrTooWide Linear
goal_form (at_most e f) = plus_one_form (difference f e)
goal_form (less e f) = difference f e
goal_form _ = Ok (constant_form (pos 0))

abbrev pub hypothesis_form : LinearShape → OrTooWide Linear
hypothesis_form (at_most e f) = difference e f
hypothesis_form (less e f) = plus_one_form (difference e f)
hypothesis_form (equation e f) = difference e f
hypothesis_form _ = Ok (constant_form (pos 0))

abbrev pub is_formula_among : List Formula → Formula → Bool
is_formula_among fs f = list_any (λ g. same_formula g f) fs

-- distinct hypotheses, and for each of them a multiplier that it may have
abbrev pub are_multiplied : List Formula → List ℤ → Bool
are_multiplied [] [] = true
are_multiplied (h ∷ hyps) (k ∷ ks) =
    may_be_multiplied (shape h) k && not (is_formula_among hyps h) && are_multiplied hyps ks
are_multiplied _ _ = false

abbrev pub has_linear_form : Formula → List Formula → List ℤ → Bool
has_linear_form goal hyps ks = may_be_goal (shape goal) && are_multiplied hyps ks

-- the multiplied hypotheses added to a form, in order
abbrev pub added : OrTooWide Linear → List Formula → List ℤ → OrTooWide Linear
added total (h ∷ hyps) (k ∷ ks) =
    added (then_do total (λ t. then_do (hypothesis_form (shape h))
    (λ a. then_do (times_form k a) (joined_by plus t)))) hyps ks
added total _ _ = total

abbrev pub linear_sum : Formula → List Formula → List ℤ → OrTooWide Linear
linear_sum goal hyps ks = added (goal_form (shape goal)) hyps ks

-- a constant of at least 1, without atoms
abbrev pub is_positive_constant : OrTooWide Linear → Bool
is_positive_constant (Ok t) = is_constant t && int_le (pos 1) t.constant
is_positive_constant (Err operands) = false

abbrev pub first_overflow : OrTooWide Linear → Option (ℤ × ℤ)
first_overflow (Ok t) = None
first_overflow (Err operands) = Some operands
