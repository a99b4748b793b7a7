-- Forms of formulas: what a row of the table takes apart, and what it puts together.
use Rattle.std.specs.Prelude.{ℤ, pos, neg_ℤ, List, [], ◌∷◌, Option, Some, None, ◌==◌, if◌then◌else◌}
use Rattle.std.specs.Option.{option_map, option_and_then}
use Rattle.formula_core.specs.declared.Op.{Op}
use Rattle.formula_core.specs.declared.Op.TheVariants as op
use Rattle.formula_core.specs.declared.Binder.{Binder}
use Rattle.formula_core.specs.declared.Ty.{Ty}
use Rattle.formula_core.specs.declared.Ty.TheVariants as ty
use Rattle.formula_core.specs.declared.Formula.{Formula, out-Formula}
use Rattle.formula_core.specs.declared.Formula.TheOpen.{Formula-F, Int, Node, Bind}
use Rattle.formula_core.specs.declared.Formula.TheVariants as formula
use Rattle.formula_core.specs.Numbers.{number_of, binder_number_of}
use Rattle.formula_core.specs.Types.{relation, members}
use Rattle.formula_core.specs.Wellness.{type_of}
use Rattle.well_defined.specs.Predicates.{predicate}

-- taking apart

abbrev pub operands_at : Op → Formula-F Formula → Option (List Formula)
operands_at wanted (Node op parts t) = if number_of op == number_of wanted then Some parts else None
operands_at wanted _ = None

-- the operands of a node of this operator
abbrev pub operands : Op → Formula → Option (List Formula)
operands wanted f = operands_at wanted (out-Formula f)

abbrev pub one_of : List Formula → Option Formula
one_of (p ∷ []) = Some p
one_of _ = None

abbrev pub two_of : List Formula → Option (Formula × Formula)
two_of (p ∷ q ∷ []) = Some (p, q)
two_of _ = None

-- the operand of an operator on one, and those of an operator on two
abbrev pub operand : Op → Formula → Option Formula
operand wanted f = option_and_then one_of (operands wanted f)

abbrev pub two_operands : Op → Formula → Option (Formula × Formula)
two_operands wanted f = option_and_then two_of (operands wanted f)

-- where `f` is this operator on one operand or on two, what is made of them
abbrev pub on_one : {X : Type 0} → Op → Formula → (Formula → Option X) → Option X
on_one wanted f make = option_and_then make (operand wanted f)

abbrev pub on_two : {X : Type 0} → Op → Formula → (Formula → Formula → Option X) → Option X
on_two wanted f make = option_and_then (λ x. make x.0 x.1) (two_operands wanted f)

abbrev pub bound_at : Binder → Formula-F Formula → Option (List Ty × List Formula)
bound_at wanted (Bind binder types parts t) =
    if binder_number_of binder == binder_number_of wanted then Some (types, parts) else None
bound_at wanted _ = None

-- the types of the identifiers and the parts of a binder
abbrev pub parts_of_binder : Binder → Formula → Option (List Ty × List Formula)
parts_of_binder wanted f = bound_at wanted (out-Formula f)

-- the types and the part of a binder with one part, and the types and the parts of one with two
abbrev pub one_bound : Binder → Formula → Option (List Ty × Formula)
one_bound wanted f = option_and_then (λ b. option_map (λ p. (b.0, p)) (one_of b.1)) (parts_of_binder wanted f)

abbrev pub two_bound : Binder → Formula → Option (List Ty × Formula × Formula)
two_bound wanted f = option_and_then (λ b. option_map (λ x. (b.0, x.0, x.1)) (two_of b.1)) (parts_of_binder wanted f)

-- where `f` is such a binder, what is made of it
abbrev pub under_binder : {X : Type 0} → Binder → Formula → (List Ty → Formula → Option X) → Option X
under_binder wanted f make = option_and_then (λ b. make b.0 b.1) (one_bound wanted f)

abbrev pub under_two : {X : Type 0} → Binder → Formula → (List Ty → Formula → Formula → Option X) → Option X
under_two wanted f make = option_and_then (λ b. make b.0 b.1 b.2) (two_bound wanted f)

-- where `f` is this operator without operands
abbrev pub on_none_of : {X : Type 0} → Option X → List Formula → Option X
on_none_of made [] = made
on_none_of made _ = None

abbrev pub on_none : {X : Type 0} → Op → Formula → Option X → Option X
on_none wanted f made = option_and_then (on_none_of made) (operands wanted f)

-- where `f` has the type of a set of α, or of a relation between α and β
abbrev pub of_set : {X : Type 0} → Formula → (Ty → Option X) → Option X
of_set f make = option_and_then make (members (type_of f))

abbrev pub of_relation : {X : Type 0} → Formula → (Ty → Ty → Option X) → Option X
of_relation f make = option_and_then (λ t. make t.0 t.1) (relation (type_of f))

-- putting together

abbrev pub binary : Op → Formula → Formula → Formula
binary op p q = predicate op (p ∷ q ∷ [])

-- ¬P
abbrev pub negation : Formula → Formula
negation p = predicate op.Not (p ∷ [])

-- P ⇔ Q
abbrev pub equivalence : Formula → Formula → Formula
equivalence p q = binary op.Equivalent p q

-- E = F
abbrev pub equal : Formula → Formula → Formula
equal e f = binary op.Equal e f

-- S ⊆ T
abbrev pub subset : Formula → Formula → Formula
subset s t = binary op.Subset s t

-- ⊥, TRUE, FALSE
abbrev pub bottom : Formula
bottom = predicate op.Bottom []

abbrev pub true_value : Formula
true_value = formula.Node op.TrueValue [] ty.Bool

abbrev pub false_value : Formula
false_value = formula.Node op.FalseValue [] ty.Bool

-- E ↦ F
abbrev pub maplet : Formula → Formula → Formula
maplet e f = formula.Node op.Maplet (e ∷ f ∷ []) (ty.Pair (type_of e) (type_of f))

-- ∅ of the type of a set
abbrev pub empty : Ty → Formula
empty t = formula.Node op.EmptySet [] t

-- ran(r), whose members have the type β
abbrev pub range : Formula → Ty → Formula
range r β = formula.Node op.Range (r ∷ []) (ty.Pow β)

-- r∼, of a relation between α and β
abbrev pub converse : Formula → Ty → Ty → Formula
converse r α β = formula.Node op.Converse (r ∷ []) (ty.Pow (ty.Pair β α))

-- S × T, of sets of α and β
abbrev pub product : Formula → Formula → Ty → Ty → Formula
product s t α β = formula.Node op.Product (s ∷ t ∷ []) (ty.Pow (ty.Pair α β))

-- the set of the relations of this kind between S and T, of sets of α and β
abbrev pub relations : Op → Formula → Formula → Ty → Ty → Formula
relations op s t α β = formula.Node op (s ∷ t ∷ []) (ty.Pow (ty.Pow (ty.Pair α β)))

-- f(E), of type β
abbrev pub applied : Formula → Formula → Ty → Formula
applied f e β = formula.Node op.Apply (f ∷ e ∷ []) β

-- card(S)
abbrev pub cardinality : Formula → Formula
cardinality s = formula.Node op.Cardinality (s ∷ []) ty.Int

-- E + 1 and E − 1
abbrev pub one : Formula
one = formula.Int (pos 1)

abbrev pub plus_one : Formula → Formula
plus_one e = formula.Node op.Plus (e ∷ one ∷ []) ty.Int

abbrev pub minus_one : Formula → Formula
minus_one e = formula.Node op.Minus (e ∷ one ∷ []) ty.Int

-- literals

abbrev pub not_negative : ℤ → Option ℤ
not_negative (pos n) = Some (pos n)
not_negative z = None

-- the value of a literal; what reads as a formula has no negative one
abbrev pub literal_at : Formula-F Formula → Option ℤ
literal_at (Int n) = not_negative n
literal_at _ = None

abbrev pub literal : Formula → Option ℤ
literal f = literal_at (out-Formula f)

abbrev pub numeral_at : Formula-F Formula → Option ℤ
numeral_at (Int n) = not_negative n
numeral_at (Node op.Negate (p ∷ []) t) = option_map neg_ℤ (literal p)
numeral_at _ = None

-- the value of a literal or a negated literal
abbrev pub numeral : Formula → Option ℤ
numeral f = numeral_at (out-Formula f)

-- a number as a literal or a negated literal
abbrev pub as_numeral : ℤ → Formula
as_numeral (pos n) = formula.Int (pos n)
as_numeral z = formula.Node op.Negate (formula.Int (neg_ℤ z) ∷ []) ty.Int
