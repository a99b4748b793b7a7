-- Well-definedness: L of a formula is the condition under which it has a value.
use Rattle.std.specs.Prelude.{List, [], ◌∷◌, map, fold}
use Rattle.formula_core.specs.declared.op.Op.{Op}
use Rattle.formula_core.specs.declared.op.Op.TheVariants as op
use Rattle.formula_core.specs.declared.op.Binder.{Binder}
use Rattle.formula_core.specs.declared.op.Binder.TheVariants as binder
use Rattle.formula_core.specs.declared.ty.Ty.{Ty}
use Rattle.formula_core.specs.declared.formula.Formula.{Formula}
use Rattle.formula_core.specs.declared.formula.Formula.TheOpen.{Formula-F, Int, Free, Bound, Node, Bind}
use Rattle.formula_core.specs.declared.formula.Formula.TheFolds.{para-Formula}
use Rattle.well_defined.specs.Predicates.{top, conjunction, unequal, at_most, less, finite, zero, not_empty, bound_b, bound_x, bounded, applicable, quantified}
use Rattle.well_defined.specs.Connectives.{conjoined, implied, alternative, for_every}

-- The condition of a form itself: what it asks of one operand ..
abbrev pub unary_condition : Op → Formula → Formula
unary_condition op.Cardinality s = finite s
unary_condition op.Minimum s = conjunction (not_empty s) (bounded s (at_most bound_b bound_x))
unary_condition op.Maximum s = conjunction (not_empty s) (bounded s (at_most bound_x bound_b))
unary_condition op.GeneralIntersection s = not_empty s
unary_condition _ s = top

-- .. and what it asks of two
abbrev pub binary_condition : Op → Formula → Formula → Formula
binary_condition op.Divide e f = unequal f zero
binary_condition op.Modulo e f = conjunction (at_most zero e) (less zero f)
binary_condition op.Power e f = conjunction (at_most zero e) (at_most zero f)
binary_condition op.Apply f e = applicable f e
binary_condition _ e f = top

abbrev pub own_condition : Op → List Formula → Formula
own_condition op (s ∷ []) = unary_condition op s
own_condition op (e ∷ f ∷ []) = binary_condition op e f
own_condition op _ = top

-- What the operands ask. l and m are L of two operands, of which p is the first: in `P ∧ Q` and `P ⇒ Q` the second has to have a value where P holds,
-- in `P ∨ Q` where P does not, in any other form in each case.
abbrev pub second_guarded : Op → Formula → Formula → Formula → Formula
second_guarded op.And p l m = conjoined l (implied p m)
second_guarded op.Implies p l m = conjoined l (implied p m)
second_guarded op.Or p l m = conjoined l (alternative p m)
second_guarded _ p l m = conjoined l m

-- where there are not two, each has to have a value: the conjunction of L of all, from left to right
abbrev pub operands_condition : Op → List Formula → List Formula → Formula
operands_condition op (p ∷ q ∷ []) (l ∷ m ∷ []) = second_guarded op p l m
operands_condition op parts conditions = fold conjoined top conditions

-- `⋂x·P ∣ E` asks for `∃x·P`
abbrev pub quantified_condition : Binder → List Ty → Formula → Formula
quantified_condition binder.QuantifiedIntersection types p = quantified binder.Exists types p
quantified_condition _ types p = top

-- what a binder asks: `∀x·P` and `∃x·P` ask for `∀x·L(P)`, and a comprehension, ⋃ or ⋂ of `P ∣ E` for `∀x·(L(P) ∧ (P ⇒ L(E)))`
abbrev pub binder_condition : Binder → List Ty → List Formula → List Formula → Formula
binder_condition binder types (p ∷ []) (l ∷ []) = for_every types l
binder_condition binder types (p ∷ e ∷ []) (l ∷ m ∷ []) = conjoined (for_every types (conjoined l (implied p m))) (quantified_condition binder types p)
binder_condition binder types _ _ = top

-- One level. Each part stands beside its condition. What the operands ask comes first, and what the form itself asks last.
abbrev pub wd_step : Formula-F (Formula × Formula) → Formula
wd_step (Int n) = top
wd_step (Free name t) = top
wd_step (Bound at t) = top
wd_step (Node op parts t) = conjoined (operands_condition op (map (λ p. p.0) parts) (map (λ p. p.1) parts)) (own_condition op (map (λ p. p.0) parts))
wd_step (Bind binder types parts t) = binder_condition binder types (map (λ p. p.0) parts) (map (λ p. p.1) parts)

-- L of a formula
abbrev pub wd_of : Formula → Formula
wd_of = para-Formula Formula wd_step
