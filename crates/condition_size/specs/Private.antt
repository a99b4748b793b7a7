-- How large a condition is, without the condition. Only private contracts cite this.
use Rattle.std.specs.Prelude.{ℕ, ◌+◌, max, true, false, if◌then◌else◌}
use Rattle.std.specs.Option.{option_map_or}
use Rattle.formula_core.specs.declared.Binder.{Binder}
use Rattle.formula_core.specs.declared.Binder.TheVariants as binder
use Rattle.formula_core.specs.declared.Ty.{Ty}
use Rattle.formula_core.specs.declared.Op.{Op}
use Rattle.formula_core.specs.declared.Op.TheVariants as op
use Rattle.formula_core.specs.declared.Formula.{Formula}
use Rattle.formula_core.specs.Sizes.{formula_nodes, formula_height}
use Rattle.formula_core.specs.Types.{relation}
use Rattle.formula_core.specs.Wellness.{type_of}
use Rattle.formula_core.specs.WholeSets.{whole_set}
use Rattle.condition_size.specs.declared.size.Size.{Size}
use Rattle.condition_size.specs.Sizes.{clamped}

-- so many nodes and levels, and not ⊤
abbrev pub sized : ℕ → ℕ → Size
sized n h = record { nodes = clamped n; height = clamped h; top = false }

abbrev pub top_size : Size
top_size = record { nodes = 1; height = 1; top = true }

-- the size of a formula that isn't ⊤
abbrev pub plain_size : Formula → Size
plain_size f = sized (formula_nodes f) (formula_height f)

-- a formula without parts
abbrev pub leaf_size : Size
leaf_size = record { nodes = 1; height = 1; top = false }

-- an operator or a binder above a formula of this size, and an operator on two of these sizes
abbrev pub above_size : Size → Size
above_size p = sized (p.nodes + 1) (p.height + 1)

abbrev pub joined_size : Size → Size → Size
joined_size p q = sized (p.nodes + q.nodes + 1) (max p.height q.height + 1)

abbrev pub conjoined_size : Size → Size → Size
conjoined_size p q = if p.top then q else (if q.top then p else joined_size p q)

abbrev pub implied_size : Size → Size → Size
implied_size p q = if q.top then top_size else (if p.top then q else joined_size p q)

abbrev pub alternative_size : Size → Size → Size
alternative_size p q = if p.top then top_size else (if q.top then top_size else joined_size p q)

abbrev pub for_every_size : Size → Size
for_every_size p = if p.top then top_size else above_size p

-- what two operands ask, by the sizes of the first operand and of the conditions of both
abbrev pub second_guarded_size : Op → Size → Size → Size → Size
second_guarded_size op.And p l m = conjoined_size l (implied_size p m)
second_guarded_size op.Implies p l m = conjoined_size l (implied_size p m)
second_guarded_size op.Or p l m = conjoined_size l (alternative_size p m)
second_guarded_size _ p l m = conjoined_size l m

-- S ≠ ∅, and the one bound of its members, by the size of S
abbrev pub not_empty_size : Size → Size
not_empty_size s = above_size (joined_size s leaf_size)

abbrev pub bounded_size : Size → Size
bounded_size s = above_size (above_size (joined_size (joined_size leaf_size s) (joined_size leaf_size leaf_size)))

-- what a form itself asks of one operand, by its size
abbrev pub unary_size : Op → Size → Size
unary_size op.Cardinality s = above_size s
unary_size op.Minimum s = joined_size (not_empty_size s) (bounded_size s)
unary_size op.Maximum s = joined_size (not_empty_size s) (bounded_size s)
unary_size op.GeneralIntersection s = not_empty_size s
unary_size _ s = top_size

-- E ∈ dom(F) ∧ F ∈ A ⇸ B, by the sizes of F and E, where F has the type ℙ(α×β) and A and B are the whole sets of α and β
abbrev pub applied_size : Formula → Size → Size → Size
applied_size f function argument = option_map_or
    (λ (r : Ty × Ty). joined_size (joined_size argument (above_size function)) (joined_size function (joined_size (plain_size (whole_set r.0)) (plain_size (whole_set r.1)))))
    (relation (type_of f)) top_size

-- what a form itself asks of two operands, by their sizes; e is the first
abbrev pub binary_size : Op → Formula → Size → Size → Size
binary_size op.Divide e first second = above_size (joined_size second leaf_size)
binary_size op.Modulo e first second = joined_size (joined_size leaf_size first) (joined_size leaf_size second)
binary_size op.Power e first second = joined_size (joined_size leaf_size first) (joined_size leaf_size second)
binary_size op.Apply e first second = applied_size e first second
binary_size _ e first second = top_size

-- what a binder with two parts asks, by the sizes of the first part and of the conditions of both
abbrev pub quantified_size : Binder → Size → Size
quantified_size binder.QuantifiedIntersection p = above_size p
quantified_size _ p = top_size

abbrev pub guarded_size : Binder → Size → Size → Size → Size
guarded_size binder p l m = conjoined_size (for_every_size (conjoined_size l (implied_size p m))) (quantified_size binder p)
