-- How tightly printed forms hold together, and which operands are in parentheses.
use Rattle.std.specs.Prelude.{ℕ, Bool, true, false, ◌==◌, ◌&&◌, ◌||◌, not, nat_lt}
use Rattle.formula_core.specs.declared.op.Op.{Op}
use Rattle.formula_core.specs.declared.op.Op.TheVariants as op
use Rattle.formula_core.specs.declared.op.Binder.{Binder}
use Rattle.formula_core.specs.declared.op.Binder.TheVariants as binder
use Rattle.formula_core.specs.declared.formula.Formula.{Formula, out-Formula}
use Rattle.formula_core.specs.declared.formula.Formula.TheOpen.{Formula-F, Int, Free, Bound, Node, Bind}
use Rattle.math_grammar.specs.declared.levels.Level.{Level as Sort}
use Rattle.math_grammar.specs.declared.levels.Level.TheVariants as sort
use Rattle.math_grammar.specs.declared.levels.Bracket.TheVariants as bracket
use Rattle.math_grammar.specs.declared.operators.Form.{Form}
use Rattle.math_grammar.specs.declared.operators.Form.TheVariants as form
use Rattle.math_grammar.specs.Operators.{op_form}
use Rattle.formula_print.specs.declared.levels.Level.{Level}
use Rattle.formula_print.specs.declared.levels.Level.TheVariants as lev
use Rattle.formula_print.specs.declared.levels.Side.{Side}
use Rattle.formula_print.specs.declared.levels.Side.TheVariants as side

-- loosest first
abbrev pub rank_of : Level → ℕ
rank_of lev.Quantified = 0
rank_of lev.Implication = 1
rank_of lev.Junction = 2
rank_of lev.Relation = 3
rank_of lev.Reaching = 4
rank_of lev.Maplet = 5
rank_of lev.Arrow = 6
rank_of lev.SetOperator = 7
rank_of lev.Interval = 8
rank_of lev.Additive = 9
rank_of lev.Multiplicative = 10
rank_of lev.Power = 11
rank_of lev.Postfix = 12
rank_of lev.Closed = 13

-- the level of an operator between two operands (⦂ stands in no formula)
abbrev pub infix_level : Sort → Level
infix_level sort.Implication = lev.Implication
infix_level sort.Conjunction = lev.Junction
infix_level sort.Disjunction = lev.Junction
infix_level sort.Relation = lev.Relation
infix_level sort.Typing = lev.Relation
infix_level sort.Maplet = lev.Maplet
infix_level sort.Arrow = lev.Arrow
infix_level sort.SetOperator = lev.SetOperator
infix_level sort.Interval = lev.Interval
infix_level sort.Additive = lev.Additive
infix_level sort.Multiplicative = lev.Multiplicative
infix_level sort.Power = lev.Power

-- the level of an operator, by how it stands to its operands
abbrev pub form_level : Form → Level
form_level (form.Infix l) = infix_level l
form_level form.Not = lev.Relation
form_level form.Negation = lev.Additive
form_level form.Minus = lev.Additive
form_level form.Converse = lev.Postfix
form_level (form.Open bracket.Round) = lev.Postfix
form_level (form.Open bracket.Square) = lev.Postfix
form_level _ = lev.Closed

abbrev pub level_of : Op → Level
level_of o = form_level (op_form o)

abbrev pub binder_level_of : Binder → Level
binder_level_of binder.ForAll = lev.Quantified
binder_level_of binder.Exists = lev.Quantified
binder_level_of binder.Comprehension = lev.Closed
binder_level_of binder.QuantifiedUnion = lev.Reaching
binder_level_of binder.QuantifiedIntersection = lev.Reaching

abbrev pub formula_level_at : Formula-F Formula → Level
formula_level_at (Int n) = lev.Closed
formula_level_at (Free name t) = lev.Closed
formula_level_at (Bound at t) = lev.Closed
formula_level_at (Node o parts t) = level_of o
formula_level_at (Bind b types parts t) = binder_level_of b

-- the level of a formula
abbrev pub formula_level : Formula → Level
formula_level f = formula_level_at (out-Formula f)

-- At these levels an operator goes on with the operator on its left.
abbrev pub is_chained : Level → Bool
is_chained lev.Maplet = true
is_chained lev.SetOperator = true
is_chained lev.Additive = true
is_chained lev.Multiplicative = true
is_chained _ = false

-- ∧ goes on with ∧, and ∨ with ∨
abbrev pub is_same_connective : Op → Op → Bool
is_same_connective op.And op.And = true
is_same_connective op.Or op.Or = true
is_same_connective _ _ = false

abbrev pub is_negative : Op → Bool
is_negative op.Negate = true
is_negative _ = false

-- The first operator goes on with the second, of its own level, on its left. Unary − is no such one.
abbrev pub goes_on_with : Op → Op → Bool
goes_on_with o left = is_same_connective o left || (is_chained (level_of o) && not (is_negative left))

abbrev pub goes_on_at : Op → Formula-F Formula → Bool
goes_on_at o (Node left parts t) = goes_on_with o left
goes_on_at o _ = false

-- the operator goes on with a formula of its own level on this side
abbrev pub goes_on_left : Op → Side → Formula → Bool
goes_on_left o side.Left f = goes_on_at o (out-Formula f)
goes_on_left o side.Right f = false

abbrev pub is_relation : Level → Bool
is_relation lev.Relation = true
is_relation _ = false

-- the operand of this rank is in parentheses, where the operator goes on with it or not
abbrev pub is_enclosed : Level → Level → Bool → Bool
is_enclosed own operand goes_on =
    nat_lt (rank_of operand) (rank_of own) || ((rank_of operand == rank_of own) && not goes_on)

-- Whether an operand is in parentheses: unless it is tighter than its operator, or the operator goes on with it. Those of relations have none.
abbrev pub needs_parentheses : Op → Side → Formula → Bool
needs_parentheses o s f =
    not (is_relation (level_of o)) && is_enclosed (level_of o) (formula_level f) (goes_on_left o s f)
