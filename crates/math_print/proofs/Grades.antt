-- The grade of a printed form.
use Rattle.formula_core.specs.declared.op.Op.{Op}
use Rattle.formula_core.specs.declared.op.Binder.{Binder}
use Rattle.formula_core.specs.declared.op.Binder.TheVariants as binder
use Rattle.formula_core.specs.declared.formula.Formula.{Formula, out-Formula}
use Rattle.formula_core.specs.declared.formula.Formula.TheOpen.{Formula-F, Int, Free, Bound, Node, Bind}
use Rattle.math_grammar.specs.declared.holes.Grade.{Grade}
use Rattle.math_grammar.specs.declared.holes.Grade.TheVariants as grade
use Rattle.math_grammar.specs.declared.levels.Bracket.TheVariants as bracket
use Rattle.math_grammar.specs.declared.operators.Form.{Form}
use Rattle.math_grammar.specs.declared.operators.Form.TheVariants as form
use Rattle.math_grammar.specs.Levels.{level, call_grade}
use Rattle.math_grammar.specs.Operators.{op_form}

-- the grade of a form with an operator, by how that stands to its operands
abbrev pub form_grade : Form → Grade
form_grade form.Truth = grade.Literal
form_grade form.Constant = grade.Primary
form_grade (form.Call c) = call_grade c
form_grade form.Not = grade.Literal
form_grade form.Negation = grade.Negative
form_grade form.Minus = grade.Sum
form_grade (form.Infix l) = level l grade.Primary
form_grade form.Converse = grade.Suffixed
form_grade (form.Open bracket.Brace) = grade.Primary
form_grade (form.Open b) = grade.Suffixed

abbrev pub operator_grade : Op → Grade
operator_grade o = form_grade (op_form o)

abbrev pub binder_grade : Binder → Grade
binder_grade binder.ForAll = grade.Literal
binder_grade binder.Exists = grade.Literal
binder_grade binder.Comprehension = grade.Primary
binder_grade binder.QuantifiedUnion = grade.Reaching
binder_grade binder.QuantifiedIntersection = grade.Reaching

abbrev pub grade_at : Formula-F Formula → Grade
grade_at (Int n) = grade.Primary
grade_at (Free name t) = grade.Name
grade_at (Bound at t) = grade.Name
grade_at (Node o parts t) = operator_grade o
grade_at (Bind b types parts t) = binder_grade b

-- the grade of the printed form of a formula
abbrev pub grade_of : Formula → Grade
grade_of f = grade_at (out-Formula f)
