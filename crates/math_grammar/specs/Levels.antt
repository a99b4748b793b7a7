-- The levels of the grammar, loosest first, and what each place takes.
use Rattle.std.specs.Prelude.{ℕ, Bool, true, false, cond, ◌&&◌, nat_le, nat_lt, Option, Some, None}
use Rattle.formula_core.specs.declared.op.Op.TheVariants as op
use Rattle.formula_core.specs.declared.op.Binder.TheVariants as binder
use Rattle.formula_core.specs.declared.raw.RawOp.{RawOp}
use Rattle.formula_core.specs.declared.raw.RawOp.TheVariants as rawop
use Rattle.formula_core.specs.declared.raw.RawBinder.{RawBinder}
use Rattle.formula_core.specs.declared.raw.RawBinder.TheVariants as rawbinder
use Rattle.math_grammar.specs.declared.holes.Grade.{Grade}
use Rattle.math_grammar.specs.declared.holes.Grade.TheVariants as grade
use Rattle.math_grammar.specs.declared.holes.Hole.{Hole}
use Rattle.math_grammar.specs.declared.holes.Hole.TheVariants as hole
use Rattle.math_grammar.specs.declared.levels.Level.{Level}
use Rattle.math_grammar.specs.declared.levels.Level.TheVariants as lev
use Rattle.math_grammar.specs.declared.levels.Prefix.{Prefix}
use Rattle.math_grammar.specs.declared.levels.Prefix.TheVariants as pre
use Rattle.math_grammar.specs.declared.levels.Bracket.{Bracket}
use Rattle.math_grammar.specs.declared.levels.Bracket.TheVariants as bracket
use Rattle.math_grammar.specs.declared.levels.Call.{Call}
use Rattle.math_grammar.specs.declared.levels.Call.TheVariants as call
use Rattle.math_grammar.specs.declared.levels.Binding.{Binding}
use Rattle.math_grammar.specs.declared.levels.Binding.TheVariants as binding
use Rattle.math_grammar.specs.declared.symbols.Symbol.{Symbol}
use Rattle.math_grammar.specs.declared.symbols.Symbol.TheVariants as sym

-- predicates have 1 to 3, expressions 4 to 16
abbrev pub rank : Grade → ℕ
rank grade.Implication = 1
rank grade.Conjunction = 2
rank grade.Disjunction = 2
rank grade.Literal = 3
rank grade.Typed = 4
rank grade.Declared = 4
rank grade.Pair = 5
rank grade.Arrow = 6
rank grade.Set = 7
rank grade.Interval = 8
rank grade.Sum = 9
rank grade.Negative = 10
rank grade.Product = 11
rank grade.Power = 12
rank grade.Reaching = 13
rank grade.Suffixed = 14
rank grade.Primary = 15
rank grade.Name = 16

-- a bare name is a declaration, and so is one with a type
abbrev pub is_declaration : Grade → Bool
is_declaration grade.Name = true
is_declaration grade.Declared = true
is_declaration _ = false

abbrev pub typed : Grade → Grade
typed grade.Name = grade.Declared
typed _ = grade.Typed

-- the grade of a formula with the operator between its sides, the left one of the grade g
abbrev pub level : Level → Grade → Grade
level lev.Implication g = grade.Implication
level lev.Conjunction g = grade.Conjunction
level lev.Disjunction g = grade.Disjunction
level lev.Relation g = grade.Literal
level lev.Typing g = typed g
level lev.Maplet g = grade.Pair
level lev.Arrow g = grade.Arrow
level lev.SetOperator g = grade.Set
level lev.Interval g = grade.Interval
level lev.Additive g = grade.Sum
level lev.Multiplicative g = grade.Product
level lev.Power g = grade.Power

-- what stands on the right
abbrev pub right_of : Level → Hole
right_of lev.Implication = hole.Junction
right_of lev.Conjunction = hole.Literal
right_of lev.Disjunction = hole.Literal
right_of lev.Relation = hole.Expression
right_of lev.Typing = hole.Pair
right_of lev.Maplet = hole.Arrow
right_of lev.Arrow = hole.Set
right_of lev.SetOperator = hole.Range
right_of lev.Interval = hole.Sum
right_of lev.Additive = hole.Summand
right_of lev.Multiplicative = hole.Factor
right_of lev.Power = hole.Operand

-- the loosest that stands on the left
abbrev pub left_of : Level → ℕ
left_of lev.Implication = 2
left_of lev.Conjunction = 2
left_of lev.Disjunction = 2
left_of lev.Relation = 4
left_of lev.Typing = 5
left_of lev.Maplet = 5
left_of lev.Arrow = 7
left_of lev.SetOperator = 7
left_of lev.Interval = 9
left_of lev.Additive = 9
left_of lev.Multiplicative = 11
left_of lev.Power = 13

abbrev pub is_conjunct : Grade → Bool
is_conjunct grade.Conjunction = true
is_conjunct grade.Literal = true
is_conjunct _ = false

abbrev pub is_disjunct : Grade → Bool
is_disjunct grade.Disjunction = true
is_disjunct grade.Literal = true
is_disjunct _ = false

-- ∧ and ∨ don't mix, and connectives take predicates
abbrev pub agrees : Level → Grade → Bool
agrees lev.Implication g = nat_le (rank g) 3
agrees lev.Conjunction g = is_conjunct g
agrees lev.Disjunction g = is_disjunct g
agrees _ g = true

-- a formula of the grade may stand on the left
abbrev pub takes_left : Level → Grade → Bool
takes_left l g = nat_le (left_of l) (rank g) && agrees l g

abbrev pub least : Hole → ℕ
least hole.Formula = 1
least hole.Predicate = 1
least hole.Junction = 2
least hole.Literal = 3
least hole.Expression = 4
least hole.Pair = 5
least hole.Arrow = 6
least hole.Set = 7
least hole.Range = 8
least hole.Sum = 9
least hole.Summand = 10
least hole.Term = 11
least hole.Factor = 12
least hole.Operand = 13
least hole.Name = 16

abbrev pub most : Hole → ℕ
most hole.Predicate = 3
most hole.Junction = 3
most hole.Literal = 3
most _ = 16

-- the place may begin with a formula of the grade
abbrev pub reaches : Hole → Grade → Bool
reaches h g = nat_le (least h) (rank g)

-- the place takes a formula of the grade
abbrev pub fits : Hole → Grade → Bool
fits h g = reaches h g && nat_le (rank g) (most h)

-- what stands in parentheses at such a place
abbrev pub inside : Hole → Hole
inside h = cond (nat_le (least h) 3) hole.Formula hole.Expression

-- what parentheses make of a formula
abbrev pub grouped : Grade → Grade
grouped g = cond (nat_le (rank g) 3) grade.Literal grade.Primary

-- the operator between two operands that a token is
abbrev pub infix_of : Symbol → Option (Level × RawOp)
infix_of (sym.Infix l o) = Some (l, o)
infix_of sym.Minus = Some (lev.Additive, rawop.Plain op.Minus)
infix_of _ = None

-- the operator before one operand that a token is
abbrev pub prefix_of : Symbol → Option Prefix
prefix_of sym.Not = Some pre.Not
prefix_of sym.Minus = Some pre.Minus
prefix_of _ = None

abbrev pub prefix_hole : Prefix → Hole
prefix_hole pre.Not = hole.Literal
prefix_hole pre.Minus = hole.Term

abbrev pub prefix_grade : Prefix → Grade
prefix_grade pre.Not = grade.Literal
prefix_grade pre.Minus = grade.Negative

abbrev pub prefix_op : Prefix → RawOp
prefix_op pre.Not = rawop.Plain op.Not
prefix_op pre.Minus = rawop.Plain op.Negate

-- in this place the operator goes on with what stands before it
abbrev pub joins : Hole → Grade → Option (Level × RawOp) → Bool
joins h g (Some found) = takes_left found.0 g && reaches h (level found.0 g)
joins h g None = false

-- the brackets behind a formula, by the one that closes them and the operator
abbrev pub suffix_of : Symbol → Option (Bracket × RawOp)
suffix_of (sym.Open bracket.Round) = Some (bracket.Round, rawop.Plain op.Apply)
suffix_of (sym.Open bracket.Square) = Some (bracket.Square, rawop.Plain op.Image)
suffix_of _ = None

abbrev pub suffixes : Hole → Grade → Bool
suffixes h g = nat_le 14 (rank g) && reaches h grade.Suffixed

-- in this place the token goes on with what stands before it
abbrev pub goes_on : Hole → Grade → Symbol → Bool
goes_on h g (sym.Open bracket.Round) = suffixes h g
goes_on h g (sym.Open bracket.Square) = suffixes h g
goes_on h g sym.Converse = suffixes h g
goes_on h g x = joins h g (infix_of x)

-- ⦂
abbrev pub is_typing : Symbol → Bool
is_typing (sym.Infix lev.Typing o) = true
is_typing _ = false

-- the place of each part of a word with parentheses
abbrev pub call_hole : Call → Hole
call_hole call.Bool = hole.Predicate
call_hole _ = hole.Expression

abbrev pub call_grade : Call → Grade
call_grade call.Finite = grade.Literal
call_grade call.Partition = grade.Literal
call_grade call.Bool = grade.Primary
call_grade call.Function = grade.Primary

-- how many parts it takes: a partition as many as a limit says, if there is one, and each other word one
abbrev pub call_parts : Option ℕ → Call → Option ℕ
call_parts limit call.Partition = limit
call_parts limit _ = Some 1

-- one more may follow so many
abbrev pub has_room : Option ℕ → ℕ → Bool
has_room None n = true
has_room (Some m) n = nat_lt n m

-- the form with bound names that a token may open
abbrev pub opens : Symbol → Option Binding
opens (sym.Binder b) = Some b
opens (sym.Open bracket.Brace) = Some binding.Set
opens _ = None

abbrev pub binding_grade : Binding → Grade
binding_grade binding.Set = grade.Primary
binding_grade (binding.Quantified b) = grade.Literal
binding_grade (binding.Reaching b) = grade.Reaching
binding_grade binding.Lambda = grade.Reaching

abbrev pub binder_of : Binding → RawBinder
binder_of binding.Set = rawbinder.Plain binder.Comprehension
binder_of (binding.Quantified b) = rawbinder.Plain b
binder_of (binding.Reaching b) = rawbinder.Plain b
binder_of binding.Lambda = rawbinder.Lambda

abbrev pub implicit_of : Binding → RawBinder
implicit_of binding.Set = rawbinder.Implicit binder.Comprehension
implicit_of (binding.Quantified b) = rawbinder.Implicit b
implicit_of (binding.Reaching b) = rawbinder.Implicit b
implicit_of binding.Lambda = rawbinder.Lambda

-- ∀ and ∃ have a predicate behind their names, and no expression
abbrev pub is_quantified : Binding → Bool
is_quantified (binding.Quantified b) = true
is_quantified _ = false

-- names with a dot behind them may follow
abbrev pub takes_names : Binding → Bool
takes_names binding.Lambda = false
takes_names _ = true

-- an expression with a bar behind it may follow
abbrev pub takes_shape : Binding → Bool
takes_shape binding.Set = true
takes_shape (binding.Reaching b) = true
takes_shape _ = false

-- a bracket ends it
abbrev pub is_braced : Binding → Bool
is_braced binding.Set = true
is_braced _ = false
