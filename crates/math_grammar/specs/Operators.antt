-- How operators and binders are written: their signs, and the classes of the tokens by which they are known.
use Rattle.std.specs.Prelude.{ℕ, List, [], map, slice_get}
use Rattle.std.specs.Option.{option_map_or}
use Rattle.formula_core.specs.declared.op.Op.{Op}
use Rattle.formula_core.specs.declared.op.Binder.{Binder}
use Rattle.formula_core.specs.declared.op.Binder.TheVariants as binder
use Rattle.formula_core.specs.declared.raw.RawOp.{RawOp}
use Rattle.formula_core.specs.declared.raw.RawOp.TheVariants as rawop
use Rattle.formula_core.specs.declared.raw.RawBinder.{RawBinder}
use Rattle.formula_core.specs.declared.raw.RawBinder.TheVariants as rawbinder
use Rattle.formula_core.specs.Numbers.{number_of}
use Rattle.math_grammar.specs.Characters.{bytes}
use Rattle.math_grammar.specs.declared.levels.Level.TheVariants as lev
use Rattle.math_grammar.specs.declared.levels.Bracket.TheVariants as bracket
use Rattle.math_grammar.specs.declared.levels.Call.TheVariants as call
use Rattle.math_grammar.specs.declared.levels.Binding.TheVariants as binding
use Rattle.math_grammar.specs.declared.symbols.Symbol.{Symbol}
use Rattle.math_grammar.specs.declared.symbols.Symbol.TheVariants as sym
use Rattle.math_grammar.specs.declared.operators.Form.{Form}
use Rattle.math_grammar.specs.declared.operators.Form.TheVariants as form
use Rattle.math_grammar.specs.declared.operators.TheConstants.{SPELLINGS}

-- an operator, its sign, and how it stands to its operands
abbrev pub Spelling : Type 0
Spelling = Op × List ℕ × Form

abbrev pub spellings : List Spelling
spellings = map (λ row. (row.0, row.1.now, row.2)) SPELLINGS

abbrev pub spelled_sign : List Spelling → ℕ → List ℕ
spelled_sign table at = option_map_or (λ row. row.1) (slice_get table at) []

abbrev pub spelled_form : List Spelling → ℕ → Form
spelled_form table at = option_map_or (λ row. row.2) (slice_get table at) form.Constant

-- the sign of an operator: none, where a bracket opens it
abbrev pub sign_of : Op → List ℕ
sign_of o = spelled_sign spellings (number_of o)

-- how an operator stands to its operands
abbrev pub op_form : Op → Form
op_form o = spelled_form spellings (number_of o)

-- the class of the token by which an operator of this form is known
abbrev pub form_class : Form → Op → Symbol
form_class form.Truth o = sym.Truth o
form_class form.Constant o = sym.Constant o
form_class (form.Call c) o = sym.Call c (rawop.Plain o)
form_class form.Not o = sym.Not
form_class form.Negation o = sym.Minus
form_class form.Minus o = sym.Minus
form_class (form.Infix l) o = sym.Infix l (rawop.Plain o)
form_class form.Converse o = sym.Converse
form_class (form.Open b) o = sym.Open b

abbrev pub class_of : Op → Symbol
class_of o = form_class (op_form o) o

-- the sign of an operator as it is written
abbrev pub raw_sign_of : RawOp → List ℕ
raw_sign_of (rawop.Plain o) = sign_of o
raw_sign_of rawop.NotEqual = bytes "≠"
raw_sign_of rawop.NotMember = bytes "∉"
raw_sign_of rawop.NotProperSubset = bytes "⊄"
raw_sign_of rawop.NotSubset = bytes "⊈"
raw_sign_of rawop.Greater = bytes ">"
raw_sign_of rawop.GreaterOrEqual = bytes "≥"
raw_sign_of rawop.BackwardComposition = bytes "∘"
raw_sign_of rawop.Partition = bytes "partition"
raw_sign_of rawop.OfType = bytes "⦂"

-- and its class
abbrev pub raw_class_of : RawOp → Symbol
raw_class_of (rawop.Plain o) = class_of o
raw_class_of rawop.BackwardComposition = sym.Infix lev.SetOperator rawop.BackwardComposition
raw_class_of rawop.Partition = sym.Call call.Partition rawop.Partition
raw_class_of rawop.OfType = sym.Infix lev.Typing rawop.OfType
raw_class_of o = sym.Infix lev.Relation o

abbrev pub binder_sign_of : Binder → List ℕ
binder_sign_of binder.ForAll = bytes "∀"
binder_sign_of binder.Exists = bytes "∃"
binder_sign_of binder.Comprehension = bytes "{"
binder_sign_of binder.QuantifiedUnion = bytes "⋃"
binder_sign_of binder.QuantifiedIntersection = bytes "⋂"

abbrev pub binder_class_of : Binder → Symbol
binder_class_of binder.ForAll = sym.Binder (binding.Quantified binder.ForAll)
binder_class_of binder.Exists = sym.Binder (binding.Quantified binder.Exists)
binder_class_of binder.Comprehension = sym.Open bracket.Brace
binder_class_of binder.QuantifiedUnion = sym.Binder (binding.Reaching binder.QuantifiedUnion)
binder_class_of binder.QuantifiedIntersection = sym.Binder (binding.Reaching binder.QuantifiedIntersection)

abbrev pub raw_binder_sign_of : RawBinder → List ℕ
raw_binder_sign_of (rawbinder.Plain b) = binder_sign_of b
raw_binder_sign_of rawbinder.Lambda = bytes "λ"
raw_binder_sign_of (rawbinder.Implicit b) = binder_sign_of b

abbrev pub raw_binder_class_of : RawBinder → Symbol
raw_binder_class_of (rawbinder.Plain b) = binder_class_of b
raw_binder_class_of rawbinder.Lambda = sym.Binder binding.Lambda
raw_binder_class_of (rawbinder.Implicit b) = binder_class_of b
