-- What the printed tokens of a formula spell.
use Rattle.std.specs.Prelude.{◌≡◌, ℕ, ◌^◌, ◌<◌, Bool, true, false, List, pos}
use Rattle.std.specs.List.{AllByRecursion}
use Rattle.formula_core.specs.declared.raw.RawOp.TheVariants as rawop
use Rattle.math_grammar.specs.declared.holes.Hole.{Hole}
use Rattle.math_grammar.specs.declared.holes.Hole.TheVariants as hole
use Rattle.math_grammar.specs.declared.symbols.Symbol.{Symbol}
use Rattle.math_grammar.specs.declared.symbols.Symbol.TheVariants as sym
use Rattle.math_grammar.specs.Levels.{binder_of}
use Rattle.math_grammar.specs.Tokens.{Item}
use Rattle.math_grammar.specs.Operators.{raw_class_of, raw_binder_class_of}

-- a symbol that the tables of signs and words give, or a number that is no larger than a literal
abbrev pub IsProper : Symbol → Type 0
IsProper (sym.Number n) = (m : ℕ) × (n ≡ pos m) × (m < 2 ^ 127)
IsProper (sym.Truth o) = raw_class_of (rawop.Plain o) ≡ sym.Truth o
IsProper (sym.Constant o) = raw_class_of (rawop.Plain o) ≡ sym.Constant o
IsProper (sym.Call c o) = raw_class_of o ≡ sym.Call c o
IsProper (sym.Infix l o) = raw_class_of o ≡ sym.Infix l o
IsProper (sym.Binder c) = raw_binder_class_of (binder_of c) ≡ sym.Binder c
IsProper _ = Unit {0}

abbrev pub IsProperItem : Item → Type 0
IsProperItem x = IsProper x.symbol

-- as the tokens of each text are
abbrev pub AllProper : List Item → Type 0
AllProper tokens = AllByRecursion IsProperItem tokens

-- the places of whole predicates and expressions
abbrev pub is_whole : Hole → Bool
is_whole hole.Predicate = true
is_whole hole.Expression = true
is_whole _ = false
