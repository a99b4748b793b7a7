-- A form whose pattern has a type that is open at its right end.
use Rattle.std.specs.Prelude.{List, [], ◌∷◌}
use Rattle.formula_core.specs.declared.op.Op.TheVariants as op
use Rattle.formula_core.specs.declared.raw.RawOp.TheVariants as rawop
use Rattle.math_grammar.specs.declared.levels.Level.TheVariants as lev
use Rattle.math_grammar.specs.declared.levels.Binding.TheVariants as binding
use Rattle.math_grammar.specs.declared.symbols.Symbol.{Symbol}
use Rattle.math_grammar.specs.declared.symbols.Symbol.TheVariants as sym
use Rattle.math_grammar.specs.Tokens.{Item}
use Rattle.math_grammar.specs.Grammar.{item}

abbrev pub sign : Symbol → Item
sign x = item x 0 []

abbrev pub lambda_sign : Item
lambda_sign = sign (sym.Binder binding.Lambda)

abbrev pub a : Item
a = item sym.Word 0 (97 ∷ [])

abbrev pub of_type_sign : Item
of_type_sign = sign (sym.Infix lev.Typing rawop.OfType)

abbrev pub maplet_sign : Item
maplet_sign = sign (sym.Infix lev.Maplet (rawop.Plain op.Maplet))

abbrev pub dot_sign : Item
dot_sign = sign sym.Dot

abbrev pub top_sign : Item
top_sign = sign (sym.Truth op.Top)

abbrev pub bar_sign : Item
bar_sign = sign sym.Bar

-- λ a ⦂ λ a · ⊤ ∣ a ⦂ a ↦ a ⦂ a · ⊤ ∣ a
abbrev pub open_type : List Item
open_type =
    lambda_sign ∷ a ∷ of_type_sign ∷ lambda_sign ∷ a ∷ dot_sign ∷ top_sign ∷ bar_sign ∷ a ∷ of_type_sign ∷ a
    ∷ maplet_sign ∷ a ∷ of_type_sign ∷ a
    ∷ dot_sign ∷ top_sign ∷ bar_sign ∷ a ∷ []
