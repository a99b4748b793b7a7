-- What the law of reading back says.
use Rattle.std.specs.Prelude.{List, if◌then◌else◌, None}
use Rattle.formula_core.specs.Types.{is_value_type}
use Rattle.formula_core.specs.Wellness.{type_of}
use Rattle.formula_core.specs.declared.formula.Formula.{Formula}
use Rattle.math_grammar.specs.declared.holes.Hole.{Hole}
use Rattle.math_grammar.specs.declared.holes.Hole.TheVariants as hole
use Rattle.math_grammar.specs.Tokens.{Item}
use Rattle.math_grammar.specs.Grammar.{Spells}
use Rattle.token_text.specs.Pieces.{tokens_of}
use Rattle.formula_print.specs.Printing.{formula_pieces}
use Rattle.formula_print.specs.Written.{raw_of}

-- where a formula of its type stands
abbrev pub place_for : Formula → Hole
place_for f = if is_value_type (type_of f) then hole.Expression else hole.Predicate

-- the tokens of the printed text of a formula
abbrev pub items_of_formula : Formula → List Item
items_of_formula f = tokens_of (formula_pieces f)

-- they spell the formula as it is written
abbrev pub IsSpelled : Formula → Type 0
IsSpelled f = Spells None (place_for f) (items_of_formula f) (raw_of f)
