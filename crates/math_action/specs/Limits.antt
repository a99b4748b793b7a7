-- Actions within the limits, which are those of formulas and count the tokens of the whole action.
use Rattle.std.specs.Prelude.{List}
use Rattle.formula_core.specs.declared.raw.RawAction.{RawAction}
use Rattle.math_grammar.specs.Tokens.{Item}
use Rattle.math_grammar.specs.Actions.{SpellsAction}
use Rattle.formula_parse.specs.Limits.{SpellsWithin, IsFaultOf}
use Rattle.formula_parse.specs.declared.fault.ParseFault.{ParseFault}

-- the tokens are an action within the limits
abbrev pub IsAction : List Item → RawAction → Type 0
IsAction = SpellsWithin SpellsAction

-- the first fault of tokens that are none
abbrev pub IsActionFault : List Item → ParseFault → Type 0
IsActionFault = IsFaultOf SpellsAction
