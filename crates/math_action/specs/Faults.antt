-- The first token that no action can have.
use Rattle.std.specs.Prelude.{ℕ, Option, List}
use Rattle.math_grammar.specs.Tokens.{Item}
use Rattle.math_grammar.specs.Actions.{SpellsAction}
use Rattle.formula_parse.specs.Faults.{IsUnexpectedIn}

-- The token at i is the first one that no action has there, after those before it; at the end, the tokens aren't an action.
abbrev pub IsUnexpectedInAction : Option ℕ → List Item → ℕ → Type 0
IsUnexpectedInAction limit = IsUnexpectedIn (SpellsAction limit)
