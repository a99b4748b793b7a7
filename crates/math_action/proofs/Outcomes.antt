-- What comes of the tokens of an action.
use Rattle.std.specs.Prelude.{ℕ, List, Option}
use Rattle.formula_core.specs.declared.raw.RawAction.{RawAction}
use Rattle.math_grammar.specs.Tokens.{Item}
use Rattle.formula_parse.proofs.Outcomes.{ReadOutcome, outcome_by}
use Rattle.math_action.specs.PrivateMachine.{ActionState, action_reader}

abbrev pub action_run : Option ℕ → ActionState → List Item → ReadOutcome RawAction
action_run = outcome_by action_reader
