use Rattle.math_grammar.specs.Actions.{SpellsAction}
use Rattle.formula_parse.proofs.Readers.{one_place}
use Rattle.math_action.proofs.laws.one_action_fault.Goals as goal

pub returns : goal.returns
returns c = λ limit s i j. one_place (SpellsAction limit) s i j
