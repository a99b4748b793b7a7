use Rattle.formula_parse.proofs.Limited.{answer_found, answer_only, answer_fault}
use Rattle.math_action.proofs.Place.{reads_actions}
use Rattle.math_action.proofs.reading.action.Goals as goal

pub returns-clause-found : goal.returns-clause-found
returns-clause-found c = answer_found reads_actions c.args.text.now c.args.tokens.now c.read.result c.read.ensures

pub returns-clause-only : goal.returns-clause-only
returns-clause-only c = answer_only reads_actions c.args.text.now c.args.tokens.now c.read.result c.read.ensures

pub returns-clause-fault : goal.returns-clause-fault
returns-clause-fault c = answer_fault reads_actions c.args.text.now c.args.tokens.now c.read.result c.read.ensures
