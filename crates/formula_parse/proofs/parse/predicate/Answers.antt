use Rattle.math_grammar.specs.declared.holes.Hole.TheVariants as hole
use Rattle.formula_parse.proofs.Place.{reads_formulas}
use Rattle.formula_parse.proofs.Limited.{answer_found, answer_only, answer_fault}
use Rattle.formula_parse.proofs.parse.predicate.Goals as goal

pub returns-clause-found : goal.returns-clause-found
returns-clause-found c = answer_found (reads_formulas hole.Predicate) c.args.text.now c.args.tokens.now c.parse.result c.parse.ensures

pub returns-clause-only : goal.returns-clause-only
returns-clause-only c = answer_only (reads_formulas hole.Predicate) c.args.text.now c.args.tokens.now c.parse.result c.parse.ensures

pub returns-clause-fault : goal.returns-clause-fault
returns-clause-fault c = answer_fault (reads_formulas hole.Predicate) c.args.text.now c.args.tokens.now c.parse.result c.parse.ensures
