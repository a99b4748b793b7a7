use Rattle.math_grammar.specs.declared.holes.Hole.TheVariants as hole
use Rattle.math_grammar.specs.Tokens.{items_of}
use Rattle.formula_parse.specs.Limits.{IsSentence}
use Rattle.step_items.proofs.Cutting.{no_formula, too_large}
use Rattle.step_items.proofs.terms.predicate_of.Goals as goal

pub returns-in-Err-Unexpected : goal.returns-in-Err-Unexpected
returns-in-Err-Unexpected c =
    no_formula (IsSentence hole.Predicate (items_of c.args.text.now c.args.cut.now)) c.in-Err-Unexpected.field-0 c.in-Err-Unexpected.field-0-0
    c.in-Err-Unexpected.field-0-is c.in-Err-Unexpected.ensures.only

pub returns-in-Err-TooLarge : goal.returns-in-Err-TooLarge
returns-in-Err-TooLarge c =
    too_large (IsSentence hole.Predicate (items_of c.args.text.now c.args.cut.now)) c.in-Err-TooLarge.field-0 c.in-Err-TooLarge.field-0-0
    c.in-Err-TooLarge.field-0-is c.in-Err-TooLarge.ensures.only
