use Rattle.math_grammar.specs.declared.holes.Hole.TheVariants as hole
use Rattle.formula_parse.specs.declared.fault.ParseFault.TheVariants as fault
use Rattle.component_text.specs.Grammar.{IsPlaced}
use Rattle.component_text.proofs.Marks.{formula_read, formula_unexpected, formula_too_large, formula_fails}
use Rattle.component_text.proofs.cursor.Cursor.predicate.Goals as goal

pub returns-in-Ok : goal.returns-in-Ok
returns-in-Ok c =
    formula_read (IsPlaced hole.Predicate) c.self.inside.text.now c.self.inside.rest.now c.plain_length-length.result c.args.self.now c.self.view_is c.plain_length-length.ensures.value
    (c.in-Ok.formula, c.first_place-first.result) (c.in-Ok.ensures.found, c.first_place-first.ensures c.self.inside.text.now)

pub returns-in-Err-Unexpected : goal.returns-in-Err-Unexpected
returns-in-Err-Unexpected c =
    formula_unexpected (IsPlaced hole.Predicate) c.self.inside.text.now c.self.inside.rest.now c.plain_length-length.result c.args.self.now c.self.view_is c.plain_length-length.ensures.value
    c.in-Err-Unexpected.index
    (formula_fails hole.Predicate _ (fault.Unexpected c.in-Err-Unexpected.index) (rw c.in-Err-Unexpected.field-0-is at c.in-Err-Unexpected.ensures.fault) (rw c.in-Err-Unexpected.field-0-is at c.in-Err-Unexpected.ensures.only))

pub returns-in-Err-TooLarge : goal.returns-in-Err-TooLarge
returns-in-Err-TooLarge c =
    formula_too_large (IsPlaced hole.Predicate) c.self.inside.text.now c.self.inside.rest.now c.plain_length-length.result c.args.self.now c.self.view_is c.plain_length-length.ensures.value
    c.in-Err-TooLarge.index
    (formula_fails hole.Predicate _ (fault.TooLarge c.in-Err-TooLarge.index) (rw c.in-Err-TooLarge.field-0-is at c.in-Err-TooLarge.ensures.fault) (rw c.in-Err-TooLarge.field-0-is at c.in-Err-TooLarge.ensures.only))
