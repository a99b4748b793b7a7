use Rattle.component_text.specs.Grammar.{LabelledPart}
use Rattle.component_text.proofs.Components.{exit_with, labelled_none, labelled_read, labelled_stops}
use Rattle.component_text.proofs.parse.labelled.Goals as goal

pub returns-in_default : goal.returns-in_default
returns-in_default c = labelled_none c.args.theorem c.args.cursor.now c.label.new.self (rw c.in_default.is at c.in_ok-label.ensures)

pub returns-in_err-formula : goal.returns-in_err-formula
returns-in_err-formula c =
    exit_with (LabelledPart c.args.theorem) c.args.cursor.now c.predicate.new.self c.from_residual-in_err-formula.result c.in_err-formula.field-0.0 c.from_residual-in_err-formula.ensures.1
    (labelled_stops c.args.theorem c.args.cursor.now c.label.new.self c.predicate.new.self (c.in-Some.label, c.in-Some.place) c.in_err-formula.field-0.0 (rw c.in-Some.is at c.in_ok-label.ensures) c.in_err-formula.ensures)

pub returns : goal.returns
returns c =
    labelled_read c.args.theorem c.args.cursor.now c.label.new.self c.predicate.new.self (c.in-Some.label, c.in-Some.place) (c.in_ok-formula.formula, c.in_ok-formula.first) (rw c.in-Some.is at c.in_ok-label.ensures) c.in_ok-formula.ensures
