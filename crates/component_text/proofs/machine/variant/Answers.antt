use Rattle.component_text.specs.Machines.{Variant}
use Rattle.component_text.proofs.Components.{exit_with}
use Rattle.component_text.proofs.Machines.{variant_stops, variant_read}
use Rattle.component_text.proofs.machine.variant.Goals as goal

pub returns-in_err-formula : goal.returns-in_err-formula
returns-in_err-formula c =
    exit_with Variant c.args.cursor.now c.expression.new.self c.from_residual.result c.in_err-formula.field-0.0 c.from_residual.ensures.1
    (variant_stops c.args.cursor.now c.take_word.new.self c.take_label.new.self (rw c.if-not-take_word.false at c.take_word.ensures) c.expression.new.self c.take_label.result c.in_err-formula.field-0.0
    c.take_label.ensures c.in_err-formula.ensures)

pub returns : goal.returns
returns c =
    variant_read c.args.cursor.now c.take_word.new.self c.take_label.new.self (rw c.if-not-take_word.false at c.take_word.ensures) c.expression.new.self c.take_label.result (c.in_ok-formula.formula, c.in_ok-formula.first)
    c.take_label.ensures c.in_ok-formula.ensures
