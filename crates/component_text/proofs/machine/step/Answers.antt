use Rattle.component_text.specs.Machines.{ActionLine}
use Rattle.component_text.proofs.Components.{exit_with}
use Rattle.component_text.proofs.Machines.{step_missing, step_stops, step_read}
use Rattle.component_text.proofs.machine.step.Goals as goal

pub returns-in_default : goal.returns-in_default
returns-in_default c = step_missing c.args.cursor.now c.label.new.self (rw c.in_default.is at c.in_ok-label.ensures)

pub returns-in_err-action : goal.returns-in_err-action
returns-in_err-action c =
    exit_with ActionLine c.args.cursor.now c.action.new.self c.from_residual-in_err-action.result c.in_err-action.field-0.0 c.from_residual-in_err-action.ensures.1
    (step_stops c.args.cursor.now c.label.new.self c.action.new.self (c.in-Some.label, c.in-Some.place) c.in_err-action.field-0.0 (rw c.in-Some.is at c.in_ok-label.ensures) c.in_err-action.ensures)

pub returns : goal.returns
returns c =
    step_read c.args.cursor.now c.label.new.self c.action.new.self (c.in-Some.label, c.in-Some.place) c.in_ok-action.action (rw c.in-Some.is at c.in_ok-label.ensures) c.in_ok-action.ensures
