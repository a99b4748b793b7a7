use Rattle.component_text.specs.Machines.{MachineBody}
use Rattle.component_text.proofs.Components.{exit_with}
use Rattle.component_text.proofs.Machines.{machine_name_missing, refines_stop, sees_stop, variables_stop, invariants_stop, variant_stop, events_stop, machine_body_read}
use Rattle.component_text.proofs.machine.machine_body.Goals as goal

pub returns-in_default : goal.returns-in_default
returns-in_default c = machine_name_missing c.args.cursor.now c.name.new.self (rw c.in_default.is at c.in_ok-name.ensures)

pub returns-in_err-refines : goal.returns-in_err-refines
returns-in_err-refines c =
    exit_with MachineBody c.args.cursor.now c.refines.new.cursor c.from_residual-in_err-refines.result c.in_err-refines.field-0.0 c.from_residual-in_err-refines.ensures.1
    (refines_stop c.args.cursor.now c.name.new.self c.in-Some.name (rw c.in-Some.is at c.in_ok-name.ensures)
    c.refines.new.cursor c.in_err-refines.field-0.0 c.in_err-refines.ensures)

pub returns-in_err-sees : goal.returns-in_err-sees
returns-in_err-sees c =
    exit_with MachineBody c.args.cursor.now c.some_names_behind.new.cursor c.from_residual-in_err-sees.result c.in_err-sees.field-0.0 c.from_residual-in_err-sees.ensures.1
    (sees_stop c.args.cursor.now c.name.new.self c.in-Some.name (rw c.in-Some.is at c.in_ok-name.ensures)
    c.refines.new.cursor c.in_ok-refines.refines c.in_ok-refines.ensures
    c.some_names_behind.new.cursor c.in_err-sees.field-0.0 c.in_err-sees.ensures)

pub returns-in_err-variables : goal.returns-in_err-variables
returns-in_err-variables c =
    exit_with MachineBody c.args.cursor.now c.names_behind.new.cursor c.from_residual-in_err-variables.result c.in_err-variables.field-0.0 c.from_residual-in_err-variables.ensures.1
    (variables_stop c.args.cursor.now c.name.new.self c.in-Some.name (rw c.in-Some.is at c.in_ok-name.ensures)
    c.refines.new.cursor c.in_ok-refines.refines c.in_ok-refines.ensures
    c.some_names_behind.new.cursor c.in_ok-sees.sees c.in_ok-sees.ensures
    c.names_behind.new.cursor c.in_err-variables.field-0.0 c.in_err-variables.ensures)

pub returns-in_err-invariants : goal.returns-in_err-invariants
returns-in_err-invariants c =
    exit_with MachineBody c.args.cursor.now c.lines_behind.new.cursor c.from_residual-in_err-invariants.result c.in_err-invariants.field-0.0 c.from_residual-in_err-invariants.ensures.1
    (invariants_stop c.args.cursor.now c.name.new.self c.in-Some.name (rw c.in-Some.is at c.in_ok-name.ensures)
    c.refines.new.cursor c.in_ok-refines.refines c.in_ok-refines.ensures
    c.some_names_behind.new.cursor c.in_ok-sees.sees c.in_ok-sees.ensures
    c.names_behind.new.cursor c.in_ok-variables.variables c.in_ok-variables.ensures
    c.lines_behind.new.cursor c.in_err-invariants.field-0.0 c.in_err-invariants.ensures)

pub returns-in_err-variant : goal.returns-in_err-variant
returns-in_err-variant c =
    exit_with MachineBody c.args.cursor.now c.variant.new.cursor c.from_residual-in_err-variant.result c.in_err-variant.field-0.0 c.from_residual-in_err-variant.ensures.1
    (variant_stop c.args.cursor.now c.name.new.self c.in-Some.name (rw c.in-Some.is at c.in_ok-name.ensures)
    c.refines.new.cursor c.in_ok-refines.refines c.in_ok-refines.ensures
    c.some_names_behind.new.cursor c.in_ok-sees.sees c.in_ok-sees.ensures
    c.names_behind.new.cursor c.in_ok-variables.variables c.in_ok-variables.ensures
    c.lines_behind.new.cursor c.in_ok-invariants.invariants c.in_ok-invariants.ensures
    c.variant.new.cursor c.in_err-variant.field-0.0 c.in_err-variant.ensures)

pub returns-in_err-events : goal.returns-in_err-events
returns-in_err-events c =
    exit_with MachineBody c.args.cursor.now c.events.new.cursor c.from_residual-in_err-events.result c.in_err-events.field-0.0 c.from_residual-in_err-events.ensures.1
    (events_stop c.args.cursor.now c.name.new.self c.in-Some.name (rw c.in-Some.is at c.in_ok-name.ensures)
    c.refines.new.cursor c.in_ok-refines.refines c.in_ok-refines.ensures
    c.some_names_behind.new.cursor c.in_ok-sees.sees c.in_ok-sees.ensures
    c.names_behind.new.cursor c.in_ok-variables.variables c.in_ok-variables.ensures
    c.lines_behind.new.cursor c.in_ok-invariants.invariants c.in_ok-invariants.ensures
    c.variant.new.cursor c.in_ok-variant.variant c.in_ok-variant.ensures
    c.events.new.cursor c.in_err-events.field-0.0 c.in_err-events.ensures)

pub returns : goal.returns
returns c =
    machine_body_read c.args.cursor.now c.name.new.self c.in-Some.name (rw c.in-Some.is at c.in_ok-name.ensures)
    c.refines.new.cursor c.in_ok-refines.refines c.in_ok-refines.ensures
    c.some_names_behind.new.cursor c.in_ok-sees.sees c.in_ok-sees.ensures
    c.names_behind.new.cursor c.in_ok-variables.variables c.in_ok-variables.ensures
    c.lines_behind.new.cursor c.in_ok-invariants.invariants c.in_ok-invariants.ensures
    c.variant.new.cursor c.in_ok-variant.variant c.in_ok-variant.ensures
    c.events.new.cursor c.in_ok-events.events c.in_ok-events.ensures
