use Rattle.component_text.specs.Machines.{EventBody}
use Rattle.component_text.proofs.Components.{exit_with}
use Rattle.component_text.proofs.Machines.{event_missing, event_name_missing, references_stop, any_stops, guards_stop, with_stops, actions_stop, event_unended, event_body_read}
use Rattle.component_text.proofs.machine.event_body.Goals as goal

pub returns-then-not-take_word : goal.returns-then-not-take_word
returns-then-not-take_word c = event_missing c.args.convergence c.args.cursor.now c.take_word.new.self (rw c.if-not-take_word.true at c.take_word.ensures)

pub returns-in_default : goal.returns-in_default
returns-in_default c =
    event_name_missing c.args.convergence c.args.cursor.now c.take_word.new.self (rw c.if-not-take_word.false at c.take_word.ensures) c.name.new.self (rw c.in_default.is at c.in_ok-name.ensures)

pub returns-in_err-references : goal.returns-in_err-references
returns-in_err-references c =
    exit_with (EventBody c.args.convergence) c.args.cursor.now c.references.new.cursor c.from_residual-in_err-references.result c.in_err-references.field-0.0 c.from_residual-in_err-references.ensures.1
    (references_stop c.args.convergence c.args.cursor.now c.take_word.new.self (rw c.if-not-take_word.false at c.take_word.ensures) c.name.new.self c.in-Some.name (rw c.in-Some.is at c.in_ok-name.ensures)
    c.references.new.cursor c.in_err-references.field-0.0 c.in_err-references.ensures)

pub returns-in_err-params : goal.returns-in_err-params
returns-in_err-params c =
    exit_with (EventBody c.args.convergence) c.args.cursor.now c.names_behind.new.cursor c.from_residual-in_err-params.result c.in_err-params.field-0.0 c.from_residual-in_err-params.ensures.1
    (any_stops c.args.convergence c.args.cursor.now c.take_word.new.self (rw c.if-not-take_word.false at c.take_word.ensures) c.name.new.self c.in-Some.name (rw c.in-Some.is at c.in_ok-name.ensures)
    c.references.new.cursor c.in_ok-references.references c.in_ok-references.ensures
    c.names_behind.new.cursor c.in_err-params.field-0.0 c.in_err-params.ensures)

pub returns-in_err-guards : goal.returns-in_err-guards
returns-in_err-guards c =
    exit_with (EventBody c.args.convergence) c.args.cursor.now c.guards.new.cursor c.from_residual-in_err-guards.result c.in_err-guards.field-0.0 c.from_residual-in_err-guards.ensures.1
    (guards_stop c.args.convergence c.args.cursor.now c.take_word.new.self (rw c.if-not-take_word.false at c.take_word.ensures) c.name.new.self c.in-Some.name (rw c.in-Some.is at c.in_ok-name.ensures)
    c.references.new.cursor c.in_ok-references.references c.in_ok-references.ensures
    c.names_behind.new.cursor c.in_ok-params.params c.in_ok-params.ensures
    c.guards.new.cursor c.in_err-guards.field-0.0 c.in_err-guards.ensures)

pub returns-in_err-witnesses : goal.returns-in_err-witnesses
returns-in_err-witnesses c =
    exit_with (EventBody c.args.convergence) c.args.cursor.now c.with.new.cursor c.from_residual-in_err-witnesses.result c.in_err-witnesses.field-0.0 c.from_residual-in_err-witnesses.ensures.1
    (with_stops c.args.convergence c.args.cursor.now c.take_word.new.self (rw c.if-not-take_word.false at c.take_word.ensures) c.name.new.self c.in-Some.name (rw c.in-Some.is at c.in_ok-name.ensures)
    c.references.new.cursor c.in_ok-references.references c.in_ok-references.ensures
    c.names_behind.new.cursor c.in_ok-params.params c.in_ok-params.ensures
    c.guards.new.cursor c.in_ok-guards.guards c.in_ok-guards.ensures
    c.with.new.cursor c.in_err-witnesses.field-0.0 c.in_err-witnesses.ensures)

pub returns-in_err-actions : goal.returns-in_err-actions
returns-in_err-actions c =
    exit_with (EventBody c.args.convergence) c.args.cursor.now c.actions.new.cursor c.from_residual-in_err-actions.result c.in_err-actions.field-0.0 c.from_residual-in_err-actions.ensures.1
    (actions_stop c.args.convergence c.args.cursor.now c.take_word.new.self (rw c.if-not-take_word.false at c.take_word.ensures) c.name.new.self c.in-Some.name (rw c.in-Some.is at c.in_ok-name.ensures)
    c.references.new.cursor c.in_ok-references.references c.in_ok-references.ensures
    c.names_behind.new.cursor c.in_ok-params.params c.in_ok-params.ensures
    c.guards.new.cursor c.in_ok-guards.guards c.in_ok-guards.ensures
    c.with.new.cursor c.in_ok-witnesses.witnesses c.in_ok-witnesses.ensures
    c.actions.new.cursor c.in_err-actions.field-0.0 c.in_err-actions.ensures)

pub returns-then-not-take_word-2 : goal.returns-then-not-take_word-2
returns-then-not-take_word-2 c =
    event_unended c.args.convergence c.args.cursor.now c.take_word.new.self (rw c.if-not-take_word.false at c.take_word.ensures) c.name.new.self c.in-Some.name (rw c.in-Some.is at c.in_ok-name.ensures)
    c.references.new.cursor c.in_ok-references.references c.in_ok-references.ensures
    c.names_behind.new.cursor c.in_ok-params.params c.in_ok-params.ensures
    c.guards.new.cursor c.in_ok-guards.guards c.in_ok-guards.ensures
    c.with.new.cursor c.in_ok-witnesses.witnesses c.in_ok-witnesses.ensures
    c.actions.new.cursor c.in_ok-actions.actions c.in_ok-actions.ensures
    c.take_word-2.new.self (rw c.if-not-take_word-2.true at c.take_word-2.ensures)

pub returns : goal.returns
returns c =
    event_body_read c.args.convergence c.args.cursor.now c.take_word.new.self (rw c.if-not-take_word.false at c.take_word.ensures) c.name.new.self c.in-Some.name (rw c.in-Some.is at c.in_ok-name.ensures)
    c.references.new.cursor c.in_ok-references.references c.in_ok-references.ensures
    c.names_behind.new.cursor c.in_ok-params.params c.in_ok-params.ensures
    c.guards.new.cursor c.in_ok-guards.guards c.in_ok-guards.ensures
    c.with.new.cursor c.in_ok-witnesses.witnesses c.in_ok-witnesses.ensures
    c.actions.new.cursor c.in_ok-actions.actions c.in_ok-actions.ensures
    c.take_word-2.new.self (rw c.if-not-take_word-2.false at c.take_word-2.ensures)
