use Rattle.component_text.specs.Grammar.{ContextBody}
use Rattle.component_text.proofs.Components.{exit_with, context_name_none, extends_stops, sets_stop, constants_stop, axioms_stop, context_body_read}
use Rattle.component_text.proofs.parse.context_body.Goals as goal

pub returns-in_default : goal.returns-in_default
returns-in_default c = context_name_none c.args.cursor.now c.name.new.self (rw c.in_default.is at c.in_ok-name.ensures)

pub returns-in_err-extends : goal.returns-in_err-extends
returns-in_err-extends c =
    exit_with ContextBody c.args.cursor.now c.some_names_behind.new.cursor c.from_residual-in_err-extends.result c.in_err-extends.field-0.0 c.from_residual-in_err-extends.ensures.1
    (extends_stops c.args.cursor.now c.name.new.self c.in-Some.name (rw c.in-Some.is at c.in_ok-name.ensures) c.some_names_behind.new.cursor c.in_err-extends.field-0.0 c.in_err-extends.ensures)

pub returns-in_err-sets : goal.returns-in_err-sets
returns-in_err-sets c =
    exit_with ContextBody c.args.cursor.now c.names_behind.new.cursor c.from_residual-in_err-sets.result c.in_err-sets.field-0.0 c.from_residual-in_err-sets.ensures.1
    (sets_stop c.args.cursor.now c.name.new.self c.in-Some.name (rw c.in-Some.is at c.in_ok-name.ensures)
    c.some_names_behind.new.cursor c.in_ok-extends.extends c.in_ok-extends.ensures
    c.names_behind.new.cursor c.in_err-sets.field-0.0 c.in_err-sets.ensures)

pub returns-in_err-constants : goal.returns-in_err-constants
returns-in_err-constants c =
    exit_with ContextBody c.args.cursor.now c.names_behind-2.new.cursor c.from_residual-in_err-constants.result c.in_err-constants.field-0.0 c.from_residual-in_err-constants.ensures.1
    (constants_stop c.args.cursor.now c.name.new.self c.in-Some.name (rw c.in-Some.is at c.in_ok-name.ensures)
    c.some_names_behind.new.cursor c.in_ok-extends.extends c.in_ok-extends.ensures
    c.names_behind.new.cursor c.in_ok-sets.sets c.in_ok-sets.ensures
    c.names_behind-2.new.cursor c.in_err-constants.field-0.0 c.in_err-constants.ensures)

pub returns-in_err-axioms : goal.returns-in_err-axioms
returns-in_err-axioms c =
    exit_with ContextBody c.args.cursor.now c.lines_behind.new.cursor c.from_residual-in_err-axioms.result c.in_err-axioms.field-0.0 c.from_residual-in_err-axioms.ensures.1
    (axioms_stop c.args.cursor.now c.name.new.self c.in-Some.name (rw c.in-Some.is at c.in_ok-name.ensures)
    c.some_names_behind.new.cursor c.in_ok-extends.extends c.in_ok-extends.ensures
    c.names_behind.new.cursor c.in_ok-sets.sets c.in_ok-sets.ensures
    c.names_behind-2.new.cursor c.in_ok-constants.constants c.in_ok-constants.ensures
    c.lines_behind.new.cursor c.in_err-axioms.field-0.0 c.in_err-axioms.ensures)

pub returns : goal.returns
returns c =
    context_body_read c.args.cursor.now c.name.new.self c.in-Some.name (rw c.in-Some.is at c.in_ok-name.ensures)
    c.some_names_behind.new.cursor c.in_ok-extends.extends c.in_ok-extends.ensures
    c.names_behind.new.cursor c.in_ok-sets.sets c.in_ok-sets.ensures
    c.names_behind-2.new.cursor c.in_ok-constants.constants c.in_ok-constants.ensures
    c.lines_behind.new.cursor c.in_ok-axioms.axioms c.in_ok-axioms.ensures
