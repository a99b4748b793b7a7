use Rattle.std.specs.Prelude.{codes}
use Rattle.std.proofs.lemmas.Result.{err_from_is_err_and}
use Rattle.component_text.proofs.Components.{word_there}
use Rattle.component_text.proofs.Wholes.{machine_stops, no_machine, machine_read, machine_unended}
use Rattle.component_text.proofs.machine.machine.Goals as goal

pub returns-then-not-take_word : goal.returns-then-not-take_word
returns-then-not-take_word c = no_machine c.args.cursor.now c.take_word.new.self (rw c.if-not-take_word.true at c.take_word.ensures)

pub returns-in_err-component : goal.returns-in_err-component
returns-in_err-component c =
    let head = word_there (codes "machine") c.args.cursor.now c.take_word.new.self (rw c.if-not-take_word.false at c.take_word.ensures) in
    let exit = err_from_is_err_and c.from_residual.result c.from_residual.ensures.1 in
    rw (exit.1, exit.2)
    (machine_stops c.args.cursor.now c.take_word.new.self c.machine_body.new.cursor head.0 c.in_err-component.field-0.0 head.1 c.in_err-component.ensures)

pub returns-then-ends : goal.returns-then-ends
returns-then-ends c =
    let head = word_there (codes "machine") c.args.cursor.now c.take_word.new.self (rw c.if-not-take_word.false at c.take_word.ensures) in
    machine_read c.args.cursor.now c.take_word.new.self c.machine_body.new.cursor c.ends.new.cursor head.0 c.in_ok-component.component head.1 c.in_ok-component.ensures
    (rw c.if-ends.true at c.ends.ensures)

pub returns-else-ends : goal.returns-else-ends
returns-else-ends c =
    let head = word_there (codes "machine") c.args.cursor.now c.take_word.new.self (rw c.if-not-take_word.false at c.take_word.ensures) in
    machine_unended c.args.cursor.now c.take_word.new.self c.machine_body.new.cursor c.ends.new.cursor head.0 c.in_ok-component.component head.1 c.in_ok-component.ensures
    (rw c.if-ends.false at c.ends.ensures)
