use Rattle.std.specs.Prelude.{codes}
use Rattle.component_text.proofs.Components.{stops_in_body, no_context, context_read, context_unended, whole_exit, word_there}
use Rattle.component_text.proofs.parse.context.Goals as goal

pub returns-then-not-take_word : goal.returns-then-not-take_word
returns-then-not-take_word c = no_context c.args.cursor.now c.take_word.new.self (rw c.if-not-take_word.true at c.take_word.ensures)

pub returns-in_err-component : goal.returns-in_err-component
returns-in_err-component c =
    let head = word_there (codes "context") c.args.cursor.now c.take_word.new.self (rw c.if-not-take_word.false at c.take_word.ensures) in
    whole_exit c.args.cursor.now c.context_body.new.cursor c.from_residual.result c.in_err-component.field-0.0 c.from_residual.ensures.1
    (stops_in_body c.args.cursor.now c.take_word.new.self c.context_body.new.cursor head.0 c.in_err-component.field-0.0 head.1 c.in_err-component.ensures)

pub returns-then-ends : goal.returns-then-ends
returns-then-ends c =
    let head = word_there (codes "context") c.args.cursor.now c.take_word.new.self (rw c.if-not-take_word.false at c.take_word.ensures) in
    context_read c.args.cursor.now c.take_word.new.self c.context_body.new.cursor c.ends.new.cursor head.0 c.in_ok-component.component head.1 c.in_ok-component.ensures
    (rw c.if-ends.true at c.ends.ensures)

pub returns-else-ends : goal.returns-else-ends
returns-else-ends c =
    let head = word_there (codes "context") c.args.cursor.now c.take_word.new.self (rw c.if-not-take_word.false at c.take_word.ensures) in
    context_unended c.args.cursor.now c.take_word.new.self c.context_body.new.cursor c.ends.new.cursor head.0 c.in_ok-component.component head.1 c.in_ok-component.ensures
    (rw c.if-ends.false at c.ends.ensures)
