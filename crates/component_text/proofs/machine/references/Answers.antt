use Rattle.std.proofs.Common.{◌≡◌, ◌∙◌, ◌∷◌, ◌++◌, [], ap}
use Rattle.component_text.specs.Machines.{References}
use Rattle.component_text.proofs.Components.{exit_with}
use Rattle.component_text.proofs.Machines.{extended_none, extended_read, refined_stops, refined_read}
use Rattle.component_text.proofs.machine.references.Goals as goal

pub returns-in_default : goal.returns-in_default
returns-in_default c = extended_none c.args.cursor.now c.take_word.new.self c.name.new.self (rw c.if-take_word.true at c.take_word.ensures) (rw c.in_default.is at c.in_ok-name.ensures)

pub returns-then-take_word : goal.returns-then-take_word
returns-then-take_word c =
    let front : c.push.new.self.items ≡ c.in-Some.name ∷ [] = c.in_ok-push.ensures.items ∙ ap (λ xs. xs ++ c.in-Some.name ∷ []) c.new-names.ensures.items in
    rw (c.of.ensures, front)
    (extended_read c.args.cursor.now c.take_word.new.self c.name.new.self c.in-Some.name (rw c.if-take_word.true at c.take_word.ensures) (rw c.in-Some.is at c.in_ok-name.ensures))

pub returns-in_err-names : goal.returns-in_err-names
returns-in_err-names c =
    exit_with References c.args.cursor.now c.some_names_behind.new.cursor c.from_residual-in_err-names.result c.in_err-names.field-0.0 c.from_residual-in_err-names.ensures.1
    (refined_stops c.args.cursor.now c.take_word.new.self c.some_names_behind.new.cursor c.in_err-names.field-0.0 (rw c.if-take_word.false at c.take_word.ensures) c.in_err-names.ensures)

pub returns : goal.returns
returns c = refined_read c.args.cursor.now c.take_word.new.self c.some_names_behind.new.cursor c.in_ok-names.names (rw c.if-take_word.false at c.take_word.ensures) c.in_ok-names.ensures
