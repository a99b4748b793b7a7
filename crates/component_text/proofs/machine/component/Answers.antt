use Rattle.std.proofs.Common.{◌∙◌, sym}
use Rattle.component_text.proofs.Wholes.{machine_as_component, context_as_component}
use Rattle.component_text.proofs.machine.component.Goals as goal

pub returns-then-is_at_word : goal.returns-then-is_at_word
returns-then-is_at_word c = machine_as_component c.args.cursor.now c.machine.new.cursor c.machine.result (sym c.is_at_word.ensures ∙ c.if-is_at_word.true) c.machine.ensures

pub returns-else-is_at_word : goal.returns-else-is_at_word
returns-else-is_at_word c = context_as_component c.args.cursor.now c.context.new.cursor c.context.result (sym c.is_at_word.ensures ∙ c.if-is_at_word.false) c.context.ensures
