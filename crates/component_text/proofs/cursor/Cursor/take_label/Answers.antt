use Rattle.std.proofs.Common.{◌∙◌, ap, sym}
use Rattle.component_text.specs.Marks.{is_at}
use Rattle.component_text.specs.Grammar.{is_a_label}
use Rattle.component_text.proofs.Marks.{took_one}
use Rattle.component_text.proofs.cursor.Cursor.take_label.Goals as goal

pub returns-then-is_at_label : goal.returns-then-is_at_label
returns-then-is_at_label c =
    rw (← c.self.view_is) (took_one is_a_label c.self.inside.text.now c.self.inside.rest.now (ap (is_at is_a_label) c.self.view_is ∙ sym c.is_at_label.ensures ∙ c.if-is_at_label.true))
