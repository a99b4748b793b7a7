use Rattle.std.proofs.Common.{sym, ap, ◌∙◌}
use Rattle.session_lines.specs.Reading.{Fed}
use Rattle.session_lines.proofs.Readings.{rests_open}
use Rattle.session_lines.proofs.input.Input.cut_edit.Goals as goal

pub returns-then-not-has_ended : goal.returns-then-not-has_ended
returns-then-not-has_ended c =
    rests_open c.args.self.now c.requires (ap (λ (f : Fed). f.ended) (sym c.self.view_is) ∙ sym c.has_ended.ensures ∙ c.if-not-has_ended.true)
