use Rattle.std.proofs.Common.{◌∙◌, ap, ◌||◌}
use Rattle.model_core.specs.Each.{is_among}
use Rattle.context_check.proofs.Repeated.{has_none}
use Rattle.machine_check.proofs.assignments.texts_of.Goals as goal

pub returns : goal.returns
returns c = λ x. c.in_ok-add_names.ensures x ∙ ap (λ b. b || is_among c.args.names.now x) (has_none c.new-texts.result c.new-texts.ensures.empty x)
