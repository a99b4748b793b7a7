use Rattle.std.proofs.Common.{◌∙◌, ◌++◌, ◌&&◌, ap, not}
use Rattle.std.specs.List.{filter}
use Rattle.model_core.specs.Each.{is_among}
use Rattle.check_rules.specs.Contexts.{names_of}
use Rattle.check_rules.specs.Visible.{entries, names}
use Rattle.context_check.specs.Views.{visible}
use Rattle.machine_check.proofs.machine_parts.lost_variables.Goals as goal

pub returns : goal.returns
returns c =
    c.of.ensures ∙ c.in_ok-add_lost_variables.ensures
    ∙ ap (λ ns. ns ++ filter (λ n. is_among c.args.kept.now n && not (is_among (names_of c.args.variables.now) n)) (names (entries (visible c.args.view.now).variables))) c.new-lost.ensures.items
