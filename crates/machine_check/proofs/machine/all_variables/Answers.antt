use Rattle.std.proofs.Common.{◌∙◌, ◌++◌, ◌&&◌, not}
use Rattle.std.specs.List.{filter}
use Rattle.model_core.specs.Each.{is_among}
use Rattle.check_rules.specs.Contexts.{names_of}
use Rattle.check_rules.specs.Visible.{entries, names}
use Rattle.machine_check.proofs.machine.all_variables.Goals as goal

pub returns : goal.returns
returns c =
    c.in_ok-add_lost_variables.ensures
    ∙ (λ i. c.in_ok-all.ensures i
    ++ filter (λ n. is_among (c.abstract_variables-kept.ensures i) n && not (is_among (names_of c.args.written.now.variables.now) n)) (names (entries (c.requires i))))
