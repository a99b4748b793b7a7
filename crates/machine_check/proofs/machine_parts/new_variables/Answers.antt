use Rattle.std.proofs.Common.{◌∙◌, ◌++◌, not}
use Rattle.std.specs.List.{filter}
use Rattle.check_rules.specs.Contexts.{names_of}
use Rattle.machine_check.proofs.machine_parts.new_variables.Goals as goal

pub returns : goal.returns
returns c = c.in_ok-add_new.ensures ∙ (λ i. c.new-names.ensures.items i ++ filter (λ n. not (c.in_ok-kept.ensures n i)) (names_of c.args.variables.now))
