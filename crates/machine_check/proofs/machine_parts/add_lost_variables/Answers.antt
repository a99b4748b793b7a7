use Rattle.std.proofs.Common.{◌∙◌, ◌++◌, ◌&&◌, ◌||◌, ap, map, not}
use Rattle.std.specs.List.{filter}
use Rattle.model_core.specs.Each.{is_among}
use Rattle.check_rules.specs.Contexts.{names_of}
use Rattle.check_rules.specs.Visible.{entries, names}
use Rattle.context_check.specs.Views.{placed}
use Rattle.context_check.proofs.Repeated.{has_none}
use Rattle.machine_check.proofs.machine_parts.add_lost_variables.Goals as goal

pub returns : goal.returns
returns c =
    c.in_ok-add_lost.ensures
    ∙ (λ i. c.args.found.now.items
    ++ filter (λ n. c.in_ok-kept.ensures n i
    && not ((c.in_ok-add_ref_names.ensures n ∙ ap (λ b. b || is_among (names_of c.args.variables.now) n) (has_none c.new-own.result c.new-own.ensures.empty n)) i))
    (names (entries (map placed (c.deref.ensures.value i)))))
