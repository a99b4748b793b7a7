use Rattle.std.proofs.Common.{◌∙◌, ◌++◌, map, not}
use Rattle.std.specs.List.{filter}
use Rattle.machine_check.proofs.machine_parts.unrefined.Goals as goal

pub returns : goal.returns
returns c =
    c.of.ensures ∙ c.in_ok-add_unrefined.ensures
    ∙ (λ i. c.new-names.ensures.items i ++ filter (λ n. not (c.in_ok-refined.ensures n i)) (map (λ e. e.name) c.args.abstract_events.now))
