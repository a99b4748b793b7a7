use Rattle.std.proofs.Common.{◌∙◌, ◌++◌, ap, sym, subst, map}
use Rattle.formula_core.specs.Env.{HasDistinctNames}
use Rattle.check_rules.specs.Contexts.{carrier_set}
use Rattle.check_rules.specs.Visible.{entries}
use Rattle.context_check.specs.Views.{placed}
use Rattle.context_check.proofs.Distinct.{with_sets}
use Rattle.context_check.proofs.context.context_env.Goals as goal

pub of-requires : goal.of-requires
of-requires c =
    subst HasDistinctNames (sym (c.in_ok-add_carrier_sets.ensures ∙ ap (λ es. es ++ map carrier_set c.args.sets.now) c.in_ok-entries.ensures))
    (with_sets (entries (map placed c.args.constants.now)) c.args.sets.now c.requires)

pub returns : goal.returns
returns c = c.of.ensures ∙ c.in_ok-add_carrier_sets.ensures ∙ ap (λ es. es ++ map carrier_set c.args.sets.now) c.in_ok-entries.ensures
