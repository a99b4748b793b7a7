use Rattle.std.proofs.Common.{◌≡◌, ◌∙◌, ◌++◌, ap, map, subst, IfOk}
use Rattle.std.specs.List.{filter}
use Rattle.check_rules.specs.Visible.{entries}
use Rattle.context_check.specs.Views.{placed}
use Rattle.machine_check.proofs.machine_parts.machine_env.Goals as goal

pub returns : goal.returns
returns c =
    subst (λ all. IfOk c.env_of.result (λ env. env ≡ all))
    (c.in_ok-add_kept.ensures
    ∙ (λ i. (c.in_ok-all.ensures ∙ ap (λ ps. entries (map placed ps)) c.deref.ensures.value) i
    ++ filter (λ e. c.in_ok-kept.ensures e.0 i) (entries (map placed (c.deref-2.ensures.value i)))))
    c.env_of.ensures
