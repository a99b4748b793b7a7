use Rattle.std.proofs.Common.{◌≡◌, ◌∙◌, ◌++◌, ap, map, subst, IfOk}
use Rattle.check_rules.specs.Typed.{in_order}
use Rattle.check_rules.specs.Visible.{entries}
use Rattle.context_check.specs.Views.{placed}
use Rattle.machine_check.proofs.machine_parts.checked_env.Goals as goal

pub returns : goal.returns
returns c =
    subst (λ all. IfOk c.shared.result (λ env. env ≡ all))
    (c.in_ok-env_of.ensures
    ∙ c.in_ok-add_typed_names.ensures
    ∙ ap (λ es. es ++ in_order c.args.env.now c.args.new.now)
    (c.in_ok-append.ensures.items
    ∙ (λ i. (c.in_ok-all.ensures ∙ ap (λ ps. entries (map placed ps)) c.deref.ensures.value) i ++ (c.in_ok-variables.ensures ∙ ap (λ ps. entries (map placed ps)) c.deref-2.ensures.value) i)))
    c.shared.ensures
