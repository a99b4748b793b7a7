use Rattle.std.proofs.Common.{◌∙◌, ◌++◌, ap, map}
use Rattle.check_rules.specs.Visible.{origins}
use Rattle.context_check.specs.Views.{placed}
use Rattle.machine_check.proofs.machine_parts.checked_env_of.Goals as goal

pub returns : goal.returns
returns c =
    c.of.ensures ∙ c.in_ok-add_for_each.ensures
    ∙ ap (λ ns. ns ++ map (λ n. c.args.component.now) c.args.new.now)
    (c.in_ok-append.ensures.items
    ∙ (λ i. (c.in_ok-all.ensures ∙ ap (λ ps. origins (map placed ps)) c.deref.ensures.value) i ++ (c.in_ok-variables.ensures ∙ ap (λ ps. origins (map placed ps)) c.deref-2.ensures.value) i))
