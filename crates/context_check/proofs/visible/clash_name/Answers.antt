use Rattle.std.proofs.Common.{◌∙◌, ap, map}
use Rattle.std.specs.List.{zip}
use Rattle.check_rules.specs.Visible.{of_context}
use Rattle.context_check.specs.Views.{placed, clashes, visible}
use Rattle.context_check.specs.Private.{first_clashing}
use Rattle.context_check.proofs.visible.clash_name.Goals as goal

pub returns : goal.returns
returns c =
    c.first_clash.ensures
    ∙ ap (first_clashing (clashes c.args.view.now.names)) (ap (map placed) c.deref.ensures.value ∙ c.in_ok-pairs.ensures ∙ (λ i. zip (c.entries.ensures.entries i) (c.items.ensures i)))
    ∙ (λ i. first_clashing (λ x o. c.requires.names x o i) (of_context c.args.context.now))
