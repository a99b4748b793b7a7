use Rattle.std.proofs.Common.{◌≡◌, ◌∙◌, ap, map}
use Rattle.std.specs.Prelude.{filter}
use Rattle.formula_core.specs.Formulas.{joined}
use Rattle.rule_table.specs.Rules.{added_by, body_of, sorted_by_name}
use Rattle.rule_kernel.specs.Private.{is_other}
use Rattle.rule_kernel.proofs.InOrder.{without_named}
use Rattle.rule_kernel.proofs.names.used_among.Goals as goal

pub returns : goal.returns
returns c =
    let added : c.in_ok-added.added.entries ≡ sorted_by_name (added_by (body_of c.args.rule.now)) = c.in_ok-added.ensures ∙ ap (λ left. sorted_by_name (joined (map (λ a. a.idents) left))) c.items.ensures in
    c.in_ok-used.ensures ∙ c.in_ok-sorted.ensures
    ∙ ap (λ es. sorted_by_name (filter (is_other es) c.args.names.now)) added
    ∙ ap sorted_by_name (without_named (added_by (body_of c.args.rule.now)) c.args.names.now)
