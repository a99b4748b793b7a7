use Rattle.std.proofs.Common.{◌≡◌, ◌∙◌, ◌++◌, ap, sym, subst, map, IfOk}
use Rattle.formula_core.specs.Env.{HasDistinctNames}
use Rattle.check_rules.specs.Contexts.{names_of}
use Rattle.check_rules.specs.Typed.{in_order}
use Rattle.check_rules.specs.Visible.{entries}
use Rattle.context_check.specs.Views.{placed}
use Rattle.context_check.proofs.Contexts.{after, in_order_append}
use Rattle.context_check.proofs.Distinct.{with_declared}
use Rattle.context_check.proofs.context.checked_env.Goals as goal

pub of-requires : goal.of-requires
of-requires c =
    subst HasDistinctNames
    (sym (after (λ rs. in_order c.args.env.now (names_of rs)) (in_order_append c.args.env.now) c.args.sets.now c.args.declared.now
    c.in_ok-entries.entries.items c.add_in_order.new.entries.items c.add_in_order-2.new.entries.items c.in_ok-add_in_order.ensures c.in_ok-add_in_order-2.ensures
    ∙ ap (λ es. es ++ in_order c.args.env.now (names_of (c.args.sets.now ++ c.args.declared.now))) c.in_ok-entries.ensures))
    (with_declared c.args.env.now (entries (map placed c.args.constants.now)) (c.args.sets.now ++ c.args.declared.now) c.requires)

pub returns : goal.returns
returns c =
    subst (λ all. IfOk c.shared.result (λ env. env ≡ all))
    (c.of.ensures
    ∙ after (λ rs. in_order c.args.env.now (names_of rs)) (in_order_append c.args.env.now) c.args.sets.now c.args.declared.now
    c.in_ok-entries.entries.items c.add_in_order.new.entries.items c.add_in_order-2.new.entries.items c.in_ok-add_in_order.ensures c.in_ok-add_in_order-2.ensures
    ∙ ap (λ es. es ++ in_order c.args.env.now (names_of (c.args.sets.now ++ c.args.declared.now))) c.in_ok-entries.ensures)
    c.shared.ensures
