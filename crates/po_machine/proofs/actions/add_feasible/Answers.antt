use Rattle.std.proofs.Common.{◌≡◌, ◌∙◌, OnOk, ap, map, subst, sym}
use Rattle.std.specs.Prelude.{codes}
use Rattle.model_core.specs.Each.{for_each}
use Rattle.po_rules.specs.Gathering.{gathered}
use Rattle.formula_core.specs.Names.{with_prime}
use Rattle.po_rules.specs.Rows.{feasible, for_some_of, from_base, of_kind}
use Rattle.po_machine.specs.Shared.{parts_in, view}
use Rattle.po_machine.proofs.Gathering.{just_one}
use Rattle.po_machine.proofs.actions.add_feasible.Goals as goal

pub returns-in_ok-goal-in-ChooseSuch : goal.returns-in_ok-goal-in-ChooseSuch
returns-in_ok-goal-in-ChooseSuch c =
    let rows = from_base (parts_in c.args.parts.now) (of_kind c.args.label.now (codes "FIS")) in
    let old = view c.args.out.now in
    let q = c.in-ChooseSuch.predicate in
    subst (λ g. OnOk c.add_from_base-in-ChooseSuch.result (view c.add_from_base-in-ChooseSuch.new.out ≡ g))
    (ap (λ f. gathered old (rows f)) (c.in_ok-goal-in-ChooseSuch.ensures ∙ ap (λ ids. for_some_of (map with_prime ids) q) c.items.ensures)
    ∙ sym (just_one old rows (for_some_of (map with_prime c.in-ChooseSuch.targets) q))
    ∙ ap (λ a. gathered old (for_each rows (feasible a))) (sym c.in-ChooseSuch.is))
    c.add_from_base-in-ChooseSuch.ensures
