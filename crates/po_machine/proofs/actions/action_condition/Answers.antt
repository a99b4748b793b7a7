use Rattle.std.proofs.Common.{◌≡◌, ◌∙◌, IfOk, ap, map, subst, sym}
use Rattle.formula_core.specs.Names.{with_prime}
use Rattle.po_rules.specs.Rows.{action_condition, for_every_of}
use Rattle.po_machine.proofs.actions.action_condition.Goals as goal

pub returns-in_ok-condition-in-ChooseSuch : goal.returns-in_ok-condition-in-ChooseSuch
returns-in_ok-condition-in-ChooseSuch c =
    rw c.instead_of.ensures
    (subst (λ f. IfOk c.for_every_of-all.result (λ made. made ≡ f))
    (ap (λ ids. for_every_of ids c.in_ok-condition-in-ChooseSuch.condition) (c.deref.ensures.value ∙ c.in_ok-primed-in-ChooseSuch.ensures ∙ ap (map with_prime) c.items-in-ChooseSuch.ensures)
    ∙ ap (for_every_of (map with_prime c.in-ChooseSuch.targets)) c.in_ok-condition-in-ChooseSuch.ensures.value
    ∙ ap action_condition (sym c.in-ChooseSuch.is))
    c.for_every_of-all.ensures)
