use Rattle.std.proofs.Common.{◌∙◌, sym, ap, map, subst}
use Rattle.check_rules.specs.Components.{AreByName, context_references}
use Rattle.context_check.proofs.Contexts.{by_name, beside}
use Rattle.context_check.proofs.context.outcome_of.Goals as goal

pub check_beside-requires : goal.check_beside-requires
check_beside-requires c =
    subst (λ rs. AreByName rs (map (λ p. p.now) c.deref.result.now)) (sym (c.items.ensures ∙ sym (ap context_references c.in-Context.is)))
    (subst (AreByName (context_references c.args.raw.now)) (sym c.in_ok-parents.ensures ∙ ap (map (λ p. p.now)) (sym c.deref.ensures.value))
    (by_name c.args.raw.now (map (λ p. p.now) c.args.parents.now) c.requires.parents))

pub returns : goal.returns
returns c =
    beside c.args.raw.now (map (λ p. p.now) c.args.parents.now) c.in-Context.name c.in-Context.extends c.in-Context.sets c.in-Context.constants c.in-Context.axioms
    c.items.result.now c.items-2.result.now c.items-3.result.now c.items-4.result.now (map (λ p. p.now) c.deref.result.now) c.in_ok-outcome.outcome c.in-Context.is
    c.items.ensures c.items-2.ensures c.items-3.ensures c.items-4.ensures (ap (map (λ p. p.now)) c.deref.ensures.value ∙ c.in_ok-parents.ensures) c.in_ok-outcome.ensures
