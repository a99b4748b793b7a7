use Rattle.std.proofs.Common.{◌∙◌, sym, ap, map, subst}
use Rattle.std.specs.Option.{option_copied}
use Rattle.check_rules.specs.Components.{AreByName, context_references}
use Rattle.context_check.proofs.Contexts.{by_name}
use Rattle.machine_check.proofs.Machines.{apart}
use Rattle.machine_check.proofs.machine.outcome_of.Goals as goal

pub check_apart-requires : goal.check_apart-requires
check_apart-requires c =
    subst (λ rs. AreByName rs (map (λ p. p.now) c.deref.result.now)) (sym (c.items.ensures ∙ sym (ap context_references c.in-Machine.is)))
    (subst (AreByName (context_references c.args.raw.now)) (sym c.in_ok-seen.ensures ∙ ap (map (λ p. p.now)) (sym c.deref.ensures.value))
    (by_name c.args.raw.now (map (λ p. p.now) c.args.seen.now) c.requires.seen))

pub returns : goal.returns
returns c =
    apart c.args.raw.now (map (λ p. p.now) c.args.seen.now) (option_copied c.args.abstraction) (option_copied c.machine_at.result) c.in-Machine.name c.in-Machine.refines c.in-Machine.sees c.in-Machine.variables
    c.in-Machine.invariants c.in-Machine.variant c.in-Machine.events
    (record { name = c.in-Machine.name; sees = c.items.result.now; variables = c.items-2.result.now; invariants = c.items-3.result.now; variant = option_copied c.as_ref.result; events = c.items-4.result.now })
    (map (λ p. p.now) c.deref.result.now) c.in_ok-answer.answer c.in-Machine.is
    (λ i. record { name = c.in-Machine.name; sees = c.items.ensures i; variables = c.items-2.ensures i; invariants = c.items-3.ensures i; variant = c.as_ref.ensures.value i; events = c.items-4.ensures i })
    c.machine_at.ensures (ap (map (λ p. p.now)) c.deref.ensures.value ∙ c.in_ok-seen.ensures) c.in_ok-answer.ensures
