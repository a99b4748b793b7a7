use Rattle.std.proofs.Common.{◌∙◌, ap, map}
use Rattle.model_core.specs.Each.{for_each}
use Rattle.po_rules.specs.Parts.{base, before_after, primed_values, path_with}
use Rattle.po_machine.specs.Private.{substituted_witness}
use Rattle.po_machine.proofs.parts.shared_parts.Goals as goal

pub returns-clause-parts : goal.returns-clause-parts
returns-clause-parts c =
    let m = c.args.machine.now in
    let e = c.args.event.now in
    let choices = c.in_ok-choices.ensures ∙ ap (λ xs. for_each before_after (map (λ a. a.1) xs)) c.items.ensures in
    let witnesses = c.in_ok-witnesses.ensures ∙ ap (λ after. map (substituted_witness (primed_values m after)) e.witnesses) (c.deref.ensures.value ∙ c.in_ok-after.ensures) in
    λ i. record {
      path = path_with m.name e.name;
      env = c.in_ok-env.ensures i;
      base = base m e;
      choices = choices i;
      witnesses = witnesses i;
      after = c.in_ok-after.ensures i;
    }
