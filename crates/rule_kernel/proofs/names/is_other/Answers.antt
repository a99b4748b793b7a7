use Rattle.std.proofs.Common.{◌∙◌, ap}
use Rattle.std.specs.Prelude.{not, is_some}
use Rattle.rule_kernel.proofs.InOrder.{lookup_at}
use Rattle.rule_kernel.proofs.names.is_other.Goals as goal

pub returns-in-Some : goal.returns-in-Some
returns-in-Some c = λ ty. ap (λ o. not (is_some o)) (c.in-Some.ensures.value ∙ lookup_at c.args.name.now c.args.added.now.entries)

pub returns-in-None : goal.returns-in-None
returns-in-None c = λ ty. ap (λ o. not (is_some o)) (c.in-None.ensures.value ∙ lookup_at c.args.name.now c.args.added.now.entries)
