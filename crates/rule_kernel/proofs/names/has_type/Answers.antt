use Rattle.std.proofs.Common.{◌≡◌, ◌∙◌, sym, ap, Some, None}
use Rattle.formula_core.specs.Env.{type_in}
use Rattle.rule_kernel.proofs.InOrder.{lookup_at}
use Rattle.rule_kernel.proofs.names.has_type.Goals as goal

pub returns-in-Some : goal.returns-in-Some
returns-in-Some c =
    let e : Some c.in-Some.found.now ≡ type_in c.args.sorted.now.entries c.args.name.now = c.in-Some.ensures.value ∙ lookup_at c.args.name.now c.args.sorted.now.entries in
    (λ h. sym e ∙ ap Some (c.same.ensures.exact.0 h), λ s. let same : c.in-Some.found.now ≡ c.args.ty.now = cc (e, s) in c.same.ensures.exact.1 same)

pub returns-in-None : goal.returns-in-None
returns-in-None c =
    let e : None ≡ type_in c.args.sorted.now.entries c.args.name.now = c.in-None.ensures.value ∙ lookup_at c.args.name.now c.args.sorted.now.entries in
    (λ h. cc h, λ s. cc (e, s))
