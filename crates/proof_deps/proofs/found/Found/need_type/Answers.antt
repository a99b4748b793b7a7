use Rattle.std.proofs.Common.{refl, ap, ◌∙◌}
use Rattle.std.specs.Option.{option_or, option_copied}
use Rattle.formula_core.specs.Env.{type_in}
use Rattle.proof_deps.proofs.Narrowing.{type_known, type_conflicts, type_added}
use Rattle.proof_deps.proofs.found.Found.need_type.Goals as goal

pub returns-then-not-same-2 : goal.returns-then-not-same-2
returns-then-not-same-2 c = type_conflicts _ _ _ c.in-Some-get.known.now _ _
    (λ s f. c.type_of.ensures s f ∙ ap (λ o. option_or (option_copied o) (type_in s.env c.args.name.now)) c.in_default.is)
    c.in-Some-get.ensures refl (λ e. let yes = c.same-in-Some-get.ensures.exact.1 e in let other = c.if-not-same-2.true in cc)

pub returns-else-not-same-2 : goal.returns-else-not-same-2
returns-else-not-same-2 c = type_known _ _ _ c.in-Some-get.known.now c.args.self.now c.args.self.now
    (λ s f. c.type_of.ensures s f ∙ ap (λ o. option_or (option_copied o) (type_in s.env c.args.name.now)) c.in_default.is)
    c.in-Some-get.ensures (c.same-in-Some-get.ensures.exact.0 c.if-not-same-2.false)

pub returns : goal.returns
returns c = type_added _ _ _ _ _ _
    (λ s f. c.type_of.ensures s f ∙ ap (λ o. option_or (option_copied o) (type_in s.env c.args.name.now)) c.in_default.is)
    refl refl refl c.in_ok-add_used.ensures refl refl
