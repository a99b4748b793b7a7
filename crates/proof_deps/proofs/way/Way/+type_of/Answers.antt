use Rattle.std.proofs.Common.{◌∙◌, ap, refl}
use Rattle.std.specs.Option.{option_or, option_copied}
use Rattle.formula_core.specs.Env.{type_in}
use Rattle.proof_deps.proofs.Ways.{env_under, outer_fresh, near_fresh, type_here, type_further}
use Rattle.proof_deps.proofs.way.Way.+type_of.Goals as goal

pub returns-in-Some : goal.returns-in-Some
returns-in-Some t c = λ s f.
    let known = c.type_of.ensures s (outer_fresh _ c.in-Below.antecedent c.in-Below.above c.in-Below.is s f) in
    type_further _ _ c.in-Below.antecedent.now.idents _ _ (type_in s.env c.args.name.now) (env_under _ c.in-Below.antecedent c.in-Below.above c.in-Below.is _ refl s) (known ∙ ap (λ o. option_or (option_copied o) (type_in s.env c.args.name.now)) c.in-Some.is)

pub returns-in-None : goal.returns-in-None
returns-in-None t c = λ s f.
    let known = c.type_of.ensures s (outer_fresh _ c.in-Below.antecedent c.in-Below.above c.in-Below.is s f) in
    type_here _ _ c.items.result.now _ _ _ (env_under _ c.in-Below.antecedent c.in-Below.above c.in-Below.is _ c.items.ensures s) c.type_among.ensures
    (near_fresh _ c.in-Below.antecedent c.in-Below.above c.in-Below.is _ c.items.ensures s f)
    (known ∙ ap (λ o. option_or (option_copied o) (type_in s.env c.args.name.now)) c.in-None.is)
