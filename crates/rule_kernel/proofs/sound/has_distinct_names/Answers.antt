use Rattle.std.proofs.Common.{◌≡◌, ◌∙◌, sym, ap, subst, refl, ℕ, List, [], ◌∷◌, ◌++◌, take, get_or, length, Err, arith}
use Rattle.std.proofs.lemmas.Grind.{common_steps}
use Rattle.std.proofs.lemmas.List.{take_more}
use Rattle.std.specs.Prelude.{IsSome}
use Rattle.formula_core.specs.declared.Ty.{Ty}
use Rattle.formula_core.specs.Env.{HasDistinctNames, type_in}
use Rattle.rule_kernel.proofs.Distinct.{twice}
use Rattle.rule_kernel.proofs.sound.has_distinct_names.Goals as goal

pub returns-in-Err-Taken : goal.returns-in-Err-Taken
returns-in-Err-Taken c =
    let x : List ℕ × Ty = c.identifier-item.result in
    let i : ℕ = c.loop-identifier.identifier-index in
    let stands : IsSome (type_in c.loop-identifier.env c.in_ok-copy.field-0) = c.in-Err-Taken.ensures.taken.0 (ap Err c.in-Err-Taken.field-0-is) in
    let here : IsSome (type_in (take i c.args.identifiers.now) x.0) = subst (λ env. IsSome (type_in env x.0)) c.loop-identifier.invariant (subst (λ n. IsSome (type_in c.loop-identifier.env n)) c.in_ok-copy.ensures stands) in
    (λ h. absurd (cc h), λ d. absurd (twice c.args.identifiers.now i x (omega arith) c.identifier-item.is here d))

pub loop-identifier-preserved : goal.loop-identifier-preserved
loop-identifier-preserved c =
    c.in-Ok.ensures.added
    ∙ (λ j. c.loop-identifier.invariant j ++ (c.in_ok-copy.ensures j, c.in_ok-copy-2.ensures j) ∷ [])
    ∙ ap (λ x. take c.loop-identifier.identifier-index c.args.identifiers.now ++ x ∷ []) c.identifier-item.is
    ∙ sym (take_more c.args.identifiers.now c.loop-identifier.identifier-index c.identifier-item.result (omega arith))

pub returns : goal.returns
returns c =
    let whole : c.loop-identifier.env ≡ c.args.identifiers.now = grind (arith, common_steps) in
    let count : length c.entries.result.now ≡ length c.args.identifiers.now = ap length (c.entries.ensures.entries ∙ whole) in
    (λ h. subst HasDistinctNames whole c.entries.ensures.distinct, λ d. grind (arith, common_steps, count))
