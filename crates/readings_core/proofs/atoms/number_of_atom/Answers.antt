use Rattle.std.proofs.Common.{rules, ◌≡◌, ◌∙◌, sym, ap, subst, ◌+◌, pos, take, length, None}
use Rattle.std.specs.Int.{w128}
use Rattle.std.specs.Map.{lookup}
use Rattle.std.specs.Option.{unwrap_or}
use Rattle.std.specs.Prelude.{FitsSigned}
use Rattle.std.proofs.lemmas.Int.{to_z-of_z}
use Rattle.formula_core.specs.Same.{same_formula}
use Rattle.readings_core.proofs.Lookups.{none_yet, found_at}
use Rattle.readings_core.proofs.atoms.number_of_atom.Goals as goal

pub returns-then-same : goal.returns-then-same
returns-then-same c =
    let all = c.items-pair-items.ensures in
    let none = subst (λ es. lookup (same_formula c.args.f.now) (take c.loop-pair.pair-index es) ≡ None) (sym all) c.loop-pair.invariant in
    let found = found_at (same_formula c.args.f.now) c.items-pair-items.result.now c.loop-pair.pair-index c.pair-item.result c.loop-pair-test.true c.pair-item.is none (sym c.same.ensures.test ∙ c.if-same.true) in
    let fits : FitsSigned w128 c.pair-item.result.1 = search rules in
    to_z-of_z w128 c.pair-item.result.1 fits ∙ sym (ap (λ o. unwrap_or o (pos 0)) (sym (ap (lookup (same_formula c.args.f.now)) all) ∙ found))

pub loop-pair-preserved : goal.loop-pair-preserved
loop-pair-preserved c =
    let all = c.items-pair-items.ensures in
    let none = subst (λ es. lookup (same_formula c.args.f.now) (take c.loop-pair.pair-index es) ≡ None) (sym all) c.loop-pair.invariant in
    subst (λ es. lookup (same_formula c.args.f.now) (take (c.loop-pair.pair-index + 1) es) ≡ None) all
    (none_yet (same_formula c.args.f.now) c.items-pair-items.result.now c.loop-pair.pair-index c.pair-item.result c.loop-pair-test.true c.pair-item.is none (sym c.same.ensures.test ∙ c.if-same.false))
