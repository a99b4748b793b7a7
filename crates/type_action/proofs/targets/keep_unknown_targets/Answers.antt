use Rattle.std.proofs.Common.{◌≡◌, ◌∙◌, ◌∷◌, ◌<◌, ◌+◌, sym, ap, suc, length, drop, drop-cons, add-one, fold, arith}
use Rattle.type_formula.specs.Unknowns.{earlier_name}
use Rattle.type_action.specs.CoreActions.{unknown_targets}
use Rattle.type_action.proofs.UnknownNames.{target_first}
use Rattle.type_action.proofs.targets.keep_unknown_targets.Goals as goal

pub loop-target-preserved : goal.loop-target-preserved
loop-target-preserved c =
    let env = c.args.env.now in
    let targets = c.args.targets.now in
    let i = c.loop-target.target-index in
    let item = c.target-item.result in
    let lt : i < length targets = omega arith in
    let cons : drop i targets ≡ item ∷ drop (i + 1) targets =
    drop-cons targets i item lt ∙ ap (λ x. x ∷ drop (suc i) targets) (sym c.target-item.is) ∙ ap (λ k. item ∷ drop k targets) (sym (add-one i)) in
    ap (λ o. fold earlier_name o (unknown_targets env (drop (i + 1) targets))) c.in_ok-keep_unknown_target.ensures
    ∙ sym (target_first env item (drop (i + 1) targets) c.loop-target.found) ∙ ap (λ rs. fold earlier_name c.loop-target.found (unknown_targets env rs)) (sym cons) ∙ c.loop-target.invariant
