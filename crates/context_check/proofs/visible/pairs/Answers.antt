use Rattle.std.proofs.Common.{◌≡◌, ◌∙◌, ◌++◌, ap, sym, map, take}
use Rattle.std.specs.List.{zip, HoldsAt}
use Rattle.std.specs.Option.{option_map, option_to_list, option_copied}
use Rattle.std.proofs.lemmas.List.{take_all}
use Rattle.context_check.specs.Views.{placed}
use Rattle.context_check.proofs.Views.{zip_nothing, zip_more, got}
use Rattle.context_check.proofs.visible.pairs.Goals as goal

pub loop-at-init : goal.loop-at-init
loop-at-init g c = ap (map placed) c.new-pairs.ensures.items ∙ sym (zip_nothing c.args.parts.now)

pub loop-at-preserved : goal.loop-at-preserved
loop-at-preserved g c =
    let origin = c.index-origins-at.result in
    c.in_ok-add_pair.ensures
    ∙ ap (λ ps. ps ++ option_to_list (option_map (λ x. (x, origin)) (option_copied c.get.result))) c.loop-at.invariant
    ∙ ap (λ o. zip c.args.parts.now (take c.loop-at.at c.args.origins.now) ++ option_to_list (option_map (λ x. (x, origin)) o)) (got (λ x. HoldsAt (λ y. x.now ≡ y) c.args.parts.now c.loop-at.at) c.args.parts.now c.loop-at.at c.get.result c.get.ensures.lookup.3 c.get.ensures.lookup.1)
    ∙ sym (zip_more c.args.parts.now c.args.origins.now c.loop-at.at origin c.loop-at-test.true c.index-origins-at.is)

pub returns : goal.returns
returns g c = c.loop-at.invariant ∙ ap (zip c.args.parts.now) (take_all c.loop-at.at c.args.origins.now c.loop-at-test.false)
