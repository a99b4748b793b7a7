use Rattle.std.proofs.Common.{◌≡◌, ◌∙◌, sym, ◌<◌, [], ◌∷◌, ◌++◌, length, arith}
use Rattle.std.specs.List.{zip}
use Rattle.std.proofs.lemmas.List.{take_all}
use Rattle.rules_logic.proofs.Zips.{zip_more}
use Rattle.rules_logic.proofs.quantified.paired.Goals as goal

pub loop-i-preserved : goal.loop-i-preserved
loop-i-preserved c =
    let types : c.loop-i.i < length c.args.types.now = omega (arith, c.requires, c.loop-i-test.true) in
    c.in_ok-push.ensures.items ∙ (λ j. c.loop-i.invariant j ++ (c.in_ok-copy.ensures j, c.in_ok-copy-2.ensures j) ∷ [])
    ∙ sym (zip_more c.args.names.now c.args.types.now c.loop-i.i _ _ c.loop-i-test.true types c.index-names-i.is c.index-types-i.is)

pub returns : goal.returns
returns c =
    let end : length c.args.names.now ≡ c.loop-i.i = omega (arith, c.loop-i-test.false, c.loop-i.auto.i-end) in
    c.loop-i.invariant ∙ (λ j. zip (take_all c.loop-i.i c.args.names.now (omega (arith, end)) j) (take_all c.loop-i.i c.args.types.now (omega (arith, end, c.requires)) j))
