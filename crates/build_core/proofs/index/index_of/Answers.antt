use Rattle.std.proofs.Common.{sym, subst, arith}
use Rattle.std.proofs.lemmas.List.{take_all}
use Rattle.build_core.specs.Private.{IsIndex}
use Rattle.build_core.proofs.Texts.{one_placed}
use Rattle.build_core.proofs.index.index_of.Goals as goal

pub loop-place-preserved : goal.loop-place-preserved
loop-place-preserved c =
    one_placed c.args.components.now c.loop-place.place c.at.result.now c.loop-place.index.entries c.add_place.new.index.entries
    (omega (arith, c.loop-place-test.true, c.len-place-end.ensures)) (sym (c.at.ensures c.at.result.now)) c.loop-place.invariant c.in_ok-add_place.ensures

pub returns : goal.returns
returns c =
    subst (λ cs. IsIndex cs c.loop-place.index.entries) (take_all c.loop-place.place c.args.components.now (omega (arith, c.loop-place-test.false, c.len-place-end.ensures)))
    c.loop-place.invariant
