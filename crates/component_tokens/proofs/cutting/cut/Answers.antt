use Rattle.std.proofs.Common.{◌≡◌, [], length, None, arith, append-nil, subst}
use Rattle.component_tokens.specs.Pieces.{CutInto, at_end, over_gap}
use Rattle.component_tokens.proofs.Walk.{gap_ends, piece_ends, one_more, stops}
use Rattle.component_tokens.proofs.cutting.cut.Goals as goal

pub overflow_add-at : goal.overflow_add-at
overflow_add-at c =
    let ends = gap_ends c.args.text.now c.loop-at.at c.loop-at-test.true c.in-Gap.length c.in-Gap.ensures in
    let room = ends.1 in
    grind (arith, c.requires)

pub loop-at-preserved-in-Gap : goal.loop-at-preserved-in-Gap
loop-at-preserved-in-Gap c =
    let ends = gap_ends c.args.text.now c.loop-at.at c.loop-at-test.true c.in-Gap.length c.in-Gap.ensures in
    record {
      within = ends.1;
      so_far = λ ts o cut. c.loop-at.invariant.so_far ts o (over_gap c.loop-at-test.true c.in-Gap.ensures cut);
    }

pub loop-at-preserved : goal.loop-at-preserved
loop-at-preserved c =
    record {
      within = (piece_ends c.args.text.now c.loop-at.at c.loop-at-test.true c.in-Token.token c.in-Token.ensures).1;
      so_far = λ ts o cut.
          rw c.in_ok-push-in-Token.ensures.items
          (one_more c.args.text.now c.loop-at.tokens.items c.in-Token.token c.loop-at.at c.loop-at-test.true c.in-Token.ensures c.loop-at.invariant.so_far ts o cut);
    }

pub returns-in-Fault : goal.returns-in-Fault
returns-in-Fault c = stops c.args.text.now c.loop-at.tokens.items c.in-Fault.fault c.loop-at.at c.loop-at-test.true c.in-Fault.ensures c.loop-at.invariant.so_far

pub returns : goal.returns
returns c =
    let end : c.loop-at.at ≡ length c.args.text.now = omega (arith, c.loop-at.invariant.within, c.loop-at-test.false) in
    subst (λ ts. CutInto c.args.text.now 0 ts None) (append-nil c.loop-at.tokens.items) (c.loop-at.invariant.so_far [] None (at_end end))
