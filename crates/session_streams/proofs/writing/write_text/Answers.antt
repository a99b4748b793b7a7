use Rattle.std.proofs.Common.{arith}
use Rattle.std.proofs.lemmas.List.{take_rest, length-drop}
use Rattle.session_streams.proofs.Known.{Appends-both, Appends-same, take-both}
use Rattle.session_streams.proofs.writing.write_text.Goals as goal

pub loop-at-preserved : goal.loop-at-preserved
loop-at-preserved g c =
    let place = c.loop-at.at in
    let text = c.args.text.now in
    let bound = rw take_rest at c.in_ok-at.ensures.bound in
    let bytes = rw take_rest at c.in_ok-at.ensures.bytes in (
      omega (arith, simp length-drop at bound, c.loop-at.invariant.0),
      Appends-same _ _ _ _ (take-both place c.in_ok-at.field-0 text) (Appends-both _ _ _ _ _ c.loop-at.invariant.1 bytes),
      omega (arith, c.loop-at.invariant.2, c.in_ok-at.ensures.cause.later),
    )
