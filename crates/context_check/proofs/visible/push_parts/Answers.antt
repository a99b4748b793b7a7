use Rattle.std.proofs.Common.{map, bytes_eq}
use Rattle.std.proofs.lemmas.List.{map-append}
use Rattle.model_core.specs.Borrowed.{has}
use Rattle.context_check.specs.Views.{placed}
use Rattle.context_check.proofs.Views.{grows, none_before, any_more_among, append_none}
use Rattle.context_check.proofs.visible.push_parts.Goals as goal

pub loop-pair-init : goal.loop-pair-init
loop-pair-init g c = record { parts = append_none (map placed c.args.parts.now.items); known = λ x. none_before (has c.args.known.now x) }

pub loop-pair-preserved : goal.loop-pair-preserved
loop-pair-preserved g c = record {
  parts = grows (map placed) (map-append placed) c.args.fresh.now c.loop-pair.pair-index c.pair-item.result
      (map placed c.args.parts.now.items) (map placed c.loop-pair.parts.items) (map placed c.push_part.new.parts.items) c.loop-pair-test.true c.pair-item.is c.loop-pair.invariant.parts c.in_ok-push_part.ensures.parts;
  known = λ x. any_more_among (bytes_eq x) (λ y. y.1) placed c.args.fresh.now c.loop-pair.pair-index c.pair-item.result (has c.args.known.now x) (has c.loop-pair.known x) (has c.push_part.new.known x)
      c.loop-pair-test.true c.pair-item.is (c.loop-pair.invariant.known x) (c.in_ok-push_part.ensures.known x);
}
