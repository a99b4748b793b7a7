use Rattle.std.proofs.Common.{map, bytes_eq}
use Rattle.std.proofs.lemmas.List.{map-append}
use Rattle.model_core.specs.Borrowed.{has}
use Rattle.context_check.proofs.Views.{grows, none_before, any_more, append_none}
use Rattle.context_check.proofs.visible.push_names.Goals as goal

pub loop-name-init : goal.loop-name-init
loop-name-init c = record { names = append_none (map (λ n. n.now) c.args.names.now.items); known = λ x. none_before (has c.args.known.now x) }

pub loop-name-preserved : goal.loop-name-preserved
loop-name-preserved c = record {
  names = grows (map (λ n. n.now)) (map-append (λ n. n.now)) c.args.fresh.now c.loop-name.name-index c.name-item.result
      (map (λ n. n.now) c.args.names.now.items) (map (λ n. n.now) c.loop-name.names.items) (map (λ n. n.now) c.push_name.new.names.items) c.loop-name-test.true c.name-item.is c.loop-name.invariant.names c.in_ok-push_name.ensures.names;
  known = λ x. any_more (bytes_eq x) (λ n. n.now) c.args.fresh.now c.loop-name.name-index c.name-item.result (has c.args.known.now x) (has c.loop-name.known x) (has c.push_name.new.known x)
      c.loop-name-test.true c.name-item.is (c.loop-name.invariant.known x) (c.in_ok-push_name.ensures.known x);
}
