use Rattle.std.proofs.Common.{◌∙◌, ◌||◌, ap, map, false, arith, bytes_eq}
use Rattle.std.proofs.lemmas.List.{take_all}
use Rattle.model_core.specs.Each.{is_among}
use Rattle.model_core.specs.Borrowed.{has}
use Rattle.context_check.specs.Views.{placed}
use Rattle.context_check.proofs.Copied.{map_map}
use Rattle.context_check.proofs.Repeated.{has_none}
use Rattle.context_check.proofs.Views.{any_more_among}
use Rattle.context_check.proofs.context.known_names.Goals as goal

pub loop-constant-init : goal.loop-constant-init
loop-constant-init c = has_none c.new-known.result c.new-known.ensures.empty

pub loop-constant-preserved : goal.loop-constant-preserved
loop-constant-preserved c = λ x.
    any_more_among (bytes_eq x) (λ y. y.0.0) placed c.args.constants.now c.loop-constant.constant-index c.constant-item.result false (has c.loop-constant.known x) (has c.put.new.texts x)
    c.loop-constant-test.true c.constant-item.is (c.loop-constant.invariant x) (c.in_ok-put.ensures x ∙ ap (λ t. has c.loop-constant.known x || bytes_eq x t) c.as_text.ensures.text)

pub returns : goal.returns
returns c = λ x.
    c.loop-constant.invariant x
    ∙ ap (λ ps. is_among (map (λ y. y.0.0) (map placed ps)) x) (take_all c.loop-constant.constant-index c.args.constants.now (omega (arith, c.loop-constant-test.false)))
    ∙ ap (λ ns. is_among ns x) (map_map (λ e. e.0) (λ y. y.0) (map placed c.args.constants.now))
