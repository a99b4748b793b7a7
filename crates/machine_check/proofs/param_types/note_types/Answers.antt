use Rattle.std.proofs.Common.{refl}
use Rattle.machine_check.specs.PrivateTyped.{type_of_text}
use Rattle.machine_check.proofs.Types.{or_none, types_grow}
use Rattle.machine_check.proofs.param_types.note_types.Goals as goal

pub loop-param-init : goal.loop-param-init
loop-param-init c = λ x. or_none (type_of_text c.args.types.now x)

pub loop-param-preserved : goal.loop-param-preserved
loop-param-preserved c =
    types_grow (λ ps. ps) (λ xs ys. refl) c.args.params.now c.loop-param.param-index c.param-item.result
    (type_of_text c.args.types.now) (type_of_text c.loop-param.types) (type_of_text c.note_type.new.types) c.loop-param-test.true c.param-item.is c.loop-param.invariant c.in_ok-note_type.ensures
