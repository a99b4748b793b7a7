use Rattle.std.proofs.Common.{Some, None, Ok, Err}
use Rattle.check_rules.specs.Components.{ChecksBeside}
use Rattle.static_check.specs.PrivateChecks.{ChecksWith}
use Rattle.static_check.proofs.Beside.{nows, behind_first, refined_whole, unrefined_whole, if_ok}
use Rattle.static_check.proofs.checking.check_beside.Goals as goal

pub returns-then-is_some-clause-checked : goal.returns-then-is_some-clause-checked
returns-then-is_some-clause-checked c =
    if_ok c.check_machine_beside.result (λ x. ChecksWith c.args.raw.now (nows (behind_first c.args.parts.now)) (Some c.index-parts-0.result.now) (Ok x))
    (λ x. ChecksBeside c.args.raw.now (nows c.args.parts.now) (Ok x))
    (λ x. refined_whole c.in-Machine.name c.in-Machine.refines c.in-Machine.sees c.in-Machine.variables c.in-Machine.invariants c.in-Machine.variant c.in-Machine.events
    c.args.raw.now c.is_some.result c.in-Machine.is c.is_some.ensures c.if-is_some.true c.args.parts.now c.index-parts-0.result c.index-parts-0.is c.requires.parts (Ok x))
    c.check_machine_beside.ensures.checked

pub returns-then-is_some-clause-fault : goal.returns-then-is_some-clause-fault
returns-then-is_some-clause-fault c = λ f e.
    refined_whole c.in-Machine.name c.in-Machine.refines c.in-Machine.sees c.in-Machine.variables c.in-Machine.invariants c.in-Machine.variant c.in-Machine.events
    c.args.raw.now c.is_some.result c.in-Machine.is c.is_some.ensures c.if-is_some.true c.args.parts.now c.index-parts-0.result c.index-parts-0.is c.requires.parts (Err f)
    (c.check_machine_beside.ensures.fault f e)

pub returns-else-is_some-clause-checked : goal.returns-else-is_some-clause-checked
returns-else-is_some-clause-checked c =
    if_ok c.check_machine_beside-else-is_some.result (λ x. ChecksWith c.args.raw.now (nows c.args.parts.now) None (Ok x))
    (λ x. ChecksBeside c.args.raw.now (nows c.args.parts.now) (Ok x))
    (λ x. unrefined_whole c.in-Machine.name c.in-Machine.refines c.in-Machine.sees c.in-Machine.variables c.in-Machine.invariants c.in-Machine.variant c.in-Machine.events
    c.args.raw.now c.is_some.result c.in-Machine.is c.is_some.ensures c.if-is_some.false (nows c.args.parts.now) c.requires.parts (Ok x))
    c.check_machine_beside-else-is_some.ensures.checked

pub returns-else-is_some-clause-fault : goal.returns-else-is_some-clause-fault
returns-else-is_some-clause-fault c = λ f e.
    unrefined_whole c.in-Machine.name c.in-Machine.refines c.in-Machine.sees c.in-Machine.variables c.in-Machine.invariants c.in-Machine.variant c.in-Machine.events
    c.args.raw.now c.is_some.result c.in-Machine.is c.is_some.ensures c.if-is_some.false (nows c.args.parts.now) c.requires.parts (Err f)
    (c.check_machine_beside-else-is_some.ensures.fault f e)
