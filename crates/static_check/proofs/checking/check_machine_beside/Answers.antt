use Rattle.std.proofs.Common.{map}
use Rattle.std.specs.Option.{option_copied}
use Rattle.static_check.proofs.Beside.{whole_checked, whole_fault, fault_whole, handed_on}
use Rattle.static_check.proofs.checking.check_machine_beside.Goals as goal

pub returns-in_err-machine-clause-fault : goal.returns-in_err-machine-clause-fault
returns-in_err-machine-clause-fault c = λ f e.
    fault_whole c.args.raw.now (map (λ p. p.now) c.args.seen.now) (option_copied c.args.abstraction) f
    (c.in_err-machine.ensures.fault f (handed_on c.from_residual.result c.in_err-machine.field-0.0 f c.from_residual.ensures.1 e))

pub returns-in-None-clause-checked : goal.returns-in-None-clause-checked
returns-in-None-clause-checked c =
    whole_checked c.args.raw.now (map (λ p. p.now) c.args.seen.now) (option_copied c.args.abstraction)
    c.in_ok-machine.machine c.in_ok-machine.assignment c.in_ok-refinement.refinement c.earlier.result
    c.in_ok-machine.ensures.checked c.in_ok-refinement.ensures.first c.earlier.ensures c.in-None.is

pub returns-in-Some-clause-fault : goal.returns-in-Some-clause-fault
returns-in-Some-clause-fault c = λ f e.
    whole_fault c.args.raw.now (map (λ p. p.now) c.args.seen.now) (option_copied c.args.abstraction)
    c.in_ok-machine.machine c.in_ok-machine.assignment c.in_ok-refinement.refinement c.earlier.result c.in-Some.fault f
    c.in_ok-machine.ensures.checked c.in_ok-refinement.ensures.first c.earlier.ensures c.in-Some.is e
