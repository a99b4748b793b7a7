use Rattle.std.proofs.Common.{map}
use Rattle.std.specs.Option.{option_copied}
use Rattle.check_rules.specs.Components.{ChecksApart}
use Rattle.machine_check.proofs.Machines.{checked_told, fault_told, no_fault_told}
use Rattle.machine_check.proofs.machine.check_machine.Goals as goal

pub returns-in-Ok : goal.returns-in-Ok
returns-in-Ok c =
    let answers = ChecksApart c.args.raw.now (map (λ p. p.now) c.args.seen.now) (option_copied c.args.abstraction) in
    record {
      checked = checked_told answers c.in_ok-outcome.outcome c.in-Ok.checked c.in-Ok.is c.in_ok-outcome.ensures;
      fault = λ f e. no_fault_told answers c.in-Ok.checked f e;
    }

pub returns-in-Err : goal.returns-in-Err
returns-in-Err c =
    let answers = ChecksApart c.args.raw.now (map (λ p. p.now) c.args.seen.now) (option_copied c.args.abstraction) in
    record { checked = tt; fault = λ f e. fault_told answers c.in_ok-outcome.outcome c.in-Err.fault f c.in-Err.is c.in_ok-outcome.ensures e }
