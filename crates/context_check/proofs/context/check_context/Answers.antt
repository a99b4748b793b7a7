use Rattle.std.proofs.Common.{map}
use Rattle.check_rules.specs.Components.{ChecksBeside}
use Rattle.context_check.proofs.Contexts.{checked_told, fault_told, no_fault_told}
use Rattle.context_check.proofs.context.check_context.Goals as goal

pub returns-in-Ok : goal.returns-in-Ok
returns-in-Ok c =
    let outcomes = ChecksBeside c.args.raw.now (map (λ p. p.now) c.args.parents.now) in
    record {
      checked = checked_told outcomes c.in_ok-outcome.outcome c.in-Ok.checked c.in-Ok.is c.in_ok-outcome.ensures;
      fault = λ f e. no_fault_told outcomes c.in-Ok.checked f e;
    }

pub returns-in-Err : goal.returns-in-Err
returns-in-Err c =
    let outcomes = ChecksBeside c.args.raw.now (map (λ p. p.now) c.args.parents.now) in
    record { checked = tt; fault = λ f e. fault_told outcomes c.in_ok-outcome.outcome c.in-Err.fault f c.in-Err.is c.in_ok-outcome.ensures e }
