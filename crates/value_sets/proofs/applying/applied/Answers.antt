use Rattle.value_sets.proofs.Functions.{applied_value}
use Rattle.value_sets.proofs.applying.applied.Goals as goal

pub returns-in_ok-copy-in-Some : goal.returns-in_ok-copy-in-Some
returns-in_ok-copy-in-Some c =
    applied_value c.args.r.now c.args.a.now c.in-Some.b.now c.in_ok-copy-in-Some.field-0 c.members.result.now c.in_ok-is_functional-in-Some.field-0
    c.members.ensures c.in-Some.ensures c.in_ok-is_functional-in-Some.ensures c.if-branch.true c.in_ok-copy-in-Some.ensures
