use Rattle.std.proofs.Common.{arith}
use Rattle.formula_values.proofs.FormRules.{many_operands}
use Rattle.formula_values.proofs.giving.gives_some.Goals as goal

pub returns-in-len3-up : goal.returns-in-len3-up
returns-in-len3-up c = let many = c.in-len3-up.len_at_least in many_operands c.args.op c.args.operands.now (omega (arith, many))
