use Rattle.std.proofs.Common.{arith}
use Rattle.formula_values.proofs.Numbers.{wide_power, zero_base, one_base}
use Rattle.formula_values.proofs.arithmetic.natural_power.Goals as goal

pub returns-then-m-eq0 : goal.returns-then-m-eq0
returns-then-m-eq0 c =
    let none = c.if-m-eq0.true in let some = c.if-n-eq0.false in
    zero_base c.args.m c.args.n c.args.wide (omega (arith, none)) (omega (arith, some))

pub returns-then-m-eq1 : goal.returns-then-m-eq1
returns-then-m-eq1 c =
    let one = c.if-m-eq1.true in
    one_base c.args.m c.args.n c.args.wide (omega (arith, one)) (omega (arith, one))

pub returns-then-n-ge127 : goal.returns-then-n-ge127
returns-then-n-ge127 c =
    let not_none = c.if-m-eq0.false in let not_one = c.if-m-eq1.false in let far = c.if-n-ge127.true in
    wide_power c.args.m c.args.n c.args.wide (omega (arith, not_none, not_one)) (omega (arith, far))
