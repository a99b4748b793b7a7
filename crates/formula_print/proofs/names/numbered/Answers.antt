use Rattle.std.proofs.Common.{rules, arith, ◌≡◌, ap, Err, true, false}
use Rattle.formula_core.specs.Names.{is_name}
use Rattle.formula_print.specs.Names.{generated_name}
use Rattle.formula_print.proofs.NumberedNames.{numbered-is_name}
use Rattle.formula_print.proofs.names.numbered.Goals as goal

pub unreachable-requires : goal.unreachable-requires
unreachable-requires c =
    let named : is_name (generated_name c.args.number) ≡ true = numbered-is_name c.args.number (omega arith) in
    let text : c.as_str.result.now ≡ generated_name c.args.number = search rules in
    let bad : is_name c.as_str.result.now ≡ false = c.in-Err-BadName.ensures.bad.0 (ap Err c.in-Err-BadName.field-0-is) in
    cc (ap is_name text)
