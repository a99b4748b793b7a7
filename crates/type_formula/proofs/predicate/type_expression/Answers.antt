use Rattle.std.proofs.Common.{[]}
use Rattle.std.specs.Option.{option_copied}
use Rattle.type_formula.specs.CoreForms.{core_form}
use Rattle.type_formula.proofs.Standing.{if_ok, formulas_stand}
use Rattle.type_formula.proofs.predicate.type_expression.Goals as goal

pub returns-clause-standing : goal.returns-clause-standing
returns-clause-standing c has k =
    if_ok _ _ c.type_formula.result (λ f h. (formulas_stand c.args.env.now [] (core_form c.args.raw.now) (option_copied c.args.expected) f h has k).typed) c.type_formula.ensures.typed
