use Rattle.std.proofs.Common.{subst}
use Rattle.std.specs.Option.{option_copied}
use Rattle.type_formula.specs.Answers.{HasNoFormula}
use Rattle.type_formula.proofs.predicate.type_formula.Goals as goal

pub returns-clause-clash : goal.returns-clause-clash
returns-clause-clash c h = subst (λ b. HasNoFormula c.args.env.now c.args.wanted.now b (option_copied c.args.expected)) c.in_ok-tree.ensures (c.type_tree.ensures.clash h)
