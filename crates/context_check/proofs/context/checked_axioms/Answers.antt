use Rattle.std.proofs.Common.{◌∙◌, ◌++◌, ap}
use Rattle.context_check.proofs.context.checked_axioms.Goals as goal

pub returns : goal.returns
returns c = c.of.ensures ∙ c.in_ok-append.ensures.items ∙ ap (λ xs. xs ++ c.args.own.items) c.in_ok-all.ensures
