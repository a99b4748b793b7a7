use Rattle.std.proofs.Common.{◌++◌, ◌∙◌, ap}
use Rattle.machine_check.proofs.parts.with_labelled.Goals as goal

pub returns : goal.returns
returns c = c.of.ensures ∙ c.in_ok-append.ensures.items ∙ ap (λ xs. xs ++ c.args.own.items) c.in_ok-all.ensures
