use Rattle.std.proofs.Common.{◌++◌, ◌∙◌, ap}
use Rattle.machine_check.proofs.parts.with_actions.Goals as goal

pub returns : goal.returns
returns c = c.of.ensures ∙ c.in_ok-append.ensures.items ∙ ap (λ xs. xs ++ c.args.own.items) (c.into_vec-all.ensures ∙ c.in_ok-copy_labelled_actions.ensures)
