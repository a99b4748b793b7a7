use Rattle.std.proofs.Common.{◌++◌, ◌∙◌, ap}
use Rattle.check_rules.specs.Contexts.{names_of}
use Rattle.check_rules.specs.Typed.{in_order}
use Rattle.machine_check.proofs.parts.with_params.Goals as goal

pub returns : goal.returns
returns c = c.of.ensures ∙ c.in_ok-add_in_order.ensures ∙ ap (λ xs. xs ++ in_order c.args.env.now (names_of c.args.own.now)) (c.into_vec-all.ensures ∙ c.in_ok-copy_identifiers.ensures)
