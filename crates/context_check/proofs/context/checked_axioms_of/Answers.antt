use Rattle.std.proofs.Common.{◌∙◌, ◌++◌, ap, map}
use Rattle.context_check.proofs.context.checked_axioms_of.Goals as goal

pub returns : goal.returns
returns c = c.of.ensures ∙ c.in_ok-add_for_each.ensures ∙ ap (λ ns. ns ++ map (λ l. c.args.name.now) c.args.own.now) c.in_ok-names.ensures
