use Rattle.std.proofs.Common.{◌∙◌, ap, ◌++◌}
use Rattle.formula_core.specs.Identifiers.{carriers}
use Rattle.formula_core.proofs.Carriers.{added_pair}
use Rattle.formula_core.proofs.ty.Ty.+add_carriers.Goals as goal

pub returns-in_ok-add_carriers-in-Pair-2 : goal.returns-in_ok-add_carriers-in-Pair-2
returns-in_ok-add_carriers-in-Pair-2 t c =
    added_pair c.args.found.now.items _ _ c.args.self.now c.in-Pair.left c.in-Pair.right c.in-Pair.is
    (c.in_ok-add_carriers-in-Pair.ensures ∙ ap (λ ty. c.args.found.now.items ++ carriers ty) c.get-in-Pair.ensures)
    (c.in_ok-add_carriers-in-Pair-2.ensures ∙ ap (λ ty. c.add_carriers-in-Pair.new.found.items ++ carriers ty) c.get-in-Pair-2.ensures)
