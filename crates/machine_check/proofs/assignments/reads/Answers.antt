use Rattle.std.proofs.Common.{◌∙◌, sym, ap}
use Rattle.std.specs.List.{list_any}
use Rattle.formula_core.specs.Formulas.{free_of}
use Rattle.model_core.proofs.Lists.{any_map}
use Rattle.model_core.specs.Borrowed.{has}
use Rattle.machine_check.proofs.assignments.reads.Goals as goal

pub returns : goal.returns
returns c =
    c.any_known.ensures ∙ ap (list_any (λ x. has c.args.variables.now x.0)) (c.deref.ensures.value ∙ c.in_ok-free.ensures)
    ∙ sym (any_map (has c.args.variables.now) (λ x. x.0) (free_of c.args.formula.now))
