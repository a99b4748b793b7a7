use Rattle.std.proofs.Common.{◌∙◌, sym, ap, not, ◌&&◌}
use Rattle.formula_core.specs.Names.{is_identifier}
use Rattle.model_core.proofs.Lists.{identifier_is}
use Rattle.model_core.specs.Borrowed.{has}
use Rattle.machine_check.proofs.environment.is_unprimed_variable.Goals as goal

pub returns-then-not-is_primed : goal.returns-then-not-is_primed
returns-then-not-is_primed c =
    c.has.ensures ∙ ap (has c.args.variables.now) c.as_text.ensures.text
    ∙ ap (λ b. not b && has c.args.variables.now c.args.name.now) (sym c.if-not-is_primed.true)
    ∙ ap (λ b. b && has c.args.variables.now c.args.name.now) (identifier_is c.is_primed.result (is_identifier c.args.name.now) c.is_primed.ensures)
