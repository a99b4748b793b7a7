use Rattle.std.proofs.Common.{◌≡◌, ◌∙◌, OnOk, ap, subst}
use Rattle.std.specs.Prelude.{codes}
use Rattle.formula_core.specs.Formulas.{substituted}
use Rattle.formula_core.specs.Types.{is_integer}
use Rattle.formula_core.specs.Wellness.{type_of}
use Rattle.model_core.specs.Components.{is_convergent}
use Rattle.po_rules.specs.Gathering.{gathered}
use Rattle.po_rules.specs.Rows.{decrease, from_choices}
use Rattle.po_machine.specs.Shared.{parts_in, view}
use Rattle.po_machine.proofs.variant.add_decrease.Goals as goal

pub returns : goal.returns
returns c =
    let v = c.args.variant.now in
    let kind = is_integer (type_of v) in
    subst (λ f. OnOk c.add_whole_from_choices.result (view c.add_whole_from_choices.new.out ≡ gathered (view c.args.out.now) (from_choices (parts_in c.args.parts.now) (codes "VAR") f)))
    (c.in_ok-goal.ensures ∙ ap (λ b. decrease kind b c.in_ok-after.after v) c.is_convergent.ensures
    ∙ ap (λ f. decrease kind (is_convergent c.args.parts.now.event.now.convergence) f v) (c.in_ok-after.ensures ∙ ap (λ pairs. substituted pairs v) c.deref.ensures.value))
    c.add_whole_from_choices.ensures
