use Rattle.std.proofs.Common.{◌∙◌, ◌++◌, map}
use Rattle.check_rules.specs.Contexts.{labels_of}
use Rattle.context_check.specs.Texts.{mark_of}
use Rattle.machine_check.specs.PrivateNames.{step_mark}
use Rattle.machine_check.proofs.event_names.label_marks.Goals as goal

pub returns : goal.returns
returns c =
    let guards = c.in_ok-add_labels.ensures ∙ (λ i. map mark_of (c.new-marks.ensures.items i) ++ labels_of (c.items.ensures i)) in
    let witnesses = c.in_ok-add_labels-2.ensures ∙ (λ i. guards i ++ labels_of (c.items-2.ensures i)) in
    c.in_ok-add_steps.ensures ∙ (λ i. witnesses i ++ map step_mark (c.items-3.ensures i))
