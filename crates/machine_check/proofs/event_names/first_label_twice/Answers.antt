use Rattle.std.proofs.Common.{◌≡◌, ◌∙◌, ap, subst, IfOk, ◌||◌, map}
use Rattle.model_core.specs.declared.fault.FaultKind.TheVariants as kind
use Rattle.model_core.specs.Faults.{first_by_place}
use Rattle.context_check.specs.Texts.{mark_of, repeated}
use Rattle.model_core.specs.Borrowed.{has}
use Rattle.context_check.proofs.Repeated.{has_none}
use Rattle.machine_check.proofs.Assigned.{or_false}
use Rattle.machine_check.proofs.event_names.first_label_twice.Goals as goal

pub returns : goal.returns
returns c =
    subst (λ fs. IfOk c.first_repeated.result (λ here. here ≡ first_by_place fs))
    (λ i. repeated kind.LabelTwice c.args.component.now
    (λ x. (ap (λ b. has c.in_ok-inherited.inherited x || b) (has_none c.new-seen.result c.new-seen.ensures.empty x) ∙ or_false (has c.in_ok-inherited.inherited x) ∙ c.in_ok-inherited.ensures x) i)
    ((ap (map mark_of) c.deref.ensures.value ∙ c.in_ok-marks.ensures) i))
    c.first_repeated.ensures
