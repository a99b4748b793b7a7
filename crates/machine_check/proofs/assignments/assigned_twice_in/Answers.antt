use Rattle.std.proofs.Common.{◌≡◌, ◌∙◌, ap, subst, IfOk, ◌||◌, map, take}
use Rattle.model_core.specs.Each.{is_among}
use Rattle.model_core.specs.Faults.{first_by_place}
use Rattle.check_rules.specs.Assignments.{all_assigned}
use Rattle.context_check.specs.Texts.{mark_of}
use Rattle.model_core.specs.Borrowed.{has}
use Rattle.context_check.proofs.Repeated.{has_none}
use Rattle.machine_check.proofs.Assigned.{or_false}
use Rattle.machine_check.proofs.Targets.{twice_is}
use Rattle.machine_check.specs.PrivateEvents.{both_of}
use Rattle.machine_check.proofs.assignments.assigned_twice_in.Goals as goal

pub returns : goal.returns
returns c =
    subst (λ fs. IfOk c.first_repeated.result (λ here. here ≡ first_by_place fs))
    (twice_is c.args.component.now (both_of c.args.event.now) (λ x. has c.in_ok-inherited.inherited x || has c.new-seen.result x) (map mark_of c.deref.result.now)
    (λ x. ap (λ b. has c.in_ok-inherited.inherited x || b) (has_none c.new-seen.result c.new-seen.ensures.empty x) ∙ or_false (has c.in_ok-inherited.inherited x) ∙ c.in_ok-inherited.ensures x
    ∙ ap (λ xs. is_among (all_assigned xs) x) (c.first_items.ensures ∙ ap (take c.args.event.now.typed.now.own_actions_from) c.items.ensures))
    (ap (map mark_of) c.deref.ensures.value ∙ c.in_ok-targets.ensures))
    c.first_repeated.ensures
