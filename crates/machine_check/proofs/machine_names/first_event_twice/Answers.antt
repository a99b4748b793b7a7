use Rattle.std.proofs.Common.{◌∙◌, ◌++◌, ◌||◌, [], ap, map, false}
use Rattle.model_core.specs.Faults.{first_by_place}
use Rattle.context_check.specs.Texts.{mark_of, ref_mark}
use Rattle.model_core.specs.Borrowed.{has}
use Rattle.context_check.proofs.Contexts.{nothing_more}
use Rattle.context_check.proofs.Copied.{map_map}
use Rattle.context_check.proofs.Repeated.{declared_from, has_none}
use Rattle.machine_check.proofs.machine_names.first_event_twice.Goals as goal

pub returns : goal.returns
returns c =
    c.in_ok-first.ensures
    ∙ ap first_by_place (declared_from c.args.component.now [] (map (λ e. e.name) c.args.events.now) (λ x. has c.new-known.result x || has c.new.result x) (map mark_of c.deref.result.now)
    (λ x. nothing_more (has c.new-known.result x) (has c.new.result x) false (has_none c.new-known.result c.new-known.ensures.empty x) (has_none c.new.result c.new.ensures.empty x))
    (ap (map mark_of) c.deref.ensures.value ∙ c.in_ok-add_events.ensures ∙ ap (λ ms. map mark_of ms ++ map (λ e. ref_mark e.name) c.args.events.now) c.new-marks.ensures.items
    ∙ map_map ref_mark (λ e. e.name) c.args.events.now))
