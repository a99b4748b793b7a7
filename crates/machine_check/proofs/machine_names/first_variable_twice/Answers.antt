use Rattle.std.proofs.Common.{◌∙◌, ◌++◌, ◌||◌, ap, map, not}
use Rattle.std.specs.List.{filter}
use Rattle.model_core.specs.Each.{is_among}
use Rattle.model_core.specs.Faults.{first_by_place}
use Rattle.check_rules.specs.Visible.{entries, all_visible, names}
use Rattle.context_check.specs.Texts.{mark_of, ref_mark}
use Rattle.model_core.specs.Borrowed.{has}
use Rattle.context_check.specs.Views.{visible}
use Rattle.context_check.proofs.Contexts.{nothing_more}
use Rattle.context_check.proofs.Repeated.{declared_from, has_none}
use Rattle.machine_check.proofs.machine_names.first_variable_twice.Goals as goal

pub returns : goal.returns
returns c =
    let seen = names (entries (all_visible (visible c.args.view.now))) in
    c.in_ok-first.ensures
    ∙ ap first_by_place (declared_from c.args.component.now (filter (λ n. not (is_among c.args.kept.now n)) seen) c.args.variables.now (λ x. has c.in_ok-known.known x || has c.new.result x) (map mark_of c.deref.result.now)
    (λ x. nothing_more (has c.in_ok-known.known x) (has c.new.result x) (is_among (filter (λ n. not (is_among c.args.kept.now n)) seen) x)
    (c.in_ok-known.ensures x ∙ (λ i. is_among (filter (λ n. not (c.in_ok-kept.ensures n i)) seen) x)) (has_none c.new.result c.new.ensures.empty x))
    (ap (map mark_of) c.deref.ensures.value ∙ c.in_ok-add_refs.ensures ∙ ap (λ ms. map mark_of ms ++ map ref_mark c.args.variables.now) c.new-marks.ensures.items))
