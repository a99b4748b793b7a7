use Rattle.std.proofs.Common.{◌∙◌, ◌++◌, ◌||◌, [], ap, map, false}
use Rattle.model_core.specs.Faults.{first_by_place}
use Rattle.check_rules.specs.Contexts.{labels_of}
use Rattle.context_check.specs.Texts.{mark_of}
use Rattle.model_core.specs.Borrowed.{has}
use Rattle.context_check.proofs.Contexts.{nothing_more}
use Rattle.context_check.proofs.Repeated.{labelled_from, has_none}
use Rattle.context_check.proofs.context.first_labelled_twice.Goals as goal

pub returns : goal.returns
returns c =
    let labels = labels_of c.args.axioms.now in
    c.in_ok-first.ensures
    ∙ ap first_by_place (labelled_from c.args.name.now [] labels (λ x. has c.new-known.result x || has c.new.result x) (map mark_of c.deref.result.now)
    (λ x. nothing_more (has c.new-known.result x) (has c.new.result x) false (has_none c.new-known.result c.new-known.ensures.empty x) (has_none c.new.result c.new.ensures.empty x))
    (ap (map mark_of) c.deref.ensures.value ∙ c.in_ok-add_labels.ensures ∙ ap (λ ms. map mark_of ms ++ labels) c.new-marks.ensures.items))
