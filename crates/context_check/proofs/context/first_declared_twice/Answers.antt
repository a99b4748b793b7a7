use Rattle.std.proofs.Common.{◌∙◌, ◌++◌, ◌||◌, ap, map}
use Rattle.std.proofs.lemmas.List.{map-append}
use Rattle.model_core.specs.Each.{is_among}
use Rattle.model_core.specs.Faults.{first_by_place}
use Rattle.check_rules.specs.Visible.{entries, names}
use Rattle.context_check.specs.Texts.{mark_of, ref_mark}
use Rattle.model_core.specs.Borrowed.{has}
use Rattle.context_check.specs.Views.{placed}
use Rattle.context_check.proofs.Contexts.{after, nothing_more}
use Rattle.context_check.proofs.Repeated.{declared_from, has_none}
use Rattle.context_check.proofs.context.first_declared_twice.Goals as goal

pub returns : goal.returns
returns c =
    let known = names (entries (map placed c.args.constants.now)) in
    let declared = c.args.sets.now ++ c.args.declared.now in
    c.in_ok-first.ensures
    ∙ ap first_by_place (declared_from c.args.name.now known declared (λ x. has c.in_ok-known.known x || has c.new.result x) (map mark_of c.deref.result.now)
    (λ x. nothing_more (has c.in_ok-known.known x) (has c.new.result x) (is_among known x) (c.in_ok-known.ensures x) (has_none c.new.result c.new.ensures.empty x))
    (ap (map mark_of) c.deref.ensures.value
    ∙ after (map ref_mark) (map-append ref_mark) c.args.sets.now c.args.declared.now (map mark_of c.new-marks.result.items) (map mark_of c.add_refs.new.marks.items) (map mark_of c.add_refs-2.new.marks.items)
    c.in_ok-add_refs.ensures c.in_ok-add_refs-2.ensures
    ∙ ap (λ ms. map mark_of ms ++ map ref_mark declared) c.new-marks.ensures.items))
