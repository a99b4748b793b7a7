use Rattle.std.proofs.Common.{◌∙◌, ◌++◌, sym, ap, refl, map, Some, None, Err}
use Rattle.std.specs.List.{zip}
use Rattle.model_core.specs.Faults.{earlier, first_by_place}
use Rattle.check_rules.specs.Declarations.{brings_clash, declared_twice}
use Rattle.check_rules.specs.Visible.{entries, names, seen_from}
use Rattle.context_check.specs.Views.{placed, visible}
use Rattle.context_check.specs.Private.{placed_names}
use Rattle.context_check.proofs.Contexts.{begun}
use Rattle.context_check.proofs.Distinct.{all_distinct, nothing_distinct}
use Rattle.context_check.proofs.context.check_beside.Goals as goal

pub check_axioms-requires : goal.check_axioms-requires
check_axioms-requires c =
    let declared = c.args.sets.now ++ c.args.constants.now in
    all_distinct c.args.name.now (visible c.add_referenced.new.view) declared c.in_ok-clash.clash c.in_ok-twice.twice c.in_ok-label.label
    (c.in_ok-clash.ensures.distinct (nothing_distinct (visible c.nothing_seen-view.result) c.nothing_seen-view.ensures.seen))
    (c.in_ok-twice.ensures ∙ ap (λ ps. first_by_place (declared_twice c.args.name.now (placed_names ps) declared)) c.deref.ensures.value)
    (sym (sym c.in-None.is ∙ c.earlier-2.ensures ∙ ap (λ f. earlier f c.in_ok-label.label) c.earlier.ensures))

pub returns-in-Some : goal.returns-in-Some
returns-in-Some c =
    let parents = map (λ p. p.now) c.args.parents.now in
    begun c.args.name.now c.args.extends.now c.args.sets.now c.args.constants.now c.args.axioms.now parents (visible c.add_referenced.new.view)
    c.in_ok-clash.clash c.in_ok-twice.twice c.in_ok-label.label (Some c.in-Some.fault) (Err c.in-Some.fault)
    (c.in_ok-clash.ensures.first ∙ ap (λ v. first_by_place (brings_clash c.args.name.now v (zip c.args.extends.now parents))) c.nothing_seen-view.ensures.seen)
    (c.in_ok-clash.ensures.seen ∙ ap (λ v. seen_from v parents) c.nothing_seen-view.ensures.seen)
    (c.in_ok-twice.ensures ∙ ap (λ ps. first_by_place (declared_twice c.args.name.now (names (entries (map placed ps))) (c.args.sets.now ++ c.args.constants.now))) c.deref.ensures.value)
    c.in_ok-label.ensures (sym c.in-Some.is ∙ c.earlier-2.ensures ∙ ap (λ f. earlier f c.in_ok-label.label) c.earlier.ensures) refl

pub returns : goal.returns
returns c =
    let parents = map (λ p. p.now) c.args.parents.now in
    begun c.args.name.now c.args.extends.now c.args.sets.now c.args.constants.now c.args.axioms.now parents (visible c.add_referenced.new.view)
    c.in_ok-clash.clash c.in_ok-twice.twice c.in_ok-label.label None c.in_ok-outcome-in-None.outcome
    (c.in_ok-clash.ensures.first ∙ ap (λ v. first_by_place (brings_clash c.args.name.now v (zip c.args.extends.now parents))) c.nothing_seen-view.ensures.seen)
    (c.in_ok-clash.ensures.seen ∙ ap (λ v. seen_from v parents) c.nothing_seen-view.ensures.seen)
    (c.in_ok-twice.ensures ∙ ap (λ ps. first_by_place (declared_twice c.args.name.now (names (entries (map placed ps))) (c.args.sets.now ++ c.args.constants.now))) c.deref.ensures.value)
    c.in_ok-label.ensures (sym c.in-None.is ∙ c.earlier-2.ensures ∙ ap (λ f. earlier f c.in_ok-label.label) c.earlier.ensures) c.in_ok-outcome-in-None.ensures
