use Rattle.std.proofs.Common.{◌∙◌, ap, sym, refl, map}
use Rattle.std.proofs.lemmas.List.{take_all}
use Rattle.std.specs.Option.{option_map}
use Rattle.model_core.specs.Faults.{first_by_place}
use Rattle.check_rules.specs.Visible.{seen_from, clashing, all_visible, of_context}
use Rattle.context_check.specs.Brought.{IsBrought}
use Rattle.context_check.specs.Views.{visible, clashes_with}
use Rattle.context_check.proofs.Seen.{as_many_names, named_at}
use Rattle.context_check.proofs.Clashes.{told, now, first_told, borrowed_clash_more, borrowed_seen_more, all_clashes}
use Rattle.context_check.proofs.Contexts.{length_map}
use Rattle.context_check.proofs.Distinct.{distinct_more}
use Rattle.context_check.proofs.visible.add_referenced.Goals as goal

pub loop-at-init : goal.loop-at-init
loop-at-init c = record {
  indexed = c.requires.indexed;
  brought = λ named e. c.nothing_brought-brought.ensures named (visible c.args.view.now);
  seen = refl;
  distinct = λ d none. d;
  first = refl;
}

pub loop-at-preserved : goal.loop-at-preserved
loop-at-preserved c =
    let v = visible c.args.view.now in
    let w = visible c.loop-at.view in
    let n = visible c.add_once.new.view in
    let context = c.index-contexts-at.result in
    let r = c.index-references-at.result in
    let named = c.requires.each.0 in
    let at = named_at named c.args.references.now c.args.contexts.now c.loop-at.at r context c.requires.each.1 c.loop-at-test.true c.index-references-at.is c.index-contexts-at.is in
    let before = c.loop-at.invariant.brought named c.requires.each.1 in
    let here = c.in_ok-here.ensures ∙ ap (option_map (told c.args.component.now r.place)) (c.in_ok-found.ensures.found named at before.clashes)
    ∙ sym (first_told c.args.component.now r.place (clashes_with (all_visible w)) (all_visible w) (of_context context.now) (λ x o. refl)) in
    let after : IsBrought named w (record { names = c.loop-at.brought.names; clashes = c.clash_of.new.clashes }) =
    record { seen = before.seen; distinct = before.distinct; clashes = c.in_ok-found.ensures.noted named at before.clashes } in
    let grown = c.in_ok-add_once.ensures.seen named at after in
    record {
      indexed = c.in_ok-add_once.ensures.indexed;
      brought = λ other e.
          let there = named_at other c.args.references.now c.args.contexts.now c.loop-at.at r context e c.loop-at-test.true c.index-references-at.is c.index-contexts-at.is in
          let known = c.loop-at.invariant.brought other e in
          c.in_ok-add_once.ensures.brought other there (record { seen = known.seen; distinct = known.distinct; clashes = c.in_ok-found.ensures.noted other there known.clashes });
      seen = borrowed_seen_more v w n c.args.contexts.now c.loop-at.at context c.loop-at-test.true c.index-contexts-at.is c.loop-at.invariant.seen grown;
      distinct = λ d none. distinct_more c.args.component.now r.place w n context.now c.loop-at.first c.in_ok-here.here
          here grown (c.in_ok-add_once.ensures.distinct named at after) (c.loop-at.invariant.distinct d) (sym c.earlier-first.ensures ∙ none);
      first = c.earlier-first.ensures ∙ borrowed_clash_more c.args.component.now v w c.args.references.now c.args.contexts.now c.loop-at.at r context c.loop-at.first c.in_ok-here.here
          (as_many_names c.args.references.now (now c.args.contexts.now) c.requires.each ∙ length_map (λ d. d.now) c.args.contexts.now) c.loop-at-test.true c.index-references-at.is c.index-contexts-at.is
          c.loop-at.invariant.seen c.loop-at.invariant.first here;
    }

pub returns : goal.returns
returns c = record {
  first = all_clashes c.args.component.now (visible c.args.view.now) c.args.references.now c.args.contexts.now c.loop-at.at c.loop-at.first
      (as_many_names c.args.references.now (now c.args.contexts.now) c.requires.each ∙ length_map (λ d. d.now) c.args.contexts.now) c.loop-at-test.false c.loop-at.invariant.first;
  seen = c.loop-at.invariant.seen ∙ ap (λ cs. seen_from (visible c.args.view.now) (now cs)) (take_all c.loop-at.at c.args.contexts.now c.loop-at-test.false);
  indexed = c.loop-at.invariant.indexed;
  distinct = c.loop-at.invariant.distinct;
}
