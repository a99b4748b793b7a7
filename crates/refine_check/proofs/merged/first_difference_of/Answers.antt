use Rattle.std.proofs.Common.{◌∙◌, refl}
use Rattle.refine_check.proofs.Merging.{difference_more}
use Rattle.refine_check.proofs.OtherTypes.{none_noted, types_more}
use Rattle.refine_check.proofs.merged.first_difference_of.Goals as goal

pub loop-at-init : goal.loop-at-init
loop-at-init c = record {
  first = refl;
  types = none_noted c.new-types.result c.new-types.ensures.empty;
}

pub loop-at-preserved : goal.loop-at-preserved
loop-at-preserved c = record {
  first =
      c.earlier-first.ensures
      ∙ difference_more c.args.component.now c.args.kept.now c.args.found.now c.loop-at.at c.index-found-at.result c.loop-at.first c.in_ok-here.here c.loop-at-test.true c.index-found-at.is
      c.loop-at.invariant.first c.in_ok-here.ensures;
  types =
      types_more c.args.found.now c.loop-at.at c.index-found-at.result c.items.result.now c.loop-at.types c.note_types.new.types c.loop-at-test.true c.index-found-at.is c.items.ensures
      c.loop-at.invariant.types c.in_ok-note_types.ensures;
}
