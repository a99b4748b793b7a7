use Rattle.std.proofs.Common.{◌∙◌, [], ◌||◌, refl, arith}
use Rattle.context_check.specs.declared.declarations.Mark.{Mark}
use Rattle.model_core.specs.Borrowed.{has}
use Rattle.context_check.proofs.Repeated.{none_seen, seen_more, first_here, all_marks}
use Rattle.context_check.proofs.declarations.first_repeated.Goals as goal

abbrev some_mark : Mark
some_mark = record { text = record { ref_ptr = (0, 0); now = [] }; place = 0 }

pub loop-mark-init : goal.loop-mark-init
loop-mark-init c = record { seen = none_seen (has c.args.seen); first = refl }

pub loop-mark-preserved : goal.loop-mark-preserved
loop-mark-preserved c =
    record {
      seen = seen_more c.args.marks.now c.loop-mark.mark-index some_mark c.loop-mark-test.true (has c.args.seen) (has c.loop-mark.seen) (has c.put.new.texts) c.loop-mark.invariant.seen c.in_ok-put.ensures;
      first = c.earlier-first.ensures ∙ first_here c.args.marks.now c.loop-mark.mark-index some_mark c.loop-mark-test.true c.args.kind c.args.component.now (has c.args.known.now) (has c.args.seen) (has c.loop-mark.seen)
          c.loop-mark.first c.in_ok-here.here c.loop-mark.invariant.seen c.in_ok-here.ensures c.loop-mark.invariant.first;
    }

pub returns : goal.returns
returns c = all_marks c.args.kind c.args.component.now (λ x. has c.args.known.now x || has c.args.seen x) c.args.marks.now c.loop-mark.mark-index c.loop-mark.first (omega (arith, c.loop-mark-test.false)) c.loop-mark.invariant.first
