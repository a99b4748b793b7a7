use Rattle.std.proofs.Common.{sym}
use Rattle.component_text.specs.Grammar.{Lines}
use Rattle.component_text.specs.Forms.{limits}
use Rattle.component_text.proofs.Components.{exit_with, lines_more, lines_done, lines_stop, lines_later, lines_later_passes, line_takes}
use Rattle.component_text.proofs.parse.lines.Goals as goal

pub returns-in_err-line : goal.returns-in_err-line
returns-in_err-line c =
    exit_with Lines c.args.cursor.now c.line.new.cursor c.from_residual.result c.in_err-line.field-0.0 c.from_residual.ensures.1
    (lines_stop c.args.cursor.now c.loop-alloc.cursor c.line.new.cursor c.in_err-line.field-0.0 (sym c.loop-alloc-test.ensures) c.in_err-line.ensures c.loop-alloc.invariant.refused c.loop-alloc.invariant.passed)

pub loop-alloc-smaller : goal.loop-alloc-smaller
loop-alloc-smaller c = line_takes limits c.loop-alloc.cursor c.in_ok-line.line c.line.new.cursor c.in_ok-line.ensures

pub loop-alloc-preserved : goal.loop-alloc-preserved
loop-alloc-preserved c =
    let here = sym c.loop-alloc-test.ensures in
    record {
      read = λ xs rest k.
          rw c.in_ok-push.ensures.items
          (lines_more c.loop-alloc.lines.items c.args.cursor.now c.loop-alloc.cursor c.line.new.cursor c.in_ok-line.line here c.in_ok-line.ensures c.loop-alloc.invariant.read xs rest k);
      refused = λ rest k. c.loop-alloc.invariant.refused rest (lines_later c.loop-alloc.cursor c.line.new.cursor rest c.in_ok-line.line here c.in_ok-line.ensures k);
      passed = λ rest k. c.loop-alloc.invariant.passed rest (lines_later_passes c.loop-alloc.cursor c.line.new.cursor rest c.in_ok-line.line here c.in_ok-line.ensures k);
    }

pub returns : goal.returns
returns c = rw c.of.ensures (lines_done c.loop-alloc.lines.items c.args.cursor.now c.loop-alloc.cursor (sym c.loop-alloc-test.ensures) c.loop-alloc.invariant.read)
