use Rattle.std.proofs.Common.{refl, sym}
use Rattle.component_text.specs.Forms.{limits}
use Rattle.component_text.specs.Grammar.{is_a_label}
use Rattle.component_text.specs.Machines.{ActionLine, ManySteps}
use Rattle.component_text.proofs.Components.{exit_with}
use Rattle.component_text.proofs.Refusing.{many_later, many_later_passes}
use Rattle.component_text.proofs.Stops.{many_more, many_done, many_stop}
use Rattle.component_text.proofs.Machines.{good_step, step_takes, leaves_step}
use Rattle.component_text.proofs.machine.steps.Goals as goal

pub returns-in_err-step : goal.returns-in_err-step
returns-in_err-step c =
    exit_with ManySteps c.args.cursor.now c.step.new.cursor c.from_residual.result c.in_err-step.field-0.0 c.from_residual.ensures.1
    (many_stop is_a_label (ActionLine) good_step refl step_takes c.args.cursor.now c.loop-alloc.cursor c.step.new.cursor c.in_err-step.field-0.0 (sym c.loop-alloc-test.ensures) c.in_err-step.ensures
    c.loop-alloc.invariant.refused c.loop-alloc.invariant.passed)

pub loop-alloc-smaller : goal.loop-alloc-smaller
loop-alloc-smaller c = step_takes limits c.loop-alloc.cursor c.in_ok-step.step c.step.new.cursor c.in_ok-step.ensures

pub loop-alloc-preserved : goal.loop-alloc-preserved
loop-alloc-preserved c =
    let here = sym c.loop-alloc-test.ensures in
    record {
      read = λ xs rest k.
          rw c.in_ok-push.ensures.items
          (many_more is_a_label (ActionLine) good_step refl step_takes c.loop-alloc.steps.items c.args.cursor.now c.loop-alloc.cursor c.step.new.cursor c.in_ok-step.step here c.in_ok-step.ensures c.loop-alloc.invariant.read xs rest k);
      refused = λ rest k. c.loop-alloc.invariant.refused rest
          (many_later is_a_label (ActionLine) good_step refl step_takes leaves_step c.loop-alloc.cursor c.step.new.cursor rest c.in_ok-step.step here c.in_ok-step.ensures k);
      passed = λ rest k. c.loop-alloc.invariant.passed rest
          (many_later_passes is_a_label (ActionLine) good_step refl step_takes leaves_step c.loop-alloc.cursor c.step.new.cursor rest c.in_ok-step.step here c.in_ok-step.ensures k);
    }

pub returns : goal.returns
returns c = rw c.of.ensures (many_done is_a_label (ActionLine) good_step refl step_takes c.loop-alloc.steps.items c.args.cursor.now c.loop-alloc.cursor (sym c.loop-alloc-test.ensures) c.loop-alloc.invariant.read)
