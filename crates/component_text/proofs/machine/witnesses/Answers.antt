use Rattle.std.proofs.Common.{false, refl, sym}
use Rattle.component_text.specs.Forms.{limits}
use Rattle.component_text.specs.Grammar.{is_a_label, LabelledPart}
use Rattle.component_text.specs.Machines.{Witnesses}
use Rattle.component_text.proofs.Components.{exit_with}
use Rattle.component_text.proofs.Refusing.{many_later, many_later_passes}
use Rattle.component_text.proofs.Stops.{many_more, many_done, many_stop}
use Rattle.component_text.proofs.Machines.{good_witness, witness_takes, leaves_witness}
use Rattle.component_text.proofs.machine.witnesses.Goals as goal

pub returns-in_err-witness : goal.returns-in_err-witness
returns-in_err-witness c =
    exit_with Witnesses c.args.cursor.now c.labelled.new.cursor c.from_residual.result c.in_err-witness.field-0.0 c.from_residual.ensures.1
    (many_stop is_a_label (LabelledPart false) good_witness refl witness_takes c.args.cursor.now c.loop-alloc.cursor c.labelled.new.cursor c.in_err-witness.field-0.0 (sym c.loop-alloc-test.ensures) c.in_err-witness.ensures
    c.loop-alloc.invariant.refused c.loop-alloc.invariant.passed)

pub loop-alloc-smaller : goal.loop-alloc-smaller
loop-alloc-smaller c = witness_takes limits c.loop-alloc.cursor c.in_ok-witness.witness c.labelled.new.cursor c.in_ok-witness.ensures

pub loop-alloc-preserved : goal.loop-alloc-preserved
loop-alloc-preserved c =
    let here = sym c.loop-alloc-test.ensures in
    record {
      read = λ xs rest k.
          rw c.in_ok-push.ensures.items
          (many_more is_a_label (LabelledPart false) good_witness refl witness_takes c.loop-alloc.witnesses.items c.args.cursor.now c.loop-alloc.cursor c.labelled.new.cursor c.in_ok-witness.witness here c.in_ok-witness.ensures c.loop-alloc.invariant.read xs rest k);
      refused = λ rest k. c.loop-alloc.invariant.refused rest
          (many_later is_a_label (LabelledPart false) good_witness refl witness_takes leaves_witness c.loop-alloc.cursor c.labelled.new.cursor rest c.in_ok-witness.witness here c.in_ok-witness.ensures k);
      passed = λ rest k. c.loop-alloc.invariant.passed rest
          (many_later_passes is_a_label (LabelledPart false) good_witness refl witness_takes leaves_witness c.loop-alloc.cursor c.labelled.new.cursor rest c.in_ok-witness.witness here c.in_ok-witness.ensures k);
    }

pub returns : goal.returns
returns c = rw c.of.ensures (many_done is_a_label (LabelledPart false) good_witness refl witness_takes c.loop-alloc.witnesses.items c.args.cursor.now c.loop-alloc.cursor (sym c.loop-alloc-test.ensures) c.loop-alloc.invariant.read)
