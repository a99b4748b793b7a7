use Rattle.std.proofs.Common.{◌∙◌, ap, map}
use Rattle.std.proofs.lemmas.Iterator.{YieldsList-from_slice, YieldsList-from_zip}
use Rattle.std.proofs.lemmas.Iterator.Consumers.{YieldsList-at, YieldsList-end}
use Rattle.formula_core.specs.Formulas.{joined}
use Rattle.model_core.specs.Faults.{first_by_place}
use Rattle.model_core.specs.Borrowed.{has}
use Rattle.machine_check.specs.PrivateEvents.{reads_at}
use Rattle.machine_check.proofs.Assigned.{first_pushed}
use Rattle.machine_check.proofs.assignments.first_reading.Goals as goal

pub loop-step-preserved : goal.loop-step-preserved
loop-step-preserved c =
    c.earlier-first.ensures
    ∙ first_pushed (reads_at c.args.component.now (has c.args.variables.now)) (λ p. (p.0.now, p.1.now)) c.loop-step.yielded (c.in-Some.step, c.in-Some.action) c.loop-step.first c.in_ok-here.here
    c.loop-step.invariant c.in_ok-here.ensures

pub returns : goal.returns
returns c =
    let road = YieldsList-at c.into_iter-step-iterator.ensures.into_iter_gives (YieldsList-from_zip (YieldsList-at c.zip-step-items.ensures.first (YieldsList-from_slice c.args.steps.now c.iter.ensures.rest)) (YieldsList-at c.zip-step-items.ensures.second (YieldsList-from_slice c.args.actions.now c.iter-2.ensures.rest))) in
    let t = YieldsList-end road c.loop-step.yielded c.loop-step.step-iterator c.loop-step.yielded_by c.next.result c.next.new.self c.in-None.is c.next.ensures.steps in
    c.loop-step.invariant ∙ ap (λ ps. first_by_place (joined (map (reads_at c.args.component.now (has c.args.variables.now)) ps))) t.0
