use Rattle.std.proofs.Common.{◌∙◌, sym, ap, subst, arith}
use Rattle.std.specs.Prelude.{IfOk, Some, None}
use Rattle.core_steps.specs.declared.events.Event.{Event}
use Rattle.core_steps.specs.declared.events.Event.TheVariants.{Take}
use Rattle.status_core.specs.PrivateParts.{Prepares}
use Rattle.status_core.proofs.core_state.Core.prepare_event.Goals as goal

pub prepare_take-requires : goal.prepare_take-requires
prepare_take-requires g c =
    let none_is = rw c.in-Take-None.is at c.in-Take-None.field-0-is in
    c.requires.number (None, c.in-Take-None.is ∙ ap Take none_is)

pub prepare_take_named-requires : goal.prepare_take_named-requires
prepare_take_named-requires g c =
    let some_is = rw c.in-Take-Some.is at c.in-Take-Some.field-0-is in
    c.requires.number (Some c.in-Take-Some.name, c.in-Take-Some.is ∙ ap Take some_is)

pub returns-in-Edit-clause-prepared : goal.returns-in-Edit-clause-prepared
returns-in-Edit-clause-prepared g c =
    subst (λ (e : Event). IfOk c.prepare_edit.result (λ p. Prepares c.args.self.now e p)) (sym c.in-Edit.is) c.prepare_edit.ensures

pub returns-in-Edit-clause-build : goal.returns-in-Edit-clause-build
returns-in-Edit-clause-build g c = λ is. absurd (let no = sym c.in-Edit.is ∙ is in cc)

pub returns-in-Edit-clause-steps : goal.returns-in-Edit-clause-steps
returns-in-Edit-clause-steps g c = λ other. omega arith

pub returns-in-Delete-clause-prepared : goal.returns-in-Delete-clause-prepared
returns-in-Delete-clause-prepared g c =
    subst (λ (e : Event). IfOk c.prepare_delete.result (λ p. Prepares c.args.self.now e p)) (sym c.in-Delete.is) c.prepare_delete.ensures

pub returns-in-Delete-clause-build : goal.returns-in-Delete-clause-build
returns-in-Delete-clause-build g c = λ is. absurd (let no = sym c.in-Delete.is ∙ is in cc)

pub returns-in-Delete-clause-steps : goal.returns-in-Delete-clause-steps
returns-in-Delete-clause-steps g c = λ other. omega arith

pub returns-in-Build-clause-prepared : goal.returns-in-Build-clause-prepared
returns-in-Build-clause-prepared g c =
    subst (λ (e : Event). IfOk c.prepare_build.result (λ p. Prepares c.args.self.now e p)) (sym c.in-Build.is) c.prepare_build.ensures.prepared

pub returns-in-Build-clause-build : goal.returns-in-Build-clause-build
returns-in-Build-clause-build g c = λ is. c.prepare_build.ensures.steps

pub returns-in-Build-clause-steps : goal.returns-in-Build-clause-steps
returns-in-Build-clause-steps g c = λ other. absurd (other c.in-Build.is)

pub returns-in-Step-clause-prepared : goal.returns-in-Step-clause-prepared
returns-in-Step-clause-prepared g c =
    subst (λ (e : Event). IfOk c.prepare_step.result (λ p. Prepares c.args.self.now e p)) (sym c.in-Step.is) c.prepare_step.ensures.prepared

pub returns-in-Step-clause-build : goal.returns-in-Step-clause-build
returns-in-Step-clause-build g c = λ is. absurd (let no = sym c.in-Step.is ∙ is in cc)

pub returns-in-Step-clause-steps : goal.returns-in-Step-clause-steps
returns-in-Step-clause-steps g c = λ other. omega (arith, c.prepare_step.ensures.steps)

pub returns-in-Prune-clause-prepared : goal.returns-in-Prune-clause-prepared
returns-in-Prune-clause-prepared g c =
    subst (λ (e : Event). IfOk c.prepare_prune.result (λ p. Prepares c.args.self.now e p)) (sym c.in-Prune.is) c.prepare_prune.ensures.prepared

pub returns-in-Prune-clause-build : goal.returns-in-Prune-clause-build
returns-in-Prune-clause-build g c = λ is. absurd (let no = sym c.in-Prune.is ∙ is in cc)

pub returns-in-Prune-clause-steps : goal.returns-in-Prune-clause-steps
returns-in-Prune-clause-steps g c = λ other. omega (arith, c.prepare_prune.ensures.steps)

pub returns-in-Take-None-clause-prepared : goal.returns-in-Take-None-clause-prepared
returns-in-Take-None-clause-prepared g c =
    let none_is = rw c.in-Take-None.is at c.in-Take-None.field-0-is in
    subst (λ (e : Event). IfOk c.prepare_take.result (λ p. Prepares c.args.self.now e p)) (sym (c.in-Take-None.is ∙ ap Take none_is)) c.prepare_take.ensures.prepared

pub returns-in-Take-None-clause-build : goal.returns-in-Take-None-clause-build
returns-in-Take-None-clause-build g c = λ is. absurd (let no = sym c.in-Take-None.is ∙ is in cc)

pub returns-in-Take-None-clause-steps : goal.returns-in-Take-None-clause-steps
returns-in-Take-None-clause-steps g c = λ other. omega arith

pub returns-in-Take-Some-clause-prepared : goal.returns-in-Take-Some-clause-prepared
returns-in-Take-Some-clause-prepared g c =
    let some_is = rw c.in-Take-Some.is at c.in-Take-Some.field-0-is in
    subst (λ (e : Event). IfOk c.prepare_take_named.result (λ p. Prepares c.args.self.now e p)) (sym (c.in-Take-Some.is ∙ ap Take some_is)) c.prepare_take_named.ensures

pub returns-in-Take-Some-clause-build : goal.returns-in-Take-Some-clause-build
returns-in-Take-Some-clause-build g c = λ is. absurd (let no = sym c.in-Take-Some.is ∙ is in cc)

pub returns-in-Take-Some-clause-steps : goal.returns-in-Take-Some-clause-steps
returns-in-Take-Some-clause-steps g c = λ other. omega arith

pub returns-in-Finish-clause-prepared : goal.returns-in-Finish-clause-prepared
returns-in-Finish-clause-prepared g c =
    subst (λ (e : Event). IfOk c.prepare_finish.result (λ p. Prepares c.args.self.now e p)) (sym c.in-Finish.is) c.prepare_finish.ensures.prepared

pub returns-in-Finish-clause-build : goal.returns-in-Finish-clause-build
returns-in-Finish-clause-build g c = λ is. absurd (let no = sym c.in-Finish.is ∙ is in cc)

pub returns-in-Finish-clause-steps : goal.returns-in-Finish-clause-steps
returns-in-Finish-clause-steps g c = λ other. omega (arith, c.prepare_finish.ensures.steps)

pub returns-in-Purge-clause-prepared : goal.returns-in-Purge-clause-prepared
returns-in-Purge-clause-prepared g c =
    subst (λ (e : Event). IfOk c.prepare_purge.result (λ p. Prepares c.args.self.now e p)) (sym c.in-Purge.is) c.prepare_purge.ensures

pub returns-in-Purge-clause-build : goal.returns-in-Purge-clause-build
returns-in-Purge-clause-build g c = λ is. absurd (let no = sym c.in-Purge.is ∙ is in cc)

pub returns-in-Purge-clause-steps : goal.returns-in-Purge-clause-steps
returns-in-Purge-clause-steps g c = λ other. omega arith

pub returns-in-Ask-clause-prepared : goal.returns-in-Ask-clause-prepared
returns-in-Ask-clause-prepared g c =
    subst (λ (e : Event). IfOk c.prepare_answer.result (λ p. Prepares c.args.self.now e p)) (sym c.in-Ask.is) c.prepare_answer.ensures.prepared

pub returns-in-Ask-clause-build : goal.returns-in-Ask-clause-build
returns-in-Ask-clause-build g c = λ is. absurd (let no = sym c.in-Ask.is ∙ is in cc)

pub returns-in-Ask-clause-steps : goal.returns-in-Ask-clause-steps
returns-in-Ask-clause-steps g c = λ other. omega (arith, c.prepare_answer.ensures.steps)
