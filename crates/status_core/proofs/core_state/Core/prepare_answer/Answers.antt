use Rattle.std.proofs.Common.{sym, subst}
use Rattle.std.specs.Prelude.{IfOk}
use Rattle.core_steps.specs.declared.events.Question.{Question}
use Rattle.core_steps.specs.declared.events.Event.TheVariants.{Ask}
use Rattle.status_core.specs.PrivateParts.{Prepares}
use Rattle.status_core.proofs.core_state.Core.prepare_answer.Goals as goal

pub returns-in-Statuses-clause-prepared : goal.returns-in-Statuses-clause-prepared
returns-in-Statuses-clause-prepared g c =
    subst (λ (q : Question). IfOk c.prepare_statuses.result (λ p. Prepares c.args.self.now (Ask q) p)) (sym c.in-Statuses.is) c.prepare_statuses.ensures

pub returns-in-Faults-clause-prepared : goal.returns-in-Faults-clause-prepared
returns-in-Faults-clause-prepared g c =
    subst (λ (q : Question). IfOk c.prepare_faults.result (λ p. Prepares c.args.self.now (Ask q) p)) (sym c.in-Faults.is) c.prepare_faults.ensures

pub returns-in-Show-clause-prepared : goal.returns-in-Show-clause-prepared
returns-in-Show-clause-prepared g c =
    subst (λ (q : Question). IfOk c.prepare_show.result (λ p. Prepares c.args.self.now (Ask q) p)) (sym c.in-Show.is) (rw c.as_ref.ensures.value at c.prepare_show.ensures)

pub returns-in-TreeOf-clause-prepared : goal.returns-in-TreeOf-clause-prepared
returns-in-TreeOf-clause-prepared g c =
    subst (λ (q : Question). IfOk c.prepare_tree.result (λ p. Prepares c.args.self.now (Ask q) p)) (sym c.in-TreeOf.is) c.prepare_tree.ensures

pub returns-in-Follows-clause-prepared : goal.returns-in-Follows-clause-prepared
returns-in-Follows-clause-prepared g c =
    subst (λ (q : Question). IfOk c.prepare_follows.result (λ p. Prepares c.args.self.now (Ask q) p)) (sym c.in-Follows.is) c.prepare_follows.ensures.prepared

pub returns-in-Digest-clause-prepared : goal.returns-in-Digest-clause-prepared
returns-in-Digest-clause-prepared g c =
    subst (λ (q : Question). IfOk c.prepare_digest.result (λ p. Prepares c.args.self.now (Ask q) p)) (sym c.in-Digest.is) c.prepare_digest.ensures

pub returns-in-Idle-clause-prepared : goal.returns-in-Idle-clause-prepared
returns-in-Idle-clause-prepared g c =
    subst (λ (q : Question). Prepares c.args.self.now (Ask q) c.prepare_idle.result) (sym c.in-Idle.is) c.prepare_idle.ensures.prepared
