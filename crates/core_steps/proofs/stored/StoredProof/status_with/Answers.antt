use Rattle.std.proofs.Common.{◌≡◌, subst}
use Rattle.proof_entries.specs.declared.Proof.{Proof}
use Rattle.core_steps.specs.Status.{IsTreeStatus}
use Rattle.core_steps.proofs.stored.StoredProof.status_with.Goals as goal

pub returns : goal.returns
returns c =
    let stored = c.self.inside in
    subst (λ (p : Proof). IsTreeStatus p.tree c.args.sequent.now c.status_where.result) c.self.view_is
    (c.status_where.ensures stored.proof.tree c.args.sequent.now c.self.invariant (c.applies_with.ensures stored.proof.tree c.self.invariant))
