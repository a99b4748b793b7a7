use Rattle.std.proofs.Common.{◌≡◌, subst}
use Rattle.proof_entries.specs.declared.Proof.{Proof}
use Rattle.core_steps.specs.Status.{IsTreeStatus}
use Rattle.core_steps.proofs.stored.StoredProof.status.Goals as goal

pub returns : goal.returns
returns c = subst (λ (p : Proof). IsTreeStatus p.tree c.args.sequent.now c.status_by.result) c.self.view_is (c.status_by.ensures c.self.inside.proof.tree c.self.invariant)
