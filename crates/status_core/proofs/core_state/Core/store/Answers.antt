use Rattle.std.proofs.Common.{◌≡◌, sym, subst, ℕ, List}
use Rattle.std.specs.Prelude.{Some}
use Rattle.sequent_core.specs.declared.Tree.{Tree}
use Rattle.proof_entries.specs.declared.Entry.TheVariants.{SetProof}
use Rattle.core_steps.specs.declared.events.Reply.TheVariants.{Stored}
use Rattle.core_steps.specs.declared.events.Status.TheVariants.{Discharged}
use Rattle.core_steps.specs.Outcomes.{entering}
use Rattle.core_steps.specs.Tickets.{by_prover}
use Rattle.status_core.specs.PrivateParts.{IsHeldProof, without_at, ComesAs}
use Rattle.status_core.proofs.core_state.Core.store.Goals as goal

pub store_held-requires-clause-held : goal.store_held-requires-clause-held
store_held-requires-clause-held c =
    let held = c.in_ok-held.ensures c.args.tree.now c.requires.facts in
    subst (λ (z : List ℕ × Tree). IsHeldProof c.args.self.now.durable.proofs z.0 z.1 c.in_ok-held.held) (λ i. (sym held.1 i, sym c.in-Ok.ensures i)) held

pub returns : goal.returns
returns c =
    let s = c.args.self.now in
    let held = c.in_ok-held.ensures c.args.tree.now c.requires.facts in
    subst (λ (z : List ℕ × Tree). ComesAs s (λ x. x ≡ entering (without_at s c.args.at) (Stored z.0 (Some Discharged)) (SetProof z.0 (by_prover z.1))) c.store_held.result)
    (λ i. (held.1 i, c.in-Ok.ensures i)) c.store_held.ensures
