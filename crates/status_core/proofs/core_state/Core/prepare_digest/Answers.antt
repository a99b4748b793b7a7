use Rattle.std.proofs.Common.{◌≡◌, ◌∙◌, ap, List, ℕ}
use Rattle.core_steps.specs.declared.events.Reply.TheVariants.{Digest}
use Rattle.core_steps.specs.State.{State}
use Rattle.core_steps.specs.StateDigest.{state_digest}
use Rattle.core_steps.specs.Outcomes.{told}
use Rattle.status_core.proofs.Made.{as_made}
use Rattle.status_core.proofs.core_state.Core.prepare_digest.Goals as goal

pub returns : goal.returns
returns c =
    let s = c.args.self.now in
    let is : c.in_ok-digest.digest ≡ state_digest s.durable = c.in_ok-digest.ensures.digest ∙ ap (λ (z : State). state_digest z.durable) c.self.view_is in
    as_made s _ c.tell.result _ c.tell.ensures (c.has_table.ensures.0, c.has_table.ensures.1, ap (λ (d : List ℕ). told s (Digest d)) is)
