use Rattle.core_steps.specs.StateDigest.{state_digest}
use Rattle.durable_entries.proofs.digest.state_digest.Goals as goal

pub returns : goal.returns
unfolding state_digest
returns c = record { digest = rw (c.deref.ensures.value, c.in_ok-entries.ensures) at c.digest_of.ensures }
