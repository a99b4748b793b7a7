use Rattle.status_core.proofs.core_state.Core.store_held.Goals as goal

pub returns : goal.returns
returns c = rw c.requires.held.0 at c.keep_in.ensures
