use Rattle.status_core.proofs.Made.{so_made}
use Rattle.status_core.proofs.core_state.Core.keep_held.Goals as goal

pub returns : goal.returns
returns c =
    so_made _ _ _ c.keep.result (λ x e. (c.status_by-status.result, c.status_by-status.ensures c.args.tree c.requires.held.2, e))
    (rw c.requires.held.0 at c.keep.ensures)
