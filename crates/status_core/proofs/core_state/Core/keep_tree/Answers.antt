use Rattle.std.proofs.Common.{subst}
use Rattle.core_steps.specs.Proving.{Keeps}
use Rattle.status_core.specs.PrivateParts.{ComesAs}
use Rattle.status_core.proofs.core_state.Core.keep_tree.Goals as goal

pub returns-clause-comes : goal.returns-clause-comes
returns-clause-comes g c =
    subst (λ name. ComesAs c.args.self.now (Keeps c.args.self.now name c.args.sequent.now c.args.tree) c.keep_held.result) c.in-Ok.ensures.held.1 c.keep_held.ensures
