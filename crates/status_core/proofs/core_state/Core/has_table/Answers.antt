use Rattle.std.proofs.Common.{◌∙◌, ap, map, subst}
use Rattle.std.specs.Arc.{arc_value}
use Rattle.std.specs.FinMap.{entries}
use Rattle.build_core.specs.Projects.{Project}
use Rattle.build_core.specs.Tables.{IsTableOf}
use Rattle.core_steps.specs.State.{State}
use Rattle.status_core.proofs.core_state.Core.has_table.Goals as goal

pub returns : goal.returns
returns c =
    let table = map arc_value c.table-table.result.now in
    let built = c.self.invariant.0 ∙ ap (λ (z : State). entries z.durable.built) c.self.view_is in
    (table, subst (λ (p : Project). IsTableOf p table) built c.table-table.ensures.table)
