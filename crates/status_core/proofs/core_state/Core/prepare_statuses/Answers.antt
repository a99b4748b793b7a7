use Rattle.std.proofs.Common.{◌∙◌, ap, subst, refl, map}
use Rattle.std.specs.Arc.{arc_value}
use Rattle.std.specs.FinMap.{entries}
use Rattle.std.specs.List.{AllZip}
use Rattle.build_core.specs.Projects.{Project}
use Rattle.build_core.specs.Tables.{IsTableOf}
use Rattle.core_steps.specs.State.{State}
use Rattle.core_steps.specs.Status.{Shows}
use Rattle.status_core.proofs.Made.{as_made}
use Rattle.status_core.proofs.core_state.Core.prepare_statuses.Goals as goal

pub shown_statuses-requires : goal.shown_statuses-requires
shown_statuses-requires c =
    c.typed_tables.ensures c.self.inside.builder c.texts-texts.ensures.distinct (map arc_value c.table-table.result.now) c.table-table.ensures.table

pub returns : goal.returns
returns c =
    let s = c.args.self.now in
    let shown = c.in_ok-shown.shown.items in
    let table = map arc_value c.table-table.result.now in
    let built = c.self.invariant.0 ∙ ap (λ (z : State). entries z.durable.built) c.self.view_is in
    let of = subst (λ (p : Project). IsTableOf p table) built c.table-table.ensures.table in
    let shows = subst (λ (z : State). AllZip (Shows z.durable.proofs) table shown) c.self.view_is c.in_ok-shown.ensures in
    as_made s _ c.tell.result _ (rw c.of.ensures at c.tell.ensures) (table, of, (shown, (table, of, shows), refl))
