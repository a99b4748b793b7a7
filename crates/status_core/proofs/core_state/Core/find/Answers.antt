use Rattle.std.proofs.Common.{◌∙◌, ap, sym, map, subst}
use Rattle.std.specs.Prelude.{Some}
use Rattle.sequent_core.specs.declared.Obligation.{Obligation}
use Rattle.status_core.specs.PrivateParts.{FindsObligation}
use Rattle.std.proofs.lemmas.List.{length-map}
use Rattle.std.specs.Arc.{arc_value}
use Rattle.std.specs.FinMap.{entries}
use Rattle.build_core.specs.Projects.{Project}
use Rattle.build_core.specs.Tables.{IsTableOf}
use Rattle.core_steps.specs.State.{State}
use Rattle.table_lookup.proofs.Places.{map_at}
use Rattle.status_core.proofs.Finding.{found_at}
use Rattle.status_core.proofs.core_state.Core.find.Goals as goal

pub returns-in-None : goal.returns-in-None
returns-in-None c =
    let table = map arc_value c.table-table.result.now in
    let built = c.self.invariant.0 ∙ ap (λ (z : State). entries z.durable.built) c.self.view_is in
    (table, subst (λ (p : Project). IsTableOf p table) built c.table-table.ensures.table, c.in-None.ensures.exact table c.table-table.ensures.table)

pub bounds-table-at : goal.bounds-table-at
bounds-table-at c =
    rw (length-map c.table-table.result.now arc_value) at (c.in-Some.ensures.exact (map arc_value c.table-table.result.now) c.table-table.ensures.table).0

pub returns-in-Some : goal.returns-in-Some
returns-in-Some c =
    let table = map arc_value c.table-table.result.now in
    let built = c.self.invariant.0 ∙ ap (λ (z : State). entries z.durable.built) c.self.view_is in
    let of = subst (λ (p : Project). IsTableOf p table) built c.table-table.ensures.table in
    let at = c.in-Some.at in
    let place = c.in-Some.ensures.exact table c.table-table.ensures.table in
    let sequents = c.typed_tables.ensures c.self.inside.builder c.texts-texts.ensures.distinct table c.table-table.ensures.table in
    let is = map_at arc_value c.table-table.result.now at c.index-table-at.result c.index-table-at.is in
    subst (λ (o : Obligation). FindsObligation c.args.self.now.durable.built c.args.name.now (Some o)) (sym (c.obligation.ensures.obligation ∙ c.deref.ensures))
    (found_at c.args.self.now.durable.built table c.args.name.now at (arc_value c.index-table-at.result) of sequents place is)
