use Rattle.std.proofs.Common.{◌<◌, sym, subst, map}
use Rattle.std.proofs.lemmas.List.{length-map}
use Rattle.std.specs.Arc.{arc_value}
use Rattle.sequent_core.specs.declared.Obligation.{Obligation}
use Rattle.sequent_core.specs.Sequents.{IsSequent}
use Rattle.core_steps.specs.Status.{Shows}
use Rattle.core_steps.proofs.Lists.{zip_more}
use Rattle.table_lookup.proofs.Places.{all_at, map_at}
use Rattle.status_core.proofs.asking.shown_statuses.Goals as goal

pub shown_status-requires : goal.shown_status-requires
shown_status-requires c =
    let table = c.args.table.now in
    let at = c.loop-at.at in
    let x = c.index-table-at.result in
    let lt = subst (λ n. at < n) (sym (length-map table arc_value)) c.loop-at-test.true in
    let is = map_at arc_value table at x c.index-table-at.is in
    subst (λ (o : Obligation). IsSequent o.sequent) (sym c.deref.ensures)
    (all_at (λ (o : Obligation). IsSequent o.sequent) (map arc_value table) at (arc_value x) lt is c.requires)

pub loop-at-preserved : goal.loop-at-preserved
loop-at-preserved c =
    let table = c.args.table.now in
    let proofs = c.args.proofs.now in
    let at = c.loop-at.at in
    let x = c.index-table-at.result in
    let shown = c.in_ok-shown_status.field-0 in
    let lt = subst (λ n. at < n) (sym (length-map table arc_value)) c.loop-at-test.true in
    let shows = subst (λ (o : Obligation). Shows proofs o shown) c.deref.ensures c.in_ok-shown_status.ensures in
    rw c.in_ok-push.ensures.items
    (zip_more (Shows proofs) (map arc_value table) c.loop-at.shown.items at (arc_value x) shown lt (map_at arc_value table at x c.index-table-at.is) c.loop-at.invariant shows)
