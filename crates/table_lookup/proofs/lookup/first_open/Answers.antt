use Rattle.std.proofs.Common.{◌∙◌, ◌<◌, ◌∷◌, [], sym, subst, map, take}
use Rattle.std.proofs.lemmas.List.{length-map}
use Rattle.std.specs.Arc.{arc_value}
use Rattle.sequent_core.specs.declared.Obligation.{Obligation}
use Rattle.sequent_core.specs.Sequents.{IsSequent}
use Rattle.core_steps.specs.Tickets.{CanTake}
use Rattle.core_steps.proofs.Alls.{all_both}
use Rattle.core_steps.proofs.Lists.{take-one_more}
use Rattle.table_lookup.proofs.Places.{all_at, map_at}
use Rattle.table_lookup.proofs.lookup.first_open.Goals as goal

pub can_take-requires : goal.can_take-requires
can_take-requires c =
    let table = c.args.table.now in
    let at = c.loop-at.at in
    let x = c.index-table-at.result in
    let lt = subst (λ n. at < n) (sym (length-map table arc_value)) c.loop-at-test.true in
    let is = map_at arc_value table at x c.index-table-at.is in
    subst (λ (o : Obligation). IsSequent o.sequent) (sym c.deref.ensures)
    (all_at (λ (o : Obligation). IsSequent o.sequent) (map arc_value table) at (arc_value x) lt is c.requires.sequents)

pub loop-at-preserved : goal.loop-at-preserved
loop-at-preserved c =
    let table = c.args.table.now in
    let at = c.loop-at.at in
    let x = c.index-table-at.result in
    let Closed : Obligation → Type 0 = λ o. CanTake c.args.proofs.now c.args.out.now c.args.tried.now o → ⊥ in
    let lt = subst (λ n. at < n) (sym (length-map table arc_value)) c.loop-at-test.true in
    let closed = subst Closed c.deref.ensures (λ can. let yes = sym c.if-can_take.false ∙ c.can_take.ensures.1 can in cc) in
    rw (take-one_more (map arc_value table) at (arc_value x) lt (map_at arc_value table at x c.index-table-at.is))
    (all_both Closed (take at (map arc_value table)) (arc_value x ∷ []) c.loop-at.invariant (closed, tt))
