use Rattle.std.proofs.Common.{◌≡◌, ◌∙◌, sym, ap, ◌+◌, map, take, drop, get_or, subst, refl, inl, inr}
use Rattle.std.proofs.lemmas.List.{length-map}
use Rattle.std.specs.Arc.{arc_value}
use Rattle.std.specs.FinMap.{entries}
use Rattle.sequent_core.specs.declared.Obligation.{Obligation}
use Rattle.build_core.specs.Projects.{Project}
use Rattle.build_core.specs.Tables.{IsTableOf}
use Rattle.core_steps.specs.State.{State}
use Rattle.core_steps.specs.Tickets.{IsOpen}
use Rattle.core_steps.proofs.Lists.{split}
use Rattle.status_core.specs.PrivateParts.{IsFirstOpen}
use Rattle.status_core.proofs.Made.{if_ok, so_made, as_made}
use Rattle.table_lookup.proofs.Places.{map_at}
use Rattle.status_core.proofs.core_state.Core.take_at.Goals as goal

pub returns-in-None : goal.returns-in-None
returns-in-None c =
    let table = map arc_value c.table-table.result.now in
    let built = c.self.invariant.0 ∙ ap (λ (z : State). entries z.durable.built) c.self.view_is in
    let of = subst (λ (p : Project). IsTableOf p table) built c.table-table.ensures.table in
    as_made _ _ c.tell.result _ c.tell.ensures (table, of, inl (subst (λ found. IsFirstOpen c.args.self.now table found) c.in-None.is (c.requires.first table of), refl))

pub bounds-table-at : goal.bounds-table-at
bounds-table-at c =
    let table = map arc_value c.table-table.result.now in
    let built = c.self.invariant.0 ∙ ap (λ (z : State). entries z.durable.built) c.self.view_is in
    let of = subst (λ (p : Project). IsTableOf p table) built c.table-table.ensures.table in
    let first = subst (λ found. IsFirstOpen c.args.self.now table found) c.in-Some.is (c.requires.first table of) in
    rw (length-map c.table-table.result.now arc_value) at first.0

pub returns-in-Some : goal.returns-in-Some
returns-in-Some c =
    let s = c.args.self.now in
    let at = c.in-Some.at in
    let table = map arc_value c.table-table.result.now in
    let built = c.self.invariant.0 ∙ ap (λ (z : State). entries z.durable.built) c.self.view_is in
    let of = subst (λ (p : Project). IsTableOf p table) built c.table-table.ensures.table in
    let first = subst (λ found. IsFirstOpen s table found) c.in-Some.is (c.requires.first table of) in
    let o = c.obligation.result.now in
    let is = subst (λ (p : Obligation). p ≡ get_or table at p) (sym (c.obligation.ensures.obligation ∙ c.deref.ensures)) (map_at arc_value c.table-table.result.now at c.index-table-at.result c.index-table-at.is) in
    if_ok _ _ _ (λ p m. so_made _ _ _ p
    (λ x e. (table, of, inr (take at table, o, drop (at + 1) table, split table at o first.0 is, first.1, subst (IsOpen s) (sym is) (first.2 o), e))) m) c.taking.ensures
