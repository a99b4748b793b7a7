use Rattle.std.proofs.Common.{◌∙◌, sym, ap, subst, ℕ, List, map, take}
use Rattle.std.specs.Arc.{arc_value}
use Rattle.std.specs.FinMap.{entries}
use Rattle.std.specs.List.{AllByRecursion}
use Rattle.sequent_core.specs.declared.Ticket.{Ticket}
use Rattle.sequent_core.specs.declared.Obligation.{Obligation}
use Rattle.build_core.specs.Projects.{Project}
use Rattle.build_core.specs.Tables.{IsTableOf}
use Rattle.core_steps.specs.State.{State}
use Rattle.core_steps.specs.Tickets.{CanTake, IsOpen}
use Rattle.status_core.specs.PrivateParts.{IsFirstOpen}
use Rattle.status_core.proofs.FirstOpen.{first_of, closed_until}
use Rattle.status_core.proofs.core_state.Core.find_open.Goals as goal

pub first_open-found-requires : goal.first_open-found-requires
first_open-found-requires c =
    let table = map arc_value c.table-table.result.now in
    let of = subst (λ (p : Project). IsTableOf p table) c.self.invariant.0 c.table-table.ensures.table in
    record {
      sequents = c.typed_tables.ensures c.self.inside.builder c.texts-texts.ensures.distinct table c.table-table.ensures.table;
      closed = subst (λ (out : List Ticket). AllByRecursion (λ o. CanTake c.self.inside.durable.proofs out c.self.inside.tried o → ⊥) (take c.self.inside.closed table))
          (sym c.deref.ensures.value) (c.self.invariant.2 table of);
    }

pub invariant_of-self : goal.invariant_of-self
invariant_of-self c =
    let s : State = record { durable = c.self.inside.durable; out = c.self.inside.out.items; tried = c.self.inside.tried; next = c.self.inside.next } in
    let table = map arc_value c.table-table.result.now in
    let first = first_of s table c.deref.result.now c.first_open-found.result c.deref.ensures.value c.first_open-found.ensures.first in
    let closed = subst (λ (at : ℕ). AllByRecursion (λ o. IsOpen s o → ⊥) (take at table)) (sym c.unwrap_or-self-inside.ensures) (closed_until s table c.first_open-found.result _ first) in (
      c.self.invariant.0,
      c.self.invariant.1,
      (λ other of.
          let same = c.one_table.ensures c.self.inside.builder c.texts-texts.ensures.distinct table other c.table-table.ensures.table (subst (λ (p : Project). IsTableOf p other) (sym c.self.invariant.0) of) in
          subst (λ (os : List Obligation). AllByRecursion (λ o. IsOpen s o → ⊥) (take c.unwrap_or-self-inside.result os)) same closed),
    )

pub returns-clause-first : goal.returns-clause-first
returns-clause-first c = λ other of.
    let s : State = record { durable = c.self.inside.durable; out = c.self.inside.out.items; tried = c.self.inside.tried; next = c.self.inside.next } in
    let table = map arc_value c.table-table.result.now in
    let found = c.first_open-found.result in
    let first = first_of s table c.deref.result.now found c.deref.ensures.value c.first_open-found.ensures.first in
    let built = c.self.invariant.0 ∙ ap (λ (z : State). entries z.durable.built) c.self.view_is in
    let same = c.one_table.ensures c.self.inside.builder c.texts-texts.ensures.distinct table other c.table-table.ensures.table (subst (λ (p : Project). IsTableOf p other) (sym built) of) in
    subst (λ (os : List Obligation). IsFirstOpen c.args.self.now os found) same (subst (λ (z : State). IsFirstOpen z table found) c.self.view_is first)
