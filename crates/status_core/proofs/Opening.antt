-- The first open obligation, and what is closed before it.
use Rattle.std.proofs.Common.{◌≡◌, sym, subst, ℕ, ◌<◌, List, length, take}
use Rattle.std.proofs.Math.Seq.{take-length}
use Rattle.std.specs.Prelude.{Option, Some, None, MatchOption}
use Rattle.std.specs.Option.{unwrap_or}
use Rattle.std.specs.List.{AllByRecursion, HoldsAt}
use Rattle.std.specs.FinMap.{entries}
use Rattle.sequent_core.specs.declared.Obligation.{Obligation}
use Rattle.build_core.specs.Projects.{Project}
use Rattle.build_core.specs.Tables.{IsTableOf}
use Rattle.build_core.specs.Laws.{HasOneTable}
use Rattle.core_steps.specs.State.{State}
use Rattle.core_steps.specs.Table.{IsTable}
use Rattle.core_steps.specs.Tickets.{IsOpen}
use Rattle.core_steps.proofs.NameMaps.{names_differ}
use Rattle.prepared_events.specs.Closed.{AreClosedBefore}
use Rattle.status_core.specs.PrivateParts.{IsFirstOpen}

-- what is found in a table is its first open obligation
first_found : (s : State) (table : List Obligation) (found : Option ℕ) →
    MatchOption found (AllByRecursion (λ o. IsOpen s o → ⊥) table)
    (λ at. (at < length table) × AllByRecursion (λ o. IsOpen s o → ⊥) (take at table) × HoldsAt (λ o. IsOpen s o) table at) →
    IsFirstOpen s table found
first_found s table None is = is
first_found s table (Some at) is = is

-- nothing is open before the first open obligation, or before the end of the table
closed_before : (s : State) (table : List Obligation) (found : Option ℕ) → IsFirstOpen s table found →
    AllByRecursion (λ o. IsOpen s o → ⊥) (take (unwrap_or found (length table)) table)
closed_before s table None is = subst (AllByRecursion (λ o. IsOpen s o → ⊥)) (sym (take-length table)) is
closed_before s table (Some at) is = is.1

module _ (law : HasOneTable) (s : State) (project : Project) (table : List Obligation) (found : Option ℕ) (built : project ≡ entries s.durable.built)
    (of : IsTableOf project table)
    (is : MatchOption found (AllByRecursion (λ o. IsOpen s o → ⊥) table)
    (λ at. (at < length table) × AllByRecursion (λ o. IsOpen s o → ⊥) (take at table) × HoldsAt (λ o. IsOpen s o) table at)) where
  pub open_first : (other : List Obligation) → IsTable s.durable.built other → IsFirstOpen s other found
  open_first other other_of =
      subst (λ os. IsFirstOpen s os found)
      (law (entries s.durable.built) (names_differ s.durable.built) table other (subst (λ p. IsTableOf p table) built of) other_of)
      (first_found s table found is)

  pub open_closed : AreClosedBefore s (unwrap_or found (length table))
  open_closed other other_of =
      let same : table ≡ other =
      law (entries s.durable.built) (names_differ s.durable.built) table other (subst (λ p. IsTableOf p table) built of) other_of in
      subst (λ os. AllByRecursion (λ o. IsOpen s o → ⊥) (take (unwrap_or found (length table)) os)) same
      (closed_before s table found (first_found s table found is))
