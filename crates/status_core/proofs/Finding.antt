-- Present obligations, and obligations at a place.
use Rattle.std.proofs.Common.{◌≡◌, ◌∙◌, sym, ap, subst, refl, inl, inr, ℕ, zero, suc, ◌+◌, ◌<◌, List, [], ◌∷◌, ◌++◌, take, drop, get_or, length, arith}
use Rattle.std.specs.Prelude.{Option, Some, None, IfSome, Bool, true, false, IsTrue, ◌↔◌}
use Rattle.std.specs.Option.{option_map}
use Rattle.std.specs.List.{AllByRecursion, HoldsAt}
use Rattle.sequent_core.specs.declared.Obligation.{Obligation}
use Rattle.sequent_core.specs.Sequents.{IsSequent}
use Rattle.po_rules.specs.Sequents.{AreSequents}
use Rattle.build_core.specs.Tables.{IsPlaceInTable}
use Rattle.core_steps.specs.Durable.{ProjectMap}
use Rattle.core_steps.specs.declared.durable.Durable.{Durable}
use Rattle.core_steps.specs.declared.events.Status.{Status}
use Rattle.core_steps.specs.Laws.{IsRebuiltIf}
use Rattle.core_steps.specs.Table.{IsTable, IsPresent}
use Rattle.core_steps.specs.State.{State}
use Rattle.core_steps.specs.Outcomes.{told}
use Rattle.core_steps.specs.declared.events.Question.TheVariants.{Idle as AskIdle}
use Rattle.core_steps.specs.declared.events.Reply.TheVariants.{Idle}
use Rattle.core_steps.specs.Step.{Tells}
use Rattle.core_steps.specs.Tickets.{IsOpen, IsPresentStatus}
use Rattle.core_steps.proofs.Lists.{split}
use Rattle.table_lookup.proofs.Places.{all_at}
use Rattle.status_core.specs.PrivateParts.{FindsObligation, IsFirstOpen}

-- the obligation at the place of a name is the present one
pub present_at : (table : List Obligation) (name : List ℕ) (at : ℕ) (o : Obligation) → IsPlaceInTable table name (Some at) → o ≡ get_or table at o →
    IsPresent table name (Some o.sequent) × (o.name ≡ name)
present_at table name at o place is =
    let named : o.name ≡ name = ap (λ p. p.name) is ∙ place.2 o in (
      (
        take at table,
        drop (at + 1) table,
        split table at o place.0 is ∙ ap (λ n. take at table ++ record { name = n; sequent = o.sequent } ∷ drop (at + 1) table) named,
        place.1,
      ),
      named,
    )

-- the obligation at the place of a name is found
pub found_at : (project : ProjectMap) (table : List Obligation) (name : List ℕ) (at : ℕ) (o : Obligation) → IsTable project table → AreSequents table →
    IsPlaceInTable table name (Some at) → o ≡ get_or table at o → FindsObligation project name (Some o)
found_at project table name at o of sequents place is =
    let present = present_at table name at o place is in
    (table, of, present.0, present.1, all_at (λ p. IsSequent p.sequent) table at o place.0 is sequents)

-- the obligation that is found is well typed
pub found_sequent : (project : ProjectMap) (name : List ℕ) (found : Option Obligation) → FindsObligation project name found → IfSome found (λ o. IsSequent o.sequent)
found_sequent project name None f = tt
found_sequent project name (Some o) f = f.4

-- its status is that of the clean rebuild
pub found_rebuilt : (d : Durable) (name : List ℕ) (found : Option Obligation) (status : Option Status) → FindsObligation d.built name found →
    IsPresentStatus d.proofs name (option_map (λ o. o.sequent) found) status → IsRebuiltIf d name status
found_rebuilt d name None status f st = subst (IsRebuiltIf d name) (sym st) f
found_rebuilt d name (Some o) status f st = subst (IsRebuiltIf d name) (sym st.1) (f.0, o.sequent, f.1, f.2, st.2)

-- where an obligation was found, one is open
first_none : (s : State) (table : List Obligation) (found : Option ℕ) → IsFirstOpen s table found → AllByRecursion (λ o. IsOpen s o → ⊥) table → found ≡ None
first_none s table None first closed = refl
first_none s table (Some at) first closed = absurd (by table at first.0 first.2 closed) where
  by : (os : List Obligation) (i : ℕ) → i < length os → HoldsAt (λ o. IsOpen s o) os i → AllByRecursion (λ o. IsOpen s o → ⊥) os → ⊥
  by [] i lt open_at none = absurd (omega arith)
  by (o ∷ os) zero lt open_at none = none.0 (open_at o)
  by (o ∷ os) (suc i) lt open_at none = by os i (omega arith) open_at none.1

-- nothing is open where none was found
none_open : (s : State) (table : List Obligation) (found : Option ℕ) → found ≡ None → IsFirstOpen s table found → AllByRecursion (λ o. IsOpen s o → ⊥) table
none_open s table found e first = subst (IsFirstOpen s table) e first

-- what is told of what was found and of the tickets out
pub idle_told : (s : State) (table : List Obligation) (found : Option ℕ) (idle : Bool) → IsFirstOpen s table found → IsTrue idle ↔ ((found ≡ None) × (s.out ≡ [])) →
    Tells s table AskIdle (told s (Idle idle))
idle_told s table found true first is = let both = is.0 refl in inl ((none_open s table found both.0 first, both.1), refl)
idle_told s table found false first is = inr ((λ idle. let yes = is.1 (first_none s table found first idle.0, idle.1) in cc), refl)
