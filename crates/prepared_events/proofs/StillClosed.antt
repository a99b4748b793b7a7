-- What stays closed after an entry or after what happens to the tickets.
use Rattle.std.proofs.Common.{◌≡◌, ◌≢◌, ◌∙◌, refl, sym, ap, subst, ℕ, ◌+◌, ◌<◌, ◌≤◌, List, [], ◌∷◌, ◌++◌, take, drop, get_or, length}
use Rattle.std.specs.Prelude.{Option, Some, slice_get}
use Rattle.std.specs.List.{AllByRecursion}
use Rattle.std.specs.FinMap.{FinMap, get, entries}
use Rattle.std.proofs.lemmas.Option.{slice_get-get_or}
use Rattle.sequent_core.specs.declared.Obligation.{Obligation}
use Rattle.sequent_core.specs.declared.Ticket.{Ticket}
use Rattle.sequent_core.specs.declared.Sequent.{Sequent}
use Rattle.build_core.specs.Projects.{Project}
use Rattle.build_core.specs.Tables.{IsTableOf}
use Rattle.proof_entries.specs.declared.Proof.{Proof}
use Rattle.proof_entries.specs.declared.Entry.{Entry}
use Rattle.proof_entries.specs.declared.Entry.TheVariants.{SetProof}
use Rattle.core_steps.specs.Durable.{text_cmp}
use Rattle.core_steps.specs.State.{State, entered, entered_if}
use Rattle.core_steps.specs.Status.{IsStatus}
use Rattle.core_steps.specs.Tickets.{IsFor, IsOpen}
use Rattle.core_steps.proofs.Alls.{all_both, all_first, all_so, all_so_both, all_fewer}
use Rattle.core_steps.proofs.Lists.{split}
use Rattle.core_steps.proofs.NameMaps.{get_other}
use Rattle.prepared_events.specs.declared.moves.TicketMove.{TicketMove}
use Rattle.prepared_events.specs.declared.moves.TicketMove.TheVariants.{Stay, SendOut, TakeIn, Try}
use Rattle.prepared_events.specs.Closed.{AreClosedBefore, IsThere}
use Rattle.prepared_events.specs.Private.{AreOthersBefore}
use Rattle.prepared_events.specs.Prepared.{FitsMove, moved, changed_by, without_ticket, tried_of, Ready}

-- an obligation whose stored proof and last tried sequent stay is closed as before, where no ticket for it came in
pub stays : (s t : State) (o : Obligation) → get t.durable.proofs o.name ≡ get s.durable.proofs o.name → get t.tried o.name ≡ get s.tried o.name →
    (AllByRecursion (λ k. IsFor o k → ⊥) t.out → AllByRecursion (λ k. IsFor o k → ⊥) s.out) → (IsOpen s o → ⊥) → IsOpen t o → ⊥
stays s t o proofs tried out closed can = closed (record {
  unsettled = (can.unsettled.0, subst (λ p. IsStatus p o.sequent can.unsettled.0) proofs can.unsettled.1, can.unsettled.2);
  not_out = out can.not_out;
  not_tried = λ e. can.not_tried (tried ∙ e);
})

-- closed before one place is closed before an earlier one, where the obligations before it stay closed
stays_before : (s t : State) (P : Obligation → Type 0) (old new : ℕ) (table : List Obligation) → new ≤ old → AllByRecursion P (take new table) →
    ((o : Obligation) → P o → (IsOpen s o → ⊥) → IsOpen t o → ⊥) → AllByRecursion (λ o. IsOpen s o → ⊥) (take old table) → AllByRecursion (λ o. IsOpen t o → ⊥) (take new table)
stays_before s t P old new table most others keep closed =
    all_so_both P (λ o. IsOpen s o → ⊥) (λ o. IsOpen t o → ⊥) keep (take new table) others (all_fewer (λ o. IsOpen s o → ⊥) new old table most closed)

-- ENTRIES

abbrev after_entry : State → Entry → State
after_entry s entry = record s { durable = entered s.durable entry }

-- a proof is stored under a name that no obligation before the place has
pub set_closed : (s : State) (project : Project) (name : List ℕ) (proof : Proof) (old new : ℕ) → new ≤ old → AreOthersBefore project name new →
    project ≡ entries s.durable.built → AreClosedBefore s old → AreClosedBefore (after_entry s (SetProof name proof)) new
set_closed s project name proof old new most others is closed table of =
    stays_before s (after_entry s (SetProof name proof)) (λ o. o.name ≢ name) old new table most (others table (subst (λ p. IsTableOf p table) (sym is) of))
    (λ o apart c. stays s (after_entry s (SetProof name proof)) o (get_other s.durable.proofs name o.name proof apart) refl (λ a. a) c) (closed table of)

-- no obligation is closed before the first place
pub none_closed : (s : State) → AreClosedBefore s 0
none_closed s table of = tt

-- TICKETS

-- no ticket for another name came in
without_other : (out : List Ticket) (at : ℕ) (k : Ticket) (o : Obligation) → at < length out → k ≡ get_or out at k → o.name ≢ k.name →
    AllByRecursion (λ t. IsFor o t → ⊥) (without_ticket at out) → AllByRecursion (λ t. IsFor o t → ⊥) out
without_other out at k o lt is apart none =
    let P : Ticket → Type 0 = λ t. IsFor o t → ⊥ in
    subst (AllByRecursion P) (sym (split out at k lt is))
    (all_both P (take at out) (k ∷ drop (at + 1) out) (all_first P (take at out) (drop (at + 1) out) none)
    ((λ for. apart (sym for.0)), all_rest P (take at out) (drop (at + 1) out) none)) where
      all_rest : (P : Ticket → Type 0) (xs ys : List Ticket) → AllByRecursion P (xs ++ ys) → AllByRecursion P ys
      all_rest P [] ys a = a
      all_rest P (x ∷ xs) ys a = all_rest P xs ys a.1

pub sent_closed : (s : State) (k : Ticket) (at : ℕ) → AreClosedBefore s at → AreClosedBefore (moved (SendOut k) s) at
sent_closed s k at closed table of =
    all_so (λ o. IsOpen s o → ⊥) (λ o. IsOpen (moved (SendOut k) s) o → ⊥)
    (λ o c. stays s (moved (SendOut k) s) o refl refl (all_first (λ t. IsFor o t → ⊥) s.out (k ∷ [])) c) (take at table) (closed table of)

module _ (s : State) (project : Project) (at : ℕ) (k : Ticket) (old new : ℕ) (lt : at < length s.out) (there : k ≡ get_or s.out at k) (most : new ≤ old)
    (others : AreOthersBefore project k.name new) (is : project ≡ entries s.durable.built) (closed : AreClosedBefore s old) where
  pub taken_closed : AreClosedBefore (moved (TakeIn at) s) new
  taken_closed table of =
      stays_before s (moved (TakeIn at) s) (λ o. o.name ≢ k.name) old new table most (others table (subst (λ p. IsTableOf p table) (sym is) of))
      (λ o apart c. stays s (moved (TakeIn at) s) o refl refl (without_other s.out at k o lt there apart) c) (closed table of)

  pub tried_closed : AreClosedBefore (moved (Try at) s) new
  tried_closed table of =
      let found : slice_get s.out at ≡ Some k = slice_get-get_or s.out at k lt ∙ ap Some (sym there) in
      stays_before s (moved (Try at) s) (λ o. o.name ≢ k.name) old new table most (others table (subst (λ p. IsTableOf p table) (sym is) of))
      (λ o apart c. stays s (moved (Try at) s) o refl
      (ap (λ t. get (tried_of s.tried t) o.name) found ∙ get_other s.tried k.name o.name k.sequent apart) (without_other s.out at k o lt there apart) c) (closed table of)

-- BOTH

-- what happens to the tickets leaves the durable
pub moved_durable : (tickets : TicketMove) (s : State) → (moved tickets s).durable ≡ s.durable
moved_durable Stay s = refl
moved_durable (SendOut k) s = refl
moved_durable (TakeIn at) s = refl
moved_durable (Try at) s = refl

-- the entry may come after what happens to the tickets
pub changed_after : (p : Ready) (s : State) → record (moved p.tickets s) { durable = entered_if (moved p.tickets s).durable p.entry } ≡ changed_by p s
changed_after p s = by p.tickets where
  by : (tickets : TicketMove) → record (moved tickets s) { durable = entered_if (moved tickets s).durable p.entry } ≡ moved tickets (record s { durable = entered_if s.durable p.entry })
  by Stay = refl
  by (SendOut k) = refl
  by (TakeIn at) = refl
  by (Try at) = refl

-- a ticket that comes in is there, where all is there for it
pub there : (out : List Ticket) (tried : FinMap text_cmp Sequent) (next a b : ℕ) (tickets : TicketMove) → FitsMove out tried next a b tickets → IsThere out tickets
there out tried next a b Stay fits = tt
there out tried next a b (SendOut k) fits = tt
there out tried next a b (TakeIn at) fits = fits
there out tried next a b (Try at) fits = fits.0

-- what stays closed after what happens to the tickets, and then after the entry
pub commit_closed : (s : State) (p : Ready) (project : Project) (old mid new : ℕ) → project ≡ entries s.durable.built → AreClosedBefore s old →
    ((t : State) → project ≡ entries t.durable.built → t.out ≡ s.out → AreClosedBefore t old → AreClosedBefore (moved p.tickets t) mid) →
    ((t : State) → project ≡ entries t.durable.built → AreClosedBefore t mid → AreClosedBefore (record t { durable = entered_if t.durable p.entry }) new) →
    AreClosedBefore (changed_by p s) new
commit_closed s p project old mid new is closed beside after =
    let same : project ≡ entries (moved p.tickets s).durable.built = is ∙ ap (λ d. entries d.built) (sym (moved_durable p.tickets s)) in
    subst (λ t. AreClosedBefore t new) (changed_after p s) (after (moved p.tickets s) same (beside s is refl closed))

-- THE SAME

-- what is closed after an entry is so after the same entry
pub after_is : (s : State) (e f : Option Entry) (new : ℕ) → e ≡ f → AreClosedBefore (record s { durable = entered_if s.durable f }) new →
    AreClosedBefore (record s { durable = entered_if s.durable e }) new
after_is s e f new is closed = subst (λ o. AreClosedBefore (record s { durable = entered_if s.durable o }) new) (sym is) closed

-- what is closed after what happens to the tickets is so after the same
pub move_is : (s : State) (m n : TicketMove) (new : ℕ) → m ≡ n → AreClosedBefore (moved n s) new → AreClosedBefore (moved m s) new
move_is s m n new is closed = subst (λ o. AreClosedBefore (moved o s) new) (sym is) closed
