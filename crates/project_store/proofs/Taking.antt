-- A take gives a ticket of the table, or none.
use Rattle.std.proofs.Common.{◌≡◌, ◌∙◌, ⊎_elim, sym, ap, subst, Option, None, List, [], ◌∷◌, ◌++◌}
use Rattle.std.specs.Prelude.{Result, Ok, Err, IfOk, bytes_eq}
use Rattle.std.specs.List.{IsDistinct}
use Rattle.std.specs.FinMap.{entries}
use Rattle.std.specs.Map.{keys_of}
use Rattle.sequent_core.specs.declared.Obligation.{Obligation}
use Rattle.sequent_core.specs.declared.Ticket.{Ticket}
use Rattle.sequent_core.specs.Sequents.{IsSequent}
use Rattle.po_rules.specs.Sequents.{AreSequents}
use Rattle.proof_entries.specs.declared.Entry.{Entry}
use Rattle.build_core.specs.Projects.{Project}
use Rattle.typed_tables.specs.Laws.{AreSequentsOfTables}
use Rattle.core_steps.specs.declared.events.Event.{Event}
use Rattle.core_steps.specs.declared.events.Event.TheVariants.{Take}
use Rattle.core_steps.specs.declared.events.Reply.{Reply}
use Rattle.core_steps.specs.declared.events.Reply.TheVariants.{Nothing, Taken}
use Rattle.core_steps.specs.State.{State}
use Rattle.core_steps.specs.Step.{Does}
use Rattle.core_steps.specs.Table.{IsTable}
use Rattle.core_steps.specs.Tickets.{ticket_for}
use Rattle.store_log.specs.declared.fault.StoreFault.{StoreFault}
use Rattle.project_store.specs.Store.{StoreState, Performs}

middle : (before : List Obligation) (o : Obligation) (behind : List Obligation) → AreSequents (before ++ o ∷ behind) → IsSequent o.sequent
middle [] o behind all = all.0
middle (b ∷ before) o behind all = middle before o behind all.1

-- the sequent of a ticket that is given is one of the table
pub taken_sequent : (s : State) (reply : Reply) (entry : Option Entry) (new : State) (ticket : Ticket) → ((table : List Obligation) → IsTable s.durable.built table → AreSequents table)
    → Does s (Take None) reply entry new → reply ≡ Taken ticket → IsSequent ticket.sequent
taken_sequent s reply entry new ticket law does is = ⊎_elim
    (λ w. absurd (let e : Nothing ≡ Taken ticket = sym (ap (λ x. x.reply) w.1) ∙ is in cc))
    (λ w.
    let e : Taken (ticket_for s.next w.1) ≡ Taken ticket = sym (ap (λ x. x.reply) w.6) ∙ is in
    let same : ticket_for s.next w.1 ≡ ticket = cc in
    subst IsSequent (ap (λ (t : Ticket). t.sequent) same) (middle w.0 w.1 w.2 (subst AreSequents w.3 (law does.0 does.1))))
    does.2

-- a take that gives no ticket finds nothing
pub nothing_taken : (s : State) (reply : Reply) (entry : Option Entry) (new : State) → Does s (Take None) reply entry new → ((ticket : Ticket) → reply ≡ Taken ticket → ⊥) → reply ≡ Nothing
nothing_taken s reply entry new does never = ⊎_elim (λ w. ap (λ x. x.reply) w.1) (λ w. absurd (never (ticket_for s.next w.1) (ap (λ x. x.reply) w.6))) does.2

-- the sequent of a ticket that an act of the store gives
pub takes_sequents : {D : Type 0} (old new : StoreState D) (event : Event) (result : Result Reply StoreFault) (project : Project) (core : State) → AreSequentsOfTables → IsDistinct bytes_eq (keys_of project)
    → project ≡ entries core.durable.built → core ≡ old.core → IfOk result (λ reply. Performs old event reply new) → event ≡ Take None → IfOk result (λ reply. (ticket : Ticket) → reply ≡ Taken ticket → IsSequent ticket.sequent)
takes_sequents old new event (Err fault) project core law distinct builds at step is = tt
takes_sequents old new event (Ok reply) project core law distinct builds at step is =
    let same : project ≡ entries old.core.durable.built = builds ∙ ap (λ (s : State). entries s.durable.built) at in
    let apart = subst (λ p. IsDistinct bytes_eq (keys_of p)) same distinct in
    λ ticket given. taken_sequent old.core reply step.entry new.core ticket (λ table t. law (entries old.core.durable.built) apart table t) (subst (λ e. Does old.core e reply step.entry new.core) is step.does) given
