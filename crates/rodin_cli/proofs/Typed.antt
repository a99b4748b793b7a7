-- What a take gives: a ticket whose sequent is one of the table, and typed, or nothing.
use Rattle.std.proofs.Common.{◌≡◌, ◌≢◌, ◌∙◌, inl, inr, refl, sym, ap, subst, List, ◌∷◌}
use Rattle.std.specs.Prelude.{Option, None, Some, MatchOption}
use Rattle.std.specs.List.{AllByRecursion}
use Rattle.sequent_core.specs.declared.sequent.Obligation.{Obligation}
use Rattle.sequent_core.specs.declared.sequent.Ticket.{Ticket}
use Rattle.sequent_core.specs.Sequents.{IsSequent}
use Rattle.core_steps.specs.declared.Event.TheVariants.{Take}
use Rattle.core_steps.specs.declared.Reply.{Reply}
use Rattle.core_steps.specs.declared.Reply.TheVariants.{Nothing, Taken}
use Rattle.core_steps.specs.Outcomes.{StepOutcome}
use Rattle.core_steps.specs.State.{State}
use Rattle.core_steps.specs.Step.{Does, take_reply}
use Rattle.core_steps.specs.Tickets.{TakesFirst, ticket_for}
use Rattle.core_steps.proofs.Alls.{all_last}
use Rattle.rodin_cli.specs.declared.session.Session.{Session}
use Rattle.rodin_cli.specs.PrivateSession.{PerformsInSession}
use Rattle.rodin_cli.proofs.OneTable.{table_typed}

abbrev IsTyped : Obligation → Type 0
IsTyped o = IsSequent o.sequent

taken_typed : (s : State) (x : StepOutcome) (table : List Obligation) (ticket : Ticket) → x.reply ≡ Taken ticket → AllByRecursion IsTyped table → TakesFirst s table x → IsSequent ticket.sequent
taken_typed s x table ticket replied all (inl (closed, none)) = let no : Taken ticket ≡ Nothing = sym replied ∙ ap (λ z. z.reply) none in cc
taken_typed s x table ticket replied all (inr (before, o, behind, cut, closed, is_open, takes)) =
    let typed : IsSequent o.sequent = (all_last IsTyped before (o ∷ behind) (subst (AllByRecursion IsTyped) cut all)).0 in
    let given : Taken ticket ≡ Taken (ticket_for s.next o) = sym replied ∙ ap (λ z. z.reply) takes in
    let same : ticket ≡ ticket_for s.next o = cc in
    subst (λ (k : Ticket). IsSequent k.sequent) (sym same) typed

pub ticket_typed : (old new : Session) (ticket : Ticket) → PerformsInSession old (Take None) (Taken ticket) new → IsSequent ticket.sequent
ticket_typed old new ticket p =
    let d : Does old.core (Take None) (Taken ticket) p.0.0 new.core = p.0.1 in
    let x : StepOutcome = record { reply = Taken ticket; entry = p.0.0; new = new.core } in
    taken_typed old.core x d.0 ticket refl (table_typed old.core.durable.built d.0 d.1) d.2

-- a take that gives no ticket gives nothing
nothing_taken : (s : State) (x : StepOutcome) (table : List Obligation) → ((ticket : Ticket) → x.reply ≢ Taken ticket) → TakesFirst s table x → x.reply ≡ Nothing
nothing_taken s x table never (inl (closed, none)) = ap (λ z. z.reply) none
nothing_taken s x table never (inr (before, o, behind, cut, closed, is_open, takes)) = absurd (never (ticket_for s.next o) (ap (λ z. z.reply) takes))

took_nothing : (old new : Session) (reply : Reply) → PerformsInSession old (Take None) reply new → ((ticket : Ticket) → reply ≢ Taken ticket) → reply ≡ Nothing
took_nothing old new reply p never =
    let d : Does old.core (Take None) reply p.0.0 new.core = p.0.1 in
    let x : StepOutcome = record { reply = reply; entry = p.0.0; new = new.core } in
    nothing_taken old.core x d.0 never d.2

-- what a take gives, told by the ticket
pub took : (old new : Session) (reply : Reply) (taken : Option Ticket) → PerformsInSession old (Take None) reply new →
    MatchOption taken ((ticket : Ticket) → reply ≡ Taken ticket → ⊥) (λ ticket. reply ≡ Taken ticket) → PerformsInSession old (Take None) (take_reply taken) new
took old new reply None p is = subst (λ r. PerformsInSession old (Take None) r new) (took_nothing old new reply p is) p
took old new reply (Some ticket) p is = subst (λ r. PerformsInSession old (Take None) r new) is p
