-- What is built are the components of the input.
use Rattle.std.proofs.Common.{◌≡◌, ◌∙◌, sym, ap, subst, inl, inr, ℕ, ◌+◌, ◌<◌, ◌≤◌, Bool, true, false, cond, List, [], ◌∷◌, ◌++◌, length, arith}
use Rattle.std.specs.Prelude.{Option, None, Ok, fold}
use Rattle.std.specs.FinMap.{empty, insert, len, len-insert, len-empty, contains_key}
use Rattle.std.specs.Cmp.Lexicographic.{nat_list_cmp_total}
use Rattle.formula_core.specs.Names.{is_identifier}
use Rattle.sequent_core.specs.declared.Sequent.{Sequent}
use Rattle.sequent_core.specs.declared.Ticket.{Ticket}
use Rattle.sequent_core.specs.declared.Attempt.{Attempt}
use Rattle.sequent_core.specs.declared.Attempt.TheVariants.{Found, NoProof, NoMemory as AttemptNoMemory}
use Rattle.build_core.specs.declared.FaultLine.{FaultLine}
use Rattle.build_core.specs.Tables.{IsTooLargeOf, counted_nodes}
use Rattle.proof_entries.specs.declared.Origin.{Origin}
use Rattle.proof_entries.specs.declared.Entry.TheVariants.{Put}
use Rattle.core_steps.specs.declared.Status.{Status}
use Rattle.core_steps.specs.declared.Event.TheVariants.{Edit, Build, Take, Finish, Ask}
use Rattle.core_steps.specs.declared.Question.TheVariants.{Statuses as AskStatuses, Faults as AskFaults}
use Rattle.core_steps.specs.declared.Reply.TheVariants.{TableFull, Built}
use Rattle.core_steps.specs.Durable.{ProjectMap, text_cmp, IsBuildable}
use Rattle.core_steps.specs.State.{State, entered, opened, no_texts}
use Rattle.core_steps.specs.Table.{IsTooLarge}
use Rattle.core_steps.specs.Outcomes.{StepOutcome}
use Rattle.core_steps.specs.Editing.{Edits, bad_name, text_too_long, project_full, edited, Builds}
use Rattle.core_steps.specs.Tickets.{EndsTicket}
use Rattle.core_steps.specs.Step.{Comes}
use Rattle.core_steps.specs.Run.{Exchange, Runs}
use Rattle.core_steps.proofs.Cases.{found_any}
use Rattle.core_steps.proofs.NameMaps.{entries-empty}
use Rattle.check_input.specs.Inputs.{Component, IsInput}
use Rattle.check_input.specs.Laws.{AreGoodFrom}
use Rattle.check_input.proofs.Good.{parts_are_good}
use Rattle.rodin_cli.specs.Check.{with_component, project_of}
use Rattle.rodin_cli.specs.Script.{AreEdits, AreTurns, IsBuiltReply, IsWholeScript}
use Rattle.rodin_cli.proofs.Sessions.{Run-split, comes}

-- the empty project may be built
pub empty_buildable : IsBuildable (empty {X = List ℕ} {R = text_cmp})
empty_buildable = rw (entries-empty {X = List ℕ}) tt

-- and its table isn't too large
none_too_large : (n : ℕ) → IsTooLargeOf [] n → ⊥
none_too_large n large =
    let none : n ≡ 0 = subst (λ table. n ≡ counted_nodes table) large.1 large.3 in
    omega (arith, large.2, none)

pub empty_fits : (n : ℕ) → IsTooLarge (empty {X = List ℕ} {R = text_cmp}) n → ⊥
empty_fits n large = none_too_large n (subst (λ es. IsTooLargeOf es n) (entries-empty {X = List ℕ}) large)

-- ---- edits
edited_to : (s : State) (x : StepOutcome) (name text : List ℕ) → Edits s name text x → is_identifier name ≡ true → length text ≤ 65536 → len s.durable.texts < 256 →
    x.new.durable ≡ entered s.durable (Put name text)
edited_to s x name text (bad_name primed d) is short room = absurd (primed is)
edited_to s x name text (text_too_long named long d) is short room = absurd (omega (arith, long, short))
edited_to s x name text (project_full named within full d) is short room = absurd (let many = full.1 in omega (arith, many, room))
edited_to s x name text (edited named within lacks d) is short room = ap (λ z. z.new.durable) d

one_more : (b : Bool) (n k : ℕ) → n ≤ k → cond b n (n + 1) ≤ k + 1
one_more true n k h = omega (arith, h)
one_more false n k h = omega (arith, h)

room_for : (texts : ProjectMap) (name text : List ℕ) (n : ℕ) → len texts ≤ n → len (insert texts name text) ≤ n + 1
room_for texts name text n h =
    subst (λ k. k ≤ n + 1) (sym (len-insert nat_list_cmp_total texts name text)) (one_more (contains_key texts name) (len texts) n h)

edits_lead : (parts : List Component) (edits : List Exchange) (s t : State) (n : ℕ) → AreGoodFrom n parts → len s.durable.texts ≤ n → AreEdits parts edits → Runs s edits t →
    t.durable.texts ≡ fold with_component s.durable.texts parts
edits_lead [] [] s t n good room are run = ap (λ u. u.durable.texts) run
edits_lead [] (x ∷ edits) s t n good room are run = absurd are
edits_lead (p ∷ parts) [] s t n good room are run = absurd are
edits_lead (p ∷ parts) (x ∷ edits) s t n good room are (m, step, rest) =
    let few = good.2 in
    let is : m.durable ≡ entered s.durable (Put p.0 p.1) = edited_to s _ p.0 p.1 (comes s m x (Edit p.0 p.1) are.0 step).2 good.0 good.1 (omega (arith, few, room)) in
    let texts : m.durable.texts ≡ insert s.durable.texts p.0 p.1 = ap (λ u. u.texts) is in
    let more : len m.durable.texts ≤ n + 1 = subst (λ u. len u ≤ n + 1) (sym texts) (room_for s.durable.texts p.0 p.1 n room) in
    edits_lead parts edits m t (n + 1) good.3 more are.1 rest ∙ ap (λ u. fold with_component u parts) texts

-- ---- the build, and what comes behind it
build_takes : (s : State) (x : StepOutcome) → Builds s x → IsBuiltReply x.reply → x.new.durable.built ≡ s.durable.texts
build_takes s x (inl d) (components, faulted, obligations, is) = let no : TableFull d.0 ≡ Built components faulted obligations = sym (ap (λ z. z.reply) d.2) ∙ is in cc
build_takes s x (inr d) replied = ap (λ z. z.new.durable.built) d.4

take_keeps : (s : State) (x : StepOutcome) → Comes s (Take None) x → x.new.durable.built ≡ s.durable.built
take_keeps s x (table, is, inl d) = ap (λ z. z.new.durable.built) d.1
take_keeps s x (table, is, inr d) = ap (λ z. z.new.durable.built) d.6

ends_keep : (s : State) (ticket : Ticket) (sequent : Option Sequent) (attempt : Attempt) (x : StepOutcome) → EndsTicket s ticket sequent attempt x → x.new.durable.built ≡ s.durable.built
ends_keep s ticket sequent NoProof x e = ap (λ z. z.new.durable.built) e.2
ends_keep s ticket sequent AttemptNoMemory x e = ap (λ z. z.new.durable.built) e.2
ends_keep s ticket sequent (Found tree) x e = found_any e.2 (ap (λ z. z.new.durable.built)) (ap (λ z. z.new.durable.built)) (ap (λ z. z.new.durable.built))

finish_keeps : (s : State) (x : StepOutcome) (number : ℕ) (attempt : Attempt) → Comes s (Finish number attempt) x → x.new.durable.built ≡ s.durable.built
finish_keeps s x number attempt (table, is, inl d) = ap (λ z. z.new.durable.built) d.1
finish_keeps s x number attempt (table, is, inr (before, ticket, behind, cut, numbered, (sequent, present, e))) =
    ends_keep (record s { out = before ++ behind }) ticket sequent attempt x e

faults_keep : (s : State) (x : StepOutcome) → Comes s (Ask AskFaults) x → x.new.durable.built ≡ s.durable.built
faults_keep s x (table, is, d) = ap (λ z. z.new.durable.built) d.4

statuses_keep : (s : State) (x : StepOutcome) → Comes s (Ask AskStatuses) x → x.new.durable.built ≡ s.durable.built
statuses_keep s x (table, is, d) = ap (λ z. z.new.durable.built) d.2

module _ (answers : Sequent → Attempt → Type 0) (sure : Sequent → Type 0) where
  turns_keep : (turns : List Exchange) (s t : State) → AreTurns answers sure turns → Runs s turns t → t.durable.built ≡ s.durable.built
  turns_keep [] s t are run = ap (λ u. u.durable.built) run
  turns_keep (x ∷ []) s t are run = absurd are
  turns_keep (x ∷ y ∷ turns) s t are (m, first, (n, second, rest)) =
      let (ticket, attempt, takes, given, finishes, fair) = are.0 in
      turns_keep turns n t are.1 rest
      ∙ finish_keeps m _ ticket.number attempt (comes m n y (Finish ticket.number attempt) finishes second)
      ∙ take_keeps s _ (comes s m x (Take None) takes first)

  -- a whole run builds the components of the input
  pub built_of : (bytes : List ℕ) (parts : List Component) (told : List FaultLine) (warned : List (List ℕ × List ℕ)) (shown : List (List ℕ × Status × Option Origin)) (exchanges : List Exchange) (t : State) →
      IsInput bytes (Ok parts) → IsWholeScript answers sure parts told warned shown exchanges → Runs (opened no_texts) exchanges t → t.durable.built ≡ project_of parts
  built_of bytes parts told warned shown exchanges t made w run =
      let s : State = opened no_texts in
      let cut = Run-split s t (w.round.edits ++ w.round.build ∷ w.round.turns) (w.round.nothing ∷ w.faults ∷ w.statuses ∷ []) (subst (λ xs. Runs s xs t) w.round.in_order run) in
      let front = Run-split s cut.0 w.round.edits (w.round.build ∷ w.round.turns) cut.1 in
      let none : len s.durable.texts ≡ 0 = len-empty text_cmp (List ℕ) in
      let texts = edits_lead parts w.round.edits s front.0 0 (parts_are_good bytes parts made) (omega (arith, none)) w.round.edits_are front.1 in
      let b = front.2 in
      let built = build_takes front.0 _ (comes front.0 b.0 w.round.build Build w.round.build_is.0 b.1).2 (w.numbers.components, w.numbers.faulted, w.numbers.obligations, w.round.build_is.1) in
      let r = cut.2 in
      let taken = take_keeps cut.0 _ (comes cut.0 r.0 w.round.nothing (Take None) w.round.nothing_is.0 r.1) in
      let tells = faults_keep r.0 _ (comes r.0 r.2.0 w.faults (Ask AskFaults) w.faults_is.0 r.2.1) in
      let shows = statuses_keep r.2.0 _ (comes r.2.0 r.2.2.0 w.statuses (Ask AskStatuses) w.statuses_is.0 r.2.2.1) in
      ap (λ u. u.durable.built) r.2.2.2 ∙ shows ∙ tells ∙ taken ∙ turns_keep w.round.turns b.0 cut.0 w.round.turns_are b.2 ∙ built ∙ texts
