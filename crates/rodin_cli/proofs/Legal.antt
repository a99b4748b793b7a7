-- Rounds are legal, and leave nothing unproved that they needn't.
use Rattle.std.proofs.Common.{◌≡◌, ◌≢◌, ◌∙◌, ◌⊎◌, inl, inr, sym, ap, subst, refl, ℕ, ◌+◌, ◌≤◌, List, [], ◌∷◌, ◌++◌, length, append_assoc, arith}
use Rattle.std.proofs.lemmas.List.{length-append}
use Rattle.std.specs.Prelude.{Option, None, Some}
use Rattle.std.specs.List.{AllByRecursion}
use Rattle.std.specs.FinMap.{get-empty}
use Rattle.sequent_core.specs.declared.Sequent.{Sequent}
use Rattle.sequent_core.specs.declared.Obligation.{Obligation}
use Rattle.sequent_core.specs.declared.Attempt.{Attempt}
use Rattle.core_steps.specs.Durable.{text_cmp}
use Rattle.core_steps.specs.declared.Event.TheVariants.{Edit, Build, Take, Ask}
use Rattle.core_steps.specs.declared.Question.{Question}
use Rattle.core_steps.specs.declared.Question.TheVariants.{Statuses as AskStatuses, Faults as AskFaults}
use Rattle.core_steps.specs.declared.Reply.{Reply}
use Rattle.core_steps.specs.declared.Reply.TheVariants.{BadName, TextTooLong, ProjectFull, Edited, Built, TableFull, Nothing, Taken, NoTicket, Statuses, Faults}
use Rattle.core_steps.specs.Laws.{DecidesSequents}
use Rattle.core_steps.specs.Status.{IsUnsettledBy}
use Rattle.core_steps.specs.Table.{IsTable, IsTableWithin}
use Rattle.core_steps.specs.State.{State, opened, no_texts}
use Rattle.core_steps.specs.Outcomes.{StepOutcome}
use Rattle.core_steps.specs.Editing.{Edits, Builds}
use Rattle.core_steps.specs.Tickets.{IsOpen, TakesFirst, ticket_for}
use Rattle.core_steps.specs.Run.{Exchange, IsStepOf, Runs, IsLegal}
use Rattle.core_steps.proofs.Alls.{all_both, all_so}
use Rattle.core_steps.proofs.Cases.{edit_any}
use Rattle.check_input.specs.Inputs.{Component}
use Rattle.build_core.specs.declared.FaultLine.{FaultLine}
use Rattle.proof_entries.specs.declared.Origin.{Origin}
use Rattle.core_steps.specs.declared.Status.{Status}
use Rattle.rodin_cli.specs.declared.round.Numbers.{Numbers}
use Rattle.rodin_cli.specs.declared.session.Session.{Session}
use Rattle.rodin_cli.specs.PrivateSession.{Extends, IsUnchanged}
use Rattle.rodin_cli.specs.Script.{AreEdits, AreFirstEdits, AreTurns, AreFirstAsks, IsEndFront, IsBuiltReply, IsFullScript, IsRound, IsRoundFront, IsWholeScript, IsFront}
use Rattle.session_run.specs.Completeness.{LeavesNothingSure}
use Rattle.rodin_cli.proofs.OneTable.{one_table, distinct_table}
use Rattle.rodin_cli.proofs.Edits.{then_unchanged}
use Rattle.rodin_cli.proofs.Sessions.{outcome, comes, Run-split, both, asked_round, front_of_round, front_without_asks}
use Rattle.rodin_cli.proofs.Sizes.{table_within}
use Rattle.rodin_cli.proofs.Completing.{AtRest, HasReason, HaveReasons, more_reasons, turns_close, nothing_left, left_over}

-- the reply isn't that no such ticket is out
abbrev pub IsLegalReply : Reply → Type 0
IsLegalReply reply = (number : ℕ) → reply ≢ NoTicket number

abbrev pub IsLegalExchange : Exchange → Type 0
IsLegalExchange x = IsLegalReply x.reply

gathered : (xs edits : List Exchange) (build : Exchange) (turns : List Exchange) → (xs ++ (edits ++ build ∷ [])) ++ turns ≡ xs ++ (edits ++ build ∷ turns)
gathered xs edits build turns = simp append_assoc

legal_as : (x z : StepOutcome) → x ≡ z → IsLegalReply z.reply → IsLegalReply x.reply
legal_as x z is legal = subst (λ u. IsLegalReply u.reply) (sym is) legal

-- what provers changed stays as it is: the tickets out, what was tried, and the next number
pub record Stays (s t : State) : Type 0 where
  pub out : t.out ≡ s.out
  pub tried : t.tried ≡ s.tried
  pub next : t.next ≡ s.next

stays_as : (s : State) (x z : StepOutcome) → x ≡ z → Stays s z.new → IsLegalReply z.reply → Stays s x.new × IsLegalReply x.reply
stays_as s x z is stays legal = (subst (λ u. Stays s u.new) (sym is) stays, legal_as x z is legal)

same_stays : (s : State) → Stays s s
same_stays s = record { out = refl; tried = refl; next = refl }

then_stays : (s t u : State) → Stays s t → Stays t u → Stays s u
then_stays s t u p q = record { out = q.out ∙ p.out; tried = q.tried ∙ p.tried; next = q.next ∙ p.next }

edit_stays : (s : State) (x : StepOutcome) (name text : List ℕ) → Edits s name text x → Stays s x.new × IsLegalReply x.reply
edit_stays s x name text d =
    edit_any d
    (λ is. stays_as s x _ is (same_stays s) (λ n e. let no : BadName ≡ NoTicket n = e in cc))
    (λ is. stays_as s x _ is (same_stays s) (λ n e. let no : TextTooLong ≡ NoTicket n = e in cc))
    (λ is. stays_as s x _ is (same_stays s) (λ n e. let no : ProjectFull ≡ NoTicket n = e in cc))
    (λ is. stays_as s x _ is (record { out = refl; tried = refl; next = refl }) (λ n e. let no : Edited name ≡ NoTicket n = e in cc))

edit_step : (s t : State) (x : Exchange) (name text : List ℕ) → x.event ≡ Edit name text → IsStepOf s x t → Stays s t × IsLegalReply x.reply
edit_step s t x name text e d = edit_stays s (outcome x t) name text (comes s t x (Edit name text) e d).2

-- edits change nothing of it, and are legal
edits_stay : (parts : List Component) (edits : List Exchange) (s t : State) → AreEdits parts edits → Runs s edits t → Stays s t × IsLegal edits
edits_stay [] [] s t are run = (subst (Stays s) (sym run) (same_stays s), tt)
edits_stay [] (x ∷ edits) s t are run = absurd are
edits_stay (part ∷ parts) [] s t are run = absurd are
edits_stay (part ∷ parts) (x ∷ edits) s t are run =
    let one = edit_step s run.0 x part.0 part.1 are.0 run.1 in
    let rest = edits_stay parts edits run.0 t are.1 run.2 in
    (then_stays s run.0 t one.0 rest.0, (one.1, rest.1))

-- the first edits of a round are legal
first_edits_legal : (parts : List Component) (edits : List Exchange) (s t : State) → AreFirstEdits parts edits → Runs s edits t → IsLegal edits
first_edits_legal parts [] s t are run = tt
first_edits_legal [] (x ∷ edits) s t are run = absurd are
first_edits_legal (part ∷ parts) (x ∷ edits) s t are run =
    ((edit_step s run.0 x part.0 part.1 are.0 run.1).1, first_edits_legal parts edits run.0 t are.1 run.2)

built_stays : (s : State) (x : StepOutcome) → Builds s x → Stays s x.new × IsLegalReply x.reply
built_stays s x (inl d) = stays_as s x _ d.2 (same_stays s) (λ n e. let no : TableFull d.0 ≡ NoTicket n = e in cc)
built_stays s x (inr d) =
    stays_as s x _ d.4 (record { out = refl; tried = refl; next = refl }) (λ n e. let no : Built _ _ _ ≡ NoTicket n = e in cc)

build_step : (s t : State) (x : Exchange) → x.event ≡ Build → IsStepOf s x t → Stays s t × IsLegalReply x.reply
build_step s t x e d = built_stays s (outcome x t) (comes s t x Build e d).2

-- where the texts are built, they have a table within the limit
built_table : (s : State) (x : StepOutcome) → Builds s x → IsBuiltReply x.reply → (table : List Obligation) × IsTableWithin x.new.durable.built table
built_table s x (inl d) (components, faulted, obligations, is) = let no : TableFull d.0 ≡ Built components faulted obligations = sym (ap (λ z. z.reply) d.2) ∙ is in cc
built_table s x (inr d) built = (d.0, subst (λ u. IsTableWithin u.new.durable.built d.0) (sym d.4) d.2)

taken_legal : (s : State) (x : StepOutcome) (table : List Obligation) → TakesFirst s table x → IsLegalReply x.reply
taken_legal s x table (inl none) = legal_as x _ none.1 (λ n e. let no : Nothing ≡ NoTicket n = e in cc)
taken_legal s x table (inr taken) = legal_as x _ taken.6 (λ n e. let no : Taken (ticket_for s.next taken.1) ≡ NoTicket n = e in cc)

take_step : (s t : State) (x : Exchange) → x.event ≡ Take None → IsStepOf s x t → IsLegalReply x.reply
take_step s t x e d = let a = comes s t x (Take None) e d in taken_legal s (outcome x t) a.0 a.2

-- THE QUESTIONS

-- the question is for the faults or for the statuses
abbrev pub IsSimple : Question → Type 0
IsSimple question = (question ≡ AskFaults) ⊎ (question ≡ AskStatuses)

ask_step : (s t : State) (x : Exchange) (question : Question) → IsSimple question → x.event ≡ Ask question → IsStepOf s x t → (t ≡ s) × IsLegalReply x.reply
ask_step s t x question (inl is) e d =
    let a = (comes s t x (Ask AskFaults) (e ∙ ap Ask is) d).2 in
    (ap (λ z. z.new) a.4, legal_as (outcome x t) _ a.4 (λ n f. let no : Faults a.0 a.1 ≡ NoTicket n = f in cc))
ask_step s t x question (inr is) e d =
    let a = (comes s t x (Ask AskStatuses) (e ∙ ap Ask is) d).2 in
    (ap (λ z. z.new) a.2, legal_as (outcome x t) _ a.2 (λ n f. let no : Statuses a.0 ≡ NoTicket n = f in cc))

asks_legal : (questions : List Question) (asked : List Exchange) (s t : State) → AllByRecursion IsSimple questions → AreFirstAsks questions asked → Runs s asked t → (t ≡ s) × IsLegal asked
asks_legal questions [] s t simple are run = (run, tt)
asks_legal [] (x ∷ asked) s t simple are run = absurd are
asks_legal (question ∷ questions) (x ∷ asked) s t simple are run =
    let one = ask_step s run.0 x question simple.0 are.0 run.1 in
    let more = asks_legal questions asked run.0 t simple.1 are.1 run.2 in
    (more.0 ∙ one.0, (one.1, more.1))

end_legal : (questions : List Question) (end : List Exchange) (s t : State) → AllByRecursion IsSimple questions → IsEndFront questions end → Runs s end t → IsLegal end
end_legal questions [] s t simple are run = tt
end_legal questions (x ∷ []) s t simple are run = (take_step s run.0 x are run.1, tt)
end_legal questions (x ∷ y ∷ end) s t simple are run =
    (take_step s run.0 x are.0 run.1, (asks_legal questions (y ∷ end) run.0 t simple are.2 run.2).1)

-- ROUNDS

-- the empty project is opened at rest
pub opened_rests : (sure : Sequent → Type 0) → AtRest sure (opened no_texts) []
opened_rests sure = record {
  out = refl;
  reasons = λ o tried. let no : None ≡ Some o.sequent = sym (get-empty text_cmp o.name) ∙ tried in cc;
}

-- edits and a build leave the tickets that are out, and the next number
pub begun_stays : (parts : List Component) (edits : List Exchange) (build : Exchange) (s t : State) → AreEdits parts edits → build.event ≡ Build → Runs s (edits ++ build ∷ []) t → Stays s t
begun_stays parts edits build s t are is run =
    let cut = Run-split s t edits (build ∷ []) run in
    let built = build_step cut.0 cut.2.0 build is cut.2.1 in
    subst (Stays s) (sym cut.2.2) (then_stays s cut.0 cut.2.0 (edits_stay parts edits s cut.0 are cut.1).0 built.0)

-- a round whose table is too large is legal
pub full_legal : (parts : List Component) (exchanges : List Exchange) (s t : State) → IsFullScript parts exchanges → Runs s exchanges t → IsLegal exchanges
full_legal parts exchanges s t w run =
    let cut = Run-split s t w.edits (w.build ∷ []) (subst (λ xs. Runs s xs t) w.in_order run) in
    let built = build_step cut.0 cut.2.0 w.build w.build_is.0 cut.2.1 in
    subst IsLegal (sym w.in_order) (all_both IsLegalExchange w.edits (w.build ∷ []) (edits_stay parts w.edits s cut.0 w.edits_are cut.1).1 (built.1, tt))

-- where the edits, the build and the turns of a round lead
record Begun (sure : Sequent → Type 0) (s t : State) (xs front : List Exchange) : Type 0 where
  pub table : List Obligation
  pub is : IsTable t.durable.built table
  pub rest : AtRest sure t (xs ++ front)
  pub legal : IsLegal front
  pub next : t.next ≤ s.next + 8388608

-- Where a whole round leads: it is legal, nothing sure is left unproved unless memory ran out over it, and it took no more
-- numbers than a table has obligations.
pub record Led (sure : Sequent → Type 0) (s t : State) (xs exchanges : List Exchange) : Type 0 where
  pub rest : AtRest sure t (xs ++ exchanges)
  pub legal : IsLegal exchanges
  pub complete : LeavesNothingSure sure t.durable (xs ++ exchanges)
  pub next : t.next ≤ s.next + 8388608

module _ (answers : Sequent → Attempt → Type 0) (sure : Sequent → Type 0) where
  begun : (parts : List Component) (edits : List Exchange) (build : Exchange) (turns : List Exchange) (s t : State) (xs : List Exchange) → AtRest sure s xs →
      AreEdits parts edits → build.event ≡ Build → IsBuiltReply build.reply → AreTurns answers sure turns → Runs s (edits ++ build ∷ turns) t → Begun sure s t xs (edits ++ build ∷ turns)
  begun parts edits build turns s t xs rest are is replied turned run =
      let cut = Run-split s t edits (build ∷ turns) run in
      let m = cut.2.0 in
      let edited = edits_stay parts edits s cut.0 are cut.1 in
      let built = build_step cut.0 m build is cut.2.1 in
      let b = built_table cut.0 (outcome build m) (comes cut.0 m build Build is cut.2.1).2 replied in
      let stays = then_stays s cut.0 m edited.0 built.0 in
      let rested : AtRest sure m (xs ++ (edits ++ build ∷ [])) = record {
        out = stays.out ∙ rest.out;
        reasons = subst (λ tried. HaveReasons sure tried (xs ++ (edits ++ build ∷ []))) (sym stays.tried) (more_reasons sure s.tried xs (edits ++ build ∷ []) rest.reasons);
      } in
      let w = turns_close answers sure turns b.0 [] b.0 m t (xs ++ (edits ++ build ∷ [])) b.1.0 (distinct_table m.durable.built b.0 b.1.0) refl tt rested turned cut.2.2 in
      let most = w.count in
      let next = w.next in
      let few = table_within b.0 b.1.1 in
      let start = stays.next in
      record {
        table = b.0;
        is = subst (λ p. IsTable p b.0) (sym w.built) b.1.0;
        rest = subst (AtRest sure t) (gathered xs edits build turns) w.rest;
        legal = all_both IsLegalExchange edits (build ∷ turns) edited.1 (built.1, w.legal);
        next = omega (arith, most, next, few, start, ap length w.cut, length-append w.past w.ahead);
      }

  -- a front of a round is legal
  pub front_legal : (parts : List Component) (questions : List Question) (exchanges : List Exchange) (s t : State) (xs : List Exchange) → AtRest sure s xs → AllByRecursion IsSimple questions →
      IsRoundFront answers sure parts questions exchanges → Runs s exchanges t → IsLegal exchanges
  front_legal parts questions exchanges s t xs rest simple (inl are) run = first_edits_legal parts exchanges s t are run
  front_legal parts questions exchanges s t xs rest simple (inr (edits, build, turns, end, in_order, are, is, replied, turned, ends)) run =
      let cut = Run-split s t (edits ++ build ∷ turns) end (subst (λ ys. Runs s ys t) in_order run) in
      let begins = begun parts edits build turns s cut.0 xs rest are is replied turned cut.1 in
      subst IsLegal (sym in_order) (all_both IsLegalExchange (edits ++ build ∷ turns) end begins.legal (end_legal questions end cut.0 t simple ends cut.2))

  pub round_leads : DecidesSequents → (parts : List Component) (numbers : Numbers) (questions : List Question) (asked exchanges : List Exchange) (s t : State) (xs : List Exchange) → AtRest sure s xs →
      AllByRecursion IsSimple questions → AreFirstAsks questions asked → IsRound answers sure parts numbers asked exchanges → Runs s exchanges t → Led sure s t xs exchanges
  round_leads decides parts numbers questions asked exchanges s t xs rest simple asks w run =
      let front = w.edits ++ w.build ∷ w.turns in
      let end = w.nothing ∷ asked in
      let cut = Run-split s t front end (subst (λ ys. Runs s ys t) w.in_order run) in
      let m = cut.0 in
      let k = cut.2.0 in
      let begins = begun parts w.edits w.build w.turns s m xs rest w.edits_are w.build_is.0 (numbers.components, numbers.faulted, numbers.obligations, w.build_is.1) w.turns_are cut.1 in
      let d = comes m k w.nothing (Take None) w.nothing_is.0 cut.2.1 in
      let first = subst (λ os. TakesFirst m os (outcome w.nothing k)) (one_table m.durable.built d.0 begins.table d.1 begins.is) d.2 in
      let left = nothing_left begins.table m (outcome w.nothing k) w.nothing_is.1 first in
      let questioned = asks_legal questions asked k t simple asks cut.2.2 in
      let same : t ≡ m = questioned.0 ∙ left.1 in
      let more : (xs ++ front) ++ end ≡ xs ++ exchanges = append_assoc xs front end ∙ ap (λ ys. xs ++ ys) (sym w.in_order) in
      record {
        rest = subst (λ u. AtRest sure u (xs ++ exchanges)) (sym same)
            (subst (AtRest sure m) more (record { out = begins.rest.out; reasons = more_reasons sure m.tried (xs ++ front) end begins.rest.reasons }));
        legal = subst IsLegal (sym w.in_order)
            (all_both IsLegalExchange front end begins.legal (take_step m k w.nothing w.nothing_is.0 cut.2.1, questioned.1));
        complete = subst (λ u. LeavesNothingSure sure u.durable (xs ++ exchanges)) (sym same)
            (subst (LeavesNothingSure sure m.durable) more (
              begins.table,
              begins.is,
              all_so (λ o. IsOpen m o → ⊥) (λ o. IsUnsettledBy m.durable.proofs o → HasReason sure ((xs ++ front) ++ end) o)
                  (λ o closed unsettled. left_over decides sure m ((xs ++ front) ++ end) o
                  (record { out = begins.rest.out; reasons = more_reasons sure m.tried (xs ++ front) end begins.rest.reasons }) closed unsettled)
                  begins.table left.0,
            ));
        next = subst (λ u. u.next ≤ s.next + 8388608) (sym same) begins.next;
      }

-- CHECK

abbrev both_asks : List Question
both_asks = AskFaults ∷ AskStatuses ∷ []

both_simple : AllByRecursion IsSimple both_asks
both_simple = (inl refl, (inr refl, tt))

module _ (answers : Sequent → Attempt → Type 0) (sure : Sequent → Type 0) (parts : List Component) (a : Session) (empty : a.core ≡ opened no_texts) where
  rests : AtRest sure a.core []
  rests = subst (λ s. AtRest sure s []) (sym empty) (opened_rests sure)

  -- a front of a run of `check` is legal
  pub legal_front : (d : Session) (exchanges : List Exchange) → IsFront answers sure parts exchanges → Extends a exchanges d →
      (exchanges : List Exchange) × IsFront answers sure parts exchanges × IsLegal exchanges × Extends a exchanges d
  legal_front d exchanges front p = (exchanges, front, front_legal answers sure parts both_asks exchanges a.core d.core [] rests both_simple front p.0, p)

  pub front_of_working : (d : Session) (exchanges : List Exchange) → IsRoundFront answers sure parts [] exchanges → Extends a exchanges d →
      (exchanges : List Exchange) × IsFront answers sure parts exchanges × IsLegal exchanges × Extends a exchanges d
  front_of_working d exchanges front p = legal_front d exchanges (front_without_asks answers sure parts both_asks exchanges front) p

  module _ (c d : Session) (numbers : Numbers) (worked : List Exchange) (round : IsRound answers sure parts numbers [] worked) (p : Extends a worked c) where
    -- nothing is left, and the questions fail
    pub front_of_asking : (IsUnchanged c d ⊎ ((x : Exchange) × (x.event ≡ Ask AskFaults) × Extends c (x ∷ []) d)) →
        (exchanges : List Exchange) × IsFront answers sure parts exchanges × IsLegal exchanges × Extends a exchanges d
    front_of_asking (inl same) =
        legal_front d worked (front_of_round answers sure parts numbers both_asks [] worked tt round) (then_unchanged a c d worked p same)
    front_of_asking (inr (x, asks, q)) =
        legal_front d (worked ++ x ∷ [])
        (front_of_round answers sure parts numbers both_asks (x ∷ []) (worked ++ x ∷ []) (asks, tt) (asked_round answers sure parts numbers (x ∷ []) worked round))
        (both a c d worked (x ∷ []) p q)

    -- nothing is left, and the questions are answered
    pub whole_of_asking : DecidesSequents → (told : List FaultLine) (warned : List (List ℕ × List ℕ)) (shown : List (List ℕ × Status × Option Origin)) (x y : Exchange) →
        x.event ≡ Ask AskFaults → x.reply ≡ Faults told warned → y.event ≡ Ask AskStatuses → y.reply ≡ Statuses shown → Extends c (x ∷ y ∷ []) d →
        (exchanges : List Exchange) × IsWholeScript answers sure parts told warned shown exchanges × IsLegal exchanges × LeavesNothingSure sure d.core.durable exchanges × Extends a exchanges d
    whole_of_asking decides told warned shown x y asks tells asks_more shows q =
        let exchanges = worked ++ x ∷ y ∷ [] in
        let w = asked_round answers sure parts numbers (x ∷ y ∷ []) worked round in
        let r = both a c d worked (x ∷ y ∷ []) p q in
        let led = round_leads answers sure decides parts numbers both_asks (x ∷ y ∷ []) exchanges a.core d.core [] rests both_simple (asks, (asks_more, tt)) w r.0 in (
          exchanges,
          record { numbers = numbers; faults = x; statuses = y; round = w; faults_is = (asks, tells); statuses_is = (asks_more, shows) },
          led.legal,
          led.complete,
          r,
        )
