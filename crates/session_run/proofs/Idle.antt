-- In a fair run nothing that is sure is left when all is idle, unless memory ran out over it.
use Rattle.std.proofs.Common.{◌≡◌, ◌≢◌, ◌⊎◌, inl, inr, ℕ, true, false, List, [], ◌∷◌, ◌++◌, refl, sym, ap, ◌∙◌, subst}
use Rattle.std.proofs.lemmas.List.{append-nil, append_assoc}
use Rattle.std.specs.FinMap.{get-empty}
use Rattle.std.proofs.lemmas.Bool.{cases_Bool}
use Rattle.std.proofs.lemmas.Slice.Eq.{bytes_eq-Decides}
use Rattle.std.specs.Prelude.{Option, Some, None, bytes_eq}
use Rattle.std.specs.List.{AllByRecursion}
use Rattle.std.specs.FinMap.{get, insert}
use Rattle.sequent_core.specs.declared.Sequent.{Sequent}
use Rattle.sequent_core.specs.declared.Obligation.{Obligation}
use Rattle.sequent_core.specs.declared.Ticket.{Ticket}
use Rattle.sequent_core.specs.declared.Attempt.{Attempt}
use Rattle.sequent_core.specs.declared.Attempt.TheVariants.{Found, NoProof, NoMemory as AttemptNoMemory}
use Rattle.sequent_core.specs.Provers.{IsGood}
use Rattle.core_steps.specs.Durable.{text_cmp}
use Rattle.core_steps.specs.declared.Event.{Event}
use Rattle.core_steps.specs.declared.Event.TheVariants.{Finish, Ask}
use Rattle.core_steps.specs.declared.Question.TheVariants.{Idle as AskIdle}
use Rattle.proof_entries.specs.declared.Entry.{Entry}
use Rattle.core_steps.specs.declared.Reply.{Reply}
use Rattle.core_steps.specs.declared.Reply.TheVariants.{Taken, Idle}
use Rattle.core_steps.specs.State.{State, opened}
use Rattle.core_steps.specs.Step.{Does}
use Rattle.core_steps.specs.Tickets.{IsFor, IsIdle, IsOpen}
use Rattle.core_steps.specs.Table.{IsTable}
use Rattle.core_steps.specs.Status.{IsUnsettledBy}
use Rattle.core_steps.specs.Run.{Exchange, IsStepOf, Runs}
use Rattle.core_steps.proofs.NameMaps.{get_same, get_other}
use Rattle.core_steps.specs.Laws.{IsOrderly, DecidesSequents}
use Rattle.session_run.specs.FairRun.{Among, IsFairFinish, FairRun}
use Rattle.session_run.specs.Completeness.{RanOutOver, LeavesNothingSure, IsCompleteWhenIdle}
use Rattle.session_run.proofs.Steps.{Moves, gives, takes_in, misses, stays, Failed, moves}
use Rattle.core_steps.specs.declared.Durable.{Durable}
use Rattle.session_run.proofs.Runs.{CoreLaws, opened_orderly, one_run}
use Rattle.session_run.proofs.Legal.{among_middle, among_one}

-- WHAT AN EVENT DOES TO WHAT WAS TRIED

data Tries (s t : State) : Event → Type 0 where
  same : {e : Event} → t.tried ≡ s.tried → Tries s t e
  tries : {e : Event} (n : ℕ) (a : Attempt) → e ≡ Finish n a → (k : Ticket) → Among k s.out → k.number ≡ n → t.tried ≡ insert s.tried k.name k.sequent → Failed a k.sequent → Tries s t e

what_tries : (s t : State) (e : Event) (r : Reply) → Moves s t e r → Tries s t e
what_tries s t e r (gives like unlike k is number out next tried) = same tried
what_tries s t e r (takes_in n a is before k behind cut numbered out next plain (inl tried)) = same tried
what_tries s t e r (takes_in n a is before k behind cut numbered out next plain (inr (tried, failed))) =
    tries n a is k (subst (Among k) (sym cut) (among_middle k before behind)) numbered tried failed
what_tries s t e r (misses n a is none same_state told) = same (ap (λ u. u.tried) same_state)
what_tries s t e r (stays unlike out next plain tried) = same tried

-- WHAT IS KNOWN OF THE PAST

record WasTaken (k : Ticket) (xs : List Exchange) : Type 0 where
  before : List Exchange
  x : Exchange
  behind : List Exchange
  in_order : xs ≡ before ++ x ∷ behind
  takes : x.reply ≡ Taken k

taken_more : (k : Ticket) (xs : List Exchange) (y : Exchange) → WasTaken k xs → WasTaken k (xs ++ y ∷ [])
taken_more k xs y w = record { before = w.before; x = w.x; behind = w.behind ++ y ∷ []; in_order = ap (λ l. l ++ y ∷ []) w.in_order ∙ append_assoc w.before (w.x ∷ w.behind) (y ∷ []); takes = w.takes }

ran_more : (o : Obligation) (xs : List Exchange) (y : Exchange) → RanOutOver o xs → RanOutOver o (xs ++ y ∷ [])
ran_more o xs y r = record {
  before = r.before;
  taking = r.taking;
  between = r.between;
  finishing = r.finishing;
  behind = r.behind ++ y ∷ [];
  in_order = ap (λ l. l ++ y ∷ []) r.in_order ∙ append_assoc r.before (r.taking ∷ (r.between ++ r.finishing ∷ r.behind)) (y ∷ [])
      ∙ ap (λ l. r.before ++ r.taking ∷ l) (append_assoc r.between (r.finishing ∷ r.behind) (y ∷ []));
  ticket = r.ticket;
  takes = r.takes;
  is_for = r.is_for;
  finishes = r.finishes;
}

one_sequent : (p q : Sequent) → Some p ≡ Some q → p ≡ q
one_sequent p q e = cc

among_either : (u : Ticket) (ks js : List Ticket) → Among u (ks ++ js) → Among u ks ⊎ Among u js
among_either u [] js h = inr h
among_either u (k ∷ ks) js (inl is) = inl (inl is)
among_either u (k ∷ ks) js (inr h) = elim (among_either u ks js h) [ inl m ↦ inl (inr m) | inr m ↦ inr m ]

among_put : (u k : Ticket) (before behind : List Ticket) → Among u (before ++ behind) → Among u (before ++ k ∷ behind)
among_put u k [] behind h = inr h
among_put u k (j ∷ before) behind (inl is) = inl is
among_put u k (j ∷ before) behind (inr h) = inr (among_put u k before behind h)

all_made : {X : Type 0} (P : X → Type 0) → (xs : List X) → ((x : X) → P x) → AllByRecursion P xs
all_made P [] f = tt
all_made P (x ∷ xs) f = (f x, all_made P xs f)

module _ (laws : CoreLaws) (fair : Sequent → Attempt → Type 0) (sure : Sequent → Type 0) (good : (q : Sequent) (a : Attempt) → fair q a → sure q → IsGood a q) where
  -- each ticket that is out was taken, and each tried sequent isn't sure or memory ran out over it
  record Knows (s : State) (xs : List Exchange) : Type 0 where
    orderly : IsOrderly s
    taken : (k : Ticket) → Among k s.out → WasTaken k xs
    tried : (o : Obligation) → get s.tried o.name ≡ Some o.sequent → (sure o.sequent → ⊥) ⊎ RanOutOver o xs

  why_more : (o : Obligation) (xs : List Exchange) (y : Exchange) → (sure o.sequent → ⊥) ⊎ RanOutOver o xs → (sure o.sequent → ⊥) ⊎ RanOutOver o (xs ++ y ∷ [])
  why_more o xs y (inl un) = inl un
  why_more o xs y (inr r) = inr (ran_more o xs y r)

  -- the finish of a taken ticket that makes it tried
  why_now : (o : Obligation) (xs : List Exchange) (y : Exchange) (k : Ticket) (a : Attempt) → WasTaken k xs → IsFor o k → y.event ≡ Finish k.number a → fair k.sequent a → Failed a k.sequent →
      (sure o.sequent → ⊥) ⊎ RanOutOver o (xs ++ y ∷ [])
  why_now o xs y k NoProof w is e fairly failed = inl (λ s. good k.sequent NoProof fairly (subst sure (sym is.1) s))
  why_now o xs y k AttemptNoMemory w is e fairly failed = inr (record {
    before = w.before;
    taking = w.x;
    between = w.behind;
    finishing = y;
    behind = [];
    in_order = ap (λ l. l ++ y ∷ []) w.in_order ∙ append_assoc w.before (w.x ∷ w.behind) (y ∷ []);
    ticket = k;
    takes = w.takes;
    is_for = is;
    finishes = e;
  })
  why_now o xs y k (Found tree) w is e fairly failed = inl (λ s. failed (good k.sequent (Found tree) fairly (subst sure (sym is.1) s)))

  taken_step : (s t : State) (xs : List Exchange) (x : Exchange) → Knows s xs → Moves s t x.event x.reply → (u : Ticket) → Among u t.out → WasTaken u (xs ++ x ∷ [])
  taken_step s t xs x knows (gives like unlike k is number out next tried) u h = elim (among_either u s.out (k ∷ []) (subst (Among u) out h)) [
    | inl m ↦ taken_more u xs x (knows.taken u m)
    | inr (inl same_ticket) ↦ record { before = xs; x = x; behind = []; in_order = refl; takes = is ∙ ap Taken (sym same_ticket) }
    | inr (inr m) ↦ absurd m
  ]
  taken_step s t xs x knows (takes_in n a is before k behind cut numbered out next plain tried) u h =
      taken_more u xs x (knows.taken u (subst (Among u) (sym cut) (among_put u k before behind (subst (Among u) out h))))
  taken_step s t xs x knows (misses n a is none same_state told) u h = taken_more u xs x (knows.taken u (subst (λ z. Among u z.out) same_state h))
  taken_step s t xs x knows (stays unlike out next plain tried) u h = taken_more u xs x (knows.taken u (subst (Among u) out h))

  tried_step : (s t : State) (xs : List Exchange) (x : Exchange) → Knows s xs → IsFairFinish fair s x → Tries s t x.event → (o : Obligation) → get t.tried o.name ≡ Some o.sequent →
      (sure o.sequent → ⊥) ⊎ RanOutOver o (xs ++ x ∷ [])
  tried_step s t xs x knows fairly (same e) o has = why_more o xs x (knows.tried o (ap (λ m. get m o.name) (sym e) ∙ has))
  tried_step s t xs x knows fairly (tries n a is k out numbered e failed) o has =
      elim (cases_Bool (bytes_eq o.name k.name)) [
        | inl one ↦
            let name : o.name ≡ k.name = (bytes_eq-Decides o.name k.name).0 one in
            let now : get t.tried o.name ≡ Some k.sequent = ap (λ m. get m o.name) e ∙ ap (get (insert s.tried k.name k.sequent)) name ∙ get_same s.tried k.name k.sequent in
            let sequent : k.sequent ≡ o.sequent = one_sequent k.sequent o.sequent (sym now ∙ has) in
            let f = fairly n a is in
            let ticket : f.0 ≡ k = among_one f.0 k s.out knows.orderly.apart f.1 out (f.2 ∙ sym numbered) in
            why_now o xs x k a (knows.taken k out) (sym name, sequent) (is ∙ ap (λ m. Finish m a) (sym numbered)) (subst (λ (z : Ticket). fair z.sequent a) ticket f.3) failed
        | inr other ↦
            let apart : o.name ≢ k.name = (λ z. let yes_ : bytes_eq o.name k.name ≡ true = (bytes_eq-Decides o.name k.name).1 z in let wrong : false ≡ true = sym other ∙ yes_ in cc) in
            why_more o xs x (knows.tried o (sym (get_other s.tried k.name o.name k.sequent apart) ∙ ap (λ m. get m o.name) (sym e) ∙ has))
      ]

  knows_step : (s t : State) (xs : List Exchange) (x : Exchange) → Knows s xs → IsStepOf s x t → IsFairFinish fair s x → Knows t (xs ++ x ∷ [])
  knows_step s t xs x knows step fairly = let m = moves s t x.event x.reply x.entry step in record {
    orderly = laws.orderly s x.event x.reply x.entry t knows.orderly step;
    taken = taken_step s t xs x knows m;
    tried = tried_step s t xs x knows fairly (what_tries s t x.event x.reply m);
  }

  knows_run : (xs ys : List Exchange) (s t : State) → Knows s xs → FairRun fair s ys t → Knows t (xs ++ ys)
  knows_run xs [] s t knows run = subst (λ l. Knows t l) (sym (append-nil xs)) (subst (λ u. Knows u xs) (sym run) knows)
  knows_run xs (y ∷ ys) s t knows (m, step, fairly, rest) =
      subst (Knows t) (append_assoc xs (y ∷ []) ys) (knows_run (xs ++ y ∷ []) ys m t (knows_step s m xs y knows step fairly) rest)

  knows_first : (d : Durable) → Knows (opened d) []
  knows_first d = record {
    orderly = opened_orderly d;
    taken = λ k h. absurd h;
    tried = λ o has. let none : None ≡ Some o.sequent = sym (get-empty text_cmp o.name) ∙ has in absurd cc;
  }

  module _ (decide : DecidesSequents) where
    -- what is left when all is idle
    left_idle : (s : State) (table : List Obligation) (xs : List Exchange) → Knows s xs → s.out ≡ [] → (o : Obligation) → (IsOpen s o → ⊥) → IsUnsettledBy s.durable.proofs o → (sure o.sequent → ⊥) ⊎ RanOutOver o xs
    left_idle s table xs knows out o closed unsettled = by (get s.tried o.name) refl where
      opens : (get s.tried o.name ≢ Some o.sequent) → IsOpen s o
      opens not = record { unsettled = unsettled; not_out = subst (AllByRecursion (λ ticket. IsFor o ticket → ⊥)) (sym out) tt; not_tried = not }

      by : (v : Option Sequent) → get s.tried o.name ≡ v → (sure o.sequent → ⊥) ⊎ RanOutOver o xs
      by None is = absurd (closed (opens (λ e. let none : None ≡ Some o.sequent = sym is ∙ e in cc)))
      by (Some q) is = elim (decide q o.sequent) [
        | inl same_sequent ↦ knows.tried o (is ∙ ap Some same_sequent)
        | inr other ↦ absurd (closed (opens (λ e. other (one_sequent q o.sequent (sym is ∙ e)))))
      ]

    left_all : (s : State) (table : List Obligation) (xs : List Exchange) → Knows s xs → s.out ≡ [] → AllByRecursion (λ o. IsOpen s o → ⊥) table →
        AllByRecursion (λ o. IsUnsettledBy s.durable.proofs o → (sure o.sequent → ⊥) ⊎ RanOutOver o xs) table
    left_all s [] xs knows out closed = tt
    left_all s (o ∷ table) xs knows out closed = (left_idle s (o ∷ table) xs knows out o closed.0, left_all s table xs knows out closed.1)

    fair_cut : (xs ys : List Exchange) (s t : State) → FairRun fair s (xs ++ ys) t → (m : State) × FairRun fair s xs m × FairRun fair m ys t
    fair_cut [] ys s t run = (s, refl, run)
    fair_cut (x ∷ xs) ys s t (m, step, fairly, rest) = let r = fair_cut xs ys m t rest in (r.0, (m, step, fairly, r.1), r.2)

    fair_is_run : (xs : List Exchange) (s t : State) → FairRun fair s xs t → Runs s xs t
    fair_is_run [] s t run = run
    fair_is_run (x ∷ xs) s t (m, step, fairly, rest) = (m, step, fair_is_run xs m t rest)

    idle_closed : (s t : State) (x : Exchange) → x.event ≡ Ask AskIdle → x.reply ≡ Idle true → IsStepOf s x t → (table : List Obligation) × IsTable s.durable.built table × IsIdle s table
    idle_closed s t x e r step = by (subst (λ z. Does s z x.reply x.entry t) e step) where
      by : Does s (Ask AskIdle) x.reply x.entry t → (table : List Obligation) × IsTable s.durable.built table × IsIdle s table
      by (table, is, inl d) = (table, is, d.0)
      by (table, is, inr d) = let wrong : Idle true ≡ Idle false = sym r ∙ ap (λ z. z.reply) d.1 in absurd cc

    -- wherever the answer of a fair run is that all is idle, nothing sure is left, unless memory ran out over it
    pub complete_when_idle : (d : Durable) (xs : List Exchange) (t : State) → FairRun fair (opened d) xs t → IsCompleteWhenIdle sure d xs
    complete_when_idle d xs t run before x behind s cut first_run e r =
        let c = fair_cut before (x ∷ behind) (opened d) t (subst (λ l. FairRun fair (opened d) l t) cut run) in
        let one = one_run laws (opened d) c.0 s before before (opened_orderly d) refl (fair_is_run before (opened d) c.0 c.1) first_run in
        let knows = knows_run [] before (opened d) c.0 (knows_first d) c.1 in
        let i = idle_closed c.0 c.2.0 x e r c.2.1 in
        subst (λ (u : State). LeavesNothingSure sure u.durable before) one.1 (i.0, i.1, left_all c.0 i.0 before knows i.2.1 i.2.0)
