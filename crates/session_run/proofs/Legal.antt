-- Where each chair finishes the tickets that it took, the history is legal, and each finish is fair.
use Rattle.std.proofs.Common.{◌≡◌, ◌≢◌, ◌⊎◌, inl, inr, ℕ, ◌<◌, true, false, eqb, cond, List, [], ◌∷◌, ◌++◌, refl, sym, ap, ◌∙◌, subst, arith, ne_eqb, eq-eqb}
use Rattle.std.specs.Prelude.{Option, Some, None}
use Rattle.std.specs.List.{AllByRecursion}
use mathlib.Core.Logic.{dite}
use native.Mathlib.Decide.{ℕ_discrete}
use Rattle.sequent_core.specs.declared.Sequent.{Sequent}
use Rattle.sequent_core.specs.declared.Ticket.{Ticket}
use Rattle.sequent_core.specs.declared.Attempt.{Attempt}
use Rattle.core_steps.specs.declared.Event.{Event}
use Rattle.core_steps.specs.declared.Event.TheVariants.{Finish}
use Rattle.core_steps.specs.declared.Reply.{Reply}
use Rattle.core_steps.specs.declared.Reply.TheVariants.{Taken, NoTicket}
use Rattle.core_steps.specs.State.{State}
use Rattle.core_steps.specs.Run.{Exchange, IsStepOf, Runs, IsLegal}
use Rattle.core_steps.specs.Laws.{AreApart, IsOrderly}
use Rattle.session_run.specs.FairRun.{Among, IsFairFinish, FairRun}
use Rattle.store_log.specs.History.{exchanges_of, own}
use Rattle.session_run.proofs.Owns.{own_mine, own_other}
use Rattle.session_run.proofs.Steps.{Moves, gives, takes_in, misses, stays, is_plain, is_finish, is_take, moves}
use Rattle.session_run.proofs.Runs.{CoreLaws}

-- TICKETS AMONG OTHERS

among_first : (t : Ticket) (ks js : List Ticket) → Among t ks → Among t (ks ++ js)
among_first t [] js h = absurd h
among_first t (k ∷ ks) js (inl is) = inl is
among_first t (k ∷ ks) js (inr h) = inr (among_first t ks js h)

among_last : (t : Ticket) (ks js : List Ticket) → Among t js → Among t (ks ++ js)
among_last t [] js h = h
among_last t (k ∷ ks) js h = inr (among_last t ks js h)

among_less : (t k : Ticket) (before behind : List Ticket) → Among t (before ++ k ∷ behind) → (t ≡ k) ⊎ Among t (before ++ behind)
among_less t k [] behind h = h
among_less t k (j ∷ before) behind (inl is) = inr (inl is)
among_less t k (j ∷ before) behind (inr h) = by (among_less t k before behind h) where
  by : (t ≡ k) ⊎ Among t (before ++ behind) → (t ≡ k) ⊎ Among t (j ∷ (before ++ behind))
  by (inl is) = inl is
  by (inr more) = inr (inr more)

pub among_all : (P : Ticket → Type 0) (t : Ticket) (ks : List Ticket) → AllByRecursion P ks → Among t ks → P t
among_all P t [] all h = absurd h
among_all P t (k ∷ ks) all (inl is) = subst P (sym is) all.0
among_all P t (k ∷ ks) all (inr h) = among_all P t ks all.1 h

pub among_one : (t u : Ticket) (ks : List Ticket) → AreApart ks → Among t ks → Among u ks → t.number ≡ u.number → t ≡ u
among_one t u [] apart h g same = absurd h
among_one t u (k ∷ ks) apart (inl p) (inl q) same = p ∙ sym q
among_one t u (k ∷ ks) apart (inl p) (inr g) same = absurd (among_all (λ j. j.number ≢ k.number) u ks apart.0 g (sym same ∙ ap (λ z. z.number) p))
among_one t u (k ∷ ks) apart (inr h) (inl q) same = absurd (among_all (λ j. j.number ≢ k.number) t ks apart.0 h (same ∙ ap (λ z. z.number) q))
among_one t u (k ∷ ks) apart (inr h) (inr g) same = among_one t u ks apart.1 h g same

pub among_middle : (k : Ticket) (before behind : List Ticket) → Among k (before ++ k ∷ behind)
among_middle k [] behind = inl refl
among_middle k (j ∷ before) behind = inr (among_middle k before behind)

-- WHAT A CHAIR HAS IN HAND

-- the ticket that a reply gives
abbrev pub given : Reply → Option Ticket
given (Taken t) = Some t
given reply = None

plain_gives_none : (r : Reply) → is_plain r ≡ true → given r ≡ None
plain_gives_none (Taken t) e = cc
plain_gives_none r e = refl

number_of : Event → ℕ
number_of (Finish n a) = n
number_of e = 0

attempt_or : Attempt → Event → Attempt
attempt_or d (Finish n a) = a
attempt_or d e = d

module _ (fair : Sequent → Attempt → Type 0) where
  abbrev pub Fair : Ticket → Attempt → Type 0
  Fair t a = fair t.sequent a

  -- From the ticket in hand at the beginning to that at the end, each ticket that is taken is finished by the next exchange.
  abbrev pub Hands : Option Ticket → List Exchange → Option Ticket → Type 0
  Hands h [] g = g ≡ h
  Hands None (x ∷ xs) g = (is_finish x.event ≡ false) × Hands (given x.reply) xs g
  Hands (Some t) (x ∷ xs) g = (a : Attempt) × (x.event ≡ Finish t.number a) × Fair t a × Hands None xs g

  pub hands_both : (h m g : Option Ticket) (xs ys : List Exchange) → Hands h xs m → Hands m ys g → Hands h (xs ++ ys) g
  hands_both h m g [] ys p q = subst (λ z. Hands z ys g) p q
  hands_both None m g (x ∷ xs) ys p q = (p.0, hands_both (given x.reply) m g xs ys p.1 q)
  hands_both (Some t) m g (x ∷ xs) ys p q = (p.0, p.1, p.2, hands_both None m g xs ys p.3 q)

  -- what is in hand at the end is one
  pub hands_one : (h g f : Option Ticket) (xs : List Exchange) → Hands h xs g → Hands h xs f → g ≡ f
  hands_one h g f [] p q = p ∙ sym q
  hands_one None g f (x ∷ xs) p q = hands_one (given x.reply) g f xs p.1 q.1
  hands_one (Some t) g f (x ∷ xs) p q = hands_one None g f xs p.3 q.3

  -- each chair's ticket is out, and no two chairs have one of the same number
  record Holds (s : State) (h : ℕ → Option Ticket) : Type 0 where
    orderly : IsOrderly s
    out : (k : ℕ) (t : Ticket) → h k ≡ Some t → Among t s.out
    apart : (j k : ℕ) (t u : Ticket) → h j ≡ Some t → h k ≡ Some u → t.number ≡ u.number → j ≡ k

  set : (ℕ → Option Ticket) → ℕ → Option Ticket → ℕ → Option Ticket
  set h j v k = cond (eqb k j) v (h k)

  unfolded : (h : ℕ → Option Ticket) (j : ℕ) (v : Option Ticket) (k : ℕ) → set h j v k ≡ cond (eqb k j) v (h k)
  unfolding set
  unfolded h j v k = refl

  set_same : (h : ℕ → Option Ticket) (j : ℕ) (v : Option Ticket) (k : ℕ) → k ≡ j → set h j v k ≡ v
  set_same h j v k is = unfolded h j v k ∙ ap (λ b. cond b v (h k)) (eq-eqb k j is)

  set_other : (h : ℕ → Option Ticket) (j : ℕ) (v : Option Ticket) (k : ℕ) → k ≢ j → set h j v k ≡ h k
  set_other h j v k is = unfolded h j v k ∙ ap (λ b. cond b v (h k)) (ne_eqb k j is)

  same_some : (t u : Ticket) → Some t ≡ Some u → t ≡ u
  same_some t u e = cc

  -- the chair has none afterwards, and the others' tickets are still out
  lets_go : (s t : State) (h : ℕ → Option Ticket) (j : ℕ) → IsOrderly t → Holds s h → ((k : ℕ) (u : Ticket) → k ≢ j → h k ≡ Some u → Among u t.out) → Holds t (set h j None)
  lets_go s t h j orderly holds still = record {
    orderly = orderly;
    out = λ k u is. dite (ℕ_discrete k j) (λ e. let none : None ≡ Some u = sym (set_same h j None k e) ∙ is in absurd cc) (λ e. still k u e (sym (set_other h j None k e) ∙ is));
    apart = λ i k u w a b. dite (ℕ_discrete i j) (λ e. let none : None ≡ Some u = sym (set_same h j None i e) ∙ a in absurd cc)
        (λ e. dite (ℕ_discrete k j) (λ f. let none : None ≡ Some w = sym (set_same h j None k f) ∙ b in absurd cc)
        (λ f. holds.apart i k u w (sym (set_other h j None i e) ∙ a) (sym (set_other h j None k f) ∙ b)));
  }

  -- the chair has the next ticket afterwards
  gets : (s t : State) (h : ℕ → Option Ticket) (j : ℕ) (v : Ticket) → IsOrderly t → Holds s h → v.number ≡ s.next → t.out ≡ s.out ++ v ∷ [] → Holds t (set h j (Some v))
  gets s t h j v orderly holds number out = record {
    orderly = orderly;
    out = λ k u is. subst (Among u) (sym out) (dite (ℕ_discrete k j)
        (λ e. among_last u s.out (v ∷ []) (inl (same_some u v (sym is ∙ set_same h j (Some v) k e))))
        (λ e. among_first u s.out (v ∷ []) (holds.out k u (sym (set_other h j (Some v) k e) ∙ is))));
    apart = λ i k u w a b same. dite (ℕ_discrete i j)
        (λ e. dite (ℕ_discrete k j) (λ f. e ∙ sym f)
        (λ f. absurd (let low : w.number < s.next = among_all (λ z. z.number < s.next) w s.out holds.orderly.below (holds.out k w (sym (set_other h j (Some v) k f) ∙ b)) in
        let is : u ≡ v = same_some u v (sym a ∙ set_same h j (Some v) i e) in
        let n : u.number ≡ v.number = ap (λ z. z.number) is in omega (arith, low, n, number, same))))
        (λ e. dite (ℕ_discrete k j)
        (λ f. absurd (let low : u.number < s.next = among_all (λ z. z.number < s.next) u s.out holds.orderly.below (holds.out i u (sym (set_other h j (Some v) i e) ∙ a)) in
        let is : w ≡ v = same_some w v (sym b ∙ set_same h j (Some v) k f) in
        let n : w.number ≡ v.number = ap (λ z. z.number) is in omega (arith, low, n, number, same)))
        (λ f. holds.apart i k u w (sym (set_other h j (Some v) i e) ∙ a) (sym (set_other h j (Some v) k f) ∙ b) same));
  }

  -- an exchange of a chair with no ticket in hand
  rests : (s t : State) (h : ℕ → Option Ticket) (j : ℕ) (e : Event) (r : Reply) → IsOrderly t → Moves s t e r → is_finish e ≡ false → Holds s h → Holds t (set h j (given r))
  rests s t h j e r orderly (gives like unlike k is number out next tried) quiet holds =
      subst (λ v. Holds t (set h j v)) (sym (ap given is)) (gets s t h j k orderly holds number out)
  rests s t h j e r orderly (takes_in n a is before k behind cut numbered out next plain tried) quiet holds = absurd (let wrong : false ≡ true = sym quiet ∙ ap is_finish is in cc)
  rests s t h j e r orderly (misses n a is none same told) quiet holds = absurd (let wrong : false ≡ true = sym quiet ∙ ap is_finish is in cc)
  rests s t h j e r orderly (stays unlike out next plain tried) quiet holds =
      subst (λ v. Holds t (set h j v)) (sym (plain_gives_none r plain)) (lets_go s t h j orderly holds
      (λ k u other is. subst (Among u) (sym out) (holds.out k u is)))

  -- the finish of the ticket that the chair has in hand
  ends : (s t : State) (h : ℕ → Option Ticket) (j : ℕ) (e : Event) (r : Reply) (v : Ticket) (b : Attempt) → IsOrderly t → Moves s t e r → h j ≡ Some v → e ≡ Finish v.number b → Holds s h → Holds t (set h j None)
  ends s t h j e r v b orderly (gives like unlike k is number out next tried) has finish holds = absurd (let wrong : false ≡ true = sym unlike ∙ ap is_finish finish in cc)
  ends s t h j e r v b orderly (takes_in n a is before k behind cut numbered out next plain tried) has finish holds =
      let same : Finish n a ≡ Finish v.number b = sym is ∙ finish in
      let number : n ≡ v.number = cc in
      lets_go s t h j orderly holds
      (λ i u other has_u. subst (Among u) (sym out) (elim (among_less u k before behind (subst (Among u) cut (holds.out i u has_u))) [
        | inl same_ticket ↦ absurd (other (holds.apart i j u v has_u has (ap (λ z. z.number) same_ticket ∙ (numbered ∙ number))))
        | inr more ↦ more
      ]))
  ends s t h j e r v b orderly (misses n a is none same told) has finish holds =
      let both : Finish n a ≡ Finish v.number b = sym is ∙ finish in
      let number : n ≡ v.number = cc in
      absurd (among_all (λ k. k.number ≢ n) v s.out none (holds.out j v has) (sym number))
  ends s t h j e r v b orderly (stays unlike out next plain tried) has finish holds = absurd (let wrong : false ≡ true = sym unlike ∙ ap is_finish finish in cc)

  not_fair_finish : (s : State) (x : Exchange) → is_finish x.event ≡ false → IsFairFinish fair s x
  not_fair_finish s x quiet number a is = absurd (let wrong : false ≡ true = sym quiet ∙ ap is_finish is in cc)

  fair_finish : (s : State) (x : Exchange) (v : Ticket) (b : Attempt) → Among v s.out → x.event ≡ Finish v.number b → Fair v b → IsFairFinish fair s x
  fair_finish s x v b out is good number a finish =
      let both : Finish v.number b ≡ Finish number a = sym is ∙ finish in
      let same : b ≡ a = cc in
      let n : v.number ≡ number = cc in
      (v, out, n, subst (Fair v) same good)

  -- the other chairs go on as they were
  go_on : (h f : ℕ → Option Ticket) (j : ℕ) (v : Option Ticket) (x : Exchange) (xs : List (ℕ × Exchange)) → Hands v (own j xs) (f j) →
      ((k : ℕ) → Hands (h k) (own k ((j, x) ∷ xs)) (f k)) → (k : ℕ) → Hands (set h j v k) (own k xs) (f k)
  go_on h f j v x xs mine all k = dite (ℕ_discrete k j)
      (λ e. subst (λ z. Hands z (own k xs) (f k)) (sym (set_same h j v k e)) (subst (λ i. Hands v (own i xs) (f i)) (sym e) mine))
      (λ e. subst (λ z. Hands z (own k xs) (f k)) (sym (set_other h j v k e)) (subst (λ l. Hands (h k) l (f k)) (own_other k (j, x) xs (λ g. e (sym g))) (all k)))

  -- the run is fair, and what chairs have in hand at its end is out
  pub record EndsFairly (s t : State) (xs : List Exchange) (f : ℕ → Option Ticket) : Type 0 where
    pub fair_run : FairRun fair s xs t
    pub out : (k : ℕ) (u : Ticket) → f k ≡ Some u → Among u t.out

  module _ (laws : CoreLaws) where
    fair_from : (xs : List (ℕ × Exchange)) (s t : State) (h f : ℕ → Option Ticket) → Holds s h → Runs s (exchanges_of xs) t → ((k : ℕ) → Hands (h k) (own k xs) (f k)) →
        EndsFairly s t (exchanges_of xs) f
    fair_from [] s t h f holds run all = record { fair_run = run; out = λ k u is. subst (λ z. Among u z.out) (sym run) (holds.out k u (sym (all k) ∙ is)) }
    fair_from ((j, x) ∷ xs) s t h f holds (m, step, rest) all =
        by (h j) refl (subst (λ l. Hands (h j) l (f j)) (own_mine j (j, x) xs refl) (all j)) (λ h' holds' all'. fair_from xs m t h' f holds' rest all') where
          moved : Moves s m x.event x.reply
          moved = moves s m x.event x.reply x.entry step

          orderly : IsOrderly m
          orderly = laws.orderly s x.event x.reply x.entry m holds.orderly step

          by : (v : Option Ticket) → h j ≡ v → Hands v (x ∷ own j xs) (f j) →
              ((h' : ℕ → Option Ticket) → Holds m h' → ((k : ℕ) → Hands (h' k) (own k xs) (f k)) → EndsFairly m t (exchanges_of xs) f) → EndsFairly s t (x ∷ exchanges_of xs) f
          by None has (quiet, more) on =
              let rest' = on (set h j (given x.reply)) (rests s m h j x.event x.reply orderly moved quiet holds) (go_on h f j (given x.reply) x xs more all) in
              record { fair_run = (m, step, not_fair_finish s x quiet, rest'.fair_run); out = rest'.out }
          by (Some v) has (a, is, good, more) on =
              let rest' = on (set h j None) (ends s m h j x.event x.reply v a orderly moved has is holds) (go_on h f j None x xs more all) in
              record { fair_run = (m, step, fair_finish s x v a (holds.out j v has) is good, rest'.fair_run); out = rest'.out }

    -- a run in which each chair finishes what it took, directly after, is fair
    pub ends_fairly : (xs : List (ℕ × Exchange)) (s t : State) (f : ℕ → Option Ticket) → s.out ≡ [] → Runs s (exchanges_of xs) t → ((k : ℕ) → Hands None (own k xs) (f k)) →
        EndsFairly s t (exchanges_of xs) f
    ends_fairly xs s t f out run all = fair_from xs s t (λ k. None) f
        (record {
          orderly = record { below = subst (AllByRecursion (λ k. k.number < s.next)) (sym out) tt; apart = subst AreApart (sym out) tt };
          out = λ k t e. let none : None ≡ Some t = e in absurd cc;
          apart = λ j k t u e. let none : None ≡ Some t = e in absurd cc;
        })
        run all

  legal_step : (s t : State) (x : Exchange) → IsStepOf s x t → IsFairFinish fair s x → (n : ℕ) → x.reply ≢ NoTicket n
  legal_step s t x step good n is = by (moves s t x.event x.reply x.entry step) where
    by : Moves s t x.event x.reply → ⊥
    by (gives like unlike k taken number out next tried) = let no_ : Taken k ≡ NoTicket n = sym taken ∙ is in cc
    by (takes_in m a e before k behind cut numbered out next plain tried) = let wrong : false ≡ true = sym (ap is_plain is) ∙ plain in cc
    by (misses m a e none same told) = let f = good m a e in among_all (λ k. k.number ≢ m) f.0 s.out none f.1 f.2
    by (stays unlike out next plain tried) = let wrong : false ≡ true = sym (ap is_plain is) ∙ plain in cc

  -- a fair run is legal
  pub fair_legal : (xs : List Exchange) (s t : State) → FairRun fair s xs t → IsLegal xs
  fair_legal [] s t run = tt
  fair_legal (x ∷ xs) s t (m, step, good, rest) = (legal_step s m x step good, fair_legal xs m t rest)

-- TAKES ALONE GIVE TICKETS

abbrev pub GivesByTakes : List Exchange → Type 0
GivesByTakes xs = AllByRecursion (λ x. is_take x.event ≡ false → given x.reply ≡ None) xs

gives_by_takes : (s t : State) (e : Event) (r : Reply) → Moves s t e r → is_take e ≡ false → given r ≡ None
gives_by_takes s t e r (gives like unlike k is number out next tried) other = absurd (let wrong : false ≡ true = sym other ∙ like in cc)
gives_by_takes s t e r (takes_in n a is before k behind cut numbered out next plain tried) other = plain_gives_none r plain
gives_by_takes s t e r (misses n a is none same told) other = ap given told
gives_by_takes s t e r (stays unlike out next plain tried) other = plain_gives_none r plain

pub takes_give : (xs : List Exchange) (s t : State) → Runs s xs t → GivesByTakes xs
takes_give [] s t run = tt
takes_give (x ∷ xs) s t (m, step, rest) = (gives_by_takes s m x.event x.reply (moves s m x.event x.reply x.entry step), takes_give xs m t rest)

-- what holds of all exchanges holds of those of one chair
pub own_all : (P : Exchange → Type 0) (k : ℕ) (xs : List (ℕ × Exchange)) → AllByRecursion P (exchanges_of xs) → AllByRecursion P (own k xs)
own_all P k [] all = tt
own_all P k (x ∷ xs) all = dite (ℕ_discrete x.0 k)
    (λ is. subst (AllByRecursion P) (sym (own_mine k x xs is)) (all.0, own_all P k xs all.1))
    (λ other. subst (AllByRecursion P) (sym (own_other k x xs other)) (own_all P k xs all.1))
