-- What chair 0 knew at its end, in the last log.
use Rattle.std.proofs.Common.{◌≡◌, ◌≢◌, ◌⊎◌, inl, inr, ◌∙◌, sym, ap, subst, refl, ℕ, true, false, List, [], ◌∷◌, ◌++◌, map}
use Rattle.std.proofs.lemmas.List.{append-nil, append_assoc}
use Rattle.std.specs.Prelude.{Option, Some, None}
use Rattle.sequent_core.specs.declared.Sequent.{Sequent}
use Rattle.sequent_core.specs.declared.Attempt.{Attempt}
use Rattle.core_steps.specs.declared.Event.{Event}
use Rattle.core_steps.specs.State.{State}
use Rattle.core_steps.specs.Run.{Exchange}
use Rattle.turn_desk.specs.Log.{entries_of, HasSeen}
use Rattle.turn_desk.proofs.Logs.{rest_quiet, seen_then}
use Rattle.session_words.specs.declared.Line.{Line}
use Rattle.store_log.specs.declared.Logged.{Logged}
use Rattle.store_log.specs.declared.StoreBase.{StoreBase}
use Rattle.store_log.specs.History.{own}
use Rattle.store_log.specs.StoreLog.{chair_of, done, marks, IsStoreLog}
use Rattle.store_log.specs.Storing.{failure_mark}
use Rattle.session_run.specs.Dialogue.{Next, Dialogue, IsPartway}
use Rattle.session_run.specs.Talking.{IsNext, HasTalked, IsTalking, StopsAtLine}
use Rattle.session_run.proofs.Runs.{CoreLaws}
use Rattle.session_run.proofs.Serving.{plain, plain_both, plain_done, plain_marks}
use Rattle.session_run.proofs.Talking.{hears, talk_stands, talking_stands}
use Rattle.session_run.proofs.Together.{last_one, last_part, not_quiet}

none_here : {X : Type 0} (xs : List X) (x : X) (rest : List X) → [] ≡ xs ++ x ∷ rest → ⊥
none_here [] x rest e = cc
none_here (y ∷ xs) x rest e = cc

some_none : {X : Type 0} (x : X) → Some x ≡ None → ⊥
some_none x e = cc

some_one : {X : Type 0} (a b : X) → Some a ≡ Some b → a ≡ b
some_one a b e = cc

first_ones : {X : Type 0} (xs ys : List X) (a b : X) → xs ++ a ∷ [] ≡ ys ++ b ∷ [] → xs ≡ ys
first_ones [] [] a b e = refl
first_ones [] (y ∷ []) a b e = cc
first_ones [] (y ∷ z ∷ ys) a b e = cc
first_ones (x ∷ []) [] a b e = cc
first_ones (x ∷ z ∷ xs) [] a b e = cc
first_ones (x ∷ xs) (y ∷ ys) a b e =
    let first : x ≡ y = cc in
    let rest : xs ++ a ∷ [] ≡ ys ++ b ∷ [] = cc in
    let more = first_ones xs ys a b rest in
    λ i. first i ∷ more i

-- a mark in the log of a store is its last entry, and the one that it keeps
pub mark_last : (xs : List (ℕ × Exchange)) (mark : Option (ℕ × Event)) (before rest : List Logged) (e : Logged) → map done xs ++ marks mark ≡ before ++ e ∷ rest → e.failed ≡ true →
    (before ≡ map done xs) × (rest ≡ []) × (mark ≡ Some (e.chair, e.event))
mark_last [] None before rest e is marked = absurd (none_here before e rest is)
mark_last [] (Some act) [] rest e is marked =
    let first : record { chair = act.0; event = act.1; failed = true } ≡ e = cc in
    let last : rest ≡ [] = cc in
    (refl, last, ap (λ (z : Logged). Some (z.chair, z.event)) first)
mark_last [] (Some act) (b ∷ before) rest e is marked = let more : [] ≡ before ++ e ∷ rest = cc in absurd (none_here before e rest more)
mark_last (x ∷ xs) mark [] rest e is marked =
    let first : done x ≡ e = cc in
    let wrong : false ≡ true = ap (λ (z : Logged). z.failed) first ∙ marked in absurd cc
mark_last (x ∷ xs) mark (b ∷ before) rest e is marked =
    let first : done x ≡ b = cc in
    let more : map done xs ++ marks mark ≡ before ++ e ∷ rest = cc in
    let m = mark_last xs mark before rest e more marked in
    (λ i. sym first i ∷ m.0 i, m.1, m.2)

module _ (laws : CoreLaws) (fair : Sequent → Attempt → Type 0) (base : StoreBase) (log : List Logged) (xs : List (ℕ × Exchange)) (mark : Option (ℕ × Event)) (s : State)
    (store : IsStoreLog base log xs mark s) where
  plain_is : plain log ≡ map done xs
  plain_is = ap plain store.entries ∙ (plain_both (map done xs) (marks mark) ∙ (ap (λ l. plain (map done xs) ++ l) (plain_marks mark) ∙ (append-nil (plain (map done xs)) ∙ plain_done xs)))

  pub talked : (seen : List Logged) (lines : List Line) (text : List ℕ) → HasTalked fair base 0 seen lines text → HasSeen chair_of 0 seen log → Dialogue fair lines (own 0 xs) text
  talked seen lines text h has = talk_stands laws base fair 0 seen log lines text xs s h has plain_is store.run

  pub told : (seen : List Logged) (lines : List Line) (text : List ℕ) (line : Line) (next : Next) → IsTalking fair base 0 seen lines text line next → HasSeen chair_of 0 seen log →
      IsPartway fair lines line (own 0 xs) text next
  told seen lines text line next h has = talking_stands laws base fair 0 seen log lines text line next xs s h has plain_is store.run

  -- a chair whose log had no mark, and which has made no act since, has none of its own
  pub no_own_mark : (us : List (ℕ × Exchange)) (seen : List Logged) → seen ≡ map done us → HasSeen chair_of 0 seen log → (event : Event) → mark ≡ Some (0, event) → ⊥
  no_own_mark us seen is has event own_mark = by (last_part seen has.0.0 (map done xs) (failure_mark 0 event) (sym has.0.1 ∙ ends)) where
    ends : log ≡ map done xs ++ failure_mark 0 event ∷ []
    ends = store.entries ∙ ap (λ m. map done xs ++ marks m) own_mark

    by : (has.0.0 ≡ []) ⊎ ((b : List Logged) × (has.0.0 ≡ b ++ failure_mark 0 event ∷ [])) → ⊥
    by (inl none) =
        let same : map done us ++ marks None ≡ map done xs ++ failure_mark 0 event ∷ [] =
        append-nil (map done us) ∙ (sym is ∙ (sym (append-nil seen) ∙ (ap (λ l. seen ++ l) (sym none) ∙ (sym has.0.1 ∙ ends)))) in
        let m = mark_last us None (map done xs) [] (failure_mark 0 event) same refl in
        some_none (0, event) (sym m.2)
    by (inr (b, last)) = not_quiet 0 b (failure_mark 0 event) refl (ap (entries_of chair_of 0) (sym last) ∙ rest_quiet chair_of 0 seen has.0.0 (ap (entries_of chair_of 0) (sym has.0.1) ∙ has.1))

  -- where chair 0 was stopped by a fault
  pub record IsStopped (lines : List Line) (text : List ℕ) (line : Line) : Type 0 where
    pub next : Next
    pub partway : IsPartway fair lines line (own 0 xs) text next
    pub own_mark : (event : Event) → mark ≡ Some (0, event) → IsNext fair next event
    pub waits : (event : Event) × IsNext fair next event
    pub marked : mark ≢ None

  pub stopped : (seen : List Logged) (lines : List Line) (text : List ℕ) (line : Line) → StopsAtLine fair base 0 lines text line seen → HasSeen chair_of 0 seen log → IsStopped lines text line
  stopped seen lines text line h has = by h.refused.0 where
    e : Logged
    e = h.refused.1.1

    m : (h.refused.1.0 ≡ map done xs) × (has.0.0 ≡ []) × (mark ≡ Some (e.chair, e.event))
    m = mark_last xs mark h.refused.1.0 has.0.0 e
        (sym store.entries ∙ (has.0.1 ∙ (ap (λ l. l ++ has.0.0) h.refused.1.2 ∙ append_assoc h.refused.1.0 (e ∷ []) has.0.0))) h.refused.1.3

    is_marked : mark ≢ None
    is_marked none = some_none (e.chair, e.event) (sym m.2 ∙ none)

    by : (seen ≡ h.found) ⊎ (seen ≡ h.found ++ failure_mark 0 h.event ∷ []) → IsStopped lines text line
    by (inl same) =
        let still : HasSeen chair_of 0 h.last log = seen_then chair_of 0 h.last h.found log h.seen (subst (λ l. HasSeen chair_of 0 l log) same has) in
        record {
          next = h.next;
          partway = told h.last lines text line h.next h.talking still;
          own_mark = λ event is. absurd (no_own_mark h.talking.xs h.last h.talking.log.entries still event is);
          waits = (h.event, h.is_next);
          marked = is_marked;
        }
    by (inr adds) =
        let both : h.refused.1.0 ++ e ∷ [] ≡ h.found ++ failure_mark 0 h.event ∷ [] = sym h.refused.1.2 ∙ adds in
        let one : e ≡ failure_mark 0 h.event = last_one h.refused.1.0 h.found e (failure_mark 0 h.event) both in
        let front : h.refused.1.0 ≡ h.found = first_ones h.refused.1.0 h.found e (failure_mark 0 h.event) both in
        let found : h.found ≡ map done xs = sym front ∙ m.0 in
        record {
          next = h.next;
          partway = subst (λ l. IsPartway fair lines line l text h.next)
              (sym (hears laws base 0 h.last h.found h.talking.xs xs h.talking.state s h.talking.log h.seen (ap plain found ∙ plain_done xs) store.run)) h.talking.within;
          own_mark = λ event is.
              let same : (e.chair, e.event) ≡ (0, event) = some_one (e.chair, e.event) (0, event) (sym m.2 ∙ is) in
              let here : event ≡ h.event = sym (ap (λ z. z.1) same) ∙ ap (λ (z : Logged). z.event) one in
              subst (λ z. IsNext fair h.next z) (sym here) h.is_next;
          waits = (h.event, h.is_next);
          marked = is_marked;
        }
