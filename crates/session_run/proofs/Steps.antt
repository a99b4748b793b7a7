-- What an event does to the tickets, and to what was tried.
use Rattle.std.proofs.Common.{◌≡◌, ◌≢◌, ◌⊎◌, inl, inr, ℕ, ◌+◌, Bool, true, false, List, [], ◌∷◌, ◌++◌, refl, sym, ap, ◌∙◌, subst}
use Rattle.std.specs.Prelude.{Option, Some, None, Result, Ok, Err, MatchOption}
use Rattle.std.specs.List.{AllByRecursion}
use Rattle.std.specs.FinMap.{insert}
use Rattle.sequent_core.specs.declared.Sequent.{Sequent}
use Rattle.sequent_core.specs.declared.Obligation.{Obligation}
use Rattle.sequent_core.specs.declared.Hint.{Hint}
use Rattle.sequent_core.specs.declared.Ticket.{Ticket}
use Rattle.sequent_core.specs.declared.Tree.{Tree}
use Rattle.sequent_core.specs.declared.Tree.TheVariants.{Leaf}
use Rattle.sequent_core.specs.declared.Attempt.{Attempt}
use Rattle.sequent_core.specs.declared.Attempt.TheVariants.{Found, NoProof, NoMemory as AttemptNoMemory}
use Rattle.sequent_core.specs.Provers.{IsGoodTree}
use Rattle.rule_table.specs.declared.Rule.{Rule}
use Rattle.rule_making.specs.declared.RuleFault.{RuleFault}
use Rattle.proof_steps.specs.Places.{leaf_at, rule_at, grown, put}
use Rattle.proof_entries.specs.declared.Entry.{Entry}
use Rattle.core_steps.specs.declared.Event.{Event}
use Rattle.core_steps.specs.declared.Event.TheVariants.{Edit, Delete, Build, Step, Prune, Take, Finish, Purge, Ask}
use Rattle.core_steps.specs.declared.Question.{Question}
use Rattle.core_steps.specs.declared.Question.TheVariants.{Statuses as AskStatuses, Faults as AskFaults, Show, TreeOf, Follows as AskFollows, Digest as AskDigest, Idle as AskIdle}
use Rattle.core_steps.specs.declared.Reply.{Reply}
use Rattle.core_steps.specs.declared.Reply.TheVariants.{Taken, NoTicket}
use Rattle.core_steps.specs.State.{State}
use Rattle.core_steps.specs.Outcomes.{StepOutcome, told, entering, Where, Unless}
use Rattle.core_steps.specs.Proving.{OnObligation, stored_tree, Keeps, Puts, StepsAt, PrunesAt, ShowsAt}
use Rattle.core_steps.specs.Tickets.{taking, ticket_for, stored, stale, refused, EndsTicket}
use Rattle.core_steps.specs.Step.{Tells, ComesBeside, Does}
use Rattle.core_steps.proofs.Cases.{edit_any}

-- neither a ticket that is given, nor that none such is out
abbrev pub is_plain : Reply → Bool
is_plain (Taken ticket) = false
is_plain (NoTicket number) = false
is_plain reply = true

abbrev pub is_finish : Event → Bool
is_finish (Finish number attempt) = true
is_finish event = false

abbrev pub is_take : Event → Bool
is_take (Take name) = true
is_take event = false

-- why a finish makes its sequent the last tried one
abbrev pub Failed : Attempt → Sequent → Type 0
Failed NoProof s = Unit {0}
Failed AttemptNoMemory s = Unit {0}
Failed (Found tree) s = IsGoodTree tree s → ⊥

-- What an event does to the tickets: it gives the next one, takes one in, misses one, or leaves them.
pub data Moves (s t : State) : Event → Reply → Type 0 where
  gives : {e : Event} {r : Reply} → is_take e ≡ true → is_finish e ≡ false → (k : Ticket) → r ≡ Taken k → k.number ≡ s.next → t.out ≡ s.out ++ k ∷ [] → t.next ≡ s.next + 1
      → t.tried ≡ s.tried → Moves s t e r
  takes_in : {e : Event} {r : Reply} → (n : ℕ) (a : Attempt) → e ≡ Finish n a → (before : List Ticket) (k : Ticket) (behind : List Ticket) → s.out ≡ before ++ k ∷ behind → k.number ≡ n
      → t.out ≡ before ++ behind → t.next ≡ s.next → is_plain r ≡ true → (t.tried ≡ s.tried) ⊎ ((t.tried ≡ insert s.tried k.name k.sequent) × Failed a k.sequent) → Moves s t e r
  misses : {e : Event} {r : Reply} → (n : ℕ) (a : Attempt) → e ≡ Finish n a → AllByRecursion (λ k. k.number ≢ n) s.out → t ≡ s → r ≡ NoTicket n → Moves s t e r
  stays : {e : Event} {r : Reply} → is_finish e ≡ false → t.out ≡ s.out → t.next ≡ s.next → is_plain r ≡ true → t.tried ≡ s.tried → Moves s t e r

module _ {test one other C : Type 0} (f : one → C) (g : other → C) where
  where_any : Where test one other → C
  where_any (inl x) = f x.1
  where_any (inr x) = g x.1

  unless_any : Unless test one other → C
  unless_any (inl x) = f x.1
  unless_any (inr x) = g x.1

match_any : {X C P : Type 0} {Q : X → Type 0} (found : Option X) → (P → C) → ((v : X) → Q v → C) → MatchOption found P Q → C
match_any None f g x = f x
match_any (Some v) f g x = g v x

module _ (s : State) (x : StepOutcome) (e : Event) (quiet : is_finish e ≡ false) where
  abbrev M : Type 0
  M = Moves s x.new e x.reply

  tell : (r : Reply) → is_plain r ≡ true → x ≡ told s r → M
  tell r plain is = stays quiet (ap (λ z. z.new.out) is) (ap (λ z. z.new.next) is) (ap (λ z. is_plain z.reply) is ∙ plain) (ap (λ z. z.new.tried) is)

  enter : (r : Reply) (entry : Entry) → is_plain r ≡ true → x ≡ entering s r entry → M
  enter r entry plain is = stays quiet (ap (λ z. z.new.out) is) (ap (λ z. z.new.next) is) (ap (λ z. is_plain z.reply) is ∙ plain) (ap (λ z. z.new.tried) is)

  take : is_take e ≡ true → (o : Obligation) → x ≡ taking s o → M
  take like o is = gives like quiet (ticket_for s.next o) (ap (λ z. z.reply) is) refl (ap (λ z. z.new.out) is) (ap (λ z. z.new.next) is) (ap (λ z. z.new.tried) is)

  on_obligation : (table : List Obligation) (name : List ℕ) (X : Sequent → Type 0) → ((q : Sequent) → X q → M) → OnObligation s table name X x → M
  on_obligation table name X f (inl a) = tell _ refl a.1
  on_obligation table name X f (inr a) = f a.0 a.2

  keeps : (name : List ℕ) (q : Sequent) (tree : Tree) → Keeps s name q tree x → M
  keeps name q tree a = enter _ _ refl a.2

  puts : (name : List ℕ) (q : Sequent) (tree : Tree) (path : List ℕ) (made : Result Rule RuleFault) → Puts s name q tree path made x → M
  puts name q tree path (Err fault) a = tell _ refl a.1
  puts name q tree path (Ok rule) a = where_any (tell _ refl) (keeps name q (grown rule path tree)) a

  steps_at : (name path : List ℕ) (kind : ℕ) (hint : Hint) (q : Sequent) → StepsAt s name path kind hint q x → M
  steps_at name path kind hint q =
      unless_any (tell _ refl)
      (match_any (leaf_at path (stored_tree s.durable.proofs name) q) (tell _ refl)
      (λ leaf a. puts name q (stored_tree s.durable.proofs name) path a.0 a.2))

  prunes_at : (name path : List ℕ) (q : Sequent) → PrunesAt s name path q x → M
  prunes_at name path q =
      match_any (rule_at path (stored_tree s.durable.proofs name)) (tell _ refl) (λ rule. keeps name q (put path Leaf (stored_tree s.durable.proofs name)))

  shows_at : (name : List ℕ) (path : Option (List ℕ)) (q : Sequent) → ShowsAt s name path q x → M
  shows_at name None q a = tell _ refl a.2
  shows_at name (Some path) q a =
      unless_any (tell _ refl) (match_any (leaf_at path (stored_tree s.durable.proofs name) q) (tell _ refl) (λ leaf b. tell _ refl b.2)) a

question_moves : (s : State) (x : StepOutcome) (table : List Obligation) (question : Question) → Tells s table question x → Moves s x.new (Ask question) x.reply
question_moves s x table AskStatuses a = tell s x (Ask AskStatuses) refl _ refl a.2
question_moves s x table AskFaults a = tell s x (Ask AskFaults) refl _ refl a.4
question_moves s x table (Show name path) a = on_obligation s x (Ask (Show name path)) refl table name _ (λ q. shows_at s x (Ask (Show name path)) refl name path q) a
question_moves s x table (TreeOf name) a = on_obligation s x (Ask (TreeOf name)) refl table name _ (λ q. where_any (tell s x (Ask (TreeOf name)) refl _ refl) (tell s x (Ask (TreeOf name)) refl _ refl)) a
question_moves s x table (AskFollows name) a = on_obligation s x (Ask (AskFollows name)) refl table name _ (λ q b. tell s x (Ask (AskFollows name)) refl _ refl b.2) a
question_moves s x table AskDigest a = tell s x (Ask AskDigest) refl _ refl a
question_moves s x table AskIdle a = where_any (tell s x (Ask AskIdle) refl _ refl) (tell s x (Ask AskIdle) refl _ refl) a

record Ended (s : State) (x : StepOutcome) (k : Ticket) (a : Attempt) : Type 0 where
  out : x.new.out ≡ s.out
  next : x.new.next ≡ s.next
  plain : is_plain x.reply ≡ true
  tried : (x.new.tried ≡ s.tried) ⊎ ((x.new.tried ≡ insert s.tried k.name k.sequent) × Failed a k.sequent)

ended : (s : State) (x z : StepOutcome) (k : Ticket) (a : Attempt) → x ≡ z → Ended s z k a → Ended s x k a
ended s x z k a is e = subst (λ y. Ended s y k a) (sym is) e

ends : (s : State) (x : StepOutcome) (k : Ticket) (q : Option Sequent) (a : Attempt) → EndsTicket s k q a x → Ended s x k a
ends s x k q NoProof e = ended s x _ k NoProof e.2 (record { out = refl; next = refl; plain = refl; tried = inr (refl, tt) })
ends s x k q AttemptNoMemory e = ended s x _ k AttemptNoMemory e.2 (record { out = refl; next = refl; plain = refl; tried = inr (refl, tt) })
ends s x k q (Found tree) (status, shown, stored can d) = ended s x _ k (Found tree) d (record { out = refl; next = refl; plain = refl; tried = inl refl })
ends s x k q (Found tree) (status, shown, stale cannot good d) = ended s x _ k (Found tree) d (record { out = refl; next = refl; plain = refl; tried = inl refl })
ends s x k q (Found tree) (status, shown, refused cannot bad d) = ended s x _ k (Found tree) d (record { out = refl; next = refl; plain = refl; tried = inr (refl, bad) })

beside : (s : State) (x : StepOutcome) (table : List Obligation) (event : Event) → ComesBeside s table event x → Moves s x.new event x.reply
beside s x table (Edit name text) a =
    let e = Edit name text in
    edit_any a (tell s x e refl _ refl) (tell s x e refl _ refl) (tell s x e refl _ refl) (enter s x e refl _ _ refl)
beside s x table (Delete name) a = unless_any (tell s x (Delete name) refl _ refl) (enter s x (Delete name) refl _ _ refl) a
beside s x table Build (inl a) = tell s x Build refl _ refl a.2
beside s x table Build (inr a) = enter s x Build refl _ _ refl a.4
beside s x table (Step name path kind hint) a = let e = Step name path kind hint in on_obligation s x e refl table name _ (λ q. steps_at s x e refl name path kind hint q) a
beside s x table (Prune name path) a = let e = Prune name path in on_obligation s x e refl table name _ (λ q. prunes_at s x e refl name path q) a
beside s x table (Take None) (inl a) = tell s x (Take None) refl _ refl a.1
beside s x table (Take None) (inr a) = take s x (Take None) refl refl _ a.6
beside s x table (Take (Some name)) a =
    let e = Take (Some name) in on_obligation s x e refl table name _ (λ q. where_any (take s x e refl refl _) (λ b. tell s x e refl _ refl b.2)) a
beside s x table (Finish number attempt) (inl a) = misses number attempt refl a.0 (ap (λ z. z.new) a.1) (ap (λ z. z.reply) a.1)
beside s x table (Finish number attempt) (inr (before, k, behind, cut, numbered, (sequent, present, a))) =
    let e = ends (record s { out = before ++ behind }) x k sequent attempt a in
    takes_in number attempt refl before k behind cut numbered e.out e.next e.plain e.tried
beside s x table Purge a = enter s x Purge refl _ _ refl a
beside s x table (Ask question) a = question_moves s x table question a

pub moves : (s t : State) (e : Event) (r : Reply) (n : Option Entry) → Does s e r n t → Moves s t e r
moves s t e r n d = beside s (record { reply = r; entry = n; new = t }) d.0 e d.2
