-- The sorts of outcome: what an event does to the tickets, and that its entry makes the new durable.
use Rattle.std.proofs.Common.{◌≡◌, ◌≢◌, ◌⊎◌, inl, inr, ℕ, ◌+◌, ◌<◌, List, [], ◌∷◌, ◌++◌, length, refl, sym, ap, ◌∙◌, subst, arith}
use Rattle.std.specs.Prelude.{Option, Some, None, Result, Ok, Err, MatchOption}
use Rattle.std.specs.List.{AllByRecursion}
use Rattle.std.specs.FinMap.{FinMap, insert}
use Rattle.sequent_core.specs.declared.Sequent.{Sequent}
use Rattle.sequent_core.specs.declared.Obligation.{Obligation}
use Rattle.sequent_core.specs.declared.Ticket.{Ticket}
use Rattle.sequent_core.specs.declared.Tree.{Tree}
use Rattle.sequent_core.specs.declared.Tree.TheVariants.{Leaf}
use Rattle.sequent_core.specs.declared.Hint.{Hint}
use Rattle.rule_table.specs.declared.Rule.{Rule}
use Rattle.sequent_core.specs.declared.Attempt.{Attempt}
use Rattle.sequent_core.specs.declared.Attempt.TheVariants.{Found, NoProof, NoMemory as AttemptNoMemory}
use Rattle.rule_making.specs.declared.RuleFault.{RuleFault}
use Rattle.proof_steps.specs.Places.{leaf_at, rule_at, grown, put}
use Rattle.proof_entries.specs.declared.Entry.{Entry}
use Rattle.core_steps.specs.Durable.{text_cmp}
use Rattle.core_steps.specs.declared.events.Event.{Event}
use Rattle.core_steps.specs.declared.events.Event.TheVariants.{Edit, Delete, Build, Step, Prune, Take, Finish, Purge, Ask}
use Rattle.core_steps.specs.declared.events.Question.{Question}
use Rattle.core_steps.specs.declared.events.Question.TheVariants.{Statuses as AskStatuses, Faults as AskFaults, Show, TreeOf, Follows as AskFollows, Digest as AskDigest, Idle as AskIdle}
use Rattle.core_steps.specs.declared.events.Reply.{Reply}
use Rattle.core_steps.specs.State.{State, entered_if}
use Rattle.core_steps.specs.Outcomes.{StepOutcome, told, entering, Where, Unless}
use Rattle.core_steps.specs.Editing.{Builds}
use Rattle.core_steps.specs.Proving.{OnObligation, stored_tree, Keeps, Puts, StepsAt, PrunesAt, ShowsOne, ShowsAt, ShowsTree}
use Rattle.core_steps.specs.Tickets.{TakesFirst, TakesNamed, taking, ticket_for, EndsTicket, Finishes}
use Rattle.core_steps.specs.Step.{Tells, ComesBeside, Comes}
use Rattle.core_steps.specs.Laws.{AreApart, IsOrderly}
use Rattle.core_steps.proofs.Alls.{all_both, all_first, all_last, all_so}
use Rattle.core_steps.proofs.Cases.{edit_any, found_any}

pub data Sort (s : State) (x : StepOutcome) : Type 0 where
  tells : (reply : Reply) → x ≡ told s reply → Sort s x
  enters : (reply : Reply) (entry : Entry) → x ≡ entering s reply entry → Sort s x
  takes : (o : Obligation) → x ≡ taking s o → Sort s x
  hands_in : (before : List Ticket) (k : Ticket) (behind : List Ticket) → s.out ≡ before ++ k ∷ behind →
      (tried : FinMap text_cmp Sequent) (reply : Reply) → x ≡ told (record s { out = before ++ behind; tried = tried }) reply → Sort s x
  stores : (before : List Ticket) (k : Ticket) (behind : List Ticket) → s.out ≡ before ++ k ∷ behind →
      (reply : Reply) (entry : Entry) → x ≡ entering (record s { out = before ++ behind }) reply entry → Sort s x

module _ {test one other C : Type 0} (f : one → C) (g : other → C) where
  pub where_any : Where test one other → C
  where_any (inl x) = f x.1
  where_any (inr x) = g x.1

  pub unless_any : Unless test one other → C
  unless_any (inl x) = f x.1
  unless_any (inr x) = g x.1

pub match_any : {X C P : Type 0} {Q : X → Type 0} (found : Option X) → (P → C) → ((v : X) → Q v → C) → MatchOption found P Q → C
match_any None f g x = f x
match_any (Some v) f g x = g v x

module _ (s : State) (x : StepOutcome) where
  on_obligation : (table : List Obligation) (name : List ℕ) (X : Sequent → Type 0) → ((q : Sequent) → X q → Sort s x) → OnObligation s table name X x → Sort s x
  on_obligation table name X f (inl a) = tells _ a.1
  on_obligation table name X f (inr a) = f a.0 a.2

  keeps : (name : List ℕ) (q : Sequent) (tree : Tree) → Keeps s name q tree x → Sort s x
  keeps name q tree a = enters _ _ a.2

  puts : (name : List ℕ) (q : Sequent) (tree : Tree) (path : List ℕ) (made : Result Rule RuleFault) → Puts s name q tree path made x → Sort s x
  puts name q tree path (Err fault) a = tells _ a.1
  puts name q tree path (Ok rule) a = where_any (tells _) (keeps name q (grown rule path tree)) a

  steps_at : (name path : List ℕ) (kind : ℕ) (hint : Hint) (q : Sequent) → StepsAt s name path kind hint q x → Sort s x
  steps_at name path kind hint q =
      unless_any (tells _)
      (match_any (leaf_at path (stored_tree s.durable.proofs name) q) (tells _)
      (λ leaf a. puts name q (stored_tree s.durable.proofs name) path a.0 a.2))

  prunes_at : (name path : List ℕ) (q : Sequent) → PrunesAt s name path q x → Sort s x
  prunes_at name path q =
      match_any (rule_at path (stored_tree s.durable.proofs name)) (tells _) (λ rule. keeps name q (put path Leaf (stored_tree s.durable.proofs name)))

  shows_at : (name : List ℕ) (path : Option (List ℕ)) (q : Sequent) → ShowsAt s name path q x → Sort s x
  shows_at name None q a = tells _ a.2
  shows_at name (Some path) q a =
      unless_any (tells _) (match_any (leaf_at path (stored_tree s.durable.proofs name) q) (tells _) (λ leaf b. tells _ b.2)) a

  ends : (before : List Ticket) (k : Ticket) (behind : List Ticket) → s.out ≡ before ++ k ∷ behind → (q : Option Sequent) (a : Attempt) →
      EndsTicket (record s { out = before ++ behind }) k q a x → Sort s x
  ends before k behind cut q NoProof e = hands_in before k behind cut (insert s.tried k.name k.sequent) _ e.2
  ends before k behind cut q AttemptNoMemory e = hands_in before k behind cut (insert s.tried k.name k.sequent) _ e.2
  ends before k behind cut q (Found tree) e =
      found_any e.2 (stores before k behind cut _ _) (hands_in before k behind cut s.tried _) (hands_in before k behind cut (insert s.tried k.name k.sequent) _)

  question_sort : (table : List Obligation) (question : Question) → Tells s table question x → Sort s x
  question_sort table AskStatuses a = tells _ a.2
  question_sort table AskFaults a = tells _ a.4
  question_sort table (Show name path) a = on_obligation table name _ (λ q. shows_at name path q) a
  question_sort table (TreeOf name) a = on_obligation table name _ (λ q. where_any (tells _) (tells _)) a
  question_sort table (AskFollows name) a = on_obligation table name _ (λ q b. tells _ b.2) a
  question_sort table AskDigest a = tells _ a
  question_sort table AskIdle a = where_any (tells _) (tells _) a

  beside : (table : List Obligation) (event : Event) → ComesBeside s table event x → Sort s x
  beside table (Edit name text) a = edit_any a (tells _) (tells _) (tells _) (enters _ _)
  beside table (Delete name) a = unless_any (tells _) (enters _ _) a
  beside table Build (inl a) = tells _ a.2
  beside table Build (inr a) = enters _ _ a.4
  beside table (Step name path kind hint) a = on_obligation table name _ (λ q. steps_at name path kind hint q) a
  beside table (Prune name path) a = on_obligation table name _ (λ q. prunes_at name path q) a
  beside table (Take None) (inl a) = tells _ a.1
  beside table (Take None) (inr a) = takes _ a.6
  beside table (Take (Some name)) a = on_obligation table name _ (λ q. where_any (takes _) (λ b. tells _ b.2)) a
  beside table (Finish number attempt) (inl a) = tells _ a.1
  beside table (Finish number attempt) (inr a) = ends a.0 a.1 a.2 a.3 a.5.0 attempt a.5.2
  beside table Purge a = enters _ _ a
  beside table (Ask question) a = question_sort table question a

  pub sort_of : (event : Event) → Comes s event x → Sort s x
  sort_of event a = beside a.0 event a.2

-- ORDER

apart_push : (tickets : List Ticket) (k : Ticket) → AreApart tickets → AllByRecursion (λ t. t.number < k.number) tickets → AreApart (tickets ++ k ∷ [])
apart_push [] k apart below = (tt, tt)
apart_push (t ∷ tickets) k apart below = (
  all_both (λ i. i.number ≢ t.number) tickets (k ∷ []) apart.0 ((λ same. absurd (omega (arith, same, below.0))), tt),
  apart_push tickets k apart.1 below.1,
)

apart_cut : (before : List Ticket) (k : Ticket) (behind : List Ticket) → AreApart (before ++ k ∷ behind) → AreApart (before ++ behind)
apart_cut [] k behind apart = apart.1
apart_cut (t ∷ before) k behind apart =
    let P : Ticket → Type 0 = λ i. i.number ≢ t.number in
    (all_both P before behind (all_first P before (k ∷ behind) apart.0) (all_last P before (k ∷ behind) apart.0).1, apart_cut before k behind apart.1)

all_cut : (P : Ticket → Type 0) (before : List Ticket) (k : Ticket) (behind : List Ticket) → AllByRecursion P (before ++ k ∷ behind) → AllByRecursion P (before ++ behind)
all_cut P before k behind all = all_both P before behind (all_first P before (k ∷ behind) all) (all_last P before (k ∷ behind) all).1

orderly_cut : (s : State) (before : List Ticket) (k : Ticket) (behind : List Ticket) (tried : FinMap text_cmp Sequent) → s.out ≡ before ++ k ∷ behind → IsOrderly s →
    IsOrderly (record s { out = before ++ behind; tried = tried })
orderly_cut s before k behind tried cut o = record {
  apart = apart_cut before k behind (subst AreApart cut o.apart);
  below = all_cut (λ t. t.number < s.next) before k behind (subst (AllByRecursion (λ t. t.number < s.next)) cut o.below);
}

orderly_taking : (s : State) (o : Obligation) → IsOrderly s → IsOrderly (taking s o).new
orderly_taking s o ordered = record {
  apart = apart_push s.out (ticket_for s.next o) ordered.apart ordered.below;
  below = all_both (λ t. t.number < s.next + 1) s.out (ticket_for s.next o ∷ [])
      (all_so (λ t. t.number < s.next) (λ t. t.number < s.next + 1) (λ t lt. omega (arith, lt)) s.out ordered.below) (omega arith, tt);
}

-- each sort of outcome keeps the tickets in order
pub orderly_after : (s : State) (x : StepOutcome) → Sort s x → IsOrderly s → IsOrderly x.new
orderly_after s x (tells reply is) o = subst (λ z. IsOrderly z.new) (sym is) o
orderly_after s x (enters reply entry is) o = subst (λ z. IsOrderly z.new) (sym is) (record { apart = o.apart; below = o.below })
orderly_after s x (takes ob is) o = subst (λ z. IsOrderly z.new) (sym is) (orderly_taking s ob o)
orderly_after s x (hands_in before k behind cut tried reply is) o = subst (λ z. IsOrderly z.new) (sym is) (orderly_cut s before k behind tried cut o)
orderly_after s x (stores before k behind cut reply entry is) o =
    let left = orderly_cut s before k behind s.tried cut o in
    subst (λ z. IsOrderly z.new) (sym is) (record { apart = left.apart; below = left.below })

-- the entry makes the new durable
pub entered_after : (s : State) (x : StepOutcome) → Sort s x → x.new.durable ≡ entered_if s.durable x.entry
entered_after s x (tells reply is) = subst (λ z. z.new.durable ≡ entered_if s.durable z.entry) (sym is) refl
entered_after s x (enters reply entry is) = subst (λ z. z.new.durable ≡ entered_if s.durable z.entry) (sym is) refl
entered_after s x (takes o is) = subst (λ z. z.new.durable ≡ entered_if s.durable z.entry) (sym is) refl
entered_after s x (hands_in before k behind cut tried reply is) = subst (λ z. z.new.durable ≡ entered_if s.durable z.entry) (sym is) refl
entered_after s x (stores before k behind cut reply entry is) = subst (λ z. z.new.durable ≡ entered_if s.durable z.entry) (sym is) refl
