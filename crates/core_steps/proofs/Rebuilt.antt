-- The statuses in a reply are those of the clean rebuild.
use Rattle.std.proofs.Common.{◌≡◌, ◌⊎◌, inl, inr, ℕ, List, [], ◌∷◌, ◌++◌, refl, sym, ap, ◌∙◌, subst}
use Rattle.std.specs.Prelude.{Option, Some, None, Result, Ok, Err}
use Rattle.std.specs.FinMap.{FinMap, get, insert}
use Rattle.sequent_core.specs.declared.Sequent.{Sequent}
use Rattle.sequent_core.specs.declared.Obligation.{Obligation}
use Rattle.sequent_core.specs.declared.Ticket.{Ticket}
use Rattle.sequent_core.specs.declared.Tree.{Tree}
use Rattle.sequent_core.specs.declared.Tree.TheVariants.{Leaf}
use Rattle.sequent_core.specs.declared.Hint.{Hint}
use Rattle.rule_table.specs.declared.Rule.{Rule}
use Rattle.sequent_core.specs.declared.Attempt.{Attempt}
use Rattle.sequent_core.specs.declared.Attempt.TheVariants.{Found, NoProof, NoMemory as AttemptNoMemory}
use Rattle.sequent_core.specs.Trees.{Derives}
use Rattle.rule_making.specs.declared.RuleFault.{RuleFault}
use Rattle.proof_steps.specs.Places.{leaf_at, rule_at, grown, put}
use Rattle.proof_entries.specs.declared.Proof.{Proof}
use Rattle.core_steps.specs.Durable.{text_cmp}
use Rattle.core_steps.specs.declared.durable.Durable.{Durable}
use Rattle.core_steps.specs.declared.events.Status.{Status}
use Rattle.core_steps.specs.declared.events.Status.TheVariants.{Discharged}
use Rattle.core_steps.specs.declared.events.Event.{Event}
use Rattle.core_steps.specs.declared.events.Event.TheVariants.{Edit, Delete, Build, Step, Prune, Take, Finish, Purge, Ask}
use Rattle.core_steps.specs.declared.events.Question.{Question}
use Rattle.core_steps.specs.declared.events.Question.TheVariants.{Statuses as AskStatuses, Faults as AskFaults, Show, TreeOf, Follows as AskFollows, Digest as AskDigest, Idle as AskIdle}
use Rattle.core_steps.specs.State.{State, entered}
use Rattle.core_steps.specs.Status.{IsStatus}
use Rattle.core_steps.specs.Table.{IsTable, IsPresent}
use Rattle.core_steps.specs.Outcomes.{StepOutcome}
use Rattle.core_steps.specs.Proving.{OnObligation, stored_tree, Keeps, Puts, StepsAt, ShowsAt}
use Rattle.core_steps.specs.Tickets.{IsPresentStatus, EndsTicket, Finishes, by_prover}
use Rattle.proof_entries.specs.declared.Entry.TheVariants.{SetProof}
use Rattle.core_steps.specs.Step.{Tells, ComesBeside}
use Rattle.core_steps.specs.Laws.{TellsRebuilt, IsRebuiltIf, IsRebuiltAs}
use Rattle.core_steps.proofs.Cases.{edit_any, found_any}
use Rattle.core_steps.proofs.NameMaps.{get_same}
use Rattle.core_steps.proofs.Sorts.{where_any, unless_any, match_any}

abbrev Right : StepOutcome → Type 0
Right x = TellsRebuilt x.new.durable x.reply

right : {x : StepOutcome} (z : StepOutcome) → Right z → x ≡ z → Right x
right z r is = subst Right (sym is) r

module _ (s : State) (x : StepOutcome) (table : List Obligation) (is : IsTable s.durable.built table) where
  shown_as : (name : List ℕ) (q : Sequent) (status : Status) → IsPresent table name (Some q) → IsStatus (get s.durable.proofs name) q status → IsRebuiltAs s.durable name status
  shown_as name q status present st = (table, q, is, present, st)

  on_obligation : (name : List ℕ) (X : Sequent → Type 0) → ((q : Sequent) → IsPresent table name (Some q) → X q → Right x) → OnObligation s table name X x → Right x
  on_obligation name X f (inl a) = right _ tt a.1
  on_obligation name X f (inr a) = f a.0 a.1 a.2

  keeps : (name : List ℕ) (q : Sequent) (tree : Tree) → IsPresent table name (Some q) → Keeps s name q tree x → Right x
  keeps name q tree present a =
      right _ (table, q, is, present, subst (λ o. IsStatus o q a.0) (sym (get_same s.durable.proofs name _)) a.1) a.2

  puts : (name : List ℕ) (q : Sequent) (tree : Tree) (path : List ℕ) (made : Result Rule RuleFault) → IsPresent table name (Some q) → Puts s name q tree path made x → Right x
  puts name q tree path (Err fault) present a = right _ tt a.1
  puts name q tree path (Ok rule) present a = where_any (right _ tt) (keeps name q (grown rule path tree) present) a

  steps_at : (name path : List ℕ) (kind : ℕ) (hint : Hint) (q : Sequent) → IsPresent table name (Some q) → StepsAt s name path kind hint q x → Right x
  steps_at name path kind hint q present =
      unless_any (right _ tt)
      (match_any (leaf_at path (stored_tree s.durable.proofs name) q) (right _ tt)
      (λ leaf a. puts name q (stored_tree s.durable.proofs name) path a.0 present a.2))

  shows_at : (name : List ℕ) (path : Option (List ℕ)) (q : Sequent) → IsPresent table name (Some q) → ShowsAt s name path q x → Right x
  shows_at name None q present a = right _ (shown_as name q a.0 present a.1) a.2
  shows_at name (Some path) q present a =
      unless_any (right _ tt)
      (match_any (leaf_at path (stored_tree s.durable.proofs name) q) (right _ tt) (λ leaf b. right _ (shown_as name q b.0 present b.1) b.2)) a

-- the status of the name for its present sequent is that of the clean rebuild
if_shown : (d : Durable) (table : List Obligation) (name : List ℕ) (q : Option Sequent) (status : Option Status) → IsTable d.built table → IsPresent table name q →
    IsPresentStatus d.proofs name q status → IsRebuiltIf d name status
if_shown d table name None status is present st = subst (IsRebuiltIf d name) (sym st) (table, is, present)
if_shown d table name (Some q) status is present st = subst (IsRebuiltIf d name) (sym st.1) (table, q, is, present, st.2)

module _ (s : State) (x : StepOutcome) (table : List Obligation) (is : IsTable s.durable.built table) where
  ends : (before behind : List Ticket) (k : Ticket) (q : Option Sequent) (a : Attempt) → IsPresent table k.name q →
      EndsTicket (record s { out = before ++ behind }) k q a x → Right x
  ends before behind k q NoProof present e = right _ (if_shown s.durable table k.name q e.0 is present e.1) e.2
  ends before behind k q AttemptNoMemory present e = right _ (if_shown s.durable table k.name q e.0 is present e.1) e.2
  ends before behind k q (Found tree) present e =
      found_any e.2
      (λ z. right _ (if_shown (entered s.durable (SetProof k.name (by_prover tree))) table k.name q e.0 is present (subst (λ y. IsPresentStatus y.new.durable.proofs k.name q e.0) z e.1)) z)
      (λ z. right _ (if_shown s.durable table k.name q e.0 is present (subst (λ y. IsPresentStatus y.new.durable.proofs k.name q e.0) z e.1)) z)
      (λ z. right _ (if_shown s.durable table k.name q e.0 is present (subst (λ y. IsPresentStatus y.new.durable.proofs k.name q e.0) z e.1)) z)

  question_right : (question : Question) → Tells s table question x → Right x
  question_right AskStatuses a = right _ a.1 a.2
  question_right AskFaults a = right _ tt a.4
  question_right (Show name path) a = on_obligation s x table is name _ (λ q present. shows_at s x table is name path q present) a
  question_right (TreeOf name) a = on_obligation s x table is name _ (λ q present. where_any (right _ tt) (right _ tt)) a
  question_right (AskFollows name) a = on_obligation s x table is name _ (λ q present b. right _ (table, q, is, present, b.1) b.2) a
  question_right AskDigest a = right _ tt a
  question_right AskIdle a = where_any (right _ tt) (right _ tt) a

  pub rebuilt_beside : (event : Event) → ComesBeside s table event x → Right x
  rebuilt_beside (Edit name text) a = edit_any a (right _ tt) (right _ tt) (right _ tt) (right _ tt)
  rebuilt_beside (Delete name) a = unless_any (right _ tt) (right _ tt) a
  rebuilt_beside Build (inl a) = right _ tt a.2
  rebuilt_beside Build (inr a) = right _ tt a.4
  rebuilt_beside (Step name path kind hint) a = on_obligation s x table is name _ (λ q present. steps_at s x table is name path kind hint q present) a
  rebuilt_beside (Prune name path) a =
      on_obligation s x table is name _ (λ q present. match_any (rule_at path (stored_tree s.durable.proofs name)) (right _ tt) (λ rule. keeps s x table is name q (put path Leaf (stored_tree s.durable.proofs name)) present)) a
  rebuilt_beside (Take None) (inl a) = right _ tt a.1
  rebuilt_beside (Take None) (inr a) = right _ tt a.6
  rebuilt_beside (Take (Some name)) a =
      on_obligation s x table is name _ (λ q present. where_any (right _ tt) (λ b. right _ (shown_as s x table is name q b.0 present b.1) b.2)) a
  rebuilt_beside (Finish number attempt) (inl a) = right _ tt a.1
  rebuilt_beside (Finish number attempt) (inr a) = ends a.0 a.2 a.1 a.5.0 attempt a.5.1 a.5.2
  rebuilt_beside Purge a = right _ tt a
  rebuilt_beside (Ask question) a = question_right question a

-- DISCHARGED

derived_by : (d : Durable) (name : List ℕ) (q : Sequent) (found : Option Proof) → get d.proofs name ≡ found → IsStatus found q Discharged →
    (proof : Proof) × (get d.proofs name ≡ Some proof) × Derives proof.tree q
derived_by d name q None is st = let no = st in cc
derived_by d name q (Some proof) is st = (proof, is, st)

pub discharged_derived : (d : Durable) (name : List ℕ) → IsRebuiltAs d name Discharged →
    (table : List Obligation) × (sequent : Sequent) × (proof : Proof) × IsTable d.built table × IsPresent table name (Some sequent)
    × (get d.proofs name ≡ Some proof) × Derives proof.tree sequent
discharged_derived d name r =
    let found = derived_by d name r.1 (get d.proofs name) refl r.4 in
    (r.0, r.1, found.0, r.2, r.3, found.1, found.2)
