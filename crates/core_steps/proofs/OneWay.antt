-- The core answers each event in one way.
use Rattle.std.proofs.Common.{◌≡◌, ◌≢◌, ◌⊎◌, inl, inr, ℕ, ◌+◌, ◌<◌, Bool, true, false, List, [], ◌∷◌, ◌++◌, length, refl, sym, ap, ◌∙◌, subst, arith}
use Rattle.std.specs.Prelude.{Option, Some, None, Result, Ok, Err, MatchOption}
use Rattle.std.specs.List.{AllByRecursion, AllZip}
use Rattle.std.specs.FinMap.{FinMap, get, len, entries}
use Rattle.sequent_core.specs.declared.Sequent.{Sequent}
use Rattle.sequent_core.specs.declared.Obligation.{Obligation}
use Rattle.sequent_core.specs.declared.Ticket.{Ticket}
use Rattle.sequent_core.specs.declared.Tree.{Tree}
use Rattle.sequent_core.specs.declared.Tree.TheVariants.{Leaf}
use Rattle.sequent_core.specs.declared.Hint.{Hint}
use Rattle.rule_table.specs.declared.Rule.{Rule}
use Rattle.sequent_core.specs.declared.Attempt.{Attempt}
use Rattle.sequent_core.specs.declared.Attempt.TheVariants.{Found, NoProof, NoMemory as AttemptNoMemory}
use Rattle.sequent_core.specs.Trees.{Derives, node_count}
use Rattle.sequent_core.proofs.Nodes.{derives_not_leaf}
use Rattle.sequent_core.specs.Provers.{IsGoodTree}
use Rattle.build_core.specs.Laws.{HasOneTable, HasOneListOfFaults, HasOneListOfWarnings}
use Rattle.build_core.specs.declared.FaultLine.{FaultLine}
use Rattle.rule_making.specs.declared.RuleFault.{RuleFault}
use Rattle.rule_making.specs.declared.RuleFault.TheVariants.{OutOfMemory}
use Rattle.rule_making.specs.Laws.{AnswersAreOne}
use Rattle.rule_making.specs.Make.{Answers}
use Rattle.proof_steps.specs.Places.{leaf_at, rule_at, grown, put}
use Rattle.proof_entries.specs.declared.Origin.{Origin}
use Rattle.proof_entries.specs.declared.Proof.{Proof}
use Rattle.proof_entries.specs.declared.Entry.{Entry}
use Rattle.proof_entries.specs.declared.Entry.TheVariants.{SetProof, Build as BuildEntry}
use Rattle.readings_core.specs.declared.Follows.{Follows}
use Rattle.readings_core.specs.declared.Follows.TheVariants.{Yes, NotDerived, NotPlain}
use Rattle.readings_core.specs.Follows.{IsFollowsAnswer}
use Rattle.core_steps.specs.Durable.{text_cmp, ProjectMap}
use Rattle.core_steps.specs.declared.events.Status.{Status}
use Rattle.core_steps.specs.declared.events.Status.TheVariants.{Unattempted, Pending, Reviewed, Discharged, Broken}
use Rattle.core_steps.specs.declared.events.Event.{Event}
use Rattle.core_steps.specs.declared.events.Event.TheVariants.{Edit, Delete, Build, Step, Prune, Take, Finish, Purge, Ask}
use Rattle.core_steps.specs.declared.events.Question.{Question}
use Rattle.core_steps.specs.declared.events.Question.TheVariants.{Statuses as AskStatuses, Faults as AskFaults, Show, TreeOf, Follows as AskFollows, Digest as AskDigest, Idle as AskIdle}
use Rattle.core_steps.specs.declared.events.Reply.{Reply}
use Rattle.core_steps.specs.declared.events.Reply.TheVariants.{Built, TableFull, TreeFull, Now, Shown, NotOpen, NoTicket, Noted, NoMemory, Stored, Refused, Stale, Statuses, Faults, Followed}
use Rattle.core_steps.specs.State.{State, entered}
use Rattle.core_steps.specs.Status.{IsTreeStatus, IsStatus, Shows}
use Rattle.po_rules.specs.Gathering.{table_limit}
use Rattle.build_core.specs.Tables.{counted_nodes}
use Rattle.core_steps.proofs.Counted.{too_large}
use Rattle.core_steps.specs.Table.{IsTable, IsPresent}
use Rattle.core_steps.specs.Faults.{AreFaults, AreWarnings}
use Rattle.core_steps.specs.Outcomes.{StepOutcome, told, entering, Where, Unless}
use Rattle.core_steps.specs.Editing.{Edits, Deletes, Builds, Purges}
use Rattle.core_steps.specs.Proving.{OnObligation, stored_tree, Keeps, Puts, StepsAt, PrunesAt, ShowsOne, ShowsAt, ShowsTree, ShowsFollows}
use Rattle.core_steps.specs.Tickets.{IsOpen, TakesFirst, TakesNamed, TellsNotOpen, taking, IsIdle, CanStore, IsPresentStatus, EndsTicket, Finishes, tried_with, by_prover}
use Rattle.core_steps.specs.Step.{Tells, ComesBeside, Comes}
use Rattle.core_steps.specs.Laws.{AreApart, IsOrderly}
use Rattle.core_steps.proofs.Alls.{all_first, all_last}
use Rattle.core_steps.proofs.Cases.{edit_tests, found_tests}
use Rattle.core_steps.proofs.NameMaps.{names_differ}

apart_bools : (b : Bool) → b ≡ false → b ≡ true → ⊥
apart_bools b f t = let wrong : false ≡ true = sym f ∙ t in cc

some_one : {X : Type 0} (a b : X) → Some a ≡ Some b → a ≡ b
some_one a b e = cc

none_some : {X : Type 0} (a : X) → None ≡ Some a → ⊥
none_some a e = cc

-- TESTS

module _ {test one other one' other' C : Type 0} (f : one → one' → C) (g : other → other' → C) where
  where_one : Where test one other → Where test one' other' → C
  where_one (inl x) (inl y) = f x.1 y.1
  where_one (inl x) (inr y) = absurd (y.0 x.0)
  where_one (inr x) (inl y) = absurd (x.0 y.0)
  where_one (inr x) (inr y) = g x.1 y.1

  unless_one : Unless test one other → Unless test one' other' → C
  unless_one (inl x) (inl y) = f x.1 y.1
  unless_one (inl x) (inr y) = absurd (x.0 y.0)
  unless_one (inr x) (inl y) = absurd (y.0 x.0)
  unless_one (inr x) (inr y) = g x.1 y.1

match_one : {X C P P' : Type 0} {Q Q' : X → Type 0} (found : Option X) → (P → P' → C) → ((v : X) → Q v → Q' v → C) →
    MatchOption found P Q → MatchOption found P' Q' → C
match_one None f g x y = f x y
match_one (Some v) f g x y = g v x y

-- CUTS

module _ {X : Type 0} (P : X → Type 0) where
  first_cut : (before behind b c : List X) (o p : X) → before ++ o ∷ behind ≡ b ++ p ∷ c → AllByRecursion (λ x. P x → ⊥) before → P o → AllByRecursion (λ x. P x → ⊥) b → P p → o ≡ p
  first_cut [] behind [] c o p e none has none' has' = cc
  first_cut [] behind (x ∷ b) c o p e none has none' has' = let is : o ≡ x = cc in absurd (none'.0 (subst P is has))
  first_cut (y ∷ before) behind [] c o p e none has none' has' = let is : y ≡ p = cc in absurd (none.0 (subst P (sym is) has'))
  first_cut (y ∷ before) behind (x ∷ b) c o p e none has none' has' =
      let rest : before ++ o ∷ behind ≡ b ++ p ∷ c = cc in first_cut before behind b c o p rest none.1 has none'.1 has'

  none_cut : (table before behind : List X) (o : X) → table ≡ before ++ o ∷ behind → AllByRecursion (λ x. P x → ⊥) table → P o → ⊥
  none_cut table before behind o e none has = (all_last (λ x. P x → ⊥) before (o ∷ behind) (subst (AllByRecursion (λ x. P x → ⊥)) e none)).0 has

pub ticket_cut : (before behind b c : List Ticket) (k j : Ticket) → before ++ k ∷ behind ≡ b ++ j ∷ c → AreApart (before ++ k ∷ behind) → k.number ≡ j.number → (k ≡ j) × (before ++ behind ≡ b ++ c)
ticket_cut [] behind [] c k j e apart same = (cc, cc)
ticket_cut [] behind (x ∷ b) c k j e apart same =
    let is : k ≡ x = cc in
    let rest : behind ≡ b ++ j ∷ c = cc in
    absurd ((all_last (λ i. i.number ≢ k.number) b (j ∷ c) (subst (AllByRecursion (λ i. i.number ≢ k.number)) rest apart.0)).0 (sym same))
ticket_cut (y ∷ before) behind [] c k j e apart same =
    let is : y ≡ j = cc in
    absurd ((all_last (λ i. i.number ≢ y.number) before (k ∷ behind) apart.0).0 (same ∙ ap (λ z. z.number) (sym is)))
ticket_cut (y ∷ before) behind (x ∷ b) c k j e apart same =
    let is : y ≡ x = cc in
    let rest : before ++ k ∷ behind ≡ b ++ j ∷ c = cc in
    let t = ticket_cut before behind b c k j rest apart.1 same in
    (t.0, (λ i. is i ∷ t.1 i))

-- STATUSES

leaf_open : (s : Sequent) → Derives Leaf s → ⊥
leaf_open s d = derives_not_leaf Leaf s d refl

pub one_tree_status : (tree : Tree) (s : Sequent) (a b : Status) → IsTreeStatus tree s a → IsTreeStatus tree s b → a ≡ b
one_tree_status tree s Unattempted Unattempted x y = refl
one_tree_status tree s Unattempted Pending x y = absurd (y.0 x)
one_tree_status tree s Unattempted Reviewed x y = absurd (y.0 x)
one_tree_status tree s Unattempted Discharged x y = absurd (leaf_open s (subst (λ t. Derives t s) x y))
one_tree_status tree s Unattempted Broken x y = absurd (y.0 x)
one_tree_status tree s Pending Unattempted x y = absurd (x.0 y)
one_tree_status tree s Pending Pending x y = refl
one_tree_status tree s Pending Reviewed x y = absurd (apart_bools _ x.2 y.2)
one_tree_status tree s Pending Discharged x y = absurd (apart_bools _ x.2 y.closed)
one_tree_status tree s Pending Broken x y = absurd (y.1 x.1)
one_tree_status tree s Reviewed Unattempted x y = absurd (x.0 y)
one_tree_status tree s Reviewed Pending x y = absurd (apart_bools _ y.2 x.2)
one_tree_status tree s Reviewed Reviewed x y = refl
one_tree_status tree s Reviewed Discharged x y = absurd (apart_bools _ y.unreviewed x.3)
one_tree_status tree s Reviewed Broken x y = absurd (y.1 x.1)
one_tree_status tree s Discharged Unattempted x y = absurd (leaf_open s (subst (λ t. Derives t s) y x))
one_tree_status tree s Discharged Pending x y = absurd (apart_bools _ y.2 x.closed)
one_tree_status tree s Discharged Reviewed x y = absurd (apart_bools _ x.unreviewed y.3)
one_tree_status tree s Discharged Discharged x y = refl
one_tree_status tree s Discharged Broken x y = absurd (y.1 x.applies)
one_tree_status tree s Broken Unattempted x y = absurd (x.0 y)
one_tree_status tree s Broken Pending x y = absurd (x.1 y.1)
one_tree_status tree s Broken Reviewed x y = absurd (x.1 y.1)
one_tree_status tree s Broken Discharged x y = absurd (x.1 y.applies)
one_tree_status tree s Broken Broken x y = refl

pub one_status : (stored : Option Proof) (s : Sequent) (a b : Status) → IsStatus stored s a → IsStatus stored s b → a ≡ b
one_status None s a b x y = x ∙ sym y
one_status (Some proof) s a b x y = one_tree_status proof.tree s a b x y

one_shown : (proofs : FinMap text_cmp Proof) (table : List Obligation) (xs ys : List (List ℕ × Status × Option Origin)) → AllZip (Shows proofs) table xs → AllZip (Shows proofs) table ys → xs ≡ ys
one_shown proofs [] [] [] x y = refl
one_shown proofs [] (a ∷ xs) ys x y = absurd x
one_shown proofs [] [] (b ∷ ys) x y = absurd y
one_shown proofs (o ∷ table) [] ys x y = absurd x
one_shown proofs (o ∷ table) (a ∷ xs) [] x y = absurd y
one_shown proofs (o ∷ table) (a ∷ xs) (b ∷ ys) x y =
    let name : a.0 ≡ b.0 = x.0.0 ∙ sym y.0.0 in
    let status = one_status (get proofs o.name) o.sequent a.1 b.1 x.0.1 y.0.1 in
    let origin : a.2 ≡ b.2 = x.0.2 ∙ sym y.0.2 in
    let rest = one_shown proofs table xs ys x.1 y.1 in
    λ i. (name i, status i, origin i) ∷ rest i

pub one_present : (table : List Obligation) (name : List ℕ) (a b : Option Sequent) → IsPresent table name a → IsPresent table name b → a ≡ b
one_present table name None None x y = refl
one_present table name None (Some q) x y = absurd ((all_last (λ o. o.name ≢ name) y.0 (record { name = name; sequent = q } ∷ y.1) (subst (AllByRecursion (λ o. o.name ≢ name)) y.2 x)).0 refl)
one_present table name (Some p) None x y = absurd ((all_last (λ o. o.name ≢ name) x.0 (record { name = name; sequent = p } ∷ x.1) (subst (AllByRecursion (λ o. o.name ≢ name)) x.2 y)).0 refl)
one_present table name (Some p) (Some q) x y =
    ap (λ (o : Obligation). Some o.sequent) (first_cut (λ o. o.name ≡ name) x.0 x.1 y.0 y.1 (record { name = name; sequent = p }) (record { name = name; sequent = q }) (sym x.2 ∙ y.2) x.3 refl y.3 refl)

one_present_status : (proofs : FinMap text_cmp Proof) (name : List ℕ) (sequent : Option Sequent) (a b : Option Status) → IsPresentStatus proofs name sequent a → IsPresentStatus proofs name sequent b → a ≡ b
one_present_status proofs name None a b x y = x ∙ sym y
one_present_status proofs name (Some q) a b x y = x.1 ∙ ap Some (one_status (get proofs name) q x.0 y.0 x.2 y.2) ∙ sym y.1

-- OUTCOMES

join : {x y : StepOutcome} (z : StepOutcome) → x ≡ z → y ≡ z → x ≡ y
join z a b = a ∙ sym b

edits : (s : State) (name text : List ℕ) (x y : StepOutcome) → Edits s name text x → Edits s name text y → x ≡ y
edits s name text x y a b = unless_one (join _) (where_one (join _) (where_one (join _) (join _))) (edit_tests a) (edit_tests b)

deletes : (s : State) (name : List ℕ) (x y : StepOutcome) → Deletes s name x → Deletes s name y → x ≡ y
deletes s name x y = unless_one (join _) (join _)

on_obligation : (s : State) (table : List Obligation) (name : List ℕ) (x y : StepOutcome) (X Y : Sequent → Type 0) → ((q : Sequent) → X q → Y q → x ≡ y) →
    OnObligation s table name X x → OnObligation s table name Y y → x ≡ y
on_obligation s table name x y X Y f (inl a) (inl b) = join _ a.1 b.1
on_obligation s table name x y X Y f (inl a) (inr b) = absurd (none_some b.0 (one_present table name None (Some b.0) a.0 b.1))
on_obligation s table name x y X Y f (inr a) (inl b) = absurd (none_some a.0 (one_present table name None (Some a.0) b.0 a.1))
on_obligation s table name x y X Y f (inr a) (inr b) =
    f b.0 (subst X (some_one a.0 b.0 (one_present table name (Some a.0) (Some b.0) a.1 b.1)) a.2) b.2

keeps : (s : State) (name : List ℕ) (q : Sequent) (tree : Tree) (x y : StepOutcome) → Keeps s name q tree x → Keeps s name q tree y → x ≡ y
keeps s name q tree x y a b =
    a.2 ∙ ap (λ status. entering s (Now name status) (SetProof name _)) (one_tree_status tree q a.0 b.0 a.1 b.1) ∙ sym b.2

puts : (s : State) (name : List ℕ) (q : Sequent) (tree : Tree) (path : List ℕ) (made : Result Rule RuleFault) (x y : StepOutcome) →
    Puts s name q tree path made x → Puts s name q tree path made y → x ≡ y
puts s name q tree path (Err fault) x y a b = join _ a.1 b.1
puts s name q tree path (Ok rule) x y a b = where_one (join _) (keeps s name q (grown rule path tree) x y) a b

-- what is put is no answer for want of memory
in_memory : (s : State) (name : List ℕ) (q : Sequent) (tree : Tree) (path : List ℕ) (made : Result Rule RuleFault) (x : StepOutcome) →
    Puts s name q tree path made x → made ≢ Err OutOfMemory
in_memory s name q tree path (Err fault) x a e = let same : fault ≡ OutOfMemory = cc in a.0 same
in_memory s name q tree path (Ok rule) x a e = cc

abbrev StepsWith : State → List ℕ → List ℕ → ℕ → Hint → Sequent → Tree → Sequent → StepOutcome → Type 0
StepsWith s name path kind hint q tree leaf x = (made : Result Rule RuleFault) × Answers kind hint leaf made × Puts s name q tree path made x

steps_with : AnswersAreOne → (s : State) (name path : List ℕ) (kind : ℕ) (hint : Hint) (q : Sequent) (tree : Tree) (leaf : Sequent) (x y : StepOutcome) →
    StepsWith s name path kind hint q tree leaf x → StepsWith s name path kind hint q tree leaf y → x ≡ y
steps_with rule s name path kind hint q tree leaf x y a b =
    let same = rule kind hint leaf a.0 b.0 (in_memory s name q tree path a.0 x a.2) (in_memory s name q tree path b.0 y b.2) a.1 b.1 in
    puts s name q tree path b.0 x y (subst (λ made. Puts s name q tree path made x) same a.2) b.2

steps_at : AnswersAreOne → (s : State) (name path : List ℕ) (kind : ℕ) (hint : Hint) (q : Sequent) (x y : StepOutcome) →
    StepsAt s name path kind hint q x → StepsAt s name path kind hint q y → x ≡ y
steps_at rule s name path kind hint q x y =
    unless_one (join _)
    (match_one (leaf_at path (stored_tree s.durable.proofs name) q) (join _)
    (λ leaf. steps_with rule s name path kind hint q (stored_tree s.durable.proofs name) leaf x y))

prunes_at : (s : State) (name path : List ℕ) (q : Sequent) (x y : StepOutcome) → PrunesAt s name path q x → PrunesAt s name path q y → x ≡ y
prunes_at s name path q x y =
    match_one (rule_at path (stored_tree s.durable.proofs name)) (join _) (λ rule. keeps s name q (put path Leaf (stored_tree s.durable.proofs name)) x y)

shows_one : (s : State) (name : List ℕ) (q shown : Sequent) (x y : StepOutcome) → ShowsOne s name q shown x → ShowsOne s name q shown y → x ≡ y
shows_one s name q shown x y a b =
    a.2 ∙ ap (λ status. told s (Shown name status shown)) (one_status (get s.durable.proofs name) q a.0 b.0 a.1 b.1) ∙ sym b.2

shows_at : (s : State) (name : List ℕ) (path : Option (List ℕ)) (q : Sequent) (x y : StepOutcome) → ShowsAt s name path q x → ShowsAt s name path q y → x ≡ y
shows_at s name None q x y = shows_one s name q q x y
shows_at s name (Some path) q x y =
    unless_one (join _) (match_one (leaf_at path (stored_tree s.durable.proofs name) q) (join _) (λ leaf. shows_one s name q leaf x y))

shows_tree : (s : State) (name : List ℕ) (q : Sequent) (x y : StepOutcome) → ShowsTree s name q x → ShowsTree s name q y → x ≡ y
shows_tree s name q x y = where_one (join _) (join _)

-- one answer is right of a tree and a sequent
one_follows : (tree : Tree) (s : Sequent) (a b : Follows) → IsFollowsAnswer tree s a → IsFollowsAnswer tree s b → a ≡ b
one_follows tree s NotDerived NotDerived x y = refl
one_follows tree s NotDerived (NotPlain there) x y = absurd (x y.0)
one_follows tree s NotDerived Yes x y = absurd (x y.0)
one_follows tree s (NotPlain here) NotDerived x y = absurd (y x.0)
one_follows tree s (NotPlain here) (NotPlain there) x y = ap (λ path. NotPlain path) (some_one here there (sym x.1 ∙ y.1))
one_follows tree s (NotPlain here) Yes x y = absurd (none_some here (sym y.1 ∙ x.1))
one_follows tree s Yes NotDerived x y = absurd (y x.0)
one_follows tree s Yes (NotPlain there) x y = absurd (none_some there (sym x.1 ∙ y.1))
one_follows tree s Yes Yes x y = refl

shows_follows : (s : State) (name : List ℕ) (q : Sequent) (x y : StepOutcome) → ShowsFollows s name q x → ShowsFollows s name q y → x ≡ y
shows_follows s name q x y a b =
    a.2 ∙ ap (λ answer. told s (Followed name answer)) (one_follows (stored_tree s.durable.proofs name) q a.0 b.0 a.1 b.1) ∙ sym b.2

takes_first : (s : State) (table : List Obligation) (x y : StepOutcome) → TakesFirst s table x → TakesFirst s table y → x ≡ y
takes_first s table x y (inl a) (inl b) = join _ a.1 b.1
takes_first s table x y (inl a) (inr b) = absurd (none_cut (IsOpen s) table b.0 b.2 b.1 b.3 a.0 b.5)
takes_first s table x y (inr a) (inl b) = absurd (none_cut (IsOpen s) table a.0 a.2 a.1 a.3 b.0 a.5)
takes_first s table x y (inr a) (inr b) =
    let o = first_cut (IsOpen s) a.0 a.2 b.0 b.2 a.1 b.1 (sym a.3 ∙ b.3) a.4 a.5 b.4 b.5 in
    a.6 ∙ ap (taking s) o ∙ sym b.6

tells_not_open : (s : State) (name : List ℕ) (q : Sequent) (x y : StepOutcome) → TellsNotOpen s name q x → TellsNotOpen s name q y → x ≡ y
tells_not_open s name q x y a b =
    a.2 ∙ ap (λ status. told s (NotOpen name status)) (one_status (get s.durable.proofs name) q a.0 b.0 a.1 b.1) ∙ sym b.2

takes_named : (s : State) (table : List Obligation) (name : List ℕ) (x y : StepOutcome) → TakesNamed s table name x → TakesNamed s table name y → x ≡ y
takes_named s table name x y =
    on_obligation s table name x y _ _ (λ q. where_one (join _) (tells_not_open s name q x y))

-- FINISHES

abbrev EndsWith : State → Ticket → Option Sequent → Tree → Option Status → StepOutcome → Type 0
EndsWith s k q tree status x =
    Where (CanStore s.durable.proofs k.name q tree)
    (x ≡ entering s (Stored k.name status) (SetProof k.name (by_prover tree)))
    (Where (IsGoodTree tree k.sequent) (x ≡ told s (Stale k.name status)) (x ≡ told (tried_with s k) (Refused k.name status)))

-- the durables are the same first, and with them the statuses
durable_same : (s : State) (k : Ticket) (q : Option Sequent) (tree : Tree) (a b : Option Status) (x y : StepOutcome) →
    EndsWith s k q tree a x → EndsWith s k q tree b y → (x.new.durable ≡ y.new.durable) × (a ≡ b → x ≡ y)
durable_same s k q tree a b x y =
    where_one
    (λ u v. (ap (λ z. z.new.durable) u ∙ sym (ap (λ z. z.new.durable) v), λ e. u ∙ ap (λ status. entering s (Stored k.name status) (SetProof k.name (by_prover tree))) e ∙ sym v))
    (where_one
    (λ u v. (ap (λ z. z.new.durable) u ∙ sym (ap (λ z. z.new.durable) v), λ e. u ∙ ap (λ status. told s (Stale k.name status)) e ∙ sym v))
    (λ u v. (ap (λ z. z.new.durable) u ∙ sym (ap (λ z. z.new.durable) v), λ e. u ∙ ap (λ status. told (tried_with s k) (Refused k.name status)) e ∙ sym v)))

ends : (s : State) (k : Ticket) (q : Option Sequent) (a : Attempt) (x y : StepOutcome) → EndsTicket s k q a x → EndsTicket s k q a y → x ≡ y
ends s k q NoProof x y u v =
    u.2 ∙ ap (λ status. told (tried_with s k) (Noted k.name status)) (one_present_status s.durable.proofs k.name q u.0 v.0 u.1 v.1) ∙ sym v.2
ends s k q AttemptNoMemory x y u v =
    u.2 ∙ ap (λ status. told (tried_with s k) (NoMemory k.name status)) (one_present_status s.durable.proofs k.name q u.0 v.0 u.1 v.1) ∙ sym v.2
ends s k q (Found tree) x y u v =
    let e = durable_same s k q tree u.0 v.0 x y (found_tests u.2) (found_tests v.2) in
    e.1 (one_present_status y.new.durable.proofs k.name q u.0 v.0 (subst (λ d. IsPresentStatus d.proofs k.name q u.0) e.0 u.1) v.1)

pub among_cut : (number : ℕ) (out before behind : List Ticket) (k : Ticket) → out ≡ before ++ k ∷ behind → k.number ≡ number → AllByRecursion (λ ticket. ticket.number ≢ number) out → ⊥
among_cut number out before behind k cut is none = (all_last (λ ticket. ticket.number ≢ number) before (k ∷ behind) (subst (AllByRecursion (λ ticket. ticket.number ≢ number)) cut none)).0 is

abbrev EndsAt : State → List Obligation → Attempt → StepOutcome → Ticket × List Ticket → Type 0
EndsAt s table a x z = (q : Option Sequent) × IsPresent table z.0.name q × EndsTicket (record s { out = z.1 }) z.0 q a x

ends_at : (s : State) (table : List Obligation) (a : Attempt) (x y : StepOutcome) (z : Ticket × List Ticket) → EndsAt s table a x z → EndsAt s table a y z → x ≡ y
ends_at s table a x y z u v =
    ends (record s { out = z.1 }) z.0 v.0 a x y (subst (λ q. EndsTicket (record s { out = z.1 }) z.0 q a x) (one_present table z.0.name u.0 v.0 u.1 v.1) u.2) v.2

finishes : (s : State) (table : List Obligation) (number : ℕ) (a : Attempt) (x y : StepOutcome) → IsOrderly s → Finishes s table number a x → Finishes s table number a y → x ≡ y
finishes s table number a x y o (inl u) (inl v) = join _ u.1 v.1
finishes s table number a x y o (inl u) (inr v) = absurd (among_cut number s.out v.0 v.2 v.1 v.3 v.4 u.0)
finishes s table number a x y o (inr u) (inl v) = absurd (among_cut number s.out u.0 u.2 u.1 u.3 u.4 v.0)
finishes s table number a x y o (inr u) (inr v) =
    let c = ticket_cut u.0 u.2 v.0 v.2 u.1 v.1 (sym u.3 ∙ v.3) (subst AreApart u.3 o.apart) (u.4 ∙ sym v.4) in
    ends_at s table a x y (v.1, v.0 ++ v.2) (subst (EndsAt s table a x) (λ i. (c.0 i, c.1 i)) u.5) v.5

-- THE STEP

-- the laws below: one table, one list of faults, one list of warnings, one rule of a hint
pub record Laws : Type 0 where
  pub table : HasOneTable
  pub faults : HasOneListOfFaults
  pub warnings : HasOneListOfWarnings
  pub rule : AnswersAreOne

module _ (laws : Laws) where
  pub one_table : (project : ProjectMap) (t u : List Obligation) → IsTable project t → IsTable project u → t ≡ u
  one_table project t u x y = laws.table (entries project) (names_differ project) t u x y

  one_faults : (project : ProjectMap) (t u : List FaultLine) → AreFaults project t → AreFaults project u → t ≡ u
  one_faults project t u x y = laws.faults (entries project) (names_differ project) t u x y

  one_warnings : (project : ProjectMap) (t u : List (List ℕ × List ℕ)) → AreWarnings project t → AreWarnings project u → t ≡ u
  one_warnings project t u x y = laws.warnings (entries project) (names_differ project) t u x y

  pub builds : (s : State) (x y : StepOutcome) → Builds s x → Builds s y → x ≡ y
  builds s x y (inl u) (inl v) =
      let table = one_table s.durable.texts u.1.0 v.1.0 u.1.1 v.1.1 in
      u.2 ∙ ap (λ n. told s (TableFull n)) (u.1.3 ∙ ap counted_nodes table ∙ sym v.1.3) ∙ sym v.2
  builds s x y (inl u) (inr v) =
      let table = one_table s.durable.texts u.1.0 v.0 u.1.1 v.2.0 in
      absurd (too_large v.0 (subst (λ t. table_limit < counted_nodes t) table (subst (λ n. table_limit < n) u.1.3 u.1.2)) v.2.1)
  builds s x y (inr u) (inl v) =
      let table = one_table s.durable.texts v.1.0 u.0 v.1.1 u.2.0 in
      absurd (too_large u.0 (subst (λ t. table_limit < counted_nodes t) table (subst (λ n. table_limit < n) v.1.3 v.1.2)) u.2.1)
  builds s x y (inr u) (inr v) =
      let table = one_table s.durable.texts u.0 v.0 u.2.0 v.2.0 in
      let faults = one_faults s.durable.texts u.1 v.1 u.3 v.3 in
      u.4 ∙ (λ i. entering s (Built (len s.durable.texts) (length (faults i)) (length (table i))) BuildEntry) ∙ sym v.4

  tells : (s : State) (table : List Obligation) (question : Question) (x y : StepOutcome) → Tells s table question x → Tells s table question y → x ≡ y
  tells s table AskStatuses x y u v =
      let same = one_table s.durable.built u.1.0 v.1.0 u.1.1 v.1.1 in
      u.2 ∙ ap (λ shown. told s (Statuses shown)) (one_shown s.durable.proofs v.1.0 u.0 v.0 (subst (λ t. AllZip (Shows s.durable.proofs) t u.0) same u.1.2) v.1.2) ∙ sym v.2
  tells s table AskFaults x y u v =
      let faults = one_faults s.durable.built u.0 v.0 u.2 v.2 in
      let warnings = one_warnings s.durable.built u.1 v.1 u.3 v.3 in
      u.4 ∙ (λ i. told s (Faults (faults i) (warnings i))) ∙ sym v.4
  tells s table (Show name path) x y u v = on_obligation s table name x y _ _ (λ q. shows_at s name path q x y) u v
  tells s table (TreeOf name) x y u v = on_obligation s table name x y _ _ (λ q. shows_tree s name q x y) u v
  tells s table (AskFollows name) x y u v = on_obligation s table name x y _ _ (λ q. shows_follows s name q x y) u v
  tells s table AskDigest x y u v = join _ u v
  tells s table AskIdle x y u v = where_one (join _) (join _) u v

  beside : (s : State) (table : List Obligation) (event : Event) (x y : StepOutcome) → IsOrderly s → ComesBeside s table event x → ComesBeside s table event y → x ≡ y
  beside s table (Edit name text) x y o u v = edits s name text x y u v
  beside s table (Delete name) x y o u v = deletes s name x y u v
  beside s table Build x y o u v = builds s x y u v
  beside s table (Step name path kind hint) x y o u v = on_obligation s table name x y _ _ (λ q. steps_at laws.rule s name path kind hint q x y) u v
  beside s table (Prune name path) x y o u v = on_obligation s table name x y _ _ (λ q. prunes_at s name path q x y) u v
  beside s table (Take None) x y o u v = takes_first s table x y u v
  beside s table (Take (Some name)) x y o u v = takes_named s table name x y u v
  beside s table (Finish number attempt) x y o u v = finishes s table number attempt x y o u v
  beside s table Purge x y o u v = join _ u v
  beside s table (Ask question) x y o u v = tells s table question x y u v

  pub comes_one : (s : State) (event : Event) (x y : StepOutcome) → IsOrderly s → Comes s event x → Comes s event y → x ≡ y
  comes_one s event x y o u v =
      beside s v.0 event x y o (subst (λ t. ComesBeside s t event x) (one_table s.durable.built u.0 v.0 u.1 v.1) u.2) v.2
