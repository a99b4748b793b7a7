-- The formulas that replies show are well.
use Rattle.std.proofs.Common.{◌≡◌, ◌⊎◌, inl, inr, ℕ, zero, suc, ◌+◌, List, [], ◌∷◌, ◌++◌, map, true, refl, sym, ap, ◌∙◌, subst, arith}
use Rattle.std.specs.Prelude.{Option, Some, None, Result, Ok, Err, MatchOption, slice_get}
use Rattle.std.specs.List.{AllByRecursion, flat_map}
use Rattle.std.specs.Option.{option_to_list}
use Rattle.std.specs.FinMap.{entries}
use Rattle.std.proofs.lemmas.Grind.{flat_map-append}
use Rattle.formula_core.specs.declared.Formula.{Formula}
use Rattle.formula_core.specs.Formulas.{joined}
use Rattle.formula_core.specs.Substitution.{AreWell}
use Rattle.formula_core.specs.Typed.{IsPredicateIn}
use Rattle.formula_core.specs.Wellness.{is_well}
use Rattle.rule_table.specs.declared.Antecedent.{Antecedent}
use Rattle.rule_table.specs.declared.Rule.{Rule}
use Rattle.rule_table.specs.Kinds.{kind_number}
use Rattle.rule_table.specs.Rules.{IsAllowed, IsRule, body_of, antecedent_formulas, needed_formulas, terms_of}
use Rattle.rule_making.specs.declared.RuleFault.{RuleFault}
use Rattle.sequent_core.specs.declared.Attempt.{Attempt}
use Rattle.sequent_core.specs.declared.Attempt.TheVariants.{Found, NoProof, NoMemory}
use Rattle.sequent_core.specs.declared.Hint.{Hint}
use Rattle.sequent_core.specs.declared.Obligation.{Obligation}
use Rattle.sequent_core.specs.declared.Sequent.{Sequent}
use Rattle.sequent_core.specs.declared.Ticket.{Ticket}
use Rattle.sequent_core.specs.declared.Tree.{Tree}
use Rattle.sequent_core.specs.declared.tree.Tree.{out-Tree}
use Rattle.sequent_core.specs.declared.tree.Tree.TheOpen.{Tree-F, Leaf as LeafF, Node as NodeF}
use Rattle.sequent_core.specs.declared.tree.Tree.TheVariants.{Leaf, Node}
use Rattle.sequent_core.specs.declared.tree.Tree.TheViews.{rolls-Leaf, rolls-Node}
use Rattle.sequent_core.specs.declared.tree.Tree.TheFolds.{fold-roll-Tree}
use Rattle.sequent_core.specs.PrivateChildren.{EachApplies}
use Rattle.sequent_core.specs.Sequents.{IsSequent}
use Rattle.sequent_core.specs.Trees.{Applies, extended, goal_or}
use Rattle.sequent_core.proofs.Nodes.{all_both, all_first, all_last, applied_rule}
use Rattle.proof_steps.specs.Places.{if_leaf_at, leaf_at, rule_at, grown, put}
use Rattle.proof_steps.proofs.Descent.{leaf_parts, child_parts, child_applies}
use Rattle.proof_steps.proofs.Induction.{tree_induction}
use Rattle.proof_steps.proofs.Nodes.{node_is}
use Rattle.po_rules.specs.Sequents.{AreSequents}
use Rattle.typed_tables.specs.Laws.{AreSequentsOfTables}
use Rattle.core_steps.specs.declared.Event.{Event}
use Rattle.core_steps.specs.declared.Event.TheVariants as event
use Rattle.core_steps.specs.declared.Question.{Question}
use Rattle.core_steps.specs.declared.Question.TheVariants as ask
use Rattle.core_steps.specs.declared.NodeLine.{NodeLine}
use Rattle.core_steps.specs.declared.Reply.{Reply}
use Rattle.core_steps.specs.Outcomes.{StepOutcome, Where, Unless}
use Rattle.core_steps.specs.Proving.{OnObligation, stored_tree, Puts, StepsAt, ShowsAt, ShowsTree, goal_of, lines_below, lines_step, node_lines}
use Rattle.core_steps.specs.State.{State}
use Rattle.core_steps.specs.Step.{Tells, ComesBeside, Comes}
use Rattle.core_steps.specs.Table.{IsTable, IsPresent}
use Rattle.core_steps.specs.Tickets.{EndsTicket}
use Rattle.core_steps.proofs.Alls.{all_so}
use Rattle.core_steps.proofs.Cases.{edit_any, found_any}
use Rattle.core_steps.proofs.NameMaps.{names_differ}
use Rattle.reply_text.specs.Replies.{goals_of, shown_formulas}

abbrev Well : Formula → Type 0
Well f = is_well f ≡ true

abbrev WellSequent : Sequent → Type 0
WellSequent s = AreWell (s.goal ∷ s.hyps)

-- RULES

each_antecedent : (ants : List Antecedent) → AllByRecursion IsAllowed (joined (map antecedent_formulas ants)) →
    AllByRecursion (λ a. AllByRecursion IsAllowed (antecedent_formulas a)) ants
each_antecedent [] all = tt
each_antecedent (a ∷ ants) all = (
  all_first IsAllowed (antecedent_formulas a) (joined (map antecedent_formulas ants)) all,
  each_antecedent ants (all_last IsAllowed (antecedent_formulas a) (joined (map antecedent_formulas ants)) all),
)

-- the formulas of a rule's antecedents are well
antecedents_well : (r : Rule) → IsRule r → AllByRecursion (λ a. AreWell (antecedent_formulas a)) r.antecedents
antecedents_well r is =
    let front = all_first IsAllowed (needed_formulas (body_of r) ++ joined (map antecedent_formulas r.antecedents)) (terms_of r.kind) is.sound.formulas in
    all_so (λ a. AllByRecursion IsAllowed (antecedent_formulas a)) (λ a. AreWell (antecedent_formulas a))
    (λ a w. all_so IsAllowed Well (λ f g. g.well) (antecedent_formulas a) w) r.antecedents
    (each_antecedent r.antecedents (all_last IsAllowed (needed_formulas (body_of r)) (joined (map antecedent_formulas r.antecedents)) front))

goal_well : (new : Option Formula) (goal : Formula) → Well goal → AreWell (option_to_list new) → Well (goal_or new goal)
goal_well None goal w all = w
goal_well (Some g) goal w all = all.0

-- what an antecedent makes of a sequent
extended_well : (s : Sequent) (a : Antecedent) → WellSequent s → AreWell (antecedent_formulas a) → WellSequent (extended s a)
extended_well s a w all = (
  goal_well a.goal s.goal w.0 (all_last Well a.hyps (option_to_list a.goal) all),
  all_both Well s.hyps a.hyps w.1 (all_first Well a.hyps (option_to_list a.goal) all),
)

-- LEAVES

at_root : (o : Tree-F Tree) (s at : Sequent) → if_leaf_at o s ≡ Some at → s ≡ at
at_root LeafF s at is = cc
at_root (NodeF r trees) s at is = let no : None ≡ Some at = is in cc

all_at : (P : Antecedent → Type 0) (ants : List Antecedent) (i : ℕ) (a : Antecedent) → AllByRecursion P ants → slice_get ants i ≡ Some a → P a
all_at P [] i a all is = let no : None ≡ Some a = is in cc
all_at P (b ∷ ants) zero a all is = let same : b ≡ a = cc in subst P same all.0
all_at P (b ∷ ants) (suc i) a all is = all_at P ants i a all.1 is

-- the sequent at a leaf of a tree that applies
leaf_well : (path : List ℕ) (t : Tree) (s at : Sequent) → Applies t s → WellSequent s → leaf_at path t s ≡ Some at → WellSequent at
leaf_well [] t s at applied w is = subst WellSequent (at_root (out-Tree t) s at is) w
leaf_well (i ∷ path) t s at applied w is =
    let p = leaf_parts i path t s at is in
    let c = child_parts i t p.0 p.1 in
    let parts = applied_rule c.node.0 c.node.1 s (subst (λ u. Applies u s) (node_is t c.node c.is) applied) in
    let below = child_applies i t p.0 s applied p.1 in
    leaf_well path p.0.1 (extended s p.0.0) at below.1
    (extended_well s p.0.0 w (all_at (λ a. AreWell (antecedent_formulas a)) c.node.0.antecedents i p.0.0 (antecedents_well c.node.0 parts.0) c.after)) p.2

-- LINES OF TREES

lines-Leaf : (path : List ℕ) (goal : Option Formula) → node_lines Leaf path goal ≡ record { path = path; kind = None; goal = goal } ∷ []
lines-Leaf path goal =
    ap (λ t. node_lines t path goal) (sym rolls-Leaf) ∙ ap (λ g. g path goal) (fold-roll-Tree (List ℕ → Option Formula → List NodeLine) lines_step LeafF)

lines-Node : (r : Rule) (children : List Tree) (path : List ℕ) (goal : Option Formula) →
    node_lines (Node r children) path goal
    ≡ record { path = path; kind = Some (kind_number r.kind); goal = None } ∷ lines_below 0 (map node_lines children) r.antecedents path goal
lines-Node r children path goal =
    ap (λ t. node_lines t path goal) (sym (rolls-Node r children))
    ∙ ap (λ g. g path goal) (fold-roll-Tree (List ℕ → Option Formula → List NodeLine) lines_step (NodeF r children))

abbrev WellLines : List NodeLine → Type 0
WellLines lines = AreWell (flat_map goals_of lines)

both_lines : (xs ys : List NodeLine) → WellLines xs → WellLines ys → WellLines (xs ++ ys)
both_lines xs ys a b = subst AreWell (sym (flat_map-append goals_of xs ys)) (all_both Well (flat_map goals_of xs) (flat_map goals_of ys) a b)

-- the goals of a tree that applies, and those of a tree without goals
abbrev WellGoals : Tree → Type 0
WellGoals t = (s : Sequent) (path : List ℕ) → Applies t s → WellSequent s → WellLines (node_lines t path (Some s.goal))

abbrev NoGoals : Tree → Type 0
NoGoals t = (path : List ℕ) → WellLines (node_lines t path None)

children_well : (ants rest : List Antecedent) (trees : List Tree) (at : ℕ) (s : Sequent) (path : List ℕ) → WellSequent s →
    ((j : ℕ) → slice_get ants (at + j) ≡ slice_get rest j) → EachApplies trees rest s → AllByRecursion (λ a. AreWell (antecedent_formulas a)) rest →
    AllByRecursion WellGoals trees → WellLines (lines_below at (map node_lines trees) ants path (Some s.goal))
children_well ants rest [] at s path w same each allowed known = tt
children_well ants [] (t ∷ trees) at s path w same each allowed known = absurd each
children_well ants (a ∷ rest) (t ∷ trees) at s path w same each allowed known =
    let here : at ≡ at + 0 = omega arith in
    let e : slice_get ants at ≡ Some a = ap (slice_get ants) here ∙ same 0 in
    let first : WellLines (node_lines t (path ++ at ∷ []) (goal_of (slice_get ants at) (Some s.goal))) =
    subst (λ o. WellLines (node_lines t (path ++ at ∷ []) (goal_of o (Some s.goal)))) (sym e)
    (known.0 (extended s a) (path ++ at ∷ []) each.1 (extended_well s a w allowed.0)) in
    let next : (j : ℕ) → slice_get ants (at + 1 + j) ≡ slice_get rest j =
    λ j. (let there : at + 1 + j ≡ at + suc j = omega arith in ap (slice_get ants) there ∙ same (suc j)) in
    both_lines (node_lines t (path ++ at ∷ []) (goal_of (slice_get ants at) (Some s.goal))) (lines_below (at + 1) (map node_lines trees) ants path (Some s.goal))
    first (children_well ants rest trees (at + 1) s path w next each.2 allowed.1 known.1)

no_goal : (a : Option Antecedent) → goal_of a None ≡ None
no_goal None = refl
no_goal (Some a) = refl

children_bare : (ants : List Antecedent) (trees : List Tree) (at : ℕ) (path : List ℕ) → AllByRecursion NoGoals trees →
    WellLines (lines_below at (map node_lines trees) ants path None)
children_bare ants [] at path known = tt
children_bare ants (t ∷ trees) at path known =
    both_lines (node_lines t (path ++ at ∷ []) (goal_of (slice_get ants at) None)) (lines_below (at + 1) (map node_lines trees) ants path None)
    (subst (λ o. WellLines (node_lines t (path ++ at ∷ []) o)) (sym (no_goal (slice_get ants at))) (known.0 (path ++ at ∷ [])))
    (children_bare ants trees (at + 1) path known.1)

at_leaf : WellGoals Leaf
at_leaf s path applied w = subst WellLines (sym (lines-Leaf path (Some s.goal))) (w.0, tt)

at_node : (r : Rule) (trees : List Tree) → AllByRecursion WellGoals trees → WellGoals (Node r trees)
at_node r trees known s path applied w =
    let parts = applied_rule r trees s applied in
    let from : (j : ℕ) → slice_get r.antecedents (0 + j) ≡ slice_get r.antecedents j = λ j. (let same : 0 + j ≡ j = omega arith in ap (slice_get r.antecedents) same) in
    subst WellLines (sym (lines-Node r trees path (Some s.goal)))
    (children_well r.antecedents r.antecedents trees 0 s path w from parts.2 (antecedents_well r parts.0) known)

goals_well : (t : Tree) → WellGoals t
goals_well = tree_induction WellGoals at_leaf at_node

bare_leaf : NoGoals Leaf
bare_leaf path = subst WellLines (sym (lines-Leaf path None)) tt

bare_node : (r : Rule) (trees : List Tree) → AllByRecursion NoGoals trees → NoGoals (Node r trees)
bare_node r trees known path = subst WellLines (sym (lines-Node r trees path None)) (children_bare r.antecedents trees 0 path known)

bare_well : (t : Tree) → NoGoals t
bare_well = tree_induction NoGoals bare_leaf bare_node

-- OUTCOMES

-- the present sequent of a name
present_well : (table : List Obligation) (name : List ℕ) (q : Sequent) → AreSequents table → IsPresent table name (Some q) → WellSequent q
present_well table name q sequents p =
    let o : Obligation = record { name = name; sequent = q } in
    let all : AreSequents (p.0 ++ o ∷ p.1) = subst AreSequents p.2 sequents in
    let is : IsSequent q = (all_last (λ o. IsSequent o.sequent) p.0 (o ∷ p.1) all).0 in
    (is.goal.0.well, all_so (IsPredicateIn q.env) Well (λ f g. g.0.well) q.hyps is.hyps)

abbrev Right : StepOutcome → Type 0
Right x = AreWell (shown_formulas x.reply)

right : {x : StepOutcome} (z : StepOutcome) → Right z → x ≡ z → Right x
right z r is = subst Right (sym is) r

module _ {test one other C : Type 0} (f : one → C) (g : other → C) where
  where_any : Where test one other → C
  where_any (inl x) = f x.1
  where_any (inr x) = g x.1

  unless_any : Unless test one other → C
  unless_any (inl x) = f x.1
  unless_any (inr x) = g x.1

where_so : {test one other C : Type 0} → (test → one → C) → (other → C) → Where test one other → C
where_so f g (inl x) = f x.0 x.1
where_so f g (inr x) = g x.1

unless_so : {test one other C : Type 0} → (one → C) → (test → other → C) → Unless test one other → C
unless_so f g (inl x) = f x.1
unless_so f g (inr x) = g x.0 x.1

match_any : {X C P : Type 0} {Q : X → Type 0} (found : Option X) → (P → C) → ((v : X) → Q v → C) → MatchOption found P Q → C
match_any None f g x = f x
match_any (Some v) f g x = g v x

match_so : {X C P : Type 0} {Q : X → Type 0} (found : Option X) → (P → C) → ((v : X) → found ≡ Some v → Q v → C) → MatchOption found P Q → C
match_so None f g x = f x
match_so (Some v) f g x = g v refl x

module _ (s : State) (x : StepOutcome) (table : List Obligation) (sequents : AreSequents table) where
  on_obligation : (name : List ℕ) (X : Sequent → Type 0) → ((q : Sequent) → WellSequent q → X q → Right x) → OnObligation s table name X x → Right x
  on_obligation name X f (inl a) = right _ tt a.1
  on_obligation name X f (inr a) = f a.0 (present_well table name a.0 sequents a.1) a.2

  puts : (name : List ℕ) (q : Sequent) (tree : Tree) (path : List ℕ) (made : Result Rule RuleFault) → Puts s name q tree path made x → Right x
  puts name q tree path (Err fault) a = right _ tt a.1
  puts name q tree path (Ok rule) a = where_any (right _ tt) (λ b. right _ tt b.2) a

  steps_at : (name path : List ℕ) (kind : ℕ) (hint : Hint) (q : Sequent) → StepsAt s name path kind hint q x → Right x
  steps_at name path kind hint q =
      unless_any (right _ tt)
      (match_any (leaf_at path (stored_tree s.durable.proofs name) q) (right _ tt)
      (λ leaf a. puts name q (stored_tree s.durable.proofs name) path a.0 a.2))

  shows_at : (name : List ℕ) (path : Option (List ℕ)) (q : Sequent) → WellSequent q → ShowsAt s name path q x → Right x
  shows_at name None q w a = right _ w a.2
  shows_at name (Some path) q w a =
      let tree = stored_tree s.durable.proofs name in
      unless_so (right _ tt)
      (λ applied. match_so (leaf_at path tree q) (right _ tt) (λ leaf is b. right _ (leaf_well path tree q leaf applied w is) b.2)) a

  shows_tree : (name : List ℕ) (q : Sequent) → WellSequent q → ShowsTree s name q x → Right x
  shows_tree name q w a =
      let tree = stored_tree s.durable.proofs name in
      where_so (λ applied. right _ (goals_well tree q [] applied w)) (right _ (bare_well tree [])) a

  ends : (before behind : List Ticket) (k : Ticket) (q : Option Sequent) (a : Attempt) → EndsTicket (record s { out = before ++ behind }) k q a x → Right x
  ends before behind k q NoProof e = right _ tt e.2
  ends before behind k q NoMemory e = right _ tt e.2
  ends before behind k q (Found tree) e = found_any e.2 (right _ tt) (right _ tt) (right _ tt)

  told_well : (question : Question) → Tells s table question x → Right x
  told_well ask.Statuses a = right _ tt a.2
  told_well ask.Faults a = right _ tt a.4
  told_well (ask.Show name path) a = on_obligation name _ (λ q w. shows_at name path q w) a
  told_well (ask.TreeOf name) a = on_obligation name _ (λ q w. shows_tree name q w) a
  told_well (ask.Follows name) a = on_obligation name _ (λ q w b. right _ tt b.2) a
  told_well ask.Digest a = right _ tt a
  told_well ask.Idle a = where_any (right _ tt) (right _ tt) a

  well_beside : (e : Event) → ComesBeside s table e x → Right x
  well_beside (event.Edit name text) a = edit_any a (right _ tt) (right _ tt) (right _ tt) (right _ tt)
  well_beside (event.Delete name) a = unless_any (right _ tt) (right _ tt) a
  well_beside event.Build (inl a) = right _ tt a.2
  well_beside event.Build (inr a) = right _ tt a.4
  well_beside (event.Step name path kind hint) a = on_obligation name _ (λ q w. steps_at name path kind hint q) a
  well_beside (event.Prune name path) a =
      on_obligation name _ (λ q w. match_any (rule_at path (stored_tree s.durable.proofs name)) (right _ tt) (λ rule b. right _ tt b.2)) a
  well_beside (event.Take None) (inl a) = right _ tt a.1
  well_beside (event.Take None) (inr a) = right _ tt a.6
  well_beside (event.Take (Some name)) a = on_obligation name _ (λ q w. where_any (right _ tt) (λ b. right _ tt b.2)) a
  well_beside (event.Finish number attempt) (inl a) = right _ tt a.1
  well_beside (event.Finish number attempt) (inr a) = ends a.0 a.2 a.1 a.5.0 attempt a.5.2
  well_beside event.Purge a = right _ tt a
  well_beside (event.Ask question) a = told_well question a

-- the formulas that a reply shows are well
pub shown_well : AreSequentsOfTables → (s : State) (e : Event) (x : StepOutcome) → Comes s e x → AreWell (shown_formulas x.reply)
shown_well typed s e x a = well_beside s x a.0 (typed (entries s.durable.built) (names_differ s.durable.built) a.0 a.1) e a.2
