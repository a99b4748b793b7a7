-- Trees that grow, one after the other.
use Rattle.std.proofs.Common.{◌≡◌, ◌∙◌, sym, ap, subst, refl, ℕ, zero, suc, ◌+◌, ◌-◌, ◌*◌, ◌≤◌, ◌<◌, List, [], ◌∷◌, ◌++◌, length, map, sum, take, get_or, Option, Some, None, inl, inr, arith}
use Rattle.std.specs.List.{AllByRecursion}
use Rattle.std.proofs.lemmas.List.{take_more}
use Rattle.std.proofs.lemmas.List.Sums.{sum-map, sum_by_push, get_or-le-sum_by}
use Rattle.formula_core.specs.Env.{HasDistinctNames}
use Rattle.proof_steps.specs.Private.{HaveDistinctIdentifiers}
use Rattle.rule_table.specs.declared.rule.Antecedent.{Antecedent}
use Rattle.rule_table.specs.declared.rule.Rule.{Rule}
use Rattle.rule_table.specs.Rules.{IsRule}
use Rattle.sequent_core.specs.declared.prover.Attempt.{Attempt}
use Rattle.sequent_core.specs.declared.prover.Attempt.TheVariants.{Found, NoProof}
use Rattle.sequent_core.specs.declared.sequent.Sequent.{Sequent}
use Rattle.sequent_core.specs.declared.tree.Tree.{Tree, out-Tree, roll-Tree}
use Rattle.sequent_core.specs.declared.tree.Tree.TheOpen.{Tree-F, Leaf as LeafF, Node as NodeF}
use Rattle.sequent_core.specs.declared.tree.Tree.TheVariants.{Leaf, Node}
use Rattle.sequent_core.specs.declared.tree.Tree.TheViews.{roll-out-Tree, rolls-Leaf, rolls-Node}
use Rattle.sequent_core.specs.PrivateChildren.{EachApplies}
use Rattle.sequent_core.specs.Trees.{extended, Applies, Meets, IsFresh, node_count, rule_count}
use Rattle.sequent_core.proofs.Nodes.{leaf_applies, node_applies, applied_rule, node_count-Leaf, node_count-Node, rule_count-Leaf, rule_count-Node}
use Rattle.proof_strategies.specs.declared.room.Room.{Room}
use Rattle.proof_strategies.specs.declared.room.Times.{Times}
use Rattle.proof_strategies.specs.declared.room.Times.TheVariants.{Once, Again}
use Rattle.proof_strategies.specs.Growth.{GrowsInto, no_rule_left, run_at_leaf, at_rule, EachGrowsInto, no_tree, first_tree, LeafBecomes, refused, too_many, no_rule, once, again, used_up}
use Rattle.proof_strategies.specs.Private.{HasGrown, HaveGrown, IsLeft, IsPlacedWithin, IsPut, WasTried}

each_applies : (xs ys : List Tree) (as' bs : List Antecedent) (s : Sequent) → EachApplies xs as' s → EachApplies ys bs s → EachApplies (xs ++ ys) (as' ++ bs) s
each_applies [] ys [] bs s e f = f
each_applies [] ys (a ∷ as') bs s e f = absurd e
each_applies (x ∷ xs) ys [] bs s e f = absurd e
each_applies (x ∷ xs) ys (a ∷ as') bs s e f = (e.0, e.1, each_applies xs ys as' bs s e.2 f)

-- the sum with one more at the end
sum_more : (f : Tree → ℕ) (ts : List Tree) (t : Tree) → sum (map f (ts ++ t ∷ [])) ≡ sum (map f ts) + f t
sum_more f ts t = sum-map f (ts ++ t ∷ []) ∙ sum_by_push f ts t ∙ ap (λ n. n + f t) (sym (sum-map f ts))

-- there are as many trees as antecedents
pub each_length : (trees : List Tree) (ants : List Antecedent) (s : Sequent) → EachApplies trees ants s → length trees ≡ length ants
each_length [] [] s e = refl
each_length [] (a ∷ ants) s e = absurd e
each_length (t ∷ trees) [] s e = absurd e
each_length (t ∷ trees) (a ∷ ants) s e = ap suc (each_length trees ants s e.2)

-- the tree at a place applies below its antecedent
pub each_index : (trees : List Tree) (ants : List Antecedent) (s : Sequent) (i : ℕ) (t : Tree) (a : Antecedent)
    → EachApplies trees ants s → i < length trees → IsFresh s (get_or ants i a) × Applies (get_or trees i t) (extended s (get_or ants i a))
each_index [] ants s i t a e lt = let never : ⊥ = omega (arith, lt) in absurd never
each_index (x ∷ trees) [] s i t a e lt = absurd e
each_index (x ∷ trees) (b ∷ ants) s zero t a e lt = (e.0, e.1)
each_index (x ∷ trees) (b ∷ ants) s (suc i) t a e lt = each_index trees ants s i t a e.2 (omega (arith, lt))

-- one of the trees has at most the nodes of all
pub nodes_at : (ts : List Tree) (i : ℕ) (d : Tree) → i < length ts → node_count (get_or ts i d) ≤ sum (map node_count ts)
nodes_at ts i d lt = subst (λ n. node_count (get_or ts i d) ≤ n) (sym (sum-map node_count ts)) (get_or-le-sum_by node_count ts i d lt)

pub all_at : {X : Type 0} (P : X → Type 0) (xs : List X) (i : ℕ) (d : X) → AllByRecursion P xs → i < length xs → P (get_or xs i d)
all_at P [] i d all lt = let never : ⊥ = omega (arith, lt) in absurd never
all_at P (x ∷ xs) zero d all lt = all.0
all_at P (x ∷ xs) (suc i) d all lt = all_at P xs i d all.1 (omega (arith, lt))

-- each tree has a node
one_in : (x : Tree-F Tree) → 1 ≤ node_count (roll-Tree x)
one_in LeafF = subst (λ t. 1 ≤ node_count t) (sym rolls-Leaf) (omega (arith, node_count-Leaf))
one_in (NodeF r trees) = subst (λ t. 1 ≤ node_count t) (sym (rolls-Node r trees)) (omega (arith, node_count-Node r trees))

pub one_node : (t : Tree) → 1 ≤ node_count t
one_node t = subst (λ u. 1 ≤ node_count u) (roll-out-Tree t) (one_in (out-Tree t))

-- and a rule, unless it is a leaf
rule_in : (x : Tree-F Tree) → (roll-Tree x ≡ Leaf → ⊥) → 1 ≤ rule_count (roll-Tree x)
rule_in LeafF other = absurd (other rolls-Leaf)
rule_in (NodeF r trees) other = subst (λ t. 1 ≤ rule_count t) (sym (rolls-Node r trees)) (omega (arith, rule_count-Node r trees))

pub one_rule : (t : Tree) → (t ≡ Leaf → ⊥) → 1 ≤ rule_count t
one_rule t other = subst (λ u. 1 ≤ rule_count u) (roll-out-Tree t) (rule_in (out-Tree t) (λ e. other (sym (roll-out-Tree t) ∙ e)))

all_taken : {X : Type 0} (xs : List X) (i : ℕ) → length xs ≤ i → take i xs ≡ xs
all_taken [] zero le = refl
all_taken [] (suc i) le = refl
all_taken (x ∷ xs) zero le = let never : ⊥ = omega (arith, le) in absurd never
all_taken (x ∷ xs) (suc i) le = ap (λ ys. x ∷ ys) (all_taken xs i (omega (arith, le)))

-- what the children of a rule in a tree are
module _ (tree : Tree) (r : Rule) (trees : List Tree) (s : Sequent) (is : tree ≡ Node r trees) where
  pub children_apply : Applies tree s → EachApplies trees r.antecedents s × HaveDistinctIdentifiers r.antecedents
  children_apply applied = let parts = applied_rule r trees s (subst (λ t. Applies t s) is applied) in (parts.2, parts.0.sound.distinct)

  pub children_nodes : node_count tree ≡ sum (map node_count trees) + 1
  children_nodes = ap node_count is ∙ node_count-Node r trees

-- the tree at a place, with its antecedent
module _ (trees : List Tree) (ants : List Antecedent) (s : Sequent) (i : ℕ) (t d : Tree) (a b : Antecedent)
    (lt : i < length trees) (at : t ≡ get_or trees i d) (beside : a ≡ get_or ants i b) where
  pub child_at : EachApplies trees ants s → HaveDistinctIdentifiers ants → IsFresh s a × HasDistinctNames a.idents × Applies t (extended s a)
  child_at apply distinct =
      let each = each_index trees ants s i d b apply lt in
      let few : i < length ants = omega (arith, lt, each_length trees ants s apply) in
      let fresh : IsFresh s a = subst (IsFresh s) (sym beside) each.0 in
      let names : HasDistinctNames a.idents = subst (λ x. HasDistinctNames x.idents) (sym beside) (all_at (λ x. HasDistinctNames x.idents) ants i b distinct few) in
      (fresh, names, subst (λ x. Applies t (extended s x)) (sym beside) (subst (λ u. Applies u (extended s (get_or ants i b))) (sym at) each.1))

  pub child_nodes : node_count t ≤ sum (map node_count trees)
  child_nodes = subst (λ u. node_count u ≤ sum (map node_count trees)) (sym at) (nodes_at trees i d lt)

-- what comes of a leaf at which a strategy is tried
module _ (gives : Sequent → ℕ → Attempt → Type 0) (s : Sequent) (before : Room) where
  pub none_left : before.rules ≡ 0 → WasTried gives s before None before
  none_left e = record { grows = λ times. no_rule_left e; nodes = refl; less = omega arith }

  pub was_refused : 1 ≤ before.rules → gives s before.rules NoProof → WasTried gives s before None before
  was_refused some g = record { grows = λ times. run_at_leaf NoProof some g refused; nodes = refl; less = omega arith }

  module _ (tree : Tree) (after : Room) (some : 1 ≤ before.rules) (given : gives s before.rules (Found tree)) where
    was_leaf : tree ≡ Leaf → after ≡ before → IsLeft gives s before after
    was_leaf is same = subst (IsLeft gives s before) (sym same) (record {
      grows = λ times. run_at_leaf (Found Leaf) some (subst (λ t. gives s before.rules (Found t)) is given) no_rule;
      nodes = refl;
      less = omega arith;
    })

    was_large : before.nodes + 1 < node_count tree → after ≡ used_up before → IsLeft gives s before after
    was_large many same = subst (IsLeft gives s before) (sym same) (record {
      grows = λ times. run_at_leaf (Found tree) some given (too_many many);
      nodes = refl;
      less = omega arith;
    })

    pub was_placed : (o : Option Tree) → Applies tree s → rule_count tree ≤ before.rules → node_count tree ≤ 2048 → IsPlacedWithin tree before o after → WasTried gives s before o after
    was_placed None applies rules nodes (inl (is, same)) = was_leaf is same
    was_placed None applies rules nodes (inr (many, same)) = was_large many same
    was_placed (Some t) applies rules nodes (same, gained, fits, room) = subst (λ u. IsPut gives s before u after) (sym same) (record {
      some = some;
      given = given;
      applies = applies;
      within = rules;
      small = nodes;
      gained = gained;
      fits = fits;
      room = room;
    })

module _ (gives : Sequent → ℕ → Attempt → Type 0) (times : Times) where
  -- one tree more, behind the others
  each_grows : {ts us : List Tree} {t u : Tree} {as' : List Antecedent} {s : Sequent} {room mid left : Room} (a : Antecedent)
      → EachGrowsInto gives times ts as' s room us mid → GrowsInto gives times t (extended s a) mid u left
      → EachGrowsInto gives times (ts ++ t ∷ []) (as' ++ a ∷ []) s room (us ++ u ∷ []) left
  each_grows a no_tree g = first_tree g no_tree
  each_grows a (first_tree h rest) g = first_tree h (each_grows a rest g)

  pub grown_none : (s : Sequent) (room : Room) → HaveGrown gives times [] [] s room [] room
  grown_none s room = record { grow = no_tree; apply = tt; rules = omega arith; nodes = refl; less = omega arith }

  module _ (trees : List Tree) (ants : List Antecedent) (s : Sequent) (i : ℕ) (t d : Tree) (a b : Antecedent) (before mid after : Room) (grown : List Tree) (new : Tree)
      (lt : i < length trees) (same : length trees ≡ length ants) (at : t ≡ get_or trees i d) (beside : a ≡ get_or ants i b) where
    pub grown_more : HaveGrown gives times (take i trees) (take i ants) s before grown mid → IsFresh s a → HasGrown gives times t (extended s a) mid new after
        → HaveGrown gives times (take (i + 1) trees) (take (i + 1) ants) s before (grown ++ new ∷ []) after
    grown_more h fresh g =
        let first : take i trees ++ t ∷ [] ≡ take (i + 1) trees = ap (λ y. take i trees ++ y ∷ []) at ∙ sym (take_more trees i d lt) in
        let second : take i ants ++ a ∷ [] ≡ take (i + 1) ants = ap (λ y. take i ants ++ y ∷ []) beside ∙ sym (take_more ants i b (omega (arith, lt, same))) in
        let all : HaveGrown gives times (take i trees ++ t ∷ []) (take i ants ++ a ∷ []) s before (grown ++ new ∷ []) after =
        record {
          grow = each_grows a h.grow g.grows;
          apply = each_applies grown (new ∷ []) (take i ants) (a ∷ []) s h.apply (fresh, g.applies, tt);
          rules = omega (arith, h.rules, g.rules, sum_more rule_count grown new, sum_more rule_count (take i trees) t);
          nodes = omega (arith, h.nodes, g.nodes, sum_more node_count grown new, sum_more node_count (take i trees) t);
          less = omega (arith, h.less, g.less);
        } in
        subst (λ ts. HaveGrown gives times ts (take (i + 1) ants) s before (grown ++ new ∷ []) after) first
        (subst (λ xs. HaveGrown gives times (take i trees ++ t ∷ []) xs s before (grown ++ new ∷ []) after) second all)

  -- all of them
  pub grown_all : (trees : List Tree) (ants : List Antecedent) (s : Sequent) (i : ℕ) (before after : Room) (grown : List Tree)
      → length trees ≤ i → EachApplies trees ants s → HaveGrown gives times (take i trees) (take i ants) s before grown after → HaveGrown gives times trees ants s before grown after
  grown_all trees ants s i before after grown far apply h =
      let same = each_length trees ants s apply in
      subst (λ xs. HaveGrown gives times trees xs s before grown after) (all_taken ants i (omega (arith, far, same)))
      (subst (λ ts. HaveGrown gives times ts (take i ants) s before grown after) (all_taken trees i far) h)

  -- a rule over trees that have grown
  pub grown_node : (tree : Tree) (r : Rule) (trees grown : List Tree) (s : Sequent) (before after : Room) → tree ≡ Node r trees → Applies tree s → HaveGrown gives times trees r.antecedents s before grown after
      → HasGrown gives times tree s before (Node r grown) after
  grown_node tree r trees grown s before after at applied h =
      let is : IsRule r × Meets r s × EachApplies trees r.antecedents s = applied_rule r trees s (subst (λ t. Applies t s) at applied) in
      subst (λ t. HasGrown gives times t s before (Node r grown) after) (sym at) (record {
        grows = at_rule r h.grow;
        applies = node_applies r grown s is.0 is.1 h.apply;
        rules = omega (arith, h.rules, rule_count-Node r grown, rule_count-Node r trees);
        nodes = omega (arith, h.nodes, node_count-Node r grown, node_count-Node r trees);
        less = h.less;
      })

  -- a leaf that stays
  pub leaf_stays : (s : Sequent) (before after : Room) → IsLeft gives s before after → HasGrown gives times Leaf s before Leaf after
  leaf_stays s before after h = record {
    grows = h.grows times;
    applies = leaf_applies s;
    rules = omega (arith, h.less);
    nodes = ap (λ n. node_count Leaf + n) h.nodes;
    less = h.less;
  }

  module _ (s : Sequent) (before mid : Room) (tree : Tree) (is : IsPut gives s before tree mid) where
    rules_left : mid.rules ≡ before.rules - rule_count tree
    rules_left = ap (λ r. r.rules) is.room

    nodes_left : mid.nodes ≡ before.nodes + 1 - node_count tree
    nodes_left = ap (λ r. r.nodes) is.room

    -- what is put in is left
    pub leaf_put : times ≡ Once → HasGrown gives times Leaf s before tree mid
    leaf_put e = record {
      grows = run_at_leaf (Found tree) is.some is.given (subst (λ r. LeafBecomes gives times (Found tree) s before tree r) (sym is.room) (once e is.fits));
      applies = is.applies;
      rules = omega (arith, rules_left, is.within, rule_count-Leaf);
      nodes = omega (arith, nodes_left, is.fits, node_count-Leaf);
      less = omega (arith, rules_left);
    }

    -- the measure of what is still to be done falls
    pub less_to_do : mid.rules * 8192 + 3 * node_count tree < before.rules * 8192 + 2
    less_to_do = omega (arith, is.gained, rules_left, is.within, is.small)

    pub fewer_left : mid.rules ≤ before.rules
    fewer_left = omega (arith, rules_left)

    -- or it grows too
    pub leaf_grown : (new : Tree) (after : Room) → times ≡ Again → HasGrown gives times tree s mid new after → HasGrown gives times Leaf s before new after
    leaf_grown new after e h = record {
      grows = run_at_leaf (Found tree) is.some is.given (again e is.gained is.fits (subst (λ r. GrowsInto gives times tree s r new after) is.room h.grows));
      applies = h.applies;
      rules = omega (arith, h.rules, rules_left, is.within, rule_count-Leaf);
      nodes = omega (arith, h.nodes, nodes_left, is.fits, node_count-Leaf);
      less = omega (arith, h.less, rules_left);
    }
