-- What begins with the first byte of a tree.
use Rattle.std.proofs.Common.{◌≡◌, ◌∙◌, sym, ap, subst, refl, ℕ, ◌-◌, ◌≤◌, ◌<◌, ◌^◌, List, [], ◌∷◌, ◌++◌, length, map, arith, append_assoc}
use Rattle.std.specs.List.{flat_map, AllByRecursion}
use Rattle.std.proofs.lemmas.List.{length-map}
use Rattle.std.proofs.lemmas.List.Concat.{flat_map-cons}
use Rattle.formula_core.specs.Formulas.{joined}
use Rattle.formula_core.specs.Sizes.{greatest}
use Rattle.rule_table.specs.declared.rule.Rule.{Rule}
use Rattle.sequent_core.specs.declared.tree.Tree.{Tree, out-Tree, roll-Tree}
use Rattle.sequent_core.specs.declared.tree.Tree.TheOpen.{Tree-F, Leaf as LeafF, Node as NodeF}
use Rattle.sequent_core.specs.declared.tree.Tree.TheVariants.{Leaf, Node}
use Rattle.sequent_core.specs.declared.tree.Tree.TheViews.{roll-out-Tree, rolls-Leaf, rolls-Node}
use Rattle.sequent_core.specs.declared.tree.Tree.TheFolds.{map-Tree, fold-roll-Tree}
use Rattle.proof_codec.specs.declared.reader.ReadFault.{ReadFault}
use Rattle.proof_codec.specs.declared.reader.ReadFault.TheVariants as faults
use Rattle.proof_codec.specs.Forms.{BeginsWith, BeginsNone}
use Rattle.proof_codec.specs.Numbers.{IsByte, byte, FitsU32, number_bytes}
use Rattle.proof_codec.specs.Parts.{pair_bytes, IsList, list_bytes, IsPair}
use Rattle.proof_codec.specs.Rules.{rule_bytes, IsGoodRule}
use Rattle.proof_codec.specs.ProofTrees.{tree_bytes_step, tree_bytes, rules_step, rules_in, HasChildren}
use Rattle.proof_codec.specs.Private.{AreChildren, IsReadAs, Misses, AreItems, items_bytes, tree_height_step, tree_height, IsTreeWithin}
use Rattle.proof_codec.proofs.Items.{all_of_both, both_all, list_read, other_count}
use Rattle.proof_codec.proofs.Narrow.{narrow_read, narrow_none}
use Rattle.proof_codec.proofs.Tags.{same_behind}

-- a rule with a child for each antecedent, none higher than this
abbrev pub IsNodeWithin : ℕ → Rule × List Tree → Type 0
IsNodeWithin depth node = IsPair IsGoodRule (IsList (IsTreeWithin depth)) node × (length node.1 ≡ length node.0.antecedents)

abbrev pub node_bytes : Rule × List Tree → List ℕ
node_bytes = pair_bytes rule_bytes (list_bytes tree_bytes)

abbrev AllGood : List (Rule × ℕ) → Type 0
AllGood = AllByRecursion (HasChildren IsGoodRule)

-- the form of a tree of at most this height, by its variant, and its bytes
abbrev IsTreeAt : ℕ → Tree-F Tree → Type 0
IsTreeAt depth LeafF = 1 ≤ depth
IsTreeAt depth (NodeF r children) = (1 ≤ depth) × IsNodeWithin (depth - 1) (r, children)

abbrev bytes_by : Tree-F Tree → List ℕ
bytes_by LeafF = 0 ∷ []
bytes_by (NodeF r children) = 1 ∷ node_bytes (r, children)

joined_is_flat : (ts : List Tree) → joined (map tree_bytes ts) ≡ flat_map tree_bytes ts
joined_is_flat [] = refl
joined_is_flat (t ∷ ts) = ap (λ b. tree_bytes t ++ b) (joined_is_flat ts) ∙ sym (flat_map-cons tree_bytes t ts)

list_is : (ts : List Tree) → number_bytes (length (map tree_bytes ts)) ++ joined (map tree_bytes ts) ≡ list_bytes tree_bytes ts
list_is ts = ap (λ n. number_bytes n ++ joined (map tree_bytes ts)) (length-map ts tree_bytes) ∙ ap (λ b. number_bytes (length ts) ++ b) (joined_is_flat ts)

pub bytes_at : (x : Tree-F Tree) → tree_bytes (roll-Tree x) ≡ bytes_by x
bytes_at LeafF = fold-roll-Tree (List ℕ) tree_bytes_step LeafF
bytes_at (NodeF r children) = fold-roll-Tree (List ℕ) tree_bytes_step (NodeF r children) ∙ ap (λ b. 1 ∷ (rule_bytes r ++ b)) (list_is children)

pub rules_at : (x : Tree-F Tree) → rules_in (roll-Tree x) ≡ rules_step (map-Tree Tree (List (Rule × ℕ)) rules_in x)
rules_at x = fold-roll-Tree (List (Rule × ℕ)) rules_step x

pub height_at : (x : Tree-F Tree) → tree_height (roll-Tree x) ≡ tree_height_step (map-Tree Tree ℕ tree_height x)
height_at x = fold-roll-Tree ℕ tree_height_step x

-- a fact of all rules in some trees
pub each_tree : (P : Rule × ℕ → Type 0) (ts : List Tree) → AllByRecursion P (joined (map rules_in ts)) → AllByRecursion (λ t. AllByRecursion P (rules_in t)) ts
each_tree P [] all = tt
each_tree P (t ∷ ts) all = let both = all_of_both P (rules_in t) (joined (map rules_in ts)) all in (both.0, each_tree P ts both.1)

pub all_trees : (P : Rule × ℕ → Type 0) (ts : List Tree) → AllByRecursion (λ t. AllByRecursion P (rules_in t)) ts → AllByRecursion P (joined (map rules_in ts))
all_trees P [] all = tt
all_trees P (t ∷ ts) all = both_all P (rules_in t) (joined (map rules_in ts)) all.0 (all_trees P ts all.1)

trees_are : (depth : ℕ) (ts : List Tree) → AllByRecursion (λ t. AllGood (rules_in t)) ts → greatest (map tree_height ts) ≤ depth → AllByRecursion (IsTreeWithin depth) ts
trees_are depth [] all low = tt
trees_are depth (t ∷ ts) all low = (record { rules = all.0; low = omega (arith, low) }, trees_are depth ts all.1 (omega (arith, low)))

are_trees : (depth : ℕ) (ts : List Tree) → AllByRecursion (IsTreeWithin depth) ts → AllByRecursion (λ t. AllGood (rules_in t)) ts × (greatest (map tree_height ts) ≤ depth)
are_trees depth [] all = (tt, omega arith)
are_trees depth (t ∷ ts) all = let rest = are_trees depth ts all.1 in ((all.0.rules, rest.0), omega (arith, all.0.low, rest.1))

-- as many children as antecedents, whose number has four bytes
few_children : (r : Rule) (children : List Tree) → HasChildren IsGoodRule (r, length children) → length children < 2 ^ 32
few_children r children has = subst (λ n. n < 2 ^ 32) (sym has.1) has.0.1.1.1.1.0

opened : (depth : ℕ) (x : Tree-F Tree) → AllGood (rules_step (map-Tree Tree (List (Rule × ℕ)) rules_in x)) → tree_height_step (map-Tree Tree ℕ tree_height x) ≤ depth → IsTreeAt depth x
opened depth LeafF all low = low
opened depth (NodeF r children) all low =
    let has : HasChildren IsGoodRule (r, length children) = (all.0.0, sym (length-map children rules_in) ∙ all.0.1) in
    (omega (arith, low), ((has.0, (few_children r children has, trees_are (depth - 1) children (each_tree (HasChildren IsGoodRule) children all.1) (omega (arith, low)))), has.1))

closed : (depth : ℕ) (x : Tree-F Tree) → IsTreeAt depth x → AllGood (rules_step (map-Tree Tree (List (Rule × ℕ)) rules_in x)) × (tree_height_step (map-Tree Tree ℕ tree_height x) ≤ depth)
closed depth LeafF is = (tt, is)
closed depth (NodeF r children) is =
    let ts = are_trees (depth - 1) children is.1.0.1.1 in
    (((is.1.0.0, length-map children rules_in ∙ is.1.1), all_trees (HasChildren IsGoodRule) children ts.0), omega (arith, ts.1, is.0))

is_within : (depth : ℕ) (x : Tree-F Tree) → IsTreeAt depth x → IsTreeWithin depth (roll-Tree x)
is_within depth x is = let c = closed depth x is in record { rules = subst AllGood (sym (rules_at x)) c.0; low = subst (λ n. n ≤ depth) (sym (height_at x)) c.1 }

record Stands (depth : ℕ) (bytes : List ℕ) (y : Tree) (others : List ℕ) : Type 0 where
  form : Tree-F Tree
  is : roll-Tree form ≡ y
  good : IsTreeAt depth form
  split : bytes ≡ bytes_by form ++ others

stands : (depth : ℕ) (bytes : List ℕ) (y : Tree) (others : List ℕ) → BeginsWith (IsTreeWithin depth) tree_bytes bytes y others → Stands depth bytes y others
stands depth bytes y others begins =
    let x = out-Tree y in
    let is : roll-Tree x ≡ y = roll-out-Tree y in
    record {
      form = x;
      is = is;
      good = opened depth x (subst AllGood (rules_at x) (subst (λ t. AllGood (rules_in t)) (sym is) begins.good.rules)) (subst (λ n. n ≤ depth) (height_at x) (subst (λ t. tree_height t ≤ depth) (sym is) begins.good.low));
      split = begins.split ∙ ap (λ t. tree_bytes t ++ others) (sym is) ∙ ap (λ bytes. bytes ++ others) (bytes_at x);
    }

made : (depth : ℕ) (bytes : List ℕ) (x : Tree-F Tree) (y : Tree) (new : List ℕ) → roll-Tree x ≡ y → IsTreeAt depth x → bytes ≡ bytes_by x ++ new
    → ((z : Tree-F Tree) (others : List ℕ) → IsTreeAt depth z → bytes ≡ bytes_by z ++ others → (z ≡ x) × (others ≡ new))
    → IsReadAs (IsTreeWithin depth) tree_bytes bytes y new
made depth bytes x y new is good split only = subst (λ t. IsReadAs (IsTreeWithin depth) tree_bytes bytes t new) is (record {
  here = record { good = is_within depth x good; split = split ∙ ap (λ b. b ++ new) (sym (bytes_at x)) };
  only = λ t others begins.
      let s = stands depth bytes t others begins in
      let same = only s.form others s.good s.split in
      (sym s.is ∙ ap roll-Tree same.0, same.1);
})

nothing : (depth : ℕ) (bytes : List ℕ) → ((z : Tree-F Tree) (others : List ℕ) → IsTreeAt depth z → bytes ≡ bytes_by z ++ others → ⊥) → BeginsNone (IsTreeWithin depth) tree_bytes bytes
nothing depth bytes none = record { none = λ t others begins. let s = stands depth bytes t others begins in none s.form others s.good s.split }

module _ (depth : ℕ) (some : 1 ≤ depth) (old mid new : List ℕ) where
  pub leaf_read : IsReadAs IsByte byte old 0 mid → IsReadAs (IsTreeWithin depth) tree_bytes old Leaf mid
  leaf_read first = made depth old LeafF Leaf mid rolls-Leaf some first.here.split only
    where
      only : (z : Tree-F Tree) (others : List ℕ) → IsTreeAt depth z → old ≡ bytes_by z ++ others → (z ≡ LeafF) × (others ≡ mid)
      only LeafF others good split = (refl, same_behind 0 _ _ (sym split ∙ first.here.split))
      only (NodeF r children) others good split = absurd (let e : 1 ∷ (node_bytes (r, children) ++ others) ≡ 0 ∷ mid = sym split ∙ first.here.split in cc)

  -- what stands behind the tag of a rule
  behind_node : IsReadAs IsByte byte old 1 mid → (z : Tree-F Tree) (others : List ℕ) → IsTreeAt depth z → old ≡ bytes_by z ++ others
      → (node : Rule × List Tree) × (z ≡ NodeF node.0 node.1) × IsNodeWithin (depth - 1) node × (mid ≡ node_bytes node ++ others)
  behind_node first LeafF others good split = absurd (let e : 0 ∷ others ≡ 1 ∷ mid = sym split ∙ first.here.split in cc)
  behind_node first (NodeF r children) others good split = ((r, children), refl, good.1, same_behind 1 _ _ (sym first.here.split ∙ split))

  pub node_read : (r : Rule) (children : List Tree) → IsReadAs IsByte byte old 1 mid → IsReadAs (IsNodeWithin (depth - 1)) node_bytes mid (r, children) new → IsReadAs (IsTreeWithin depth) tree_bytes old (Node r children) new
  node_read r children first read =
      made depth old (NodeF r children) (Node r children) new (rolls-Node r children) (some, read.here.good) (first.here.split ∙ ap (λ b. 1 ∷ b) read.here.split)
      (λ z others good split.
      let w = behind_node first z others good split in
      let same = read.only w.0 others (record { good = w.2; split = w.3 }) in
      (w.1 ∙ ap (λ (node : Rule × List Tree). let form : Tree-F Tree = NodeF node.0 node.1 in form) same.0, same.1))

  pub no_node : (fault : ReadFault) → IsReadAs IsByte byte old 1 mid → Misses (IsNodeWithin (depth - 1)) node_bytes mid fault → Misses (IsTreeWithin depth) tree_bytes old fault
  no_node faults.OutOfMemory first bad = tt
  no_node faults.Bad first bad = nothing depth old (λ z others good split. let w = behind_node first z others good split in bad.none w.0 others (record { good = w.2; split = w.3 }))

  pub no_tree : (tag : ℕ) → IsReadAs IsByte byte old tag mid → 2 ≤ tag → BeginsNone (IsTreeWithin depth) tree_bytes old
  no_tree tag first large = nothing depth old none
    where
      other_tag : (n : ℕ) (bytes : List ℕ) → n < 2 → old ≡ n ∷ bytes → ⊥
      other_tag n bytes small is = let e : n ≡ tag = (let k : n ∷ bytes ≡ tag ∷ mid = sym is ∙ first.here.split in cc) in omega arith

      none : (z : Tree-F Tree) (others : List ℕ) → IsTreeAt depth z → old ≡ bytes_by z ++ others → ⊥
      none LeafF others good split = other_tag 0 others (omega arith) split
      none (NodeF r children) others good split = other_tag 1 (node_bytes (r, children) ++ others) (omega arith) split

pub no_depth : (old : List ℕ) → BeginsNone (IsTreeWithin 0) tree_bytes old
no_depth old = nothing 0 old none
  where
    none : (z : Tree-F Tree) (others : List ℕ) → IsTreeAt 0 z → old ≡ bytes_by z ++ others → ⊥
    none LeafF others good split = omega (arith, good)
    none (NodeF r children) others good split = omega (arith, good.0)

pub no_tag : (depth : ℕ) (fault : ReadFault) (old : List ℕ) → Misses IsByte byte old fault → Misses (IsTreeWithin depth) tree_bytes old fault
no_tag depth faults.OutOfMemory old bad = tt
no_tag depth faults.Bad old bad = nothing depth old none
  where
    none : (z : Tree-F Tree) (others : List ℕ) → IsTreeAt depth z → old ≡ bytes_by z ++ others → ⊥
    none LeafF others good split = bad.none 0 others (record { good = omega arith; split = split })
    none (NodeF r children) others good split = bad.none 1 (node_bytes (r, children) ++ others) (record { good = omega arith; split = split })

-- a rule, and a child for each of its antecedents behind it
module _ (depth : ℕ) (old mid new : List ℕ) (r : Rule) (first : IsReadAs IsGoodRule rule_bytes old r mid) where
  abbrev AreOf : List Tree → Type 0
  AreOf = AreChildren (length r.antecedents) depth

  behind_rule : (z : Rule × List Tree) (others : List ℕ) → IsNodeWithin depth z → old ≡ node_bytes z ++ others → (z.0 ≡ r) × BeginsWith AreOf (list_bytes tree_bytes) mid z.1 others
  behind_rule z others good split =
      let same = first.only z.0 (list_bytes tree_bytes z.1 ++ others) (record { good = good.0.0; split = split ∙ append_assoc (rule_bytes z.0) (list_bytes tree_bytes z.1) others }) in
      (same.0, record { good = (good.0.1, good.1 ∙ ap (λ (q : Rule). length q.antecedents) same.0); split = sym same.1 })

  node_there : (children : List Tree) → IsReadAs AreOf (list_bytes tree_bytes) mid children new → IsReadAs (IsNodeWithin depth) node_bytes old (r, children) new
  node_there children second = record {
    here = record {
      good = ((first.here.good, second.here.good.0), second.here.good.1);
      split = first.here.split ∙ ap (λ b. rule_bytes r ++ b) second.here.split ∙ sym (append_assoc (rule_bytes r) (list_bytes tree_bytes children) new);
    };
    only = λ z others begins.
        let b = behind_rule z others begins.good begins.split in
        let same = second.only z.1 others b.1 in
        (ap (λ (q : Rule). (q, z.1)) b.0 ∙ ap (λ (ts : List Tree). (r, ts)) same.0, same.1);
  }

  no_children : (fault : ReadFault) → Misses AreOf (list_bytes tree_bytes) mid fault → Misses (IsNodeWithin depth) node_bytes old fault
  no_children faults.OutOfMemory bad = tt
  no_children faults.Bad bad = record { none = λ z others begins. bad.none z.1 others (behind_rule z others begins.good begins.split).1 }

  pub node_of : (count : ℕ) (children : List Tree) → count ≡ length r.antecedents → IsReadAs (AreChildren count depth) (list_bytes tree_bytes) mid children new → IsReadAs (IsNodeWithin depth) node_bytes old (r, children) new
  node_of count children is second = node_there children (subst (λ n. IsReadAs (AreChildren n depth) (list_bytes tree_bytes) mid children new) is second)

  pub no_children_of : (count : ℕ) (fault : ReadFault) → count ≡ length r.antecedents → Misses (AreChildren count depth) (list_bytes tree_bytes) mid fault → Misses (IsNodeWithin depth) node_bytes old fault
  no_children_of count fault is bad = no_children fault (subst (λ n. Misses (AreChildren n depth) (list_bytes tree_bytes) mid fault) is bad)

pub no_rule_there : (depth : ℕ) (fault : ReadFault) (old : List ℕ) → Misses IsGoodRule rule_bytes old fault → Misses (IsNodeWithin depth) node_bytes old fault
no_rule_there depth faults.OutOfMemory old bad = tt
no_rule_there depth faults.Bad old bad = record {
  none = λ z others begins. bad.none z.0 (list_bytes tree_bytes z.1 ++ others) (record { good = begins.good.0.0; split = begins.split ∙ append_assoc (rule_bytes z.0) (list_bytes tree_bytes z.1) others });
}

-- trees of another number aren't there
pub other_number : (depth count wanted : ℕ) (old mid : List ℕ) → IsReadAs FitsU32 number_bytes old count mid → (count ≡ wanted → ⊥) → BeginsNone (AreChildren wanted depth) (list_bytes tree_bytes) old
other_number depth count wanted old mid counted never = record {
  none = λ ys others begins. other_count (IsTreeWithin depth) tree_bytes old mid count wanted counted never ys others begins.good.0 begins.good.1 begins.split;
}

pub children_read : (depth count wanted : ℕ) (old mid new : List ℕ) (xs : List Tree) → count ≡ wanted → IsReadAs FitsU32 number_bytes old count mid → IsReadAs (AreItems (IsTreeWithin depth) count) (items_bytes tree_bytes) mid xs new
    → IsReadAs (AreChildren wanted depth) (list_bytes tree_bytes) old xs new
children_read depth count wanted old mid new xs is counted many =
    narrow_read (IsList (IsTreeWithin depth)) (AreChildren wanted depth) (list_bytes tree_bytes) (λ ys good. good.0) old new xs
    (list_read (IsTreeWithin depth) tree_bytes old mid new count xs counted many)
    ((list_read (IsTreeWithin depth) tree_bytes old mid new count xs counted many).here.good, many.here.good.0 ∙ is)

pub no_children_there : (depth wanted : ℕ) (fault : ReadFault) (old : List ℕ) → Misses (IsList (IsTreeWithin depth)) (list_bytes tree_bytes) old fault → Misses (AreChildren wanted depth) (list_bytes tree_bytes) old fault
no_children_there depth wanted fault old bad = narrow_none (IsList (IsTreeWithin depth)) (AreChildren wanted depth) (list_bytes tree_bytes) (λ ys good. good.0) old old fault bad
