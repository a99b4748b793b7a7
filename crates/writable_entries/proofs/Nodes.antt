-- The rules of a tree, by its root and its children.
use Rattle.std.proofs.Common.{◌≡◌, ◌∙◌, sym, subst, refl, ℕ, ◌<◌, ◌^◌, Bool, true, false, not, List, [], ◌∷◌, ◌++◌, length, map}
use Rattle.std.specs.Prelude.{IsTrue, ◌↔◌}
use Rattle.std.specs.List.{AllByRecursion}
use Rattle.std.proofs.lemmas.List.{length-map}
use Rattle.formula_core.specs.Formulas.{joined}
use Rattle.rule_table.specs.declared.rule.Rule.{Rule}
use Rattle.sequent_core.specs.declared.tree.Tree.{Tree, roll-Tree}
use Rattle.sequent_core.specs.declared.tree.Tree.TheOpen.{Tree-F, Leaf as LeafF, Node as NodeF}
use Rattle.sequent_core.specs.declared.tree.Tree.TheVariants.{Leaf, Node}
use Rattle.sequent_core.specs.declared.tree.Tree.TheViews.{rolls-Leaf, rolls-Node}
use Rattle.sequent_core.specs.declared.tree.Tree.TheFolds.{fold-roll-Tree, map-Tree}
use Rattle.proof_entries.specs.declared.entry.Entry.{Entry}
use Rattle.proof_entries.specs.declared.entry.Entry.TheVariants.{Purge}
use Rattle.proof_codec.specs.Entries.{IsWritable}
use Rattle.proof_codec.specs.Parts.{IsAny}
use Rattle.proof_codec.specs.Rules.{IsFitRule}
use Rattle.proof_codec.specs.ProofTrees.{rules_in, rules_step, HasChildren}
use Rattle.proof_codec.specs.Private.{HasFitRules}

rules_at : (x : Tree-F Tree) → rules_in (roll-Tree x) ≡ rules_step (map-Tree Tree (List (Rule × ℕ)) rules_in x)
rules_at x = fold-roll-Tree (List (Rule × ℕ)) rules_step x

module _ {A : Type 0} (P : A → Type 0) where
  all_of_both : (xs ys : List A) → AllByRecursion P (xs ++ ys) → AllByRecursion P xs × AllByRecursion P ys
  all_of_both [] ys all = (tt, all)
  all_of_both (x ∷ xs) ys all = let rest = all_of_both xs ys all.1 in ((all.0, rest.0), rest.1)

  both_all : (xs ys : List A) → AllByRecursion P xs → AllByRecursion P ys → AllByRecursion P (xs ++ ys)
  both_all [] ys one two = two
  both_all (x ∷ xs) ys one two = (one.0, both_all xs ys one.1 two)

each_tree : (ts : List Tree) → AllByRecursion (HasChildren IsFitRule) (joined (map rules_in ts)) → AllByRecursion HasFitRules ts
each_tree [] all = tt
each_tree (t ∷ ts) all = let both = all_of_both (HasChildren IsFitRule) (rules_in t) (joined (map rules_in ts)) all in (both.0, each_tree ts both.1)

all_trees : (ts : List Tree) → AllByRecursion HasFitRules ts → AllByRecursion (HasChildren IsFitRule) (joined (map rules_in ts))
all_trees [] all = tt
all_trees (t ∷ ts) all = both_all (HasChildren IsFitRule) (rules_in t) (joined (map rules_in ts)) all.0 (all_trees ts all.1)

-- a tree has fit rules where its root is fit and its children have
node_fits : (r : Rule) (children : List Tree) → HasChildren IsFitRule (r, length children) → AllByRecursion HasFitRules children → HasFitRules (Node r children)
node_fits r children root all =
    subst (λ t. AllByRecursion (HasChildren IsFitRule) (rules_in t)) (rolls-Node r children)
    (subst (AllByRecursion (HasChildren IsFitRule)) (sym (rules_at (NodeF r children))) ((root.0, length-map children rules_in ∙ root.1), all_trees children all))

parts_fit : (r : Rule) (children : List Tree) → HasFitRules (Node r children) → HasChildren IsFitRule (r, length children) × AllByRecursion HasFitRules children
parts_fit r children fit =
    let at = subst (λ t. AllByRecursion (HasChildren IsFitRule) (rules_in t)) (sym (rolls-Node r children)) fit in
    let parts = subst (AllByRecursion (HasChildren IsFitRule)) (rules_at (NodeF r children)) at in
    ((parts.0.0, sym (length-map children rules_in) ∙ parts.0.1), each_tree children parts.1)

pub leaf_fits : (tree : Tree) → tree ≡ Leaf → HasFitRules tree
leaf_fits tree is = subst HasFitRules (sym is) (subst (λ t. AllByRecursion (HasChildren IsFitRule) (rules_in t)) rolls-Leaf (subst (AllByRecursion (HasChildren IsFitRule)) (sym (rules_at LeafF)) tt))

-- where the root is fit, the children decide
pub children_decide : (tree : Tree) (r : Rule) (children xs : List Tree) (root rest : Bool) → tree ≡ Node r children → xs ≡ children → (IsTrue root ↔ HasChildren IsFitRule (r, length xs)) → IsTrue root
    → (IsTrue rest ↔ AllByRecursion HasFitRules xs) → (IsTrue rest ↔ HasFitRules tree)
children_decide tree r children xs root rest is same to_root holds to_rest = (
  λ all. subst HasFitRules (sym is) (node_fits r children (subst (λ ys. HasChildren IsFitRule (r, length ys)) same (to_root.0 holds)) (subst (AllByRecursion HasFitRules) same (to_rest.0 all))),
  λ fit. to_rest.1 (subst (AllByRecursion HasFitRules) (sym same) (parts_fit r children (subst HasFitRules is fit)).1),
)

-- where it isn't, the tree isn't
pub root_decides : (tree : Tree) (r : Rule) (children xs : List Tree) (root : Bool) → tree ≡ Node r children → xs ≡ children → (IsTrue root ↔ HasChildren IsFitRule (r, length xs)) → root ≡ false → (IsTrue root ↔ HasFitRules tree)
root_decides tree r children xs root is same to_root fails = (
  λ e. absurd (let both : false ≡ true = sym fails ∙ e in cc),
  λ fit. to_root.1 (subst (λ ys. HasChildren IsFitRule (r, length ys)) (sym same) (parts_fit r children (subst HasFitRules is fit)).0),
)

-- a name is unprimed where it isn't primed
pub unprimed : (primed plain : Bool) → (IsTrue primed ↔ (plain ≡ false)) → (IsTrue (not primed) ↔ IsTrue plain)
unprimed true true to = absurd (let e : true ≡ false = to.0 refl in cc)
unprimed true false to = (λ e. e, λ e. e)
unprimed false true to = (λ e. e, λ e. e)
unprimed false false to = absurd (let e : false ≡ true = to.1 refl in cc)

any_names : (names : List (List ℕ)) → AllByRecursion IsAny names
any_names [] = tt
any_names (name ∷ names) = (tt, any_names names)

-- a purge is writable where its names are few
pub purge_decides : (entry : Entry) (names xs : List (List ℕ)) (few : Bool) → entry ≡ Purge names → xs ≡ names → (IsTrue few ↔ (length xs < 2 ^ 32)) → (IsTrue few ↔ IsWritable entry)
purge_decides entry names xs few is same to = (
  λ e. subst IsWritable (sym is) (subst (λ ys. length ys < 2 ^ 32) same (to.0 e), any_names names),
  λ w. to.1 (subst (λ ys. length ys < 2 ^ 32) (sym same) (subst IsWritable is w).0),
)
