-- Rules and proof trees are read in one way.
use Rattle.std.proofs.Common.{◌≡◌, ◌∙◌, refl, sym, ap, subst, ℕ, ℤ, ◌<◌, ◌^◌, List, [], ◌∷◌, ◌++◌, length, map, Option, Some, arith}
use Rattle.std.specs.List.{AllByRecursion}
use Rattle.std.proofs.lemmas.List.{length-map}
use Rattle.formula_core.specs.declared.Ty.{Ty}
use Rattle.formula_core.specs.declared.Formula.{Formula}
use Rattle.rule_table.specs.declared.kind.RuleKind.{RuleKind}
use Rattle.rule_table.specs.declared.kind.RuleKind.TheVariants as kind
use Rattle.rule_table.specs.declared.rule.Antecedent.{Antecedent}
use Rattle.rule_table.specs.declared.rule.Rule.{Rule}
use Rattle.rule_table.specs.Kinds.{kind_number}
use Rattle.sequent_core.specs.declared.tree.Tree.{Tree, out-Tree, roll-Tree}
use Rattle.sequent_core.specs.declared.tree.Tree.TheOpen.{Tree-F, Leaf as LeafF, Node as NodeF}
use Rattle.sequent_core.specs.declared.tree.Tree.TheViews.{roll-out-Tree}
use Rattle.sequent_core.specs.declared.tree.Tree.TheFolds.{map-Tree, ind-Tree}
use Rattle.proof_codec.specs.Names.{IsGoodName}
use Rattle.proof_codec.specs.Numbers.{IsByte, byte, FitsU32, number_bytes, IsInteger, integer, text_bytes}
use Rattle.proof_codec.specs.Parts.{IsPair, pair_bytes, IsOption, option_bytes, IsList, list_bytes}
use Rattle.proof_codec.specs.Types.{type_bytes, IsGoodType}
use Rattle.proof_codec.specs.Formulas.{formula_bytes, IsGoodFormula}
use Rattle.proof_codec.specs.Rules.{kind_bytes, IsGoodKind, identifier_bytes, IsGoodIdentifier, antecedent_parts, antecedent_bytes, rule_parts, rule_bytes, IsGoodRule}
use Rattle.proof_codec.specs.ProofTrees.{tree_bytes, rules_step, rules_in, HasChildren, IsWritableTree}
use Rattle.proof_codec.specs.Private.{plain_kind_at, IsReadAs, IsGoodAntecedent, HasGoodRules}
use Rattle.proof_codec.proofs.Branches.{bytes_at, rules_at, each_tree}
use Rattle.proof_codec.proofs.KindForms.{all_read, exists_read, goal_read, hyp_read, linear_read, plain_read}
use Rattle.proof_codec.proofs.Tags.{same_behind}
use Rattle.store_laws.proofs.Readings.{IsOnly, Reads, as_read, from_read, narrow_reads, byte_reads, number_reads, integer_reads, name_reads, pair_only, pair_reads, option_reads, list_only, list_reads}
use Rattle.store_laws.proofs.Values.{type_reads, formula_reads}

-- RULES

abbrev IsFormulas : List Formula → Type 0
IsFormulas = IsList IsGoodFormula

abbrev formulas_bytes : List Formula → List ℕ
formulas_bytes = list_bytes formula_bytes

abbrev IsIdentifiers : List (List ℕ × Ty) → Type 0
IsIdentifiers = IsList IsGoodIdentifier

abbrev identifiers_bytes : List (List ℕ × Ty) → List ℕ
identifiers_bytes = list_bytes identifier_bytes

abbrev IsGoal : Option Formula → Type 0
IsGoal = IsOption IsGoodFormula

abbrev goal_bytes : Option Formula → List ℕ
goal_bytes = option_bytes formula_bytes

formulas_reads : Reads IsFormulas formulas_bytes
formulas_reads = list_reads IsGoodFormula formula_bytes formula_reads

goal_reads : Reads IsGoal goal_bytes
goal_reads = option_reads IsGoodFormula formula_bytes formula_reads

identifiers_reads : Reads IsIdentifiers identifiers_bytes
identifiers_reads = list_reads IsGoodIdentifier identifier_bytes (pair_reads IsGoodName text_bytes IsGoodType type_bytes name_reads type_reads)

abbrev IsRewriting : ℕ × List ℕ → Type 0
IsRewriting = IsPair IsByte (IsList FitsU32)

abbrev rewriting_bytes : ℕ × List ℕ → List ℕ
rewriting_bytes = pair_bytes byte (list_bytes number_bytes)

rewriting_reads : Reads IsRewriting rewriting_bytes
rewriting_reads = pair_reads IsByte byte (IsList FitsU32) (list_bytes number_bytes) byte_reads (list_reads FitsU32 number_bytes number_reads)

multipliers_reads : Reads (IsList IsInteger) (list_bytes integer)
multipliers_reads = list_reads IsInteger integer integer_reads

-- the number of a kind is read
there : (tag : ℕ) → tag < 256 → (rest : List ℕ) → IsReadAs IsByte byte (tag ∷ rest) tag rest
there tag small rest = as_read IsByte byte tag (byte_reads tag) small rest

abbrev IsOnlyKind : RuleKind → Type 0
IsOnlyKind = IsOnly IsGoodKind kind_bytes

all_kind : (terms : List Formula) → IsOnlyKind (kind.AllL terms)
all_kind terms = from_read IsGoodKind kind_bytes (kind.AllL terms) (λ good rest.
    let mid : List ℕ = formulas_bytes terms ++ rest in
    all_read (18 ∷ mid) mid rest terms (there 18 (omega arith) mid) (as_read IsFormulas formulas_bytes terms (formulas_reads terms) good rest))

exists_kind : (terms : List Formula) → IsOnlyKind (kind.ExR terms)
exists_kind terms = from_read IsGoodKind kind_bytes (kind.ExR terms) (λ good rest.
    let mid : List ℕ = formulas_bytes terms ++ rest in
    exists_read (19 ∷ mid) mid rest terms (there 19 (omega arith) mid) (as_read IsFormulas formulas_bytes terms (formulas_reads terms) good rest))

goal_kind : (law : ℕ) (place : List ℕ) → IsOnlyKind (kind.RwGoal law place)
goal_kind law place = from_read IsGoodKind kind_bytes (kind.RwGoal law place) (λ good rest.
    let mid : List ℕ = rewriting_bytes (law, place) ++ rest in
    goal_read (29 ∷ mid) mid rest law place (there 29 (omega arith) mid) (as_read IsRewriting rewriting_bytes (law, place) (rewriting_reads (law, place)) good rest))

hyp_kind : (law : ℕ) (place : List ℕ) → IsOnlyKind (kind.RwHyp law place)
hyp_kind law place = from_read IsGoodKind kind_bytes (kind.RwHyp law place) (λ good rest.
    let mid : List ℕ = rewriting_bytes (law, place) ++ rest in
    hyp_read (30 ∷ mid) mid rest law place (there 30 (omega arith) mid) (as_read IsRewriting rewriting_bytes (law, place) (rewriting_reads (law, place)) good rest))

linear_kind : (multipliers : List ℤ) → IsOnlyKind (kind.Linear multipliers)
linear_kind multipliers = from_read IsGoodKind kind_bytes (kind.Linear multipliers) (λ good rest.
    let mid : List ℕ = list_bytes integer multipliers ++ rest in
    linear_read (31 ∷ mid) mid rest multipliers (there 31 (omega arith) mid) (as_read (IsList IsInteger) (list_bytes integer) multipliers (multipliers_reads multipliers) good rest))

-- a kind that has nothing of its own
plain_kind : (k : RuleKind) → kind_bytes k ≡ kind_number k ∷ [] → kind_number k < 256 → plain_kind_at (kind_number k) ≡ Some k → IsOnlyKind k
plain_kind k bytes small is = from_read IsGoodKind kind_bytes k (λ good rest.
    let tag : ℕ = kind_number k in
    subst (λ (b : List ℕ). IsReadAs IsGoodKind kind_bytes (b ++ rest) k rest) (sym bytes) (plain_read (tag ∷ rest) rest tag k (there tag small rest) is))

kind_reads : Reads IsGoodKind kind_bytes
kind_reads (kind.AllL terms) = all_kind terms
kind_reads (kind.ExR terms) = exists_kind terms
kind_reads (kind.RwGoal law place) = goal_kind law place
kind_reads (kind.RwHyp law place) = hyp_kind law place
kind_reads (kind.Linear multipliers) = linear_kind multipliers
kind_reads k = plain_kind k refl (omega arith) refl

abbrev IsBehindIdents : List Formula × Option Formula → Type 0
IsBehindIdents = IsPair IsFormulas IsGoal

abbrev behind_idents_bytes : List Formula × Option Formula → List ℕ
behind_idents_bytes = pair_bytes formulas_bytes goal_bytes

antecedent_reads : Reads IsGoodAntecedent antecedent_bytes
antecedent_reads x good y r s fine is =
    let behind : Reads IsBehindIdents behind_idents_bytes = pair_reads IsFormulas formulas_bytes IsGoal goal_bytes formulas_reads goal_reads in
    let same = pair_reads IsIdentifiers identifiers_bytes IsBehindIdents behind_idents_bytes identifiers_reads behind (antecedent_parts x) good (antecedent_parts y) r s fine is in
    ((λ i. record { idents = (same.0 i).0; hyps = (same.0 i).1.0; goal = (same.0 i).1.1 }), same.1)

-- the parts of a rule from the last one on
abbrev Names : Type 0
Names = List (List ℕ × Ty) × List Antecedent

abbrev IsBehindHyps : Names → Type 0
IsBehindHyps = IsPair IsIdentifiers (IsList IsGoodAntecedent)

abbrev behind_hyps_bytes : Names → List ℕ
behind_hyps_bytes = pair_bytes identifiers_bytes (list_bytes antecedent_bytes)

abbrev IsBehindGoal : List Formula × Names → Type 0
IsBehindGoal = IsPair IsFormulas IsBehindHyps

abbrev behind_goal_bytes : List Formula × Names → List ℕ
behind_goal_bytes = pair_bytes formulas_bytes behind_hyps_bytes

abbrev IsBehindKind : Option Formula × (List Formula × Names) → Type 0
IsBehindKind = IsPair IsGoal IsBehindGoal

abbrev behind_kind_bytes : Option Formula × (List Formula × Names) → List ℕ
behind_kind_bytes = pair_bytes goal_bytes behind_goal_bytes

behind_hyps_reads : Reads IsBehindHyps behind_hyps_bytes
behind_hyps_reads = pair_reads IsIdentifiers identifiers_bytes (IsList IsGoodAntecedent) (list_bytes antecedent_bytes) identifiers_reads (list_reads IsGoodAntecedent antecedent_bytes antecedent_reads)

behind_goal_reads : Reads IsBehindGoal behind_goal_bytes
behind_goal_reads = pair_reads IsFormulas formulas_bytes IsBehindHyps behind_hyps_bytes formulas_reads behind_hyps_reads

behind_kind_reads : Reads IsBehindKind behind_kind_bytes
behind_kind_reads = pair_reads IsGoal goal_bytes IsBehindGoal behind_goal_bytes goal_reads behind_goal_reads

rule_reads : Reads IsGoodRule rule_bytes
rule_reads x good y r s fine is =
    let same = pair_reads IsGoodKind kind_bytes IsBehindKind behind_kind_bytes kind_reads behind_kind_reads (rule_parts x) good (rule_parts y) r s fine is in
    ((λ i. record { kind = (same.0 i).0; needed_goal = (same.0 i).1.0; needed_hyps = (same.0 i).1.1.0; used = (same.0 i).1.1.1.0; antecedents = (same.0 i).1.1.1.1 }), same.1)

-- TREES

abbrev IsNode : Rule × List Tree → Type 0
IsNode = IsPair IsGoodRule (IsList HasGoodRules)

abbrev node_bytes : Rule × List Tree → List ℕ
node_bytes = pair_bytes rule_bytes (list_bytes tree_bytes)

-- the form of a tree of good rules, by its variant, and its bytes
abbrev IsTreeAt : Tree-F Tree → Type 0
IsTreeAt LeafF = Unit {0}
IsTreeAt (NodeF r children) = IsNode (r, children)

abbrev bytes_by : Tree-F Tree → List ℕ
bytes_by LeafF = 0 ∷ []
bytes_by (NodeF r children) = 1 ∷ node_bytes (r, children)

spelled_at : (x : Tree-F Tree) → tree_bytes (roll-Tree x) ≡ bytes_by x
spelled_at LeafF = bytes_at LeafF
spelled_at (NodeF r children) = bytes_at (NodeF r children)

-- as many children as antecedents, whose number has four bytes
few_children : (r : Rule) (children : List Tree) → HasChildren IsGoodRule (r, length children) → length children < 2 ^ 32
few_children r children has = subst (λ n. n < 2 ^ 32) (sym has.1) has.0.1.1.1.1.0

opened : (x : Tree-F Tree) → AllByRecursion (HasChildren IsGoodRule) (rules_step (map-Tree Tree (List (Rule × ℕ)) rules_in x)) → IsTreeAt x
opened LeafF all = tt
opened (NodeF r children) all =
    let has : HasChildren IsGoodRule (r, length children) = (all.0.0, sym (length-map children rules_in) ∙ all.0.1) in
    (has.0, (few_children r children has, each_tree (HasChildren IsGoodRule) children all.1))

good_at : (x : Tree-F Tree) → HasGoodRules (roll-Tree x) → IsTreeAt x
good_at x good = opened x (subst (AllByRecursion (HasChildren IsGoodRule)) (rules_at x) good)

abbrev IsOnlyTree : Tree-F Tree → Type 0
IsOnlyTree x = IsTreeAt x → (z : Tree-F Tree) (r s : List ℕ) → IsTreeAt z → bytes_by x ++ r ≡ bytes_by z ++ s → (x ≡ z) × (r ≡ s)

rolled : (x : Tree-F Tree) → IsOnlyTree x → IsOnly HasGoodRules tree_bytes (roll-Tree x)
rolled x only good y r s fine is =
    let z = out-Tree y in
    let rolls : roll-Tree z ≡ y = roll-out-Tree y in
    let same = only (good_at x good) z r s (good_at z (subst HasGoodRules (sym rolls) fine))
    (ap (λ b. b ++ r) (sym (spelled_at x)) ∙ is ∙ ap (λ t. tree_bytes t ++ s) (sym rolls) ∙ ap (λ b. b ++ s) (spelled_at z)) in
    (ap roll-Tree same.0 ∙ rolls, same.1)

leaf_tree : IsOnlyTree LeafF
leaf_tree good LeafF r s fine is = (refl, same_behind 0 _ _ is)
leaf_tree good (NodeF q others) r s fine is = absurd cc

node_tree : (rule : Rule) (children : List Tree) → AllByRecursion (IsOnly HasGoodRules tree_bytes) children → IsOnlyTree (NodeF rule children)
node_tree rule children each good LeafF r s fine is = absurd cc
node_tree rule children each good (NodeF q others) r s fine is =
    let same = pair_only IsGoodRule rule_bytes (IsList HasGoodRules) (list_bytes tree_bytes) (rule, children) (rule_reads rule) (list_only HasGoodRules tree_bytes children each) good (q, others) r s fine (same_behind 1 _ _ is) in
    ((λ i. NodeF (same.0 i).0 (same.0 i).1), same.1)

abbrev Proved : Type 0
Proved = (t : Tree) × IsOnly HasGoodRules tree_bytes t

each_proved : (es : List Proved) → AllByRecursion (IsOnly HasGoodRules tree_bytes) (map (λ e. e.0) es)
each_proved [] = tt
each_proved (e ∷ es) = (e.1, each_proved es)

step : (y : Tree-F Proved) → IsOnlyTree (map-Tree Proved Tree (λ e. e.0) y)
step LeafF = leaf_tree
step (NodeF r es) = node_tree r (map (λ e. e.0) es) (each_proved es)

trees_reads : Reads HasGoodRules tree_bytes
trees_reads = ind-Tree (IsOnly HasGoodRules tree_bytes) (λ x y is.
    let Q : Tree-F Tree → Type 0 = λ z. IsOnly HasGoodRules tree_bytes (roll-Tree z) in
    subst Q is (rolled (map-Tree Proved Tree (λ e. e.0) y) (step y)))

pub tree_reads : Reads IsWritableTree tree_bytes
tree_reads = narrow_reads HasGoodRules IsWritableTree tree_bytes (λ t is. is.rules) trees_reads
