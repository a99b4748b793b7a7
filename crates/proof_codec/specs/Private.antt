-- Words that only contracts of private functions cite.
use Rattle.std.specs.Prelude.{◌≡◌, ◌≤◌, ◌<◌, ◌^◌, ℕ, List, [], ◌∷◌, length, Option, Some, None, slice_get, Result, ◌++◌, take, Ok, Err, IsTrue, ◌+◌}
use Rattle.std.specs.List.{AllByRecursion, flat_map}
use Rattle.std.specs.Option.{option_and_then}
use Rattle.formula_core.specs.declared.Formula.{Formula}
use Rattle.formula_core.specs.declared.Op.{Op}
use Rattle.formula_core.specs.declared.Binder.{Binder}
use Rattle.formula_core.specs.Numbers.{number_of, binder_number_of}
use Rattle.formula_core.specs.Sizes.{formula_height, has_types_within, greatest}
use Rattle.rule_table.specs.declared.kind.RuleKind.{RuleKind}
use Rattle.rule_table.specs.declared.kind.RuleKind.TheVariants as kind
use Rattle.rule_table.specs.declared.rule.Antecedent.{Antecedent}
use Rattle.sequent_core.specs.declared.tree.Tree.{Tree}
use Rattle.sequent_core.specs.declared.tree.Tree.TheOpen.{Tree-F, Leaf, Node}
use Rattle.sequent_core.specs.declared.tree.Tree.TheFolds.{fold-Tree}
use Rattle.proof_codec.specs.declared.reader.ReadFault.{ReadFault}
use Rattle.proof_codec.specs.Parts.{IsList}
use Rattle.proof_codec.specs.Formulas.{formula_bytes, is_coded, is_counted, IsGoodFormula, IsFitFormula}
use Rattle.proof_codec.specs.Rules.{IsGoodRule, IsFitRule, IsGoodIdentifier, IsFitIdentifier, IsAntecedentOf}
use Rattle.proof_codec.specs.ProofTrees.{rules_in, HasChildren}
use Rattle.proof_codec.specs.declared.reader.ReadFault.TheVariants.{Bad, OutOfMemory}
use Rattle.proof_codec.specs.Forms.{BeginsWith, BeginsNone}

-- the kinds at their numbers, but for those that have something of their own
abbrev pub plain_kinds : List (Option RuleKind)
plain_kinds =
    None ∷ Some kind.Hyp ∷ Some kind.Top ∷ Some kind.Bot ∷ Some kind.Contr ∷ Some kind.AndR ∷ Some kind.AndL
    ∷ Some kind.OrR ∷ Some kind.OrL ∷ Some kind.ImpR ∷ Some kind.ImpL ∷ Some kind.Mp ∷ Some kind.IffR
    ∷ Some kind.IffL ∷ Some kind.NotR ∷ Some kind.NotL ∷ Some kind.Contra ∷ Some kind.AllR ∷ None ∷ None
    ∷ Some kind.ExL ∷ Some kind.Cut ∷ Some kind.Cases ∷ Some kind.Review ∷ Some kind.EqRefl ∷ Some kind.EqGoal
    ∷ Some kind.EqHyp ∷ Some kind.BoolCases ∷ Some kind.BoolDiff ∷ None ∷ None ∷ None ∷ Some kind.CardNat
    ∷ Some kind.FunIn ∷ Some kind.FunEq ∷ Some kind.OverOther ∷ []

-- the kind with a number that has nothing of its own
abbrev pub plain_kind_at : ℕ → Option RuleKind
plain_kind_at n = option_and_then (λ k. k) (slice_get plain_kinds n)

-- a formula of at most this height
pub record IsFormulaWithin (depth : ℕ) (f : Formula) : Type 0 where
  pub coded : IsTrue (is_coded f)
  pub low : formula_height f ≤ depth

-- its types are small, and its lists have few members
pub record HasFitParts (f : Formula) : Type 0 where
  pub types : IsTrue (has_types_within 4096 f)
  pub counted : IsTrue (is_counted f)

-- formulas that may be written, whose number has four bytes
pub record AreFit (formulas : List Formula) : Type 0 where
  pub few : length formulas < 2 ^ 32
  pub fit : AllByRecursion HasFitParts formulas

-- the bytes begin with this value, and with no other
pub record IsReadAs {A : Type 0} (IsGood : A → Type 0) (bytes_of : A → List ℕ) (bytes : List ℕ) (x : A) (rest : List ℕ) : Type 0 where
  pub here : BeginsWith IsGood bytes_of bytes x rest
  pub only : (y : A) (others : List ℕ) → BeginsWith IsGood bytes_of bytes y others → (y ≡ x) × (others ≡ rest)

-- why nothing is read: no good value stands there; that memory ran out is free
abbrev pub Misses : {A : Type 0} → (IsGood : A → Type 0) → (A → List ℕ) → List ℕ → ReadFault → Type 0
Misses IsGood bytes_of bytes Bad = BeginsNone IsGood bytes_of bytes
Misses IsGood bytes_of bytes OutOfMemory = Unit {0}

-- what a reader gives that goes over these bytes
abbrev pub ReadsBy : {A : Type 0} → (IsGood : A → Type 0) → (A → List ℕ) → List ℕ → List ℕ → Result A ReadFault → Type 0
ReadsBy IsGood bytes_of old new (Ok x) = IsReadAs IsGood bytes_of old x new
ReadsBy IsGood bytes_of old new (Err fault) = Misses IsGood bytes_of old fault

-- what a reader gives that goes over what stands behind the tag of a formula without parts
abbrev pub ReadsLeaf : ℕ → List ℕ → List ℕ → Result Formula ReadFault → Type 0
ReadsLeaf tag old new result = (depth : ℕ) → 1 ≤ depth → ReadsBy (IsFormulaWithin depth) formula_bytes (tag ∷ old) new result

abbrev pub tree_height_step : Tree-F ℕ → ℕ
tree_height_step Leaf = 1
tree_height_step (Node r children) = greatest children + 1

-- the height of a tree, which is 1 at a leaf
abbrev pub tree_height : Tree → ℕ
tree_height = fold-Tree ℕ tree_height_step

-- a tree of at most this height
pub record IsTreeWithin (depth : ℕ) (tree : Tree) : Type 0 where
  pub rules : AllByRecursion (HasChildren IsGoodRule) (rules_in tree)
  pub low : tree_height tree ≤ depth

-- so many trees, none higher than this
abbrev pub AreChildren : ℕ → ℕ → List Tree → Type 0
AreChildren count depth children = IsList (IsTreeWithin depth) children × (length children ≡ count)

abbrev pub HasGoodRules : Tree → Type 0
HasGoodRules tree = AllByRecursion (HasChildren IsGoodRule) (rules_in tree)

abbrev pub HasFitRules : Tree → Type 0
HasFitRules tree = AllByRecursion (HasChildren IsFitRule) (rules_in tree)

-- trees that may be written, whose number has four bytes
pub record AreFitTrees (trees : List Tree) : Type 0 where
  pub few : length trees < 2 ^ 32
  pub fit : AllByRecursion HasFitRules trees

-- the bytes of a good value stand behind the old ones
pub record IsWrittenAs {A : Type 0} (IsGood : A → Type 0) (bytes_of : A → List ℕ) (x : A) (old : List ℕ) (new : List ℕ) : Type 0 where
  pub good : IsGood x
  pub bytes : new ≡ old ++ bytes_of x

-- what a writer leaves of the old bytes; where it fails, some more may stand behind them
abbrev pub WritesAs : {A R E : Type 0} → (IsGood : A → Type 0) → (A → List ℕ) → A → List ℕ → List ℕ → Result R E → Type 0
WritesAs IsGood bytes_of x old new (Ok done) = IsWrittenAs IsGood bytes_of x old new
WritesAs IsGood bytes_of x old new (Err fault) = take (length old) new ≡ old

-- so many bytes of any kind, each below 256
abbrev pub IsOfLength : ℕ → List ℕ → Type 0
IsOfLength count bytes = length bytes ≡ count

abbrev pub as_it_is : List ℕ → List ℕ
as_it_is bytes = bytes

abbrev pub IsWide : ℕ → Type 0
IsWide n = n < 2 ^ 64

-- so many values, one behind the other
abbrev pub AreItems : {A : Type 0} → (A → Type 0) → ℕ → List A → Type 0
AreItems P count xs = (length xs ≡ count) × AllByRecursion P xs

abbrev pub items_bytes : {A : Type 0} → (A → List ℕ) → List A → List ℕ
items_bytes f xs = flat_map f xs

abbrev pub op_bytes : Op → List ℕ
op_bytes op = number_of op ∷ []

abbrev pub binder_bytes : Binder → List ℕ
binder_bytes binder = binder_number_of binder ∷ []

-- a formula whose numbers, names and types have bytes
abbrev pub IsCoded : Formula → Type 0
IsCoded f = IsTrue (is_coded f)

abbrev pub IsGoodAntecedent : Antecedent → Type 0
IsGoodAntecedent = IsAntecedentOf IsGoodFormula IsGoodIdentifier

abbrev pub IsFitAntecedent : Antecedent → Type 0
IsFitAntecedent = IsAntecedentOf IsFitFormula IsFitIdentifier
