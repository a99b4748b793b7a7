-- What only private contracts of the making of rules cite.
use Rattle.std.specs.Prelude.{◌≡◌, ◌⊎◌, ⊤, ℕ, Bool, ◌&&◌, if◌then◌else◌, List, take, Some, None, Result, Ok, Err}
use Rattle.std.specs.List.{AllByRecursion}
use Rattle.std.specs.Option.{option_to_list}
use Rattle.formula_core.specs.declared.formula.Formula.{Formula}
use Rattle.formula_core.specs.declared.size.TheConstants.{MOST_NODES, MOST_HEIGHT}
use Rattle.formula_core.specs.Same.{same_formula, same_list}
use Rattle.formula_core.specs.Sizes.{IsWithinLimits}
use Rattle.instance_size.specs.Growth.{hyp_count, needs_goal}
use Rattle.rule_table.specs.declared.rule.Antecedent.{Antecedent}
use Rattle.rule_table.specs.declared.rule.Body.{Body}
use Rattle.rule_table.specs.declared.rule.Rule.{Rule}
use Rattle.rule_table.specs.declared.kind.RuleKind.{RuleKind}
use Rattle.rule_table.specs.declared.rule.Main.{Main}
use Rattle.rule_table.specs.Rules.{terms_of, width, rule_of}
use Rattle.instance_size.specs.declared.extent.Extent.{Extent}
use Rattle.sequent_core.specs.declared.hint.Hint.{Hint}
use Rattle.sequent_core.specs.declared.sequent.Sequent.{Sequent}
use Rattle.rule_making.specs.declared.fault.RuleFault.{RuleFault}
use Rattle.rule_making.specs.declared.fault.RuleFault.TheVariants as fault
use Rattle.rule_kernel.specs.Private.{IsSmallType}
use Rattle.sequent_core.specs.Trees.{Meets, IsFresh}
use Rattle.rule_making.specs.Make.{IsWithinSizes, FitsAt, instance_for, same_goal, Makes, StandsAgainst}

-- the formulas of an antecedent and the types that it adds are within the limits, and those of a rule
pub record IsSmallAntecedent (a : Antecedent) : Type 0 where
  pub hyps : AllByRecursion IsWithinLimits a.hyps
  pub goal : AllByRecursion IsWithinLimits (option_to_list a.goal)
  pub types : AllByRecursion IsSmallType a.idents

pub record HasSmallParts (r : Rule) : Type 0 where
  pub goal : AllByRecursion IsWithinLimits (option_to_list r.needed_goal)
  pub hyps : AllByRecursion IsWithinLimits r.needed_hyps
  pub terms : AllByRecursion IsWithinLimits (terms_of r.kind)
  pub antecedents : AllByRecursion IsSmallAntecedent r.antecedents

-- what is made of a kind and a body, whatever named them
abbrev pub TestsBody : Sequent → RuleKind → Body → Result Rule RuleFault → Type 0
TestsBody s k b (Ok r) = (r ≡ rule_of k b) × FitsAt r s
TestsBody s k b (Err fault.TooLarge) = IsWithinSizes k b → ⊥
TestsBody s k b (Err fault.NoForm) = IsWithinSizes k b × (FitsAt (rule_of k b) s → ⊥)
TestsBody s k b (Err fault.OutOfMemory) = ⊤
TestsBody s k b (Err _) = ⊥

-- the room for a formula within the limits
abbrev pub limits : Extent
limits = record { nodes = MOST_NODES; height = MOST_HEIGHT }

-- what a kind gives for main formulas, whatever named them
abbrev pub GivesBody : RuleKind → Main → Result Body RuleFault → Type 0
GivesBody k m (Ok b) = (width k m ≡ None) × (instance_for k m ≡ Some b)
GivesBody k m (Err (fault.TooWide x y)) = width k m ≡ Some (x, y)
GivesBody k m (Err fault.NoForm) = (width k m ≡ None) × (instance_for k m ≡ None)
GivesBody k m (Err fault.TooLarge) =
    (width k m ≡ None) × (b : Body) × (instance_for k m ≡ Some b) × (IsWithinSizes k b → ⊥)
GivesBody k m (Err fault.OutOfMemory) = ⊤
GivesBody k m (Err _) = ⊥

-- what is made of a kind and main formulas
abbrev pub FindsRule : Sequent → RuleKind → Main → Result Rule RuleFault → Type 0
FindsRule s k m r = ((f : RuleFault) × GivesBody k m (Err f) × (r ≡ Err f))
    ⊎ ((b : Body) × GivesBody k m (Ok b) × TestsBody s k b r)

-- a kind whose instances can grow needs just the goal and the hypotheses that were named
abbrev pub needs_just : RuleKind → Main → Bool
needs_just k m = same_goal (if needs_goal k then m.goal else None) m.goal && same_list same_formula (take (hyp_count k) m.hyps) m.hyps

-- what is answered where the terms are typed
abbrev pub AnswersOver : ℕ → Hint → List Formula → Sequent → Result Rule RuleFault → Type 0
AnswersOver n h terms s (Ok r) = Makes n h s r terms
AnswersOver n h terms s (Err fault.OutOfMemory) = ⊤
AnswersOver n h terms s (Err fault.NoPlace) = ⊥
AnswersOver n h terms s (Err fault.BadTerm) = ⊥
AnswersOver n h terms s (Err f) = StandsAgainst n h s f terms

-- the sequent meets the rule, and what the rule adds is fresh
pub record IsMetBy (s : Sequent) (r : Rule) : Type 0 where
  pub meets : Meets r s
  pub fresh : AllByRecursion (IsFresh s) r.antecedents

-- the rule itself where this holds, and no form where it doesn't
abbrev pub KeepsWhere : Type 0 → Rule → Result Rule RuleFault → Type 0
KeepsWhere P r (Ok q) = P × (q ≡ r)
KeepsWhere P r (Err fault.NoForm) = P → ⊥
KeepsWhere P r (Err _) = ⊥
