-- An instance that is too large is no rule within the sizes.
use Rattle.std.proofs.Common.{◌≡◌, ◌∙◌, ◌≤◌, ap, refl, ℕ, ◌++◌, Bool, true, false, ◌&&◌, Option, Some, None, is_none, Err, if◌then◌else◌, arith}
use Rattle.std.specs.List.{AllByRecursion}
use Rattle.std.specs.Option.{option_and_then}
use Rattle.formula_core.specs.declared.formula.Formula.{Formula}
use Rattle.formula_core.specs.declared.size.TheConstants.{MOST_NODES, MOST_HEIGHT}
use Rattle.formula_core.specs.Same.{same_formula, same_list}
use Rattle.formula_core.specs.Sizes.{IsWithinLimits, formula_height, formula_nodes}
use Rattle.formula_core.proofs.SameFormulas.{same_formula_refl}
use Rattle.rule_table.specs.declared.kind.RuleKind.{RuleKind}
use Rattle.rule_table.specs.declared.rule.Body.{Body}
use Rattle.rule_table.specs.declared.rule.Main.{Main}
use Rattle.rule_table.specs.Rules.{needed_formulas, terms_of, width}
use Rattle.condition_size.specs.Sizes.{clamped}
use Rattle.instance_size.specs.Extents.{HasRoom}
use Rattle.instance_size.specs.Growth.{Outgrows, left_formulas}
use Rattle.rule_kernel.proofs.Appended.{all_first, all_last, all_mapped}
use Rattle.rule_making.specs.declared.fault.RuleFault.TheVariants as fault
use Rattle.rule_making.specs.Make.{IsWithinSizes, instance_for, needing, same_goal}
use Rattle.rule_making.specs.Private.{GivesBody, limits, needs_just}

pub same_goal_refl : (o : Option Formula) → same_goal o o ≡ true
same_goal_refl None = refl
same_goal_refl (Some f) = same_formula_refl f

pub same_as_none : (o : Option Formula) → same_goal None o ≡ is_none o
same_as_none None = refl
same_as_none (Some f) = refl

within : (n most : ℕ) → n ≤ most → clamped n ≤ most
within n most h = omega arith

has_room : (f : Formula) → IsWithinLimits f → HasRoom limits f
has_room f w = record { nodes = within (formula_nodes f) MOST_NODES w.0; height = within (formula_height f) MOST_HEIGHT w.1 }

small_left : (k : RuleKind) (b : Body) → IsWithinSizes k b → AllByRecursion (HasRoom limits) (left_formulas b)
small_left k b small = all_mapped IsWithinLimits (HasRoom limits) has_room (left_formulas b)
    (all_last IsWithinLimits (needed_formulas b) (left_formulas b) (all_first IsWithinLimits (needed_formulas b ++ left_formulas b) (terms_of k) small.0))

abbrev kept_if : Bool → Body → Option Body
kept_if c b = if c then Some b else None

module _ (k : RuleKind) (m : Main) (grown : Outgrows limits k m) where
  made : instance_for k m ≡ kept_if (needs_just k m) grown.0
  unfolding instance_for
  made = ap (option_and_then (needing m)) grown.1
      ∙ (λ i. kept_if (same_goal (grown.2 i) m.goal && same_list same_formula (grown.3 i) m.hyps) grown.0)

  pub too_large : width k m ≡ None → needs_just k m ≡ true → GivesBody k m (Err fault.TooLarge)
  too_large w h = (w, grown.0, made ∙ ap (λ c. kept_if c grown.0) h, λ small. grown.4 (small_left k grown.0 small))

  pub other_needs : width k m ≡ None → needs_just k m ≡ false → GivesBody k m (Err fault.NoForm)
  other_needs w h = (w, made ∙ ap (λ c. kept_if c grown.0) h)
