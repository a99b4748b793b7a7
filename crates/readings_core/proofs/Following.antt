-- What follows is true, also by the values that fit.
use Rattle.std.proofs.Common.{◌≡◌, Bool, true, List, [], ◌∷◌, Ok, None}
use Rattle.std.specs.List.{AllByRecursion}
use Rattle.std.specs.Prelude.{IfOk}
use Rattle.formula_core.specs.declared.Formula.{Formula}
use Rattle.rule_table.specs.Rules.{body_of}
use Rattle.sequent_core.specs.declared.sequent.Sequent.{Sequent}
use Rattle.sequent_core.specs.declared.tree.Tree.{Tree}
use Rattle.sequent_core.specs.Trees.{Derives}
use Rattle.formula_readings.specs.declared.Reading.{Reading}
use Rattle.formula_readings.specs.Readings.{values_of, truth_in, IsTrueIn}
use Rattle.plain_rules.specs.Derivations.{not_plain, IsTrueEverywhere}
use Rattle.plain_rules.proofs.Derivations.{derived_is_true}
use Rattle.plain_rules.proofs.PlainRules.{plain_keeps}
use Rattle.readings_core.specs.Follows.{ValuesFollow}
use Rattle.readings_core.specs.Values.{unless_wide, value_in}
use Rattle.readings_core.specs.Widths.{wide_in_truth}
use Rattle.readings_core.proofs.Wide.{Operands, none_wide}

pub derived_everywhere : (tree : Tree) (s : Sequent) → Derives tree s → not_plain tree ≡ None → IsTrueEverywhere s
derived_everywhere tree s derives plain r =
    derived_is_true (values_of r) (λ rule is p. plain_keeps (values_of r) rule.kind (body_of rule) is.instance p) tree s derives plain

true_by_value : (r : Reading) (hs : List Formula) → AllByRecursion (λ h. value_in r h ≡ Ok true) hs → AllByRecursion (IsTrueIn r) hs
true_by_value r [] a = tt
true_by_value r (h ∷ hs) a = ((none_wide (wide_in_truth (values_of r).number h) (truth_in (values_of r) h) true a.0).1, true_by_value r hs a.1)

unless_too_wide : (ws : Operands) (b : Bool) → b ≡ true → IfOk (unless_wide ws b) (λ truth. truth ≡ true)
unless_too_wide [] b e = e
unless_too_wide (w ∷ ws) b e = tt

pub values_follow : ValuesFollow
values_follow s r everywhere hyps =
    unless_too_wide (wide_in_truth (values_of r).number s.goal) (truth_in (values_of r) s.goal) (everywhere r (true_by_value r s.hyps hyps))
