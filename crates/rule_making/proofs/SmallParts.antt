-- A rule with small parts is small, and the other way round.
use Rattle.std.proofs.Common.{◌↔◌, ℕ, List, [], ◌∷◌, ◌++◌, map}
use Rattle.std.specs.List.{AllByRecursion}
use Rattle.std.specs.Option.{option_to_list}
use Rattle.formula_core.specs.declared.formula.Formula.{Formula}
use Rattle.formula_core.specs.Formulas.{joined}
use Rattle.formula_core.specs.Sizes.{IsWithinLimits}
use Rattle.rule_table.specs.declared.rule.Antecedent.{Antecedent}
use Rattle.rule_table.specs.declared.rule.Rule.{Rule}
use Rattle.rule_table.specs.Rules.{antecedent_formulas, body_of, formulas_of, terms_of}
use Rattle.rule_making.specs.Make.{IsWithinSizes}
use Rattle.rule_kernel.specs.Private.{IsSmallType}
use Rattle.rule_making.specs.Private.{IsSmallAntecedent, HasSmallParts}
use Rattle.rule_kernel.proofs.Appended.{all_append, all_first, all_last, all_joined, each_joined, all_mapped}

formulas_small : (a : Antecedent) → IsSmallAntecedent a → AllByRecursion IsWithinLimits (antecedent_formulas a)
formulas_small a is = all_append IsWithinLimits a.hyps (option_to_list a.goal) is.hyps is.goal

small_antecedents : (xs : List Antecedent) → AllByRecursion (λ a. AllByRecursion IsWithinLimits (antecedent_formulas a)) xs
    → AllByRecursion (λ a. AllByRecursion IsSmallType a.idents) xs → AllByRecursion IsSmallAntecedent xs
small_antecedents [] fs ts = tt
small_antecedents (a ∷ xs) fs ts = (
  record { hyps = all_first IsWithinLimits a.hyps (option_to_list a.goal) fs.0; goal = all_last IsWithinLimits a.hyps (option_to_list a.goal) fs.0; types = ts.0 },
  small_antecedents xs fs.1 ts.1,
)

module _ (r : Rule) where
  abbrev needed : List Formula
  needed = option_to_list r.needed_goal ++ r.needed_hyps

  abbrev left : List Formula
  left = joined (map antecedent_formulas r.antecedents)

  pub small_of_parts : HasSmallParts r → IsWithinSizes r.kind (body_of r)
  small_of_parts is = (
    all_append IsWithinLimits (needed ++ left) (terms_of r.kind)
        (all_append IsWithinLimits needed left (all_append IsWithinLimits (option_to_list r.needed_goal) r.needed_hyps is.goal is.hyps)
        (all_joined IsWithinLimits antecedent_formulas r.antecedents
        (all_mapped IsSmallAntecedent (λ a. AllByRecursion IsWithinLimits (antecedent_formulas a)) formulas_small r.antecedents is.antecedents)))
        is.terms,
    all_joined IsSmallType (λ a. a.idents) r.antecedents (all_mapped IsSmallAntecedent (λ a. AllByRecursion IsSmallType a.idents) (λ a s. s.types) r.antecedents is.antecedents),
  )

  pub parts_of_small : IsWithinSizes r.kind (body_of r) → HasSmallParts r
  parts_of_small is =
      let rest : AllByRecursion IsWithinLimits (needed ++ left) = all_first IsWithinLimits (needed ++ left) (terms_of r.kind) is.0 in
      let first : AllByRecursion IsWithinLimits needed = all_first IsWithinLimits needed left rest in
      record {
        goal = all_first IsWithinLimits (option_to_list r.needed_goal) r.needed_hyps first;
        hyps = all_last IsWithinLimits (option_to_list r.needed_goal) r.needed_hyps first;
        terms = all_last IsWithinLimits (needed ++ left) (terms_of r.kind) is.0;
        antecedents = small_antecedents r.antecedents
            (each_joined IsWithinLimits antecedent_formulas r.antecedents (all_last IsWithinLimits needed left rest))
            (each_joined IsSmallType (λ a. a.idents) r.antecedents is.1);
      }

pub ruleset laws = (small_of_parts, parts_of_small)
