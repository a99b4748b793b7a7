-- A rule that is right in its parts is right as a whole.
use Rattle.std.proofs.Common.{ℕ, List, ◌++◌, map}
use Rattle.std.specs.List.{AllByRecursion}
use Rattle.std.specs.Option.{option_to_list}
use Rattle.formula_core.specs.declared.Formula.{Formula}
use Rattle.formula_core.specs.declared.Ty.{Ty}
use Rattle.formula_core.specs.Formulas.{joined}
use Rattle.rule_table.specs.declared.rule.Antecedent.{Antecedent}
use Rattle.rule_table.specs.declared.rule.Rule.{Rule}
use Rattle.rule_table.specs.Rules.{IsAllowed, IsSound, antecedent_formulas, body_of, formulas_of, sorted_by_name, names_in, terms_of}
use Rattle.formula_core.specs.Typed.{Stands}
use Rattle.rule_kernel.specs.Private.{HasAllowedFormulas, HasSoundParts, IsAllowedAntecedent, IsSmallType}
use Rattle.rule_kernel.proofs.Appended.{all_append, all_first, all_last, all_joined, each_joined, all_mapped}

allowed : (a : Antecedent) → IsAllowedAntecedent a → AllByRecursion IsAllowed (antecedent_formulas a)
allowed a is = all_append IsAllowed a.hyps (option_to_list a.goal) is.hyps is.goal

allowed_antecedent : (a : Antecedent) → AllByRecursion IsAllowed (antecedent_formulas a) → IsAllowedAntecedent a
allowed_antecedent a ps = record { hyps = all_first IsAllowed a.hyps (option_to_list a.goal) ps; goal = all_last IsAllowed a.hyps (option_to_list a.goal) ps }

module _ (r : Rule) where
  abbrev needed : List Formula
  needed = option_to_list r.needed_goal ++ r.needed_hyps

  abbrev left : List Formula
  left = joined (map antecedent_formulas r.antecedents)

  abbrev names : List (List ℕ × Ty)
  names = names_in (formulas_of r.kind (body_of r))

  allowed_formulas : HasAllowedFormulas r → AllByRecursion IsAllowed (formulas_of r.kind (body_of r))
  allowed_formulas is =
      all_append IsAllowed (needed ++ left) (terms_of r.kind)
      (all_append IsAllowed needed left (all_append IsAllowed (option_to_list r.needed_goal) r.needed_hyps is.goal is.hyps)
      (all_joined IsAllowed antecedent_formulas r.antecedents
      (all_mapped IsAllowedAntecedent (λ a. AllByRecursion IsAllowed (antecedent_formulas a)) allowed r.antecedents is.antecedents)))
      is.terms

  has_allowed : AllByRecursion IsAllowed (formulas_of r.kind (body_of r)) → HasAllowedFormulas r
  has_allowed ps =
      let rest : AllByRecursion IsAllowed (needed ++ left) = all_first IsAllowed (needed ++ left) (terms_of r.kind) ps in
      let first : AllByRecursion IsAllowed needed = all_first IsAllowed needed left rest in
      record {
        goal = all_first IsAllowed (option_to_list r.needed_goal) r.needed_hyps first;
        hyps = all_last IsAllowed (option_to_list r.needed_goal) r.needed_hyps first;
        antecedents = all_mapped (λ a. AllByRecursion IsAllowed (antecedent_formulas a)) IsAllowedAntecedent allowed_antecedent r.antecedents
            (each_joined IsAllowed antecedent_formulas r.antecedents (all_last IsAllowed needed left rest));
        terms = all_last IsAllowed (needed ++ left) (terms_of r.kind) ps;
      }

  pub sound_of_parts : HasSoundParts r → AllByRecursion (Stands (sorted_by_name names)) names → IsSound r.kind (body_of r)
  sound_of_parts is one = record {
    formulas = allowed_formulas is.formulas;
    predicates = is.predicates;
    added = all_joined IsSmallType (λ a. a.idents) r.antecedents is.added;
    distinct = is.distinct;
    one_type = one;
  }

  pub parts_of_sound : IsSound r.kind (body_of r) → HasSoundParts r
  parts_of_sound is = record {
    formulas = has_allowed is.formulas;
    predicates = is.predicates;
    added = each_joined IsSmallType (λ a. a.idents) r.antecedents is.added;
    distinct = is.distinct;
  }
