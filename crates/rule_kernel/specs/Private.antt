-- What only private contracts cite.
use Rattle.std.specs.Prelude.{◌≡◌, ◌≤◌, ℕ, Bool, not, is_some, List}
use Rattle.std.specs.List.{AllByRecursion}
use Rattle.std.specs.Option.{option_to_list}
use Rattle.formula_core.specs.declared.Ty.{Ty}
use Rattle.formula_core.specs.declared.Ty.TheVariants.{Truth}
use Rattle.formula_core.specs.Env.{HasDistinctNames, type_in}
use Rattle.formula_core.specs.Sizes.{type_nodes}
use Rattle.formula_core.specs.Wellness.{type_of}
use Rattle.rule_table.specs.declared.rule.Antecedent.{Antecedent}
use Rattle.rule_table.specs.declared.rule.Rule.{Rule}
use Rattle.rule_table.specs.Rules.{IsAllowed, body_of, needed_formulas, terms_of}

-- the name doesn't stand there
abbrev pub is_other : List (List ℕ × Ty) → List ℕ × Ty → Bool
is_other added x = not (is_some (type_in added x.0))

-- a type within the limit
abbrev pub IsSmallType : List ℕ × Ty → Type 0
IsSmallType x = type_nodes x.1 ≤ 4096

-- the formulas of an antecedent may stand in a rule, and those of a rule
pub record IsAllowedAntecedent (a : Antecedent) : Type 0 where
  pub hyps : AllByRecursion IsAllowed a.hyps
  pub goal : AllByRecursion IsAllowed (option_to_list a.goal)

pub record HasAllowedFormulas (r : Rule) : Type 0 where
  pub goal : AllByRecursion IsAllowed (option_to_list r.needed_goal)
  pub hyps : AllByRecursion IsAllowed r.needed_hyps
  pub antecedents : AllByRecursion IsAllowedAntecedent r.antecedents
  pub terms : AllByRecursion IsAllowed (terms_of r.kind)

-- the types of the identifiers that an antecedent adds are within the limit
abbrev pub AddsSmallTypes : Antecedent → Type 0
AddsSmallTypes a = AllByRecursion IsSmallType a.idents

-- a rule is right but for its form and the types of its names
pub record HasSoundParts (r : Rule) : Type 0 where
  pub formulas : HasAllowedFormulas r
  pub predicates : AllByRecursion (λ f. type_of f ≡ Truth) (needed_formulas (body_of r))
  pub added : AllByRecursion AddsSmallTypes r.antecedents
  pub distinct : AllByRecursion (λ a. HasDistinctNames a.idents) r.antecedents
