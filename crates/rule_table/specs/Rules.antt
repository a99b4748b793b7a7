-- When a rule is one of the table, without any sequent.
use Rattle.std.specs.Prelude.{◌≡◌, ◌≤◌, ℕ, ℤ, Bool, not, List, [], ◌++◌, map, filter, fold, bytes_eq, None, Option, IsTrue, if◌then◌else◌}
use Rattle.std.specs.List.{AllByRecursion, list_any}
use Rattle.std.specs.Option.{option_to_list, option_and_then}
use Rattle.std.specs.BTreeMap.{insert_entry}
use Rattle.std.specs.Ordering.{nat_cmp}
use Rattle.std.specs.Cmp.Lexicographic.{slice_cmp}
use Rattle.formula_core.specs.declared.Formula.{Formula}
use Rattle.formula_core.specs.declared.Ty.{Ty}
use Rattle.formula_core.specs.declared.Ty.TheVariants.{Truth}
use Rattle.formula_core.specs.Env.{HasDistinctNames}
use Rattle.formula_core.specs.Formulas.{joined}
use Rattle.formula_core.specs.Wellness.{is_well, type_of}
use Rattle.formula_core.specs.Identifiers.{identifiers}
use Rattle.formula_core.specs.Sizes.{IsWithinLimits, type_nodes}
use Rattle.rule_table.specs.declared.kind.RuleKind.{RuleKind}
use Rattle.rule_table.specs.declared.kind.RuleKind.TheVariants as kind
use Rattle.rule_table.specs.declared.rule.Antecedent.{Antecedent}
use Rattle.rule_table.specs.declared.rule.Body.{Body}
use Rattle.rule_table.specs.declared.rule.Main.{Main}
use Rattle.rule_table.specs.declared.rule.Rule.{Rule}
use Rattle.rule_table.specs.Rewriting.{law_of, at_place, width_of}
use Rattle.rule_table.specs.Linear.{has_linear_form, linear_sum, first_overflow}
use Rattle.rule_table.specs.Rows.{IsInstance, first}
use Rattle.formula_core.specs.Typed.{Stands}

-- what a rule needs and leaves
abbrev pub body_of : Rule → Body
body_of r = record { goal = r.needed_goal; hyps = r.needed_hyps; antecedents = r.antecedents }

-- the terms of a kind
abbrev pub terms_of : RuleKind → List Formula
terms_of (kind.AllL terms) = terms
terms_of (kind.ExR terms) = terms
terms_of _ = []

-- the formulas of an antecedent
abbrev pub antecedent_formulas : Antecedent → List Formula
antecedent_formulas a = a.hyps ++ option_to_list a.goal

-- the formulas that a rule needs: its goal and its hypotheses
abbrev pub needed_formulas : Body → List Formula
needed_formulas b = option_to_list b.goal ++ b.hyps

-- the formulas of a rule: those that it needs, those of its antecedents, and its terms
abbrev pub formulas_of : RuleKind → Body → List Formula
formulas_of k b = needed_formulas b ++ joined (map antecedent_formulas b.antecedents) ++ terms_of k

-- the identifiers that the antecedents add
abbrev pub added_by : Body → List (List ℕ × Ty)
added_by b = joined (map (λ a. a.idents) b.antecedents)

-- every free identifier of the formulas with its type, and every carrier set of their types
abbrev pub names_in : List Formula → List (List ℕ × Ty)
names_in formulas = joined (map identifiers formulas)

-- one more name in its place; a name that is there takes the type
abbrev pub with_name : List (List ℕ × Ty) → List ℕ × Ty → List (List ℕ × Ty)
with_name sorted x = insert_entry (slice_cmp nat_cmp) sorted x.0 x.1

-- each name once, in byte order of the names
abbrev pub sorted_by_name : List (List ℕ × Ty) → List (List ℕ × Ty)
sorted_by_name names = fold with_name [] names

-- the name is one of these
abbrev pub is_named : List (List ℕ × Ty) → List ℕ → Bool
is_named names name = list_any (λ x. bytes_eq x.0 name) names

-- the names that a rule asks of a sequent: those of its formulas without those that an antecedent adds
abbrev pub used_of : RuleKind → Body → List (List ℕ × Ty)
used_of k b = sorted_by_name (filter (λ x. not (is_named (added_by b) x.0)) (names_in (formulas_of k b)))

-- a formula that may stand in a rule: well, and within the limits
pub record IsAllowed (f : Formula) : Type 0 where
  pub well : IsTrue (is_well f)
  pub within : IsWithinLimits f

-- What a rule needs and leaves is right but for its form. Its formulas are well and within the limits, its goal and
-- its hypotheses are predicates, and no name has two types in it. The types that an antecedent adds are within the
-- limits too, and it adds no name twice.
pub record IsSound (k : RuleKind) (b : Body) : Type 0 where
  pub formulas : AllByRecursion IsAllowed (formulas_of k b)
  pub predicates : AllByRecursion (λ f. type_of f ≡ Truth) (needed_formulas b)
  pub added : AllByRecursion (λ x. type_nodes x.1 ≤ 4096) (added_by b)
  pub distinct : AllByRecursion (λ a. HasDistinctNames a.idents) b.antecedents
  pub one_type : AllByRecursion (Stands (sorted_by_name (names_in (formulas_of k b)))) (names_in (formulas_of k b))

-- the rule is one of the table: an instance of its kind, which is right in itself and names what it uses
pub record IsRule (r : Rule) : Type 0 where
  pub instance : IsInstance r.kind (body_of r)
  pub sound : IsSound r.kind (body_of r)
  pub used : r.used ≡ used_of r.kind (body_of r)

-- the operands of the operation whose value is too wide, where a kind computes: in a law at a place, or in the sums
-- of a linear step
abbrev pub width_at : ℕ → List ℕ → Formula → Option (ℤ × ℤ)
width_at law place f = option_and_then (λ law. option_and_then (width_of law) (at_place place f)) (law_of law)

abbrev pub linear_width : List ℤ → List Formula → Formula → Option (ℤ × ℤ)
linear_width ks hyps g = if has_linear_form g hyps ks then first_overflow (linear_sum g hyps ks) else None

abbrev pub width : RuleKind → Main → Option (ℤ × ℤ)
width (kind.RwGoal law place) m = option_and_then (width_at law place) m.goal
width (kind.RwHyp law place) m = option_and_then (width_at law place) (first m.hyps)
width (kind.Linear ks) m = option_and_then (linear_width ks m.hyps) m.goal
width _ m = None

-- the rule of a kind with what it needs and leaves
abbrev pub rule_of : RuleKind → Body → Rule
rule_of k b =
    record { kind = k; needed_goal = b.goal; needed_hyps = b.hyps; used = used_of k b; antecedents = b.antecedents }
