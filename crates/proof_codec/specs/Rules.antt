-- Rules as bytes. Each definition of what is good stands once, over what is asked of the parts.
use Rattle.std.specs.Prelude.{ℕ, ℤ, List, [], ◌∷◌, Option}
use Rattle.formula_core.specs.declared.Ty.{Ty}
use Rattle.formula_core.specs.declared.Formula.{Formula}
use Rattle.rule_table.specs.declared.kind.RuleKind.{RuleKind}
use Rattle.rule_table.specs.declared.kind.RuleKind.TheVariants as kind
use Rattle.rule_table.specs.declared.rule.Antecedent.{Antecedent}
use Rattle.rule_table.specs.declared.rule.Rule.{Rule}
use Rattle.rule_table.specs.Kinds.{kind_number}
use Rattle.proof_codec.specs.Numbers.{IsByte, byte, FitsU32, number_bytes, IsInteger, integer, text_bytes}
use Rattle.proof_codec.specs.Names.{IsGoodName}
use Rattle.proof_codec.specs.Parts.{IsAny, pair_bytes, IsPair, option_bytes, IsOption, list_bytes, IsList}
use Rattle.proof_codec.specs.Types.{type_bytes, IsGoodType, IsFitType}
use Rattle.proof_codec.specs.Formulas.{formula_bytes, IsGoodFormula, IsFitFormula}

-- the number of a kind, and what it has of its own: terms, a law and its place, or multipliers
abbrev pub kind_bytes : RuleKind → List ℕ
kind_bytes (kind.AllL terms) = 18 ∷ list_bytes formula_bytes terms
kind_bytes (kind.ExR terms) = 19 ∷ list_bytes formula_bytes terms
kind_bytes (kind.RwGoal law place) = 29 ∷ pair_bytes byte (list_bytes number_bytes) (law, place)
kind_bytes (kind.RwHyp law place) = 30 ∷ pair_bytes byte (list_bytes number_bytes) (law, place)
kind_bytes (kind.Linear multipliers) = 31 ∷ list_bytes integer multipliers
kind_bytes k = kind_number k ∷ []

abbrev pub IsKindBy : (Formula → Type 0) → (ℕ × List ℕ → Type 0) → (List ℤ → Type 0) → RuleKind → Type 0
IsKindBy IsTerm IsRewriting AreMultipliers (kind.AllL terms) = IsList IsTerm terms
IsKindBy IsTerm IsRewriting AreMultipliers (kind.ExR terms) = IsList IsTerm terms
IsKindBy IsTerm IsRewriting AreMultipliers (kind.RwGoal law place) = IsRewriting (law, place)
IsKindBy IsTerm IsRewriting AreMultipliers (kind.RwHyp law place) = IsRewriting (law, place)
IsKindBy IsTerm IsRewriting AreMultipliers (kind.Linear multipliers) = AreMultipliers multipliers
IsKindBy IsTerm IsRewriting AreMultipliers k = Unit {0}

abbrev pub IsGoodKind : RuleKind → Type 0
IsGoodKind = IsKindBy IsGoodFormula (IsPair IsByte (IsList FitsU32)) (IsList IsInteger)

abbrev pub IsFitKind : RuleKind → Type 0
IsFitKind = IsKindBy IsFitFormula (IsPair IsAny (IsList IsAny)) (IsList IsAny)

-- a name and its type
abbrev pub identifier_bytes : List ℕ × Ty → List ℕ
identifier_bytes = pair_bytes text_bytes type_bytes

abbrev pub IsGoodIdentifier : List ℕ × Ty → Type 0
IsGoodIdentifier = IsPair IsGoodName IsGoodType

abbrev pub IsFitIdentifier : List ℕ × Ty → Type 0
IsFitIdentifier = IsPair IsAny IsFitType

-- identifiers, hypotheses, and a goal, if there is one
abbrev pub antecedent_parts : Antecedent → List (List ℕ × Ty) × (List Formula × Option Formula)
antecedent_parts a = (a.idents, (a.hyps, a.goal))

abbrev pub antecedent_bytes : Antecedent → List ℕ
antecedent_bytes a = pair_bytes (list_bytes identifier_bytes) (pair_bytes (list_bytes formula_bytes) (option_bytes formula_bytes)) (antecedent_parts a)

abbrev pub IsAntecedentOf : (Formula → Type 0) → (List ℕ × Ty → Type 0) → Antecedent → Type 0
IsAntecedentOf IsTerm IsIdent a = IsPair (IsList IsIdent) (IsPair (IsList IsTerm) (IsOption IsTerm)) (antecedent_parts a)

-- the kind, the needed goal, if there is one, the needed hypotheses, the used names, and the antecedents
abbrev pub rule_parts : Rule → RuleKind × (Option Formula × (List Formula × (List (List ℕ × Ty) × List Antecedent)))
rule_parts r = (r.kind, (r.needed_goal, (r.needed_hyps, (r.used, r.antecedents))))

abbrev pub rule_bytes : Rule → List ℕ
rule_bytes r =
    pair_bytes kind_bytes (pair_bytes (option_bytes formula_bytes) (pair_bytes (list_bytes formula_bytes)
    (pair_bytes (list_bytes identifier_bytes) (list_bytes antecedent_bytes)))) (rule_parts r)

abbrev pub IsRuleOf : (Formula → Type 0) → (List ℕ × Ty → Type 0) → (RuleKind → Type 0) → Rule → Type 0
IsRuleOf IsTerm IsIdent IsOfKind r =
    IsPair IsOfKind (IsPair (IsOption IsTerm) (IsPair (IsList IsTerm)
    (IsPair (IsList IsIdent) (IsList (IsAntecedentOf IsTerm IsIdent))))) (rule_parts r)

abbrev pub IsGoodRule : Rule → Type 0
IsGoodRule = IsRuleOf IsGoodFormula IsGoodIdentifier IsGoodKind

-- a rule that may be written
abbrev pub IsFitRule : Rule → Type 0
IsFitRule = IsRuleOf IsFitFormula IsFitIdentifier IsFitKind
