-- Rules that a hint names fit, and no form is answered only where the table of rules has none.
use Rattle.std.specs.Prelude.{◌≡◌, ◌↔◌, ℕ, List, Some, Err}
use Rattle.formula_core.specs.declared.Formula.{Formula}
use Rattle.rule_table.specs.declared.kind.RuleKind.{RuleKind}
use Rattle.rule_table.specs.declared.rule.Body.{Body}
use Rattle.sequent_core.specs.declared.hint.Hint.{Hint}
use Rattle.sequent_core.specs.declared.sequent.Sequent.{Sequent}
use Rattle.sequent_core.specs.Sequents.{IsSequent}
use Rattle.rule_making.specs.declared.fault.RuleFault.TheVariants.{NoForm}
use Rattle.rule_making.specs.Make.{Answers, AreTerms, FitsAt, IsNamed, IsWithinSizes, WithTerms, replaced_types, unfit}
use Rattle.rule_table.specs.Rules.{rule_of}

-- What a hint with typed terms names for a sequent, of any kind and by any law, and is within the limits, is a rule
-- of the table that applies there.
abbrev pub NamedRulesFit : Type 0
NamedRulesFit =
    (n : ℕ) (h : Hint) (s : Sequent) (terms : List Formula) (k : RuleKind) (b : Body) → IsSequent s
    → AreTerms s.env (replaced_types n h s) h.terms terms → IsNamed n h terms s k b → IsWithinSizes k b
    → FitsAt (rule_of k b) s

-- no form is the answer exactly where the table has none for the formulas that the hint names
abbrev pub NoFormIsTheTables : Type 0
NoFormIsTheTables =
    (n : ℕ) (h : Hint) (s : Sequent) → IsSequent s
    → Answers n h s (Err NoForm) ↔ WithTerms n h s (λ terms. unfit n h terms s ≡ Some NoForm)
