-- The laws, from the lemma on what is named.
use Rattle.std.proofs.Common.{◌≡◌, inl, inr, ℕ, List, Some, Err}
use Rattle.formula_core.specs.declared.Formula.{Formula}
use Rattle.sequent_core.specs.declared.hint.Hint.{Hint}
use Rattle.sequent_core.specs.declared.sequent.Sequent.{Sequent}
use Rattle.sequent_core.specs.Sequents.{IsSequent}
use Rattle.rule_making.specs.declared.fault.RuleFault.TheVariants.{NoForm}
use Rattle.rule_making.specs.Make.{Answers, AreTerms, StandsAgainst, WithTerms, replaced_types, unfit}
use Rattle.made_rules.specs.Laws.{NamedRulesFit, NoFormIsTheTables}
use Rattle.made_rules.proofs.Named.{fits}

pub named_rules_fit : NamedRulesFit
named_rules_fit n h s terms k b is are named sizes = fits n h s terms is are k b named sizes

module _ (n : ℕ) (h : Hint) (s : Sequent) (is : IsSequent s) where
  -- what stands against a rule is that it has no form
  has_none : (terms : List Formula) → AreTerms s.env (replaced_types n h s) h.terms terms → StandsAgainst n h s NoForm terms → unfit n h terms s ≡ Some NoForm
  has_none terms are against = elim against [
    | inl e ↦ e
    | inr x ↦ absurd (x.4 (fits n h s terms is are x.0 x.1 x.2 x.3))
  ]

  none_there : Answers n h s (Err NoForm) → WithTerms n h s (λ terms. unfit n h terms s ≡ Some NoForm)
  none_there a = (a.0, a.1, a.2, has_none a.1 a.2 a.3)

  none_answered : WithTerms n h s (λ terms. unfit n h terms s ≡ Some NoForm) → Answers n h s (Err NoForm)
  none_answered w = (w.0, w.1, w.2, inl w.3)

pub no_form_is_the_tables : NoFormIsTheTables
no_form_is_the_tables n h s is = (none_there n h s is, none_answered n h s is)
