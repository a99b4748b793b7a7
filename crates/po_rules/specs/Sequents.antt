-- What the rows of an event rest on, so that each of their obligations is a sequent.
use Rattle.std.specs.Prelude.{◌≡◌, ℕ, List, Some}
use Rattle.std.specs.List.{AllByRecursion}
use Rattle.formula_core.specs.declared.ty.Ty.{Ty}
use Rattle.formula_core.specs.declared.formula.Formula.{Formula}
use Rattle.formula_core.specs.Env.{type_in}
use Rattle.formula_core.specs.Wellness.{type_of}
use Rattle.sequent_core.specs.declared.sequent.Obligation.{Obligation}
use Rattle.formula_core.specs.Typed.{IsTypedIn, IsPredicateIn, IsGoodEnv}
use Rattle.sequent_core.specs.Sequents.{IsSequent}
use Rattle.po_rules.specs.Parts.{EventParts}

-- a new value is typed, with the type of its variable
abbrev pub IsNewValueIn : List (List ℕ × Ty) → List ℕ × Formula → Type 0
IsNewValueIn env q = IsTypedIn env q.1 × (type_in env q.0 ≡ Some (type_of q.1))

pub record AreGoodParts (p : EventParts) : Type 0 where
  pub env : IsGoodEnv p.env
  pub base : AllByRecursion (IsPredicateIn p.env) p.base
  pub choices : AllByRecursion (IsPredicateIn p.env) p.choices
  pub witnesses : AllByRecursion (λ w. IsPredicateIn p.env w.1 × ((t : Ty) × (type_in p.env w.0 ≡ Some t))) p.witnesses
  pub after : AllByRecursion (IsNewValueIn p.env) p.after

abbrev pub AreSequents : List Obligation → Type 0
AreSequents obligations = AllByRecursion (λ o. IsSequent o.sequent) obligations
