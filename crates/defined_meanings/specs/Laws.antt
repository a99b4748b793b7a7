-- Where formulas are well-defined, what they denote doesn't depend on choices.
use Rattle.std.specs.Prelude.{◌≡◌, ◌↔◌, ℕ, Bool, List, [], ◌∷◌, ◌++◌, map, IsTrue}
use Rattle.std.specs.List.{AllByRecursion}
use Rattle.formula_core.specs.declared.Ty.{Ty}
use Rattle.formula_core.specs.declared.Formula.{Formula}
use Rattle.formula_core.specs.Typed.{IsPredicateIn}
use Rattle.formula_core.specs.Wellness.{is_well_in}
use Rattle.well_defined.specs.Conditions.{wd_of}
use Rattle.meanings.specs.Values.{Sort, sort, Value, Denotation}
use Rattle.meanings.specs.Universes.{Universe, Valuation}
use Rattle.meanings.specs.Denotations.{denotation, holds, AreTrue}
use Rattle.meanings.specs.Operations.{truth_value}
use Rattle.meanings.specs.Interpretations.{NoCarrier, Carriers}

-- values for bound identifiers of these types
abbrev pub FitsTypes : {carrier : List ℕ → Type 0} → List (Denotation carrier) → List Ty → Type 0
FitsTypes bound types = map (λ x. x.0) bound ≡ map sort types

module _ {carrier : List ℕ → Type 0} (U : Universe carrier) (names : Valuation carrier) where
  -- a formula's condition is true
  abbrev pub IsDefined : Formula → List (Denotation carrier) → Type 0
  IsDefined f bound = IsTrue (truth_value U (denotation U names (wd_of f) bound))

  -- the goal is true where the hypotheses are
  abbrev pub Entails : List Formula → Formula → Type 0
  Entails hyps goal = AreTrue U names hyps → IsTrue (holds U names goal)

  -- the condition of each formula is true where the formulas before it are
  abbrev pub AreDefinedInTurn : List Formula → Type 0
  AreDefinedInTurn fs = (before : List Formula) (f : Formula) (behind : List Formula) → fs ≡ before ++ f ∷ behind → Entails before (wd_of f)

-- Of two universes over the same carrier sets, whatever each chooses, and names with the same values: a well formula whose condition is
-- true in one denotes the same in both, below bound identifiers, too.
abbrev pub DefinedFormulasDenoteOne : Type 0
DefinedFormulasDenoteOne =
    (shape : List ℕ → Sort) (test : (set : List ℕ) → Value NoCarrier (shape set) → Bool) (U V : Universe (Carriers shape test))
    (names : Valuation (Carriers shape test)) (f : Formula) (types : List Ty) (bound : List (Denotation (Carriers shape test))) →
    IsTrue (is_well_in f types) → FitsTypes bound types → IsDefined U names f bound → denotation U names f bound ≡ denotation V names f bound

-- The condition of a well formula is then true in both: which formulas are defined depends on no choice, either.
abbrev pub DefinedInOneIsDefinedInAll : Type 0
DefinedInOneIsDefinedInAll =
    (shape : List ℕ → Sort) (test : (set : List ℕ) → Value NoCarrier (shape set) → Bool) (U V : Universe (Carriers shape test))
    (names : Valuation (Carriers shape test)) (f : Formula) (types : List Ty) (bound : List (Denotation (Carriers shape test))) →
    IsTrue (is_well_in f types) → FitsTypes bound types → IsDefined U names f bound → IsDefined V names f bound

-- So of predicates, if the hypotheses and then the goal are defined in turn in one, the goal follows from them in both or in neither.
abbrev pub DefinedSequentsAgree : Type 0
DefinedSequentsAgree =
    (shape : List ℕ → Sort) (test : (set : List ℕ) → Value NoCarrier (shape set) → Bool) (U V : Universe (Carriers shape test))
    (names : Valuation (Carriers shape test)) (env : List (List ℕ × Ty)) (hyps : List Formula) (goal : Formula) →
    AllByRecursion (IsPredicateIn env) hyps → IsPredicateIn env goal → AreDefinedInTurn U names (hyps ++ goal ∷ []) →
    Entails U names hyps goal ↔ Entails V names hyps goal
