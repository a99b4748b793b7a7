-- The laws of the table of rules keep what formulas denote.
use Rattle.std.specs.Prelude.{◌≡◌, ℕ, Bool, List, Some, IsTrue}
use Rattle.std.specs.List.{AllByRecursion}
use Rattle.formula_core.specs.declared.Ty.{Ty}
use Rattle.formula_core.specs.declared.Formula.{Formula}
use Rattle.formula_core.specs.Identifiers.{identifiers}
use Rattle.formula_core.specs.Typed.{Stands}
use Rattle.formula_core.specs.Wellness.{is_well_in}
use Rattle.rule_table.specs.declared.law.Law.{Law}
use Rattle.rule_table.specs.Rewriting.{right_side}
use Rattle.meanings.specs.Values.{Sort, Value}
use Rattle.meanings.specs.Universes.{Universe, Valuation}
use Rattle.meanings.specs.Denotations.{denotation}
use Rattle.meanings.specs.Interpretations.{NamesCarriers, NoCarrier, Carriers}

-- In each classical universe, for whatever names stand for: what a law makes of a formula denotes what the formula does, where that is
-- well below some bound identifiers and its identifiers stand in an environment.
abbrev pub KeepsDenotations : Law → Type 0
KeepsDenotations law =
    (shape : List ℕ → Sort) (test : (set : List ℕ) → Value NoCarrier (shape set) → Bool) (U : Universe (Carriers shape test))
    (env : List (List ℕ × Ty)) (names : Valuation (Carriers shape test)) → NamesCarriers U env names → (f g : Formula) (types : List Ty) →
    IsTrue (is_well_in f types) → AllByRecursion (Stands env) (identifiers f) → right_side law f ≡ Some g →
    denotation U names g ≡ denotation U names f
