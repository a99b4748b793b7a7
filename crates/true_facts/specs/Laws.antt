-- The facts are true.
use Rattle.std.specs.Prelude.{ℕ, Bool, List}
use Rattle.meanings.specs.Values.{Sort, Value}
use Rattle.meanings.specs.Universes.{Universe, Valuation}
use Rattle.meanings.specs.Denotations.{AreTrue}
use Rattle.meanings.specs.Interpretations.{NoCarrier, Carriers}
use Rattle.true_facts.specs.Facts.{facts}

-- in each classical universe, for whatever names stand for, each fact on two carrier sets is true
abbrev pub FactsAreTrue : List ℕ → List ℕ → Type 0
FactsAreTrue S T =
    (shape : List ℕ → Sort) (test : (set : List ℕ) → Value NoCarrier (shape set) → Bool) (U : Universe (Carriers shape test))
    (names : Valuation (Carriers shape test)) → AreTrue U names (facts S T)
