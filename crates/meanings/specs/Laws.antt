-- Laws of what formulas denote.
use Rattle.std.specs.Prelude.{◌↔◌, ℕ, Bool, List, IsTrue}
use Rattle.std.specs.List.{list_any}
use Rattle.meanings.specs.Values.{Sort, Value}
use Rattle.meanings.specs.Universes.{Universe}
use Rattle.meanings.specs.Operations.{is_finite}
use Rattle.meanings.specs.Interpretations.{NoCarrier, Carriers}

-- some list has each member of a set
abbrev pub HasList : {carrier : List ℕ → Type 0} → Universe carrier → (s : Sort) → (Value carrier s → Bool) → Type 0
HasList {carrier} U s set = (xs : List (Value carrier s)) × ((v : Value carrier s) → IsTrue (set v) → IsTrue (list_any (U.same s v) xs))

-- a set is finite exactly where some list has each of its members
abbrev pub FiniteIsListed : Type 0
FiniteIsListed =
    (shape : List ℕ → Sort) (test : (set : List ℕ) → Value NoCarrier (shape set) → Bool) (U : Universe (Carriers shape test)) (s : Sort)
    (set : Value (Carriers shape test) s → Bool) → IsTrue (is_finite U s set) ↔ HasList U s set
