-- Carrier sets that a clause can speak of, and names that stand for them.
use Rattle.std.specs.Prelude.{ℕ, Bool, List, IsTrue}
use Rattle.formula_core.specs.declared.Ty.{Ty}
use Rattle.formula_core.specs.declared.Ty.TheVariants.{Given, Pow}
use Rattle.formula_core.specs.Typed.{Stands}
use Rattle.meanings.specs.Values.{Sort, carrier_sort, power_sort, Value}
use Rattle.meanings.specs.Universes.{Universe, Valuation}

-- in an environment, the name of each carrier set stands for the whole of it
abbrev pub NamesCarriers : {carrier : List ℕ → Type 0} → Universe carrier → List (List ℕ × Ty) → Valuation carrier → Type 0
NamesCarriers {carrier} U env names =
    (set : List ℕ) → Stands env (set, Pow (Given set)) → (x : carrier set) → IsTrue (names set (power_sort (carrier_sort set)) x)

-- no element in any carrier set: the values of a sort without carrier sets are over these
abbrev pub NoCarrier : List ℕ → Type 0
NoCarrier set = ⊥

-- The values of a sort that pass a test, a sort and a test for each carrier set. Among them are carrier sets of each finite size, and of
-- the sizes of the integers, of their sets, of the sets of these, and so on.
abbrev pub Carriers : (shape : List ℕ → Sort) → ((set : List ℕ) → Value NoCarrier (shape set) → Bool) → List ℕ → Type 0
Carriers shape test set = (v : Value NoCarrier (shape set)) × IsTrue (test set v)
