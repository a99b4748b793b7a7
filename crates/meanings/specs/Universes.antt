-- Classical universes: tests and choices that no program can make.
use Rattle.std.specs.Prelude.{◌≡◌, ◌↔◌, ℕ, Bool, true, not, List, [], ◌∷◌, IsTrue}
use Rattle.meanings.specs.Values.{Sort, integer_sort, boolean_sort, carrier_sort, power_sort, pair_sort, Value, Denotation}

-- Over the elements of carrier sets, of which none is empty. That each family of such sets has these tests and choices is what
-- classical mathematics grants, by the axiom of choice.
pub record Universe (carrier : List ℕ → Type 0) : Type 0 where
  -- a value that passes a test, if any does, and any value if none does
  pub choose : (s : Sort) → (Value carrier s → Bool) → Value carrier s
  pub chooses : (s : Sort) (test : Value carrier s → Bool) (v : Value carrier s) → IsTrue (test v) → IsTrue (test (choose s test))
  -- whether two values are the same
  pub same : (s : Sort) → Value carrier s → Value carrier s → Bool
  pub same_exact : (s : Sort) (x y : Value carrier s) → IsTrue (same s x y) ↔ (x ≡ y)
  -- an element of one carrier set taken as one of another: itself where they are the same, and else any
  pub recast : (a b : List ℕ) → carrier a → carrier b
  pub recast_own : (a : List ℕ) (x : carrier a) → recast a a x ≡ x

-- what the free names stand for, at each sort
abbrev pub Valuation : (List ℕ → Type 0) → Type 0
Valuation carrier = List ℕ → (s : Sort) → Value carrier s

module _ {carrier : List ℕ → Type 0} (U : Universe carrier) where
  -- whether some value of a sort passes a test, and whether each does
  abbrev pub some : (s : Sort) → (Value carrier s → Bool) → Bool
  some s test = test (U.choose s test)

  abbrev pub every : (s : Sort) → (Value carrier s → Bool) → Bool
  every s test = not (some s (λ v. not (test v)))

  -- the same for values of several sorts, of which each is put before those that stand already
  abbrev pub some_of : List Sort → List (Denotation carrier) → (List (Denotation carrier) → Bool) → Bool
  some_of [] values test = test values
  some_of (s ∷ sorts) values test = some s (λ v. some_of sorts ((s, v) ∷ values) test)

  abbrev pub every_of : List Sort → List (Denotation carrier) → (List (Denotation carrier) → Bool) → Bool
  every_of [] values test = test values
  every_of (s ∷ sorts) values test = every s (λ v. every_of sorts ((s, v) ∷ values) test)

  -- any value of a sort
  abbrev pub arbitrary : (s : Sort) → Value carrier s
  arbitrary s = U.choose s (λ v. true)

  -- a value of one sort taken as one of another, and back: itself where they are the same, and else any
  abbrev pub casts : (s t : Sort) → (Value carrier s → Value carrier t) × (Value carrier t → Value carrier s)
  casts integer_sort integer_sort = (λ v. v, λ v. v)
  casts boolean_sort boolean_sort = (λ v. v, λ v. v)
  casts (carrier_sort a) (carrier_sort b) = (U.recast a b, U.recast b a)
  casts (power_sort s) (power_sort t) = (λ v x. v ((casts s t).1 x), λ v x. v ((casts s t).0 x))
  casts (pair_sort s u) (pair_sort t w) =
      (λ v. ((casts s t).0 v.0, (casts u w).0 v.1), λ v. ((casts s t).1 v.0, (casts u w).1 v.1))
  casts s t = (λ v. arbitrary t, λ v. arbitrary s)

  -- what is denoted, taken at a sort
  abbrev pub cast : (s : Sort) → Denotation carrier → Value carrier s
  cast s x = (casts x.0 s).0 x.1
