-- What a formula denotes in a universe.
use Rattle.std.specs.Prelude.{ℕ, Bool, ◌&&◌, List, [], ◌∷◌, map, slice_get, Option, Some, None, IsTrue}
use Rattle.std.specs.List.{AllByRecursion}
use Rattle.formula_core.specs.declared.Binder.{Binder}
use Rattle.formula_core.specs.declared.Binder.TheVariants as binder
use Rattle.formula_core.specs.declared.Formula.{Formula}
use Rattle.formula_core.specs.declared.Formula.TheOpen.{Formula-F, Int, Free, Bound, Node, Bind}
use Rattle.formula_core.specs.declared.Formula.TheFolds.{fold-Formula}
use Rattle.meanings.specs.Values.{Sort, integer_sort, sort, Value, Denotation}
use Rattle.meanings.specs.Universes.{Universe, Valuation, some_of, every_of, arbitrary, cast}
use Rattle.meanings.specs.Operations.{implies, truth_value, contains, as_truth, as_set, of_list}

module _ {carrier : List ℕ → Type 0} (U : Universe carrier) where
  -- values for the bound identifiers, the last one bound first
  abbrev pub Assignment : Type 0
  Assignment = List (Denotation carrier)

  abbrev pub bound_value : (s : Sort) → Option (Denotation carrier) → Value carrier s
  bound_value s None = arbitrary U s
  bound_value s (Some x) = cast U s x

  abbrev pub of_binder : Binder → List Sort → (s : Sort) → List (Assignment → Denotation carrier) → Assignment → Value carrier s
  of_binder binder.ForAll sorts s (p ∷ []) bound = as_truth U s (every_of U sorts bound (λ inner. truth_value U (p inner)))
  of_binder binder.Exists sorts s (p ∷ []) bound = as_truth U s (some_of U sorts bound (λ inner. truth_value U (p inner)))
  of_binder binder.Comprehension sorts s (p ∷ e ∷ []) bound =
      as_set U s (λ a v. some_of U sorts bound (λ inner. truth_value U (p inner) && U.same a v (cast U a (e inner))))
  of_binder binder.QuantifiedUnion sorts s (p ∷ e ∷ []) bound =
      as_set U s (λ a v. some_of U sorts bound (λ inner. truth_value U (p inner) && contains U (e inner) a v))
  of_binder binder.QuantifiedIntersection sorts s (p ∷ e ∷ []) bound =
      as_set U s (λ a v. every_of U sorts bound (λ inner. implies (truth_value U (p inner)) (contains U (e inner) a v)))
  of_binder b sorts s parts bound = arbitrary U s

  module _ (names : Valuation carrier) where
    abbrev pub denotation_step : Formula-F (Assignment → Denotation carrier) → Assignment → Denotation carrier
    denotation_step (Int n) bound = (integer_sort, n)
    denotation_step (Free name t) bound = (sort t, names name (sort t))
    denotation_step (Bound i t) bound = (sort t, bound_value (sort t) (slice_get bound i))
    denotation_step (Node op parts t) bound = (sort t, of_list U op (sort t) (map (λ p. p bound) parts))
    denotation_step (Bind b types parts t) bound = (sort t, of_binder b (map sort types) (sort t) parts bound)

    -- what a formula denotes: its sort is that of its type
    abbrev pub denotation : Formula → Assignment → Denotation carrier
    denotation = fold-Formula (Assignment → Denotation carrier) denotation_step

    -- whether a predicate without bound identifiers is true
    abbrev pub holds : Formula → Bool
    holds f = truth_value U (denotation f [])

    abbrev pub AreTrue : List Formula → Type 0
    AreTrue fs = AllByRecursion (λ f. IsTrue (holds f)) fs
