-- A value taken at its own sort is itself.
use Rattle.std.proofs.Common.{List, refl, subst, ℕ, ◌≡◌}
use Rattle.meanings.specs.Universes.{Universe, cast, casts}
use Rattle.meanings.specs.Values.{Sort, Denotation, Value, boolean_sort, carrier_sort, integer_sort, pair_sort, power_sort}

module _ {carrier : List ℕ → Type 0} (U : Universe carrier) where
  pub casts_own : (s : Sort) → ((casts U s s).0 ≡ (λ v. v)) × ((casts U s s).1 ≡ (λ v. v))
  casts_own integer_sort = (refl, refl)
  casts_own boolean_sort = (refl, refl)
  casts_own (carrier_sort a) = (λ i v. U.recast_own a v i, λ i v. U.recast_own a v i)
  casts_own (power_sort s) = let c = casts_own s in (λ i v x. v (c.1 i x), λ i v x. v (c.0 i x))
  casts_own (pair_sort s t) =
      let c = casts_own s in let d = casts_own t in
      (λ i v. (c.0 i v.0, d.0 i v.1), λ i v. (c.1 i v.0, d.1 i v.1))

  pub cast_own : (s : Sort) (v : Value carrier s) → cast U s (s, v) ≡ v
  cast_own s v = λ i. (casts_own s).0 i v

  pub cast_known : (x : Denotation carrier) (s : Sort) → x.0 ≡ s → (s, cast U s x) ≡ x
  cast_known x s e =
      let P : Sort → Type 0 = λ s. Path (Denotation carrier) (s, cast U s x) x in
      let here : P x.0 = λ i. (x.0, cast_own x.0 x.1 i) in
      subst P e here
