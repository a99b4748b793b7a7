-- A formula that is well below some bound identifiers denotes the same whatever stands further out.
use Rattle.std.proofs.Common.{List, [], ap, append_assoc, arith, length, length-append, map-id, refl, reverse, slice_get, sym, ℕ, ◌++◌, ◌+◌, ◌<◌, ◌∙◌, ◌≡◌}
use Rattle.std.proofs.lemmas.List.{length-reverse}
use Rattle.formula_core.proofs.Lists.{slice_get-append_left}
use Rattle.formula_core.specs.declared.Formula.{Formula}
use Rattle.formula_core.specs.declared.Formula.TheVariants.{Bind, Bound, Node}
use Rattle.formula_core.specs.declared.Ty.{Ty}
use Rattle.meanings.specs.Denotations.{Assignment, bound_value, denotation}
use Rattle.meanings.specs.Universes.{Valuation, Universe}
use Rattle.meanings.specs.Values.{sort}
use Rattle.meanings.proofs.Carrying.{carried}
use Rattle.meanings.proofs.Denotations.{denotation-Bound, denotation-Free, denotation-Int}
use Rattle.meanings.proofs.Fitting.{IsWellIn, index_within, well_below, well_parts}

module _ {carrier : List ℕ → Type 0} (U : Universe carrier) (names : Valuation carrier) (more : Assignment U) where
  abbrev Near : List Ty → ℕ → Assignment U → Assignment U → Type 0
  Near types d σ τ = (σ ≡ τ ++ more) × (length τ ≡ length types)

  near_bind : (own types : List Ty) (d : ℕ) (σ τ vs : Assignment U) → length vs ≡ length own → Near types d σ τ → Near (reverse own ++ types) (d + length own) (vs ++ σ) (vs ++ τ)
  near_bind own types d σ τ vs e near = (
    ap (λ s. vs ++ s) near.0 ∙ sym (append_assoc vs τ more),
    omega (arith, length-append vs τ, length-append (reverse own) types, length-reverse own, e, near.1),
  )

  index_same : (k : ℕ) (t : Ty) (types : List Ty) (d : ℕ) (σ τ : Assignment U) → Near types d σ τ → IsWellIn (Bound k t) types → denotation U names (Bound k t) σ ≡ denotation U names (Bound k t) τ
  index_same k t types d σ τ near fits =
      let lt : k < length τ = omega (arith, index_within k t types fits, near.1) in
      denotation-Bound U names k t σ
      ∙ ap (λ o. (sort t, bound_value U (sort t) o)) (ap (λ s. slice_get s k) near.0 ∙ slice_get-append_left τ more k lt)
      ∙ sym (denotation-Bound U names k t τ)

  pub denotation-within : (f : Formula) (types : List Ty) (τ : Assignment U) → length τ ≡ length types → IsWellIn f types → denotation U names f (τ ++ more) ≡ denotation U names f τ
  denotation-within f types τ e fits =
      carried U names names (λ d f. f) IsWellIn Near
      (λ op parts t d. ap (λ ps. Node op ps t) (sym (map-id parts)))
      (λ b own parts t d. ap (λ ps. Bind b own ps t) (sym (map-id parts)))
      well_parts well_below near_bind
      (λ k types d σ τ near fits. denotation-Int U names k σ ∙ sym (denotation-Int U names k τ))
      (λ name t types d σ τ near fits. denotation-Free U names name t σ ∙ sym (denotation-Free U names name t τ))
      index_same
      f types 0 (τ ++ more) τ (refl, e) fits

-- a well formula means the same in each scope
pub denotation-closed : {carrier : List ℕ → Type 0} → (U : Universe carrier) (names : Valuation carrier) (f : Formula) (σ : Assignment U) → IsWellIn f [] → denotation U names f σ ≡ denotation U names f []
denotation-closed U names f σ fits = denotation-within U names σ f [] [] refl fits
