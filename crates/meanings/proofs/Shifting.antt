-- A shifted formula denotes what it did, over the values further out.
use Rattle.std.proofs.Common.{Bool, List, [], ap, append_assoc, arith, false, length, length-append, refl, reverse, slice_get, sym, true, ℕ, ◌++◌, ◌+◌, ◌-◌, ◌<◌, ◌∙◌, ◌∷◌, ◌≡◌, ◌≤◌}
use Rattle.std.proofs.lemmas.Bool.{ltb-false, ltb-true}
use Rattle.std.specs.List.{AllByRecursion}
use Rattle.std.specs.Prelude.{if◌then◌else◌, nat_lt, ⊤}
use Rattle.formula_core.proofs.Depths.{shifted-Bind, shifted-Bound, shifted-Free, shifted-Int, shifted-Node}
use Rattle.formula_core.proofs.Lists.{slice_get-append_left, slice_get-append_right}
use Rattle.formula_core.specs.Shifting.{raised, shifted}
use Rattle.formula_core.specs.declared.Formula.{Formula}
use Rattle.formula_core.specs.declared.Formula.TheVariants.{Bound}
use Rattle.formula_core.specs.declared.Ty.{Ty}
use Rattle.formula_core.specs.declared.formula.Formula.TheViews.{rolls-Bound}
use Rattle.meanings.specs.Denotations.{Assignment, bound_value, denotation}
use Rattle.meanings.specs.Universes.{Valuation, Universe}
use Rattle.meanings.specs.Values.{sort}
use Rattle.meanings.proofs.Carrying.{carried}
use Rattle.meanings.proofs.Denotations.{denotation-Bound, denotation-Free, denotation-Int}

module _ {carrier : List ℕ → Type 0} (U : Universe carrier) (names : Valuation carrier) (more : Assignment U) where
  abbrev Near : List Ty → ℕ → Assignment U → Assignment U → Type 0
  Near types d σ τ = (inner : Assignment U) × (outer : Assignment U) × (length inner ≡ d) × (σ ≡ inner ++ (more ++ outer)) × (τ ≡ inner ++ outer)

  near_bind : (own types : List Ty) (d : ℕ) (σ τ vs : Assignment U) → length vs ≡ length own → Near types d σ τ → Near (reverse own ++ types) (d + length own) (vs ++ σ) (vs ++ τ)
  near_bind own types d σ τ vs e near = (
    vs ++ near.0,
    near.1,
    omega (arith, length-append vs near.0, e, near.2),
    ap (λ s. vs ++ s) near.3 ∙ sym (append_assoc vs near.0 (more ++ near.1)),
    ap (λ s. vs ++ s) near.4 ∙ sym (append_assoc vs near.0 near.1),
  )

  found : (k : ℕ) (inner outer : Assignment U) (b : Bool) → nat_lt k (length inner) ≡ b
      → slice_get (inner ++ (more ++ outer)) (if b then k else (k + length more)) ≡ slice_get (inner ++ outer) k
  found k inner outer true e =
      let lt : k < length inner = ltb-true k (length inner) e in
      slice_get-append_left inner (more ++ outer) k lt ∙ sym (slice_get-append_left inner outer k lt)
  found k inner outer false e =
      let ge : length inner ≤ k = ltb-false k (length inner) e in
      slice_get-append_right inner (more ++ outer) (k + length more) (omega (arith, ge))
      ∙ slice_get-append_right more outer (k + length more - length inner) (omega (arith, ge))
      ∙ ap (slice_get outer) (omega (arith, ge))
      ∙ sym (slice_get-append_right inner outer k ge)

  index_same : (k : ℕ) (t : Ty) (types : List Ty) (d : ℕ) (σ τ : Assignment U) → Near types d σ τ → ⊤ → denotation U names (shifted (length more) d (Bound k t)) σ ≡ denotation U names (Bound k t) τ
  index_same k t types d σ τ near fits =
      let at_k : slice_get σ (raised (length more) d k) ≡ slice_get τ k =
      ap (λ s. slice_get s (raised (length more) d k)) near.3
      ∙ ap (λ n. slice_get (near.0 ++ (more ++ near.1)) (raised (length more) n k)) (sym near.2)
      ∙ found k near.0 near.1 (nat_lt k (length near.0)) refl ∙ ap (λ s. slice_get s k) (sym near.4) in
      ap (λ f. denotation U names f σ) (shifted-Bound (length more) d k t ∙ rolls-Bound (raised (length more) d k) t) ∙ denotation-Bound U names (raised (length more) d k) t σ
      ∙ ap (λ o. (sort t, bound_value U (sort t) o)) at_k ∙ sym (denotation-Bound U names k t τ)

  each_fits : (parts : List Formula) → AllByRecursion (λ p. ⊤) parts
  each_fits [] = tt
  each_fits (p ∷ parts) = (tt, each_fits parts)

  pub denotation-shifted : (f : Formula) (inner outer : Assignment U) → denotation U names (shifted (length more) (length inner) f) (inner ++ (more ++ outer)) ≡ denotation U names f (inner ++ outer)
  denotation-shifted f inner outer =
      carried U names names (shifted (length more)) (λ f types. ⊤) Near
      (λ op parts t d. shifted-Node (length more) d op parts t)
      (λ b own parts t d. shifted-Bind (length more) d b own parts t)
      (λ op parts t types fits. each_fits parts)
      (λ b own parts t types fits. each_fits parts)
      near_bind
      (λ k types d σ τ near fits. ap (λ f. denotation U names f σ) (shifted-Int (length more) d k) ∙ denotation-Int U names k σ ∙ sym (denotation-Int U names k τ))
      (λ name t types d σ τ near fits. ap (λ f. denotation U names f σ) (shifted-Free (length more) d name t) ∙ denotation-Free U names name t σ ∙ sym (denotation-Free U names name t τ))
      index_same
      f [] (length inner) (inner ++ (more ++ outer)) (inner ++ outer) (inner, outer, refl, refl, refl) tt

  -- the form in which laws use it: below the new identifiers alone
  pub denotation-below : (f : Formula) (outer : Assignment U) → denotation U names (shifted (length more) 0 f) (more ++ outer) ≡ denotation U names f outer
  denotation-below f outer = denotation-shifted f [] outer
