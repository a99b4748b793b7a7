-- A formula denotes the same under names that agree on its identifiers.
use Rattle.std.proofs.Common.{List, [], ap, map-id, refl, subst, sym, ℕ, ◌++◌, ◌∙◌, ◌≡◌}
use Rattle.std.specs.List.{AllByRecursion}
use Rattle.formula_core.proofs.Equations.{identifiers-Free}
use Rattle.formula_core.specs.declared.Formula.{Formula}
use Rattle.formula_core.specs.declared.Formula.TheVariants.{Bind, Bound, Node}
use Rattle.formula_core.specs.declared.Ty.{Ty}
use Rattle.meanings.specs.Denotations.{Assignment, denotation}
use Rattle.meanings.specs.Universes.{Valuation, Universe}
use Rattle.meanings.specs.Values.{sort}
use Rattle.meanings.proofs.Carrying.{carried}
use Rattle.meanings.proofs.Denotations.{denotation-Bound, denotation-Free, denotation-Int}
use Rattle.meanings.proofs.Fitting.{OfEach, named_below, named_parts}

module _ {carrier : List ℕ → Type 0} (U : Universe carrier) (n m : Valuation carrier) where
  abbrev pub Agree : List ℕ × Ty → Type 0
  Agree x = n x.0 ≡ m x.0

  pub names_agree : (f : Formula) (σ : Assignment U) → OfEach Agree f → denotation U n f σ ≡ denotation U m f σ
  names_agree f σ fits =
      carried U n m (λ d f. f) (λ f types. OfEach Agree f) (λ types d σ τ. σ ≡ τ)
      (λ op parts t d. ap (λ ps. Node op ps t) (sym (map-id parts)))
      (λ b own parts t d. ap (λ ps. Bind b own ps t) (sym (map-id parts)))
      (λ op parts t types fits. named_parts Agree op parts t fits)
      (λ b own parts t types fits. named_below Agree b own parts t fits)
      (λ own types d σ τ vs e near. ap (λ s. vs ++ s) near)
      (λ k types d σ τ near fits. denotation-Int U n k σ ∙ sym (denotation-Int U m k τ))
      (λ name t types d σ τ near fits.
      denotation-Free U n name t σ ∙ (λ i. (sort t, (subst (AllByRecursion Agree) (identifiers-Free name t) fits).0 i (sort t))) ∙ sym (denotation-Free U m name t τ))
      (λ k t types d σ τ near fits. ap (λ s. denotation U n (Bound k t) s) near ∙ denotation-Bound U n k t τ ∙ sym (denotation-Bound U m k t τ))
      f [] 0 σ σ refl fits
