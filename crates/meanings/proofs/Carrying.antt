-- A change of formulas that reaches into operators and binders keeps what they denote, if it does so at identifiers.
use Rattle.std.proofs.Common.{List, [], ap, length, map, refl, reverse, sym, ℕ, ℤ, ◌++◌, ◌+◌, ◌∙◌, ◌∷◌, ◌≡◌}
use Rattle.std.proofs.lemmas.List.{length-map}
use Rattle.std.specs.List.{AllByRecursion}
use Rattle.formula_core.proofs.Induction.{formula_induction}
use Rattle.formula_core.specs.declared.Binder.{Binder}
use Rattle.formula_core.specs.declared.Formula.{Formula}
use Rattle.formula_core.specs.declared.Formula.TheVariants.{Bind, Bound, Free, Int, Node}
use Rattle.formula_core.specs.declared.Op.{Op}
use Rattle.formula_core.specs.declared.Ty.{Ty}
use Rattle.meanings.specs.Denotations.{Assignment, denotation}
use Rattle.meanings.specs.Operations.{of_list}
use Rattle.meanings.specs.Universes.{Valuation, Universe}
use Rattle.meanings.specs.Values.{sort}
use Rattle.meanings.proofs.Binders.{EachSame, of_binder-same}
use Rattle.meanings.proofs.Denotations.{denotation-Bind, denotation-Node}

module _ {carrier : List ℕ → Type 0} (U : Universe carrier) (n m : Valuation carrier)
    (go : ℕ → Formula → Formula)
    (Fits : Formula → List Ty → Type 0)
    (Near : List Ty → ℕ → Assignment U → Assignment U → Type 0)
    (node : (op : Op) (parts : List Formula) (t : Ty) (d : ℕ) → go d (Node op parts t) ≡ Node op (map (go d) parts) t)
    (bind : (b : Binder) (own : List Ty) (parts : List Formula) (t : Ty) (d : ℕ) → go d (Bind b own parts t) ≡ Bind b own (map (go (d + length own)) parts) t)
    (fits_node : (op : Op) (parts : List Formula) (t : Ty) (types : List Ty) → Fits (Node op parts t) types → AllByRecursion (λ p. Fits p types) parts)
    (fits_bind : (b : Binder) (own : List Ty) (parts : List Formula) (t : Ty) (types : List Ty) → Fits (Bind b own parts t) types
    → AllByRecursion (λ p. Fits p (reverse own ++ types)) parts)
    (near_bind : (own types : List Ty) (d : ℕ) (σ τ vs : Assignment U) → length vs ≡ length own → Near types d σ τ → Near (reverse own ++ types) (d + length own) (vs ++ σ) (vs ++ τ))
  where
    abbrev pub Carries : Formula → Type 0
    Carries f = (types : List Ty) (d : ℕ) (σ τ : Assignment U) → Near types d σ τ → Fits f types → denotation U n (go d f) σ ≡ denotation U m f τ

    parts_same : (parts : List Formula) (types : List Ty) (d : ℕ) (σ τ : Assignment U) → Near types d σ τ → AllByRecursion Carries parts → AllByRecursion (λ p. Fits p types) parts
        → map (λ f. denotation U n f σ) (map (go d) parts) ≡ map (λ f. denotation U m f τ) parts
    parts_same [] types d σ τ near each fits = refl
    parts_same (f ∷ fs) types d σ τ near each fits = λ i. each.0 types d σ τ near fits.0 i ∷ parts_same fs types d σ τ near each.1 fits.1 i

    parts_below : (own : List Ty) (parts : List Formula) (types : List Ty) (d : ℕ) (σ τ : Assignment U) → Near types d σ τ → AllByRecursion Carries parts → AllByRecursion (λ p. Fits p (reverse own ++ types)) parts
        → EachSame U (length (map sort own)) σ τ (map (denotation U n) (map (go (d + length own)) parts)) (map (denotation U m) parts)
    parts_below own [] types d σ τ near each fits = tt
    parts_below own (f ∷ fs) types d σ τ near each fits = (
      λ vs e. each.0 (reverse own ++ types) (d + length own) (vs ++ σ) (vs ++ τ) (near_bind own types d σ τ vs (e ∙ length-map own sort) near) fits.0,
      parts_below own fs types d σ τ near each.1 fits.1,
    )

    pub carried : ((k : ℤ) → Carries (Int k)) → ((name : List ℕ) (t : Ty) → Carries (Free name t)) → ((k : ℕ) (t : Ty) → Carries (Bound k t)) → (f : Formula) → Carries f
    carried int free bound = formula_induction Carries int free bound
        (λ op parts t each types d σ τ near fits.
        ap (λ f. denotation U n f σ) (node op parts t d) ∙ denotation-Node U n op (map (go d) parts) t σ
        ∙ (λ i. (sort t, of_list U op (sort t) (parts_same parts types d σ τ near each (fits_node op parts t types fits) i)))
        ∙ sym (denotation-Node U m op parts t τ))
        (λ b own parts t each types d σ τ near fits.
        ap (λ f. denotation U n f σ) (bind b own parts t d) ∙ denotation-Bind U n b own (map (go (d + length own)) parts) t σ
        ∙ (λ i. (
          sort t,
          of_binder-same U (map sort own) (sort t) σ τ b (map (denotation U n) (map (go (d + length own)) parts)) (map (denotation U m) parts)
              (parts_below own parts types d σ τ near each (fits_bind b own parts t types fits)) i,
        ))
        ∙ sym (denotation-Bind U m b own parts t τ))
