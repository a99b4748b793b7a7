-- An instance of a formula denotes what the formula does with the values of the terms.
use Rattle.std.proofs.Common.{Bool, List, None, Option, Some, [], ap, append-nil, append_assoc, arith, false, length, length-append, map, refl, reverse, slice_get, subst, sym, true, ℕ, ◌++◌, ◌+◌, ◌-◌, ◌∙◌, ◌∷◌, ◌≡◌, ◌≤◌}
use Rattle.std.proofs.lemmas.Bool.{ltb-false, ltb-true}
use Rattle.std.proofs.lemmas.List.{length-reverse, reverse-append}
use Rattle.std.proofs.lemmas.Option.{slice_get-map}
use Rattle.std.specs.List.{AllByRecursion}
use Rattle.std.specs.Option.{option_map, option_map_or}
use Rattle.std.specs.Prelude.{if◌then◌else◌, nat_lt, unwrap_or}
use Rattle.formula_core.proofs.BindingLaw.{reverse-map}
use Rattle.formula_core.proofs.Instantiation.{instantiated-Bind, instantiated-Bound, instantiated-Free, instantiated-Int, instantiated-Node}
use Rattle.formula_core.proofs.Keeping.{both}
use Rattle.formula_core.proofs.Lists.{slice_get-append_left, slice_get-append_right}
use Rattle.formula_core.proofs.Types.{same_type_exact}
use Rattle.formula_core.proofs.Wellness.{well-Bound}
use Rattle.formula_core.specs.Formulas.{instantiated}
use Rattle.formula_core.specs.Types.{same_type}
use Rattle.formula_core.specs.Wellness.{type_of}
use Rattle.formula_core.specs.declared.Formula.{Formula}
use Rattle.formula_core.specs.declared.Formula.TheOpen.{Bound as BoundF}
use Rattle.formula_core.specs.declared.Formula.TheVariants.{Bound}
use Rattle.formula_core.specs.declared.Ty.{Ty}
use Rattle.formula_core.specs.declared.formula.Formula.TheViews.{roll-Formula, rolls-Bound}
use Rattle.meanings.specs.Denotations.{Assignment, bound_value, denotation, holds}
use Rattle.meanings.specs.Operations.{truth_value}
use Rattle.meanings.specs.Universes.{Valuation, Universe}
use Rattle.meanings.specs.Values.{Denotation, sort}
use Rattle.meanings.proofs.Carrying.{carried}
use Rattle.meanings.proofs.Casts.{cast_known}
use Rattle.meanings.proofs.Denotations.{denotation-Bound, denotation-Free, denotation-Int, sort_of}
use Rattle.meanings.proofs.Fitting.{IsWellIn, well_below, well_parts}
use Rattle.meanings.proofs.Lists.{found}
use Rattle.meanings.proofs.Quantifiers.{sorts_are}
use Rattle.meanings.proofs.Truths.{true_in}

-- what stands behind a list
behind : {X Y : Type 0} → (g : X → Y) (before : List Y) (xs : List X) (k : ℕ) → length before ≤ k
    → slice_get (before ++ map g xs) k ≡ option_map g (slice_get xs (k - length before))
behind g before xs k ge = slice_get-append_right before (map g xs) k ge ∙ slice_get-map g xs (k - length before)

all_reversed : {X : Type 0} → (P : X → Type 0) (xs : List X) → AllByRecursion P xs → AllByRecursion P (reverse xs)
all_reversed P [] h = tt
all_reversed P (x ∷ xs) h =
    subst (AllByRecursion P) (sym (reverse-append (x ∷ []) xs))
    (both P (reverse xs) (x ∷ []) (all_reversed P xs h.1) (h.0, tt))

module _ {carrier : List ℕ → Type 0} (U : Universe carrier) (names : Valuation carrier) where
  abbrev M : Formula → Assignment U → Denotation carrier
  M = denotation U names

  -- a term that denotes the same in each scope
  abbrev pub IsClosed : Formula → Type 0
  IsClosed e = (σ : Assignment U) → M e σ ≡ M e []

  abbrev pub value_of : Formula → Denotation carrier
  value_of e = denotation U names e []

  abbrev bound_at : Ty → Option (Denotation carrier) → Denotation carrier
  bound_at t o = (sort t, bound_value U (sort t) o)

  pub have_sorts : (es : List Formula) → sorts_are U (map value_of es) ≡ map sort (map type_of es)
  have_sorts [] = refl
  have_sorts (e ∷ es) = λ i. sort_of U names e [] i ∷ have_sorts es i

  module _ (terms : List Formula) (closed : AllByRecursion IsClosed terms) where
    -- the last term is the one of the nearest identifier
    abbrev turned : List Formula
    turned = reverse terms

    -- the scope of an instance, and that of the formula with the types in it
    abbrev Near : List Ty → ℕ → Assignment U → Assignment U → Type 0
    Near types d σ τ = (inner : List Ty) × (length inner ≡ d) × (length σ ≡ d)
        × (types ≡ inner ++ map type_of turned) × (τ ≡ σ ++ map value_of turned)

    near_bind : (own types : List Ty) (d : ℕ) (σ τ vs : Assignment U) → length vs ≡ length own → Near types d σ τ
        → Near (reverse own ++ types) (d + length own) (vs ++ σ) (vs ++ τ)
    near_bind own types d σ τ vs e near = (
      reverse own ++ near.0,
      omega (arith, length-append (reverse own) near.0, length-reverse own, near.1),
      omega (arith, length-append vs σ, e, near.2),
      ap (λ s. reverse own ++ s) near.3 ∙ sym (append_assoc (reverse own) near.0 (map type_of turned)),
      ap (λ s. vs ++ s) near.4 ∙ sym (append_assoc vs σ (map value_of turned)),
    )

    module _ (k : ℕ) (t : Ty) (types : List Ty) (σ τ : Assignment U) (near : Near types (length σ) σ τ)
        (fits : IsWellIn (Bound k t) types) where
      -- the term of an index of the binder's own has its type
      typed : length σ ≤ k → (o : Option Formula) → slice_get turned (k - length σ) ≡ o
          → option_map_or (λ u. same_type u t) (option_map type_of o) false ≡ true
      typed ge o is =
          let there : slice_get types k ≡ option_map type_of o =
          ap (λ l. slice_get l k) near.3 ∙ behind type_of near.0 turned k (omega (arith, near.1, ge))
          ∙ ap (λ n. option_map type_of (slice_get turned (k - n))) near.1 ∙ ap (option_map type_of) is in
          ap (λ o. option_map_or (λ u. same_type u t) o false) (sym there) ∙ sym (well-Bound k t types) ∙ fits

      at_term : length σ ≤ k → (o : Option Formula) → slice_get turned (k - length σ) ≡ o
          → M (unwrap_or o (roll-Formula (BoundF (k - length terms) t))) σ ≡ bound_at t (slice_get τ k)
      at_term ge None is = let none : false ≡ true = typed ge None is in absurd cc
      at_term ge (Some e) is =
          let there : slice_get τ k ≡ Some (value_of e) =
          ap (λ s. slice_get s k) near.4 ∙ behind value_of σ turned k ge ∙ ap (option_map value_of) is in
          let has_type : type_of e ≡ t = same_type_exact (type_of e) t (typed ge (Some e) is) in
          found IsClosed turned (k - length σ) e (all_reversed IsClosed terms closed) is σ
          ∙ sym (cast_known U (value_of e) (sort t) (sort_of U names e [] ∙ ap sort has_type))
          ∙ ap (bound_at t) (sym there)

      index : (c : Bool) → nat_lt k (length σ) ≡ c → M (if c then roll-Formula (BoundF k t)
          else (unwrap_or (slice_get turned (k - length σ)) (roll-Formula (BoundF (k - length terms) t)))) σ
          ≡ bound_at t (slice_get τ k)
      index true e =
          ap (λ f. M f σ) (rolls-Bound k t) ∙ denotation-Bound U names k t σ ∙ ap (bound_at t)
          (sym (ap (λ s. slice_get s k) near.4
          ∙ slice_get-append_left σ (map value_of turned) k (ltb-true k (length σ) e)))
      index false e = at_term (ltb-false k (length σ) e) (slice_get turned (k - length σ)) refl

    index_same : (k : ℕ) (t : Ty) (types : List Ty) (d : ℕ) (σ τ : Assignment U) → Near types d σ τ
        → IsWellIn (Bound k t) types → M (instantiated terms d (Bound k t)) σ ≡ M (Bound k t) τ
    index_same k t types d σ τ near fits =
        ap (λ d. M (instantiated terms d (Bound k t)) σ) (sym near.2)
        ∙ ap (λ f. M f σ) (instantiated-Bound terms (length σ) k t)
        ∙ index k t types σ τ (near.0, near.1 ∙ sym near.2, refl, near.3, near.4) fits (nat_lt k (length σ)) refl
        ∙ sym (denotation-Bound U names k t τ)

    -- the body of a binder outside of all others
    pub instance_true : (own : List Ty) → map type_of terms ≡ own → (p : Formula) → IsWellIn p (reverse own ++ [])
        → holds U names (instantiated terms 0 p) ≡ true_in U names p (reverse (map value_of terms) ++ [])
    instance_true own are p fits =
        let types = append-nil (reverse own) ∙ ap reverse (sym are) ∙ reverse-map type_of terms in
        let values = append-nil (reverse (map value_of terms)) ∙ reverse-map value_of terms in
        ap (truth_value U) (carried U names names (instantiated terms) IsWellIn Near
        (λ op parts t d. instantiated-Node terms d op parts t)
        (λ b own parts t d. instantiated-Bind terms d b own parts t)
        well_parts well_below near_bind
        (λ k types d σ τ near fits. ap (λ f. M f σ) (instantiated-Int terms d k)
        ∙ denotation-Int U names k σ ∙ sym (denotation-Int U names k τ))
        (λ name t types d σ τ near fits. ap (λ f. M f σ) (instantiated-Free terms d name t)
        ∙ denotation-Free U names name t σ ∙ sym (denotation-Free U names name t τ))
        index_same p (reverse own ++ []) 0 [] (reverse (map value_of terms) ++ []) ([], refl, refl, types, values) fits)
