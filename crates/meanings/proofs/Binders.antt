-- What a binder makes depends on what its parts denote for the values that it binds, and on nothing else.
use Rattle.std.proofs.Common.{Bool, List, [], ap, append_assoc, arith, length, length-append, refl, suc, sym, ℕ, ◌&&◌, ◌++◌, ◌∙◌, ◌∷◌, ◌≡◌}
use Rattle.std.specs.Prelude.{⊤}
use Rattle.formula_core.specs.declared.Binder.{Binder}
use Rattle.formula_core.specs.declared.Binder.TheVariants as binder
use Rattle.meanings.specs.Denotations.{Assignment, of_binder}
use Rattle.meanings.specs.Operations.{as_set, as_truth, contains, implies, truth_value}
use Rattle.meanings.specs.Universes.{Universe, cast, every, every_of, some, some_of}
use Rattle.meanings.specs.Values.{Sort, Denotation}

module _ {carrier : List ℕ → Type 0} (U : Universe carrier) where
  -- the same for each list of so many new values
  abbrev pub SameBelow : {X : Type 0} → ℕ → Assignment U → Assignment U → (Assignment U → X) → (Assignment U → X) → Type 0
  SameBelow n σ τ p q = (vs : Assignment U) → length vs ≡ n → p (vs ++ σ) ≡ q (vs ++ τ)

  one_less : {X : Type 0} → (n : ℕ) (x : Denotation carrier) (σ τ : Assignment U) (p q : Assignment U → X) → SameBelow (suc n) σ τ p q → SameBelow n (x ∷ σ) (x ∷ τ) p q
  one_less n x σ τ p q h vs e =
      ap p (sym (append_assoc vs (x ∷ []) σ)) ∙ h (vs ++ x ∷ []) (omega (arith, length-append vs (x ∷ []), e)) ∙ ap q (append_assoc vs (x ∷ []) τ)

  pub every_of-same : (sorts : List Sort) (σ τ : Assignment U) (p q : Assignment U → Bool) → SameBelow (length sorts) σ τ p q → every_of U sorts σ p ≡ every_of U sorts τ q
  every_of-same [] σ τ p q h = h [] refl
  every_of-same (s ∷ sorts) σ τ p q h =
      ap (every U s) (λ i v. every_of-same sorts ((s, v) ∷ σ) ((s, v) ∷ τ) p q (one_less (length sorts) (s, v) σ τ p q h) i)

  pub some_of-same : (sorts : List Sort) (σ τ : Assignment U) (p q : Assignment U → Bool) → SameBelow (length sorts) σ τ p q → some_of U sorts σ p ≡ some_of U sorts τ q
  some_of-same [] σ τ p q h = h [] refl
  some_of-same (s ∷ sorts) σ τ p q h =
      ap (some U s) (λ i v. some_of-same sorts ((s, v) ∷ σ) ((s, v) ∷ τ) p q (one_less (length sorts) (s, v) σ τ p q h) i)

  -- as many parts, each the same below so many new values
  abbrev pub EachSame : ℕ → Assignment U → Assignment U → List (Assignment U → Denotation carrier) → List (Assignment U → Denotation carrier) → Type 0
  EachSame n σ τ [] [] = ⊤
  EachSame n σ τ (p ∷ ps) (q ∷ qs) = SameBelow n σ τ p q × EachSame n σ τ ps qs
  EachSame n σ τ _ _ = ⊥

  module _ (sorts : List Sort) (s : Sort) (σ τ : Assignment U) where
    abbrev Same : Binder → List (Assignment U → Denotation carrier) → List (Assignment U → Denotation carrier) → Type 0
    Same b ps qs = of_binder U b sorts s ps σ ≡ of_binder U b sorts s qs τ

    one_part : (b : Binder) (p q : Assignment U → Denotation carrier) → SameBelow (length sorts) σ τ p q → Same b (p ∷ []) (q ∷ [])
    one_part binder.ForAll p q h = ap (as_truth U s) (every_of-same sorts σ τ (λ inner. truth_value U (p inner)) (λ inner. truth_value U (q inner)) (λ vs e. ap (truth_value U) (h vs e)))
    one_part binder.Exists p q h = ap (as_truth U s) (some_of-same sorts σ τ (λ inner. truth_value U (p inner)) (λ inner. truth_value U (q inner)) (λ vs e. ap (truth_value U) (h vs e)))
    one_part binder.Comprehension p q h = refl
    one_part binder.QuantifiedUnion p q h = refl
    one_part binder.QuantifiedIntersection p q h = refl

    two_parts : (b : Binder) (p q e f : Assignment U → Denotation carrier) → SameBelow (length sorts) σ τ p q → SameBelow (length sorts) σ τ e f → Same b (p ∷ e ∷ []) (q ∷ f ∷ [])
    two_parts binder.ForAll p q e f h k = refl
    two_parts binder.Exists p q e f h k = refl
    two_parts binder.Comprehension p q e f h k =
        ap (as_set U s) (λ i a v. some_of-same sorts σ τ (λ inner. truth_value U (p inner) && U.same a v (cast U a (e inner))) (λ inner. truth_value U (q inner) && U.same a v (cast U a (f inner)))
        (λ vs l j. truth_value U (h vs l j) && U.same a v (cast U a (k vs l j))) i)
    two_parts binder.QuantifiedUnion p q e f h k =
        ap (as_set U s) (λ i a v. some_of-same sorts σ τ (λ inner. truth_value U (p inner) && contains U (e inner) a v) (λ inner. truth_value U (q inner) && contains U (f inner) a v)
        (λ vs l j. truth_value U (h vs l j) && contains U (k vs l j) a v) i)
    two_parts binder.QuantifiedIntersection p q e f h k =
        ap (as_set U s) (λ i a v. every_of-same sorts σ τ (λ inner. implies (truth_value U (p inner)) (contains U (e inner) a v)) (λ inner. implies (truth_value U (q inner)) (contains U (f inner) a v))
        (λ vs l j. implies (truth_value U (h vs l j)) (contains U (k vs l j) a v)) i)

    other_parts : (b : Binder) (p q e f x y : Assignment U → Denotation carrier) (ps qs : List (Assignment U → Denotation carrier)) → Same b (p ∷ e ∷ x ∷ ps) (q ∷ f ∷ y ∷ qs)
    other_parts binder.ForAll p q e f x y ps qs = refl
    other_parts _ p q e f x y ps qs = refl

    no_parts : (b : Binder) → Same b [] []
    no_parts binder.ForAll = refl
    no_parts _ = refl

    pub of_binder-same : (b : Binder) (ps qs : List (Assignment U → Denotation carrier)) → EachSame (length sorts) σ τ ps qs → Same b ps qs
    of_binder-same b [] [] h = no_parts b
    of_binder-same b (p ∷ []) (q ∷ []) h = one_part b p q h.0
    of_binder-same b (p ∷ e ∷ []) (q ∷ f ∷ []) h = two_parts b p q e f h.0 h.1.0
    of_binder-same b (p ∷ e ∷ x ∷ ps) (q ∷ f ∷ y ∷ qs) h = other_parts b p q e f x y ps qs
    of_binder-same b [] (q ∷ qs) h = absurd h
    of_binder-same b (p ∷ ps) [] h = absurd h
    of_binder-same b (p ∷ []) (q ∷ f ∷ qs) h = absurd h.1
    of_binder-same b (p ∷ e ∷ ps) (q ∷ []) h = absurd h.1
    of_binder-same b (p ∷ e ∷ []) (q ∷ f ∷ y ∷ qs) h = absurd h.1.1
    of_binder-same b (p ∷ e ∷ x ∷ ps) (q ∷ f ∷ []) h = absurd h.1.1
