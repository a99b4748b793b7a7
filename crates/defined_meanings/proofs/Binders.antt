-- Binders make the same in both universes, where their parts do.
use Rattle.std.proofs.Common.{Bool, List, [], ap, append_assoc, false, refl, reverse, subst, sym, true, ℕ, ◌&&◌, ◌++◌, ◌∙◌, ◌∷◌, ◌≡◌}
use Rattle.std.proofs.lemmas.List.{reverse-append}
use Rattle.formula_core.specs.TypeTable.{binder_fits}
use Rattle.formula_core.specs.Types.{if_set, is_truth, is_value_type}
use Rattle.formula_core.specs.declared.Binder.{Binder}
use Rattle.formula_core.specs.declared.Binder.TheVariants as binder
use Rattle.formula_core.specs.declared.Ty.{Ty}
use Rattle.formula_core.proofs.Types.{same_type_exact}
use Rattle.formula_core.proofs.Weakening.{first_true, second_true}
use Rattle.meanings.specs.Denotations.{Assignment, of_binder}
use Rattle.meanings.specs.Operations.{contains, implies, truth_value}
use Rattle.meanings.specs.Universes.{Universe, cast, every_of, some_of}
use Rattle.meanings.specs.Values.{Denotation, Sort, Value, boolean_sort, power_sort, sort}
use Rattle.meanings.proofs.Quantifiers.{sorts_are}
use Rattle.defined_meanings.proofs.Sorts.{of_set_of, of_truth, set_sort}
use Rattle.defined_meanings.proofs.Universes.{cast_both, contains_both, every_both, same_both, some_both, truth_both}

-- what stands behind a truth value plays a part where it is true alone
pub and_guarded : (a b c d : Bool) → a ≡ b → (a ≡ true → c ≡ d) → (a && c) ≡ (b && d)
and_guarded true b c d e f = f refl ∙ (λ i. e i && d)
and_guarded false b c d e f = λ i. e i && d

pub implies_guarded : (a b c d : Bool) → a ≡ b → (a ≡ true → c ≡ d) → implies a c ≡ implies b d
implies_guarded true b c d e f = f refl ∙ (λ i. implies (e i) d)
implies_guarded false b c d e f = λ i. implies (e i) d

module _ {carrier : List ℕ → Type 0} (U V : Universe carrier) where
  turned : (x : Denotation carrier) (es σ : Assignment U) → reverse (x ∷ es) ++ σ ≡ reverse es ++ (x ∷ σ)
  turned x es σ = ap (λ l. l ++ σ) (reverse-append (x ∷ []) es) ∙ append_assoc (reverse es) (x ∷ []) σ

  -- the same for all values of these sorts
  abbrev pub SameFor : List Sort → Assignment U → (Assignment U → Bool) → (Assignment U → Bool) → Type 0
  SameFor sorts σ p q = (es : Assignment U) → sorts_are U es ≡ sorts → p (reverse es ++ σ) ≡ q (reverse es ++ σ)

  further : (s : Sort) (sorts : List Sort) (σ : Assignment U) (p q : Assignment U → Bool) → SameFor (s ∷ sorts) σ p q
      → (v : Value carrier s) → SameFor sorts ((s, v) ∷ σ) p q
  further s sorts σ p q h v es e =
      let P : Assignment U → Type 0 = λ τ. p τ ≡ q τ in subst P (turned (s, v) es σ) (h ((s, v) ∷ es) (ap (λ l. s ∷ l) e))

  every_of_both : (sorts : List Sort) (σ : Assignment U) (p q : Assignment U → Bool) → SameFor sorts σ p q → every_of U sorts σ p ≡ every_of V sorts σ q
  every_of_both [] σ p q h = h [] refl
  every_of_both (s ∷ sorts) σ p q h = λ i. every_both U V s (λ v. every_of_both sorts ((s, v) ∷ σ) p q (further s sorts σ p q h v) i) i

  some_of_both : (sorts : List Sort) (σ : Assignment U) (p q : Assignment U → Bool) → SameFor sorts σ p q → some_of U sorts σ p ≡ some_of V sorts σ q
  some_of_both [] σ p q h = h [] refl
  some_of_both (s ∷ sorts) σ p q h = λ i. some_both U V s (λ v. some_of_both sorts ((s, v) ∷ σ) p q (further s sorts σ p q h v) i) i

  module _ (sorts : List Sort) (σ : Assignment U) (p q : Assignment U → Denotation carrier)
      (p_sort : (τ : Assignment U) → (p τ).0 ≡ boolean_sort)
      (p_same : (es : Assignment U) → sorts_are U es ≡ sorts → p (reverse es ++ σ) ≡ q (reverse es ++ σ))
    where
      truths : (es : Assignment U) → sorts_are U es ≡ sorts → truth_value U (p (reverse es ++ σ)) ≡ truth_value V (q (reverse es ++ σ))
      truths es e = truth_both U V (p (reverse es ++ σ)) (p_sort (reverse es ++ σ)) ∙ ap (truth_value V) (p_same es e)

      abbrev Same : Binder → Sort → List (Assignment U → Denotation carrier) → List (Assignment U → Denotation carrier) → Type 0
      Same b s ps qs = of_binder U b sorts s ps σ ≡ of_binder V b sorts s qs σ

      at : (b : Binder) (s t : Sort) (ps qs : List (Assignment U → Denotation carrier)) → s ≡ t → Same b t ps qs → Same b s ps qs
      at b s t ps qs e h = subst (λ s. Same b s ps qs) (sym e) h

      pub one_part : (b : Binder) (u t : Ty) → binder_fits b (u ∷ []) t ≡ true → Same b (sort t) (p ∷ []) (q ∷ [])
      one_part binder.ForAll u t h =
          at binder.ForAll (sort t) boolean_sort (p ∷ []) (q ∷ []) (of_truth t (second_true (is_truth u) _ h))
          (every_of_both sorts σ (λ inner. truth_value U (p inner)) (λ inner. truth_value V (q inner)) truths)
      one_part binder.Exists u t h =
          at binder.Exists (sort t) boolean_sort (p ∷ []) (q ∷ []) (of_truth t (second_true (is_truth u) _ h))
          (some_of_both sorts σ (λ inner. truth_value U (p inner)) (λ inner. truth_value V (q inner)) truths)
      one_part binder.Comprehension u t h = absurd cc
      one_part binder.QuantifiedUnion u t h = absurd cc
      one_part binder.QuantifiedIntersection u t h = absurd cc

      module _ (e f : Assignment U → Denotation carrier) (w : Ty) (e_sort : (τ : Assignment U) → (e τ).0 ≡ sort w)
          (e_same : (es : Assignment U) → sorts_are U es ≡ sorts → truth_value U (p (reverse es ++ σ)) ≡ true → e (reverse es ++ σ) ≡ f (reverse es ++ σ))
        where
          inside : (a : Sort) → sort w ≡ power_sort a → (v : Value carrier a) (es : Assignment U) → sorts_are U es ≡ sorts
              → truth_value U (p (reverse es ++ σ)) ≡ true → contains U (e (reverse es ++ σ)) a v ≡ contains V (f (reverse es ++ σ)) a v
          inside a is v es l h = contains_both U V (e (reverse es ++ σ)) a (e_sort (reverse es ++ σ) ∙ is) v ∙ (λ i. contains V (e_same es l h i) a v)

          listed : (v : Value carrier (sort w)) (es : Assignment U) → sorts_are U es ≡ sorts → truth_value U (p (reverse es ++ σ)) ≡ true
              → U.same (sort w) v (cast U (sort w) (e (reverse es ++ σ))) ≡ V.same (sort w) v (cast V (sort w) (f (reverse es ++ σ)))
          listed v es l h =
              (λ i. same_both U V (sort w) v (cast_both U V (sort w) (e (reverse es ++ σ)) (e_sort (reverse es ++ σ)) i) i)
              ∙ (λ i. V.same (sort w) v (cast V (sort w) (e_same es l h i)))

          pub two_parts : (b : Binder) (u t : Ty) → binder_fits b (u ∷ w ∷ []) t ≡ true → Same b (sort t) (p ∷ e ∷ []) (q ∷ f ∷ [])
          two_parts binder.ForAll u t h = absurd cc
          two_parts binder.Exists u t h = absurd cc
          two_parts binder.Comprehension u t h =
              at binder.Comprehension (sort t) (power_sort (sort w)) (p ∷ e ∷ []) (q ∷ f ∷ []) (of_set_of t w (second_true (is_truth u && is_value_type w) _ h))
              (λ i v. some_of_both sorts σ
              (λ inner. truth_value U (p inner) && U.same (sort w) v (cast U (sort w) (e inner)))
              (λ inner. truth_value V (q inner) && V.same (sort w) v (cast V (sort w) (f inner)))
              (λ es l. and_guarded (truth_value U (p (reverse es ++ σ))) (truth_value V (q (reverse es ++ σ)))
              (U.same (sort w) v (cast U (sort w) (e (reverse es ++ σ)))) (V.same (sort w) v (cast V (sort w) (f (reverse es ++ σ)))) (truths es l) (listed v es l)) i)
          two_parts binder.QuantifiedUnion u t h =
              let k = set_sort w is_value_type (second_true (is_truth u) _ (first_true (is_truth u && if_set w is_value_type) _ h)) in
              let a : Sort = sort k.0 in
              at binder.QuantifiedUnion (sort t) (power_sort a) (p ∷ e ∷ []) (q ∷ f ∷ [])
              (ap sort (same_type_exact t w (second_true (is_truth u && if_set w is_value_type) _ h)) ∙ k.1)
              (λ i v. some_of_both sorts σ
              (λ inner. truth_value U (p inner) && contains U (e inner) a v) (λ inner. truth_value V (q inner) && contains V (f inner) a v)
              (λ es l. and_guarded (truth_value U (p (reverse es ++ σ))) (truth_value V (q (reverse es ++ σ)))
              (contains U (e (reverse es ++ σ)) a v) (contains V (f (reverse es ++ σ)) a v) (truths es l) (inside a k.1 v es l)) i)
          two_parts binder.QuantifiedIntersection u t h =
              let k = set_sort w is_value_type (second_true (is_truth u) _ (first_true (is_truth u && if_set w is_value_type) _ h)) in
              let a : Sort = sort k.0 in
              at binder.QuantifiedIntersection (sort t) (power_sort a) (p ∷ e ∷ []) (q ∷ f ∷ [])
              (ap sort (same_type_exact t w (second_true (is_truth u && if_set w is_value_type) _ h)) ∙ k.1)
              (λ i v. every_of_both sorts σ
              (λ inner. implies (truth_value U (p inner)) (contains U (e inner) a v)) (λ inner. implies (truth_value V (q inner)) (contains V (f inner) a v))
              (λ es l. implies_guarded (truth_value U (p (reverse es ++ σ))) (truth_value V (q (reverse es ++ σ)))
              (contains U (e (reverse es ++ σ)) a v) (contains V (f (reverse es ++ σ)) a v) (truths es l) (inside a k.1 v es l)) i)
