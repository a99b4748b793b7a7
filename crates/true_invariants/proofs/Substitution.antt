-- A formula with terms in the place of names denotes what the formula does where the names stand for what the terms denote.
use Rattle.std.proofs.Common.{◌≡◌, ◌∙◌, sym, ap, subst, refl, ℕ, Bool, true, false, cond, List, [], ◌∷◌, ◌++◌, map, Option, Some, None, IfSome}
use Rattle.std.specs.Prelude.{bytes_eq}
use Rattle.std.specs.List.{AllByRecursion, list_any}
use Rattle.std.specs.Map.{keys_of, lookup}
use Rattle.std.specs.Option.{unwrap_or, option_map_or}
use Rattle.formula_core.specs.declared.formula.Formula.{Formula}
use Rattle.formula_core.specs.declared.Formula.TheVariants.{Free, Bound, Node, Bind}
use Rattle.formula_core.specs.declared.ty.Ty.{Ty}
use Rattle.formula_core.specs.Formulas.{joined, occurrences, free_of, substituted}
use Rattle.formula_core.specs.Substitution.{TypesAgree, HasWellTerms}
use Rattle.formula_core.specs.Wellness.{type_of, is_well}
use Rattle.formula_core.proofs.Equations.{occurrences-Free, occurrences-Node, occurrences-Bind, substituted-Int, substituted-Free, substituted-Bound, substituted-Node, substituted-Bind}
use Rattle.formula_core.proofs.FreeIdentifiers.{free_is_what_occurs}
use Rattle.formula_core.proofs.Induction.{formula_induction}
use Rattle.formula_core.proofs.Keeping.{front, back, all_more}
use Rattle.model_core.specs.Each.{is_among}
use Rattle.meanings.specs.Denotations.{Assignment, denotation}
use Rattle.meanings.specs.Universes.{Universe, Valuation, cast}
use Rattle.meanings.specs.Values.{sort}
use Rattle.meanings.proofs.Carrying.{carried}
use Rattle.meanings.proofs.Casts.{cast_known}
use Rattle.meanings.proofs.Closed.{denotation-closed}
use Rattle.meanings.proofs.Denotations.{denotation-Int, denotation-Free, denotation-Bound, sort_of}
use Rattle.meanings.proofs.Fitting.{IsWellIn}
use Rattle.meanings.proofs.Lists.{all_contained}
use Rattle.true_invariants.specs.Runs.{updated}
use Rattle.true_invariants.proofs.Lists.{all_from, none_of_any, not_found}

abbrev Identifier : Type 0
Identifier = List ℕ × Ty

-- what is said of the identifiers of the parts
each_part : (P : Identifier → Type 0) (fs : List Formula) → AllByRecursion P (joined (map occurrences fs)) → AllByRecursion (λ f. AllByRecursion P (occurrences f)) fs
each_part P [] h = tt
each_part P (f ∷ fs) h = (front P (occurrences f) (joined (map occurrences fs)) h, each_part P fs (back P (occurrences f) (joined (map occurrences fs)) h))

module _ (pairs : List (List ℕ × Formula)) where
  abbrev IsOther : Identifier → Type 0
  IsOther x = lookup (bytes_eq x.0) pairs ≡ None

  abbrev Stays : Formula → Type 0
  Stays f = AllByRecursion IsOther (occurrences f) → substituted pairs f ≡ f

  parts_stay : (fs : List Formula) → AllByRecursion Stays fs → AllByRecursion (λ f. AllByRecursion IsOther (occurrences f)) fs → map (substituted pairs) fs ≡ fs
  parts_stay [] each h = refl
  parts_stay (f ∷ fs) each h = λ i. each.0 h.0 i ∷ parts_stay fs each.1 h.1 i

  -- no name is replaced
  stays : (f : Formula) → Stays f
  stays = formula_induction Stays
      (λ n h. substituted-Int pairs n)
      (λ name t h. substituted-Free pairs name t ∙ ap (λ o. unwrap_or o (Free name t)) (subst (AllByRecursion IsOther) (occurrences-Free name t) h).0)
      (λ k t h. substituted-Bound pairs k t)
      (λ op parts t each h. substituted-Node pairs op parts t ∙ ap (λ ps. Node op ps t) (parts_stay parts each (each_part IsOther parts (subst (AllByRecursion IsOther) (occurrences-Node op parts t) h))))
      (λ b own parts t each h. substituted-Bind pairs b own parts t ∙ ap (λ ps. Bind b own ps t) (parts_stay parts each (each_part IsOther parts (subst (AllByRecursion IsOther) (occurrences-Bind b own parts t) h))))

  pub unchanged : (f : Formula) → list_any (λ x. is_among (keys_of pairs) x.0) (free_of f) ≡ false → substituted pairs f ≡ f
  unchanged f h =
      let P : Identifier → Type 0 = λ x. is_among (keys_of pairs) x.0 ≡ false in
      let free : AllByRecursion P (free_of f) = none_of_any (λ x. is_among (keys_of pairs) x.0) (free_of f) h in
      let all : AllByRecursion P (occurrences f) = all_from P (occurrences f) (λ x c. all_contained P (free_of f) x free ((free_is_what_occurs f x).1 c)) in
      stays f (all_more P IsOther (λ x k. not_found x.0 pairs (none_of_any (bytes_eq x.0) (keys_of pairs) k)) (occurrences f) all)

found_well : (pairs : List (List ℕ × Formula)) (name : List ℕ) (term : Formula) → HasWellTerms pairs → lookup (bytes_eq name) pairs ≡ Some term → IsWellIn term []
found_well [] name term h e = absurd cc
found_well (p ∷ pairs) name term h e =
    let go : (b : Bool) → cond b (Some p.1) (lookup (bytes_eq name) pairs) ≡ Some term → IsWellIn term [] = elim [
      | true ↦ λ k. let same : p.1 ≡ term = cc in ap is_well (sym same) ∙ h.0
      | false ↦ λ k. found_well pairs name term h.1 k
    ] in
    go (bytes_eq name p.0) e

module _ {carrier : List ℕ → Type 0} (U : Universe carrier) (names : Valuation carrier) (pairs : List (List ℕ × Formula)) (well : HasWellTerms pairs) where
  abbrev Agrees : Identifier → Type 0
  Agrees x = IfSome (lookup (bytes_eq x.0) pairs) (λ term. type_of term ≡ x.1)

  abbrev new : Valuation carrier
  new = updated U names pairs

  at_name : (name : List ℕ) (t : Ty) (o : Option Formula) → lookup (bytes_eq name) pairs ≡ o → IfSome o (λ term. type_of term ≡ t) → (σ : Assignment U)
      → denotation U names (unwrap_or o (Free name t)) σ ≡ (sort t, option_map_or (λ f. cast U (sort t) (denotation U names f [])) o (names name (sort t)))
  at_name name t None e h σ = denotation-Free U names name t σ
  at_name name t (Some f) e h σ =
      denotation-closed U names f σ (found_well pairs name f well e) ∙ sym (cast_known U (denotation U names f []) (sort t) (sort_of U names f [] ∙ ap sort h))

  pub substituted_denotes : (f : Formula) → TypesAgree pairs f → (σ : Assignment U) → denotation U names (substituted pairs f) σ ≡ denotation U new f σ
  substituted_denotes f h σ =
      carried U names new (λ d g. substituted pairs g) (λ g types. TypesAgree pairs g) (λ types d σ τ. σ ≡ τ)
      (λ op parts t d. substituted-Node pairs op parts t)
      (λ b own parts t d. substituted-Bind pairs b own parts t)
      (λ op parts t types k. each_part Agrees parts (subst (AllByRecursion Agrees) (occurrences-Node op parts t) k))
      (λ b own parts t types k. each_part Agrees parts (subst (AllByRecursion Agrees) (occurrences-Bind b own parts t) k))
      (λ own types d σ τ vs e near. ap (λ s. vs ++ s) near)
      (λ n types d σ τ near k. ap (λ g. denotation U names g σ) (substituted-Int pairs n) ∙ denotation-Int U names n σ ∙ sym (denotation-Int U new n τ))
      (λ name t types d σ τ near k.
      ap (λ g. denotation U names g σ) (substituted-Free pairs name t)
      ∙ at_name name t (lookup (bytes_eq name) pairs) refl (subst (AllByRecursion Agrees) (occurrences-Free name t) k).0 σ ∙ sym (denotation-Free U new name t τ))
      (λ n t types d σ τ near k.
      ap (λ g. denotation U names g σ) (substituted-Bound pairs n t) ∙ ap (λ s. denotation U names (Bound n t) s) near ∙ denotation-Bound U names n t τ
      ∙ sym (denotation-Bound U new n t τ))
      f [] 0 σ σ refl h
