-- Laws of membership in sets that bind identifiers, and in general unions and intersections.
use Rattle.std.proofs.Common.{Bool, List, Some, [], ap, length, map, refl, sym, ℕ, ◌&&◌, ◌++◌, ◌∙◌, ◌∷◌, ◌≡◌}
use Rattle.std.proofs.lemmas.List.{length-map}
use Rattle.formula_core.proofs.Types.{same_type_exact}
use Rattle.formula_core.proofs.Weakening.{second_true}
use Rattle.formula_core.specs.Rows.{row_of}
use Rattle.formula_core.specs.Shifting.{shifted}
use Rattle.formula_core.specs.TypeTable.{row_fits}
use Rattle.formula_core.specs.Types.{if_set, is_value_type, same_type}
use Rattle.formula_core.specs.Wellness.{type_of}
use Rattle.formula_core.specs.declared.Binder.{Binder}
use Rattle.formula_core.specs.declared.Binder.TheVariants as binder
use Rattle.formula_core.specs.declared.Formula.{Formula}
use Rattle.formula_core.specs.declared.Formula.TheVariants.{Bind, Node}
use Rattle.formula_core.specs.declared.Op.{Op}
use Rattle.formula_core.specs.declared.Op.TheVariants as op
use Rattle.formula_core.specs.declared.Ty.{Ty}
use Rattle.formula_core.specs.declared.Ty.TheVariants as ty
use Rattle.well_defined.specs.Predicates.{conjunction, implication, member}
use Rattle.rule_table.specs.SetLaws.{below, below_all, for_all, new, there_is}
use Rattle.rule_table.specs.Shapes.{on_two, under_two}
use Rattle.rule_table.specs.declared.law.Law.TheVariants as law
use Rattle.meanings.specs.Denotations.{Assignment, denotation}
use Rattle.meanings.specs.Operations.{contains, implies, truth_value}
use Rattle.meanings.specs.Universes.{Valuation, Universe, cast, every, every_of, some, some_of}
use Rattle.meanings.specs.Values.{Denotation, Value, power_sort, sort}
use Rattle.meanings.proofs.Binders.{every_of-same, some_of-same}
use Rattle.meanings.proofs.Casts.{cast_own}
use Rattle.meanings.proofs.Denotations.{sort-Pow, sort_of}
use Rattle.meanings.proofs.Fitting.{IsWellIn, row_of_well}
use Rattle.meanings.proofs.Shifting.{denotation-below}
use Rattle.meanings.proofs.Types.{if_set_tells, set_of_is, type-Bind}
use Rattle.true_laws.proofs.Forms.{is_of_set, is_under_two}
use Rattle.true_laws.proofs.LeftSides.{in_one_of, member_of, same_part}
use Rattle.true_laws.proofs.Places.{Keeps, LawKeeps}
use Rattle.true_laws.proofs.Words.{of_membership, of_quantifier, same_values, truth, words}

module _ {carrier : List ℕ → Type 0} (U : Universe carrier) (names : Valuation carrier) (P : List ℕ × Ty → Type 0) where
  abbrev M : Formula → Assignment U → Denotation carrier
  M = denotation U names

  -- a formula below the identifiers of a binder
  same_below : (own : List Ty) (e : Formula) (σ vs : Assignment U) → length vs ≡ length (map sort own)
      → M (below_all own e) (vs ++ σ) ≡ M e σ
  same_below own e σ vs l =
      (λ i. M (shifted ((sym (length-map own sort) ∙ sym l) i) 0 e) (vs ++ σ)) ∙ denotation-below U names vs e σ

  some_below : (own : List Ty) (e : Formula) (σ : Assignment U) (test : Assignment U → Denotation carrier → Bool)
      → some_of U (map sort own) σ (λ τ. test τ (M (below_all own e) τ))
      ≡ some_of U (map sort own) σ (λ τ. test τ (M e σ))
  some_below own e σ test =
      some_of-same U (map sort own) σ σ (λ τ. test τ (M (below_all own e) τ)) (λ τ. test τ (M e σ))
      (λ vs l. ap (test (vs ++ σ)) (same_below own e σ vs l))

  every_below : (own : List Ty) (e : Formula) (σ : Assignment U) (test : Assignment U → Denotation carrier → Bool)
      → every_of U (map sort own) σ (λ τ. test τ (M (below_all own e) τ))
      ≡ every_of U (map sort own) σ (λ τ. test τ (M e σ))
  every_below own e σ test =
      every_of-same U (map sort own) σ σ (λ τ. test τ (M (below_all own e) τ)) (λ τ. test τ (M e σ))
      (λ vs l. ap (test (vs ++ σ)) (same_below own e σ vs l))

  -- E in what a binder makes of two parts: `make` is the right side
  in_binder : (b : Binder) (make : Formula → List Ty → Formula → Formula → Formula)
      → ((e p f : Formula) (own : List Ty) (σ : Assignment U)
      → M (make e own p f) σ ≡ M (member e (Bind b own (p ∷ f ∷ []) (ty.Pow (type_of e)))) σ)
      → Keeps U names P (λ h. on_two op.Member h (λ e set. under_two b set (λ own p f. Some (make e own p f))))
  in_binder b make value h g types ready k =
      let (e, set, n, there) = member_of types h ready.0 _ g k in
      let (own, p, f, t, is, made) = is_under_two g b set (λ own p f. Some (make e own p f)) there in
      let set_type = set_of_is (type_of set) (type_of e) (second_true (is_value_type (type_of e)) _ n.fits) in
      let t_is = sym (type-Bind b own (p ∷ f ∷ []) t) ∙ ap type_of (sym is) ∙ set_type in
      same_values U names (n.is ∙ ap (member e) (is ∙ ap (Bind b own (p ∷ f ∷ [])) t_is)) made (value e p f own)

  pub comprehension_law : LawKeeps U names P law.MemberOfComprehension
  comprehension_law = in_binder binder.Comprehension _ (λ e p f own σ. simp words (ap (truth U)
      (some_below own e σ (λ τ x. truth_value U (M p τ) && U.same x.0 x.1 (cast U x.0 (M f τ))))))

  pub quantified_union_law : LawKeeps U names P law.MemberOfQuantifiedUnion
  quantified_union_law = in_binder binder.QuantifiedUnion _ (λ e p f own σ. simp words (ap (truth U)
      (some_below own e σ (λ τ x. truth_value U (M p τ) && contains U (M f τ) x.0 x.1))))

  pub quantified_intersection_law : LawKeeps U names P law.MemberOfQuantifiedIntersection
  quantified_intersection_law = in_binder binder.QuantifiedIntersection _ (λ e p f own σ. simp words (ap (truth U)
      (every_below own e σ (λ τ x. implies (truth_value U (M p τ)) (contains U (M f τ) x.0 x.1)))))

  -- the type of the sets of which a union or intersection is taken
  flat : (o : Op) → ((a t : Ty)
      → row_fits (row_of o) (a ∷ []) t ≡ (is_value_type a && if_set a (λ s. if_set s (λ α. same_type t s))))
      → (e u : Formula) (t : Ty) (types : List Ty) → IsWellIn (Node o (u ∷ []) (ty.Pow (type_of e))) types
      → type_of u ≡ ty.Pow t
      → t ≡ ty.Pow (type_of e)
  flat o row e u t types well u_is =
      let whole = ty.Pow (type_of e) in
      let k = sym (row (type_of u) whole) ∙ row_of_well o (u ∷ []) whole types well in
      let (s, u_type, holds) =
      if_set_tells (type_of u) (λ s. if_set s (λ α. same_type whole s))
      (second_true (is_value_type (type_of u)) _ k) in
      let (α, s_type, same) = if_set_tells s (λ α. same_type whole s) holds in
      same_part t s (sym u_is ∙ u_type) ∙ sym (same_type_exact whole s same)

  -- the sort of what such a set is
  sorts : (e : Formula) (t : Ty) → t ≡ ty.Pow (type_of e) → (σ : Assignment U) → sort t ≡ power_sort (M e σ).0
  sorts e t is σ = ap sort is ∙ sort-Pow (type_of e) ∙ ap power_sort (sym (sort_of U names e σ))

  pub general_union_law : LawKeeps U names P law.MemberOfGeneralUnion
  general_union_law h g types ready k =
      let (e, u, n, there) = in_one_of types op.GeneralUnion h ready.0 _ g k in
      let (t, u_type, made) = is_of_set u _ g there in
      same_values U names n.is made (union e u t (flat op.GeneralUnion (λ a t. refl) e u t types n.set_well u_type))
    where
      union : (e u : Formula) (t : Ty) → t ≡ ty.Pow (type_of e) → (σ : Assignment U)
          → M (there_is t (conjunction (member (new t) (below u)) (member (below e) (new t)))) σ
          ≡ M (member e (Node op.GeneralUnion (u ∷ []) (ty.Pow (type_of e)))) σ
      union e u t is σ =
          let x : Denotation carrier = M e σ in
          of_quantifier U names binder.Exists (t ∷ [])
          (conjunction (member (new t) (below u)) (member (below e) (new t)) ∷ []) σ
          ∙ (λ i. truth U (some U (sort t) (λ v. both u e t σ v i)))
          ∙ (λ i. truth U (let s = sorts e t is σ i in
          some U s (λ v. contains U (M u σ) s v && contains U (s, v) x.0 x.1)))
          ∙ (λ i. truth U (some U (power_sort x.0)
          (λ m. contains U (M u σ) (power_sort x.0) m && cast_own U (power_sort x.0) m i x.1)))
          ∙ sym (of_membership U names e op.GeneralUnion (u ∷ []) σ)
        where
          both : (u e : Formula) (t : Ty) (σ : Assignment U) (v : Value carrier (sort t))
              → truth_value U (M (conjunction (member (new t) (below u)) (member (below e) (new t))) ((sort t, v) ∷ σ))
              ≡ (contains U (M u σ) (sort t) v && contains U (sort t, v) (M e σ).0 (M e σ).1)
          both u e t σ v = simp words

  pub general_intersection_law : LawKeeps U names P law.MemberOfGeneralIntersection
  general_intersection_law h g types ready k =
      let (e, u, n, there) = in_one_of types op.GeneralIntersection h ready.0 _ g k in
      let (t, u_type, made) = is_of_set u _ g there in
      same_values U names n.is made
      (meet e u t (flat op.GeneralIntersection (λ a t. refl) e u t types n.set_well u_type))
    where
      meet : (e u : Formula) (t : Ty) → t ≡ ty.Pow (type_of e) → (σ : Assignment U)
          → M (for_all t (implication (member (new t) (below u)) (member (below e) (new t)))) σ
          ≡ M (member e (Node op.GeneralIntersection (u ∷ []) (ty.Pow (type_of e)))) σ
      meet e u t is σ =
          let x : Denotation carrier = M e σ in
          of_quantifier U names binder.ForAll (t ∷ [])
          (implication (member (new t) (below u)) (member (below e) (new t)) ∷ []) σ
          ∙ (λ i. truth U (every U (sort t) (λ v. both u e t σ v i)))
          ∙ (λ i. truth U (let s = sorts e t is σ i in
          every U s (λ v. implies (contains U (M u σ) s v) (contains U (s, v) x.0 x.1))))
          ∙ (λ i. truth U (every U (power_sort x.0)
          (λ m. implies (contains U (M u σ) (power_sort x.0) m) (cast_own U (power_sort x.0) m i x.1))))
          ∙ sym (of_membership U names e op.GeneralIntersection (u ∷ []) σ)
        where
          both : (u e : Formula) (t : Ty) (σ : Assignment U) (v : Value carrier (sort t))
              → truth_value U (M (implication (member (new t) (below u)) (member (below e) (new t))) ((sort t, v) ∷ σ))
              ≡ implies (contains U (M u σ) (sort t) v) (contains U (sort t, v) (M e σ).0 (M e σ).1)
          both u e t σ v = simp words
