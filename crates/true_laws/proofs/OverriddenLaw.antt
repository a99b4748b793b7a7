-- The law of an overriding at its own place.
use Rattle.std.proofs.Common.{Bool, List, Some, [], ap, false, not, refl, subst, sym, true, ℕ, ◌&&◌, ◌||◌, ◌∙◌, ◌∷◌, ◌≡◌}
use Rattle.std.specs.List.{list_all}
use Rattle.formula_core.proofs.SameFormulas.{same_formula_exact}
use Rattle.formula_core.proofs.Types.{same_type_exact}
use Rattle.formula_core.proofs.Weakening.{first_true, second_true}
use Rattle.formula_core.specs.Same.{same_formula}
use Rattle.formula_core.specs.Types.{if_relation, is_set_of, is_value_type, same_type}
use Rattle.formula_core.specs.Wellness.{type_of}
use Rattle.formula_core.specs.declared.Formula.{Formula}
use Rattle.formula_core.specs.declared.Formula.TheVariants.{Node}
use Rattle.formula_core.specs.declared.Op.TheVariants as op
use Rattle.formula_core.specs.declared.Ty.{Ty}
use Rattle.formula_core.specs.declared.Ty.TheVariants as ty
use Rattle.rule_table.specs.Shapes.{maplet}
use Rattle.rule_table.specs.declared.law.Law.TheVariants as law
use Rattle.meanings.specs.Denotations.{Assignment, denotation}
use Rattle.meanings.specs.Operations.{contains, of_list}
use Rattle.meanings.specs.Universes.{Valuation, Universe, cast, some}
use Rattle.meanings.specs.Values.{Sort, Denotation, Value, pair_sort, power_sort, sort}
use Rattle.meanings.proofs.Bools.{or_none}
use Rattle.meanings.proofs.Casts.{cast_own}
use Rattle.meanings.proofs.Denotations.{denotation-Node, sort-Pair, sort-Pow}
use Rattle.meanings.proofs.Fitting.{IsWellIn, row_of_well, well_parts}
use Rattle.meanings.proofs.Quantifiers.{some_holds}
use Rattle.meanings.proofs.Truths.{at_node}
use Rattle.meanings.proofs.Types.{if_relation_tells, pair_parts, set_of_is, type-Node}
use Rattle.true_laws.proofs.Words.{of_pair, paired, same_values, with_value}
use Rattle.true_laws.proofs.LeftSides.{over_types, pair_of}
use Rattle.true_laws.proofs.Forms.{if_tells, is_on_one, is_on_two}
use Rattle.true_laws.proofs.Places.{LawKeeps}

apply_types : (g z : Formula) (t : Ty) (types : List Ty) → IsWellIn (Node op.Apply (g ∷ z ∷ []) t) types
    → type_of g ≡ ty.Pow (ty.Pair (type_of z) t)
apply_types g z t types h =
    let same = λ (α β : Ty). same_type (type_of z) α && same_type t β in
    let k : (is_value_type (type_of g) && if_relation (type_of g) same) ≡ true =
    row_of_well op.Apply (g ∷ z ∷ []) t types h in
    let (p, is, holds) = if_relation_tells (type_of g) same (second_true (is_value_type (type_of g)) _ k) in
    let z_is = same_type_exact (type_of z) p.0 (first_true _ _ holds) in
    let t_is = same_type_exact t p.1 (second_true (same_type (type_of z) p.0) _ holds) in is
    ∙ (λ i. ty.Pow (ty.Pair (sym z_is i) (sym t_is i)))

module _ {carrier : List ℕ → Type 0} (U : Universe carrier) (c d : Sort) where
  module _ (x : Value carrier c) (y : Value carrier d) where
    -- the set of one pair, and what its values at the pair's place are
    abbrev alone : Value carrier (pair_sort c d) → Bool
    alone p = U.same (pair_sort c d) p (x, y) || false

    abbrev at : Value carrier d → Bool
    at w = alone (x, w)

    here : at y ≡ true
    here = or_none (U.same (pair_sort c d) (x, y) (x, y)) ∙ (U.same_exact (pair_sort c d) (x, y) (x, y)).1 refl

    only : (w : Value carrier d) → at w ≡ true → w ≡ y
    only w h =
        let same = sym (or_none (U.same (pair_sort c d) (x, w) (x, y))) ∙ h in
        λ i. ((U.same_exact (pair_sort c d) (x, w) (x, y)).0 same i).1

    first_one : (p q : Bool) → (p || (q && false)) ≡ p
    first_one true q = refl
    first_one false true = refl
    first_one false false = refl

    -- of the values that an overriding by the pair has at its place, the one that is chosen is the pair's
    chosen : (R : Value carrier d → Bool) → U.choose d (λ w. at w || (R w && not (some U d at))) ≡ y
    chosen R =
        (λ i. U.choose d (λ w. ((λ j. at w || (R w && not (some_holds U d at y here j))) ∙ first_one (at w) (R w)) i))
        ∙ only (U.choose d at) (U.chooses d at y here)

module _ {carrier : List ℕ → Type 0} (U : Universe carrier) (names : Valuation carrier) (P : List ℕ × Ty → Type 0) where
  abbrev M : Formula → Assignment U → Denotation carrier
  M = denotation U names

  abbrev set : (z v : Formula) (w : Ty) → Formula
  set z v w = Node op.SetExtension (maplet z v ∷ []) w

  abbrev over : (f z v : Formula) (w : Ty) → Formula
  over f z v w = Node op.Overriding (f ∷ set z v w ∷ []) w

  module _ (f z v : Formula) (w t : Ty) (w_is : w ≡ ty.Pow (ty.Pair (type_of z) t)) (σ : Assignment U) where
    abbrev d : Sort
    d = sort t

    abbrev pairs : Sort
    pairs = pair_sort (sort (type_of z)) d

    sorts : sort w ≡ power_sort pairs
    sorts = ap sort w_is ∙ sort-Pow (ty.Pair (type_of z) t) ∙ ap power_sort (sort-Pair (type_of z) t)

    abbrev over_set : Value carrier pairs → Bool
    over_set = of_list U op.Overriding (power_sort pairs) (M f σ ∷ M (set z v w) σ ∷ [])

    over_is : M (over f z v w) σ ≡ (power_sort pairs, over_set)
    over_is = at_node U names op.Overriding (f ∷ set z v w ∷ []) w (power_sort pairs) sorts σ

    module _ (x : Value carrier (sort (type_of z))) (y : Value carrier d)
        (z_is : M z σ ≡ (sort (type_of z), x)) (v_is : M v σ ≡ (d, y)) where
      abbrev pair_alone : Value carrier pairs → Bool
      pair_alone = alone U (sort (type_of z)) d x y

      one : M (set z v w) σ ≡ (power_sort pairs, pair_alone)
      one =
          at_node U names op.SetExtension (maplet z v ∷ []) w (power_sort pairs) sorts σ
          ∙ (λ i. (power_sort pairs, λ p. U.same pairs p (cast U pairs (of_pair U names z v σ i)) || false))
          ∙ (λ i. (power_sort pairs, λ p. U.same pairs p (cast U pairs (paired U names (z_is i) (v_is i))) || false))
          ∙ (λ i. (power_sort pairs, λ p. U.same pairs p (cast_own U pairs (x, y) i) || false))

      -- the choice among the values at z, where S is the set of one pair
      abbrev picked : (Value carrier pairs → Bool) → Value carrier d
      picked S = U.choose d (λ u. S (x, u) || (contains U (M f σ) pairs (x, u) && not (some U d (λ u. S (x, u)))))

      value : M v σ ≡ M (Node op.Apply (over f z v w ∷ z ∷ []) t) σ
      value =
          v_is ∙ (λ i. (d, sym (chosen U (sort (type_of z)) d x y (λ u. contains U (M f σ) pairs (x, u))) i))
          ∙ (λ i. (d, picked (sym (cast_own U (power_sort pairs) pair_alone) i)))
          ∙ (λ i. (d, picked (contains U (sym one i) pairs)))
          ∙ (λ i. (d, U.choose d (λ u. sym (cast_own U (power_sort pairs) over_set) i (x, u))))
          ∙ (λ i. (d, U.choose d (λ u. contains U (sym over_is i) pairs (x, u))))
          ∙ (λ i. (d, of_list U op.Apply d (M (over f z v w) σ ∷ sym z_is i ∷ [])))
          ∙ sym (denotation-Node U names op.Apply (over f z v w ∷ z ∷ []) t σ)

  pub overridden_at_law : LawKeeps U names P law.OverriddenAt
  overridden_at_law h g types ready k =
      let (o, z, t, h_is, there) = is_on_two g op.Apply h _ k in
      let (f, s, u, o_is, there) = is_on_two g op.Overriding o _ there in
      let (p, w, s_is, there) = is_on_one g op.SetExtension s _ there in
      let whole = subst (λ f. IsWellIn f types) h_is ready.0 in
      let o_well = subst (λ f. IsWellIn f types) o_is (well_parts op.Apply (o ∷ z ∷ []) t types whole).0 in
      let s_well = subst (λ f. IsWellIn f types) s_is (well_parts op.Overriding (f ∷ s ∷ []) u types o_well).1.0 in
      let (e, v, m, there) = pair_of types p (well_parts op.SetExtension (p ∷ []) w types s_well).0 _ g there in
      let (same, made) = if_tells (same_formula e z) (Some v) g there in
      let p_is : p ≡ maplet z v = m.is ∙ ap (λ e. maplet e v) (same_formula_exact e z same) in
      let u_is = sym (type-Node op.Overriding (f ∷ s ∷ []) u) ∙ ap type_of (sym o_is) ∙ apply_types o z t types whole in
      let w_is : w ≡ u = sym (type-Node op.SetExtension (p ∷ []) w) ∙ ap type_of (sym s_is)
      ∙ over_types f s u types o_well in
      let row : (is_value_type (type_of p) && list_all (λ b. same_type b (type_of p)) [] && is_set_of w (type_of p))
      ≡ true =
      row_of_well op.SetExtension (p ∷ []) w types s_well in
      let of_p = set_of_is w (type_of p) (second_true (is_value_type (type_of p) && true) _ row) in
      let p_type = ap type_of p_is ∙ type-Node op.Maplet (z ∷ v ∷ []) (ty.Pair (type_of z) (type_of v)) in
      let sides = pair_parts (type_of z) (type_of v) (type_of z) t (sym (of_p ∙ ap ty.Pow p_type) ∙ w_is ∙ u_is) in
      let set_is : s ≡ set z v w = s_is ∙ ap (λ p. Node op.SetExtension (p ∷ []) w) p_is in
      let form : o ≡ over f z v w = o_is ∙ (λ i. Node op.Overriding (f ∷ set_is i ∷ []) (sym w_is i)) in
      same_values U names (h_is ∙ ap (λ o. Node op.Apply (o ∷ z ∷ []) t) form) made (λ σ.
      with_value U names z (sort (type_of z)) refl σ
      (λ x z_is. with_value U names v (sort t) (ap sort sides.1) σ (λ y v_is.
      value f z v w t (w_is ∙ u_is) σ x y z_is v_is)))
