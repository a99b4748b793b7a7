-- The left sides of laws: what a well formula is that a law takes apart, each part with its type.
use Rattle.std.proofs.Common.{Bool, List, Option, Some, [], ap, refl, subst, sym, true, ◌&&◌, ◌∙◌, ◌∷◌, ◌≡◌}
use Rattle.formula_core.proofs.Types.{same_type_exact}
use Rattle.formula_core.proofs.Weakening.{first_true, second_true}
use Rattle.formula_core.specs.Rows.{row_of}
use Rattle.formula_core.specs.TypeTable.{row_fits}
use Rattle.formula_core.specs.Types.{if_relation, is_set_of, is_truth, is_value_type, members, members_at, same_type}
use Rattle.formula_core.specs.Wellness.{type_of}
use Rattle.formula_core.specs.declared.Formula.{Formula}
use Rattle.formula_core.specs.declared.Formula.TheVariants.{Node}
use Rattle.formula_core.specs.declared.Op.{Op}
use Rattle.formula_core.specs.declared.Op.TheVariants as op
use Rattle.formula_core.specs.declared.Ty.{Ty}
use Rattle.formula_core.specs.declared.Ty.TheVariants as ty
use Rattle.formula_core.specs.declared.ty.Ty.TheViews.{outs-Pow}
use Rattle.well_defined.specs.Predicates.{member, predicate}
use Rattle.rule_table.specs.SetLaws.{in_none, in_one, in_two}
use Rattle.rule_table.specs.Shapes.{maplet, on_one, on_two}
use Rattle.meanings.proofs.Fitting.{IsWellIn, row_of_well, well_parts}
use Rattle.meanings.proofs.Types.{pair_of_is, set_of_is, truth_is, type-Node}
use Rattle.true_laws.proofs.Forms.{is_on_none, is_on_one, is_on_two}

module _ (types : List Ty) where
  -- a well predicate on one part and on two: `fit` is what the operator's row asks of their types
  pub record OnOne (o : Op) (fit : Ty → Bool) (h p : Formula) : Type 0 where
    pub is : h ≡ predicate o (p ∷ [])
    pub fits : fit (type_of p) ≡ true
    pub well : IsWellIn p types

  pub on_one_of : {X : Type 0} → (o : Op) (fit : Ty → Bool)
      → ((a t : Ty) → row_fits (row_of o) (a ∷ []) t ≡ (fit a && is_truth t))
      → (h : Formula) → IsWellIn h types → (make : Formula → Option X) (x : X) → on_one o h make ≡ Some x
      → (p : Formula) × OnOne o fit h p × (make p ≡ Some x)
  on_one_of o fit row h well make x k =
      let (p, t, is, made) = is_on_one x o h make k in
      let whole = subst (λ f. IsWellIn f types) is well in
      let fits = sym (row (type_of p) t) ∙ row_of_well o (p ∷ []) t types whole in (
        p,
        record {
          is = is ∙ ap (Node o (p ∷ [])) (truth_is t (second_true (fit (type_of p)) _ fits));
          fits = first_true _ _ fits;
          well = (well_parts o (p ∷ []) t types whole).0;
        },
        made,
      )

  pub record OnTwo (o : Op) (fit : Ty → Ty → Bool) (h p q : Formula) : Type 0 where
    pub is : h ≡ predicate o (p ∷ q ∷ [])
    pub fits : fit (type_of p) (type_of q) ≡ true
    pub left_well : IsWellIn p types
    pub right_well : IsWellIn q types

  pub on_two_of : {X : Type 0} → (o : Op) (fit : Ty → Ty → Bool)
      → ((a b t : Ty) → row_fits (row_of o) (a ∷ b ∷ []) t ≡ (fit a b && is_truth t))
      → (h : Formula) → IsWellIn h types → (make : Formula → Formula → Option X) (x : X) → on_two o h make ≡ Some x
      → (p q : Formula) × OnTwo o fit h p q × (make p q ≡ Some x)
  on_two_of o fit row h well make x k =
      let (p, q, t, is, made) = is_on_two x o h make k in
      let whole = subst (λ f. IsWellIn f types) is well in
      let fits = sym (row (type_of p) (type_of q) t) ∙ row_of_well o (p ∷ q ∷ []) t types whole in
      let wells = well_parts o (p ∷ q ∷ []) t types whole in (
        p,
        q,
        record {
          is = is ∙ ap (Node o (p ∷ q ∷ [])) (truth_is t (second_true (fit (type_of p) (type_of q)) _ fits));
          fits = first_true _ _ fits;
          left_well = wells.0;
          right_well = wells.1.0;
        },
        made,
      )

  -- E ∈ op(..)
  pub record InSet (o : Op) (ps : List Formula) (h e : Formula) : Type 0 where
    pub is : h ≡ member e (Node o ps (ty.Pow (type_of e)))
    pub well : IsWellIn e types
    pub set_well : IsWellIn (Node o ps (ty.Pow (type_of e))) types

  abbrev pub IsMember : Ty → Ty → Bool
  IsMember a b = is_value_type a && is_set_of b a

  pub member_of : {X : Type 0} → (h : Formula) → IsWellIn h types → (make : Formula → Formula → Option X) (x : X)
      → on_two op.Member h make ≡ Some x → (e set : Formula) × OnTwo op.Member IsMember h e set × (make e set ≡ Some x)
  member_of = on_two_of op.Member IsMember (λ a b t. refl)

  pub in_set : (o : Op) (ps : List Formula) (u : Ty) (h e set : Formula) → OnTwo op.Member IsMember h e set
      → set ≡ Node o ps u → InSet o ps h e
  in_set o ps u h e set n is =
      let set_type = set_of_is (type_of set) (type_of e) (second_true (is_value_type (type_of e)) _ n.fits) in
      let same = is ∙ ap (Node o ps) (sym (type-Node o ps u) ∙ ap type_of (sym is) ∙ set_type) in record {
        is = n.is ∙ ap (member e) same;
        well = n.left_well;
        set_well = subst (λ f. IsWellIn f types) same n.right_well;
      }

  pub in_none_of : (o : Op) (h : Formula) → IsWellIn h types → (make : Formula → Option Formula) (g : Formula)
      → in_none o h make ≡ Some g
      → (e : Formula) × InSet o [] h e × (make e ≡ Some g)
  in_none_of o h well make g k =
      let (e, set, n, there) = member_of h well _ g k in
      let (u, is, made) = is_on_none g o set (make e) there in
      (e, in_set o [] u h e set n is, made)

  pub in_one_of : (o : Op) (h : Formula) → IsWellIn h types
      → (make : Formula → Formula → Option Formula) (g : Formula) → in_one o h make ≡ Some g
      → (e s : Formula) × InSet o (s ∷ []) h e × (make e s ≡ Some g)
  in_one_of o h well make g k =
      let (e, set, n, there) = member_of h well _ g k in
      let (s, u, is, made) = is_on_one g o set (make e) there in
      (e, s, in_set o (s ∷ []) u h e set n is, made)

  pub in_two_of : (o : Op) (h : Formula) → IsWellIn h types
      → (make : Formula → Formula → Formula → Option Formula) (g : Formula) → in_two o h make ≡ Some g
      → (e s t : Formula) × InSet o (s ∷ t ∷ []) h e × (make e s t ≡ Some g)
  in_two_of o h well make g k =
      let (e, set, n, there) = member_of h well _ g k in
      let (s, t, u, is, made) = is_on_two g o set (make e) there in
      (e, s, t, in_set o (s ∷ t ∷ []) u h e set n is, made)

  -- E ↦ F
  pub record IsPair (e a b : Formula) : Type 0 where
    pub is : e ≡ maplet a b
    pub left_well : IsWellIn a types
    pub right_well : IsWellIn b types

  pub pair_of : {X : Type 0} → (e : Formula) → IsWellIn e types → (make : Formula → Formula → Option X) (x : X)
      → on_two op.Maplet e make ≡ Some x
      → (a b : Formula) × IsPair e a b × (make a b ≡ Some x)
  pair_of e well make x k =
      let (a, b, t, is, made) = is_on_two x op.Maplet e make k in
      let whole = subst (λ f. IsWellIn f types) is well in
      let fits = row_of_well op.Maplet (a ∷ b ∷ []) t types whole in
      let wells = well_parts op.Maplet (a ∷ b ∷ []) t types whole in
      let values = is_value_type (type_of a) && is_value_type (type_of b) in
      let t_is = pair_of_is t (type_of a) (type_of b) (second_true values _ fits) in
      let is = is ∙ ap (Node op.Maplet (a ∷ b ∷ [])) t_is in
      (a, b, record { is = is; left_well = wells.0; right_well = wells.1.0 }, made)

-- the types in an overriding
pub over_types : (f s : Formula) (u : Ty) (types : List Ty) → IsWellIn (Node op.Overriding (f ∷ s ∷ []) u) types
    → type_of s ≡ u
over_types f s u types h =
    let first = is_value_type (type_of f) && if_relation (type_of f) (λ α β. true) in
    let front = first && same_type (type_of s) (type_of f) in
    let k : (front && same_type u (type_of f)) ≡ true = row_of_well op.Overriding (f ∷ s ∷ []) u types h in
    same_type_exact (type_of s) (type_of f) (second_true first _ (first_true front _ k))
    ∙ sym (same_type_exact u (type_of f) (second_true front _ k))

-- sets of one type have members of one type
pub same_part : (a b : Ty) → ty.Pow a ≡ ty.Pow b → a ≡ b
same_part a b h =
    let one : Some a ≡ Some b = sym (ap members_at (outs-Pow a)) ∙ ap members h ∙ ap members_at (outs-Pow b) in cc
