-- The laws of sets and pairs keep types.
use Rattle.std.proofs.Common.{◌≡◌, ◌∙◌, sym, ap, refl, true, List, Option, IfSome}
use Rattle.formula_core.specs.declared.Op.TheVariants as op
use Rattle.formula_core.specs.declared.Ty.{Ty}
use Rattle.formula_core.specs.declared.Ty.TheVariants as ty
use Rattle.formula_core.specs.declared.Formula.{Formula}
use Rattle.formula_core.specs.declared.row.NullaryRow.TheVariants as nullary
use Rattle.formula_core.specs.declared.row.UnaryRow.TheVariants as unary
use Rattle.formula_core.specs.declared.row.BinaryRow.TheVariants as binary
use Rattle.formula_core.specs.Same.{same_formula}
use Rattle.formula_core.specs.Types.{is_value_type}
use Rattle.formula_core.specs.Wellness.{type_of}
use Rattle.formula_core.specs.WholeSets.{whole_set}
use Rattle.formula_core.proofs.WholeSets.{value-Pow}
use Rattle.well_defined.specs.Predicates.{top}
use Rattle.rule_table.specs.SetLaws.{member_of_product, member_of_union, member_of_intersection, member_of_difference, member_of_empty, inclusion, proper_inclusion, equal_sets, equal_to_empty, member_of_power_set, member_of_non_empty_power_set, member_of_general_union, member_of_general_intersection, equal_pairs, finite_empty, finite_union, finite_interval, member_of_whole}
use Rattle.made_rules.proofs.Typed.{Env, Carried, Is}
use Rattle.made_rules.proofs.Forms.{carried}
use Rattle.made_rules.proofs.Makers.{top_is, bottom_is, finite_is, carried_members}
use Rattle.made_rules.proofs.Operands.{OfTwo, of_set_if, of_set_some, power_exact, test_if}
use Rattle.made_rules.proofs.SetMakers.{re, neg, conj, disj, impl, eq, mem, sub, nothing, set_value, member_of, parts_of, each, exists, fresh, deeper, none, one, two, in_set, pair_of}

module _ (env : Env) (bound : List Ty) (t : Ty) (f : Formula) (h : Is env bound t f) where
  abbrev Q : Formula → Type 0
  Q = Is env bound t

  abbrev Kept : Option Formula → Type 0
  Kept o = IfSome o Q

  -- the carrier sets of the members of a set
  inner : (α : Ty) (s : Formula) → Is env bound (ty.Pow α) s → Carried env α
  inner α s k = carried_members env α (carried env bound (ty.Pow α) s k)

  -- E ↦ F ∈ S × T
  pub product_is : Kept (member_of_product f)
  product_is = in_set Q h _ (λ p r v. two Q op.Product binary.Product refl v.right _ (λ s u w. pair_of Q v.left _ (λ e g m.
      let x = parts_of w.letters.alpha w.letters.beta m (power_exact v.letters.alpha (ty.Pair w.letters.alpha w.letters.beta) w.whole) in
      re (sym v.whole) (conj (mem w.values.alpha x.0 w.left) (mem w.values.beta x.1 w.right)))))

  pub union_is : Kept (member_of_union f)
  union_is = in_set Q h _ (λ e r v. two Q op.Union binary.SetOperation refl v.right _ (λ s u w.
      let x = member_of w.letters.alpha v w.whole in
      re (sym v.whole) (disj (mem w.values.alpha x w.left) (mem w.values.alpha x w.right))))

  pub intersection_is : Kept (member_of_intersection f)
  intersection_is = in_set Q h _ (λ e r v. two Q op.Intersection binary.SetOperation refl v.right _ (λ s u w.
      let x = member_of w.letters.alpha v w.whole in
      re (sym v.whole) (conj (mem w.values.alpha x w.left) (mem w.values.alpha x w.right))))

  pub difference_is : Kept (member_of_difference f)
  difference_is = in_set Q h _ (λ e r v. two Q op.Difference binary.SetOperation refl v.right _ (λ s u w.
      let x = member_of w.letters.alpha v w.whole in
      re (sym v.whole) (conj (mem w.values.alpha x w.left) (neg (mem w.values.alpha x w.right)))))

  pub empty_is : Kept (member_of_empty f)
  empty_is = in_set Q h _ (λ e r v. none Q op.EmptySet nullary.EmptySet refl v.right _ (λ n. re (sym v.whole) (bottom_is env bound)))

  -- S ⊆ T
  pub inclusion_is : Kept (inclusion f)
  inclusion_is = two Q op.Subset binary.Inclusion refl h _ (λ s u v.
      let α = v.letters.alpha in
      let c = inner α s v.left in
      of_set_if Q s α _ v.left.type
      (re (sym v.whole) (each α v.values.alpha c (impl
      (mem v.values.alpha (fresh α v.values.alpha c) (deeper α v.left)) (mem v.values.alpha (fresh α v.values.alpha c) (deeper α v.right))))))

  pub proper_inclusion_is : Kept (proper_inclusion f)
  proper_inclusion_is = two Q op.ProperSubset binary.Inclusion refl h _ (λ s u v.
      re (sym v.whole) (conj (sub v.letters.alpha v.values.alpha v.left v.right) (neg (eq (set_value v.letters.alpha v.values.alpha) v.left v.right))))

  -- S = T, of sets of α
  equal_set : (s u : Formula) (v : OfTwo env bound binary.Equality t s u) (α : Ty) → v.letters.alpha ≡ ty.Pow α → is_value_type α ≡ true
  equal_set s u v α e = sym (value-Pow α) ∙ ap is_value_type (sym e) ∙ v.values.alpha

  pub equal_sets_is : Kept (equal_sets f)
  equal_sets_is = two Q op.Equal binary.Equality refl h _ (λ s u v. of_set_some Q s _ (λ α e.
      let same : v.letters.alpha ≡ ty.Pow α = sym v.left.type ∙ e in
      let value = equal_set s u v α same in
      re (sym v.whole) (conj (sub α value (re same v.left) (re same v.right)) (sub α value (re same v.right) (re same v.left)))))

  pub equal_to_empty_is : Kept (equal_to_empty f)
  equal_to_empty_is = two Q op.Equal binary.Equality refl h _ (λ s u v. none Q op.EmptySet nullary.EmptySet refl v.right _ (λ n. of_set_some Q s _ (λ α e.
      let same : v.letters.alpha ≡ ty.Pow α = sym v.left.type ∙ e in
      let value = equal_set s u v α same in
      let set : Is env bound (ty.Pow α) s = re same v.left in
      let c = inner α s set in
      re (sym v.whole) (each α value c (neg (mem value (fresh α value c) (deeper α set)))))))

  -- E ∈ ℙ(S)
  pub power_set_is : Kept (member_of_power_set f)
  power_set_is = in_set Q h _ (λ e r v. one Q op.PowerSet unary.PowerSet refl v.right _ (λ s w.
      re (sym v.whole) (sub w.letters.alpha w.values.alpha (member_of (ty.Pow w.letters.alpha) v w.whole) w.part)))

  pub non_empty_power_set_is : Kept (member_of_non_empty_power_set f)
  non_empty_power_set_is = in_set Q h _ (λ e r v. one Q op.NonEmptyPowerSet unary.PowerSet refl v.right _ (λ s w.
      let α = w.letters.alpha in
      let set : Is env bound (ty.Pow α) e = member_of (ty.Pow α) v w.whole in
      re (sym v.whole) (conj (sub α w.values.alpha set w.part)
      (neg (eq (set_value α w.values.alpha) set (re set.type (nothing α _ set.type w.values.alpha (inner α s w.part))))))))

  -- E ∈ union(U)
  pub general_union_is : Kept (member_of_general_union f)
  general_union_is = in_set Q h _ (λ e r v. one Q op.GeneralUnion unary.Flattening refl v.right _ (λ u w.
      let σ = ty.Pow w.letters.alpha in
      let value = set_value w.letters.alpha w.values.alpha in
      let c = inner σ u w.part in
      let x = member_of w.letters.alpha v w.whole in
      of_set_if Q u σ _ w.part.type
      (re (sym v.whole) (exists σ value c (conj (mem value (fresh σ value c) (deeper σ w.part)) (mem w.values.alpha (deeper σ x) (fresh σ value c)))))))

  pub general_intersection_is : Kept (member_of_general_intersection f)
  general_intersection_is = in_set Q h _ (λ e r v. one Q op.GeneralIntersection unary.Flattening refl v.right _ (λ u w.
      let σ = ty.Pow w.letters.alpha in
      let value = set_value w.letters.alpha w.values.alpha in
      let c = inner σ u w.part in
      let x = member_of w.letters.alpha v w.whole in
      of_set_if Q u σ _ w.part.type
      (re (sym v.whole) (each σ value c (impl (mem value (fresh σ value c) (deeper σ w.part)) (mem w.values.alpha (deeper σ x) (fresh σ value c)))))))

  -- E ↦ F = G ↦ H
  pub equal_pairs_is : Kept (equal_pairs f)
  equal_pairs_is = two Q op.Equal binary.Equality refl h _ (λ a b v. pair_of Q v.left _ (λ e g m. pair_of Q v.right _ (λ x y n.
      let z = parts_of m.letters.alpha m.letters.beta n m.whole in
      re (sym v.whole) (conj (eq m.values.alpha m.left z.0) (eq m.values.beta m.right z.1)))))

  pub whole_is : Kept (member_of_whole f)
  whole_is = in_set Q h _ (λ e u v. test_if Q (same_formula u (whole_set (type_of e))) top (λ same. re (sym v.whole) (top_is env bound)))

  -- finite(S)
  pub finite_empty_is : Kept (finite_empty f)
  finite_empty_is = one Q op.Finite unary.Finiteness refl h _ (λ s v. none Q op.EmptySet nullary.EmptySet refl v.part _ (λ n. re (sym v.whole) (top_is env bound)))

  pub finite_union_is : Kept (finite_union f)
  finite_union_is = one Q op.Finite unary.Finiteness refl h _ (λ u v. two Q op.Union binary.SetOperation refl v.part _ (λ s r w.
      re (sym v.whole) (conj (finite_is env bound w.letters.alpha w.values.alpha s w.left) (finite_is env bound w.letters.alpha w.values.alpha r w.right))))

  pub finite_interval_is : Kept (finite_interval f)
  finite_interval_is = one Q op.Finite unary.Finiteness refl h _ (λ s v. two Q op.Interval binary.Interval refl v.part _ (λ a b w. re (sym v.whole) (top_is env bound)))
