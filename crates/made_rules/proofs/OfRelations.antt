-- The laws of relations keep types.
use Rattle.std.proofs.Common.{◌∙◌, sym, ap, subst, refl, List, Option, IfSome}
use Rattle.formula_core.specs.declared.Op.TheVariants as op
use Rattle.formula_core.specs.declared.Ty.{Ty}
use Rattle.formula_core.specs.declared.Ty.TheVariants as ty
use Rattle.formula_core.specs.declared.Formula.{Formula}
use Rattle.formula_core.specs.declared.row.NullaryRow.TheVariants as nullary
use Rattle.formula_core.specs.declared.row.UnaryRow.TheVariants as unary
use Rattle.formula_core.specs.declared.row.BinaryRow.TheVariants as binary
use Rattle.formula_core.specs.Wellness.{type_of}
use Rattle.rule_table.specs.SetLaws.{member_of_domain, member_of_range, member_of_converse, member_of_domain_restriction, member_of_domain_subtraction, member_of_range_restriction, member_of_range_subtraction, member_of_overriding, member_of_image, member_of_composition, member_of_direct_product, member_of_parallel_product, member_of_identity, member_of_first_projection, member_of_second_projection}
use Rattle.well_defined.specs.Predicates.{domain}
use Rattle.made_rules.proofs.Typed.{Env, Is}
use Rattle.made_rules.proofs.Operands.{of_relation_if, power_exact, pair_left, pair_right}
use Rattle.made_rules.proofs.SetMakers.{re, neg, conj, disj, eq, mem, pairs, pair_value, from_carried, to_carried, dom, member_of, parts_of, exists, fresh, deeper, none, one, two, in_set, pair_of}

module _ (env : Env) (bound : List Ty) (t : Ty) (f : Formula) (h : Is env bound t f) where
  abbrev Q : Formula → Type 0
  Q = Is env bound t

  abbrev Kept : Option Formula → Type 0
  Kept o = IfSome o Q

  -- E ∈ dom(r)
  pub domain_is : Kept (member_of_domain f)
  domain_is = in_set Q h _ (λ e u v. one Q op.Domain unary.Domain refl v.right _ (λ r w.
      let α = w.letters.alpha in let β = w.letters.beta in
      let x = member_of α v w.whole in
      let c = to_carried α β w.values.alpha w.values.beta w.part in
      of_relation_if Q r α β _ w.part.type
      (re (sym v.whole) (exists β w.values.beta c (mem (pair_value α β w.values.alpha w.values.beta)
      (pairs w.values.alpha w.values.beta (deeper β x) (fresh β w.values.beta c)) (deeper β w.part))))))

  pub range_is : Kept (member_of_range f)
  range_is = in_set Q h _ (λ e u v. one Q op.Range unary.Range refl v.right _ (λ r w.
      let α = w.letters.alpha in let β = w.letters.beta in
      let x = member_of β v w.whole in
      let c = from_carried α β w.values.alpha w.values.beta w.part in
      of_relation_if Q r α β _ w.part.type
      (re (sym v.whole) (exists α w.values.alpha c (mem (pair_value α β w.values.alpha w.values.beta)
      (pairs w.values.alpha w.values.beta (fresh α w.values.alpha c) (deeper α x)) (deeper α w.part))))))

  pub converse_is : Kept (member_of_converse f)
  converse_is = in_set Q h _ (λ p u v. one Q op.Converse unary.Converse refl v.right _ (λ r w. pair_of Q v.left _ (λ e g m.
      let α = w.letters.alpha in let β = w.letters.beta in
      let x = parts_of β α m (power_exact v.letters.alpha (ty.Pair β α) w.whole) in
      re (sym v.whole) (mem (pair_value α β w.values.alpha w.values.beta) (pairs w.values.alpha w.values.beta x.1 x.0) w.part))))

  -- E ↦ F ∈ S ◁ r, and its neighbours
  pub domain_restriction_is : Kept (member_of_domain_restriction f)
  domain_restriction_is = in_set Q h _ (λ p u v. two Q op.DomainRestriction binary.DomainFilter refl v.right _ (λ s r w. pair_of Q v.left _ (λ e g m.
      let α = w.letters.alpha in let β = w.letters.beta in
      let here = power_exact v.letters.alpha (ty.Pair α β) w.whole in
      let x = parts_of α β m here in
      re (sym v.whole) (conj (mem w.values.alpha x.0 w.left) (mem (pair_value α β w.values.alpha w.values.beta) (re here v.left) w.right)))))

  pub domain_subtraction_is : Kept (member_of_domain_subtraction f)
  domain_subtraction_is = in_set Q h _ (λ p u v. two Q op.DomainSubtraction binary.DomainFilter refl v.right _ (λ s r w. pair_of Q v.left _ (λ e g m.
      let α = w.letters.alpha in let β = w.letters.beta in
      let here = power_exact v.letters.alpha (ty.Pair α β) w.whole in
      let x = parts_of α β m here in
      re (sym v.whole) (conj (neg (mem w.values.alpha x.0 w.left)) (mem (pair_value α β w.values.alpha w.values.beta) (re here v.left) w.right)))))

  pub range_restriction_is : Kept (member_of_range_restriction f)
  range_restriction_is = in_set Q h _ (λ p u v. two Q op.RangeRestriction binary.RangeFilter refl v.right _ (λ r s w. pair_of Q v.left _ (λ e g m.
      let α = w.letters.alpha in let β = w.letters.beta in
      let here = power_exact v.letters.alpha (ty.Pair α β) w.whole in
      let x = parts_of α β m here in
      re (sym v.whole) (conj (mem (pair_value α β w.values.alpha w.values.beta) (re here v.left) w.left) (mem w.values.beta x.1 w.right)))))

  pub range_subtraction_is : Kept (member_of_range_subtraction f)
  range_subtraction_is = in_set Q h _ (λ p u v. two Q op.RangeSubtraction binary.RangeFilter refl v.right _ (λ r s w. pair_of Q v.left _ (λ e g m.
      let α = w.letters.alpha in let β = w.letters.beta in
      let here = power_exact v.letters.alpha (ty.Pair α β) w.whole in
      let x = parts_of α β m here in
      re (sym v.whole) (conj (mem (pair_value α β w.values.alpha w.values.beta) (re here v.left) w.left) (neg (mem w.values.beta x.1 w.right))))))

  at_own_type : (e s : Formula) (α : Ty) → Is env bound α e → Is env bound (ty.Pow α) (domain s α) → Is env bound (ty.Pow (type_of e)) (domain s (type_of e))
  at_own_type e s α x d = subst (λ y. Is env bound (ty.Pow y) (domain s y)) (sym x.type) d

  pub overriding_is : Kept (member_of_overriding f)
  overriding_is = in_set Q h _ (λ p u v. two Q op.Overriding binary.Overriding refl v.right _ (λ r s w. pair_of Q v.left _ (λ e g m.
      let α = w.letters.alpha in let β = w.letters.beta in
      let here = power_exact v.letters.alpha (ty.Pair α β) w.whole in
      let x = parts_of α β m here in
      let value = pair_value α β w.values.alpha w.values.beta in
      let within = at_own_type e s α x.0 (dom α β w.values.alpha w.values.beta w.right) in
      re (sym v.whole) (disj (mem value (re here v.left) w.right)
      (conj (mem value (re here v.left) w.left) (neg (mem w.values.alpha x.0 (re (ap ty.Pow x.0.type) within))))))))

  -- F ∈ r[S]
  pub image_is : Kept (member_of_image f)
  image_is = in_set Q h _ (λ g u v. two Q op.Image binary.Image refl v.right _ (λ r s w.
      let α = w.letters.alpha in let β = w.letters.beta in
      let x = member_of β v w.whole in
      let c = from_carried α β w.values.alpha w.values.beta w.left in
      of_relation_if Q r α β _ w.left.type
      (re (sym v.whole) (exists α w.values.alpha c (conj (mem w.values.alpha (fresh α w.values.alpha c) (deeper α w.right))
      (mem (pair_value α β w.values.alpha w.values.beta) (pairs w.values.alpha w.values.beta (fresh α w.values.alpha c) (deeper α x)) (deeper α w.left)))))))

  -- E ↦ F ∈ p ; q
  pub composition_is : Kept (member_of_composition f)
  composition_is = in_set Q h _ (λ n u v. two Q op.Composition binary.Composition refl v.right _ (λ p q w. pair_of Q v.left _ (λ e g m.
      let α = w.letters.alpha in let β = w.letters.beta in let γ = w.letters.gamma in
      let x = parts_of α γ m (power_exact v.letters.alpha (ty.Pair α γ) w.whole) in
      let c = to_carried α β w.values.alpha w.values.beta w.left in
      of_relation_if Q p α β _ w.left.type
      (re (sym v.whole) (exists β w.values.beta c (conj
      (mem (pair_value α β w.values.alpha w.values.beta) (pairs w.values.alpha w.values.beta (deeper β x.0) (fresh β w.values.beta c)) (deeper β w.left))
      (mem (pair_value β γ w.values.beta w.values.gamma) (pairs w.values.beta w.values.gamma (fresh β w.values.beta c) (deeper β x.1)) (deeper β w.right))))))))

  -- E ↦ (F ↦ G) ∈ p ⊗ q
  pub direct_product_is : Kept (member_of_direct_product f)
  direct_product_is = in_set Q h _ (λ a u v. two Q op.DirectProduct binary.DirectProduct refl v.right _ (λ p q w. pair_of Q v.left _ (λ e n m. pair_of Q m.right _ (λ g i k.
      let α = w.letters.alpha in let β = w.letters.beta in let γ = w.letters.gamma in
      let here = power_exact v.letters.alpha (ty.Pair α (ty.Pair β γ)) w.whole in
      let x = parts_of α (ty.Pair β γ) m here in
      let y = parts_of β γ k (pair_right m.letters.alpha m.letters.beta α (ty.Pair β γ) (sym m.whole ∙ here)) in
      re (sym v.whole) (conj
      (mem (pair_value α β w.values.alpha w.values.beta) (pairs w.values.alpha w.values.beta x.0 y.0) w.left)
      (mem (pair_value α γ w.values.alpha w.values.gamma) (pairs w.values.alpha w.values.gamma x.0 y.1) w.right))))))

  -- (E ↦ F) ↦ (G ↦ H) ∈ p ∥ q
  pub parallel_product_is : Kept (member_of_parallel_product f)
  parallel_product_is = in_set Q h _ (λ n u v. two Q op.ParallelProduct binary.ParallelProduct refl v.right _ (λ p q w. pair_of Q v.left _ (λ a b m.
      pair_of Q m.left _ (λ e g k. pair_of Q m.right _ (λ x y l.
      let α = w.letters.alpha in let β = w.letters.beta in let γ = w.letters.gamma in let δ = w.letters.delta in
      let here = sym m.whole ∙ power_exact v.letters.alpha (ty.Pair (ty.Pair α γ) (ty.Pair β δ)) w.whole in
      let i = parts_of α γ k (pair_left m.letters.alpha m.letters.beta (ty.Pair α γ) (ty.Pair β δ) here) in
      let j = parts_of β δ l (pair_right m.letters.alpha m.letters.beta (ty.Pair α γ) (ty.Pair β δ) here) in
      re (sym v.whole) (conj
      (mem (pair_value α β w.values.alpha w.values.beta) (pairs w.values.alpha w.values.beta i.0 j.0) w.left)
      (mem (pair_value γ δ w.values.gamma w.values.delta) (pairs w.values.gamma w.values.delta i.1 j.1) w.right)))))))

  -- E ↦ F ∈ id, and the projections
  pub identity_is : Kept (member_of_identity f)
  identity_is = in_set Q h _ (λ p u v. none Q op.Identity nullary.Identity refl v.right _ (λ n. pair_of Q v.left _ (λ e g m.
      let x = parts_of n.letters.alpha n.letters.alpha m (power_exact v.letters.alpha (ty.Pair n.letters.alpha n.letters.alpha) n.whole) in
      re (sym v.whole) (eq n.values.alpha x.0 x.1))))

  pub first_projection_is : Kept (member_of_first_projection f)
  first_projection_is = in_set Q h _ (λ p u v. none Q op.FirstProjection nullary.FirstProjection refl v.right _ (λ n. pair_of Q v.left _ (λ q g m. pair_of Q m.left _ (λ e i k.
      let α = n.letters.alpha in let β = n.letters.beta in
      let here = power_exact v.letters.alpha (ty.Pair (ty.Pair α β) α) n.whole in
      let x = parts_of (ty.Pair α β) α m here in
      let y = parts_of α β k (pair_left m.letters.alpha m.letters.beta (ty.Pair α β) α (sym m.whole ∙ here)) in
      re (sym v.whole) (eq n.values.alpha x.1 y.0)))))

  pub second_projection_is : Kept (member_of_second_projection f)
  second_projection_is = in_set Q h _ (λ p u v. none Q op.SecondProjection nullary.SecondProjection refl v.right _ (λ n. pair_of Q v.left _ (λ q g m. pair_of Q m.left _ (λ e i k.
      let α = n.letters.alpha in let β = n.letters.beta in
      let here = power_exact v.letters.alpha (ty.Pair (ty.Pair α β) β) n.whole in
      let x = parts_of (ty.Pair α β) β m here in
      let y = parts_of α β k (pair_left m.letters.alpha m.letters.beta (ty.Pair α β) β (sym m.whole ∙ here)) in
      re (sym v.whole) (eq n.values.beta x.1 y.1)))))
