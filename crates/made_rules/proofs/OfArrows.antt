-- The laws of relation sets keep types.
use Rattle.std.proofs.Common.{◌≡◌, sym, refl, true, List, [], ◌∷◌, Option, IfSome}
use Rattle.formula_core.specs.declared.Binder.TheVariants as binder
use Rattle.formula_core.specs.declared.Op.{Op}
use Rattle.formula_core.specs.declared.Op.TheVariants as op
use Rattle.formula_core.specs.declared.Ty.{Ty}
use Rattle.formula_core.specs.declared.Ty.TheVariants as ty
use Rattle.formula_core.specs.declared.Formula.{Formula}
use Rattle.formula_core.specs.declared.row.Row.TheVariants.{Binary}
use Rattle.formula_core.specs.declared.row.BinaryRow.TheVariants as binary
use Rattle.formula_core.specs.Identifiers.{carriers}
use Rattle.formula_core.specs.Rows.{row_of}
use Rattle.formula_core.specs.Typed.{Stands}
use Rattle.formula_core.specs.Types.{is_value_type}
use Rattle.formula_core.proofs.Keeping.{both}
use Rattle.formula_core.proofs.Weakening.{both_true}
use Rattle.well_defined.specs.Predicates.{conjunction}
use Rattle.rule_table.specs.Shapes.{subset, product}
use Rattle.rule_table.specs.SetLaws.{in_arrow, is_in, totality, is_onto, goes_back, is_functional, member_of_relations, member_of_total_relations, member_of_surjective_relations, member_of_total_surjective_relations, member_of_partial_functions, member_of_total_functions, member_of_partial_injections, member_of_total_injections, member_of_partial_surjections, member_of_total_surjections, member_of_bijections}
use Rattle.made_rules.proofs.Typed.{Env, Carried, Is}
use Rattle.made_rules.proofs.Makers.{quantified_is, moved_is}
use Rattle.made_rules.proofs.Operands.{of_relation_if}
use Rattle.made_rules.proofs.SetMakers.{re, conj, impl, eq, mem, sub, pairs, pair_value, set_value, from_carried, to_carried, dom, ran, turned, times, arrows, index, member_of, two, in_set}

-- what a relation between sets may be
module _ {env : Env} {bound : List Ty} {r s u : Formula} (α β : Ty) (v : is_value_type α ≡ true) (w : is_value_type β ≡ true)
    (x : Is env bound (ty.Pow (ty.Pair α β)) r) (y : Is env bound (ty.Pow α) s) (z : Is env bound (ty.Pow β) u) where
  product_is : Is env bound ty.Truth (subset r (product s u α β))
  product_is = sub (ty.Pair α β) (pair_value α β v w) x (times α β v w y z)

  in_is : (o : Op) → row_of o ≡ Binary binary.RelationSet → Is env bound ty.Truth (is_in o r s u α β)
  in_is o e = mem (set_value (ty.Pair α β) (pair_value α β v w)) x (arrows α β v w y z o e)

  total_is : Is env bound ty.Truth (totality r s α)
  total_is = eq (set_value α v) (dom α β v w x) y

  onto_is : Is env bound ty.Truth (is_onto r u β)
  onto_is = eq (set_value β w) (ran α β v w x) z

  back_is : Is env bound ty.Truth (goes_back r s u α β)
  back_is = mem (set_value (ty.Pair β α) (pair_value β α w v)) (turned α β v w x) (arrows β α w v z y op.PartialFunctions refl)

  abbrev inner : List Ty
  inner = β ∷ β ∷ α ∷ bound

  functional_is : Is env bound ty.Truth (is_functional r α β)
  functional_is =
      let a : Carried env α = from_carried α β v w x in
      let b : Carried env β = to_carried α β v w x in
      let moved = moved_is env bound (β ∷ β ∷ α ∷ []) (ty.Pow (ty.Pair α β)) r x in
      let first = index {bound = inner} α 2 refl a in
      let second = index {bound = inner} β 1 refl b in
      let third = index {bound = inner} β 0 refl b in
      quantified_is env bound binder.ForAll refl refl (α ∷ β ∷ β ∷ []) (both_true _ _ v (both_true _ _ w (both_true _ _ w refl)))
      (both (Stands env) (carriers α) _ a (both (Stands env) (carriers β) _ b (both (Stands env) (carriers β) [] b tt))) _
      (impl (conj (mem (pair_value α β v w) (pairs v w first second) moved) (mem (pair_value α β v w) (pairs v w first third) moved)) (eq w second third))

module _ (env : Env) (bound : List Ty) (t : Ty) (f : Formula) (h : Is env bound t f) where
  abbrev Q : Formula → Type 0
  Q = Is env bound t

  abbrev Kept : Option Formula → Type 0
  Kept o = IfSome o Q

  abbrev Made : Type 0
  Made = Formula → Formula → Formula → Ty → Ty → Formula

  -- what is made of a relation between sets is a predicate
  abbrev IsMade : Made → Type 0
  IsMade make = (r s u : Formula) (α β : Ty) → is_value_type α ≡ true → is_value_type β ≡ true → Is env bound (ty.Pow (ty.Pair α β)) r
      → Is env bound (ty.Pow α) s → Is env bound (ty.Pow β) u → Is env bound ty.Truth (make r s u α β)

  arrow_is : (o : Op) → row_of o ≡ Binary binary.RelationSet → (make : Made) → IsMade make → Kept (in_arrow o f make)
  arrow_is o e make k = in_set Q h _ (λ r set v. two Q o binary.RelationSet e v.right _ (λ s u w.
      let α = w.letters.alpha in let β = w.letters.beta in
      let x = member_of (ty.Pow (ty.Pair α β)) v w.whole in
      of_relation_if Q r α β _ x.type (re (sym v.whole) (k r s u α β w.values.alpha w.values.beta x w.left w.right))))

  pub relations_is : Kept (member_of_relations f)
  relations_is = arrow_is op.Relations refl
      (λ r s u α β. subset r (product s u α β)) (λ r s u α β v w x y z. product_is α β v w x y z)

  pub total_relations_is : Kept (member_of_total_relations f)
  total_relations_is = arrow_is op.TotalRelations refl
      (λ r s u α β. conjunction (is_in op.Relations r s u α β) (totality r s α)) (λ r s u α β v w x y z. conj (in_is α β v w x y z op.Relations refl) (total_is α β v w x y z))

  pub surjective_relations_is : Kept (member_of_surjective_relations f)
  surjective_relations_is = arrow_is op.SurjectiveRelations refl
      (λ r s u α β. conjunction (is_in op.Relations r s u α β) (is_onto r u β)) (λ r s u α β v w x y z. conj (in_is α β v w x y z op.Relations refl) (onto_is α β v w x y z))

  pub total_surjective_relations_is : Kept (member_of_total_surjective_relations f)
  total_surjective_relations_is = arrow_is op.TotalSurjectiveRelations refl
      (λ r s u α β. conjunction (conjunction (is_in op.Relations r s u α β) (totality r s α)) (is_onto r u β))
      (λ r s u α β v w x y z. conj (conj (in_is α β v w x y z op.Relations refl) (total_is α β v w x y z)) (onto_is α β v w x y z))

  pub partial_functions_is : Kept (member_of_partial_functions f)
  partial_functions_is = arrow_is op.PartialFunctions refl
      (λ r s u α β. conjunction (is_in op.Relations r s u α β) (is_functional r α β)) (λ r s u α β v w x y z. conj (in_is α β v w x y z op.Relations refl) (functional_is α β v w x y z))

  pub total_functions_is : Kept (member_of_total_functions f)
  total_functions_is = arrow_is op.TotalFunctions refl
      (λ r s u α β. conjunction (is_in op.PartialFunctions r s u α β) (totality r s α)) (λ r s u α β v w x y z. conj (in_is α β v w x y z op.PartialFunctions refl) (total_is α β v w x y z))

  pub partial_injections_is : Kept (member_of_partial_injections f)
  partial_injections_is = arrow_is op.PartialInjections refl
      (λ r s u α β. conjunction (is_in op.PartialFunctions r s u α β) (goes_back r s u α β)) (λ r s u α β v w x y z. conj (in_is α β v w x y z op.PartialFunctions refl) (back_is α β v w x y z))

  pub total_injections_is : Kept (member_of_total_injections f)
  total_injections_is = arrow_is op.TotalInjections refl
      (λ r s u α β. conjunction (is_in op.TotalFunctions r s u α β) (goes_back r s u α β)) (λ r s u α β v w x y z. conj (in_is α β v w x y z op.TotalFunctions refl) (back_is α β v w x y z))

  pub partial_surjections_is : Kept (member_of_partial_surjections f)
  partial_surjections_is = arrow_is op.PartialSurjections refl
      (λ r s u α β. conjunction (is_in op.PartialFunctions r s u α β) (is_onto r u β)) (λ r s u α β v w x y z. conj (in_is α β v w x y z op.PartialFunctions refl) (onto_is α β v w x y z))

  pub total_surjections_is : Kept (member_of_total_surjections f)
  total_surjections_is = arrow_is op.TotalSurjections refl
      (λ r s u α β. conjunction (is_in op.TotalFunctions r s u α β) (is_onto r u β)) (λ r s u α β v w x y z. conj (in_is α β v w x y z op.TotalFunctions refl) (onto_is α β v w x y z))

  pub bijections_is : Kept (member_of_bijections f)
  bijections_is = arrow_is op.Bijections refl
      (λ r s u α β. conjunction (is_in op.TotalInjections r s u α β) (is_onto r u β)) (λ r s u α β v w x y z. conj (in_is α β v w x y z op.TotalInjections refl) (onto_is α β v w x y z))
