-- The type of a well formula is one of values, or the sort of predicates.
use Rattle.std.proofs.Common.{◌≡◌, ◌∙◌, ◌⊎◌, inl, inr, sym, ap, refl, ℕ, Bool, true, false, ◌&&◌, []}
use Rattle.formula_core.specs.declared.Binder.{Binder}
use Rattle.formula_core.specs.declared.Binder.TheVariants as binder
use Rattle.formula_core.specs.declared.Ty.{Ty}
use Rattle.formula_core.specs.declared.Ty.TheOpen.{Bool as BoolF}
use Rattle.formula_core.specs.declared.Ty.TheVariants as ty
use Rattle.formula_core.specs.declared.Ty.TheViews as of_type
use Rattle.formula_core.specs.declared.Formula.{Formula}
use Rattle.formula_core.specs.declared.Formula.TheVariants as formula
use Rattle.formula_core.specs.declared.row.Row.{Row}
use Rattle.formula_core.specs.declared.row.Row.TheVariants.{Nullary, Unary, Binary, SetExtension}
use Rattle.formula_core.specs.declared.row.NullaryRow.{NullaryRow}
use Rattle.formula_core.specs.declared.row.NullaryRow.TheVariants as nullary
use Rattle.formula_core.specs.declared.row.UnaryRow.{UnaryRow}
use Rattle.formula_core.specs.declared.row.UnaryRow.TheVariants as unary
use Rattle.formula_core.specs.declared.row.BinaryRow.{BinaryRow}
use Rattle.formula_core.specs.declared.row.BinaryRow.TheVariants as binary
use Rattle.formula_core.specs.Rows.{row_of}
use Rattle.formula_core.specs.Schemes.{Scheme, alpha, beta, gamma, delta, integer, boolean, truth, power, pair, nullary_scheme, unary_scheme, binary_scheme, result_scheme, binder_scheme, Letters, AreValues, type_of_scheme}
use Rattle.formula_core.specs.Types.{is_value_step, is_value_type}
use Rattle.formula_core.specs.Wellness.{is_well_in}
use Rattle.formula_core.proofs.Equations.{type_fold}
use Rattle.formula_core.proofs.Induction.{formula_induction}
use Rattle.formula_core.proofs.Schemes.{value-Int}
use Rattle.formula_core.proofs.Weakening.{first_true, second_true, both_true}
use Rattle.formula_core.proofs.Wellness.{well-Free, well-Bound}
use Rattle.formula_core.proofs.WholeSets.{value-Pow, value-Pair}
use Rattle.well_defined.proofs.Types.{type-Int, type-Free}
use Rattle.made_rules.proofs.Typed.{Env, Is}
use Rattle.made_rules.proofs.Forms.{opened, opened_binder}

pub value-Bool : is_value_type ty.Bool ≡ true
value-Bool = type_fold is_value_step BoolF _ of_type.rolls-Bool

-- a scheme without the sort of predicates
abbrev has_values : Scheme → Bool
has_values truth = false
has_values (power s) = has_values s
has_values (pair s t) = has_values s && has_values t
has_values _ = true

values_at : (l : Letters) → AreValues l → (s : Scheme) → has_values s ≡ true → is_value_type (type_of_scheme l s) ≡ true
values_at l v alpha h = v.alpha
values_at l v beta h = v.beta
values_at l v gamma h = v.gamma
values_at l v delta h = v.delta
values_at l v integer h = value-Int
values_at l v boolean h = value-Bool
values_at l v truth h = absurd (cc)
values_at l v (power s) h = value-Pow (type_of_scheme l s) ∙ values_at l v s h
values_at l v (pair s t) h =
    value-Pair (type_of_scheme l s) (type_of_scheme l t) ∙ both_true _ _ (values_at l v s (first_true _ _ h)) (values_at l v t (second_true (has_values s) _ h))

abbrev IsPlain : Scheme → Type 0
IsPlain s = (has_values s ≡ true) ⊎ (s ≡ truth)

nullary_is : (row : NullaryRow) → IsPlain (nullary_scheme row)
nullary_is nullary.Predicate = inr refl
nullary_is nullary.TruthValue = inl refl
nullary_is nullary.TruthValueSet = inl refl
nullary_is nullary.IntegerSet = inl refl
nullary_is nullary.EmptySet = inl refl
nullary_is nullary.Identity = inl refl
nullary_is nullary.FirstProjection = inl refl
nullary_is nullary.SecondProjection = inl refl
nullary_is nullary.IntegerMap = inl refl

unary_is : (row : UnaryRow) → IsPlain (unary_scheme row).1
unary_is unary.Negation = inr refl
unary_is unary.Finiteness = inr refl
unary_is unary.Opposite = inl refl
unary_is unary.Converse = inl refl
unary_is unary.PowerSet = inl refl
unary_is unary.Cardinality = inl refl
unary_is unary.Domain = inl refl
unary_is unary.Range = inl refl
unary_is unary.Flattening = inl refl
unary_is unary.Extremum = inl refl
unary_is unary.TruthOf = inl refl

binary_is : (row : BinaryRow) → IsPlain (binary_scheme row).2
binary_is binary.Connective = inr refl
binary_is binary.Equality = inr refl
binary_is binary.Membership = inr refl
binary_is binary.Inclusion = inr refl
binary_is binary.Comparison = inr refl
binary_is binary.Maplet = inl refl
binary_is binary.RelationSet = inl refl
binary_is binary.SetOperation = inl refl
binary_is binary.Product = inl refl
binary_is binary.DomainFilter = inl refl
binary_is binary.RangeFilter = inl refl
binary_is binary.Overriding = inl refl
binary_is binary.Composition = inl refl
binary_is binary.ParallelProduct = inl refl
binary_is binary.DirectProduct = inl refl
binary_is binary.Interval = inl refl
binary_is binary.Arithmetic = inl refl
binary_is binary.Application = inl refl
binary_is binary.Image = inl refl

row_is : (row : Row) → IsPlain (result_scheme row)
row_is (Nullary row) = nullary_is row
row_is (Unary row) = unary_is row
row_is (Binary row) = binary_is row
row_is SetExtension = inl refl

binder_is : (b : Binder) → IsPlain (binder_scheme b)
binder_is binder.ForAll = inr refl
binder_is binder.Exists = inr refl
binder_is binder.Comprehension = inl refl
binder_is binder.QuantifiedUnion = inl refl
binder_is binder.QuantifiedIntersection = inl refl

abbrev pub IsSort : Ty → Type 0
IsSort t = (is_value_type t ≡ true) ⊎ (t ≡ ty.Truth)

sort_at : (l : Letters) → AreValues l → (s : Scheme) → IsPlain s → (t : Ty) → t ≡ type_of_scheme l s → IsSort t
sort_at l v s p t e = elim p [ inl h ↦ inl (ap is_value_type e ∙ values_at l v s h) | inr h ↦ inr (e ∙ ap (type_of_scheme l) h) ]

module _ (env : Env) where
  abbrev HasSort : Formula → Type 0
  HasSort f = (t : Ty) → Is env [] t f → IsSort t

  pub sort_of : (f : Formula) → HasSort f
  sort_of = formula_induction HasSort
      (λ n t h. inl (ap is_value_type (sym h.type ∙ type-Int n) ∙ value-Int))
      (λ name u t h. inl (ap is_value_type (sym h.type ∙ type-Free name u) ∙ sym (well-Free name u []) ∙ h.well))
      (λ i u t h. absurd (nowhere i u h.well))
      (λ o parts u each t h. let v = opened env [] o parts u t h in sort_at v.fit.letters v.fit.values _ (row_is (row_of o)) t v.fit.whole_is)
      (λ b types parts u each t h. let v = opened_binder env [] b types parts u t h in sort_at v.fit.letters v.fit.values _ (binder_is b) t v.fit.whole_is)
    where
      nowhere : (i : ℕ) (u : Ty) → is_well_in (formula.Bound i u) [] ≡ true → ⊥
      nowhere i u w = let never : false ≡ true = sym (well-Bound i u []) ∙ w in cc
