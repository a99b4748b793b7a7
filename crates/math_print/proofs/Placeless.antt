-- A formula as it is written has no places.
use Rattle.std.proofs.Common.{◌≡◌, ◌∙◌, sym as back, ap, refl, ℕ, ◌+◌, List, [], ◌∷◌, length, map, Some}
use Rattle.std.specs.List.{AllByRecursion}
use Rattle.formula_core.specs.declared.ty.Ty.{Ty}
use Rattle.formula_core.specs.declared.ty.Ty.TheOpen.{Ty-F, Int as IntT, Bool as BoolT, Given as GivenT, Pow as PowT, Pair as PairT, Truth as TruthT}
use Rattle.formula_core.specs.declared.ty.Ty.TheVariants as ty
use Rattle.formula_core.specs.declared.ty.Ty.TheViews as of_type
use Rattle.formula_core.specs.declared.op.Op.{Op}
use Rattle.formula_core.specs.declared.op.Op.TheVariants as op
use Rattle.formula_core.specs.declared.formula.Formula.{Formula}
use Rattle.formula_core.specs.declared.formula.Formula.TheOpen.{Formula-F, Int as IntF, Free as FreeF, Bound as BoundF, Node as NodeF, Bind as BindF}
use Rattle.formula_core.specs.declared.formula.Formula.TheVariants.{Int, Free, Bound, Node, Bind}
use Rattle.formula_core.specs.declared.formula.Formula.TheViews.{roll-Formula, rolls-Int, rolls-Free, rolls-Bound, rolls-Node, rolls-Bind}
use Rattle.formula_core.specs.declared.formula.Formula.TheFolds.{map-Formula}
use Rattle.formula_core.specs.declared.raw.RawOp.{RawOp}
use Rattle.formula_core.specs.declared.raw.RawOp.TheVariants as rawop
use Rattle.formula_core.specs.declared.raw.RawBinder.TheVariants as rawbinder
use Rattle.formula_core.specs.declared.raw.RawBound.{RawBound}
use Rattle.formula_core.specs.declared.raw.Raw.{Raw, out-Raw}
use Rattle.formula_core.specs.declared.raw.Raw.TheVariants as raw
use Rattle.formula_core.specs.declared.raw.Raw.TheOpen.{Raw-F, Node as RawNode}
use Rattle.formula_core.specs.declared.raw.Raw.TheViews.{roll-Raw, roll-out-Raw, rolls-Node as raw_rolls-Node, outs-Node as raw_outs-Node}
use Rattle.formula_core.proofs.Equations.{formula_fold, type_fold}
use Rattle.formula_core.proofs.Induction.{formula_induction}
use Rattle.formula_core.proofs.Types.{type_induction}
use Rattle.formula_print.specs.Names.{bound_names}
use Rattle.formula_print.specs.Printing.{name_at}
use Rattle.formula_print.specs.Written.{constant, type_raw_step, type_raw, denied_at, denied, typed_raw, operator_raw, declared_with_types, written_step, written, raw_of}
use Rattle.math_places.specs.Places.{unplaced}
use Rattle.math_places.proofs.Equations.{unplaced-Int, unplaced-Name, unplaced-Node, unplaced-Bind, unplaced_bound}

abbrev IsPlaceless : Raw → Type 0
IsPlaceless r = unplaced r ≡ r

abbrev ArePlaceless : List Raw → Type 0
ArePlaceless rs = map unplaced rs ≡ rs

node : (o : RawOp) (parts : List Raw) → ArePlaceless parts → IsPlaceless (raw.Node o parts 0)
node o parts e = unplaced-Node o parts 0 ∙ ap (λ ps. raw.Node o ps 0) e

-- Types.

type_at : (x : Ty-F Ty) (t : Ty) (r : Raw) → of_type.roll-Ty x ≡ t → type_raw t ≡ r → IsPlaceless r → IsPlaceless (type_raw t)
type_at x t r e is h = ap unplaced is ∙ h ∙ back is

type_placeless : (t : Ty) → IsPlaceless (type_raw t)
type_placeless = type_induction (λ t. IsPlaceless (type_raw t))
    (type_at IntT ty.Int (constant op.Integers) of_type.rolls-Int (type_fold type_raw_step IntT ty.Int of_type.rolls-Int) (node (rawop.Plain op.Integers) [] refl))
    (type_at BoolT ty.Bool (constant op.Booleans) of_type.rolls-Bool (type_fold type_raw_step BoolT ty.Bool of_type.rolls-Bool) (node (rawop.Plain op.Booleans) [] refl))
    (λ x. type_at (GivenT x) (ty.Given x) (raw.Name x 0) (of_type.rolls-Given x) (type_fold type_raw_step (GivenT x) (ty.Given x) (of_type.rolls-Given x)) (unplaced-Name x 0))
    (λ t h.
    type_at (PowT t) (ty.Pow t) (raw.Node (rawop.Plain op.PowerSet) (type_raw t ∷ []) 0) (of_type.rolls-Pow t) (type_fold type_raw_step (PowT t) (ty.Pow t) (of_type.rolls-Pow t))
    (node (rawop.Plain op.PowerSet) (type_raw t ∷ []) (λ i. h i ∷ [])))
    (λ t u h k.
    type_at (PairT t u) (ty.Pair t u) (raw.Node (rawop.Plain op.Product) (type_raw t ∷ type_raw u ∷ []) 0) (of_type.rolls-Pair t u) (type_fold type_raw_step (PairT t u) (ty.Pair t u) (of_type.rolls-Pair t u))
    (node (rawop.Plain op.Product) (type_raw t ∷ type_raw u ∷ []) (λ i. h i ∷ k i ∷ [])))
    (type_at TruthT ty.Truth (constant op.Top) of_type.rolls-Truth (type_fold type_raw_step TruthT ty.Truth of_type.rolls-Truth) (node (rawop.Plain op.Top) [] refl))

-- Operators.

-- the parts of a node without places have none
parts_of : (r : Raw) (o : RawOp) (parts : List Raw) (place : ℕ) → roll-Raw (RawNode o parts place) ≡ r → IsPlaceless r → ArePlaceless parts
parts_of r o parts place e h =
    let is : raw.Node o parts place ≡ r = back (raw_rolls-Node o parts place) ∙ e in
    let both : RawNode o (map unplaced parts) 0 ≡ RawNode o parts place
    = back (raw_outs-Node o (map unplaced parts) 0) ∙ ap out-Raw (back (unplaced-Node o parts place) ∙ ap unplaced is ∙ h ∙ back is) ∙ raw_outs-Node o parts place in
    cc

denied_placeless : (r : Raw) → IsPlaceless r → IsPlaceless (denied r)
denied_placeless r h = go (out-Raw r) (roll-out-Raw r)
  where
    go : (x : Raw-F Raw RawBound) → roll-Raw x ≡ r → IsPlaceless (denied_at r x)
    go (RawNode (rawop.Plain op.Equal) parts place) e = node rawop.NotEqual parts (parts_of r (rawop.Plain op.Equal) parts place e h)
    go (RawNode (rawop.Plain op.Member) parts place) e = node rawop.NotMember parts (parts_of r (rawop.Plain op.Member) parts place e h)
    go (RawNode (rawop.Plain op.ProperSubset) parts place) e = node rawop.NotProperSubset parts (parts_of r (rawop.Plain op.ProperSubset) parts place e h)
    go (RawNode (rawop.Plain op.Subset) parts place) e = node rawop.NotSubset parts (parts_of r (rawop.Plain op.Subset) parts place e h)
    go _ e = node (rawop.Plain op.Not) (r ∷ []) (λ i. h i ∷ [])

typed_placeless : (o : Op) (t : Ty) → IsPlaceless (typed_raw o t)
typed_placeless o t = node rawop.OfType (constant o ∷ type_raw t ∷ []) (λ i. node (rawop.Plain o) [] refl i ∷ type_placeless t i ∷ [])

operator_placeless : (o : Op) (parts : List Raw) (t : Ty) → ArePlaceless parts → IsPlaceless (operator_raw o parts t)
operator_placeless op.Not [] t h = node (rawop.Plain op.Not) [] h
operator_placeless op.Not (r ∷ []) t h = let one : unplaced r ≡ r = cc in denied_placeless r one
operator_placeless op.Not (r ∷ s ∷ parts) t h = node (rawop.Plain op.Not) (r ∷ s ∷ parts) h
operator_placeless op.EmptySet [] t h = typed_placeless op.EmptySet t
operator_placeless op.EmptySet (r ∷ parts) t h = node (rawop.Plain op.EmptySet) (r ∷ parts) h
operator_placeless op.Identity [] t h = typed_placeless op.Identity t
operator_placeless op.Identity (r ∷ parts) t h = node (rawop.Plain op.Identity) (r ∷ parts) h
operator_placeless op.FirstProjection [] t h = typed_placeless op.FirstProjection t
operator_placeless op.FirstProjection (r ∷ parts) t h = node (rawop.Plain op.FirstProjection) (r ∷ parts) h
operator_placeless op.SecondProjection [] t h = typed_placeless op.SecondProjection t
operator_placeless op.SecondProjection (r ∷ parts) t h = node (rawop.Plain op.SecondProjection) (r ∷ parts) h
operator_placeless o parts t h = node (rawop.Plain o) parts h

module _ (names : List (List ℕ)) where
  declared_placeless : (types : List Ty) (d : ℕ) → map unplaced_bound (declared_with_types names types d) ≡ declared_with_types names types d
  declared_placeless [] d = refl
  declared_placeless (t ∷ types) d = λ i. record { name = name_at names d; ty = Some (type_placeless t i); place = 0 } ∷ declared_placeless types (d + 1) i

  abbrev IsWrittenPlaceless : Formula → Type 0
  IsWrittenPlaceless f = (d : ℕ) → IsPlaceless (written names f d)

  parts_placeless : (d : ℕ) (fs : List Formula) → AllByRecursion IsWrittenPlaceless fs → ArePlaceless (map (λ (p : ℕ → Raw). p d) (map (written names) fs))
  parts_placeless d [] all = refl
  parts_placeless d (f ∷ fs) all = λ i. all.0 d i ∷ parts_placeless d fs all.1 i

  written_at : (x : Formula-F Formula) (f : Formula) → roll-Formula x ≡ f → ((d : ℕ) → IsPlaceless (written_step names (map-Formula Formula (ℕ → Raw) (written names) x) d)) → IsWrittenPlaceless f
  written_at x f e h d =
      let is : written names f d ≡ written_step names (map-Formula Formula (ℕ → Raw) (written names) x) d = ap (λ (w : ℕ → Raw). w d) (formula_fold (written_step names) x f e) in
      ap unplaced is ∙ h d ∙ back is

  written_placeless : (f : Formula) → IsWrittenPlaceless f
  written_placeless = formula_induction IsWrittenPlaceless
      (λ n. written_at (IntF n) (Int n) (rolls-Int n) (λ d. unplaced-Int n 0))
      (λ x t. written_at (FreeF x t) (Free x t) (rolls-Free x t) (λ d. unplaced-Name x 0))
      (λ i t. written_at (BoundF i t) (Bound i t) (rolls-Bound i t) (λ d. unplaced-Name _ 0))
      (λ o parts t all. written_at (NodeF o parts t) (Node o parts t) (rolls-Node o parts t) (λ d. operator_placeless o (map (λ (p : ℕ → Raw). p d) (map (written names) parts)) t (parts_placeless d parts all)))
      (λ b types parts t all. written_at (BindF b types parts t) (Bind b types parts t) (rolls-Bind b types parts t)
      (λ d. let inner : List Raw = map (λ (p : ℕ → Raw). p (d + length types)) (map (written names) parts) in
      unplaced-Bind (rawbinder.Plain b) (declared_with_types names types d) inner 0 ∙ (λ i. raw.Bind (rawbinder.Plain b) (declared_placeless types d i) (parts_placeless (d + length types) parts all i) 0)))

pub raw_placeless : (f : Formula) → unplaced (raw_of f) ≡ raw_of f
raw_placeless f = written_placeless (bound_names f) f 0
