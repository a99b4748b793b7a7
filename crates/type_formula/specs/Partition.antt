-- The core form of `partition(S, A1, .., An)`.
use Rattle.std.specs.Prelude.{ℕ, ◌-◌, List, [], ◌∷◌, ◌++◌, map, replicate}
use Rattle.formula_core.specs.declared.ty.Ty.{Ty}
use Rattle.formula_core.specs.declared.ty.Ty.TheVariants as ty
use Rattle.formula_core.specs.declared.op.Op.{Op}
use Rattle.formula_core.specs.declared.op.Op.TheVariants as op
use Rattle.formula_core.specs.declared.formula.Formula.{Formula}
use Rattle.formula_core.specs.declared.formula.Formula.TheVariants.{Node}
use Rattle.formula_core.specs.Schemes.{Scheme, alpha, power}
use Rattle.formula_core.specs.Wellness.{type_of}

-- the types of the set and its parts, of which there are `k`, but at least the set
abbrev pub partition_schemes : ℕ → List Scheme
partition_schemes k = power alpha ∷ replicate (k - 1) (power alpha)

-- `f op a1 op .. op an`, from the left
abbrev pub left_nested : Op → Ty → Formula → List Formula → Formula
left_nested o t f [] = f
left_nested o t f (a ∷ bs) = left_nested o t (Node o (f ∷ a ∷ []) t) bs

-- the union of sets of type `t`
abbrev pub union_of : Ty → List Formula → Formula
union_of t [] = Node op.EmptySet [] t
union_of t (a ∷ bs) = left_nested op.Union t a bs

abbrev pub set_equality : Formula → Formula → Formula
set_equality a b = Node op.Equal (a ∷ b ∷ []) ty.Truth

abbrev pub disjoint : Ty → Formula → Formula → Formula
disjoint t a b = set_equality (Node op.Intersection (a ∷ b ∷ []) t) (Node op.EmptySet [] t)

-- `Ai ∩ Aj = ∅` for i < j, in order
abbrev pub all_disjoint : Ty → List Formula → List Formula
all_disjoint t [] = []
all_disjoint t (a ∷ bs) = map (disjoint t a) bs ++ all_disjoint t bs

-- `S = A1 ∪ .. ∪ An`, and the parts have no member in common
abbrev pub partition_of : List Formula → Formula
partition_of [] = Node op.Top [] ty.Truth
partition_of (s ∷ parts) =
    left_nested op.And ty.Truth (set_equality s (union_of (type_of s) parts)) (all_disjoint (type_of s) parts)
