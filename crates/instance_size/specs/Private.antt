-- What only private contracts cite.
use Rattle.std.specs.Prelude.{◌≡◌, ℕ, ◌+◌, fold, Bool, not, ◌&&◌, ◌||◌, nat_lt, List, [], ◌∷◌, Option, Some, None, map, max, sum}
use Rattle.std.specs.Option.{option_and_then}
use Rattle.formula_core.specs.declared.Op.TheVariants as op
use Rattle.formula_core.specs.declared.Formula.{Formula}
use Rattle.formula_core.specs.Sizes.{formula_height, formula_nodes, greatest}
use Rattle.condition_size.specs.Sizes.{clamped}
use Rattle.condition_size.specs.declared.size.Size.{Size}
use Rattle.instance_size.specs.declared.extent.Extent.{Extent}
use Rattle.rule_table.specs.declared.law.Law.{Law}
use Rattle.rule_table.specs.declared.law.Law.TheVariants as law
use Rattle.rule_table.specs.Rewriting.{law_of, rewritten}
use Rattle.rule_table.specs.Shapes.{on_two, operands}
use Rattle.instance_size.specs.Extents.{HasRoom, extent_of}

-- there is no room for a formula of this extent
abbrev pub exceeds : Extent → Extent → Bool
exceeds room e = nat_lt room.nodes e.nodes || nat_lt room.height e.height

-- there is no room for a condition of this size, which isn't ⊤
abbrev pub is_excessive : Extent → Size → Bool
is_excessive room s = not s.top && (nat_lt room.nodes s.nodes || nat_lt room.height s.height)

abbrev pub extents_of : List Formula → List Extent
extents_of terms = map extent_of terms

-- no parts, one more part, all parts together, and what stands above them
abbrev pub no_parts : Extent
no_parts = record { nodes = 0; height = 0 }

abbrev pub side_by_side : Extent → Extent → Extent
side_by_side a b = record { nodes = clamped (a.nodes + b.nodes); height = max a.height b.height }

abbrev pub extent_of_parts : List Formula → Extent
extent_of_parts fs = record { nodes = clamped (sum (map formula_nodes fs)); height = clamped (greatest (map formula_height fs)) }

abbrev pub above : Extent → Extent
above e = record { nodes = clamped (e.nodes + 1); height = clamped (e.height + 1) }

abbrev pub leaf : Extent
leaf = record { nodes = 1; height = 1 }

abbrev pub first_two : List Formula → Option (Formula × Formula)
first_two (h ∷ k ∷ rest) = Some (h, k)
first_two _ = None

-- room for one more formula, and for several
abbrev pub widened : Extent → Formula → Extent
widened room f = record { nodes = max room.nodes (clamped (formula_nodes f)); height = max room.height (clamped (formula_height f)) }

abbrev pub room_over : Extent → List Formula → Extent
room_over room [] = room
room_over room (f ∷ fs) = room_over (widened room f) fs

-- an operator on two formulas
abbrev pub joined_extent : Extent → Extent → Extent
joined_extent a b = above (side_by_side a b)

-- E = F1 ∨ .. ∨ E = Fn, by the extent of E
abbrev pub or_equal_extent : Extent → Extent → Formula → Extent
or_equal_extent e any f = joined_extent any (joined_extent e (extent_of f))

abbrev pub one_of_extent : Extent → List Formula → Option Extent
one_of_extent e [] = None
one_of_extent e (f ∷ fs) = Some (fold (or_equal_extent e) (joined_extent e (extent_of f)) fs)

abbrev pub members_extent : Formula → Option Extent
members_extent h = on_two op.Member h (λ e set. option_and_then (one_of_extent (extent_of e)) (operands op.SetExtension set))

-- a rewritten formula for which there is no room: by any law, and by that of listed members
abbrev pub GrowsAt : Extent → ℕ → List ℕ → Formula → Type 0
GrowsAt room number place f = (law : Law) × (new : Formula) × (law_of number ≡ Some law) × (rewritten law place f ≡ Some new) × (HasRoom room new → ⊥)

abbrev pub MembersGrowAt : Extent → List ℕ → Formula → Type 0
MembersGrowAt room place f = (new : Formula) × (rewritten law.MemberOfExtension place f ≡ Some new) × (HasRoom room new → ⊥)
