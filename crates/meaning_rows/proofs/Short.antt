-- Closed formulas in a short form, with sorts for types.
use Rattle.std.specs.Prelude.{ℕ, ℤ, pos, List, [], ◌∷◌, map, IsTrue, IsFalse}
use Rattle.formula_core.specs.declared.Binder.{Binder}
use Rattle.formula_core.specs.declared.Formula.{Formula}
use Rattle.formula_core.specs.declared.Formula.TheVariants.{Int, Bound, Node, Bind}
use Rattle.formula_core.specs.declared.Op.{Op}
use Rattle.formula_core.specs.declared.Op.TheVariants as op
use Rattle.formula_core.specs.declared.Ty.TheVariants as ty
use Rattle.meanings.specs.Denotations.{holds}
use Rattle.meanings.specs.Universes.{Universe, Valuation}
use Rattle.meanings.specs.Values.{Sort, integer_sort, power_sort, pair_sort}
use Rattle.true_facts.proofs.Types.{type}

pub data Short : Type 0 where
  plain : Op → Short
  claim_of : Op → Short → Short
  claim : Op → Short → Short → Short
  quantified : Binder → List Sort → Short → Short
  number : ℤ → Short
  bound : ℕ → Sort → Short
  none : Op → Sort → Short
  one : Op → Sort → Short → Short
  two : Op → Sort → Short → Short → Short
  binder : Binder → List Sort → Sort → Short → Short → Short

abbrev pub formula : Short → Formula
formula (plain o) = Node o [] ty.Truth
formula (claim_of o x) = Node o (formula x ∷ []) ty.Truth
formula (claim o x y) = Node o (formula x ∷ formula y ∷ []) ty.Truth
formula (quantified b own p) = Bind b (map type own) (formula p ∷ []) ty.Truth
formula (number n) = Int n
formula (bound k s) = Bound k (type s)
formula (none o s) = Node o [] (type s)
formula (one o s x) = Node o (formula x ∷ []) (type s)
formula (two o s x y) = Node o (formula x ∷ formula y ∷ []) (type s)
formula (binder b own s p e) = Bind b (map type own) (formula p ∷ formula e ∷ []) (type s)

-- true in every classical universe, whatever the names stand for
abbrev pub IsTrueEverywhere : Formula → Type 1
IsTrueEverywhere f = (carrier : List ℕ → Type 0) (U : Universe carrier) (names : Valuation carrier) → IsTrue (holds U names f)

-- false in every classical universe
abbrev pub IsFalseEverywhere : Formula → Type 1
IsFalseEverywhere f = (carrier : List ℕ → Type 0) (U : Universe carrier) (names : Valuation carrier) → IsFalse (holds U names f)

-- predicates: an operator on two, of type Truth
abbrev pub relation : Op → Short → Short → Formula
relation o x y = Node o (formula x ∷ formula y ∷ []) ty.Truth

abbrev pub equal : Short → Short → Formula
equal = relation op.Equal

abbrev pub member : Short → Short → Formula
member = relation op.Member

-- sorts and formulas that rows use
abbrev pub top : Short
top = plain op.Top

abbrev pub bottom : Short
bottom = plain op.Bottom

abbrev pub pairs : Sort
pairs = pair_sort integer_sort integer_sort

abbrev pub set : Sort
set = power_sort integer_sort

abbrev pub relations : Sort
relations = power_sort pairs

abbrev pub n : ℕ → Short
n k = number (pos k)

abbrev pub minus : ℕ → Short
minus k = one op.Negate integer_sort (n k)

abbrev pub just : Short → Short
just x = one op.SetExtension set x

abbrev pub both : Short → Short → Short
both x y = two op.SetExtension set x y

abbrev pub maps : Short → Short → Short
maps x y = two op.Maplet pairs x y

abbrev pub only : Short → Short
only x = one op.SetExtension relations x
