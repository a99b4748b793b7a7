-- An order of the places of a list of forms, each after those of its parts.
use Rattle.std.specs.Prelude.{◌≡◌, ◌≢◌, ℕ, suc, ◌<◌, ◌≤◌, max, Bool, true, false, ◌&&◌, List, length, slice_index_or, Option, Some, None, ◌⊎◌}
use Rattle.formula_core.specs.declared.ty.Ty.{Ty}
use Rattle.formula_core.specs.declared.ty.Ty.TheOpen.{Ty-F, Pow as PowF, Pair as PairF}
use Rattle.formula_core.specs.declared.ty.Ty.TheFolds.{fold-Ty}
use Rattle.formula_core.specs.Types.{is_value_type}
use Rattle.unification.specs.declared.graph.Node.{Node}
use Rattle.unification.specs.declared.graph.Node.TheVariants.{Free, Truth, Pow, Pair, Same}
use Rattle.unification.specs.declared.ordering.Mark.{Mark}
use Rattle.unification.specs.declared.ordering.Mark.TheVariants.{New, Open, Done}
use Rattle.unification.specs.PrivateGraph.{node_at, form_of, node_parts, AllParts, Holds}
use Rattle.unification.specs.Terms.{value}

-- how deep a type is
abbrev pub depth_step : Ty-F ℕ → ℕ
depth_step (PowF a) = suc a
depth_step (PairF a b) = suc (max a b)
depth_step _ = 0

abbrev pub depth : Ty → ℕ
depth = fold-Ty ℕ depth_step

abbrev pub mark_at : List Mark → ℕ → Mark
mark_at ms k = slice_index_or ms k New

abbrev pub ordered_at : List ℕ → ℕ → ℕ
ordered_at order m = slice_index_or order m 0

-- a place among the first `m`
abbrev pub IsAmongFirst : List ℕ → ℕ → ℕ → Type 0
IsAmongFirst order m k = (j : ℕ) × (j < m) × (ordered_at order j ≡ k)

-- one that follows after another on every way through forms to their parts
abbrev pub IsUnder : (ℕ → Ty) → ℕ → ℕ → Type 0
IsUnder u i g = (depth (u i) ≤ depth (u g)) × (depth (u i) ≡ depth (u g) → i < g)

abbrev pub AreAbove : List Node → List Mark → ℕ → Type 0
AreAbove ns ms i = (u : ℕ → Ty) → Holds u ns → (g : ℕ) → mark_at ms g ≡ Open → IsUnder u i g

abbrev pub HasNoModel : List Node → Type 0
HasNoModel ns = (u : ℕ → Ty) → Holds u ns → ⊥

-- types that hold at the places that are done, where each free place has this one
pub record Model (ns : List Node) (ms : List Mark) (d : Ty) : Type 0 where
  pub types : ℕ → Ty
  pub holds : (k : ℕ) → mark_at ms k ≡ Done → types k ≡ value types (form_of k (node_at ns k))
  pub free : (k : ℕ) → node_at ns k ≡ Free → types k ≡ d

-- Each place of the order comes after those of its parts.
pub record IsInOrder (ns : List Node) (order : List ℕ) : Type 0 where
  pub inside : (m : ℕ) → m < length order → ordered_at order m < length ns
  pub parts : (m : ℕ) → m < length order → AllParts (IsAmongFirst order m) (node_parts (node_at ns (ordered_at order m)))

-- how far the walk has come
pub record IsWalk (ns : List Node) (ms : List Mark) (order : List ℕ) : Type 0 where
  pub ordered : IsInOrder ns order
  pub listed : (k : ℕ) → mark_at ms k ≡ Done → IsAmongFirst order (length order) k
  pub parts : (k : ℕ) → mark_at ms k ≡ Done → AllParts (λ a. mark_at ms a ≡ Done) (node_parts (node_at ns k))
  pub model : (d : Ty) → Model ns ms d

-- marks change from new to done alone
pub record Advances (old new : List Mark) : Type 0 where
  pub long : length new ≡ length old
  pub marks : (k : ℕ) → (mark_at new k ≡ mark_at old k) ⊎ ((mark_at old k ≡ New) × (mark_at new k ≡ Done))

-- an order of all places
pub record IsOrder (ns : List Node) (order : List ℕ) : Type 0 where
  pub ordered : IsInOrder ns order
  pub all : (k : ℕ) → k < length ns → IsAmongFirst order (length order) k

-- types that hold, where each free place has this one
pub record Solution (ns : List Node) (d : Ty) : Type 0 where
  pub types : ℕ → Ty
  pub holds : Holds types ns
  pub free : (k : ℕ) → node_at ns k ≡ Free → types k ≡ d

abbrev pub HasModels : List Node → Type 0
HasModels ns = (d : Ty) → Solution ns d

-- Whether the type of a form is one of values, where this is known of its parts.
abbrev pub sort_at : List Bool → ℕ → Bool
sort_at ss k = slice_index_or ss k true

abbrev pub sort_of : List Bool → Node → Bool
sort_of ss Truth = false
sort_of ss (Pow a) = sort_at ss a
sort_of ss (Pair a b) = sort_at ss a && sort_at ss b
sort_of ss (Same a) = sort_at ss a
sort_of ss _ = true

-- types that hold, and are types of values at the free places
pub record IsFine (u : ℕ → Ty) (ns : List Node) : Type 0 where
  pub holds : Holds u ns
  pub free : (k : ℕ) → node_at ns k ≡ Free → is_value_type (u k) ≡ true

abbrev pub HasSorts : List Node → ℕ → Type 0
HasSorts ns n = (u : ℕ → Ty) → IsFine u ns → (k : ℕ) → k < n → is_value_type (u k) ≡ true

abbrev pub HasWrongSort : List Node → ℕ → Type 0
HasWrongSort ns n = (u : ℕ → Ty) → IsFine u ns → ((k : ℕ) → k < n → is_value_type (u k) ≡ true) → ⊥

abbrev pub DifferWhereFree : List Node → (ℕ → Ty) → (ℕ → Ty) → Type 0
DifferWhereFree ns u w = (k : ℕ) → node_at ns k ≡ Free → u k ≢ w k

-- a type that a place always has, or none where two types of it differ
abbrev pub TypeFits : List Node → ℕ → Option Ty → Type 0
TypeFits ns k (Some t) = (u : ℕ → Ty) → Holds u ns → u k ≡ t
TypeFits ns k None = (u w : ℕ → Ty) → Holds u ns → Holds w ns → DifferWhereFree ns u w → u k ≢ w k
