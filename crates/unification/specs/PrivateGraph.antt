-- A list of forms whose parts are places in the list: each type stands there once, whatever leads to it.
use Rattle.std.specs.Prelude.{◌≡◌, ℕ, ◌+◌, ◌*◌, ◌<◌, ◌≤◌, max, Bool, true, false, List, [], ◌∷◌, ◌++◌, length, slice_index_or, Option, Some, None, bytes_eq, if◌then◌else◌, ◌↔◌}
use Rattle.formula_core.specs.declared.ty.Ty.{Ty}
use Rattle.unification.specs.declared.graph.Node.{Node}
use Rattle.unification.specs.declared.graph.Node.TheVariants.{Free, Int, Bool as BoolN, Truth, Given, Pow, Pair, Same}
use Rattle.unification.specs.declared.graph.Parts.{Parts}
use Rattle.unification.specs.declared.graph.Parts.TheVariants.{Zero, One, Two}
use Rattle.unification.specs.declared.merging.Meeting.{Meeting}
use Rattle.unification.specs.declared.merging.Meeting.TheVariants as meeting
use Rattle.unification.specs.Terms.{Open, integers, booleans, predicates, carrier, variable, powerset, product, value}
use Rattle.unification.specs.Solutions.{Equality, Solves}

-- the form at a place, where past the end nothing is said
abbrev pub node_at : List Node → ℕ → Node
node_at ns k = slice_index_or ns k Free

-- a form as a term, whose variables are the places
abbrev pub form_of : ℕ → Node → Open
form_of k Free = variable k
form_of k Int = integers
form_of k BoolN = booleans
form_of k Truth = predicates
form_of k (Given name) = carrier name
form_of k (Pow a) = powerset (variable a)
form_of k (Pair a b) = product (variable a) (variable b)
form_of k (Same a) = variable a

abbrev pub node_parts : Node → Parts
node_parts (Pow a) = One a
node_parts (Pair a b) = Two a b
node_parts (Same a) = One a
node_parts _ = Zero

abbrev pub AllParts : (ℕ → Type 0) → Parts → Type 0
AllParts P Zero = Unit {0}
AllParts P (One a) = P a
AllParts P (Two a b) = P a × P b

abbrev pub link_of : Node → Option ℕ
link_of (Same a) = Some a
link_of _ = None

abbrev pub is_free : Node → Bool
is_free Free = true
is_free _ = false

-- Each place has the type of the form that stands there.
abbrev pub Holds : (ℕ → Ty) → List Node → Type 0
Holds u ns = (k : ℕ) → u k ≡ value u (form_of k (node_at ns k))

-- the parts of a form lie in the list, and a link leads to a place before it
abbrev pub FitsInGraph : ℕ → ℕ → Node → Type 0
FitsInGraph n k (Pow a) = a < n
FitsInGraph n k (Pair a b) = (a < n) × (b < n)
FitsInGraph n k (Same a) = a < k
FitsInGraph n k _ = Unit {0}

abbrev pub IsGraph : List Node → Type 0
IsGraph ns = (k : ℕ) → FitsInGraph (length ns) k (node_at ns k)

-- how many places are no links
abbrev pub node_weight : Node → ℕ
node_weight (Same a) = 0
node_weight _ = 1

abbrev pub unlinked : List Node → ℕ
unlinked [] = 0
unlinked (n ∷ ns) = node_weight n + unlinked ns

-- the same types at the same places, by other links
pub record Alike (old new : List Node) : Type 0 where
  pub graph : IsGraph new
  pub long : length new ≡ length old
  pub kept : (u : ℕ → Ty) → Holds u old → Holds u new
  pub added : (u : ℕ → Ty) → Holds u new → Holds u old
  pub links : unlinked new ≡ unlinked old
  pub lasts : (k : ℕ) → link_of (node_at old k) ≡ None → node_at new k ≡ node_at old k
  pub free : (k : ℕ) → node_at new k ≡ Free → node_at old k ≡ Free

-- what it comes to that two forms are of one type, the second of which may be free
abbrev pub meeting_of : Node → Node → Meeting
meeting_of known Free = meeting.Agree
meeting_of Int Int = meeting.Agree
meeting_of BoolN BoolN = meeting.Agree
meeting_of Truth Truth = meeting.Agree
meeting_of (Given a) (Given b) = if bytes_eq a b then meeting.Agree else meeting.Never
meeting_of (Pow a) (Pow b) = meeting.One a b
meeting_of (Pair a b) (Pair c d) = meeting.Two a c b d
meeting_of _ _ = meeting.Never

-- The two places of each pair are of one type.
abbrev pub AllSame : (ℕ → Ty) → List (ℕ × ℕ) → Type 0
AllSame u [] = Unit {0}
AllSame u (p ∷ ps) = (u p.0 ≡ u p.1) × AllSame u ps

abbrev pub AreInside : ℕ → List (ℕ × ℕ) → Type 0
AreInside n [] = Unit {0}
AreInside n (p ∷ ps) = (p.0 < n) × (p.1 < n) × AreInside n ps

abbrev pub AddsPairs : Meeting → List (ℕ × ℕ) → List (ℕ × ℕ) → Type 0
AddsPairs meeting.Agree old new = new ≡ old
AddsPairs meeting.Never old new = ⊥
AddsPairs (meeting.One a b) old new = new ≡ old ++ (a, b) ∷ []
AddsPairs (meeting.Two a b c d) old new = new ≡ (old ++ (a, b) ∷ []) ++ (c, d) ∷ []

-- two places became one, and their parts are pairs that are left
pub record Joins (low high : ℕ) (old : List Node) (rest : List (ℕ × ℕ)) (new : List Node) (pairs : List (ℕ × ℕ)) : Type 0 where
  pub graph : IsGraph new
  pub long : length new ≡ length old
  pub inside : AreInside (length new) pairs
  pub kept : (u : ℕ → Ty) → Holds u old → u low ≡ u high → AllSame u rest → Holds u new × AllSame u pairs
  pub added : (u : ℕ → Ty) → Holds u new → AllSame u pairs → Holds u old × (u low ≡ u high) × AllSame u rest
  pub smaller : 3 * unlinked new + length pairs < 3 * unlinked old + length rest
  pub free : (k : ℕ) → node_at new k ≡ Free → node_at old k ≡ Free

-- all pairs became one place each
pub record Merges (old : List Node) (pairs : List (ℕ × ℕ)) (new : List Node) : Type 0 where
  pub graph : IsGraph new
  pub long : length new ≡ length old
  pub kept : (u : ℕ → Ty) → Holds u old → AllSame u pairs → Holds u new
  pub added : (u : ℕ → Ty) → Holds u new → Holds u old × AllSame u pairs
  pub free : (k : ℕ) → node_at new k ≡ Free → node_at old k ≡ Free

-- how many variables there are up to the greatest one
abbrev pub variable_count : Open → ℕ
variable_count (variable i) = i + 1
variable_count (powerset a) = variable_count a
variable_count (product a b) = max (variable_count a) (variable_count b)
variable_count _ = 0

abbrev pub variables_in : List Equality → ℕ
variables_in [] = 0
variables_in (e ∷ es) = max (max (variable_count e.0) (variable_count e.1)) (variables_in es)

-- types of all places that have these types at the free ones
pub record Extension (v : ℕ → Ty) (ns : List Node) : Type 0 where
  pub types : ℕ → Ty
  pub holds : Holds types ns
  pub same : (k : ℕ) → node_at ns k ≡ Free → types k ≡ v k

-- more places, whose types follow from those that were there
pub record ExtendsGraph (old new : List Node) : Type 0 where
  pub graph : IsGraph new
  pub long : length old ≤ length new
  pub before : (k : ℕ) → k < length old → node_at new k ≡ node_at old k
  pub extends : (v : ℕ → Ty) → Extension v old → Extension v new

-- a place that has the type of a term
pub record StandsForTerm (ns : List Node) (place : ℕ) (t : Open) : Type 0 where
  pub inside : place < length ns
  pub same : (u : ℕ → Ty) → Holds u ns → u place ≡ value u t

-- pairs of places that say what the equations say
pub record BuildsGraph (es : List Equality) (old new : List Node) (pairs : List (ℕ × ℕ)) : Type 0 where
  pub grown : ExtendsGraph old new
  pub inside : AreInside (length new) pairs
  pub same : (u : ℕ → Ty) → Holds u new → AllSame u pairs ↔ Solves u es
