-- Formulas that are said to be true or false, and the ways in which they are so.
use Rattle.std.specs.Prelude.{◌≡◌, ℕ, ◌+◌, Bool, true, false, not, ◌&&◌, ◌||◌, List, [], ◌∷◌, ◌++◌, take, drop, if◌then◌else◌}
use Rattle.std.specs.List.{AllByRecursion, list_any}
use Rattle.formula_core.specs.declared.Op.{Op}
use Rattle.formula_core.specs.declared.Op.TheVariants as op
use Rattle.formula_core.specs.declared.Formula.{Formula, out-Formula}
use Rattle.formula_core.specs.declared.Formula.TheOpen.{Formula-F, Node}
use Rattle.formula_core.specs.Same.{same_formula}
use Rattle.formula_readings.specs.Readings.{truth_by}
use Rattle.case_proofs.specs.Cases.{connectives}
use Rattle.formula_readings.specs.Forms.{negates}

-- A formula that is said to be true, or to be false. What says so is the formula itself, or its negation.
abbrev pub Signed : Type 0
Signed = Formula × Bool

abbrev pub signed : Formula → Bool → Signed
signed f s = (f, s)

abbrev pub together : Signed → Signed → List (List Signed)
together x y = (x ∷ y ∷ []) ∷ []

abbrev pub apart : Signed → Signed → List (List Signed)
apart x y = (x ∷ []) ∷ (y ∷ []) ∷ []

abbrev pub ways_of_two : Op → Bool → Formula → Formula → List (List Signed)
ways_of_two op.And true p q = together (signed p true) (signed q true)
ways_of_two op.And false p q = apart (signed p false) (signed q false)
ways_of_two op.Or true p q = apart (signed p true) (signed q true)
ways_of_two op.Or false p q = together (signed p false) (signed q false)
ways_of_two op.Implies true p q = apart (signed p false) (signed q true)
ways_of_two op.Implies false p q = together (signed p true) (signed q false)
ways_of_two op.Equivalent s p q = (signed p false ∷ signed q (not s) ∷ []) ∷ (signed p true ∷ signed q s ∷ []) ∷ []
ways_of_two _ s p q = []

abbrev pub ways_in : Op → List Formula → Bool → List (List Signed)
ways_in o (p ∷ []) s = if negates o then ((signed p (not s) ∷ []) ∷ []) else []
ways_in o (p ∷ q ∷ []) s = ways_of_two o s p q
ways_in o _ s = []

abbrev pub ways_at : Formula-F Formula → Bool → List (List Signed)
ways_at (Node o parts t) s = ways_in o parts s
ways_at _ s = []

-- the ways in which a formula is true, or false, by its outermost connective; none where no connective heads it
abbrev pub ways : Signed → List (List Signed)
ways x = ways_at (out-Formula x.0) x.1

abbrev pub to_break : List Signed → ℕ
to_break [] = 0
to_break (x ∷ xs) = connectives x.0 + to_break xs

-- it is as it is said in a propositional reading
abbrev pub HoldsAs : (Formula → Bool) → Signed → Type 0
HoldsAs atom x = truth_by atom x.0 ≡ x.1

-- some propositional reading makes all of them so
abbrev pub IsSatisfiable : List Signed → Type 0
IsSatisfiable xs = (atom : Formula → Bool) × AllByRecursion (HoldsAs atom) xs

-- ⊥ is said to be true, ⊤ to be false, or a formula both
abbrev pub absurd_constant : Op → Bool → Bool
absurd_constant op.Bottom s = s
absurd_constant op.Top s = not s
absurd_constant _ s = false

abbrev pub contradicts_at : Formula-F Formula → Bool → Bool
contradicts_at (Node o [] t) s = absurd_constant o s
contradicts_at _ s = false

abbrev pub is_absurd : Signed → Bool
is_absurd x = contradicts_at (out-Formula x.0) x.1

abbrev pub same_sign : Bool → Bool → Bool
same_sign s t = if s then t else not t

abbrev pub is_said : List Signed → Bool → Formula → Bool
is_said xs s f = list_any (λ x. same_sign x.1 s && same_formula x.0 f) xs

abbrev pub contradicts : List Signed → Signed → Bool
contradicts all x = is_absurd x || is_said all (not x.1) x.0

abbrev pub is_contradictory : List Signed → Bool
is_contradictory xs = list_any (contradicts xs) xs

-- the others, and then what one of them says in one of its ways
abbrev pub with_way : List Signed → ℕ → List Signed → List Signed
with_way hyps at way = take at hyps ++ drop (at + 1) hyps ++ way
