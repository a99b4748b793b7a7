-- Grades that every sign takes on its sides, and the two sorts: predicates and expressions.
use Rattle.std.proofs.Common.{◌≡◌, ◌∙◌, sym as back, refl, ℕ, ◌≤◌, Bool, true, false, ◌&&◌, List, [], ◌∷◌, arith}
use Rattle.std.specs.Prelude.{nat_le}
use Rattle.std.proofs.lemmas.Bool.{leb-true}
use Rattle.formula_core.specs.declared.raw.RawOp.{RawOp}
use Rattle.math_grammar.specs.declared.holes.Grade.{Grade}
use Rattle.math_grammar.specs.declared.holes.Grade.TheVariants as grade
use Rattle.math_grammar.specs.declared.holes.Hole.{Hole}
use Rattle.math_grammar.specs.declared.holes.Hole.TheVariants as hole
use Rattle.math_grammar.specs.declared.levels.Level.{Level}
use Rattle.math_grammar.specs.declared.levels.Level.TheVariants as lev
use Rattle.math_grammar.specs.declared.symbols.Symbol.{Symbol}
use Rattle.math_grammar.specs.declared.symbols.Symbol.TheVariants as sym
use Rattle.math_grammar.specs.Levels.{rank, level, left_of, takes_left, is_conjunct, is_disjunct, least, most, fits, suffixes, goes_on, grouped}
use Rattle.math_grammar.specs.Tokens.{Item}
use Rattle.math_grammar.specs.Grammar.{Ends}

abbrev pub is_predicate : Grade → Bool
is_predicate g = nat_le (rank g) 3

-- the sort of what stands at both sides of a sign
abbrev pub joins_predicates : Level → Bool
joins_predicates lev.Implication = true
joins_predicates lev.Conjunction = true
joins_predicates lev.Disjunction = true
joins_predicates _ = false

-- the sort of what a place takes; the one that takes both isn't meant
abbrev pub takes_predicates : Hole → Bool
takes_predicates h = nat_le (most h) 3

abbrev pub is_one_sort : Hole → Bool
is_one_sort hole.Formula = false
is_one_sort _ = true

abbrev pub is_operand_place : Hole → Bool
is_operand_place hole.Formula = false
is_operand_place hole.Name = false
is_operand_place _ = true

-- a formula that stands alone or in parentheses
pub data Closed : Bool → Grade → Type 0 where
  as_predicate : Closed true grade.Literal
  as_suffixed : Closed false grade.Suffixed
  as_primary : Closed false grade.Primary
  as_name : Closed false grade.Name

both_true : (a b : Bool) → (a && b) ≡ true → (a ≡ true) × (b ≡ true)
both_true true b h = (refl, h)
both_true false b h = cc

conjunct_is : (g : Grade) → is_conjunct g ≡ true → is_predicate g ≡ true
conjunct_is grade.Conjunction h = refl
conjunct_is grade.Literal h = refl
conjunct_is _ h = cc

disjunct_is : (g : Grade) → is_disjunct g ≡ true → is_predicate g ≡ true
disjunct_is grade.Disjunction h = refl
disjunct_is grade.Literal h = refl
disjunct_is _ h = cc

too_high : (n : ℕ) → 4 ≤ n → nat_le n 3 ≡ false
too_high n h = go (nat_le n 3) refl
  where
    go : (b : Bool) → nat_le n 3 ≡ b → nat_le n 3 ≡ false
    go true e = absurd (omega (arith, h, leb-true n 3 e))
    go false e = e

high_is : (g : Grade) (n : ℕ) → 4 ≤ n → nat_le n (rank g) ≡ true → is_predicate g ≡ false
high_is g n h e = too_high (rank g) (omega (arith, h, leb-true n (rank g) e))

-- what stands on the left of a sign is of the sort that it joins
pub left_sort : (l : Level) (g : Grade) → takes_left l g ≡ true → is_predicate g ≡ joins_predicates l
left_sort lev.Implication g h = (both_true (nat_le 2 (rank g)) (nat_le (rank g) 3) h).1
left_sort lev.Conjunction g h = conjunct_is g (both_true (nat_le 2 (rank g)) (is_conjunct g) h).1
left_sort lev.Disjunction g h = disjunct_is g (both_true (nat_le 2 (rank g)) (is_disjunct g) h).1
left_sort l g h = high_is g (left_of l) (leb-true 4 (left_of l) refl) (both_true (nat_le (left_of l) (rank g)) true h).0

predicate_left : (l : Level) → joins_predicates l ≡ true → takes_left l grade.Literal ≡ true
predicate_left lev.Implication e = refl
predicate_left lev.Conjunction e = refl
predicate_left lev.Disjunction e = refl
predicate_left _ e = cc

value_left : (l : Level) → joins_predicates l ≡ false → (takes_left l grade.Suffixed ≡ true) × (takes_left l grade.Primary ≡ true) × (takes_left l grade.Name ≡ true)
value_left lev.Implication e = cc
value_left lev.Conjunction e = cc
value_left lev.Disjunction e = cc
value_left _ e = (refl, refl, refl)

pub left_closed : (l : Level) (g : Grade) → Closed (joins_predicates l) g → takes_left l g ≡ true
left_closed l g c = go (joins_predicates l) g c refl
  where
    go : (v : Bool) (g : Grade) → Closed v g → joins_predicates l ≡ v → takes_left l g ≡ true
    go v g as_predicate e = predicate_left l e
    go v g as_suffixed e = (value_left l e).0
    go v g as_primary e = (value_left l e).1
    go v g as_name e = (value_left l e).2

-- what a place takes is of its sort
pub place_sort : (h : Hole) (g : Grade) → is_one_sort h ≡ true → fits h g ≡ true → is_predicate g ≡ takes_predicates h
place_sort hole.Formula g one e = cc
place_sort hole.Predicate g one e = (both_true (nat_le 1 (rank g)) (nat_le (rank g) 3) e).1
place_sort hole.Junction g one e = (both_true (nat_le 2 (rank g)) (nat_le (rank g) 3) e).1
place_sort hole.Literal g one e = (both_true (nat_le 3 (rank g)) (nat_le (rank g) 3) e).1
place_sort h g one e = high_is g (least h) (leb-true 4 (least h) refl) (both_true (nat_le (least h) (rank g)) (nat_le (rank g) 16) e).0

predicate_fits : (h : Hole) → is_operand_place h ≡ true → takes_predicates h ≡ true → fits h grade.Literal ≡ true
predicate_fits hole.Predicate one e = refl
predicate_fits hole.Junction one e = refl
predicate_fits hole.Literal one e = refl
predicate_fits _ one e = cc

value_fits : (h : Hole) → is_operand_place h ≡ true → takes_predicates h ≡ false → (fits h grade.Suffixed ≡ true) × (fits h grade.Primary ≡ true) × (fits h grade.Name ≡ true)
value_fits hole.Formula one e = cc
value_fits hole.Predicate one e = cc
value_fits hole.Junction one e = cc
value_fits hole.Literal one e = cc
value_fits hole.Name one e = cc
value_fits _ one e = (refl, refl, refl)

pub place_closed : (h : Hole) (g : Grade) → is_operand_place h ≡ true → Closed (takes_predicates h) g → fits h g ≡ true
place_closed h g one c = go (takes_predicates h) g c refl
  where
    go : (v : Bool) (g : Grade) → Closed v g → takes_predicates h ≡ v → fits h g ≡ true
    go v g as_predicate e = predicate_fits h one e
    go v g as_suffixed e = (value_fits h one e).0
    go v g as_primary e = (value_fits h one e).1
    go v g as_name e = (value_fits h one e).2

pub fits_predicate : (g : Grade) → is_predicate g ≡ true → fits hole.Predicate g ≡ true
fits_predicate grade.Implication h = refl
fits_predicate grade.Conjunction h = refl
fits_predicate grade.Disjunction h = refl
fits_predicate grade.Literal h = refl
fits_predicate _ h = cc

pub fits_expression : (g : Grade) → is_predicate g ≡ false → fits hole.Expression g ≡ true
fits_expression grade.Implication h = cc
fits_expression grade.Conjunction h = cc
fits_expression grade.Disjunction h = cc
fits_expression grade.Literal h = cc
fits_expression _ h = refl

-- what a sign makes of its sides is of one sort
pub level_sort : (l : Level) (g h : Grade) → is_predicate (level l g) ≡ is_predicate (level l h)
level_sort lev.Typing g h = typed_sort g ∙ back (typed_sort h)
  where
    typed_sort : (g : Grade) → is_predicate (level lev.Typing g) ≡ false
    typed_sort grade.Name = refl
    typed_sort _ = refl
level_sort _ g h = refl

pub grouped_sort : (g : Grade) → Closed (is_predicate g) (grouped g)
grouped_sort grade.Implication = as_predicate
grouped_sort grade.Conjunction = as_predicate
grouped_sort grade.Disjunction = as_predicate
grouped_sort grade.Literal = as_predicate
grouped_sort _ = as_primary

pub grouped_same : (g : Grade) → is_predicate (grouped g) ≡ is_predicate g
grouped_same grade.Name = refl
grouped_same _ = refl

pub closed_sort : (v : Bool) (g : Grade) → Closed v g → is_predicate g ≡ v
closed_sort v g as_predicate = refl
closed_sort v g as_suffixed = refl
closed_sort v g as_primary = refl
closed_sort v g as_name = refl

-- what takes an argument in brackets
pub suffix_sort : (g : Grade) → suffixes hole.Operand g ≡ true → is_predicate g ≡ false
suffix_sort g h = high_is g 14 (omega arith) (both_true (nat_le 14 (rank g)) true h).0

pub suffix_closed : (g : Grade) → Closed false g → suffixes hole.Operand g ≡ true
suffix_closed g as_suffixed = refl
suffix_closed g as_primary = refl
suffix_closed g as_name = refl

-- nothing goes on with these
abbrev pub closes : Symbol → Bool
closes (sym.Close b) = true
closes sym.Comma = true
closes sym.Bar = true
closes sym.Dot = true
closes sym.Becomes = true
closes _ = false

pub data Closes : List Item → Type 0 where
  at_end : Closes []
  closing : {x : Item} {rest : List Item} → closes x.symbol ≡ true → Closes (x ∷ rest)

goes_nowhere : (h : Hole) (g : Grade) (x : Symbol) → closes x ≡ true → goes_on h g x ≡ false
goes_nowhere h g (sym.Close b) e = refl
goes_nowhere h g sym.Comma e = refl
goes_nowhere h g sym.Bar e = refl
goes_nowhere h g sym.Dot e = refl
goes_nowhere h g sym.Becomes e = refl
goes_nowhere h g _ e = cc

pub ends_there : (h : Hole) (g : Grade) (rest : List Item) → Closes rest → Ends h g rest
ends_there h g rest at_end = tt
ends_there h g rest (closing {x = x} e) = goes_nowhere h g x.symbol e

-- a type in a pattern ends before ↦ too
pub ends_at_maplet : (g : Grade) (o : RawOp) (p : ℕ) (w : List ℕ) (rest : List Item) → Closed false g → Ends hole.Arrow g (record { symbol = sym.Infix lev.Maplet o; from = p; text = w } ∷ rest)
ends_at_maplet g o p w rest as_suffixed = refl
ends_at_maplet g o p w rest as_primary = refl
ends_at_maplet g o p w rest as_name = refl
