-- How the levels of printed forms and the grades of the grammar agree.
use Rattle.std.proofs.Common.{◌≡◌, ◌∙◌, ap, refl, ℕ, Bool, true, false, ◌&&◌, ◌||◌, List, [], ◌∷◌, length, get_or, arith, nat_le, nat_lt}
use Rattle.std.specs.Prelude.{not}
use Rattle.std.proofs.lemmas.Bool.Decides.{nat_tests}
use Rattle.std.specs.List.{list_all}
use Rattle.std.proofs.lemmas.List.Folds.{list_all_at}
use borrow.Author.Tests.{ltb-true}
use Rattle.formula_core.specs.declared.op.Op.{Op}
use Rattle.formula_core.specs.declared.op.Op.TheVariants as op
use Rattle.formula_core.specs.declared.op.Binder.{Binder}
use Rattle.formula_core.specs.declared.op.Binder.TheVariants as binder
use Rattle.formula_core.specs.declared.op.TheConstants.{OPERATORS, BINDERS}
use Rattle.formula_core.specs.declared.formula.Formula.{Formula, out-Formula}
use Rattle.formula_core.specs.declared.formula.Formula.TheOpen.{Formula-F, Int, Free, Bound, Node, Bind}
use Rattle.math_grammar.specs.declared.holes.Grade.{Grade}
use Rattle.math_grammar.specs.declared.holes.Grade.TheVariants as grade
use Rattle.math_grammar.specs.declared.holes.Hole.{Hole}
use Rattle.math_grammar.specs.declared.holes.Hole.TheVariants as hole
use Rattle.math_grammar.specs.declared.levels.Level.{Level as Sort}
use Rattle.math_grammar.specs.declared.levels.Level.TheVariants as sort
use Rattle.math_grammar.specs.declared.levels.Bracket.TheVariants as bracket
use Rattle.math_grammar.specs.declared.symbols.Symbol.{Symbol}
use Rattle.math_grammar.specs.declared.symbols.Symbol.TheVariants as sym
use Rattle.math_grammar.specs.Levels.{rank, level, takes_left, least, fits, goes_on}
use Rattle.math_grammar.specs.Tokens.{Item}
use Rattle.math_grammar.specs.Grammar.{Ends}
use Rattle.math_grammar.proofs.Rows.{any_operator, any_binder}
use Rattle.formula_print.specs.declared.levels.Level.{Level}
use Rattle.formula_print.specs.declared.levels.Level.TheVariants as lev
use Rattle.formula_print.specs.declared.levels.Side.{Side}
use Rattle.formula_print.specs.declared.levels.Side.TheVariants as side
use Rattle.formula_print.specs.Levels.{rank_of, level_of, binder_level_of, formula_level_at, is_chained, is_same_connective, is_negative, goes_on_with, goes_on_at, is_enclosed, goes_on_left}
use Rattle.math_print.proofs.Grades.{operator_grade, binder_grade, grade_at}

-- the level that a token makes of what stands before it, if it goes on with it
abbrev pub sort_rank : Sort → ℕ
sort_rank sort.Implication = 1
sort_rank sort.Conjunction = 2
sort_rank sort.Disjunction = 2
sort_rank sort.Relation = 3
sort_rank sort.Typing = 4
sort_rank sort.Maplet = 5
sort_rank sort.Arrow = 6
sort_rank sort.SetOperator = 7
sort_rank sort.Interval = 8
sort_rank sort.Additive = 9
sort_rank sort.Multiplicative = 11
sort_rank sort.Power = 12

abbrev pub top : Symbol → ℕ
top (sym.Infix l o) = sort_rank l
top sym.Minus = 9
top (sym.Open bracket.Round) = 14
top (sym.Open bracket.Square) = 14
top sym.Converse = 14
top _ = 0

-- the next token goes on with nothing that is tighter
abbrev pub Quiet : ℕ → List Item → Type 0
Quiet n [] = Unit {0}
Quiet n (x ∷ rest) = nat_le (top x.symbol) n ≡ true

rank_level : (l : Sort) (g : Grade) → rank (level l g) ≡ sort_rank l
rank_level sort.Typing grade.Name = refl
rank_level sort.Typing _ = refl
rank_level _ g = refl

and_false : (a b : Bool) → b ≡ false → (a && b) ≡ false
and_false true b h = h
and_false false b h = refl

passes_by : (h : Hole) (g : Grade) (x : Symbol) → nat_le (least h) (top x) ≡ false → goes_on h g x ≡ false
passes_by h g (sym.Infix l o) e = and_false (takes_left l g) _ (ap (nat_le (least h)) (rank_level l g) ∙ e)
passes_by h g sym.Minus e = and_false (takes_left sort.Additive g) _ e
passes_by h g (sym.Open bracket.Round) e = and_false (nat_le 14 (rank g)) _ e
passes_by h g (sym.Open bracket.Square) e = and_false (nat_le 14 (rank g)) _ e
passes_by h g sym.Converse e = and_false (nat_le 14 (rank g)) _ e
passes_by h g _ e = refl

below : (a b n : ℕ) → nat_le a n ≡ true → nat_lt n b ≡ true → nat_le b a ≡ false
below a b n h k = grind (arith, nat_tests)

-- what is quiet enough ends the place
pub ends : (h : Hole) (g : Grade) (n : ℕ) (rest : List Item) → nat_lt n (least h) ≡ true → Quiet n rest → Ends h g rest
ends h g n [] low q = tt
ends h g n (x ∷ rest) low q = passes_by h g x.symbol (below (top x.symbol) (least h) n q low)

pub zero_le : (n : ℕ) → nat_le 0 n ≡ true
zero_le n = grind (arith, nat_tests)

pub le_through : (a b c : ℕ) → nat_le a b ≡ true → nat_le b c ≡ true → nat_le a c ≡ true
le_through a b c h k = grind (arith, nat_tests)

pub quieter : (n m : ℕ) (rest : List Item) → nat_le n m ≡ true → Quiet n rest → Quiet m rest
quieter n m [] le q = tt
quieter n m (x ∷ rest) le q = le_through (top x.symbol) n m q le

enclosed_or : {A : Type 0} (go : Bool) → go ≡ false → not go ≡ false → A
enclosed_or true h k = cc
enclosed_or false h k = cc

-- the least grade of an expression of this level
abbrev pub least_value : Level → ℕ
least_value lev.Reaching = 13
least_value lev.Maplet = 5
least_value lev.Arrow = 6
least_value lev.SetOperator = 7
least_value lev.Interval = 8
least_value lev.Additive = 9
least_value lev.Multiplicative = 11
least_value lev.Power = 12
least_value lev.Postfix = 14
least_value lev.Closed = 15
least_value _ = 0

-- what follows a form of this level
abbrev pub quiet : Level → ℕ
quiet lev.Quantified = 0
quiet lev.Implication = 1
quiet lev.Junction = 2
quiet lev.Relation = 2
quiet lev.Reaching = 3
quiet lev.Maplet = 5
quiet lev.Arrow = 6
quiet lev.SetOperator = 7
quiet lev.Interval = 8
quiet lev.Additive = 9
quiet lev.Multiplicative = 11
quiet lev.Power = 12
quiet lev.Postfix = 14
quiet lev.Closed = 14

-- what the grammar wants on the left of a sign of this level
abbrev pub left_value : Level → ℕ
left_value lev.Maplet = 5
left_value lev.Arrow = 7
left_value lev.SetOperator = 7
left_value lev.Interval = 9
left_value lev.Additive = 9
left_value lev.Multiplicative = 11
left_value lev.Power = 13
left_value lev.Postfix = 15
left_value _ = 0

-- and on the right
abbrev pub right_value : Level → ℕ
right_value lev.Maplet = 6
right_value lev.Arrow = 7
right_value lev.SetOperator = 8
right_value lev.Interval = 9
right_value lev.Additive = 11
right_value lev.Multiplicative = 12
right_value lev.Power = 13
right_value _ = 0

-- the signs of this level
abbrev pub sign_rank : Level → ℕ
sign_rank lev.Implication = 1
sign_rank lev.Junction = 2
sign_rank lev.Maplet = 5
sign_rank lev.Arrow = 6
sign_rank lev.SetOperator = 7
sign_rank lev.Interval = 8
sign_rank lev.Additive = 9
sign_rank lev.Multiplicative = 11
sign_rank lev.Power = 12
sign_rank lev.Postfix = 14
sign_rank _ = 0

value_op : (o : Op) → nat_lt 3 (rank (operator_grade o)) ≡ true → nat_le (least_value (level_of o)) (rank (operator_grade o)) ≡ true
value_op op.Top h = cc
value_op op.Bottom h = cc
value_op op.Finite h = cc
value_op _ h = refl

-- of two tests of which one is passed, the other, if the one isn't
other_passed : (a b : Bool) → (a || b) ≡ true → a ≡ false → b ≡ true
other_passed true b h e = cc
other_passed false b h e = h

quiet_op : (o : Op) → nat_lt 3 (rank (operator_grade o)) ≡ true → nat_le 3 (quiet (level_of o)) ≡ true
quiet_op o h =
    other_passed (not (nat_lt 3 (rank (operator_grade o)))) (nat_le 3 (quiet (level_of o)))
    (any_operator (λ o. not (nat_lt 3 (rank (operator_grade o))) || nat_le 3 (quiet (level_of o))) refl o) (ap not h)

pub value_at : (x : Formula-F Formula) → nat_lt 3 (rank (grade_at x)) ≡ true → nat_le (least_value (formula_level_at x)) (rank (grade_at x)) ≡ true
value_at (Int n) h = refl
value_at (Free name t) h = refl
value_at (Bound i t) h = refl
value_at (Node o parts t) h = value_op o h
value_at (Bind b types parts t) h = go b
  where
    go : (b : Binder) → nat_le (least_value (formula_level_at (Bind b types parts t))) (rank (binder_grade b)) ≡ true
    go binder.ForAll = refl
    go _ = refl

-- a relation may follow an expression
pub quiet_at : (x : Formula-F Formula) → nat_lt 3 (rank (grade_at x)) ≡ true → nat_le 3 (quiet (formula_level_at x)) ≡ true
quiet_at (Int n) h = refl
quiet_at (Free name t) h = refl
quiet_at (Bound i t) h = refl
quiet_at (Node o parts t) h = quiet_op o h
quiet_at (Bind b types parts t) h = go b h
  where
    go : (b : Binder) → nat_lt 3 (rank (binder_grade b)) ≡ true → nat_le 3 (quiet (formula_level_at (Bind b types parts t))) ≡ true
    go binder.ForAll h = cc
    go binder.Exists h = cc
    go binder.Comprehension h = refl
    go binder.QuantifiedUnion h = refl
    go binder.QuantifiedIntersection h = refl

-- each level, at its rank
abbrev levels : List Level
levels =
    lev.Quantified ∷ lev.Implication ∷ lev.Junction ∷ lev.Relation ∷ lev.Reaching ∷ lev.Maplet ∷ lev.Arrow ∷ lev.SetOperator ∷ lev.Interval ∷ lev.Additive
    ∷ lev.Multiplicative ∷ lev.Power ∷ lev.Postfix ∷ lev.Closed ∷ []

listed : (l : Level) → (get_or levels (rank_of l) l ≡ l) × (nat_lt (rank_of l) (length levels) ≡ true)
listed lev.Quantified = (refl, refl)
listed _ = (refl, refl)

-- a test that all levels pass is passed by any
any_level : (p : Level → Bool) → list_all p levels ≡ true → (l : Level) → p l ≡ true
any_level p h l = go (p l) refl
  where
    go : (b : Bool) → p l ≡ b → b ≡ true
    go true e = refl
    go false e =
        let there : p (get_or levels (rank_of l) l) ≡ false = ap p (listed l).0 ∙ e in
        let fails : list_all p levels ≡ false = list_all_at p levels (rank_of l) l (ltb-true (rank_of l) (length levels) (listed l).1) there in
        cc

any_two : (p : Level → Level → Bool) → list_all (λ own. list_all (p own) levels) levels ≡ true → (own operand : Level) → p own operand ≡ true
any_two p h own operand = any_level (p own) (any_level (λ l. list_all (p l) levels) h own) operand

-- an operand that stands without parentheses is as tight, and as quiet, as this asks
bare : (wanted given : Level → ℕ) (go : Bool) → list_all (λ own. list_all (λ operand. is_enclosed own operand go || nat_le (wanted own) (given operand)) levels) levels ≡ true →
    (own operand : Level) → is_enclosed own operand go ≡ false → nat_le (wanted own) (given operand) ≡ true
bare wanted given go h own operand =
    other_passed (is_enclosed own operand go) (nat_le (wanted own) (given operand))
    (any_two (λ own operand. is_enclosed own operand go || nat_le (wanted own) (given operand)) h own operand)

chained : (c : Bool) → (c ≡ false → true ≡ false) → not c ≡ false
chained true f = refl
chained false f = f refl

pub left_is_tight : (own operand : Level) (go : Bool) → (is_chained own ≡ false → go ≡ false) → is_enclosed own operand go ≡ false → nat_le (left_value own) (least_value operand) ≡ true
left_is_tight own operand true f =
    other_passed (is_enclosed own operand true) (nat_le (left_value own) (least_value operand))
    (other_passed (not (is_chained own)) (is_enclosed own operand true || nat_le (left_value own) (least_value operand))
    (any_two (λ own operand. not (is_chained own) || (is_enclosed own operand true || nat_le (left_value own) (least_value operand))) refl own operand)
    (chained (is_chained own) f))
left_is_tight own operand false f = bare left_value least_value false refl own operand

pub right_is_tight : (own operand : Level) → is_enclosed own operand false ≡ false → nat_le (right_value own) (least_value operand) ≡ true
right_is_tight = bare right_value least_value false refl

pub left_is_quiet : (own operand : Level) (go : Bool) → is_enclosed own operand go ≡ false → nat_le (sign_rank own) (quiet operand) ≡ true
left_is_quiet own operand true = bare sign_rank quiet true refl own operand
left_is_quiet own operand false = bare sign_rank quiet false refl own operand

pub right_is_quiet : (own operand : Level) → is_enclosed own operand false ≡ false → nat_le (quiet own) (quiet operand) ≡ true
right_is_quiet = bare quiet quiet false refl

pub goes_on_chained : (o : Op) (s : Side) (x : Formula) → ((left : Op) → is_same_connective o left ≡ false) → is_chained (level_of o) ≡ false → goes_on_left o s x ≡ false
goes_on_chained o side.Right f alone h = refl
goes_on_chained o side.Left f alone h = go (out-Formula f)
  where
    go : (x : Formula-F Formula) → goes_on_at o x ≡ false
    go (Node left parts t) = (λ i. alone left i || (h i && not (is_negative left)))
    go _ = refl

-- A predicate that stands without parentheses beside a connective of this level is of a grade that is wanted there: on the left ..
module _ (own : Level) (wanted : Grade → Bool) where
  left_stands : (c : Op) → list_all (λ o. nat_lt 3 (rank (operator_grade o)) || (is_enclosed own (level_of o) (goes_on_with c o) || wanted (operator_grade o))) OPERATORS ≡ true
      → list_all (λ b. nat_lt 3 (rank (binder_grade b)) || (is_enclosed own (binder_level_of b) false || wanted (binder_grade b))) BINDERS ≡ true
      → (x : Formula-F Formula) → nat_lt 3 (rank (grade_at x)) ≡ false → is_enclosed own (formula_level_at x) (goes_on_at c x) ≡ false → wanted (grade_at x) ≡ true
  left_stands c os bs (Int n) e h = cc
  left_stands c os bs (Free m t) e h = cc
  left_stands c os bs (Bound i t) e h = cc
  left_stands c os bs (Node o parts t) e h =
      other_passed (is_enclosed own (level_of o) (goes_on_with c o)) (wanted (operator_grade o))
      (other_passed (nat_lt 3 (rank (operator_grade o))) _
      (any_operator (λ o. nat_lt 3 (rank (operator_grade o)) || (is_enclosed own (level_of o) (goes_on_with c o) || wanted (operator_grade o))) os o) e) h
  left_stands c os bs (Bind b types parts t) e h =
      other_passed (is_enclosed own (binder_level_of b) false) (wanted (binder_grade b))
      (other_passed (nat_lt 3 (rank (binder_grade b))) _
      (any_binder (λ b. nat_lt 3 (rank (binder_grade b)) || (is_enclosed own (binder_level_of b) false || wanted (binder_grade b))) bs b) e) h

  -- .. and on the right
  right_stands : list_all (λ o. nat_lt 3 (rank (operator_grade o)) || (is_enclosed own (level_of o) false || wanted (operator_grade o))) OPERATORS ≡ true
      → list_all (λ b. nat_lt 3 (rank (binder_grade b)) || (is_enclosed own (binder_level_of b) false || wanted (binder_grade b))) BINDERS ≡ true
      → (x : Formula-F Formula) → nat_lt 3 (rank (grade_at x)) ≡ false → is_enclosed own (formula_level_at x) false ≡ false → wanted (grade_at x) ≡ true
  right_stands os bs (Int n) e h = cc
  right_stands os bs (Free m t) e h = cc
  right_stands os bs (Bound i t) e h = cc
  right_stands os bs (Node o parts t) e h =
      other_passed (is_enclosed own (level_of o) false) (wanted (operator_grade o))
      (other_passed (nat_lt 3 (rank (operator_grade o))) _
      (any_operator (λ o. nat_lt 3 (rank (operator_grade o)) || (is_enclosed own (level_of o) false || wanted (operator_grade o))) os o) e) h
  right_stands os bs (Bind b types parts t) e h =
      other_passed (is_enclosed own (binder_level_of b) false) (wanted (binder_grade b))
      (other_passed (nat_lt 3 (rank (binder_grade b))) _
      (any_binder (λ b. nat_lt 3 (rank (binder_grade b)) || (is_enclosed own (binder_level_of b) false || wanted (binder_grade b))) bs b) e) h

pub left_of_implication : (x : Formula-F Formula) → nat_lt 3 (rank (grade_at x)) ≡ false → is_enclosed lev.Implication (formula_level_at x) (goes_on_at op.Implies x) ≡ false → takes_left sort.Implication (grade_at x) ≡ true
left_of_implication = left_stands lev.Implication (takes_left sort.Implication) op.Implies refl refl

pub left_of_equivalence : (x : Formula-F Formula) → nat_lt 3 (rank (grade_at x)) ≡ false → is_enclosed lev.Implication (formula_level_at x) (goes_on_at op.Equivalent x) ≡ false → takes_left sort.Implication (grade_at x) ≡ true
left_of_equivalence = left_stands lev.Implication (takes_left sort.Implication) op.Equivalent refl refl

pub left_of_and : (x : Formula-F Formula) → nat_lt 3 (rank (grade_at x)) ≡ false → is_enclosed lev.Junction (formula_level_at x) (goes_on_at op.And x) ≡ false → takes_left sort.Conjunction (grade_at x) ≡ true
left_of_and = left_stands lev.Junction (takes_left sort.Conjunction) op.And refl refl

pub left_of_or : (x : Formula-F Formula) → nat_lt 3 (rank (grade_at x)) ≡ false → is_enclosed lev.Junction (formula_level_at x) (goes_on_at op.Or x) ≡ false → takes_left sort.Disjunction (grade_at x) ≡ true
left_of_or = left_stands lev.Junction (takes_left sort.Disjunction) op.Or refl refl

pub right_of_implication : (x : Formula-F Formula) → nat_lt 3 (rank (grade_at x)) ≡ false → is_enclosed lev.Implication (formula_level_at x) false ≡ false → fits hole.Junction (grade_at x) ≡ true
right_of_implication = right_stands lev.Implication (fits hole.Junction) refl refl

pub right_of_junction : (x : Formula-F Formula) → nat_lt 3 (rank (grade_at x)) ≡ false → is_enclosed lev.Junction (formula_level_at x) false ≡ false → fits hole.Literal (grade_at x) ≡ true
right_of_junction = right_stands lev.Junction (fits hole.Literal) refl refl
