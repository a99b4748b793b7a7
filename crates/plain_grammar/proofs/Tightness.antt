-- Grades that hold together at least as tightly.
use Rattle.std.proofs.Common.{◌≡◌, ◌≤◌, Bool, true, false, ◌⊎◌, inl, inr, refl, sym, ◌∙◌, arith}
use Rattle.std.specs.Prelude.{nat_le}
use Rattle.std.proofs.lemmas.Bool.{leb-true, le-leb}
use Rattle.math_grammar.specs.declared.holes.Grade.{Grade}
use Rattle.math_grammar.specs.declared.holes.Grade.TheVariants as grade
use Rattle.math_grammar.specs.declared.holes.Hole.{Hole}
use Rattle.math_grammar.specs.declared.holes.Hole.TheVariants as hole
use Rattle.math_grammar.specs.declared.levels.Level.{Level}
use Rattle.math_grammar.specs.declared.levels.Level.TheVariants as lev
use Rattle.math_grammar.specs.Levels.{rank, typed, level, left_of, agrees, takes_left, least, most, reaches, fits, grouped, is_conjunct, is_disjunct}
use Rattle.formula_parse.proofs.Basics.{both, reached, reached_least, rank_most, level_rank}

-- a formula of the grade e may stand wherever one of the grade g may
pub record AsTight (g e : Grade) : Type 0 where
  pub above : rank g ≤ rank e
  pub sort : rank g ≤ 3 → rank e ≤ 3
  pub conjunct : is_conjunct g ≡ true → is_conjunct e ≡ true
  pub disjunct : is_disjunct g ≡ true → is_disjunct e ≡ true

pub itself : (g : Grade) → AsTight g g
itself g = record { above = omega arith; sort = λ b. b; conjunct = λ e. e; disjunct = λ e. e }

pub tighter : {g h e : Grade} → AsTight g h → AsTight h e → AsTight g e
tighter a b = record { above = omega (arith, a.above, b.above); sort = λ c. b.sort (a.sort c); conjunct = λ c. b.conjunct (a.conjunct c); disjunct = λ c. b.disjunct (a.disjunct c) }

most_ways : (h : Hole) → (most h ≡ 3) ⊎ (most h ≡ 16)
most_ways hole.Predicate = inl refl
most_ways hole.Junction = inl refl
most_ways hole.Literal = inl refl
most_ways _ = inr refl

pub fits_tighter : (h : Hole) (g e : Grade) → AsTight g e → fits h g ≡ true → fits h e ≡ true
fits_tighter h g e a f =
    let two = both (reaches h g) (nat_le (rank g) (most h)) f in
    let low : least h ≤ rank e = omega (arith, reached_least h g two.0, a.above) in
    let top : rank g ≤ most h = leb-true (rank g) (most h) two.1 in
    let high : rank e ≤ most h = elim (most_ways h) [
      | inl m ↦ (let below : rank g ≤ 3 = omega (arith, m, top) in omega (arith, m, a.sort below))
      | inr m ↦ omega (arith, m, rank_most e)
    ] in
    rw (reached h e low, le-leb (rank e) (most h) high) refl

agrees_tighter : (l : Level) (g e : Grade) → AsTight g e → agrees l g ≡ true → agrees l e ≡ true
agrees_tighter lev.Implication g e a h = le-leb (rank e) 3 (a.sort (leb-true (rank g) 3 h))
agrees_tighter lev.Conjunction g e a h = a.conjunct h
agrees_tighter lev.Disjunction g e a h = a.disjunct h
agrees_tighter _ g e a h = refl

pub takes_tighter : (l : Level) (g e : Grade) → AsTight g e → takes_left l g ≡ true → takes_left l e ≡ true
takes_tighter l g e a t =
    let two = both (nat_le (left_of l) (rank g)) (agrees l g) t in
    let low : left_of l ≤ rank e = omega (arith, a.above, leb-true (left_of l) (rank g) two.0) in
    rw (le-leb (left_of l) (rank e) low, agrees_tighter l g e a two.1) refl

typed_rank : (g : Grade) → rank (typed g) ≡ 4
typed_rank grade.Name = refl
typed_rank _ = refl

typed_conjunct : (g : Grade) → is_conjunct (typed g) ≡ false
typed_conjunct grade.Name = refl
typed_conjunct _ = refl

typed_disjunct : (g : Grade) → is_disjunct (typed g) ≡ false
typed_disjunct grade.Name = refl
typed_disjunct _ = refl

unlike : {A : Type 0} {b : Bool} → b ≡ false → b ≡ true → A
unlike off on = let no' : false ≡ true = sym off ∙ on in cc

typed_tight : (g e : Grade) → AsTight (typed g) (typed e)
typed_tight g e = record {
  above = omega (arith, typed_rank g, typed_rank e);
  sort = λ b. omega (arith, typed_rank g, b);
  conjunct = λ c. unlike (typed_conjunct g) c;
  disjunct = λ c. unlike (typed_disjunct g) c;
}

-- the whole has one grade, or is typed
pub level_tight : (l : Level) (g e : Grade) → AsTight (level l g) (level l e)
level_tight lev.Typing g e = typed_tight g e
level_tight lev.Implication g e = itself grade.Implication
level_tight lev.Conjunction g e = itself grade.Conjunction
level_tight lev.Disjunction g e = itself grade.Disjunction
level_tight lev.Relation g e = itself grade.Literal
level_tight lev.Maplet g e = itself grade.Pair
level_tight lev.Arrow g e = itself grade.Arrow
level_tight lev.SetOperator g e = itself grade.Set
level_tight lev.Interval g e = itself grade.Interval
level_tight lev.Additive g e = itself grade.Sum
level_tight lev.Multiplicative g e = itself grade.Product
level_tight lev.Power g e = itself grade.Power

conjunct_rank : (g : Grade) → is_conjunct g ≡ true → rank g ≤ 3
conjunct_rank grade.Conjunction h = omega arith
conjunct_rank grade.Literal h = omega arith
conjunct_rank _ h = cc

disjunct_rank : (g : Grade) → is_disjunct g ≡ true → rank g ≤ 3
disjunct_rank grade.Disjunction h = omega arith
disjunct_rank grade.Literal h = omega arith
disjunct_rank _ h = cc

-- what is a predicate by a connective has a predicate on its left
left_sort : (l : Level) (g : Grade) → agrees l g ≡ true → (l ≡ lev.Relation → ⊥) → rank (level l g) ≤ 3 → rank g ≤ 3
left_sort lev.Implication g a off b = leb-true (rank g) 3 a
left_sort lev.Conjunction g a off b = conjunct_rank g a
left_sort lev.Disjunction g a off b = disjunct_rank g a
left_sort lev.Relation g a off b = absurd (off refl)
left_sort lev.Typing g a off b = omega (arith, typed_rank g, b)
left_sort lev.Maplet g a off b = omega (arith, b)
left_sort lev.Arrow g a off b = omega (arith, b)
left_sort lev.SetOperator g a off b = omega (arith, b)
left_sort lev.Interval g a off b = omega (arith, b)
left_sort lev.Additive g a off b = omega (arith, b)
left_sort lev.Multiplicative g a off b = omega (arith, b)
left_sort lev.Power g a off b = omega (arith, b)

left_conjunct : (l : Level) (g : Grade) → agrees l g ≡ true → (l ≡ lev.Relation → ⊥) → is_conjunct (level l g) ≡ true → is_conjunct g ≡ true
left_conjunct lev.Conjunction g a off c = a
left_conjunct lev.Relation g a off c = absurd (off refl)
left_conjunct lev.Typing g a off c = unlike (typed_conjunct g) c
left_conjunct _ g a off c = cc

left_disjunct : (l : Level) (g : Grade) → agrees l g ≡ true → (l ≡ lev.Relation → ⊥) → is_disjunct (level l g) ≡ true → is_disjunct g ≡ true
left_disjunct lev.Disjunction g a off c = a
left_disjunct lev.Relation g a off c = absurd (off refl)
left_disjunct lev.Typing g a off c = unlike (typed_disjunct g) c
left_disjunct _ g a off c = cc

-- what is as tight as the left side is as tight as the whole
pub left_tight : (l : Level) (g e : Grade) → AsTight g e → takes_left l g ≡ true → (l ≡ lev.Relation → ⊥) → AsTight (level l g) e
left_tight l g e a t off =
    let two = both (nat_le (left_of l) (rank g)) (agrees l g) t in
    record {
      above = omega (arith, level_rank l g, leb-true (left_of l) (rank g) two.0, a.above);
      sort = λ b. a.sort (left_sort l g two.1 off b);
      conjunct = λ c. a.conjunct (left_conjunct l g two.1 off c);
      disjunct = λ c. a.disjunct (left_disjunct l g two.1 off c);
    }

pub level_low : (l : Level) (g : Grade) → rank (level l g) ≤ 13
level_low lev.Typing g = omega (arith, typed_rank g)
level_low _ g = omega arith

-- parentheses make the same of both
pub grouped_same : (g e : Grade) → AsTight g e → grouped g ≡ grouped e
grouped_same g e a = go (nat_le (rank g) 3) refl (nat_le (rank e) 3) refl
  where
    go : (v : Bool) → nat_le (rank g) 3 ≡ v → (w : Bool) → nat_le (rank e) 3 ≡ w → grouped g ≡ grouped e
    go true i true j = rw (i, j) refl
    go false i false j = rw (i, j) refl
    go true i false j = unlike j (le-leb (rank e) 3 (a.sort (leb-true (rank g) 3 i)))
    go false i true j =
        let low : rank g ≤ 3 = omega (arith, a.above, leb-true (rank e) 3 j) in
        unlike i (le-leb (rank g) 3 low)
