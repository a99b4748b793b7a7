-- Forms that stand open on the stack: the parser closes them where the next token doesn't go on inside.
use Rattle.std.proofs.Common.{◌≡◌, ℕ, ◌≤◌, List, [], ◌∷◌, ◌++◌, Bool, true, false, Option, Some, ◌⊎◌, inl, inr, refl, sym, ◌∙◌, subst, arith}
use Rattle.std.specs.Prelude.{nat_le}
use Rattle.std.proofs.lemmas.Bool.{leb-true, le-leb}
use Rattle.formula_core.specs.declared.raw.RawOp.{RawOp}
use Rattle.formula_core.specs.declared.raw.RawBinder.{RawBinder}
use Rattle.formula_core.specs.declared.raw.RawBound.{RawBound}
use Rattle.formula_core.specs.declared.raw.Raw.{Raw}
use Rattle.formula_core.specs.declared.raw.Raw.TheVariants as raw
use Rattle.math_grammar.specs.declared.holes.Grade.{Grade}
use Rattle.math_grammar.specs.declared.holes.Hole.{Hole}
use Rattle.math_grammar.specs.declared.levels.Level.{Level}
use Rattle.math_grammar.specs.declared.levels.Level.TheVariants as lev
use Rattle.math_grammar.specs.declared.levels.Prefix.{Prefix}
use Rattle.math_grammar.specs.declared.levels.Prefix.TheVariants as prefix
use Rattle.math_grammar.specs.declared.levels.Binding.{Binding}
use Rattle.math_grammar.specs.declared.levels.Binding.TheVariants as binding
use Rattle.math_grammar.specs.declared.symbols.Symbol.{Symbol}
use Rattle.math_grammar.specs.Levels.{rank, level, left_of, agrees, right_of, takes_left, least, most, reaches, fits, goes_on, infix_of, prefix_hole, prefix_grade, prefix_op, binding_grade, is_braced}
use Rattle.math_grammar.specs.Tokens.{Item}
use Rattle.math_grammar.specs.Grammar.{item, between, Ends}
use Rattle.formula_parse.specs.declared.frames.Frame.{Frame}
use Rattle.formula_parse.specs.declared.frames.Frame.TheVariants as frame
use Rattle.formula_parse.specs.Machine.{hole_of, want, have, finished}
use Rattle.formula_parse.proofs.Reach.{Stop, reach}
use Rattle.formula_parse.proofs.Basics.{both, level_rank, infix_goes}
use Rattle.formula_parse.proofs.Complete.{attach_infix, ends_finished, goes}
use Rattle.plain_grammar.proofs.Tightness.{level_low}

-- a place for predicates alone, or for expressions alone
abbrev pub IsSorted : Hole → Type 0
IsSorted h = (most h ≤ 3) ⊎ (4 ≤ least h)

sorted_right : (l : Level) → IsSorted (right_of l)
sorted_right lev.Implication = inl (omega arith)
sorted_right lev.Conjunction = inl (omega arith)
sorted_right lev.Disjunction = inl (omega arith)
sorted_right _ = inr (omega arith)

-- the form ends with its last part, and has the grade
pub record Closes (f : Frame) (k : Grade) : Type 0 where
  pub tree : Raw → Raw
  pub is : (t : Raw) → finished f t ≡ Some (k, tree t)
  pub low : rank k ≤ 13
  pub sorted : IsSorted (hole_of f)

pub closes_between : (o : RawOp) (l : Level) (g : Grade) (a : Raw) → Closes (frame.Between o l (level l g) a) (level l g)
closes_between o l g a = record { tree = between o a; is = λ t. refl; low = level_low l g; sorted = sorted_right l }

sorted_prefix : (q : Prefix) → IsSorted (prefix_hole q)
sorted_prefix prefix.Not = inl (omega arith)
sorted_prefix prefix.Minus = inr (omega arith)

prefix_low : (q : Prefix) → rank (prefix_grade q) ≤ 13
prefix_low prefix.Not = omega arith
prefix_low prefix.Minus = omega arith

pub closes_prefixed : (q : Prefix) (p : ℕ) → Closes (frame.Prefixed q p) (prefix_grade q)
closes_prefixed q p = record { tree = λ t. raw.Node (prefix_op q) (t ∷ []) p; is = λ t. refl; low = prefix_low q; sorted = sorted_prefix q }

open_low : (c : Binding) → is_braced c ≡ false → rank (binding_grade c) ≤ 13
open_low binding.Set e = cc
open_low (binding.Quantified b) e = omega arith
open_low (binding.Reaching b) e = omega arith
open_low binding.Lambda e = omega arith

pub closes_last : (c : Binding) (h : Hole) (b : RawBinder) (names : List RawBound) (parts : List Raw) (p : ℕ) →
    is_braced c ≡ false → IsSorted h → Closes (frame.Last c h b names parts p) (binding_grade c)
closes_last c h b names parts p e sorted = record { tree = λ t. raw.Bind b names (parts ++ t ∷ []) p; is = λ t. rw e refl; low = open_low c e; sorted = sorted }

-- With the forms of the stack closed down to fs, what was of the grade g on its top is of the grade e there.
pub data Path (fs : List Frame) (e : Grade) : List Frame → Grade → Type 0 where
  stop : Path fs e fs e
  over : {f : Frame} {top : List Frame} {g k : Grade} → Closes f k → fits (hole_of f) g ≡ true → Path fs e top k → Path fs e (f ∷ top) g

pub further : {fs : List Frame} {d : Grade} {mid : List Frame} {e : Grade} {top : List Frame} {g : Grade} → Path fs d mid e → Path mid e top g → Path fs d top g
further p stop = p
further p (over c fit q) = over c fit (further p q)

path_low : {fs : List Frame} {e : Grade} {top : List Frame} {g : Grade} → Path fs e top g → rank g ≤ 13 → rank e ≤ 13
path_low stop b = b
path_low (over c fit q) b = path_low q c.low

-- what holds an operator inside a form fits its place
inside_fits : (h : Hole) (l : Level) (g : Grade) → fits h g ≡ true → takes_left l g ≡ true → reaches h (level l g) ≡ true → fits h (level l g) ≡ true
inside_fits h l g fit takes room =
    let top : rank g ≤ most h = leb-true (rank g) (most h) (both (reaches h g) (nat_le (rank g) (most h)) fit).1 in
    let left : left_of l ≤ rank g = leb-true (left_of l) (rank g) (both (nat_le (left_of l) (rank g)) (agrees l g) takes).0 in
    let below : rank (level l g) ≤ most h = omega (arith, level_rank l g, top, left) in
    rw (room, le-leb (rank (level l g)) (most h) below) refl

-- no relation stands inside a form, unless its sides do
inside_no_relation : (h : Hole) (l : Level) (g : Grade) → IsSorted h → fits h g ≡ true → takes_left l g ≡ true → reaches h (level l g) ≡ true → l ≡ lev.Relation → ⊥
inside_no_relation h lev.Relation g sorted fit takes room e =
    let top : rank g ≤ most h = leb-true (rank g) (most h) (both (reaches h g) (nat_le (rank g) (most h)) fit).1 in
    let four : 4 ≤ rank g = leb-true 4 (rank g) (both (nat_le 4 (rank g)) true takes).0 in
    let three : least h ≤ 3 = leb-true (least h) 3 room in
    elim sorted [ inl low ↦ omega (arith, top, four, low) | inr tall ↦ omega (arith, three, tall) ]
inside_no_relation h _ g sorted fit takes room e = cc

module _ (limit : Option ℕ) (goal : Hole) where
  -- what goes on with nothing closes each form
  pub settle : {fs : List Frame} {e : Grade} {top : List Frame} {g : Grade} (rest : List Item) → ((h : Hole) (k : Grade) → Ends h k rest) → Path fs e top g → (t : Raw) →
      (u : Raw) × (reach limit goal (have top g t) rest ≡ reach limit goal (have fs e u) rest)
  settle rest still stop t = (t, refl)
  settle rest still (over {f} {top} {g} {k} c fit q) t =
      let next = settle rest still q (c.tree t) in
      (next.0, ends_finished limit goal f top g k t (c.tree t) rest fit (still (hole_of f) g) (c.is t) ∙ next.1)

  -- a formula with a bracket behind it has no open form at its end
  pub whole : {fs : List Frame} {e : Grade} {top : List Frame} {g : Grade} → Path fs e top g → 14 ≤ rank e → (t : Raw) (rest : List Item) →
      (u : Raw) × (reach limit goal (have top g t) rest ≡ reach limit goal (have fs e u) rest)
  whole stop b t rest = (t, refl)
  whole {e = e} (over c fit q) b t rest = let low : rank e ≤ 13 = path_low q c.low in absurd (omega (arith, low, b))

  -- what comes of an operator: it is taken by a form that is open, or each is closed
  pub data Turn (fs : List Frame) (e : Grade) (l : Level) (o : RawOp) (x : Symbol) (p : ℕ) (w : List ℕ) (m : List Item) (z : Stop) : Type 0 where
    inside : (top : List Frame) (g : Grade) (a : Raw) → z ≡ reach limit goal (want (frame.Between o l (level l g) a ∷ top)) m →
        Path fs e top (level l g) → (l ≡ lev.Relation → ⊥) → Turn fs e l o x p w m z
    outside : (u : Raw) → z ≡ reach limit goal (have fs e u) (item x p w ∷ m) → Turn fs e l o x p w m z

  pub turn : {fs : List Frame} {e : Grade} {top : List Frame} {g : Grade} → Path fs e top g → (t : Raw) (l : Level) (o : RawOp) (x : Symbol) (p : ℕ) (w : List ℕ) (m : List Item) → infix_of x ≡ Some (l, o) →
      Turn fs e l o x p w m (reach limit goal (have top g t) (item x p w ∷ m))
  turn {g = g} stop t l o x p w m is = outside t refl
  turn {fs} {e} (over {f} {top} {g} {k} c fit q) t l o x p w m is = go (goes_on (hole_of f) g x) refl (turn q (c.tree t) l o x p w m is)
    where
      go : (v : Bool) → goes_on (hole_of f) g x ≡ v → Turn fs e l o x p w m (reach limit goal (have top k (c.tree t)) (item x p w ∷ m)) →
          Turn fs e l o x p w m (reach limit goal (have (f ∷ top) g t) (item x p w ∷ m))
      go true on next =
          let two = both (takes_left l g) (reaches (hole_of f) (level l g)) (sym (infix_goes (hole_of f) g x l o is) ∙ on) in
          inside (f ∷ top) g t
          (goes limit goal (f ∷ top) g t x p w (want (frame.Between o l (level l g) t ∷ f ∷ top)) m (attach_infix limit goal (f ∷ top) g t x l o is two.0 two.1))
          (over c (inside_fits (hole_of f) l g fit two.0 two.1) q)
          (inside_no_relation (hole_of f) l g c.sorted fit two.0 two.1)
      go false off next = subst (λ z. Turn fs e l o x p w m z) (sym (ends_finished limit goal f top g k t (c.tree t) (item x p w ∷ m) fit off (c.is t))) next
