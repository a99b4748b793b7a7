-- What names are, and what the levels come to.
use Rattle.std.proofs.Common.{◌≡◌, ℕ, ◌≤◌, List, [], ◌∷◌, ◌++◌, Bool, true, false, ◌&&◌, cond, Some, None, ◌⊎◌, inl, inr, refl, ap, sym, ◌∙◌, subst, arith}
use Rattle.std.specs.Prelude.{nat_le}
use Rattle.std.proofs.lemmas.Bool.{leb-true, le-leb}
use Rattle.std.proofs.lemmas.List.Sums.{fold-append}
use Rattle.std.proofs.lemmas.Bool.Decides.{nat_tests}
use Rattle.formula_core.specs.declared.raw.RawOp.{RawOp}
use Rattle.formula_core.specs.declared.raw.RawBound.{RawBound}
use Rattle.formula_core.specs.declared.raw.Raw.{Raw}
use Rattle.formula_core.specs.declared.raw.Raw.TheVariants as raw
use Rattle.formula_core.specs.declared.raw.Raw.TheViews.{outs-Name, outs-Node}
use Rattle.math_grammar.specs.declared.holes.Grade.{Grade}
use Rattle.math_grammar.specs.declared.holes.Grade.TheVariants as grade
use Rattle.math_grammar.specs.declared.holes.Hole.{Hole}
use Rattle.math_grammar.specs.declared.holes.Hole.TheVariants as hole
use Rattle.math_grammar.specs.declared.levels.Level.{Level}
use Rattle.math_grammar.specs.declared.levels.Level.TheVariants as lev
use Rattle.math_grammar.specs.declared.levels.Prefix.{Prefix}
use Rattle.math_grammar.specs.declared.levels.Prefix.TheVariants as pre
use Rattle.math_grammar.specs.declared.levels.Bracket.{Bracket}
use Rattle.math_grammar.specs.declared.levels.Bracket.TheVariants as bracket
use Rattle.math_grammar.specs.declared.levels.Binding.{Binding}
use Rattle.math_grammar.specs.declared.levels.Binding.TheVariants as binding
use Rattle.math_grammar.specs.declared.symbols.Symbol.{Symbol}
use Rattle.math_grammar.specs.declared.symbols.Symbol.TheVariants as sign
use Rattle.math_grammar.specs.Levels.{rank, typed, level, left_of, agrees, takes_left, least, most, reaches, fits, inside, grouped, infix_of, prefix_of, suffix_of, joins, suffixes, goes_on, opens, binding_grade, prefix_grade, is_declaration}
use Rattle.math_grammar.specs.Grammar.{between, bound, place_of}
use Rattle.formula_parse.specs.declared.frames.Frame.{Frame}
use Rattle.formula_parse.specs.declared.frames.Frame.TheVariants.{Between, Prefixed, Suffixed}
use Rattle.formula_parse.specs.Machine.{want, plain_name_at, plain_name_of, with_type, typed_name_at, typed_name_of, declares, bound_from, with_bound, with_declared, bounds_from, binding_opened, begin, extend_infix, extend_suffix, extend}

pub name_of-name : (n : List ℕ) (p : ℕ) → plain_name_of (raw.Name n p) ≡ Some (n, p)
name_of-name n p = ap plain_name_at (outs-Name n p)

pub name_of-between : (o : RawOp) (a b : Raw) → plain_name_of (between o a b) ≡ None
name_of-between o a b = ap plain_name_at (outs-Node o (a ∷ b ∷ []) (place_of a))

pub typed_name_of-between : (o : RawOp) (n : List ℕ) (p : ℕ) (t : Raw) → typed_name_of (between o (raw.Name n p) t) ≡ Some (n, p, t)
typed_name_of-between o n p t = ap typed_name_at (outs-Node o (raw.Name n p ∷ t ∷ []) (place_of (raw.Name n p))) ∙ ap (λ m. with_type m t) (name_of-name n p)

pub typed_name_of-name : (n : List ℕ) (p : ℕ) → typed_name_of (raw.Name n p) ≡ None
typed_name_of-name n p = ap typed_name_at (outs-Name n p)

pub bound_of-name : (n : List ℕ) (p : ℕ) → bound_from (raw.Name n p) ≡ Some (bound n p None)
bound_of-name n p = ap (λ o. declares o (typed_name_of (raw.Name n p))) (name_of-name n p)

pub bound_of-between : (o : RawOp) (n : List ℕ) (p : ℕ) (t : Raw) → bound_from (between o (raw.Name n p) t) ≡ Some (bound n p (Some t))
bound_of-between o n p t =
    ap (λ m. declares m (typed_name_of (between o (raw.Name n p) t))) (name_of-between o (raw.Name n p) t)
    ∙ ap (declares None) (typed_name_of-between o n p t)

-- one declaration more
pub bounds_of-more : (rs : List Raw) (r : Raw) (bs : List RawBound) (b : RawBound) → bounds_from rs ≡ Some bs → bound_from r ≡ Some b → bounds_from (rs ++ r ∷ []) ≡ Some (bs ++ b ∷ [])
bounds_of-more rs r bs b e f = fold-append with_declared (Some []) rs (r ∷ []) ∙ ap (λ o. with_bound o (bound_from r)) e ∙ ap (with_bound (Some bs)) f

pub both : (a b : Bool) → (a && b) ≡ true → (a ≡ true) × (b ≡ true)
both true b h = (refl, h)
both false b h = cc

pub chosen : {A : Type 0} {x y z : A} (b : Bool) → cond b x y ≡ z → ((b ≡ true) × (x ≡ z)) ⊎ ((b ≡ false) × (y ≡ z))
chosen true e = inl (refl, e)
chosen false e = inr (refl, e)

-- what fits is reached
pub fits_reaches : (h : Hole) (g : Grade) → fits h g ≡ true → reaches h g ≡ true
fits_reaches h g f = (both (reaches h g) (nat_le (rank g) (most h)) f).0

pub rank_least : (g : Grade) → 1 ≤ rank g
rank_least grade.Implication = omega arith
rank_least grade.Conjunction = omega arith
rank_least grade.Disjunction = omega arith
rank_least grade.Literal = omega arith
rank_least grade.Typed = omega arith
rank_least grade.Declared = omega arith
rank_least grade.Pair = omega arith
rank_least grade.Arrow = omega arith
rank_least grade.Set = omega arith
rank_least grade.Interval = omega arith
rank_least grade.Sum = omega arith
rank_least grade.Negative = omega arith
rank_least grade.Product = omega arith
rank_least grade.Power = omega arith
rank_least grade.Reaching = omega arith
rank_least grade.Suffixed = omega arith
rank_least grade.Primary = omega arith
rank_least grade.Name = omega arith

pub rank_most : (g : Grade) → rank g ≤ 16
rank_most grade.Implication = omega arith
rank_most grade.Conjunction = omega arith
rank_most grade.Disjunction = omega arith
rank_most grade.Literal = omega arith
rank_most grade.Typed = omega arith
rank_most grade.Declared = omega arith
rank_most grade.Pair = omega arith
rank_most grade.Arrow = omega arith
rank_most grade.Set = omega arith
rank_most grade.Interval = omega arith
rank_most grade.Sum = omega arith
rank_most grade.Negative = omega arith
rank_most grade.Product = omega arith
rank_most grade.Power = omega arith
rank_most grade.Reaching = omega arith
rank_most grade.Suffixed = omega arith
rank_most grade.Primary = omega arith
rank_most grade.Name = omega arith

typed_rank : (g : Grade) → rank (typed g) ≡ 4
typed_rank grade.Name = refl
typed_rank _ = refl

-- the whole is no tighter than the loosest left side
pub level_rank : (l : Level) (g : Grade) → rank (level l g) ≤ left_of l
level_rank lev.Implication g = omega arith
level_rank lev.Conjunction g = omega arith
level_rank lev.Disjunction g = omega arith
level_rank lev.Relation g = omega arith
level_rank lev.Typing g = omega (arith, typed_rank g)
level_rank lev.Maplet g = omega arith
level_rank lev.Arrow g = omega arith
level_rank lev.SetOperator g = omega arith
level_rank lev.Interval g = omega arith
level_rank lev.Additive g = omega arith
level_rank lev.Multiplicative g = omega arith
level_rank lev.Power g = omega arith

pub left_most : (l : Level) → left_of l ≤ 15
left_most lev.Implication = omega arith
left_most lev.Conjunction = omega arith
left_most lev.Disjunction = omega arith
left_most lev.Relation = omega arith
left_most lev.Typing = omega arith
left_most lev.Maplet = omega arith
left_most lev.Arrow = omega arith
left_most lev.SetOperator = omega arith
left_most lev.Interval = omega arith
left_most lev.Additive = omega arith
left_most lev.Multiplicative = omega arith
left_most lev.Power = omega arith

pub reached : (h : Hole) (g : Grade) → least h ≤ rank g → reaches h g ≡ true
reached h g b = le-leb (least h) (rank g) b

pub reached_least : (h : Hole) (g : Grade) → reaches h g ≡ true → least h ≤ rank g
reached_least h g b = leb-true (least h) (rank g) b

-- a place that reaches the whole reaches the left side
pub reaches_left : (h : Hole) (l : Level) (g : Grade) → takes_left l g ≡ true → reaches h (level l g) ≡ true → reaches h g ≡ true
reaches_left h l g t r =
    reached h g (omega (arith, level_rank l g, reached_least h (level l g) r, leb-true (left_of l) (rank g) (both (nat_le (left_of l) (rank g)) (agrees l g) t).0))

pub least_most : (h : Hole) → least h ≤ 16
least_most hole.Formula = omega arith
least_most hole.Predicate = omega arith
least_most hole.Junction = omega arith
least_most hole.Literal = omega arith
least_most hole.Expression = omega arith
least_most hole.Pair = omega arith
least_most hole.Arrow = omega arith
least_most hole.Set = omega arith
least_most hole.Range = omega arith
least_most hole.Sum = omega arith
least_most hole.Summand = omega arith
least_most hole.Term = omega arith
least_most hole.Factor = omega arith
least_most hole.Operand = omega arith
least_most hole.Name = omega arith

-- each place may begin with a name
pub name_reaches : (h : Hole) → reaches h grade.Name ≡ true
name_reaches h = reached h grade.Name (least_most h)

pub fits_any : (g : Grade) → fits hole.Formula g ≡ true
fits_any g = let b : rank g ≤ 16 = rank_most g in let a : 1 ≤ rank g = rank_least g in grind (arith, nat_tests)

pub fits_expression : (g : Grade) → 4 ≤ rank g → fits hole.Expression g ≡ true
fits_expression g b = let t : rank g ≤ 16 = rank_most g in grind (arith, nat_tests)

pub declaration_rank : (g : Grade) → is_declaration g ≡ true → 4 ≤ rank g
declaration_rank grade.Name d = omega arith
declaration_rank grade.Declared d = omega arith
declaration_rank _ d = cc

-- what a place in parentheses takes
pub record Opens (h : Hole) (g : Grade) : Type 0 where
  pub room : reaches h grade.Primary ≡ true
  pub low : reaches (inside h) g ≡ true
  pub fit : fits (inside h) g ≡ true

pub group_opens : (h : Hole) (g : Grade) → reaches h (grouped g) ≡ true → Opens h g
group_opens h g r = go (nat_le (least h) 3) refl (nat_le (rank g) 3) refl
  where
    low : least h ≤ rank (grouped g)
    low = reached_least h (grouped g) r

    go : (v : Bool) → nat_le (least h) 3 ≡ v → (w : Bool) → nat_le (rank g) 3 ≡ w → Opens h g
    go true e w d = record {
      room = reached h grade.Primary (omega (arith, leb-true (least h) 3 e));
      low = rw e (fits_reaches hole.Formula g (fits_any g));
      fit = rw e (fits_any g);
    }
    go false e true d =
        let low' : least h ≤ 3 = rw d at low in absurd (grind (arith, nat_tests))
    go false e false d =
        let four : 4 ≤ rank g = grind (arith, nat_tests) in
        let room : least h ≤ 15 = rw d at low in
        record { room = reached h grade.Primary room; low = rw e (le-leb 4 (rank g) four); fit = rw e (fits_expression g four) }

-- parentheses leave what they hold in its place
pub group_fits : (h : Hole) (g : Grade) → reaches h grade.Primary ≡ true → fits (inside h) g ≡ true → reaches h (grouped g) ≡ true
group_fits h g room fit = go (nat_le (least h) 3) refl (nat_le (rank g) 3) refl
  where
    go : (v : Bool) → nat_le (least h) 3 ≡ v → (w : Bool) → nat_le (rank g) 3 ≡ w → reaches h (grouped g) ≡ true
    go true e true d = rw d (reached h grade.Literal (leb-true (least h) 3 e))
    go v e false d = rw d room
    go false e true d =
        let fit' : fits hole.Expression g ≡ true = rw e at fit in
        let high : 4 ≤ rank g = leb-true 4 (rank g) (fits_reaches hole.Expression g fit') in
        let low : rank g ≤ 3 = leb-true (rank g) 3 d in absurd (omega arith)

-- an operator goes on with what stands on its left
pub infix_goes : (h : Hole) (g : Grade) (x : Symbol) (l : Level) (o : RawOp) → infix_of x ≡ Some (l, o) → goes_on h g x ≡ (takes_left l g && reaches h (level l g))
infix_goes h g (sign.Infix k q) l o e = ap (joins h g) e
infix_goes h g sign.Minus l o e = ap (joins h g) e
infix_goes h g _ l o e = cc

pub infix_extends : (fs : List Frame) (g : Grade) (t : Raw) (x : Symbol) (l : Level) (o : RawOp) → infix_of x ≡ Some (l, o) → extend fs g t x ≡ Some (want (Between o l (level l g) t ∷ fs))
infix_extends fs g t (sign.Infix k q) l o e = ap (extend_infix fs g t) e
infix_extends fs g t sign.Minus l o e = ap (extend_infix fs g t) e
infix_extends fs g t _ l o e = cc

pub suffix_goes : (h : Hole) (g : Grade) (x : Symbol) (b : Bracket) (o : RawOp) → suffix_of x ≡ Some (b, o) → goes_on h g x ≡ suffixes h g
suffix_goes h g (sign.Open bracket.Round) b o e = refl
suffix_goes h g (sign.Open bracket.Square) b o e = refl
suffix_goes h g _ b o e = cc

pub suffix_extends : (fs : List Frame) (g : Grade) (t : Raw) (x : Symbol) (b : Bracket) (o : RawOp) → suffix_of x ≡ Some (b, o) → extend fs g t x ≡ Some (want (Suffixed b o t ∷ fs))
suffix_extends fs g t (sign.Open bracket.Round) b o e = ap (extend_suffix fs t) e
suffix_extends fs g t (sign.Open bracket.Square) b o e = ap (extend_suffix fs t) e
suffix_extends fs g t _ b o e = cc

pub prefix_begins : (h : Hole) (fs : List Frame) (p : ℕ) (w : List ℕ) (x : Symbol) (q : Prefix) → prefix_of x ≡ Some q → reaches h (prefix_grade q) ≡ true → begin h fs p w x ≡ Some (want (Prefixed q p ∷ fs))
prefix_begins h fs p w sign.Not pre.Not e r = rw r refl
prefix_begins h fs p w sign.Not pre.Minus e r = cc
prefix_begins h fs p w sign.Minus pre.Minus e r = rw r refl
prefix_begins h fs p w sign.Minus pre.Not e r = cc
prefix_begins h fs p w _ q e r = cc

pub binding_begins : (h : Hole) (fs : List Frame) (p : ℕ) (w : List ℕ) (x : Symbol) (c : Binding) → opens x ≡ Some c → reaches h (binding_grade c) ≡ true → begin h fs p w x ≡ Some (binding_opened c fs p)
binding_begins h fs p w (sign.Binder b) c e r = let same : b ≡ c = cc in rw (same, r) refl
binding_begins h fs p w (sign.Open bracket.Brace) c e r = let same : binding.Set ≡ c = cc in let r' : reaches h (binding_grade binding.Set) ≡ true = subst (λ d. reaches h (binding_grade d) ≡ true) (sym same) r in rw r' (ap (λ d. Some (binding_opened d fs p)) same)
binding_begins h fs p w _ c e r = cc
