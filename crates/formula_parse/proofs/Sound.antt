-- What is read is a sentence.
use Rattle.std.proofs.Common.{◌≡◌, ℕ, ◌≤◌, List, [], ◌∷◌, ◌++◌, Bool, true, false, ◌&&◌, cond, Option, Some, None, ◌⊎◌, inl, inr, refl, ap, ◌∙◌, subst, arith, length}
use Rattle.std.specs.Prelude.{nat_le, IfSome, option_and_then}
use Rattle.formula_core.specs.Names.{is_name}
use Rattle.formula_core.specs.declared.op.Op.TheVariants as op
use Rattle.formula_core.specs.declared.raw.RawOp.{RawOp}
use Rattle.formula_core.specs.declared.raw.RawOp.TheVariants as rawop
use Rattle.formula_core.specs.declared.raw.RawBinder.{RawBinder}
use Rattle.formula_core.specs.declared.raw.RawBound.{RawBound}
use Rattle.formula_core.specs.declared.raw.Raw.{Raw}
use Rattle.formula_core.specs.declared.raw.Raw.TheVariants as raw
use Rattle.math_grammar.specs.declared.holes.Grade.{Grade}
use Rattle.math_grammar.specs.declared.holes.Grade.TheVariants as grade
use Rattle.math_grammar.specs.declared.holes.Hole.{Hole}
use Rattle.math_grammar.specs.declared.holes.Hole.TheVariants as hole
use Rattle.math_grammar.specs.declared.levels.Level.{Level}
use Rattle.math_grammar.specs.declared.levels.Level.TheVariants as lev
use Rattle.math_grammar.specs.declared.levels.Prefix.{Prefix}
use Rattle.math_grammar.specs.declared.levels.Prefix.TheVariants as prefix
use Rattle.math_grammar.specs.declared.levels.Bracket.{Bracket}
use Rattle.math_grammar.specs.declared.levels.Bracket.TheVariants as bracket
use Rattle.math_grammar.specs.declared.levels.Call.{Call}
use Rattle.math_grammar.specs.declared.levels.Call.TheVariants as call
use Rattle.math_grammar.specs.declared.levels.Binding.{Binding}
use Rattle.math_grammar.specs.declared.levels.Binding.TheVariants as binding
use Rattle.math_grammar.specs.declared.symbols.Symbol.{Symbol}
use Rattle.math_grammar.specs.declared.symbols.Symbol.TheVariants as sign
use Rattle.math_grammar.specs.declared.shapes.Shape.{Shape}
use Rattle.math_grammar.specs.Levels.{rank, typed, level, prefix_of, right_of, takes_left, reaches, fits, inside, grouped, suffixes, goes_on, infix_of, suffix_of, opens, is_typing, is_declaration, prefix_hole, prefix_grade, prefix_op, call_hole, call_grade, call_parts, has_room, binding_grade, binder_of, is_quantified, takes_names, takes_shape, is_braced}
use Rattle.math_grammar.specs.Tokens.{Item}
use Rattle.math_grammar.specs.Grammar.{item, bound, between, lone, joined_shape, Ends, Reads, a_name, a_number, a_truth, a_constant, prefixed, two_sides, in_parentheses, called, applied, converted, set_by_members, by_names, by_shape, lambda, Parts, last_one, next_one, TypeOf, last_side, first_side, Bound, bare, of_type, Declares, last_name, next_name, BinderBody, a_predicate, a_value, LastPart, up_to_brace, reaching, Pattern, last_atom, next_atom, Atom, bare_atom, typed_atom, grouped_atom, Spells}
use Rattle.formula_parse.specs.declared.frames.Frame.{Frame}
use Rattle.formula_parse.specs.declared.frames.Frame.TheVariants as frame
use Rattle.formula_parse.specs.Machine.{hole_of, hole_wanted, ParseState, want, have, calling, shape_want, shape_name, shape_have, only_if, plain_name_of, typed_name_of, bound_from, bounds_from, binding_body, begin, extend, finished, after_name, after_type, type_next, shape_next, after_member, after_shape, shape_step, closed, after_form, attach, begin_shape, call_word, step, complete, ended}
use Rattle.formula_parse.proofs.Basics.{name_of-name, typed_name_of-name, typed_name_of-between, bound_of-name, bound_of-between, bounds_of-more, both, chosen, level_rank, left_most, reached_least, name_reaches, group_fits}

-- a bare name
pub data NameRead : List Item → Raw → List Item → Type 0 where
  name_read : {n : List ℕ} {p : ℕ} {rest : List Item} → is_name n ≡ true → NameRead (item sign.Word p n ∷ rest) (raw.Name n p) rest

pub not_name : {A : Type 0} (k : Grade) → rank k ≤ 15 → k ≡ grade.Name → A
not_name k b e = absurd (omega (arith, b, ap rank e))

pub prefix_low : (q : Prefix) → rank (prefix_grade q) ≤ 15
prefix_low prefix.Not = omega arith
prefix_low prefix.Minus = omega arith

pub grouped_low : (g : Grade) → rank (grouped g) ≤ 15
grouped_low g = go (nat_le (rank g) 3)
  where
    go : (b : Bool) → rank (cond b grade.Literal grade.Primary) ≤ 15
    go true = omega arith
    go false = omega arith

pub call_low : (c : Call) → rank (call_grade c) ≤ 15
call_low call.Finite = omega arith
call_low call.Partition = omega arith
call_low call.Bool = omega arith
call_low call.Function = omega arith

pub binding_low : (c : Binding) → rank (binding_grade c) ≤ 15
binding_low binding.Set = omega arith
binding_low (binding.Quantified b) = omega arith
binding_low (binding.Reaching b) = omega arith
binding_low binding.Lambda = omega arith

typed_name : (g : Grade) → typed g ≡ grade.Declared → g ≡ grade.Name
typed_name grade.Name e = refl
typed_name _ e = cc

level_declared : (l : Level) (g : Grade) → level l g ≡ grade.Declared → (l ≡ lev.Typing) × (g ≡ grade.Name)
level_declared lev.Typing g e = (refl, typed_name g e)
level_declared _ g e = cc

prefix_declared : {A : Type 0} (q : Prefix) → prefix_grade q ≡ grade.Declared → A
prefix_declared prefix.Not e = cc
prefix_declared prefix.Minus e = cc

grouped_declared : {A : Type 0} (g : Grade) → grouped g ≡ grade.Declared → A
grouped_declared {A} g e = go (nat_le (rank g) 3) e
  where
    go : (b : Bool) → cond b grade.Literal grade.Primary ≡ grade.Declared → A
    go true e = cc
    go false e = cc

call_declared : {A : Type 0} (c : Call) → call_grade c ≡ grade.Declared → A
call_declared call.Finite e = cc
call_declared call.Partition e = cc
call_declared call.Bool e = cc
call_declared call.Function e = cc

binding_declared : {A : Type 0} (c : Binding) → binding_grade c ≡ grade.Declared → A
binding_declared binding.Set e = cc
binding_declared (binding.Quantified b) e = cc
binding_declared (binding.Reaching b) e = cc
binding_declared binding.Lambda e = cc

abbrev level_in : Option (Level × RawOp) → Level
level_in (Some b) = b.0
level_in None = lev.Power

abbrev operator_in : Option (Level × RawOp) → RawOp
operator_in (Some b) = b.1
operator_in None = rawop.OfType

-- ⦂ alone has its level
typing_sign : (x : Symbol) (o : RawOp) → infix_of x ≡ Some (lev.Typing, o) → x ≡ sign.Infix lev.Typing o
typing_sign (sign.Infix l q) o e =
    let a : l ≡ lev.Typing = ap level_in e in
    let b : q ≡ o = ap operator_in e in
    cc
typing_sign sign.Minus o e = let a : lev.Additive ≡ lev.Typing = ap level_in e in cc
typing_sign _ o e = cc

-- a formula is read at the top of the stack, and no pattern
abbrev pub reads_formula : List Frame → Bool
reads_formula (frame.Pattern inner before p ∷ fs) = false
reads_formula _ = true

-- where something looser than a name has room, a formula is read
pub room_top : (goal : Hole) (fs : List Frame) (k : Grade) → reaches (hole_wanted goal fs) k ≡ true → rank k ≤ 15 → reads_formula fs ≡ true
room_top goal (frame.Pattern inner before p ∷ fs) k r b = absurd (omega (arith, b, reached_least hole.Name k r))
room_top goal _ k r b = refl

shape_names : (c : Binding) → takes_shape c ≡ true → takes_names c ≡ true
shape_names binding.Set h = refl
shape_names (binding.Reaching b) h = refl
shape_names (binding.Quantified b) h = cc
shape_names binding.Lambda h = cc

pub body_formula : (c : Binding) (names : List RawBound) (p : ℕ) (fs : List Frame) → reads_formula (binding_body c names [] p ∷ fs) ≡ true
body_formula c names p fs = go (is_quantified c)
  where
    go : (v : Bool) → reads_formula (cond v (frame.Last c hole.Predicate (binder_of c) names [] p) (frame.Given c names [] p) ∷ fs) ≡ true
    go true = refl
    go false = refl

pub fits_name : (g : Grade) → fits hole.Name g ≡ true → g ≡ grade.Name
fits_name grade.Name f = refl
fits_name _ f = cc

snoc_some : {A : Type 0} (before : List Raw) (t : Raw) → before ++ t ∷ [] ≡ [] → A
snoc_some [] t e = cc
snoc_some (x ∷ before) t e = cc

pub closed_set : (c : Binding) → is_braced c ≡ true → c ≡ binding.Set
closed_set binding.Set h = refl
closed_set (binding.Quantified b) h = cc
closed_set (binding.Reaching b) h = cc
closed_set binding.Lambda h = cc

untyped_next : {A : Type 0} {rest end : List Item} (fs : List Frame) (st : ParseState) (c : Binding) (bs : List RawBound) (t : Raw) (p : ℕ) → NameRead rest t end → type_next fs c (Some bs) (typed_name_of t) p ≡ Some st → A
untyped_next fs st c bs t p (name_read {n} {p = pn} named) e = let e' : type_next fs c (Some bs) None p ≡ Some st = rw (typed_name_of-name n pn) at e in cc

pub ways : (b : Bool) → (b ≡ true) ⊎ (b ≡ false)
ways true = inl refl
ways false = inr refl

-- what is complete at the end
complete_ways : (goal : Hole) (f : Frame) (fs : List Frame) (g : Grade) (t u : Raw) → complete goal (f ∷ fs) g t ≡ Some u →
    (fits (hole_of f) g ≡ true) × (option_and_then (λ done. complete goal fs done.0 done.1) (finished f t) ≡ Some u)
complete_ways goal f fs g t u e = elim (chosen (fits (hole_of f) g) e) [ inl y ↦ y | inr n ↦ cc ]

-- a form that takes a sign isn't complete
unfinished : {A : Type 0} (goal : Hole) (f : Frame) (fs : List Frame) (g : Grade) (t u : Raw) → finished f t ≡ None → complete goal (f ∷ fs) g t ≡ Some u → A
unfinished goal f fs g t u n e = let w = (complete_ways goal f fs g t u e).1 in let w' = rw n at w in cc

module _ (limit : Option ℕ) where
  -- a bare name with a type
  pub data TypedRead : List Item → Raw → List Item → Type 0 where
    typed_read : {g : Grade} {o : RawOp} {n w : List ℕ} {p q : ℕ} {s rest : List Item} {t : Raw} → is_name n ≡ true → Reads limit g s t rest → fits hole.Pair g ≡ true →
        TypedRead (item sign.Word p n ∷ item (sign.Infix lev.Typing o) q w ∷ s) (between o (raw.Name n p) t) rest

  pub read_name : {m rest : List Item} {t : Raw} → Reads limit grade.Name m t rest → NameRead m t rest
  read_name (a_name e) = name_read e
  read_name (prefixed {q = q} is r fit e lv) = not_name (prefix_grade q) (prefix_low q) lv
  read_name (two_sides {g = g} {l = l} left is takes r fit e lv) = not_name (level l g) (omega (arith, level_rank l g, left_most l)) lv
  read_name (in_parentheses {g = g} r lv) = not_name (grouped g) (grouped_low g) lv
  read_name (called {c = c} r lv) = not_name (call_grade c) (call_low c) lv
  read_name (by_names {c = c} is takes d r lv) = not_name (binding_grade c) (binding_low c) lv
  read_name (by_shape {c = c} is takes r fit last lv) = not_name (binding_grade c) (binding_low c) lv

  typed_from : {h : Grade} {o : RawOp} {p : ℕ} {w : List ℕ} {s m rest : List Item} {a b : Raw} →
      NameRead s a (item (sign.Infix lev.Typing o) p w ∷ m) → Reads limit h m b rest → fits hole.Pair h ≡ true → TypedRead s (between o a b) rest
  typed_from (name_read e) r fit = typed_read e r fit

  read_typed : {m rest : List Item} {t : Raw} → Reads limit grade.Declared m t rest → TypedRead m t rest
  read_typed (prefixed {q = q} is r fit e lv) = prefix_declared q lv
  read_typed (two_sides {g = g} {h = h} {l = l} {o = o} {x = x} {p = p} {w = w} {s = s} {m = m} {a = a} left is takes r fit e lv) =
      let both_are : (l ≡ lev.Typing) × (g ≡ grade.Name) = level_declared l g lv in
      let fit' : fits hole.Pair h ≡ true = subst (λ k. fits (right_of k) h ≡ true) both_are.0 fit in
      let is' : infix_of x ≡ Some (lev.Typing, o) = is ∙ ap (λ k. Some (k, o)) both_are.0 in
      let left' : Reads limit grade.Name s a (item (sign.Infix lev.Typing o) p w ∷ m) =
      subst (λ y. Reads limit grade.Name s a (item y p w ∷ m)) (typing_sign x o is') (subst (λ k. Reads limit k s a (item x p w ∷ m)) both_are.1 left) in
      typed_from (read_name left') r fit'
  read_typed (in_parentheses {g = g} r lv) = grouped_declared g lv
  read_typed (called {c = c} r lv) = call_declared c lv
  read_typed (by_names {c = c} is takes d r lv) = binding_declared c lv
  read_typed (by_shape {c = c} is takes r fit last lv) = binding_declared c lv

  -- what a declaration declares
  pub record Declared (m : List Item) (t : Raw) (rest : List Item) : Type 0 where
    pub b : RawBound
    pub is : bound_from t ≡ Some b
    pub reads : Bound limit m b rest

  declared_name : {m rest : List Item} {t : Raw} → NameRead m t rest → Declared m t rest
  declared_name (name_read {n} {p} e) = record { b = bound n p None; is = bound_of-name n p; reads = bare e }

  declared_typed : {m rest : List Item} {t : Raw} → TypedRead m t rest → Declared m t rest
  declared_typed (typed_read {o = o} {n = n} {p = p} {t = t} e r fit) = record { b = bound n p (Some t); is = bound_of-between o n p t; reads = of_type e (last_side r fit) }

  declared : (g : Grade) {m rest : List Item} {t : Raw} → is_declaration g ≡ true → Reads limit g m t rest → Declared m t rest
  declared grade.Name d r = declared_name (read_name r)
  declared grade.Declared d r = declared_typed (read_typed r)
  declared _ d r = cc

  -- The tokens s0 up to m spell the forms on the stack, each of which has room in the one below.
  pub data Spelled (goal : Hole) (s0 : List Item) : List Frame → List Item → Type 0 where
    nothing : Spelled goal s0 [] s0
    left_side : {fs : List Frame} {g k : Grade} {l : Level} {o : RawOp} {x : Symbol} {p : ℕ} {w : List ℕ} {a : Raw} {m rest : List Item} →
        Spelled goal s0 fs m → reaches (hole_wanted goal fs) k ≡ true →
        Reads limit g m a (item x p w ∷ rest) → infix_of x ≡ Some (l, o) → takes_left l g ≡ true → level l g ≡ k →
        Spelled goal s0 (frame.Between o l k a ∷ fs) rest
    operand : {fs : List Frame} {q : Prefix} {x : Symbol} {p : ℕ} {w : List ℕ} {rest : List Item} →
        Spelled goal s0 fs (item x p w ∷ rest) → reaches (hole_wanted goal fs) (prefix_grade q) ≡ true → prefix_of x ≡ Some q →
        Spelled goal s0 (frame.Prefixed q p ∷ fs) rest
    group_open : {fs : List Frame} {h : Hole} {p : ℕ} {w : List ℕ} {rest : List Item} →
        Spelled goal s0 fs (item (sign.Open bracket.Round) p w ∷ rest) → reaches (hole_wanted goal fs) grade.Primary ≡ true → inside (hole_wanted goal fs) ≡ h →
        Spelled goal s0 (frame.Group h ∷ fs) rest
    parts_so_far : {fs : List Frame} {c : Call} {o : RawOp} {before : List Raw} {p q : ℕ} {w v : List ℕ} {m rest : List Item} →
        Spelled goal s0 fs (item (sign.Call c o) p w ∷ item (sign.Open bracket.Round) q v ∷ m) → reaches (hole_wanted goal fs) (call_grade c) ≡ true →
        ((all : List Raw) (after : List Item) → Parts limit (call_hole c) (call_parts limit c) bracket.Round before rest all after → Parts limit (call_hole c) (call_parts limit c) bracket.Round [] m all after) →
        Spelled goal s0 (frame.Parts c o before p ∷ fs) rest
    suffix_open : {fs : List Frame} {g : Grade} {b : Bracket} {o : RawOp} {x : Symbol} {p : ℕ} {w : List ℕ} {f : Raw} {m rest : List Item} →
        Spelled goal s0 fs m → reaches (hole_wanted goal fs) grade.Suffixed ≡ true →
        Reads limit g m f (item x p w ∷ rest) → suffix_of x ≡ Some (b, o) → suffixes hole.Operand g ≡ true →
        Spelled goal s0 (frame.Suffixed b o f ∷ fs) rest
    names_so_far : {fs : List Frame} {c : Binding} {x : Symbol} {before : List RawBound} {p : ℕ} {w : List ℕ} {m rest : List Item} →
        Spelled goal s0 fs (item x p w ∷ m) → reaches (hole_wanted goal fs) (binding_grade c) ≡ true → opens x ≡ Some c → takes_names c ≡ true →
        ((names : List RawBound) (after : List Item) → Declares limit before rest names after → Declares limit [] m names after) →
        Spelled goal s0 (frame.Names c before p ∷ fs) rest
    type_so_far : {fs : List Frame} {c : Binding} {x : Symbol} {before : List RawBound} {n : List ℕ} {pn p : ℕ} {side : Option Raw} {w : List ℕ} {m m' rest : List Item} →
        Spelled goal s0 fs (item x p w ∷ m) → reaches (hole_wanted goal fs) (binding_grade c) ≡ true → opens x ≡ Some c → takes_names c ≡ true →
        ((names : List RawBound) (after : List Item) → Declares limit before m' names after → Declares limit [] m names after) →
        ((t : Raw) (after : List Item) → TypeOf limit side rest t after → Bound limit m' (bound n pn (Some t)) after) →
        Spelled goal s0 (frame.TypeAfter c before n pn side p ∷ fs) rest
    listed_so_far : {fs : List Frame} {c : Binding} {x : Symbol} {names : Bool} {before : List Raw} {p : ℕ} {w : List ℕ} {m rest : List Item} →
        Spelled goal s0 fs (item x p w ∷ m) → reaches (hole_wanted goal fs) (binding_grade c) ≡ true → opens x ≡ Some c → takes_shape c ≡ true →
        (is_braced c ≡ true → (all : List Raw) (after : List Item) → Parts limit hole.Expression None bracket.Brace before rest all after → Parts limit hole.Expression None bracket.Brace [] m all after) →
        (names ≡ true → (bs : List RawBound) × (bounds_from before ≡ Some bs) × ((ns : List RawBound) (after : List Item) → Declares limit bs rest ns after → Declares limit [] m ns after)) →
        (before ≡ [] → rest ≡ m) → (is_braced c ≡ false → before ≡ []) →
        Spelled goal s0 (frame.Listed c names before p ∷ fs) rest
    given_so_far : {fs : List Frame} {c : Binding} {names : List RawBound} {parts : List Raw} {p : ℕ} {m rest : List Item} →
        Spelled goal s0 fs m → reaches (hole_wanted goal fs) (binding_grade c) ≡ true → is_quantified c ≡ false →
        ((all : List Raw) (after : List Item) → BinderBody limit c parts rest all after → Reads limit (binding_grade c) m (raw.Bind (binder_of c) names all p) after) →
        Spelled goal s0 (frame.Given c names parts p ∷ fs) rest
    last_so_far : {fs : List Frame} {c : Binding} {h : Hole} {b : RawBinder} {names : List RawBound} {parts : List Raw} {p : ℕ} {m rest : List Item} →
        Spelled goal s0 fs m → reaches (hole_wanted goal fs) (binding_grade c) ≡ true → (h ≡ hole.Predicate) ⊎ (h ≡ hole.Expression) →
        ((t : Raw) (after : List Item) → LastPart limit c h rest t after → Reads limit (binding_grade c) m (raw.Bind b names (parts ++ t ∷ []) p) after) →
        Spelled goal s0 (frame.Last c h b names parts p ∷ fs) rest
    pattern_so_far : {fs : List Frame} {before : Option Shape} {p : ℕ} {w : List ℕ} {m rest : List Item} →
        Spelled goal s0 fs (item (sign.Binder binding.Lambda) p w ∷ m) → reaches (hole_wanted goal fs) grade.Reaching ≡ true →
        ((a : Shape) (after : List Item) → Pattern limit before rest a after → Pattern limit None m a after) →
        Spelled goal s0 (frame.Pattern false before p ∷ fs) rest
    inner_so_far : {fs : List Frame} {inner : Bool} {before outer : Option Shape} {p q : ℕ} {w : List ℕ} {m rest : List Item} →
        Spelled goal s0 (frame.Pattern inner outer q ∷ fs) (item (sign.Open bracket.Round) p w ∷ m) →
        ((a : Shape) (after : List Item) → Pattern limit before rest a after → Pattern limit None m a after) →
        Spelled goal s0 (frame.Pattern true before p ∷ frame.Pattern inner outer q ∷ fs) rest
    pattern_type : {fs : List Frame} {inner : Bool} {outer : Option Shape} {n w : List ℕ} {o : RawOp} {pn p q : ℕ} {rest : List Item} →
        Spelled goal s0 (frame.Pattern inner outer q ∷ fs) (item sign.Word pn n ∷ item (sign.Infix lev.Typing o) p w ∷ rest) → is_name n ≡ true →
        Spelled goal s0 (frame.PatternType n pn ∷ frame.Pattern inner outer q ∷ fs) rest

  -- the state is right before the tokens that are left
  pub data Sound (goal : Hole) (s0 : List Item) : ParseState → List Item → Type 0 where
    wanting : {fs : List Frame} {rest : List Item} → reads_formula fs ≡ true → Spelled goal s0 fs rest → Sound goal s0 (want fs) rest
    having : {fs : List Frame} {g : Grade} {t : Raw} {m rest : List Item} →
        reads_formula fs ≡ true → Spelled goal s0 fs m → reaches (hole_wanted goal fs) g ≡ true → Reads limit g m t rest → Sound goal s0 (have fs g t) rest
    word_read : {fs : List Frame} {c : Call} {o : RawOp} {p : ℕ} {w : List ℕ} {rest : List Item} →
        Spelled goal s0 fs (item (sign.Call c o) p w ∷ rest) → reaches (hole_wanted goal fs) (call_grade c) ≡ true → Sound goal s0 (calling fs c o p) rest
    pattern_wanted : {fs : List Frame} {inner : Bool} {outer : Option Shape} {q : ℕ} {rest : List Item} →
        Spelled goal s0 (frame.Pattern inner outer q ∷ fs) rest → Sound goal s0 (shape_want (frame.Pattern inner outer q ∷ fs)) rest
    pattern_named : {fs : List Frame} {inner : Bool} {outer : Option Shape} {n : List ℕ} {p q : ℕ} {rest : List Item} →
        Spelled goal s0 (frame.Pattern inner outer q ∷ fs) (item sign.Word p n ∷ rest) → is_name n ≡ true →
        Sound goal s0 (shape_name (frame.Pattern inner outer q ∷ fs) n p) rest
    pattern_read : {fs : List Frame} {inner : Bool} {outer : Option Shape} {a : Shape} {q : ℕ} {m rest : List Item} →
        Spelled goal s0 (frame.Pattern inner outer q ∷ fs) m → Atom limit m a rest →
        Sound goal s0 (shape_have (frame.Pattern inner outer q ∷ fs) a) rest

  along : {goal : Hole} {s0 rest : List Item} {a b : ParseState} → Some a ≡ Some b → Sound goal s0 a rest → Sound goal s0 b rest
  along {goal} {s0} {rest} e s = subst (λ (o : Option ParseState). IfSome o (λ st. Sound goal s0 st rest)) e s

  guarded : {goal : Hole} {s0 rest : List Item} (b : Bool) (a st : ParseState) → only_if b a ≡ Some st → (b ≡ true → Sound goal s0 a rest) → Sound goal s0 st rest
  guarded true a st e k = along e (k refl)
  guarded false a st e k = cc

  sound_extend : (goal : Hole) {s0 m rest : List Item} (fs : List Frame) (g : Grade) {t : Raw} (p : ℕ) (w : List ℕ) (x : Symbol) (st : ParseState) →
      Spelled goal s0 fs m → Reads limit g m t (item x p w ∷ rest) → goes_on (hole_wanted goal fs) g x ≡ true → extend fs g t x ≡ Some st → Sound goal s0 st rest
  sound_extend goal fs g p w (sign.Infix l o) st sp r on e =
      let both_are = both (takes_left l g) (reaches (hole_wanted goal fs) (level l g)) on in
      along e (wanting refl (left_side sp both_are.1 r refl both_are.0 refl))
  sound_extend goal fs g p w sign.Minus st sp r on e =
      let both_are = both (takes_left lev.Additive g) (reaches (hole_wanted goal fs) (level lev.Additive g)) on in
      along e (wanting refl (left_side sp both_are.1 r refl both_are.0 refl))
  sound_extend goal fs g p w sign.Converse st sp r on e =
      let both_are = both (nat_le 14 (rank g)) (reaches (hole_wanted goal fs) grade.Suffixed) on in
      along e (having (room_top goal fs grade.Suffixed both_are.1 (omega arith)) sp both_are.1 (converted r (rw both_are.0 refl)))
  sound_extend goal fs g p w (sign.Open bracket.Round) st sp r on e =
      let both_are = both (nat_le 14 (rank g)) (reaches (hole_wanted goal fs) grade.Suffixed) on in
      along e (wanting refl (suffix_open sp both_are.1 r refl (rw both_are.0 refl)))
  sound_extend goal fs g p w (sign.Open bracket.Square) st sp r on e =
      let both_are = both (nat_le 14 (rank g)) (reaches (hole_wanted goal fs) grade.Suffixed) on in
      along e (wanting refl (suffix_open sp both_are.1 r refl (rw both_are.0 refl)))
  sound_extend goal fs g p w _ st sp r on e = cc

  -- what the next token comes to, with a form on the stack
  attach_ways : (goal : Hole) (f : Frame) (fs : List Frame) (g : Grade) (t : Raw) (x : Symbol) (st : ParseState) →
      attach limit goal (f ∷ fs) g t x ≡ Some st →
      ((goes_on (hole_of f) g x ≡ true) × (extend (f ∷ fs) g t x ≡ Some st))
      ⊎ ((goes_on (hole_of f) g x ≡ false) × (fits (hole_of f) g ≡ true)
      × (after_form (finished f t) (λ h u. attach limit goal fs h u x) (closed limit fs f g t x) ≡ Some st))
  attach_ways goal f fs g t x st e =
      elim (chosen (goes_on (hole_of f) g x) e) [
        | inl on ↦ inl on
        | inr off ↦ elim (chosen (fits (hole_of f) g) off.1) [ inl fit ↦ inr (off.0, fit.0, fit.1) | inr bad ↦ cc ]
      ]

  -- the form behind the names
  spelled_body : {goal : Hole} {s0 : List Item} {fs : List Frame} (c : Binding) {x : Symbol} {p : ℕ} {w : List ℕ} {m rest : List Item} {names : List RawBound} →
      Spelled goal s0 fs (item x p w ∷ m) → reaches (hole_wanted goal fs) (binding_grade c) ≡ true → opens x ≡ Some c → takes_names c ≡ true →
      Declares limit [] m names rest → Spelled goal s0 (binding_body c names [] p ∷ fs) rest
  spelled_body {goal} {s0} {fs} c {x} {p} {w} {m} {rest} {names} sp room is takes d = go (is_quantified c) refl
    where
      go : (v : Bool) → is_quantified c ≡ v → Spelled goal s0 (cond v (frame.Last c hole.Predicate (binder_of c) names [] p) (frame.Given c names [] p) ∷ fs) rest
      go true v = last_so_far sp room (inl refl) (λ t after l. by_names is takes d (a_predicate v l) refl)
      go false v = given_so_far sp room v (λ all after b. by_names is takes d b refl)

  sound_body : {goal : Hole} {s0 : List Item} {fs : List Frame} (c : Binding) {x : Symbol} {p : ℕ} {w : List ℕ} {m rest : List Item} {names : List RawBound} →
      Spelled goal s0 fs (item x p w ∷ m) → reaches (hole_wanted goal fs) (binding_grade c) ≡ true → opens x ≡ Some c → takes_names c ≡ true →
      Declares limit [] m names rest → Sound goal s0 (want (binding_body c names [] p ∷ fs)) rest
  sound_body {fs = fs} c {p = p} {names = names} sp room is takes d = wanting (body_formula c names p fs) (spelled_body c sp room is takes d)

  as_name : (g : Grade) {m rest : List Item} {t : Raw} → fits hole.Name g ≡ true → Reads limit g m t rest → NameRead m t rest
  as_name g {m} {rest} {t} f r = read_name (subst (λ j. Reads limit j m t rest) (fits_name g f) r)

  -- the names of a list with one more
  listed_more : {m rest after : List Item} (names : Bool) (before : List Raw) (g : Grade) (t : Raw) (y : Symbol) {q : ℕ} {v : List ℕ} →
      (names ≡ true → (bs : List RawBound) × (bounds_from before ≡ Some bs) × ((ns : List RawBound) (end : List Item) → Declares limit bs rest ns end → Declares limit [] m ns end)) →
      Reads limit g rest t (item y q v ∷ after) → (names && is_declaration g) ≡ true →
      (bs : List RawBound) × (b : RawBound) × (bounds_from (before ++ t ∷ []) ≡ Some (bs ++ b ∷ [])) × Bound limit rest b (item y q v ∷ after)
      × ((ns : List RawBound) (end : List Item) → Declares limit bs rest ns end → Declares limit [] m ns end)
  listed_more names before g t y k r d =
      let two = both names (is_declaration g) d in
      let old = k two.0 in
      let new = declared g two.1 r in
      (old.0, new.b, bounds_of-more before t old.0 new.b old.1 new.is, new.reads, old.2)

  module _ {goal : Hole} {s0 : List Item} (fs : List Frame) (st : ParseState) where
    close_group : {rest after : List Item} (h : Hole) (g : Grade) (t : Raw) (y : Symbol) {p q : ℕ} {w v : List ℕ} →
        Spelled goal s0 fs (item (sign.Open bracket.Round) p w ∷ rest) → reaches (hole_wanted goal fs) grade.Primary ≡ true → inside (hole_wanted goal fs) ≡ h →
        fits h g ≡ true → Reads limit g rest t (item y q v ∷ after) → closed limit fs (frame.Group h) g t y ≡ Some st → Sound goal s0 st after
    close_group h g t (sign.Close bracket.Round) sp room i fit r e = along e (having (room_top goal fs grade.Primary room (omega arith)) sp (group_fits (hole_wanted goal fs) g room (rw i fit)) (in_parentheses r refl))
    close_group h g t _ sp room i fit r e = cc

    close_parts : {m rest after : List Item} (c : Call) (o : RawOp) (before : List Raw) (g : Grade) (t : Raw) (y : Symbol) {p p' q : ℕ} {w w' v : List ℕ} →
        Spelled goal s0 fs (item (sign.Call c o) p w ∷ item (sign.Open bracket.Round) p' w' ∷ m) → reaches (hole_wanted goal fs) (call_grade c) ≡ true →
        ((all : List Raw) (after : List Item) → Parts limit (call_hole c) (call_parts limit c) bracket.Round before rest all after → Parts limit (call_hole c) (call_parts limit c) bracket.Round [] m all after) →
        fits (call_hole c) g ≡ true → Reads limit g rest t (item y q v ∷ after) → closed limit fs (frame.Parts c o before p) g t y ≡ Some st → Sound goal s0 st after
    close_parts c o before g t (sign.Close bracket.Round) sp room k fit r e = along e (having (room_top goal fs (call_grade c) room (call_low c)) sp room (called (k _ _ (last_one r fit)) refl))
    close_parts c o before g t sign.Comma {p} sp room k fit r e =
        guarded (has_room (call_parts limit c) (length (before ++ t ∷ []))) (want (frame.Parts c o (before ++ t ∷ []) p ∷ fs)) st e (λ d. wanting refl (parts_so_far sp room (λ all after ps. k all after (next_one d r fit ps))))
    close_parts c o before g t _ sp room k fit r e = cc

    close_suffix : {m rest after : List Item} {k : Grade} (b : Bracket) (o : RawOp) (f : Raw) (g : Grade) (t : Raw) (x y : Symbol) {p q : ℕ} {w v : List ℕ} →
        Spelled goal s0 fs m → reaches (hole_wanted goal fs) grade.Suffixed ≡ true →
        Reads limit k m f (item x p w ∷ rest) → suffix_of x ≡ Some (b, o) → suffixes hole.Operand k ≡ true →
        fits hole.Expression g ≡ true → Reads limit g rest t (item y q v ∷ after) → closed limit fs (frame.Suffixed b o f) g t y ≡ Some st → Sound goal s0 st after
    close_suffix bracket.Round o f g t x (sign.Close bracket.Round) sp room l is ready fit r e = along e (having (room_top goal fs grade.Suffixed room (omega arith)) sp room (applied l is ready r fit))
    close_suffix bracket.Square o f g t x (sign.Close bracket.Square) sp room l is ready fit r e = along e (having (room_top goal fs grade.Suffixed room (omega arith)) sp room (applied l is ready r fit))
    close_suffix _ o f g t x _ sp room l is ready fit r e = cc

    named_next : {m after : List Item} (c : Binding) (before : List RawBound) (n : List ℕ) (pn : ℕ) (x y : Symbol) {p q : ℕ} {w v : List ℕ} →
        Spelled goal s0 fs (item x p w ∷ m) → reaches (hole_wanted goal fs) (binding_grade c) ≡ true → opens x ≡ Some c → takes_names c ≡ true →
        ((names : List RawBound) (end : List Item) → Declares limit before (item sign.Word pn n ∷ item y q v ∷ after) names end → Declares limit [] m names end) →
        is_name n ≡ true → after_name fs c before p y (Some (n, pn)) ≡ Some st → Sound goal s0 st after
    named_next c before n pn x (sign.Infix lev.Typing o) sp room is takes k named e = along e (wanting refl (type_so_far sp room is takes k (λ t end d. of_type named d)))
    named_next c before n pn x sign.Comma sp room is takes k named e = along e (wanting refl (names_so_far sp room is takes (λ names end d. k names end (next_name (bare named) d))))
    named_next c before n pn x sign.Dot sp room is takes k named e = along e (sound_body c sp room is takes (k _ _ (last_name (bare named))))
    named_next c before n pn x _ sp room is takes k named e = cc

    close_names : {m rest after : List Item} (c : Binding) (before : List RawBound) (t : Raw) (x y : Symbol) {p q : ℕ} {w v : List ℕ} →
        Spelled goal s0 fs (item x p w ∷ m) → reaches (hole_wanted goal fs) (binding_grade c) ≡ true → opens x ≡ Some c → takes_names c ≡ true →
        ((names : List RawBound) (end : List Item) → Declares limit before rest names end → Declares limit [] m names end) →
        NameRead rest t (item y q v ∷ after) → after_name fs c before p y (plain_name_of t) ≡ Some st → Sound goal s0 st after
    close_names c before t x y {p} sp room is takes k (name_read {n} {p = pn} named) e =
        named_next c before n pn x y sp room is takes k named (rw (name_of-name n pn) at e)

    close_type : {m m' rest after : List Item} (c : Binding) (before : List RawBound) (n : List ℕ) (pn : ℕ) (side : Option Raw) (g : Grade) (t : Raw) (x y : Symbol) {p q : ℕ} {w v : List ℕ} →
        Spelled goal s0 fs (item x p w ∷ m) → reaches (hole_wanted goal fs) (binding_grade c) ≡ true → opens x ≡ Some c → takes_names c ≡ true →
        ((names : List RawBound) (end : List Item) → Declares limit before m' names end → Declares limit [] m names end) →
        ((t : Raw) (end : List Item) → TypeOf limit side rest t end → Bound limit m' (bound n pn (Some t)) end) →
        fits hole.Pair g ≡ true → Reads limit g rest t (item y q v ∷ after) → after_type fs c before n pn side t p y ≡ Some st → Sound goal s0 st after
    close_type c before n pn None g t x (sign.Infix lev.Typing o) sp room is takes k kt fit r e = along e (wanting refl (type_so_far sp room is takes k (λ u end d. kt u end (first_side r fit d))))
    close_type c before n pn (Some a) g t x (sign.Infix lev.Typing o) sp room is takes k kt fit r e = cc
    close_type c before n pn side g t x sign.Comma sp room is takes k kt fit r e =
        along e (wanting refl (names_so_far sp room is takes (λ names end d. k names end (next_name (kt _ _ (last_side r fit)) d))))
    close_type c before n pn side g t x sign.Dot sp room is takes k kt fit r e = along e (sound_body c sp room is takes (k _ _ (last_name (kt _ _ (last_side r fit)))))
    close_type c before n pn side g t x _ sp room is takes k kt fit r e = cc

    -- a type's second side in a list
    typed_next : {m rest after : List Item} (c : Binding) (bs : List RawBound) (t : Raw) (x : Symbol) (o : RawOp) {p q : ℕ} {w v : List ℕ} →
        Spelled goal s0 fs (item x p w ∷ m) → reaches (hole_wanted goal fs) (binding_grade c) ≡ true → opens x ≡ Some c → takes_names c ≡ true →
        ((names : List RawBound) (end : List Item) → Declares limit bs rest names end → Declares limit [] m names end) →
        TypedRead rest t (item (sign.Infix lev.Typing o) q v ∷ after) → type_next fs c (Some bs) (typed_name_of t) p ≡ Some st → Sound goal s0 st after
    typed_next c bs t x o {p} sp room is takes k (typed_read {o = o'} {n = n} {p = pn} {t = u} named r fit) e =
        let e' : Some (want (frame.TypeAfter c bs n pn (Some u) p ∷ fs)) ≡ Some st = rw (typed_name_of-between o' n pn u) at e in
        along e' (wanting refl (type_so_far sp room is takes k (λ z end d. of_type named (first_side r fit d))))

    type_in_list : {m rest after : List Item} (c : Binding) (bs : List RawBound) (g : Grade) (t : Raw) (x : Symbol) (o : RawOp) {p q : ℕ} {w v : List ℕ} →
        Spelled goal s0 fs (item x p w ∷ m) → reaches (hole_wanted goal fs) (binding_grade c) ≡ true → opens x ≡ Some c → takes_names c ≡ true →
        ((names : List RawBound) (end : List Item) → Declares limit bs rest names end → Declares limit [] m names end) →
        is_declaration g ≡ true → Reads limit g rest t (item (sign.Infix lev.Typing o) q v ∷ after) → type_next fs c (Some bs) (typed_name_of t) p ≡ Some st → Sound goal s0 st after
    type_in_list c bs grade.Declared t x o sp room is takes k d r e = typed_next c bs t x o sp room is takes k (read_typed r) e
    type_in_list c bs grade.Name t x o {p} sp room is takes k d r e = untyped_next fs st c bs t p (read_name r) e
    type_in_list c bs _ t x o sp room is takes k d r e = cc

    close_bar : {m rest after : List Item} (c : Binding) (before : List Raw) (g : Grade) (t : Raw) (x : Symbol) {p q : ℕ} {w v : List ℕ} →
        Spelled goal s0 fs (item x p w ∷ m) → reaches (hole_wanted goal fs) (binding_grade c) ≡ true → opens x ≡ Some c → takes_shape c ≡ true → (before ≡ [] → rest ≡ m) →
        fits hole.Expression g ≡ true → Reads limit g rest t (item sign.Bar q v ∷ after) → shape_next fs c before t p ≡ Some st → Sound goal s0 st after
    close_bar {after = after} c [] g t x {q = q} {v = v} sp room is takes first fit r e =
        let r' = subst (λ s. Reads limit g s t (item sign.Bar q v ∷ after)) (first refl) r in
        along e (wanting refl (last_so_far sp room (inl refl) (λ u end l. by_shape is takes r' fit l refl)))
    close_bar c (z ∷ before) g t x sp room is takes first fit r e = cc

    close_listed : {m rest after : List Item} (c : Binding) (names : Bool) (before : List Raw) (g : Grade) (t : Raw) (x y : Symbol) {p q : ℕ} {w v : List ℕ} →
        Spelled goal s0 fs (item x p w ∷ m) → reaches (hole_wanted goal fs) (binding_grade c) ≡ true → opens x ≡ Some c → takes_shape c ≡ true →
        (is_braced c ≡ true → (all : List Raw) (end : List Item) → Parts limit hole.Expression None bracket.Brace before rest all end → Parts limit hole.Expression None bracket.Brace [] m all end) →
        (names ≡ true → (bs : List RawBound) × (bounds_from before ≡ Some bs) × ((ns : List RawBound) (end : List Item) → Declares limit bs rest ns end → Declares limit [] m ns end)) →
        (before ≡ [] → rest ≡ m) →
        fits hole.Expression g ≡ true → Reads limit g rest t (item y q v ∷ after) → after_member fs c (names && is_declaration g) before p t y ≡ Some st → Sound goal s0 st after
    close_listed c names before g t x sign.Comma {p} sp room is takes kp kn first fit r e =
        elim (chosen (is_braced c) e) [
          | inl w ↦ along w.1 (wanting refl (listed_so_far sp room is takes
              (λ ic all end ps. kp ic all end (next_one refl r fit ps))
              (λ d. (let n = listed_more names before g t sign.Comma kn r d in (n.0 ++ n.1 ∷ [], n.2, λ ns end ds. n.4 ns end (next_name n.3 ds))))
              (λ empty. snoc_some before t empty) (λ reaches_on. (let closes = w.0 in cc))))
          | inr w ↦ elim (chosen (names && is_declaration g) w.1) [
            | inl u ↦ (
                let n = listed_more names before g t sign.Comma kn r u.0 in
                let e' : Some (want (frame.Names c (n.0 ++ n.1 ∷ []) p ∷ fs)) ≡ Some st = rw n.2 at u.1 in
                along e' (wanting refl (names_so_far sp room is (shape_names c takes) (λ ns end ds. n.4 ns end (next_name n.3 ds)))))
            | inr u ↦ cc
          ]
        ]
    close_listed c names before g t x (sign.Close bracket.Brace) {p} sp room is takes kp kn first fit r e =
        guarded (is_braced c) (have fs grade.Primary (raw.Node (rawop.Plain op.SetExtension) (before ++ t ∷ []) p)) st e
        (λ d. (
        let set : c ≡ binding.Set = closed_set c d in
        having (room_top goal fs (binding_grade c) room (binding_low c)) sp (subst (λ k. reaches (hole_wanted goal fs) (binding_grade k) ≡ true) set room) (set_by_members (is ∙ ap Some set) (kp d _ _ (last_one r fit)))))
    close_listed c names before g t x sign.Bar sp room is takes kp kn first fit r e = close_bar c before g t x sp room is takes first fit r e
    close_listed c names before g t x sign.Dot {p} sp room is takes kp kn first fit r e =
        elim (chosen (names && is_declaration g) e) [
          | inl u ↦ (
              let n = listed_more names before g t sign.Dot kn r u.0 in
              let e' : Some (want (binding_body c (n.0 ++ n.1 ∷ []) [] p ∷ fs)) ≡ Some st = rw n.2 at u.1 in
              along e' (sound_body c sp room is (shape_names c takes) (n.4 _ _ (last_name n.3))))
          | inr u ↦ cc
        ]
    close_listed c names before g t x (sign.Infix lev.Typing o) {p} sp room is takes kp kn first fit r e =
        elim (chosen (names && is_declaration g) e) [
          | inl u ↦ (
              let two = both names (is_declaration g) u.0 in
              let old = kn two.0 in
              type_in_list c old.0 g t x o sp room is (shape_names c takes) old.2 two.1 r (rw old.1 at u.1))
          | inr u ↦ cc
        ]
    close_listed c names before g t x _ sp room is takes kp kn first fit r e = cc

    close_given : {m rest after : List Item} (c : Binding) (names : List RawBound) (parts : List Raw) (g : Grade) (t : Raw) (y : Symbol) {p q : ℕ} {v : List ℕ} →
        Spelled goal s0 fs m → reaches (hole_wanted goal fs) (binding_grade c) ≡ true → is_quantified c ≡ false →
        ((all : List Raw) (end : List Item) → BinderBody limit c parts rest all end → Reads limit (binding_grade c) m (raw.Bind (binder_of c) names all p) end) →
        fits hole.Predicate g ≡ true → Reads limit g rest t (item y q v ∷ after) → closed limit fs (frame.Given c names parts p) g t y ≡ Some st → Sound goal s0 st after
    close_given c names parts g t sign.Bar sp room is k fit r e = along e (wanting refl (last_so_far sp room (inr refl) (λ u end l. k _ _ (a_value is r fit l))))
    close_given c names parts g t _ sp room is k fit r e = cc

    close_last : {m rest after : List Item} (c : Binding) (h : Hole) (b : RawBinder) (names : List RawBound) (parts : List Raw) (g : Grade) (t : Raw) (y : Symbol) {p q : ℕ} {v : List ℕ} →
        Spelled goal s0 fs m → reaches (hole_wanted goal fs) (binding_grade c) ≡ true →
        ((t : Raw) (end : List Item) → LastPart limit c h rest t end → Reads limit (binding_grade c) m (raw.Bind b names (parts ++ t ∷ []) p) end) →
        is_braced c ≡ true → fits h g ≡ true → Reads limit g rest t (item y q v ∷ after) → closed limit fs (frame.Last c h b names parts p) g t y ≡ Some st → Sound goal s0 st after
    close_last c h b names parts g t (sign.Close bracket.Brace) sp room k is fit r e = along e (having (room_top goal fs (binding_grade c) room (binding_low c)) sp room (k t _ (up_to_brace is r fit)))
    close_last c h b names parts g t _ sp room k is fit r e = cc

  -- what follows a pattern
  sound_shape : (goal : Hole) {s0 m after : List Item} (inner : Bool) (before : Option Shape) (p : ℕ) (fs : List Frame) (a : Shape) (y : Symbol) (st : ParseState) {q : ℕ} {v : List ℕ} →
      Spelled goal s0 (frame.Pattern inner before p ∷ fs) m → Atom limit m a (item y q v ∷ after) → after_shape fs inner (joined_shape before a) p y ≡ Some st → Sound goal s0 st after
  sound_shape goal inner before p fs a (sign.Infix lev.Maplet o) st (pattern_so_far sp room k) r e = along e (pattern_wanted (pattern_so_far sp room (λ b end d. k b end (next_atom r d))))
  sound_shape goal inner before p fs a (sign.Infix lev.Maplet o) st (inner_so_far sp k) r e = along e (pattern_wanted (inner_so_far sp (λ b end d. k b end (next_atom r d))))
  sound_shape goal inner before p fs a (sign.Close bracket.Round) st (pattern_so_far sp room k) r e = cc
  sound_shape goal inner before p fs a (sign.Close bracket.Round) st (inner_so_far sp k) r e = along e (pattern_read sp (grouped_atom (k _ _ (last_atom r))))
  sound_shape goal inner before p fs a sign.Dot st (pattern_so_far sp room k) r e = along e (wanting refl (given_so_far sp room refl (λ all end b. lambda (k _ _ (last_atom r)) b)))
  sound_shape goal inner before p fs a sign.Dot st (inner_so_far sp k) r e = cc
  sound_shape goal inner before p fs a _ st sp r e = cc

  pub sound_attach : (goal : Hole) {s0 m after : List Item} (fs : List Frame) (g : Grade) (t : Raw) (y : Symbol) (q : ℕ) (v : List ℕ) (st : ParseState) →
      Spelled goal s0 fs m → Reads limit g m t (item y q v ∷ after) → attach limit goal fs g t y ≡ Some st → Sound goal s0 st after
  sound_attach goal fs g t y q v st nothing r e =
      elim (chosen (goes_on goal g y) e) [ inl on ↦ sound_extend goal [] g q v y st nothing r on.0 on.1 | inr off ↦ cc ]
  sound_attach goal (f ∷ fs) g t y q v st (left_side {k = k} {l = l} {o = o} {a = a} sp room left is takes lv) r e =
      elim (attach_ways goal f fs g t y st e) [
        | inl on ↦ sound_extend goal (f ∷ fs) g q v y st (left_side sp room left is takes lv) r on.0 on.1
        | inr w ↦ sound_attach goal fs k (between o a t) y q v st sp (two_sides left is takes r w.1 w.0 lv) w.2
      ]
  sound_attach goal (f ∷ fs) g t y q v st (operand {q = o} {p = p} sp room is) r e =
      elim (attach_ways goal f fs g t y st e) [
        | inl on ↦ sound_extend goal (f ∷ fs) g q v y st (operand sp room is) r on.0 on.1
        | inr w ↦ sound_attach goal fs (prefix_grade o) (raw.Node (prefix_op o) (t ∷ []) p) y q v st sp (prefixed is r w.1 w.0 refl) w.2
      ]
  sound_attach goal (f ∷ fs) g t y q v st (group_open {h = h} sp room i) r e =
      elim (attach_ways goal f fs g t y st e) [
        | inl on ↦ sound_extend goal (f ∷ fs) g q v y st (group_open sp room i) r on.0 on.1
        | inr w ↦ close_group fs st h g t y sp room i w.1 r w.2
      ]
  sound_attach goal (f ∷ fs) g t y q v st (parts_so_far {c = c} {o = o} {before = before} sp room k) r e =
      elim (attach_ways goal f fs g t y st e) [
        | inl on ↦ sound_extend goal (f ∷ fs) g q v y st (parts_so_far sp room k) r on.0 on.1
        | inr w ↦ close_parts fs st c o before g t y sp room k w.1 r w.2
      ]
  sound_attach goal (f ∷ fs) g t y q v st (suffix_open {b = b} {o = o} {x = x} {f = u} sp room left is ready) r e =
      elim (attach_ways goal f fs g t y st e) [
        | inl on ↦ sound_extend goal (f ∷ fs) g q v y st (suffix_open sp room left is ready) r on.0 on.1
        | inr w ↦ close_suffix fs st b o u g t x y sp room left is ready w.1 r w.2
      ]
  sound_attach goal (f ∷ fs) g t y q v st (names_so_far {c = c} {x = x} {before = before} sp room is takes k) r e =
      elim (attach_ways goal f fs g t y st e) [
        | inl on ↦ sound_extend goal (f ∷ fs) g q v y st (names_so_far sp room is takes k) r on.0 on.1
        | inr w ↦ close_names fs st c before t x y sp room is takes k (as_name g w.1 r) w.2
      ]
  sound_attach goal (f ∷ fs) g t y q v st (type_so_far {c = c} {x = x} {before = before} {n = n} {pn = pn} {side = side} sp room is takes k kt) r e =
      elim (attach_ways goal f fs g t y st e) [
        | inl on ↦ sound_extend goal (f ∷ fs) g q v y st (type_so_far sp room is takes k kt) r on.0 on.1
        | inr w ↦ close_type fs st c before n pn side g t x y sp room is takes k kt w.1 r w.2
      ]
  sound_attach goal (f ∷ fs) g t y q v st (listed_so_far {c = c} {x = x} {names = names} {before = before} sp room is takes kp kn first none) r e =
      elim (attach_ways goal f fs g t y st e) [
        | inl on ↦ sound_extend goal (f ∷ fs) g q v y st (listed_so_far sp room is takes kp kn first none) r on.0 on.1
        | inr w ↦ close_listed fs st c names before g t x y sp room is takes kp kn first w.1 r w.2
      ]
  sound_attach goal (f ∷ fs) g t y q v st (given_so_far {c = c} {names = names} {parts = parts} sp room is k) r e =
      elim (attach_ways goal f fs g t y st e) [
        | inl on ↦ sound_extend goal (f ∷ fs) g q v y st (given_so_far sp room is k) r on.0 on.1
        | inr w ↦ close_given fs st c names parts g t y sp room is k w.1 r w.2
      ]
  sound_attach goal (f ∷ fs) g t y q v st (last_so_far {c = c} {h = h} {b = b} {names = names} {parts = parts} {p = p} sp room sort k) r e =
      elim (attach_ways goal f fs g t y st e) [
        | inl on ↦ sound_extend goal (f ∷ fs) g q v y st (last_so_far sp room sort k) r on.0 on.1
        | inr w ↦ elim (ways (is_braced c)) [
          | inl yes' ↦ close_last fs st c h b names parts g t y sp room k yes' w.1 r (rw yes' at w.2)
          | inr no' ↦ sound_attach goal fs (binding_grade c) (raw.Bind b names (parts ++ t ∷ []) p) y q v st sp (k t _ (reaching no' r w.1 w.0)) (rw no' at w.2)
        ]
      ]
  sound_attach goal (f ∷ fs) g t y q v st (pattern_so_far sp room k) r e =
      elim (attach_ways goal f fs g t y st e) [
        | inl on ↦ sound_extend goal (f ∷ fs) g q v y st (pattern_so_far sp room k) r on.0 on.1
        | inr w ↦ cc
      ]
  sound_attach goal (f ∷ fs) g t y q v st (inner_so_far sp k) r e =
      elim (attach_ways goal f fs g t y st e) [
        | inl on ↦ sound_extend goal (f ∷ fs) g q v y st (inner_so_far sp k) r on.0 on.1
        | inr w ↦ cc
      ]
  sound_attach goal (f ∷ frame.Pattern inner outer p ∷ fs) g t y q v st (pattern_type {n = n} {pn = pn} sp named) r e =
      elim (attach_ways goal f (frame.Pattern inner outer p ∷ fs) g t y st e) [
        | inl on ↦ sound_extend goal (f ∷ frame.Pattern inner outer p ∷ fs) g q v y st (pattern_type sp named) r on.0 on.1
        | inr w ↦ sound_shape goal inner outer p fs (lone n pn (Some t)) y st sp (typed_atom named r w.1 w.0) w.2
      ]

  -- the first token of a formula
  pub sound_begin : (goal : Hole) {s0 rest : List Item} (fs : List Frame) (p : ℕ) (w : List ℕ) (x : Symbol) (st : ParseState) → reads_formula fs ≡ true →
      Spelled goal s0 fs (item x p w ∷ rest) → begin (hole_wanted goal fs) fs p w x ≡ Some st → Sound goal s0 st rest
  sound_begin goal fs p w sign.Word st top sp e = guarded (is_name w) (have fs grade.Name (raw.Name w p)) st e (λ d. having top sp (name_reaches (hole_wanted goal fs)) (a_name d))
  sound_begin goal fs p w (sign.Number n) st top sp e = guarded (reaches (hole_wanted goal fs) grade.Primary) (have fs grade.Primary (raw.Int n p)) st e (λ d. having top sp d a_number)
  sound_begin goal fs p w (sign.Truth o) st top sp e = guarded (reaches (hole_wanted goal fs) grade.Literal) (have fs grade.Literal (raw.Node (rawop.Plain o) [] p)) st e (λ d. having top sp d a_truth)
  sound_begin goal fs p w (sign.Constant o) st top sp e = guarded (reaches (hole_wanted goal fs) grade.Primary) (have fs grade.Primary (raw.Node (rawop.Plain o) [] p)) st e (λ d. having top sp d a_constant)
  sound_begin goal fs p w (sign.Call c o) st top sp e = guarded (reaches (hole_wanted goal fs) (call_grade c)) (calling fs c o p) st e (λ d. word_read sp d)
  sound_begin goal fs p w sign.Not st top sp e = guarded (reaches (hole_wanted goal fs) grade.Literal) (want (frame.Prefixed prefix.Not p ∷ fs)) st e (λ d. wanting refl (operand sp d refl))
  sound_begin goal fs p w sign.Minus st top sp e = guarded (reaches (hole_wanted goal fs) grade.Negative) (want (frame.Prefixed prefix.Minus p ∷ fs)) st e (λ d. wanting refl (operand sp d refl))
  sound_begin goal fs p w (sign.Open bracket.Round) st top sp e = guarded (reaches (hole_wanted goal fs) grade.Primary) (want (frame.Group (inside (hole_wanted goal fs)) ∷ fs)) st e (λ d. wanting refl (group_open sp d refl))
  sound_begin goal fs p w (sign.Open bracket.Brace) st top sp e =
      guarded (reaches (hole_wanted goal fs) grade.Primary) (want (frame.Listed binding.Set true [] p ∷ fs)) st e (λ d. wanting refl (listed_so_far sp d refl refl (λ ic all end ps. ps) (λ d. ([], refl, λ ns end ds. ds)) (λ z. refl) (λ z. refl)))
  sound_begin goal fs p w (sign.Binder binding.Set) st top sp e =
      guarded (reaches (hole_wanted goal fs) grade.Primary) (want (frame.Listed binding.Set true [] p ∷ fs)) st e (λ d. wanting refl (listed_so_far sp d refl refl (λ ic all end ps. ps) (λ d. ([], refl, λ ns end ds. ds)) (λ z. refl) (λ z. refl)))
  sound_begin goal fs p w (sign.Binder (binding.Reaching b)) st top sp e =
      guarded (reaches (hole_wanted goal fs) grade.Reaching) (want (frame.Listed (binding.Reaching b) true [] p ∷ fs)) st e (λ d. wanting refl (listed_so_far sp d refl refl (λ ic all end ps. ps) (λ d. ([], refl, λ ns end ds. ds)) (λ z. refl) (λ z. refl)))
  sound_begin goal fs p w (sign.Binder (binding.Quantified b)) st top sp e =
      guarded (reaches (hole_wanted goal fs) grade.Literal) (want (frame.Names (binding.Quantified b) [] p ∷ fs)) st e (λ d. wanting refl (names_so_far sp d refl refl (λ ns end ds. ds)))
  sound_begin goal fs p w (sign.Binder binding.Lambda) st top sp e =
      guarded (reaches (hole_wanted goal fs) grade.Reaching) (shape_want (frame.Pattern false None p ∷ fs)) st e (λ d. pattern_wanted (pattern_so_far sp d (λ a end ds. ds)))
  sound_begin goal fs p w _ st top sp e = cc

  sound_call : (goal : Hole) {s0 rest : List Item} (fs : List Frame) (c : Call) (o : RawOp) (p q : ℕ) (w v : List ℕ) (y : Symbol) (st : ParseState) →
      Spelled goal s0 fs (item (sign.Call c o) p w ∷ item y q v ∷ rest) → reaches (hole_wanted goal fs) (call_grade c) ≡ true → call_word fs c o p y ≡ Some st → Sound goal s0 st rest
  sound_call goal fs c o p q w v (sign.Open bracket.Round) st sp room e = along e (wanting refl (parts_so_far sp room (λ all end ps. ps)))
  sound_call goal fs c o p q w v _ st sp room e = cc

  sound_begin_shape : (goal : Hole) {s0 rest : List Item} (inner : Bool) (outer : Option Shape) (r : ℕ) (fs : List Frame) (p : ℕ) (w : List ℕ) (x : Symbol) (st : ParseState) →
      Spelled goal s0 (frame.Pattern inner outer r ∷ fs) (item x p w ∷ rest) → begin_shape (frame.Pattern inner outer r ∷ fs) p w x ≡ Some st → Sound goal s0 st rest
  sound_begin_shape goal inner outer r fs p w sign.Word st sp e = guarded (is_name w) (shape_name (frame.Pattern inner outer r ∷ fs) w p) st e (λ d. pattern_named sp d)
  sound_begin_shape goal inner outer r fs p w (sign.Open bracket.Round) st sp e = along e (pattern_wanted (inner_so_far sp (λ a end ds. ds)))
  sound_begin_shape goal inner outer r fs p w _ st sp e = cc

  sound_named : (goal : Hole) {s0 rest : List Item} (inner : Bool) (outer : Option Shape) (r : ℕ) (fs : List Frame) (n : List ℕ) (p q : ℕ) (v : List ℕ) (y : Symbol) (st : ParseState) →
      Spelled goal s0 (frame.Pattern inner outer r ∷ fs) (item sign.Word p n ∷ item y q v ∷ rest) → is_name n ≡ true →
      cond (is_typing y) (Some (want (frame.PatternType n p ∷ frame.Pattern inner outer r ∷ fs))) (shape_step (frame.Pattern inner outer r ∷ fs) (lone n p None) y) ≡ Some st → Sound goal s0 st rest
  sound_named goal inner outer r fs n p q v (sign.Infix lev.Typing o) st sp named e = along e (wanting refl (pattern_type sp named))
  sound_named goal inner outer r fs n p q v y st sp named e = sound_shape goal inner outer r fs (lone n p None) y st sp (bare_atom named) e

  -- each step keeps the state right
  pub sound_step : (goal : Hole) {s0 rest : List Item} (st : ParseState) (x : Item) (new : ParseState) →
      Sound goal s0 st (x ∷ rest) → step limit goal st x ≡ Some new → Sound goal s0 new rest
  sound_step goal st x new (wanting {fs} top sp) e = sound_begin goal fs x.from x.text x.symbol new top sp e
  sound_step goal st x new (having {fs} {g} {t} top sp room r) e = sound_attach goal fs g t x.symbol x.from x.text new sp r e
  sound_step goal st x new (word_read {fs} {c} {o} {p} {w} sp room) e = sound_call goal fs c o p x.from w x.text x.symbol new sp room e
  sound_step goal st x new (pattern_wanted {fs} {inner} {outer} {q} sp) e = sound_begin_shape goal inner outer q fs x.from x.text x.symbol new sp e
  sound_step goal st x new (pattern_named {fs} {inner} {outer} {n} {p} {q} sp named) e = sound_named goal inner outer q fs n p x.from x.text x.symbol new sp named e
  sound_step goal st x new (pattern_read {fs} {inner} {outer} {a} {q} sp r) e = sound_shape goal inner outer q fs a x.symbol new sp r e

  -- the formula is complete before the tokens that are left
  pub record IsComplete (goal : Hole) (s0 : List Item) (u : Raw) (rest : List Item) : Type 0 where
    pub g : Grade
    pub reads : Reads limit g s0 u rest
    pub fit : fits goal g ≡ true

  -- where nothing goes on
  sound_complete : (goal : Hole) {s0 m rest : List Item} (fs : List Frame) (g : Grade) (t u : Raw) → ((h : Hole) (k : Grade) → Ends h k rest) →
      Spelled goal s0 fs m → Reads limit g m t rest → complete goal fs g t ≡ Some u → IsComplete goal s0 u rest
  sound_complete goal {s0} {rest = rest} fs g t u off nothing r e =
      elim (chosen (fits goal g) e) [ inl y ↦ (let e' : t ≡ u = cc in subst (λ v. IsComplete goal s0 v rest) e' (record { g = g; reads = r; fit = y.0 })) | inr n ↦ cc ]
  sound_complete goal (f ∷ fs) g t u off (left_side {k = k} {l = l} {o = o} {a = a} sp room left is takes lv) r e =
      let w = complete_ways goal f fs g t u e in sound_complete goal fs k (between o a t) u off sp (two_sides left is takes r w.0 (off (right_of l) g) lv) w.1
  sound_complete goal (f ∷ fs) g t u off (operand {q = o} {p = p} sp room is) r e =
      let w = complete_ways goal f fs g t u e in sound_complete goal fs (prefix_grade o) (raw.Node (prefix_op o) (t ∷ []) p) u off sp (prefixed is r w.0 (off (prefix_hole o) g) refl) w.1
  sound_complete goal (f ∷ fs) g t u off (last_so_far {c = c} {h = h} {b = b} {names = names} {parts = parts} {p = p} sp room sort k) r e =
      elim (ways (is_braced c)) [
        | inl yes' ↦ unfinished goal f fs g t u (rw yes' refl) e
        | inr no' ↦ (
            let w = complete_ways goal f fs g t u e in
            sound_complete goal fs (binding_grade c) (raw.Bind b names (parts ++ t ∷ []) p) u off sp (k t _ (reaching no' r w.0 (off h g))) (rw no' at w.1))
      ]
  sound_complete goal (f ∷ fs) g t u off (group_open sp room i) r e = unfinished goal f fs g t u refl e
  sound_complete goal (f ∷ fs) g t u off (parts_so_far sp room k) r e = unfinished goal f fs g t u refl e
  sound_complete goal (f ∷ fs) g t u off (suffix_open sp room left is ready) r e = unfinished goal f fs g t u refl e
  sound_complete goal (f ∷ fs) g t u off (names_so_far sp room is takes k) r e = unfinished goal f fs g t u refl e
  sound_complete goal (f ∷ fs) g t u off (type_so_far sp room is takes k kt) r e = unfinished goal f fs g t u refl e
  sound_complete goal (f ∷ fs) g t u off (listed_so_far sp room is takes kp kn first none) r e = unfinished goal f fs g t u refl e
  sound_complete goal (f ∷ fs) g t u off (given_so_far sp room is k) r e = unfinished goal f fs g t u refl e
  sound_complete goal (f ∷ fs) g t u off (pattern_so_far sp room k) r e = unfinished goal f fs g t u refl e
  sound_complete goal (f ∷ fs) g t u off (inner_so_far sp k) r e = unfinished goal f fs g t u refl e
  sound_complete goal (f ∷ fs) g t u off (pattern_type sp named) r e = unfinished goal f fs g t u refl e

  pub sound_stop : (goal : Hole) {s0 rest : List Item} (st : ParseState) (u : Raw) → ((h : Hole) (k : Grade) → Ends h k rest) →
      Sound goal s0 st rest → ended goal st ≡ Some u → IsComplete goal s0 u rest
  sound_stop goal st u off (having {fs} {g} {t} top sp room r) e = sound_complete goal fs g t u off sp r e
  sound_stop goal st u off (wanting top sp) e = cc
  sound_stop goal st u off (word_read sp room) e = cc
  sound_stop goal st u off (pattern_wanted sp) e = cc
  sound_stop goal st u off (pattern_named sp named) e = cc
  sound_stop goal st u off (pattern_read sp r) e = cc

  pub sound_end : (goal : Hole) {s0 : List Item} (st : ParseState) (u : Raw) → Sound goal s0 st [] → ended goal st ≡ Some u → Spells limit goal s0 u
  sound_end goal st u ok e = let w = sound_stop goal st u (λ _ _. tt) ok e in record { g = w.g; reads = w.reads; fit = w.fit }
