-- The limit of a partition's parts, met by the state behind the comma.
use Rattle.std.proofs.Common.{◌≡◌, ℕ, ◌<◌, List, [], ◌∷◌, ◌++◌, Bool, true, false, ◌&&◌, cond, Option, Some, None, refl, arith, length, length-append, nat_le, nat_lt}
use Rattle.std.proofs.lemmas.Bool.Decides.{nat_tests}
use Rattle.formula_core.specs.Names.{is_name}
use Rattle.formula_core.specs.declared.raw.RawOp.{RawOp}
use Rattle.formula_core.specs.declared.raw.RawBound.{RawBound}
use Rattle.formula_core.specs.declared.raw.Raw.{Raw}
use Rattle.math_grammar.specs.declared.holes.Grade.{Grade}
use Rattle.math_grammar.specs.declared.holes.Hole.{Hole}
use Rattle.math_grammar.specs.declared.holes.Hole.TheVariants as hole
use Rattle.math_grammar.specs.declared.levels.Level.{Level}
use Rattle.math_grammar.specs.declared.levels.Level.TheVariants as lev
use Rattle.math_grammar.specs.declared.levels.Bracket.{Bracket}
use Rattle.math_grammar.specs.declared.levels.Bracket.TheVariants as bracket
use Rattle.math_grammar.specs.declared.levels.Call.{Call}
use Rattle.math_grammar.specs.declared.levels.Call.TheVariants as call
use Rattle.math_grammar.specs.declared.levels.Binding.{Binding}
use Rattle.math_grammar.specs.declared.levels.Binding.TheVariants as binding
use Rattle.math_grammar.specs.declared.symbols.Symbol.{Symbol}
use Rattle.math_grammar.specs.declared.symbols.Symbol.TheVariants as sign
use Rattle.math_grammar.specs.declared.shapes.Shape.{Shape}
use Rattle.math_grammar.specs.Levels.{goes_on, fits, suffix_of, is_typing, is_declaration, is_quantified, is_braced, binder_of, call_parts, has_room}
use Rattle.math_grammar.specs.Tokens.{Item}
use Rattle.math_grammar.specs.Grammar.{bound, lone, joined_shape, type_with}
use Rattle.formula_parse.specs.declared.frames.Frame.{Frame}
use Rattle.formula_parse.specs.declared.frames.Frame.TheVariants as frame
use Rattle.formula_parse.specs.Limits.{most_parts}
use Rattle.formula_parse.specs.Machine.{hole_of, hole_wanted, ParseState, want, have, calling, shape_want, shape_name, shape_have, only_if, then_want, plain_name_of, typed_name_of, bounds_from, binding_body, binding_opened, begin, extend_infix, extend_suffix, extend, finished, after_names, after_name, second_side, after_type, names_next, type_next, shape_next, after_member, after_shape, shape_step, closed, after_form, attach, call_word, begin_shape, step, is_full_frame, is_full}
use Rattle.formula_parse.proofs.Readers.{unless_full}

-- what is left of a step within the limit
abbrev pub small : Option ParseState → Option ParseState
small = unless_full is_full

-- nothing is taken away
abbrev IsLean : Option ParseState → Type 0
IsLean o = o ≡ small o

lean_some : (st : ParseState) → is_full st ≡ false → IsLean (Some st)
lean_some st e = rw e refl

lean_if : (b : Bool) (st : ParseState) → is_full st ≡ false → IsLean (only_if b st)
lean_if true st e = rw e refl
lean_if false st e = refl

lean_cond : (b : Bool) (x y : Option ParseState) → IsLean x → IsLean y → IsLean (cond b x y)
lean_cond true x y e f = e
lean_cond false x y e f = f

body_free : (c : Binding) (names : List RawBound) (parts : List Raw) (p : ℕ) → is_full_frame (binding_body c names parts p) ≡ false
body_free c names parts p = go (is_quantified c)
  where
    go : (v : Bool) → is_full_frame (cond v (frame.Last c hole.Predicate (binder_of c) names parts p) (frame.Given c names parts p)) ≡ false
    go true = refl
    go false = refl

lean_names : (fs : List Frame) (c : Binding) (names : List RawBound) (p : ℕ) (x : Symbol) → IsLean (then_want fs (after_names c names p x))
lean_names fs c names p sign.Comma = refl
lean_names fs c names p sign.Dot = lean_some (want (binding_body c names [] p ∷ fs)) (body_free c names [] p)
lean_names fs c names p _ = refl

lean_name : (fs : List Frame) (c : Binding) (before : List RawBound) (p : ℕ) (x : Symbol) (o : Option (List ℕ × ℕ)) → IsLean (after_name fs c before p x o)
lean_name fs c before p x None = refl
lean_name fs c before p x (Some n) =
    lean_cond (is_typing x) (Some (want (frame.TypeAfter c before n.0 n.1 None p ∷ fs))) (then_want fs (after_names c (before ++ bound n.0 n.1 None ∷ []) p x)) refl
    (lean_names fs c (before ++ bound n.0 n.1 None ∷ []) p x)

lean_side : (fs : List Frame) (c : Binding) (before : List RawBound) (n : List ℕ) (pn : ℕ) (side : Option Raw) (t : Raw) (p : ℕ) → IsLean (second_side fs c before n pn side t p)
lean_side fs c before n pn None t p = refl
lean_side fs c before n pn (Some a) t p = refl

lean_type : (fs : List Frame) (c : Binding) (before : List RawBound) (n : List ℕ) (pn : ℕ) (side : Option Raw) (t : Raw) (p : ℕ) (x : Symbol) → IsLean (after_type fs c before n pn side t p x)
lean_type fs c before n pn side t p x =
    lean_cond (is_typing x) (second_side fs c before n pn side t p) (then_want fs (after_names c (before ++ bound n pn (Some (type_with side t)) ∷ []) p x))
    (lean_side fs c before n pn side t p) (lean_names fs c (before ++ bound n pn (Some (type_with side t)) ∷ []) p x)

lean_next : (fs : List Frame) (c : Binding) (o : Option (List RawBound)) (p : ℕ) (x : Symbol) → IsLean (names_next fs c o p x)
lean_next fs c None p x = refl
lean_next fs c (Some names) p x = lean_names fs c names p x

lean_typed : (fs : List Frame) (c : Binding) (o : Option (List RawBound)) (n : Option (List ℕ × ℕ × Raw)) (p : ℕ) → IsLean (type_next fs c o n p)
lean_typed fs c (Some before) (Some n) p = refl
lean_typed fs c (Some before) None p = refl
lean_typed fs c None n p = refl

lean_shape : (fs : List Frame) (c : Binding) (before : List Raw) (t : Raw) (p : ℕ) → IsLean (shape_next fs c before t p)
lean_shape fs c [] t p = refl
lean_shape fs c (z ∷ before) t p = refl

lean_member : (fs : List Frame) (c : Binding) (names : Bool) (before : List Raw) (p : ℕ) (t : Raw) (x : Symbol) → IsLean (after_member fs c names before p t x)
lean_member fs c names before p t sign.Comma =
    lean_cond (is_braced c) (Some (want (frame.Listed c names (before ++ t ∷ []) p ∷ fs))) (cond names (names_next fs c (bounds_from (before ++ t ∷ [])) p sign.Comma) None) refl
    (lean_cond names (names_next fs c (bounds_from (before ++ t ∷ [])) p sign.Comma) None (lean_next fs c (bounds_from (before ++ t ∷ [])) p sign.Comma) refl)
lean_member fs c names before p t (sign.Close bracket.Brace) = lean_if (is_braced c) (have fs _ _) refl
lean_member fs c names before p t sign.Bar = lean_shape fs c before t p
lean_member fs c names before p t sign.Dot = lean_cond names (names_next fs c (bounds_from (before ++ t ∷ [])) p sign.Dot) None (lean_next fs c (bounds_from (before ++ t ∷ [])) p sign.Dot) refl
lean_member fs c names before p t (sign.Infix lev.Typing o) = lean_cond names (type_next fs c (bounds_from before) (typed_name_of t) p) None (lean_typed fs c (bounds_from before) (typed_name_of t) p) refl
lean_member fs c names before p t _ = refl

lean_after : (fs : List Frame) (inner : Bool) (a : Shape) (p : ℕ) (x : Symbol) → IsLean (after_shape fs inner a p x)
lean_after fs inner a p (sign.Infix lev.Maplet o) = refl
lean_after fs inner a p (sign.Close bracket.Round) = lean_if inner (shape_have fs a) refl
lean_after fs inner a p sign.Dot = lean_cond inner None (Some (want (frame.Given binding.Lambda a.names (a.tree ∷ []) p ∷ fs))) refl refl
lean_after fs inner a p _ = refl

lean_pattern : (fs : List Frame) (a : Shape) (x : Symbol) → IsLean (shape_step fs a x)
lean_pattern [] a x = refl
lean_pattern (frame.Pattern inner before p ∷ fs) a x = lean_after fs inner (joined_shape before a) p x
lean_pattern (_ ∷ fs) a x = refl

none_left : (n : ℕ) (st : ParseState) → 0 < n → only_if (nat_lt n 1) st ≡ small (only_if (nat_lt n 1) st)
none_left n st some = go (nat_lt n 1) refl
  where
    go : (v : Bool) → nat_lt n 1 ≡ v → only_if v st ≡ small (only_if v st)
    go true a = absurd (grind (arith, nat_tests))
    go false a = refl

-- a comma behind a part
room_comma : (c : Call) (n : ℕ) (st : ParseState) → is_full st ≡ nat_le 25 n → 0 < n → only_if (has_room (call_parts most_parts c) n) st ≡ small (only_if (has_room (call_parts None c) n) st)
room_comma call.Partition n st e some = rw e (go (nat_lt n 25) refl (nat_le 25 n) refl)
  where
    go : (v : Bool) → nat_lt n 25 ≡ v → (w : Bool) → nat_le 25 n ≡ w → only_if v st ≡ cond w None (Some st)
    go true a true b = absurd (grind (arith, nat_tests))
    go true a false b = refl
    go false a true b = refl
    go false a false b = absurd (grind (arith, nat_tests))
room_comma call.Finite n st e some = none_left n st some
room_comma call.Bool n st e some = none_left n st some
room_comma call.Function n st e some = none_left n st some

some_parts : (before : List Raw) (t : Raw) → 0 < length (before ++ t ∷ [])
some_parts before t = omega (arith, length-append before (t ∷ []))

small_closed : (fs : List Frame) (f : Frame) (g : Grade) (t : Raw) (x : Symbol) → closed most_parts fs f g t x ≡ small (closed None fs f g t x)
small_closed fs (frame.Parts c o before p) g t sign.Comma = room_comma c (length (before ++ t ∷ [])) (want (frame.Parts c o (before ++ t ∷ []) p ∷ fs)) refl (some_parts before t)
small_closed fs (frame.Parts c o before p) g t (sign.Close bracket.Round) = refl
small_closed fs (frame.Parts c o before p) g t _ = refl
small_closed fs (frame.Group h) g t (sign.Close bracket.Round) = refl
small_closed fs (frame.Group h) g t _ = refl
small_closed fs (frame.Suffixed bracket.Round o f) g t (sign.Close bracket.Round) = refl
small_closed fs (frame.Suffixed bracket.Square o f) g t (sign.Close bracket.Square) = refl
small_closed fs (frame.Suffixed _ o f) g t _ = refl
small_closed fs (frame.Names c before p) g t x = lean_name fs c before p x (plain_name_of t)
small_closed fs (frame.TypeAfter c before n pn side p) g t x = lean_type fs c before n pn side t p x
small_closed fs (frame.Listed c names before p) g t x = lean_member fs c (names && is_declaration g) before p t x
small_closed fs (frame.Given c names parts p) g t sign.Bar = refl
small_closed fs (frame.Given c names parts p) g t _ = refl
small_closed fs (frame.Last c h b names parts p) g t (sign.Close bracket.Brace) = refl
small_closed fs (frame.Last c h b names parts p) g t _ = refl
small_closed fs (frame.PatternType n p) g t x = lean_pattern fs (lone n p (Some t)) x
small_closed fs (frame.Between o l k a) g t x = refl
small_closed fs (frame.Prefixed q p) g t x = refl
small_closed fs (frame.Pattern inner before p) g t x = refl

lean_infix : (fs : List Frame) (g : Grade) (t : Raw) (o : Option (Level × RawOp)) → IsLean (extend_infix fs g t o)
lean_infix fs g t None = refl
lean_infix fs g t (Some b) = refl

lean_suffix : (fs : List Frame) (t : Raw) (o : Option (Bracket × RawOp)) → IsLean (extend_suffix fs t o)
lean_suffix fs t None = refl
lean_suffix fs t (Some b) = refl

lean_extend : (fs : List Frame) (g : Grade) (t : Raw) (x : Symbol) → IsLean (extend fs g t x)
lean_extend fs g t sign.Converse = refl
lean_extend fs g t (sign.Open b) = lean_suffix fs t (suffix_of (sign.Open b))
lean_extend fs g t (sign.Infix l o) = refl
lean_extend fs g t sign.Minus = refl
lean_extend fs g t _ = refl

small_cond : (b : Bool) (x y z : Option ParseState) → IsLean x → y ≡ small z → cond b x y ≡ small (cond b x z)
small_cond true x y z e f = e
small_cond false x y z e f = f

small_form : (o : Option (Grade × Raw)) (p q : Grade → Raw → Option ParseState) (a b : Option ParseState) → ((h : Grade) (u : Raw) → p h u ≡ small (q h u)) → a ≡ small b → after_form o p a ≡ small (after_form o q b)
small_form None p q a b e f = f
small_form (Some d) p q a b e f = e d.0 d.1

small_none : (b : Bool) (y z : Option ParseState) → y ≡ small z → cond b y None ≡ small (cond b z None)
small_none true y z f = f
small_none false y z f = refl

small_attach : (goal : Hole) (fs : List Frame) (g : Grade) (t : Raw) (x : Symbol) → attach most_parts goal fs g t x ≡ small (attach None goal fs g t x)
small_attach goal [] g t x = lean_cond (goes_on goal g x) (extend [] g t x) None (lean_extend [] g t x) refl
small_attach goal (f ∷ fs) g t x =
    small_cond (goes_on (hole_of f) g x) (extend (f ∷ fs) g t x)
    (cond (fits (hole_of f) g) (after_form (finished f t) (λ h u. attach most_parts goal fs h u x) (closed most_parts fs f g t x)) None)
    (cond (fits (hole_of f) g) (after_form (finished f t) (λ h u. attach None goal fs h u x) (closed None fs f g t x)) None)
    (lean_extend (f ∷ fs) g t x)
    (small_none (fits (hole_of f) g) (after_form (finished f t) (λ h u. attach most_parts goal fs h u x) (closed most_parts fs f g t x))
    (after_form (finished f t) (λ h u. attach None goal fs h u x) (closed None fs f g t x))
    (small_form (finished f t) (λ h u. attach most_parts goal fs h u x) (λ h u. attach None goal fs h u x) (closed most_parts fs f g t x) (closed None fs f g t x)
    (λ h u. small_attach goal fs h u x) (small_closed fs f g t x)))

lean_opened : (c : Binding) (fs : List Frame) (p : ℕ) → is_full (binding_opened c fs p) ≡ false
lean_opened binding.Set fs p = refl
lean_opened (binding.Reaching b) fs p = refl
lean_opened (binding.Quantified b) fs p = refl
lean_opened binding.Lambda fs p = refl

lean_begin : (h : Hole) (fs : List Frame) (p : ℕ) (w : List ℕ) (x : Symbol) → IsLean (begin h fs p w x)
lean_begin h fs p w sign.Word = lean_if (is_name w) (have fs _ _) refl
lean_begin h fs p w (sign.Number n) = lean_if _ (have fs _ _) refl
lean_begin h fs p w (sign.Truth o) = lean_if _ (have fs _ _) refl
lean_begin h fs p w (sign.Constant o) = lean_if _ (have fs _ _) refl
lean_begin h fs p w (sign.Call c o) = lean_if _ (calling fs c o p) refl
lean_begin h fs p w sign.Not = lean_if _ (want (frame.Prefixed _ p ∷ fs)) refl
lean_begin h fs p w sign.Minus = lean_if _ (want (frame.Prefixed _ p ∷ fs)) refl
lean_begin h fs p w (sign.Binder c) = lean_if _ (binding_opened c fs p) (lean_opened c fs p)
lean_begin h fs p w (sign.Open bracket.Brace) = lean_if _ (binding_opened binding.Set fs p) refl
lean_begin h fs p w (sign.Open bracket.Round) = lean_if _ (want (frame.Group _ ∷ fs)) refl
lean_begin h fs p w _ = refl

lean_call : (fs : List Frame) (c : Call) (o : RawOp) (p : ℕ) (x : Symbol) → IsLean (call_word fs c o p x)
lean_call fs c o p (sign.Open bracket.Round) = refl
lean_call fs c o p _ = refl

lean_begin_shape : (fs : List Frame) (p : ℕ) (w : List ℕ) (x : Symbol) → IsLean (begin_shape fs p w x)
lean_begin_shape fs p w sign.Word = lean_if (is_name w) (shape_name fs w p) refl
lean_begin_shape fs p w (sign.Open bracket.Round) = refl
lean_begin_shape fs p w _ = refl

-- a step within the limit is the step without it, unless that leads to a part too many
pub small_step : (goal : Hole) (st : ParseState) (x : Item) → step most_parts goal st x ≡ small (step None goal st x)
small_step goal (want fs) x = lean_begin (hole_wanted goal fs) fs x.from x.text x.symbol
small_step goal (have fs g t) x = small_attach goal fs g t x.symbol
small_step goal (calling fs c o p) x = lean_call fs c o p x.symbol
small_step goal (shape_want fs) x = lean_begin_shape fs x.from x.text x.symbol
small_step goal (shape_name fs n p) x =
    lean_cond (is_typing x.symbol) (Some (want (frame.PatternType n p ∷ fs))) (shape_step fs (lone n p None) x.symbol) refl (lean_pattern fs (lone n p None) x.symbol)
small_step goal (shape_have fs a) x = lean_pattern fs a x.symbol
