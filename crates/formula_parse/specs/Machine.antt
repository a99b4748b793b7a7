-- The parser, as a function on the tokens: a stack of unfinished forms, and what it wants or holds.
use Rattle.std.specs.Prelude.{ℕ, List, [], ◌∷◌, ◌++◌, Bool, true, false, not, ◌&&◌, cond, Option, Some, None, option_and_then, fold, length, nat_le}
use Rattle.std.specs.List.{list_all}
use Rattle.formula_core.specs.Names.{is_name}
use Rattle.formula_core.specs.declared.op.Op.TheVariants as op
use Rattle.formula_core.specs.declared.raw.RawOp.{RawOp}
use Rattle.formula_core.specs.declared.raw.RawOp.TheVariants as rawop
use Rattle.formula_core.specs.declared.raw.RawBound.{RawBound}
use Rattle.formula_core.specs.declared.raw.Raw.{Raw, out-Raw}
use Rattle.formula_core.specs.declared.raw.Raw.TheVariants as raw
use Rattle.formula_core.specs.declared.raw.Raw.TheOpen.{Raw-F, Name, Node}
use Rattle.math_grammar.specs.declared.holes.Grade.{Grade}
use Rattle.math_grammar.specs.declared.holes.Grade.TheVariants as grade
use Rattle.math_grammar.specs.declared.holes.Hole.{Hole}
use Rattle.math_grammar.specs.declared.holes.Hole.TheVariants as hole
use Rattle.math_grammar.specs.declared.levels.Level.{Level}
use Rattle.math_grammar.specs.declared.levels.Level.TheVariants as lev
use Rattle.math_grammar.specs.declared.levels.Prefix.{Prefix}
use Rattle.math_grammar.specs.declared.levels.Prefix.TheVariants as pre
use Rattle.math_grammar.specs.declared.levels.Bracket.{Bracket}
use Rattle.math_grammar.specs.declared.levels.Bracket.TheVariants as bracket
use Rattle.math_grammar.specs.declared.levels.Call.{Call}
use Rattle.math_grammar.specs.declared.levels.Binding.{Binding}
use Rattle.math_grammar.specs.declared.levels.Binding.TheVariants as binding
use Rattle.math_grammar.specs.declared.symbols.Symbol.{Symbol}
use Rattle.math_grammar.specs.declared.symbols.Symbol.TheVariants as sym
use Rattle.math_grammar.specs.declared.shapes.Shape.{Shape}
use Rattle.math_grammar.specs.Levels.{level, right_of, reaches, fits, inside, goes_on, grouped, infix_of, suffix_of, is_typing, is_declaration, prefix_hole, prefix_grade, prefix_op, call_hole, call_grade, call_parts, has_room, binding_grade, binder_of, implicit_of, is_quantified, is_braced}
use Rattle.math_grammar.specs.Tokens.{Item}
use Rattle.math_grammar.specs.Grammar.{place_of, bound, between, type_with, lone, joined_shape}
use Rattle.formula_parse.specs.declared.frames.Frame.{Frame}
use Rattle.formula_parse.specs.declared.frames.Frame.TheVariants.{Between, Prefixed, Group, Parts, Suffixed, Names, TypeAfter, Listed, Given, Last, Pattern, PatternType}

-- the place that a form has open
abbrev pub hole_of : Frame → Hole
hole_of (Between o l k a) = right_of l
hole_of (Prefixed q p) = prefix_hole q
hole_of (Group h) = h
hole_of (Parts c o before p) = call_hole c
hole_of (Suffixed b o f) = hole.Expression
hole_of (Names c before p) = hole.Name
hole_of (TypeAfter c before n pn of p) = hole.Pair
hole_of (Listed c names before p) = hole.Expression
hole_of (Given c names parts p) = hole.Predicate
hole_of (Last c h b names parts p) = h
hole_of (Pattern grouped before p) = hole.Name
hole_of (PatternType n p) = hole.Arrow

abbrev pub hole_wanted : Hole → List Frame → Hole
hole_wanted goal [] = goal
hole_wanted goal (f ∷ fs) = hole_of f

pub data ParseState : Type 0 where
  -- a formula is wanted, or held
  want : (fs : List Frame) → ParseState
  have : (fs : List Frame) (g : Grade) (t : Raw) → ParseState
  -- a parenthesis is wanted behind a word
  calling : (fs : List Frame) (c : Call) (o : RawOp) (p : ℕ) → ParseState
  -- a pattern is wanted; a name is held, or another pattern
  shape_want : (fs : List Frame) → ParseState
  shape_name : (fs : List Frame) (n : List ℕ) (p : ℕ) → ParseState
  shape_have : (fs : List Frame) (a : Shape) → ParseState

abbrev pub only_if : Bool → ParseState → Option ParseState
only_if b st = cond b (Some st) None

abbrev pub then_want : List Frame → Option Frame → Option ParseState
then_want fs (Some f) = Some (want (f ∷ fs))
then_want fs None = None

-- a name, by its bytes and its place
abbrev pub plain_name_at : Raw-F Raw RawBound → Option (List ℕ × ℕ)
plain_name_at (Name n p) = Some (n, p)
plain_name_at _ = None

abbrev pub plain_name_of : Raw → Option (List ℕ × ℕ)
plain_name_of r = plain_name_at (out-Raw r)

-- a name with a type behind it
abbrev pub with_type : Option (List ℕ × ℕ) → Raw → Option (List ℕ × ℕ × Raw)
with_type (Some n) t = Some (n.0, n.1, t)
with_type None t = None

abbrev pub typed_name_at : Raw-F Raw RawBound → Option (List ℕ × ℕ × Raw)
typed_name_at (Node o (x ∷ t ∷ []) p) = with_type (plain_name_of x) t
typed_name_at _ = None

abbrev pub typed_name_of : Raw → Option (List ℕ × ℕ × Raw)
typed_name_of r = typed_name_at (out-Raw r)

-- what a formula declares: a name, or a name with a type
abbrev pub declares : Option (List ℕ × ℕ) → Option (List ℕ × ℕ × Raw) → Option RawBound
declares (Some n) o = Some (bound n.0 n.1 None)
declares None (Some n) = Some (bound n.0 n.1 (Some n.2))
declares None None = None

abbrev pub bound_from : Raw → Option RawBound
bound_from r = declares (plain_name_of r) (typed_name_of r)

abbrev pub with_bound : Option (List RawBound) → Option RawBound → Option (List RawBound)
with_bound (Some bs) (Some b) = Some (bs ++ b ∷ [])
with_bound _ _ = None

abbrev pub with_declared : Option (List RawBound) → Raw → Option (List RawBound)
with_declared bs r = with_bound bs (bound_from r)

-- what all of them declare
abbrev pub bounds_from : List Raw → Option (List RawBound)
bounds_from rs = fold with_declared (Some []) rs

-- what follows the names
abbrev pub binding_body : Binding → List RawBound → List Raw → ℕ → Frame
binding_body c names before p = cond (is_quantified c) (Last c hole.Predicate (binder_of c) names before p) (Given c names before p)

-- a form with bound names, when its token is read
abbrev pub binding_opened : Binding → List Frame → ℕ → ParseState
binding_opened binding.Set fs p = want (Listed binding.Set true [] p ∷ fs)
binding_opened (binding.Reaching b) fs p = want (Listed (binding.Reaching b) true [] p ∷ fs)
binding_opened (binding.Quantified b) fs p = want (Names (binding.Quantified b) [] p ∷ fs)
binding_opened binding.Lambda fs p = shape_want (Pattern false None p ∷ fs)

abbrev pub begin_prefix : Hole → List Frame → ℕ → Prefix → Option ParseState
begin_prefix h fs p q = only_if (reaches h (prefix_grade q)) (want (Prefixed q p ∷ fs))

abbrev pub begin_binding : Hole → List Frame → ℕ → Binding → Option ParseState
begin_binding h fs p c = only_if (reaches h (binding_grade c)) (binding_opened c fs p)

-- the first token of a formula
abbrev pub begin : Hole → List Frame → ℕ → List ℕ → Symbol → Option ParseState
begin h fs p w sym.Word = only_if (is_name w) (have fs grade.Name (raw.Name w p))
begin h fs p w (sym.Number n) = only_if (reaches h grade.Primary) (have fs grade.Primary (raw.Int n p))
begin h fs p w (sym.Truth o) = only_if (reaches h grade.Literal) (have fs grade.Literal (raw.Node (rawop.Plain o) [] p))
begin h fs p w (sym.Constant o) = only_if (reaches h grade.Primary) (have fs grade.Primary (raw.Node (rawop.Plain o) [] p))
begin h fs p w (sym.Call c o) = only_if (reaches h (call_grade c)) (calling fs c o p)
begin h fs p w sym.Not = begin_prefix h fs p pre.Not
begin h fs p w sym.Minus = begin_prefix h fs p pre.Minus
begin h fs p w (sym.Binder c) = begin_binding h fs p c
begin h fs p w (sym.Open bracket.Brace) = begin_binding h fs p binding.Set
begin h fs p w (sym.Open bracket.Round) = only_if (reaches h grade.Primary) (want (Group (inside h) ∷ fs))
begin h fs p w _ = None

abbrev pub extend_infix : List Frame → Grade → Raw → Option (Level × RawOp) → Option ParseState
extend_infix fs g t (Some found) = Some (want (Between found.1 found.0 (level found.0 g) t ∷ fs))
extend_infix fs g t None = None

abbrev pub extend_suffix : List Frame → Raw → Option (Bracket × RawOp) → Option ParseState
extend_suffix fs t (Some found) = Some (want (Suffixed found.0 found.1 t ∷ fs))
extend_suffix fs t None = None

-- a token that goes on with what is held
abbrev pub extend : List Frame → Grade → Raw → Symbol → Option ParseState
extend fs g t sym.Converse = Some (have fs grade.Suffixed (raw.Node (rawop.Plain op.Converse) (t ∷ []) (place_of t)))
extend fs g t (sym.Open b) = extend_suffix fs t (suffix_of (sym.Open b))
extend fs g t x = extend_infix fs g t (infix_of x)

-- the form that ends with its last part, without a sign
abbrev pub finished : Frame → Raw → Option (Grade × Raw)
finished (Between o l k a) t = Some (k, between o a t)
finished (Prefixed q p) t = Some (prefix_grade q, raw.Node (prefix_op q) (t ∷ []) p)
finished (Last c h b names parts p) t = cond (is_braced c) None (Some (binding_grade c, raw.Bind b names (parts ++ t ∷ []) p))
finished _ t = None

-- a comma or a dot behind the names
abbrev pub after_names : Binding → List RawBound → ℕ → Symbol → Option Frame
after_names c names p sym.Comma = Some (Names c names p)
after_names c names p sym.Dot = Some (binding_body c names [] p)
after_names c names p x = None

abbrev pub after_name : List Frame → Binding → List RawBound → ℕ → Symbol → Option (List ℕ × ℕ) → Option ParseState
after_name fs c before p x (Some n) =
    cond (is_typing x) (Some (want (TypeAfter c before n.0 n.1 None p ∷ fs))) (then_want fs (after_names c (before ++ bound n.0 n.1 None ∷ []) p x))
after_name fs c before p x None = None

-- the second side of a type
abbrev pub second_side : List Frame → Binding → List RawBound → List ℕ → ℕ → Option Raw → Raw → ℕ → Option ParseState
second_side fs c before n pn None t p = Some (want (TypeAfter c before n pn (Some t) p ∷ fs))
second_side fs c before n pn (Some a) t p = None

abbrev pub after_type : List Frame → Binding → List RawBound → List ℕ → ℕ → Option Raw → Raw → ℕ → Symbol → Option ParseState
after_type fs c before n pn of t p x =
    cond (is_typing x) (second_side fs c before n pn of t p) (then_want fs (after_names c (before ++ bound n pn (Some (type_with of t)) ∷ []) p x))

abbrev pub names_next : List Frame → Binding → Option (List RawBound) → ℕ → Symbol → Option ParseState
names_next fs c (Some names) p x = then_want fs (after_names c names p x)
names_next fs c None p x = None

abbrev pub type_next : List Frame → Binding → Option (List RawBound) → Option (List ℕ × ℕ × Raw) → ℕ → Option ParseState
type_next fs c (Some before) (Some n) p = Some (want (TypeAfter c before n.0 n.1 (Some n.2) p ∷ fs))
type_next fs c _ _ p = None

-- a bar behind the first expression
abbrev pub shape_next : List Frame → Binding → List Raw → Raw → ℕ → Option ParseState
shape_next fs c [] t p = Some (want (Last c hole.Predicate (implicit_of c) [] (t ∷ []) p ∷ fs))
shape_next fs c _ t p = None

-- what follows a member or a name in a list
abbrev pub after_member : List Frame → Binding → Bool → List Raw → ℕ → Raw → Symbol → Option ParseState
after_member fs c names before p t sym.Comma =
    cond (is_braced c) (Some (want (Listed c names (before ++ t ∷ []) p ∷ fs)))
    (cond names (names_next fs c (bounds_from (before ++ t ∷ [])) p sym.Comma) None)
after_member fs c names before p t (sym.Close bracket.Brace) =
    only_if (is_braced c) (have fs grade.Primary (raw.Node (rawop.Plain op.SetExtension) (before ++ t ∷ []) p))
after_member fs c names before p t sym.Bar = shape_next fs c before t p
after_member fs c names before p t sym.Dot =
    cond names (names_next fs c (bounds_from (before ++ t ∷ [])) p sym.Dot) None
after_member fs c names before p t (sym.Infix lev.Typing o) = cond names (type_next fs c (bounds_from before) (typed_name_of t) p) None
after_member fs c names before p t x = None

-- what follows a pattern
abbrev pub after_shape : List Frame → Bool → Shape → ℕ → Symbol → Option ParseState
after_shape fs grouped a p (sym.Infix lev.Maplet o) = Some (shape_want (Pattern grouped (Some a) p ∷ fs))
after_shape fs grouped a p (sym.Close bracket.Round) = only_if grouped (shape_have fs a)
after_shape fs grouped a p sym.Dot = cond grouped None (Some (want (Given binding.Lambda a.names (a.tree ∷ []) p ∷ fs)))
after_shape fs grouped a p x = None

abbrev pub pattern_of : Frame → Option (Bool × Option Shape × ℕ)
pattern_of (Pattern inner before p) = Some (inner, before, p)
pattern_of _ = None

abbrev pub pattern_stepped : Option (Bool × Option Shape × ℕ) → List Frame → Shape → Symbol → Option ParseState
pattern_stepped (Some q) fs a x = after_shape fs q.0 (joined_shape q.1 a) q.2 x
pattern_stepped None fs a x = None

abbrev pub shape_step : List Frame → Shape → Symbol → Option ParseState
shape_step (f ∷ fs) a x = pattern_stepped (pattern_of f) fs a x
shape_step [] a x = None

-- the form that takes a sign after its part
abbrev pub closed : Option ℕ → List Frame → Frame → Grade → Raw → Symbol → Option ParseState
closed limit fs (Group h) g t (sym.Close bracket.Round) = Some (have fs (grouped g) t)
closed limit fs (Parts c o before p) g t (sym.Close bracket.Round) = Some (have fs (call_grade c) (raw.Node o (before ++ t ∷ []) p))
closed limit fs (Parts c o before p) g t sym.Comma = only_if (has_room (call_parts limit c) (length (before ++ t ∷ []))) (want (Parts c o (before ++ t ∷ []) p ∷ fs))
closed limit fs (Suffixed bracket.Round o f) g t (sym.Close bracket.Round) = Some (have fs grade.Suffixed (between o f t))
closed limit fs (Suffixed bracket.Square o f) g t (sym.Close bracket.Square) = Some (have fs grade.Suffixed (between o f t))
closed limit fs (Names c before p) g t x = after_name fs c before p x (plain_name_of t)
closed limit fs (TypeAfter c before n pn of p) g t x = after_type fs c before n pn of t p x
closed limit fs (Listed c names before p) g t x = after_member fs c (names && is_declaration g) before p t x
closed limit fs (Given c names parts p) g t sym.Bar = Some (want (Last c hole.Expression (binder_of c) names (parts ++ t ∷ []) p ∷ fs))
closed limit fs (Last c h b names parts p) g t (sym.Close bracket.Brace) = Some (have fs (binding_grade c) (raw.Bind b names (parts ++ t ∷ []) p))
closed limit fs (PatternType n p) g t x = shape_step fs (lone n p (Some t)) x
closed limit fs f g t x = None

abbrev pub after_form : Option (Grade × Raw) → (Grade → Raw → Option ParseState) → Option ParseState → Option ParseState
after_form (Some found) go other = go found.0 found.1
after_form None go other = other

-- the next token, with a formula of the grade g held: it goes on with it, or ends the form that is read, or the form takes it
abbrev pub attach : Option ℕ → Hole → List Frame → Grade → Raw → Symbol → Option ParseState
attach limit goal [] g t x = cond (goes_on goal g x) (extend [] g t x) None
attach limit goal (f ∷ fs) g t x =
    cond (goes_on (hole_of f) g x) (extend (f ∷ fs) g t x)
    (cond (fits (hole_of f) g) (after_form (finished f t) (λ h u. attach limit goal fs h u x) (closed limit fs f g t x)) None)

-- the parenthesis behind a word
abbrev pub call_word : List Frame → Call → RawOp → ℕ → Symbol → Option ParseState
call_word fs c o p (sym.Open bracket.Round) = Some (want (Parts c o [] p ∷ fs))
call_word fs c o p x = None

-- the first token of a pattern
abbrev pub begin_shape : List Frame → ℕ → List ℕ → Symbol → Option ParseState
begin_shape fs p w sym.Word = only_if (is_name w) (shape_name fs w p)
begin_shape fs p w (sym.Open bracket.Round) = Some (shape_want (Pattern true None p ∷ fs))
begin_shape fs p w x = None

abbrev pub step : Option ℕ → Hole → ParseState → Item → Option ParseState
step limit goal (want fs) x = begin (hole_wanted goal fs) fs x.from x.text x.symbol
step limit goal (have fs g t) x = attach limit goal fs g t x.symbol
step limit goal (calling fs c o p) x = call_word fs c o p x.symbol
step limit goal (shape_want fs) x = begin_shape fs x.from x.text x.symbol
step limit goal (shape_name fs n p) x = cond (is_typing x.symbol) (Some (want (PatternType n p ∷ fs))) (shape_step fs (lone n p None) x.symbol)
step limit goal (shape_have fs a) x = shape_step fs a x.symbol

-- the end of the tokens
abbrev pub complete : Hole → List Frame → Grade → Raw → Option Raw
complete goal [] g t = cond (fits goal g) (Some t) None
complete goal (f ∷ fs) g t =
    cond (fits (hole_of f) g) (option_and_then (λ done. complete goal fs done.0 done.1) (finished f t)) None

abbrev pub ended : Hole → ParseState → Option Raw
ended goal (have fs g t) = complete goal fs g t
ended goal _ = None

-- the form ends with its last part, without a sign
abbrev pub is_open_ended : Frame → Bool
is_open_ended (Between o l k a) = true
is_open_ended (Prefixed q p) = true
is_open_ended (Last c h b names parts p) = not (is_braced c)
is_open_ended _ = false

-- a formula is held, and no unfinished form waits for a sign
abbrev pub is_ready : ParseState → Bool
is_ready (have fs g t) = list_all is_open_ended fs
is_ready _ = false

-- a part behind the last one allowed is wanted
abbrev pub is_full_frame : Frame → Bool
is_full_frame (Parts c o before p) = nat_le 25 (length before)
is_full_frame _ = false

abbrev pub is_full_top : List Frame → Bool
is_full_top [] = false
is_full_top (f ∷ fs) = is_full_frame f

abbrev pub is_full : ParseState → Bool
is_full (want fs) = is_full_top fs
is_full _ = false
