-- The grammar of formulas, by its rules.
use Rattle.std.specs.Prelude.{◌≡◌, ℕ, ℤ, List, [], ◌∷◌, ◌++◌, true, false, Option, Some, None, length}
use Rattle.formula_core.specs.Names.{is_name}
use Rattle.formula_core.specs.declared.op.Op.{Op}
use Rattle.formula_core.specs.declared.op.Op.TheVariants as op
use Rattle.formula_core.specs.declared.raw.RawOp.{RawOp}
use Rattle.formula_core.specs.declared.raw.RawOp.TheVariants as rawop
use Rattle.formula_core.specs.declared.raw.RawBinder.TheVariants as rawbinder
use Rattle.formula_core.specs.declared.raw.RawBound.{RawBound}
use Rattle.formula_core.specs.declared.raw.Raw.{Raw, out-Raw}
use Rattle.formula_core.specs.declared.raw.Raw.TheVariants as raw
use Rattle.formula_core.specs.declared.raw.Raw.TheOpen.{Raw-F, Int, Name, Node, Bind}
use Rattle.math_grammar.specs.declared.holes.Grade.{Grade}
use Rattle.math_grammar.specs.declared.holes.Grade.TheVariants as grade
use Rattle.math_grammar.specs.declared.holes.Hole.{Hole}
use Rattle.math_grammar.specs.declared.holes.Hole.TheVariants as hole
use Rattle.math_grammar.specs.declared.levels.Level.{Level}
use Rattle.math_grammar.specs.declared.levels.Level.TheVariants as lev
use Rattle.math_grammar.specs.declared.levels.Prefix.{Prefix}
use Rattle.math_grammar.specs.declared.levels.Bracket.{Bracket}
use Rattle.math_grammar.specs.declared.levels.Bracket.TheVariants as bracket
use Rattle.math_grammar.specs.declared.levels.Call.{Call}
use Rattle.math_grammar.specs.declared.levels.Binding.{Binding}
use Rattle.math_grammar.specs.declared.levels.Binding.TheVariants as binding
use Rattle.math_grammar.specs.declared.symbols.Symbol.{Symbol}
use Rattle.math_grammar.specs.declared.symbols.Symbol.TheVariants as sym
use Rattle.math_grammar.specs.declared.shapes.Shape.{Shape}
use Rattle.math_grammar.specs.Levels.{suffix_of, level, right_of, takes_left, fits, goes_on, grouped, suffixes, infix_of, prefix_of, prefix_hole, prefix_grade, prefix_op, call_hole, call_grade, call_parts, has_room, opens, binding_grade, binder_of, implicit_of, is_quantified, takes_names, takes_shape, is_braced}
use Rattle.math_grammar.specs.Tokens.{Item}

abbrev pub item : Symbol → ℕ → List ℕ → Item
item x p w = record { symbol = x; from = p; text = w }

-- the place of a node: its first token, without the parentheses round it or its left side
abbrev pub place_at : Raw-F Raw RawBound → ℕ
place_at (Int n p) = p
place_at (Name n p) = p
place_at (Node o parts p) = p
place_at (Bind b names parts p) = p

abbrev pub place_of : Raw → ℕ
place_of r = place_at (out-Raw r)

abbrev pub bound : List ℕ → ℕ → Option Raw → RawBound
bound n p t = record { name = n; ty = t; place = p }

-- two operands with an operator between them
abbrev pub between : RawOp → Raw → Raw → Raw
between o a b = raw.Node o (a ∷ b ∷ []) (place_of a)

-- a type, or the two sides of a type that has a type itself
abbrev pub type_with : Option Raw → Raw → Raw
type_with None t = t
type_with (Some a) t = between rawop.OfType a t

-- the shape of a lone name
abbrev pub lone : List ℕ → ℕ → Option Raw → Shape
lone n p t = record { names = bound n p t ∷ []; tree = raw.Name n p }

-- ↦ in a pattern reads from left to right
abbrev pub joined_shape : Option Shape → Shape → Shape
joined_shape None a = a
joined_shape (Some b) a = record { names = b.names ++ a.names; tree = between (rawop.Plain op.Maplet) b.tree a.tree }

-- What stands on the right of a sign reaches as far as it can: the next token doesn't go on with it.
abbrev pub Ends : Hole → Grade → List Item → Type 0
Ends h g [] = Unit {0}
Ends h g (x ∷ rest) = goes_on h g x.symbol ≡ false

-- Reads limit g s t rest: the tokens s begin with the formula t of the grade g, and rest stands after it.
mutual
  pub data Reads (limit : Option ℕ) : Grade → List Item → Raw → List Item → Type 0 where
    a_name : {n : List ℕ} {p : ℕ} {rest : List Item} →
        is_name n ≡ true → Reads limit grade.Name (item sym.Word p n ∷ rest) (raw.Name n p) rest
    a_number : {n : ℤ} {p : ℕ} {w : List ℕ} {rest : List Item} →
        Reads limit grade.Primary (item (sym.Number n) p w ∷ rest) (raw.Int n p) rest
    a_truth : {o : Op} {p : ℕ} {w : List ℕ} {rest : List Item} →
        Reads limit grade.Literal (item (sym.Truth o) p w ∷ rest) (raw.Node (rawop.Plain o) [] p) rest
    a_constant : {o : Op} {p : ℕ} {w : List ℕ} {rest : List Item} →
        Reads limit grade.Primary (item (sym.Constant o) p w ∷ rest) (raw.Node (rawop.Plain o) [] p) rest
    -- ¬ and −
    prefixed : {g k : Grade} {q : Prefix} {x : Symbol} {p : ℕ} {w : List ℕ} {s rest : List Item} {t : Raw} →
        prefix_of x ≡ Some q → Reads limit g s t rest → fits (prefix_hole q) g ≡ true → Ends (prefix_hole q) g rest →
        prefix_grade q ≡ k → Reads limit k (item x p w ∷ s) (raw.Node (prefix_op q) (t ∷ []) p) rest
    two_sides : {g h k : Grade} {l : Level} {o : RawOp} {x : Symbol} {p : ℕ} {w : List ℕ} {s m rest : List Item} {a b : Raw} →
        Reads limit g s a (item x p w ∷ m) → infix_of x ≡ Some (l, o) → takes_left l g ≡ true →
        Reads limit h m b rest → fits (right_of l) h ≡ true → Ends (right_of l) h rest →
        level l g ≡ k → Reads limit k s (between o a b) rest
    in_parentheses : {g k : Grade} {p q : ℕ} {w v : List ℕ} {s rest : List Item} {t : Raw} →
        Reads limit g s t (item (sym.Close bracket.Round) q v ∷ rest) →
        grouped g ≡ k → Reads limit k (item (sym.Open bracket.Round) p w ∷ s) t rest
    -- a word with its parts in parentheses
    called : {k : Grade} {c : Call} {o : RawOp} {p q : ℕ} {w v : List ℕ} {s rest : List Item} {parts : List Raw} →
        Parts limit (call_hole c) (call_parts limit c) bracket.Round [] s parts rest →
        call_grade c ≡ k → Reads limit k (item (sym.Call c o) p w ∷ item (sym.Open bracket.Round) q v ∷ s) (raw.Node o parts p) rest
    -- an argument in parentheses, or a set in square brackets
    applied : {g h : Grade} {b : Bracket} {o : RawOp} {x : Symbol} {p q : ℕ} {w v : List ℕ} {s m rest : List Item} {f a : Raw} →
        Reads limit g s f (item x p w ∷ m) → suffix_of x ≡ Some (b, o) → suffixes hole.Operand g ≡ true →
        Reads limit h m a (item (sym.Close b) q v ∷ rest) → fits hole.Expression h ≡ true →
        Reads limit grade.Suffixed s (between o f a) rest
    converted : {g : Grade} {p : ℕ} {w : List ℕ} {s rest : List Item} {f : Raw} →
        Reads limit g s f (item sym.Converse p w ∷ rest) → suffixes hole.Operand g ≡ true →
        Reads limit grade.Suffixed s (raw.Node (rawop.Plain op.Converse) (f ∷ []) (place_of f)) rest
    set_by_members : {x : Symbol} {p : ℕ} {w : List ℕ} {s rest : List Item} {members : List Raw} →
        opens x ≡ Some binding.Set → Parts limit hole.Expression None bracket.Brace [] s members rest →
        Reads limit grade.Primary (item x p w ∷ s) (raw.Node (rawop.Plain op.SetExtension) members p) rest
    -- names with a dot: ∀ and ∃, a set in braces, ⋃ and ⋂
    by_names : {k : Grade} {c : Binding} {x : Symbol} {p : ℕ} {w : List ℕ} {s m rest : List Item} {names : List RawBound} {parts : List Raw} →
        opens x ≡ Some c → takes_names c ≡ true → Declares limit [] s names m → BinderBody limit c [] m parts rest →
        binding_grade c ≡ k → Reads limit k (item x p w ∷ s) (raw.Bind (binder_of c) names parts p) rest
    -- an expression with a bar: a set in braces, ⋃ and ⋂, which bind the free names of the expression
    by_shape : {g k : Grade} {c : Binding} {x : Symbol} {p q : ℕ} {w v : List ℕ} {s m rest : List Item} {e t : Raw} →
        opens x ≡ Some c → takes_shape c ≡ true → Reads limit g s e (item sym.Bar q v ∷ m) → fits hole.Expression g ≡ true →
        LastPart limit c hole.Predicate m t rest →
        binding_grade c ≡ k → Reads limit k (item x p w ∷ s) (raw.Bind (implicit_of c) [] (e ∷ t ∷ []) p) rest
    lambda : {p q : ℕ} {w v : List ℕ} {s m rest : List Item} {shape : Shape} {parts : List Raw} →
        Pattern limit None s shape (item sym.Dot q v ∷ m) → BinderBody limit binding.Lambda (shape.tree ∷ []) m parts rest →
        Reads limit grade.Reaching (item (sym.Binder binding.Lambda) p w ∷ s) (raw.Bind rawbinder.Lambda shape.names parts p) rest

  -- the parts between commas up to the bracket, behind those before, no more than there is room for
  pub data Parts (limit : Option ℕ) : Hole → Option ℕ → Bracket → List Raw → List Item → List Raw → List Item → Type 0 where
    last_one : {h : Hole} {many : Option ℕ} {b : Bracket} {before : List Raw} {g : Grade} {p : ℕ} {w : List ℕ} {s rest : List Item} {t : Raw} →
        Reads limit g s t (item (sym.Close b) p w ∷ rest) → fits h g ≡ true →
        Parts limit h many b before s (before ++ t ∷ []) rest
    next_one : {h : Hole} {many : Option ℕ} {b : Bracket} {before parts : List Raw} {g : Grade} {p : ℕ} {w : List ℕ} {s m rest : List Item} {t : Raw} →
        has_room many (length (before ++ t ∷ [])) ≡ true → Reads limit g s t (item sym.Comma p w ∷ m) → fits h g ≡ true →
        Parts limit h many b (before ++ t ∷ []) m parts rest →
        Parts limit h many b before s parts rest

  -- a type behind a name: a pair, or two with ⦂ between them
  pub data TypeOf (limit : Option ℕ) : Option Raw → List Item → Raw → List Item → Type 0 where
    last_side : {before : Option Raw} {g : Grade} {s rest : List Item} {t : Raw} →
        Reads limit g s t rest → fits hole.Pair g ≡ true → TypeOf limit before s (type_with before t) rest
    first_side : {g : Grade} {o : RawOp} {p : ℕ} {w : List ℕ} {s m rest : List Item} {a t : Raw} →
        Reads limit g s a (item (sym.Infix lev.Typing o) p w ∷ m) → fits hole.Pair g ≡ true →
        TypeOf limit (Some a) m t rest → TypeOf limit None s t rest

  -- a name, with or without a type
  pub data Bound (limit : Option ℕ) : List Item → RawBound → List Item → Type 0 where
    bare : {n : List ℕ} {p : ℕ} {rest : List Item} →
        is_name n ≡ true → Bound limit (item sym.Word p n ∷ rest) (bound n p None) rest
    of_type : {o : RawOp} {n w : List ℕ} {p q : ℕ} {s rest : List Item} {t : Raw} →
        is_name n ≡ true → TypeOf limit None s t rest →
        Bound limit (item sym.Word p n ∷ item (sym.Infix lev.Typing o) q w ∷ s) (bound n p (Some t)) rest

  -- the names of a form, behind those before, up to the dot
  pub data Declares (limit : Option ℕ) : List RawBound → List Item → List RawBound → List Item → Type 0 where
    last_name : {before : List RawBound} {b : RawBound} {p : ℕ} {w : List ℕ} {s rest : List Item} →
        Bound limit s b (item sym.Dot p w ∷ rest) → Declares limit before s (before ++ b ∷ []) rest
    next_name : {before names : List RawBound} {b : RawBound} {p : ℕ} {w : List ℕ} {s m rest : List Item} →
        Bound limit s b (item sym.Comma p w ∷ m) → Declares limit (before ++ b ∷ []) m names rest → Declares limit before s names rest

  -- what follows the dot: a predicate, or a predicate, a bar and an expression
  pub data BinderBody (limit : Option ℕ) : Binding → List Raw → List Item → List Raw → List Item → Type 0 where
    a_predicate : {c : Binding} {before : List Raw} {s rest : List Item} {t : Raw} →
        is_quantified c ≡ true → LastPart limit c hole.Predicate s t rest → BinderBody limit c before s (before ++ t ∷ []) rest
    a_value : {c : Binding} {before : List Raw} {g : Grade} {p : ℕ} {w : List ℕ} {s m rest : List Item} {t e : Raw} →
        is_quantified c ≡ false → Reads limit g s t (item sym.Bar p w ∷ m) → fits hole.Predicate g ≡ true →
        LastPart limit c hole.Expression m e rest → BinderBody limit c before s ((before ++ t ∷ []) ++ e ∷ []) rest

  -- the last part of a form: up to its brace, or as far as it reaches
  pub data LastPart (limit : Option ℕ) : Binding → Hole → List Item → Raw → List Item → Type 0 where
    up_to_brace : {c : Binding} {h : Hole} {g : Grade} {p : ℕ} {w : List ℕ} {s rest : List Item} {t : Raw} →
        is_braced c ≡ true → Reads limit g s t (item (sym.Close bracket.Brace) p w ∷ rest) → fits h g ≡ true →
        LastPart limit c h s t rest
    reaching : {c : Binding} {h : Hole} {g : Grade} {s rest : List Item} {t : Raw} →
        is_braced c ≡ false → Reads limit g s t rest → fits h g ≡ true → Ends h g rest → LastPart limit c h s t rest

  -- a pattern of λ, behind what stands before its last ↦
  pub data Pattern (limit : Option ℕ) : Option Shape → List Item → Shape → List Item → Type 0 where
    last_atom : {before : Option Shape} {a : Shape} {s rest : List Item} →
        Atom limit s a rest → Pattern limit before s (joined_shape before a) rest
    next_atom : {before : Option Shape} {a shape : Shape} {o : RawOp} {p : ℕ} {w : List ℕ} {s m rest : List Item} →
        Atom limit s a (item (sym.Infix lev.Maplet o) p w ∷ m) → Pattern limit (Some (joined_shape before a)) m shape rest →
        Pattern limit before s shape rest

  -- a name, with or without a type, or a pattern in parentheses
  pub data Atom (limit : Option ℕ) : List Item → Shape → List Item → Type 0 where
    bare_atom : {n : List ℕ} {p : ℕ} {rest : List Item} →
        is_name n ≡ true → Atom limit (item sym.Word p n ∷ rest) (lone n p None) rest
    typed_atom : {g : Grade} {o : RawOp} {n w : List ℕ} {p q : ℕ} {s rest : List Item} {t : Raw} →
        is_name n ≡ true → Reads limit g s t rest → fits hole.Arrow g ≡ true → Ends hole.Arrow g rest →
        Atom limit (item sym.Word p n ∷ item (sym.Infix lev.Typing o) q w ∷ s) (lone n p (Some t)) rest
    grouped_atom : {a : Shape} {p q : ℕ} {w v : List ℕ} {s rest : List Item} →
        Pattern limit None s a (item (sym.Close bracket.Round) q v ∷ rest) →
        Atom limit (item (sym.Open bracket.Round) p w ∷ s) a rest

-- The tokens are a sentence of the place, and t is its tree. A partition has at most so many parts as the limit says, if there is one.
pub record Spells (limit : Option ℕ) (h : Hole) (tokens : List Item) (t : Raw) : Type 0 where
  pub g : Grade
  pub reads : Reads limit g tokens t []
  pub fit : fits h g ≡ true
