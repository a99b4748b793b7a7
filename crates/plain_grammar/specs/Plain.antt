-- The grammar of formulas without the condition on how far a form reaches: what stands on the right of a sign, or last in a form, may end anywhere.
use Rattle.std.specs.Prelude.{◌≡◌, ℕ, ◌+◌, ℤ, Bool, true, false, List, [], ◌∷◌, Option, Some, None}
use Rattle.formula_core.specs.Names.{is_name}
use Rattle.formula_core.specs.declared.op.Op.{Op}
use Rattle.formula_core.specs.declared.raw.RawOp.{RawOp}
use Rattle.formula_core.specs.declared.raw.Raw.{Raw}
use Rattle.math_grammar.specs.declared.holes.Grade.{Grade}
use Rattle.math_grammar.specs.declared.holes.Grade.TheVariants as grade
use Rattle.math_grammar.specs.declared.holes.Hole.{Hole}
use Rattle.math_grammar.specs.declared.holes.Hole.TheVariants as hole
use Rattle.math_grammar.specs.declared.levels.Level.{Level}
use Rattle.math_grammar.specs.declared.levels.Level.TheVariants as lev
use Rattle.math_grammar.specs.declared.levels.Prefix.{Prefix}
use Rattle.math_grammar.specs.declared.levels.Bracket.{Bracket}
use Rattle.math_grammar.specs.declared.levels.Bracket.TheVariants as bracket
use Rattle.math_grammar.specs.declared.levels.Call.{Call}
use Rattle.math_grammar.specs.declared.levels.Binding.{Binding}
use Rattle.math_grammar.specs.declared.levels.Binding.TheVariants as binding
use Rattle.math_grammar.specs.declared.symbols.Symbol.{Symbol}
use Rattle.math_grammar.specs.declared.symbols.Symbol.TheVariants as sym
use Rattle.math_grammar.specs.Levels.{suffix_of, level, right_of, takes_left, fits, grouped, suffixes, infix_of, prefix_of, prefix_hole, prefix_grade, call_hole, call_grade, call_parts, has_room, opens, binding_grade, is_quantified, takes_names, takes_shape, is_braced}
use Rattle.math_grammar.specs.Tokens.{Item}
use Rattle.math_grammar.specs.Grammar.{item, Ends, Reads}

-- ↦
abbrev pub is_maplet : Symbol → Bool
is_maplet (sym.Infix lev.Maplet o) = true
is_maplet _ = false

-- where the type of a name in a pattern of λ may end: everywhere, or not before ↦
abbrev pub MayEnd : Bool → List Item → Type 0
MayEnd true rest = Unit {0}
MayEnd false [] = Unit {0}
MayEnd false (x ∷ rest) = is_maplet x.symbol ≡ false

-- Plain limit everywhere g s rest: the tokens s begin with a formula of the grade g, and rest stands after it.
-- Where everywhere is false, the condition is left out but for one place: a type before ↦ in a pattern of λ.
mutual
  pub data Plain (limit : Option ℕ) (everywhere : Bool) : Grade → List Item → List Item → Type 0 where
    a_name : {n : List ℕ} {p : ℕ} {rest : List Item} →
        is_name n ≡ true → Plain limit everywhere grade.Name (item sym.Word p n ∷ rest) rest
    a_number : {n : ℤ} {p : ℕ} {w : List ℕ} {rest : List Item} →
        Plain limit everywhere grade.Primary (item (sym.Number n) p w ∷ rest) rest
    a_truth : {o : Op} {p : ℕ} {w : List ℕ} {rest : List Item} →
        Plain limit everywhere grade.Literal (item (sym.Truth o) p w ∷ rest) rest
    a_constant : {o : Op} {p : ℕ} {w : List ℕ} {rest : List Item} →
        Plain limit everywhere grade.Primary (item (sym.Constant o) p w ∷ rest) rest
    -- ¬ and −
    prefixed : {g k : Grade} {q : Prefix} {x : Symbol} {p : ℕ} {w : List ℕ} {s rest : List Item} →
        prefix_of x ≡ Some q → Plain limit everywhere g s rest → fits (prefix_hole q) g ≡ true →
        prefix_grade q ≡ k → Plain limit everywhere k (item x p w ∷ s) rest
    two_sides : {g h k : Grade} {l : Level} {o : RawOp} {x : Symbol} {p : ℕ} {w : List ℕ} {s m rest : List Item} →
        Plain limit everywhere g s (item x p w ∷ m) → infix_of x ≡ Some (l, o) → takes_left l g ≡ true →
        Plain limit everywhere h m rest → fits (right_of l) h ≡ true →
        level l g ≡ k → Plain limit everywhere k s rest
    in_parentheses : {g k : Grade} {p q : ℕ} {w v : List ℕ} {s rest : List Item} →
        Plain limit everywhere g s (item (sym.Close bracket.Round) q v ∷ rest) →
        grouped g ≡ k → Plain limit everywhere k (item (sym.Open bracket.Round) p w ∷ s) rest
    -- a word with its parts in parentheses
    called : {k : Grade} {c : Call} {o : RawOp} {p q : ℕ} {w v : List ℕ} {s rest : List Item} →
        PlainParts limit everywhere (call_hole c) (call_parts limit c) bracket.Round 0 s rest →
        call_grade c ≡ k → Plain limit everywhere k (item (sym.Call c o) p w ∷ item (sym.Open bracket.Round) q v ∷ s) rest
    -- an argument in parentheses, or a set in square brackets
    applied : {g h : Grade} {b : Bracket} {o : RawOp} {x : Symbol} {p q : ℕ} {w v : List ℕ} {s m rest : List Item} →
        Plain limit everywhere g s (item x p w ∷ m) → suffix_of x ≡ Some (b, o) → suffixes hole.Operand g ≡ true →
        Plain limit everywhere h m (item (sym.Close b) q v ∷ rest) → fits hole.Expression h ≡ true →
        Plain limit everywhere grade.Suffixed s rest
    converted : {g : Grade} {p : ℕ} {w : List ℕ} {s rest : List Item} →
        Plain limit everywhere g s (item sym.Converse p w ∷ rest) → suffixes hole.Operand g ≡ true →
        Plain limit everywhere grade.Suffixed s rest
    set_by_members : {x : Symbol} {p : ℕ} {w : List ℕ} {s rest : List Item} →
        opens x ≡ Some binding.Set → PlainParts limit everywhere hole.Expression None bracket.Brace 0 s rest →
        Plain limit everywhere grade.Primary (item x p w ∷ s) rest
    -- names with a dot: ∀ and ∃, a set in braces, ⋃ and ⋂
    by_names : {k : Grade} {c : Binding} {x : Symbol} {p : ℕ} {w : List ℕ} {s m rest : List Item} →
        opens x ≡ Some c → takes_names c ≡ true → PlainNames limit everywhere s m → PlainBody limit everywhere c m rest →
        binding_grade c ≡ k → Plain limit everywhere k (item x p w ∷ s) rest
    -- an expression with a bar: a set in braces, ⋃ and ⋂
    by_shape : {g k : Grade} {c : Binding} {x : Symbol} {p q : ℕ} {w v : List ℕ} {s m rest : List Item} →
        opens x ≡ Some c → takes_shape c ≡ true → Plain limit everywhere g s (item sym.Bar q v ∷ m) → fits hole.Expression g ≡ true →
        PlainLast limit everywhere c hole.Predicate m rest →
        binding_grade c ≡ k → Plain limit everywhere k (item x p w ∷ s) rest
    lambda : {p q : ℕ} {w v : List ℕ} {s m rest : List Item} →
        PlainPattern limit everywhere s (item sym.Dot q v ∷ m) → PlainBody limit everywhere binding.Lambda m rest →
        Plain limit everywhere grade.Reaching (item (sym.Binder binding.Lambda) p w ∷ s) rest

  -- the parts between commas up to the bracket, behind so many, no more than there is room for
  pub data PlainParts (limit : Option ℕ) (everywhere : Bool) : Hole → Option ℕ → Bracket → ℕ → List Item → List Item → Type 0 where
    last_one : {h : Hole} {many : Option ℕ} {b : Bracket} {n : ℕ} {g : Grade} {p : ℕ} {w : List ℕ} {s rest : List Item} →
        Plain limit everywhere g s (item (sym.Close b) p w ∷ rest) → fits h g ≡ true →
        PlainParts limit everywhere h many b n s rest
    next_one : {h : Hole} {many : Option ℕ} {b : Bracket} {n : ℕ} {g : Grade} {p : ℕ} {w : List ℕ} {s m rest : List Item} →
        has_room many (n + 1) ≡ true → Plain limit everywhere g s (item sym.Comma p w ∷ m) → fits h g ≡ true →
        PlainParts limit everywhere h many b (n + 1) m rest →
        PlainParts limit everywhere h many b n s rest

  -- a name; a name with a type: a pair, or two with ⦂ between them
  pub data PlainName (limit : Option ℕ) (everywhere : Bool) : List Item → List Item → Type 0 where
    bare : {n : List ℕ} {p : ℕ} {rest : List Item} →
        is_name n ≡ true → PlainName limit everywhere (item sym.Word p n ∷ rest) rest
    of_type : {g : Grade} {o : RawOp} {n w : List ℕ} {p q : ℕ} {s rest : List Item} →
        is_name n ≡ true → Plain limit everywhere g s rest → fits hole.Pair g ≡ true →
        PlainName limit everywhere (item sym.Word p n ∷ item (sym.Infix lev.Typing o) q w ∷ s) rest
    of_types : {g h : Grade} {o r : RawOp} {n w v : List ℕ} {p q i : ℕ} {s m rest : List Item} →
        is_name n ≡ true → Plain limit everywhere g s (item (sym.Infix lev.Typing r) i v ∷ m) → fits hole.Pair g ≡ true →
        Plain limit everywhere h m rest → fits hole.Pair h ≡ true →
        PlainName limit everywhere (item sym.Word p n ∷ item (sym.Infix lev.Typing o) q w ∷ s) rest

  -- the names of a form, up to the dot
  pub data PlainNames (limit : Option ℕ) (everywhere : Bool) : List Item → List Item → Type 0 where
    last_name : {p : ℕ} {w : List ℕ} {s rest : List Item} →
        PlainName limit everywhere s (item sym.Dot p w ∷ rest) → PlainNames limit everywhere s rest
    next_name : {p : ℕ} {w : List ℕ} {s m rest : List Item} →
        PlainName limit everywhere s (item sym.Comma p w ∷ m) → PlainNames limit everywhere m rest → PlainNames limit everywhere s rest

  -- what follows the dot: a predicate, or a predicate, a bar and an expression
  pub data PlainBody (limit : Option ℕ) (everywhere : Bool) : Binding → List Item → List Item → Type 0 where
    a_predicate : {c : Binding} {s rest : List Item} →
        is_quantified c ≡ true → PlainLast limit everywhere c hole.Predicate s rest → PlainBody limit everywhere c s rest
    a_value : {c : Binding} {g : Grade} {p : ℕ} {w : List ℕ} {s m rest : List Item} →
        is_quantified c ≡ false → Plain limit everywhere g s (item sym.Bar p w ∷ m) → fits hole.Predicate g ≡ true →
        PlainLast limit everywhere c hole.Expression m rest → PlainBody limit everywhere c s rest

  -- the last part of a form: up to its brace, or as far as one likes
  pub data PlainLast (limit : Option ℕ) (everywhere : Bool) : Binding → Hole → List Item → List Item → Type 0 where
    up_to_brace : {c : Binding} {h : Hole} {g : Grade} {p : ℕ} {w : List ℕ} {s rest : List Item} →
        is_braced c ≡ true → Plain limit everywhere g s (item (sym.Close bracket.Brace) p w ∷ rest) → fits h g ≡ true →
        PlainLast limit everywhere c h s rest
    reaching : {c : Binding} {h : Hole} {g : Grade} {s rest : List Item} →
        is_braced c ≡ false → Plain limit everywhere g s rest → fits h g ≡ true → PlainLast limit everywhere c h s rest

  -- a pattern of λ
  pub data PlainPattern (limit : Option ℕ) (everywhere : Bool) : List Item → List Item → Type 0 where
    last_atom : {s rest : List Item} →
        PlainAtom limit everywhere s rest → PlainPattern limit everywhere s rest
    next_atom : {o : RawOp} {p : ℕ} {w : List ℕ} {s m rest : List Item} →
        PlainAtom limit everywhere s (item (sym.Infix lev.Maplet o) p w ∷ m) → PlainPattern limit everywhere m rest →
        PlainPattern limit everywhere s rest

  -- a name, with or without a type, or a pattern in parentheses
  pub data PlainAtom (limit : Option ℕ) (everywhere : Bool) : List Item → List Item → Type 0 where
    bare_atom : {n : List ℕ} {p : ℕ} {rest : List Item} →
        is_name n ≡ true → PlainAtom limit everywhere (item sym.Word p n ∷ rest) rest
    typed_atom : {g : Grade} {o : RawOp} {n w : List ℕ} {p q : ℕ} {s rest : List Item} →
        is_name n ≡ true → Plain limit everywhere g s rest → fits hole.Arrow g ≡ true → MayEnd everywhere rest →
        PlainAtom limit everywhere (item sym.Word p n ∷ item (sym.Infix lev.Typing o) q w ∷ s) rest
    -- the type is one of the grammar, with the condition
    strictly_typed : {g : Grade} {o : RawOp} {n w : List ℕ} {p q : ℕ} {s rest : List Item} {t : Raw} →
        is_name n ≡ true → Reads limit g s t rest → fits hole.Arrow g ≡ true → Ends hole.Arrow g rest →
        PlainAtom limit everywhere (item sym.Word p n ∷ item (sym.Infix lev.Typing o) q w ∷ s) rest
    grouped_atom : {p q : ℕ} {w v : List ℕ} {s rest : List Item} →
        PlainPattern limit everywhere s (item (sym.Close bracket.Round) q v ∷ rest) →
        PlainAtom limit everywhere (item (sym.Open bracket.Round) p w ∷ s) rest

-- The tokens are a sentence of the place, as far as the grammar without the condition goes.
pub record Accepts (limit : Option ℕ) (everywhere : Bool) (h : Hole) (tokens : List Item) : Type 0 where
  pub g : Grade
  pub reads : Plain limit everywhere g tokens []
  pub fit : fits h g ≡ true
