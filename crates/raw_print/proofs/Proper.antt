-- The symbols that the tables of signs and words give, and the forms that they make.
use Rattle.std.proofs.Common.{◌≡◌, ◌∙◌, sym as back, ap, subst, refl, ℕ, Bool, true, false, List, [], ◌∷◌, ◌++◌, map, inl, inr}
use Rattle.std.specs.Prelude.{Option, Some, None, ◌+◌, ◌⊎◌, drop}
use Rattle.formula_core.specs.declared.op.Op.TheVariants as op
use Rattle.formula_core.specs.declared.raw.RawOp.{RawOp}
use Rattle.formula_core.specs.declared.raw.RawOp.TheVariants as rawop
use Rattle.formula_core.specs.declared.raw.RawBound.{RawBound}
use Rattle.formula_core.specs.declared.raw.Raw.{Raw}
use Rattle.formula_core.specs.declared.raw.Raw.TheVariants as raw
use Rattle.math_grammar.specs.declared.levels.Level.{Level}
use Rattle.math_grammar.specs.declared.levels.Level.TheVariants as lev
use Rattle.math_grammar.specs.declared.levels.Bracket.{Bracket}
use Rattle.math_grammar.specs.declared.levels.Bracket.TheVariants as bracket
use Rattle.math_grammar.specs.declared.levels.Binding.{Binding}
use Rattle.math_grammar.specs.declared.levels.Binding.TheVariants as binding
use Rattle.math_grammar.specs.declared.symbols.Symbol.{Symbol}
use Rattle.math_grammar.specs.declared.symbols.Symbol.TheVariants as sym
use Rattle.math_grammar.specs.Levels.{infix_of, suffix_of, opens, binder_of}
use Rattle.token_text.specs.Pieces.{Piece, Blank, Token, sign_between}
use Rattle.math_grammar.specs.Operators.{raw_sign_of, raw_class_of, raw_binder_class_of}
use Rattle.raw_print.specs.Back.{IsProper}
use Rattle.raw_print.specs.Printing.{PartWithPieces, operand_pieces, form, is_atomic, pattern, pattern_name_count}
use Rattle.raw_print.specs.Private.{declared}
use Rattle.raw_print.proofs.Equations.{names_in-Node, pattern-Node}

abbrev op_of : {A : Type 0} → Option (A × RawOp) → RawOp
op_of None = rawop.OfType
op_of (Some q) = q.1

abbrev level_of : Option (Level × RawOp) → Level
level_of None = lev.Typing
level_of (Some q) = q.0

-- an operator between two operands
abbrev pub is_infix : Symbol → Bool
is_infix (sym.Infix l o) = true
is_infix sym.Minus = true
is_infix _ = false

pub infix_is : (x : Symbol) (l : Level) (o : RawOp) → infix_of x ≡ Some (l, o) → is_infix x ≡ true
infix_is sym.Minus l o e = refl
infix_is (sym.Infix m q) l o e = refl
infix_is _ l o e = cc

pub infix_stands : (x : Symbol) (l : Level) (o : RawOp) → infix_of x ≡ Some (l, o) → is_atomic x ≡ false
infix_stands sym.Minus l o e = refl
infix_stands (sym.Infix m q) l o e = refl
infix_stands _ l o e = cc

-- the class of an operator between two operands is the symbol
pub own_symbol : (x : Symbol) (l : Level) (o : RawOp) → infix_of x ≡ Some (l, o) → IsProper x → raw_class_of o ≡ x
own_symbol sym.Minus l o e is = ap raw_class_of (back (ap op_of e))
own_symbol (sym.Infix m q) l o e is = ap raw_class_of (back (ap op_of e)) ∙ is
own_symbol _ l o e is = cc

pub second_form : (x : Symbol) → is_infix x ≡ true → (sign : Piece) (a b : PartWithPieces) → form x sign (a ∷ b ∷ []) ≡ operand_pieces a ++ (Blank ∷ sign ∷ Blank ∷ operand_pieces b)
second_form sym.Minus h sign a b = refl
second_form (sym.Infix m q) h sign a b = refl
second_form _ h sign a b = cc

pub suffix_symbol : (x : Symbol) (b : Bracket) (o : RawOp) → suffix_of x ≡ Some (b, o) → (o ≡ rawop.Plain op.Apply) ⊎ (o ≡ rawop.Plain op.Image)
suffix_symbol (sym.Open bracket.Round) b o e = inl (back (ap op_of e))
suffix_symbol (sym.Open bracket.Square) b o e = inr (back (ap op_of e))
suffix_symbol _ b o e = cc

-- the sign of a form with bound names
abbrev pub IsForm : Binding → Type 0
IsForm binding.Set = Unit {0}
IsForm c = raw_binder_class_of (binder_of c) ≡ sym.Binder c

own_form : (d : Binding) → raw_binder_class_of (binder_of d) ≡ sym.Binder d → IsForm d
own_form binding.Set k = tt
own_form (binding.Quantified b) k = k
own_form (binding.Reaching b) k = k
own_form binding.Lambda k = k

pub form_symbol : (x : Symbol) (c : Binding) → opens x ≡ Some c → IsProper x → IsForm c
form_symbol (sym.Binder d) c e is = let same : d ≡ c = cc in subst IsForm same (own_form d is)
form_symbol (sym.Open bracket.Brace) c e is = let same : binding.Set ≡ c = cc in subst IsForm same tt
form_symbol _ c e is = cc

-- patterns
pub pattern-pair : (o : RawOp) (l r : Raw) (place : ℕ) (names : List (List Piece)) → pattern (raw.Node o (l ∷ r ∷ []) place) names
    ≡ sign_between (operand_pieces (l, pattern l names)) (Token (raw_class_of (rawop.Plain op.Maplet)) (raw_sign_of (rawop.Plain op.Maplet))) (operand_pieces (r, pattern r (drop (pattern_name_count l) names)))
pattern-pair o l r place names = pattern-Node o (l ∷ r ∷ []) place names

pub names_in-pair : (o : RawOp) (l r : Raw) (place : ℕ) → pattern_name_count (raw.Node o (l ∷ r ∷ []) place) ≡ pattern_name_count l + pattern_name_count r
names_in-pair o l r place = names_in-Node o (l ∷ r ∷ []) place

pub map_declared : (bs cs : List RawBound) → map declared (bs ++ cs) ≡ map declared bs ++ map declared cs
map_declared [] cs = refl
map_declared (b ∷ bs) cs = ap (λ ds. declared b ∷ ds) (map_declared bs cs)
