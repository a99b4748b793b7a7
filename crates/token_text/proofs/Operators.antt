-- The signs of operators are tokens of their classes.
use Rattle.std.proofs.Common.{◌≡◌, refl, ℕ, Bool, true, false, ◌||◌, not, List}
use Rattle.std.specs.List.{list_all}
use Rattle.formula_core.specs.declared.op.Op.{Op}
use Rattle.formula_core.specs.declared.op.Op.TheVariants as op
use Rattle.formula_core.specs.declared.op.TheConstants.{OPERATORS}
use Rattle.formula_core.specs.declared.raw.RawOp.{RawOp}
use Rattle.formula_core.specs.declared.raw.RawOp.TheVariants as rawop
use Rattle.math_grammar.specs.declared.operators.Form.{Form}
use Rattle.math_grammar.specs.declared.operators.Form.TheVariants as form
use Rattle.math_grammar.specs.Tokens.{symbol_of}
use Rattle.math_grammar.specs.Operators.{sign_of, op_form, class_of, raw_sign_of, raw_class_of}
use Rattle.math_grammar.specs.Grammar.{item}
use Rattle.math_grammar.proofs.Rows.{any_operator}
use Rattle.token_text.specs.Spacing.{is_space, FitsBefore}
use Rattle.token_text.proofs.Following.{stops, Follows}
use Rattle.token_text.proofs.Signs.{kind_of, is_spaced, is_stopped, stopped_fits, before_blank}

-- an operator with a sign of its own
abbrev pub is_signed : Form → Bool
is_signed (form.Open b) = false
is_signed _ = true

-- and one that stands between no operands
abbrev pub is_alone : Form → Bool
is_alone (form.Infix l) = false
is_alone form.Minus = false
is_alone (form.Open b) = false
is_alone _ = true

-- what all operators pass that pass another test, is passed by each that passes it
pub passed : (when test : Op → Bool) → list_all (λ o. not (when o) || test o) OPERATORS ≡ true → (o : Op) → when o ≡ true → test o ≡ true
passed when test all o h = go (when o) h (any_operator (λ o. not (when o) || test o) all o)
  where
    go : (w : Bool) → w ≡ true → (not w || test o) ≡ true → test o ≡ true
    go true e k = k
    go false e k = cc

own_class : (o : Op) → is_signed (op_form o) ≡ true → symbol_of (kind_of (sign_of o)) (sign_of o) ≡ class_of o
own_class op.Apply h = cc
own_class op.Image h = cc
own_class op.SetExtension h = cc
own_class _ h = refl

-- each sign is a token before a blank, and one that stands between no operands before what stops
pub fits_spaced : (o : Op) → is_signed (op_form o) ≡ true → (rest : List ℕ) → Follows is_space rest → FitsBefore (item (class_of o) 0 (sign_of o)) rest
fits_spaced o h = before_blank (class_of o) (sign_of o) (own_class o h) (passed (λ o. is_signed (op_form o)) (λ o. is_spaced (sign_of o) || is_stopped (sign_of o)) refl o h)

pub fits_alone : (o : Op) → is_alone (op_form o) ≡ true → (rest : List ℕ) → Follows stops rest → FitsBefore (item (class_of o) 0 (sign_of o)) rest
fits_alone o h = stopped_fits (class_of o) (sign_of o) (own_class o (alone_signed (op_form o) h)) (passed (λ o. is_alone (op_form o)) (λ o. is_stopped (sign_of o)) refl o h)
  where
    alone_signed : (f : Form) → is_alone f ≡ true → is_signed f ≡ true
    alone_signed (form.Open b) h = cc
    alone_signed _ h = refl

-- the same of the operators as they are written
abbrev pub is_written : RawOp → Bool
is_written (rawop.Plain o) = is_signed (op_form o)
is_written _ = true

pub written_fits : (o : RawOp) → is_written o ≡ true → (rest : List ℕ) → Follows is_space rest → FitsBefore (item (raw_class_of o) 0 (raw_sign_of o)) rest
written_fits (rawop.Plain o) h = fits_spaced o h
written_fits o h = before_blank (raw_class_of o) (raw_sign_of o) refl refl
