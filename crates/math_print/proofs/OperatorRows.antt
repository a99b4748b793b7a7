-- How an operator stands to its operands, and its row in the table of types.
use Rattle.std.proofs.Common.{◌≡◌, refl, Bool, true, false, ◌&&◌}
use Rattle.formula_core.specs.declared.op.Op.{Op}
use Rattle.formula_core.specs.declared.op.Op.TheVariants as op
use Rattle.formula_core.specs.declared.row.Row.{Row}
use Rattle.formula_core.specs.declared.row.Row.TheVariants as row
use Rattle.formula_core.specs.declared.row.NullaryRow.{NullaryRow}
use Rattle.formula_core.specs.declared.row.UnaryRow.{UnaryRow}
use Rattle.formula_core.specs.declared.row.BinaryRow.{BinaryRow}
use Rattle.formula_core.specs.Rows.{row_of}
use Rattle.math_grammar.specs.declared.operators.Form.{Form}
use Rattle.math_grammar.specs.declared.operators.Form.TheVariants as form
use Rattle.math_grammar.specs.Operators.{op_form}
use Rattle.token_text.proofs.Operators.{is_signed, is_alone, passed}

abbrev pub is_between : Form → Bool
is_between (form.Infix l) = true
is_between form.Minus = true
is_between _ = false

abbrev pub is_call : Form → Bool
is_call (form.Call c) = true
is_call _ = false

-- a constant whose sign tells its type, or ⊤ or ⊥
abbrev pub is_untyped : Op → Bool
is_untyped op.EmptySet = false
is_untyped op.Identity = false
is_untyped op.FirstProjection = false
is_untyped op.SecondProjection = false
is_untyped _ = true

abbrev is_constant : Form → Bool
is_constant form.Truth = true
is_constant form.Constant = true
is_constant _ = false

abbrev pub is_plain_constant : Op → Bool
is_plain_constant o = is_constant (op_form o) && is_untyped o

abbrev is_nullary : Row → Bool
is_nullary (row.Nullary r) = true
is_nullary _ = false

abbrev is_unary : Row → Bool
is_unary (row.Unary r) = true
is_unary _ = false

abbrev is_binary : Row → Bool
is_binary (row.Binary r) = true
is_binary _ = false

pub between_row : (o : Op) → is_between (op_form o) ≡ true → (r : BinaryRow) × (row_of o ≡ row.Binary r)
between_row o f = go (row_of o) refl (passed (λ o. is_between (op_form o)) (λ o. is_binary (row_of o)) refl o f)
  where
    go : (x : Row) → row_of o ≡ x → is_binary x ≡ true → (r : BinaryRow) × (row_of o ≡ row.Binary r)
    go (row.Binary r) e h = (r, e)
    go _ e h = cc

pub call_row : (o : Op) → is_call (op_form o) ≡ true → (r : UnaryRow) × (row_of o ≡ row.Unary r)
call_row o f = go (row_of o) refl (passed (λ o. is_call (op_form o)) (λ o. is_unary (row_of o)) refl o f)
  where
    go : (x : Row) → row_of o ≡ x → is_unary x ≡ true → (r : UnaryRow) × (row_of o ≡ row.Unary r)
    go (row.Unary r) e h = (r, e)
    go _ e h = cc

pub constant_row : (o : Op) → is_plain_constant o ≡ true → (r : NullaryRow) × (row_of o ≡ row.Nullary r)
constant_row o f = go (row_of o) refl (passed is_plain_constant (λ o. is_nullary (row_of o)) refl o f)
  where
    go : (x : Row) → row_of o ≡ x → is_nullary x ≡ true → (r : NullaryRow) × (row_of o ≡ row.Nullary r)
    go (row.Nullary r) e h = (r, e)
    go _ e h = cc

pub between_signed : (o : Op) → is_between (op_form o) ≡ true → is_signed (op_form o) ≡ true
between_signed = passed (λ o. is_between (op_form o)) (λ o. is_signed (op_form o)) refl

pub call_alone : (o : Op) → is_call (op_form o) ≡ true → is_alone (op_form o) ≡ true
call_alone = passed (λ o. is_call (op_form o)) (λ o. is_alone (op_form o)) refl

pub constant_alone : (o : Op) → is_plain_constant o ≡ true → is_alone (op_form o) ≡ true
constant_alone = passed is_plain_constant (λ o. is_alone (op_form o)) refl
