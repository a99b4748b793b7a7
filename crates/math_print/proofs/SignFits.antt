-- The signs that are printed are tokens of their classes.
use Rattle.std.proofs.Common.{◌≡◌, refl, ℕ, true, List, [], ◌∷◌}
use Rattle.formula_core.specs.declared.op.Op.{Op}
use Rattle.formula_core.specs.declared.op.Op.TheVariants as op
use Rattle.formula_core.specs.declared.op.Binder.TheVariants as binder
use Rattle.formula_core.specs.declared.raw.RawOp.TheVariants as rawop
use Rattle.formula_core.specs.declared.raw.RawBinder.TheVariants as rawbinder
use Rattle.math_grammar.specs.declared.levels.Level.TheVariants as lev
use Rattle.math_grammar.specs.declared.levels.Bracket.TheVariants as bracket
use Rattle.math_grammar.specs.declared.levels.Binding.TheVariants as binding
use Rattle.math_grammar.specs.declared.symbols.Symbol.TheVariants as sym
use Rattle.math_grammar.specs.Operators.{op_form}
use Rattle.formula_print.specs.Signs.{denied_op}
use Rattle.token_text.specs.Pieces.{open_round_piece, close_round_piece, open_square_piece, close_square_piece, open_brace_piece, close_brace_piece, comma_piece, dot_piece, bar_piece, typing_piece, not_piece, operator_piece, sign_piece, binder_piece}
use Rattle.token_text.specs.Spacing.{is_space}
use Rattle.token_text.proofs.Fitting.{Fits}
use Rattle.token_text.proofs.Following.{Follows}
use Rattle.token_text.proofs.Signs.{opens_set, free_fits, passing_sign}
use Rattle.token_text.proofs.Operators.{is_signed, is_written, written_fits}

pub fits-open_round : (rest : List ℕ) → Fits open_round_piece rest
fits-open_round = free_fits 69 (sym.Open bracket.Round) 40 [] refl refl refl (λ rest. refl) refl refl

pub fits-close_round : (rest : List ℕ) → Fits close_round_piece rest
fits-close_round = free_fits 70 (sym.Close bracket.Round) 41 [] refl refl refl (λ rest. refl) refl refl

pub fits-open_square : (rest : List ℕ) → Fits open_square_piece rest
fits-open_square = free_fits 71 (sym.Open bracket.Square) 91 [] refl refl refl (λ rest. refl) refl refl

pub fits-close_square : (rest : List ℕ) → Fits close_square_piece rest
fits-close_square = free_fits 72 (sym.Close bracket.Square) 93 [] refl refl refl (λ rest. refl) refl refl

pub fits-open_brace : (rest : List ℕ) → Follows opens_set rest → Fits open_brace_piece rest
fits-open_brace = passing_sign opens_set 73 (sym.Open bracket.Brace) 123 [] refl refl refl (λ rest. refl) refl refl

pub fits-close_brace : (rest : List ℕ) → Fits close_brace_piece rest
fits-close_brace = free_fits 74 (sym.Close bracket.Brace) 125 [] refl refl refl (λ rest. refl) refl refl

pub fits-comma : (rest : List ℕ) → Fits comma_piece rest
fits-comma = free_fits 75 (sym.Comma) 44 [] refl refl refl (λ rest. refl) refl refl

pub fits-dot : (rest : List ℕ) → Fits dot_piece rest
fits-dot = free_fits 9 (sym.Dot) 194 (183 ∷ []) refl refl refl (λ rest. refl) refl refl

pub fits-bar : (rest : List ℕ) → Fits bar_piece rest
fits-bar = free_fits 10 (sym.Bar) 226 (136 ∷ 163 ∷ []) refl refl refl (λ rest. refl) refl refl

pub fits-typing : (rest : List ℕ) → Fits typing_piece rest
fits-typing = free_fits 56 (sym.Infix lev.Typing rawop.OfType) 226 (166 ∷ 130 ∷ []) refl refl refl (λ rest. refl) refl refl

pub fits-not : (rest : List ℕ) → Fits not_piece rest
fits-not = free_fits 2 (sym.Not) 194 (172 ∷ []) refl refl refl (λ rest. refl) refl refl

pub fits_denied : (o : Op) → is_signed (op_form o) ≡ true → (rest : List ℕ) → Follows is_space rest → Fits (operator_piece (denied_op o)) rest
fits_denied o h = written_fits (denied_op o) (denied_written o h)
  where
    denied_written : (o : Op) → is_signed (op_form o) ≡ true → is_written (denied_op o) ≡ true
    denied_written op.Equal h = refl
    denied_written op.Member h = refl
    denied_written op.ProperSubset h = refl
    denied_written op.Subset h = refl
    denied_written _ h = h

pub fits-Negate : (rest : List ℕ) → Fits (sign_piece op.Negate) rest
fits-Negate = free_fits 50 (sym.Minus) 226 (136 ∷ 146 ∷ []) refl refl refl (λ rest. refl) refl refl

pub fits_binder-ForAll : (rest : List ℕ) → Fits (binder_piece (rawbinder.Plain binder.ForAll)) rest
fits_binder-ForAll = free_fits 7 (sym.Binder (binding.Quantified binder.ForAll)) 226 (136 ∷ 128 ∷ []) refl refl refl (λ rest. refl) refl refl

pub fits_binder-Exists : (rest : List ℕ) → Fits (binder_piece (rawbinder.Plain binder.Exists)) rest
fits_binder-Exists = free_fits 8 (sym.Binder (binding.Quantified binder.Exists)) 226 (136 ∷ 131 ∷ []) refl refl refl (λ rest. refl) refl refl

pub fits_binder-Comprehension : (rest : List ℕ) → Follows opens_set rest → Fits (binder_piece (rawbinder.Plain binder.Comprehension)) rest
fits_binder-Comprehension = passing_sign opens_set 73 (sym.Open bracket.Brace) 123 [] refl refl refl (λ rest. refl) refl refl

pub fits_binder-QuantifiedUnion : (rest : List ℕ) → Fits (binder_piece (rawbinder.Plain binder.QuantifiedUnion)) rest
fits_binder-QuantifiedUnion = free_fits 58 (sym.Binder (binding.Reaching binder.QuantifiedUnion)) 226 (139 ∷ 131 ∷ []) refl refl refl (λ rest. refl) refl refl

pub fits_binder-QuantifiedIntersection : (rest : List ℕ) → Fits (binder_piece (rawbinder.Plain binder.QuantifiedIntersection)) rest
fits_binder-QuantifiedIntersection = free_fits 59 (sym.Binder (binding.Reaching binder.QuantifiedIntersection)) 226 (139 ∷ 130 ∷ []) refl refl refl (λ rest. refl) refl refl
