-- The equations of the text of a type, one for each variant.
use Rattle.std.proofs.Common.{◌≡◌, ◌∙◌, sym as back, ap, List, [], ◌∷◌, ◌++◌, append_assoc}
use Rattle.std.specs.Prelude.{ℕ}
use Rattle.std.proofs.lemmas.List.{append-nil}
use Rattle.formula_core.specs.declared.op.Op.TheVariants as op
use Rattle.formula_core.specs.declared.ty.Ty.{Ty}
use Rattle.formula_core.specs.declared.ty.Ty.TheOpen.{Ty-F, Int as IntF, Bool as BoolF, Given as GivenF, Pow as PowF, Pair as PairF, Truth as TruthF}
use Rattle.formula_core.specs.declared.ty.Ty.TheVariants.{Int, Bool, Given, Pow, Pair, Truth}
use Rattle.formula_core.specs.declared.ty.Ty.TheViews.{roll-Ty, rolls-Int, rolls-Bool, rolls-Given, rolls-Pow, rolls-Pair, rolls-Truth}
use Rattle.formula_core.specs.declared.ty.Ty.TheFolds.{map-Ty, para-roll-Ty}
use Rattle.token_text.specs.Pieces.{Piece, text_of, word_piece, close_round_piece, sign_piece, in_round, sign_between}
use Rattle.token_text.proofs.Pieces.{text-append}
use Rattle.math_grammar.specs.Characters.{bytes}
use Rattle.formula_print.specs.Private.{type_text}
use Rattle.formula_print.specs.Types.{right_of_product, type_pieces_step, type_pieces}

at : (x : Ty-F Ty) (t : Ty) → roll-Ty x ≡ t → type_pieces t ≡ type_pieces_step (map-Ty Ty (Ty × List Piece) (λ u. (u, type_pieces u)) x)
at x t e = ap type_pieces (back e) ∙ para-roll-Ty (List Piece) type_pieces_step x

pub type_pieces-Int : type_pieces Int ≡ sign_piece op.Integers ∷ []
type_pieces-Int = at IntF Int rolls-Int

pub type_pieces-Bool : type_pieces Bool ≡ sign_piece op.Booleans ∷ []
type_pieces-Bool = at BoolF Bool rolls-Bool

pub type_pieces-Given : (name : List ℕ) → type_pieces (Given name) ≡ word_piece name ∷ []
type_pieces-Given name = at (GivenF name) (Given name) (rolls-Given name)

pub type_pieces-Pow : (t : Ty) → type_pieces (Pow t) ≡ sign_piece op.PowerSet ∷ in_round (type_pieces t)
type_pieces-Pow t = at (PowF t) (Pow t) (rolls-Pow t)

pub type_pieces-Pair : (t u : Ty) → type_pieces (Pair t u) ≡ sign_between (type_pieces t) (sign_piece op.Product) (right_of_product (u, type_pieces u))
type_pieces-Pair t u = at (PairF t u) (Pair t u) (rolls-Pair t u)

pub type_pieces-Truth : type_pieces Truth ≡ []
type_pieces-Truth = at TruthF Truth rolls-Truth

pub type_text-Int : type_text Int ≡ bytes "ℤ"
type_text-Int = ap text_of type_pieces-Int

pub type_text-Bool : type_text Bool ≡ bytes "BOOL"
type_text-Bool = ap text_of type_pieces-Bool

pub type_text-Given : (name : List ℕ) → type_text (Given name) ≡ name
type_text-Given name = ap text_of (type_pieces-Given name) ∙ append-nil name

pub type_text-Pow : (t : Ty) → type_text (Pow t) ≡ bytes "ℙ(" ++ (type_text t ++ bytes ")")
type_text-Pow t = ap text_of (type_pieces-Pow t) ∙ ap (λ u. bytes "ℙ(" ++ u) (text-append (type_pieces t) (close_round_piece ∷ []))

pub type_text-Pair : (t u : Ty) → type_text (Pair t u) ≡ type_text t ++ (bytes " × " ++ text_of (right_of_product (u, type_pieces u)))
type_text-Pair t u = ap text_of (type_pieces-Pair t u) ∙ text-append (type_pieces t) _

pub type_text-Truth : type_text Truth ≡ []
type_text-Truth = ap text_of type_pieces-Truth

pub ruleset equations = (type_text-Int, type_text-Bool, type_text-Given, type_text-Pow, type_text-Pair, type_text-Truth, text-append, append_assoc, append-nil)
