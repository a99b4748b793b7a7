-- Pieces whose tokens each fit before the text behind them are cut into those tokens.
use Rattle.std.proofs.Common.{sym as back, subst, refl, ℕ, List, [], ◌∷◌, ◌++◌}
use Rattle.std.proofs.lemmas.List.{append-nil}
use Rattle.math_grammar.specs.Grammar.{item}
use Rattle.token_text.specs.Pieces.{Piece, Blank, Token, text_of, tokens_of}
use Rattle.token_text.specs.Spacing.{FitsBefore, Spaced, the_end, a_blank, a_token, IsCutInto}
use Rattle.token_text.proofs.Cutting.{spaced_cut}
use Rattle.token_text.proofs.Pieces.{text-behind}

-- a token fits before the text
abbrev pub Fits : Piece → List ℕ → Type 0
Fits Blank text = Unit {0}
Fits (Token x w) text = FitsBefore (item x 0 w) text

-- each of them before the text of those behind it, where more text follows
abbrev pub AllFit : List Piece → List ℕ → Type 0
AllFit [] rest = Unit {0}
AllFit (p ∷ ps) rest = Fits p (text_of ps ++ rest) × AllFit ps rest

pub fit_beside : (ps qs : List Piece) (rest : List ℕ) → AllFit ps (text_of qs ++ rest) → AllFit qs rest → AllFit (ps ++ qs) rest
fit_beside [] qs rest a b = b
fit_beside (p ∷ ps) qs rest a b = (subst (Fits p) (back (text-behind ps qs rest)) a.0, fit_beside ps qs rest a.1 b)

spaced : (ps : List Piece) → AllFit ps [] → Spaced (tokens_of ps) (text_of ps)
spaced [] all = the_end
spaced (Blank ∷ ps) all = a_blank 32 refl (spaced ps all.1)
spaced (Token x w ∷ ps) all = a_token (item x 0 w) (subst (FitsBefore (item x 0 w)) (append-nil (text_of ps)) all.0) (spaced ps all.1)

pub fitting_cut : (ps : List Piece) → AllFit ps [] → IsCutInto (text_of ps) (tokens_of ps)
fitting_cut ps all = spaced_cut (tokens_of ps) (text_of ps) (spaced ps all)
