-- The texts and the tokens of pieces that stand one behind another.
use Rattle.std.proofs.Common.{◌≡◌, ◌∙◌, sym as back, ap, refl, ℕ, List, [], ◌∷◌, ◌++◌, append_assoc}
use Rattle.math_grammar.specs.Tokens.{Item}
use Rattle.math_grammar.specs.Grammar.{item}
use Rattle.token_text.specs.Pieces.{Piece, Blank, Token, piece_text, text_of, tokens_of}

pub text-append : (ps qs : List Piece) → text_of (ps ++ qs) ≡ text_of ps ++ text_of qs
text-append [] qs = refl
text-append (p ∷ ps) qs = ap (λ t. piece_text p ++ t) (text-append ps qs) ∙ back (append_assoc (piece_text p) (text_of ps) (text_of qs))

pub text-behind : (ps qs : List Piece) (rest : List ℕ) → text_of (ps ++ qs) ++ rest ≡ text_of ps ++ (text_of qs ++ rest)
text-behind ps qs rest = ap (λ t. t ++ rest) (text-append ps qs) ∙ append_assoc (text_of ps) (text_of qs) rest

pub tokens-append : (ps qs : List Piece) → tokens_of (ps ++ qs) ≡ tokens_of ps ++ tokens_of qs
tokens-append [] qs = refl
tokens-append (Blank ∷ ps) qs = tokens-append ps qs
tokens-append (Token x w ∷ ps) qs = ap (λ t. item x 0 w ∷ t) (tokens-append ps qs)

pub tokens-behind : (ps qs : List Piece) (rest : List Item) → tokens_of (ps ++ qs) ++ rest ≡ tokens_of ps ++ (tokens_of qs ++ rest)
tokens-behind ps qs rest = ap (λ t. t ++ rest) (tokens-append ps qs) ∙ append_assoc (tokens_of ps) (tokens_of qs) rest

-- the token of a piece before others
abbrev pub token_before : Piece → List Item → List Item
token_before p rest = tokens_of (p ∷ []) ++ rest
