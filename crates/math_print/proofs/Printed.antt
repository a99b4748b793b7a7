-- How the pieces of a form fit together.
use Rattle.std.proofs.Common.{sym as back, subst, refl, ℕ, Bool, true, false, List, [], ◌∷◌, ◌++◌}
use Rattle.std.specs.List.{AllByRecursion}
use Rattle.formula_print.specs.Printing.{in_round_if}
use Rattle.token_text.specs.Pieces.{Piece, Blank, text_of, close_round_piece, open_round_piece, open_square_piece, close_square_piece, open_brace_piece, close_brace_piece, comma_piece, in_round, in_square, in_braces, sign_between, behind_commas, separated_pieces}
use Rattle.token_text.proofs.Fitting.{Fits, AllFit, fit_beside}
use Rattle.token_text.proofs.Following.{stops, Follows}
use Rattle.token_text.proofs.Pieces.{text-behind}
use Rattle.token_text.proofs.Signs.{opens_set}
use Rattle.math_print.proofs.SignFits.{fits-open_round, fits-close_round, fits-open_square, fits-close_square, fits-open_brace, fits-close_brace, fits-comma}

-- the tokens of the pieces fit before what stops
abbrev pub IsPrinted : List Piece → Type 0
IsPrinted ps = (rest : List ℕ) → Follows stops rest → AllFit ps rest

-- what follows stops where the text does
abbrev pub Stops : List Piece → Type 0
Stops ps = (rest : List ℕ) → Follows stops rest → Follows stops (text_of ps ++ rest)

-- the text begins with no closing brace
abbrev pub Opens : List Piece → Type 0
Opens ps = (rest : List ℕ) → Follows opens_set (text_of ps ++ rest)

pub opens_with : (ps qs : List Piece) → Opens ps → Opens (ps ++ qs)
opens_with ps qs o rest = subst (Follows opens_set) (back (text-behind ps qs rest)) (o (text_of qs ++ rest))

pub nothing : IsPrinted []
nothing rest h = tt

pub nothing_stops : Stops []
nothing_stops rest h = h

pub token : (p : Piece) (ps : List Piece) → ((rest : List ℕ) → Follows stops rest → Fits p (text_of ps ++ rest)) → IsPrinted ps → IsPrinted (p ∷ ps)
token p ps fit is rest h = (fit rest h, is rest h)

pub lone : (p : Piece) → ((rest : List ℕ) → Follows stops rest → Fits p rest) → IsPrinted (p ∷ [])
lone p fit = token p [] fit nothing

pub blank : (ps : List Piece) → IsPrinted ps → IsPrinted (Blank ∷ ps)
blank ps = token Blank ps (λ rest h. tt)

pub beside : (ps qs : List Piece) → IsPrinted ps → Stops qs → IsPrinted qs → IsPrinted (ps ++ qs)
beside ps qs a stop b rest h = fit_beside ps qs rest (a (text_of qs ++ rest) (stop rest h)) (b rest h)

-- in brackets
pub round : (ps : List Piece) → IsPrinted ps → IsPrinted (in_round ps)
round ps is = token open_round_piece (ps ++ close_round_piece ∷ []) (λ rest h. fits-open_round (text_of (ps ++ close_round_piece ∷ []) ++ rest))
    (beside ps (close_round_piece ∷ []) is (λ rest h. refl) (lone close_round_piece (λ rest h. fits-close_round rest)))

pub square : (ps : List Piece) → IsPrinted ps → IsPrinted (in_square ps)
square ps is = token open_square_piece (ps ++ close_square_piece ∷ []) (λ rest h. fits-open_square (text_of (ps ++ close_square_piece ∷ []) ++ rest))
    (beside ps (close_square_piece ∷ []) is (λ rest h. refl) (lone close_square_piece (λ rest h. fits-close_square rest)))

pub braces : (ps : List Piece) → Opens ps → IsPrinted ps → IsPrinted (in_braces ps)
braces ps o is = token open_brace_piece (ps ++ close_brace_piece ∷ []) (λ rest h. fits-open_brace (text_of (ps ++ close_brace_piece ∷ []) ++ rest) (opens_with ps (close_brace_piece ∷ []) o rest))
    (beside ps (close_brace_piece ∷ []) is (λ rest h. refl) (lone close_brace_piece (λ rest h. fits-close_brace rest)))

pub rounded : (needed : Bool) (ps : List Piece) → IsPrinted ps → IsPrinted (in_round_if needed ps)
rounded true ps is = round ps is
rounded false ps is = is

pub rounded_opens : (needed : Bool) (ps : List Piece) → Opens ps → Opens (in_round_if needed ps)
rounded_opens true ps o = λ rest. refl
rounded_opens false ps o = o

-- a sign between blanks
pub infix_form : (p : Piece) (ps qs : List Piece) → ((rest : List ℕ) → Fits p (32 ∷ rest)) → IsPrinted ps → IsPrinted qs → IsPrinted (sign_between ps p qs)
infix_form p ps qs fit a b = beside ps (Blank ∷ p ∷ Blank ∷ qs) a (λ rest h. refl) (blank (p ∷ Blank ∷ qs) (token p (Blank ∷ qs) (λ rest h. fit (text_of qs ++ rest)) (blank qs b)))

-- a word before parentheses
pub call_form : (p : Piece) (ps : List Piece) → ((rest : List ℕ) → Fits p (40 ∷ rest)) → IsPrinted ps → IsPrinted (p ∷ in_round ps)
call_form p ps fit is = token p (in_round ps) (λ rest h. fit (text_of (ps ++ close_round_piece ∷ []) ++ rest)) (round ps is)

-- lists between commas
abbrev pub ArePrinted : List (List Piece) → Type 0
ArePrinted pss = AllByRecursion IsPrinted pss

commas_stop : (pss : List (List Piece)) → Stops (behind_commas pss)
commas_stop [] rest h = h
commas_stop (ps ∷ pss) rest h = refl

behind : (pss : List (List Piece)) → ArePrinted pss → IsPrinted (behind_commas pss)
behind [] all = nothing
behind (ps ∷ pss) all =
    token comma_piece (Blank ∷ (ps ++ behind_commas pss)) (λ rest h. fits-comma (text_of (Blank ∷ (ps ++ behind_commas pss)) ++ rest))
    (blank (ps ++ behind_commas pss) (beside ps (behind_commas pss) all.0 (commas_stop pss) (behind pss all.1)))

pub separated_form : (pss : List (List Piece)) → ArePrinted pss → IsPrinted (separated_pieces pss)
separated_form [] all = nothing
separated_form (ps ∷ pss) all = beside ps (behind_commas pss) all.0 (commas_stop pss) (behind pss all.1)
