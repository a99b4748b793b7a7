-- Texts that are printed piece by piece.
use Rattle.std.proofs.Common.{◌≡◌, ◌∙◌, sym, ap, refl, ℕ, zero, suc, ◌+◌, ◌<◌, ◌≤◌, false, List, [], ◌∷◌, ◌++◌, length, map, drop, get_or, arith, add-one, append_assoc, Result, Ok, Err}
use Rattle.std.proofs.Math.Seq.{drop-cons}
use Rattle.std.specs.Result.{OnOk}
use Rattle.formula_core.specs.declared.formula.Formula.{Formula}
use Rattle.formula_core.specs.declared.ty.Ty.{Ty}
use Rattle.formula_core.specs.declared.op.Op.{Op}
use Rattle.formula_core.specs.declared.op.Op.TheVariants.{SetExtension}
use Rattle.token_text.specs.Pieces.{Piece, Blank, text_of, comma_piece, behind_commas, separated_pieces}
use Rattle.token_text.proofs.Pieces.{text-append}
use Rattle.formula_print.specs.declared.levels.Side.TheVariants as side
use Rattle.formula_print.specs.Printing.{PrintedPart, printed, printed_declaration, printed_declarations, name_at, printed_operand, printed_unary, printed_second, printed_operator}
use Rattle.formula_print.specs.Private.{printed_parts, comma_after}

-- what holds of a success follows from what else holds of it
pub on_ok : {T E : Type 0} (r : Result T E) {P Q : Type 0} → (P → Q) → OnOk r P → OnOk r Q
on_ok (Ok x) f p = f p
on_ok (Err e) f p = tt

pub two_pieces : (old one two a b : List ℕ) → one ≡ old ++ a → two ≡ one ++ b → two ≡ old ++ (a ++ b)
two_pieces old one two a b e f = f ∙ ap (λ t. t ++ b) e ∙ append_assoc old a b

pub three_pieces : (old one two three a b c : List ℕ) → one ≡ old ++ a → two ≡ one ++ b → three ≡ two ++ c → three ≡ old ++ (a ++ (b ++ c))
three_pieces old one two three a b c e f g = two_pieces old one three a (b ++ c) e (two_pieces one two three b c f g)

-- parts behind so many others, with a comma and a blank between all of them
abbrev pub behind_so_many : ℕ → List (List Piece) → List Piece
behind_so_many zero parts = separated_pieces parts
behind_so_many (suc before) parts = behind_commas parts

one_behind : (before : ℕ) (part : List Piece) (parts : List (List Piece)) → behind_so_many before (part ∷ parts) ≡ comma_after before ++ (part ++ behind_so_many (before + 1) parts)
one_behind zero part parts = let e : 0 + 1 ≡ suc zero = omega arith in ap (λ n. part ++ behind_so_many n parts) (sym e)
one_behind (suc before) part parts = let e : suc before + 1 ≡ suc (suc before) = omega arith in ap (λ n. comma_piece ∷ Blank ∷ (part ++ behind_so_many n parts)) (sym e)

-- one more of the parts that are printed one after another
next_part : (i : ℕ) (part : List Piece) (parts : List (List Piece)) (out comma more : List ℕ) → comma ≡ out ++ text_of (comma_after i) → more ≡ comma ++ text_of part
    → more ++ text_of (behind_so_many (i + 1) parts) ≡ out ++ text_of (behind_so_many i (part ∷ parts))
next_part i part parts out comma more one two =
    let rest : List Piece = behind_so_many (i + 1) parts in
    ap (λ t. t ++ text_of rest) (two_pieces out comma more (text_of (comma_after i)) (text_of part) one two)
    ∙ append_assoc out (text_of (comma_after i) ++ text_of part) (text_of rest)
    ∙ ap (λ t. out ++ t)
    (append_assoc (text_of (comma_after i)) (text_of part) (text_of rest) ∙ ap (λ t. text_of (comma_after i) ++ t) (sym (text-append part rest))
    ∙ sym (text-append (comma_after i) (part ++ rest)) ∙ ap text_of (sym (one_behind i part parts)))

pub one_more : {X : Type 0} (pieces_of : X → List Piece) (items : List X) (i : ℕ) (x : X) (out comma more start : List ℕ) → i < length items → x ≡ get_or items i x
    → comma ≡ out ++ text_of (comma_after i) → more ≡ comma ++ text_of (pieces_of x)
    → out ++ text_of (behind_so_many i (map pieces_of (drop i items))) ≡ start → more ++ text_of (behind_so_many (i + 1) (map pieces_of (drop (i + 1) items))) ≡ start
one_more pieces_of items i x out comma more start short at one two before =
    let first : drop i items ≡ x ∷ drop (i + 1) items = drop-cons items i x short ∙ (λ k. sym at k ∷ drop (sym (add-one i) k) items) in
    next_part i (pieces_of x) (map pieces_of (drop (i + 1) items)) out comma more one two
    ∙ ap (λ xs. out ++ text_of (behind_so_many i (map pieces_of xs))) (sym first) ∙ before

-- the same of declarations
pub one_more_declaration : (names : List (List ℕ)) (types : List Ty) (i depth : ℕ) (t : Ty) (out comma more start : List ℕ) → i < length types → t ≡ get_or types i t
    → comma ≡ out ++ text_of (comma_after i) → more ≡ comma ++ text_of (printed_declaration (name_at names (depth + i)) t)
    → out ++ text_of (behind_so_many i (printed_declarations names (drop i types) (depth + i))) ≡ start
    → more ++ text_of (behind_so_many (i + 1) (printed_declarations names (drop (i + 1) types) (depth + (i + 1)))) ≡ start
one_more_declaration names types i depth t out comma more start short at one two before =
    let first : drop i types ≡ t ∷ drop (i + 1) types = drop-cons types i t short ∙ (λ k. sym at k ∷ drop (sym (add-one i) k) types) in
    let deeper : depth + (i + 1) ≡ depth + i + 1 = omega arith in
    ap (λ d. more ++ text_of (behind_so_many (i + 1) (printed_declarations names (drop (i + 1) types) d))) deeper
    ∙ next_part i (printed_declaration (name_at names (depth + i)) t) (printed_declarations names (drop (i + 1) types) (depth + i + 1)) out comma more one two
    ∙ ap (λ xs. out ++ text_of (behind_so_many i (printed_declarations names xs (depth + i)))) (sym first) ∙ before

pub parts-alone : (names : List (List ℕ)) (fs : List Formula) (depth : ℕ)
    → map (λ (p : PrintedPart). p.1 false depth) (printed_parts names fs) ≡ map (λ f. printed names f false depth) fs
parts-alone names [] depth = refl
parts-alone names (f ∷ fs) depth = ap (λ parts. printed names f false depth ∷ parts) (parts-alone names fs depth)

pub one_part : {X : Type 0} (xs : List X) (x : X) → 1 ≤ length xs → length xs < 2 → x ≡ get_or xs 0 x → xs ≡ x ∷ []
one_part [] x some few first = absurd (omega arith)
one_part (y ∷ []) x some few first = ap (λ z. z ∷ []) (sym first)
one_part (y ∷ z ∷ zs) x some few first = absurd (omega arith)

pub two_parts : {X : Type 0} (xs : List X) (x y : X) → 2 ≤ length xs → length xs < 3 → x ≡ get_or xs 0 x → y ≡ get_or xs 1 y → xs ≡ x ∷ y ∷ []
two_parts [] x y some few first second = absurd (omega arith)
two_parts (a ∷ []) x y some few first second = absurd (omega arith)
two_parts (a ∷ b ∷ []) x y some few first second = λ i. sym first i ∷ sym second i ∷ []
two_parts (a ∷ b ∷ c ∷ cs) x y some few first second = absurd (omega arith)

pub operator-one : (o : Op) (sign : Piece) (a : PrintedPart) (t : Ty) (depth : ℕ) → (o ≡ SetExtension → ⊥) → printed_operator o sign (a ∷ []) t depth ≡ printed_unary o sign a depth
operator-one SetExtension sign a t depth other = absurd (other refl)
operator-one _ sign a t depth other = refl

pub operator-two : (o : Op) (sign : Piece) (a b : PrintedPart) (t : Ty) (depth : ℕ) → (o ≡ SetExtension → ⊥)
    → printed_operator o sign (a ∷ b ∷ []) t depth ≡ printed_operand o side.Left a depth ++ printed_second o sign b depth
operator-two SetExtension sign a b t depth other = absurd (other refl)
operator-two _ sign a b t depth other = refl

more_parts : (o : Op) (sign : Piece) (a b c : PrintedPart) (parts : List PrintedPart) (t : Ty) (depth : ℕ) → (o ≡ SetExtension → ⊥) → printed_operator o sign (a ∷ b ∷ c ∷ parts) t depth ≡ []
more_parts SetExtension sign a b c parts t depth other = absurd (other refl)
more_parts _ sign a b c parts t depth other = refl

pub operator-more : (o : Op) (sign : Piece) (names : List (List ℕ)) (fs : List Formula) (t : Ty) (depth : ℕ) → (o ≡ SetExtension → ⊥) → 3 ≤ length fs
    → printed_operator o sign (printed_parts names fs) t depth ≡ []
operator-more o sign names [] t depth other many = absurd (omega arith)
operator-more o sign names (a ∷ []) t depth other many = absurd (omega arith)
operator-more o sign names (a ∷ b ∷ []) t depth other many = absurd (omega arith)
operator-more o sign names (a ∷ b ∷ c ∷ fs) t depth other many = more_parts o sign _ _ _ _ t depth other
