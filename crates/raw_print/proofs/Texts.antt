-- Texts that are printed piece by piece.
use Rattle.std.proofs.Common.{◌≡◌, ◌∙◌, sym as back, ap, refl, ℕ, zero, suc, ◌+◌, ◌<◌, ◌≤◌, List, [], ◌∷◌, ◌++◌, length, map, drop, get_or, arith, add-one, append_assoc, Result, Ok, Err}
use Rattle.std.proofs.Math.Seq.{drop-cons}
use Rattle.std.proofs.lemmas.List.{append-nil, drop-map}
use Rattle.std.specs.Result.{OnOk}
use Rattle.std.specs.Prelude.{IfOk}
use Rattle.formula_core.specs.declared.raw.RawOp.{RawOp}
use Rattle.formula_core.specs.declared.raw.RawBound.{RawBound}
use Rattle.formula_core.specs.declared.raw.Raw.{Raw}
use Rattle.formula_core.specs.declared.raw.Raw.TheVariants as raw
use Rattle.math_grammar.specs.declared.levels.Bracket.TheVariants as bracket
use Rattle.math_grammar.specs.declared.levels.Call.{Call}
use Rattle.math_grammar.specs.declared.symbols.Symbol.{Symbol}
use Rattle.math_grammar.specs.declared.symbols.Symbol.TheVariants as sym
use Rattle.math_grammar.specs.Characters.{bytes}
use Rattle.token_text.specs.Pieces.{Piece, Token, text_of, close_round_piece, close_brace_piece, behind_commas, separated_pieces}
use Rattle.raw_print.specs.Printing.{bare, form, pieces, side, names_in_parts, pattern_name_count, pattern_of_parts, pattern}
use Rattle.raw_print.specs.Private.{with_pieces, declared, with_pattern}
use Rattle.token_text.proofs.Pieces.{text-append}
use Rattle.raw_print.proofs.Equations.{names_in-Node, pattern-Name, pattern-Node}

-- what holds of a success follows from what else holds of it
pub on_ok : {T E : Type 0} (r : Result T E) {P Q : Type 0} → (P → Q) → OnOk r P → OnOk r Q
on_ok (Ok x) f p = f p
on_ok (Err e) f p = tt

pub two_pieces : (old one two a b : List ℕ) → one ≡ old ++ a → two ≡ one ++ b → two ≡ old ++ (a ++ b)
two_pieces old one two a b e f = f ∙ ap (λ t. t ++ b) e ∙ append_assoc old a b

pub three_pieces : (old one two three a b c : List ℕ) → one ≡ old ++ a → two ≡ one ++ b → three ≡ two ++ c → three ≡ old ++ (a ++ (b ++ c))
three_pieces old one two three a b c e f g = two_pieces old one three a (b ++ c) e (two_pieces one two three b c f g)

module _ {X : Type 0} (pieces_of : X → List Piece) where
  -- one more part behind others
  pub one_more : (items : List X) (i : ℕ) (x : X) (out comma more start : List ℕ) → i < length items → x ≡ get_or items i x
      → comma ≡ out ++ bytes ", " → more ≡ comma ++ text_of (pieces_of x)
      → out ++ text_of (behind_commas (map pieces_of (drop i items))) ≡ start → more ++ text_of (behind_commas (map pieces_of (drop (i + 1) items))) ≡ start
  one_more items i x out comma more start short at one two before =
      let first : drop i items ≡ x ∷ drop (i + 1) items = drop-cons items i x short ∙ (λ k. back at k ∷ drop (back (add-one i) k) items) in
      let later : List (List Piece) = map pieces_of (drop (i + 1) items) in
      ap (λ t. t ++ text_of (behind_commas later)) (two_pieces out comma more (bytes ", ") (text_of (pieces_of x)) one two)
      ∙ append_assoc out (bytes ", " ++ text_of (pieces_of x)) (text_of (behind_commas later))
      ∙ ap (λ t. out ++ (bytes ", " ++ t)) (back (text-append (pieces_of x) (behind_commas later)))
      ∙ ap (λ xs. out ++ text_of (behind_commas (map pieces_of xs))) (back first) ∙ before

  none_left : (items : List X) (i : ℕ) → length items ≤ i → drop i items ≡ []
  none_left items i many = drop_all items i many
    where
      drop_all : (xs : List X) (n : ℕ) → length xs ≤ n → drop n xs ≡ []
      drop_all [] zero h = refl
      drop_all [] (suc n) h = refl
      drop_all (x ∷ xs) zero h = absurd (omega arith)
      drop_all (x ∷ xs) (suc n) h = drop_all xs n (omega arith)

  -- all parts
  pub all_parts : (items rest : List X) (x : X) (i : ℕ) (old one out : List ℕ) → items ≡ x ∷ rest → length rest ≤ i → one ≡ old ++ text_of (pieces_of x)
      → out ++ text_of (behind_commas (map pieces_of (drop i rest))) ≡ one ++ text_of (behind_commas (map pieces_of rest))
      → out ≡ old ++ text_of (separated_pieces (map pieces_of items))
  all_parts items rest x i old one out is many first all =
      back (append-nil out) ∙ ap (λ xs. out ++ text_of (behind_commas (map pieces_of xs))) (back (none_left rest i many)) ∙ all
      ∙ ap (λ t. t ++ text_of (behind_commas (map pieces_of rest))) first
      ∙ append_assoc old (text_of (pieces_of x)) (text_of (behind_commas (map pieces_of rest)))
      ∙ ap (λ t. old ++ t) (back (text-append (pieces_of x) (behind_commas (map pieces_of rest))))
      ∙ ap (λ xs. old ++ text_of (separated_pieces (map pieces_of xs))) (back is)

pub one_part : {X : Type 0} (xs : List X) (x : X) → 1 ≤ length xs → length xs < 2 → x ≡ get_or xs 0 x → xs ≡ x ∷ []
one_part [] x some few first = absurd (omega arith)
one_part (y ∷ []) x some few first = ap (λ z. z ∷ []) (back first)
one_part (y ∷ z ∷ zs) x some few first = absurd (omega arith)

pub two_parts : {X : Type 0} (xs : List X) (x y : X) → 2 ≤ length xs → length xs < 3 → x ≡ get_or xs 0 x → y ≡ get_or xs 1 y → xs ≡ x ∷ y ∷ []
two_parts [] x y some few first second = absurd (omega arith)
two_parts (a ∷ []) x y some few first second = absurd (omega arith)
two_parts (a ∷ b ∷ []) x y some few first second = λ i. back first i ∷ back second i ∷ []
two_parts (a ∷ b ∷ c ∷ cs) x y some few first second = absurd (omega arith)

pub if_ok : {T E : Type 0} (r : Result T E) (P Q : T → Type 0) → ((x : T) → P x → Q x) → IfOk r P → IfOk r Q
if_ok (Ok x) P Q f p = f x p
if_ok (Err e) P Q f p = tt

pub pieces-alone : (rs : List Raw) → bare (map with_pieces rs) ≡ map pieces rs
pieces-alone [] = refl
pieces-alone (r ∷ rs) = ap (λ ps. pieces r ∷ ps) (pieces-alone rs)

-- a list between brackets
listed : (rs : List Raw) (closing : Piece) → text_of (separated_pieces (bare (map with_pieces rs)) ++ closing ∷ []) ≡ text_of (separated_pieces (map pieces rs)) ++ text_of (closing ∷ [])
listed rs closing = text-append (separated_pieces (bare (map with_pieces rs))) (closing ∷ []) ∙ ap (λ ps. text_of (separated_pieces ps) ++ text_of (closing ∷ [])) (pieces-alone rs)

pub call_text : (x y : Symbol) (c : Call) (o : RawOp) (w : List ℕ) (rs : List Raw) → x ≡ sym.Call c o
    → text_of (form x (Token y w) (map with_pieces rs)) ≡ w ++ (bytes "(" ++ (text_of (separated_pieces (map pieces rs)) ++ bytes ")"))
call_text x y c o w rs is = ap (λ z. text_of (form z (Token y w) (map with_pieces rs))) is ∙ ap (λ t. w ++ (bytes "(" ++ t)) (listed rs close_round_piece)

pub set_text : (x y : Symbol) (w : List ℕ) (rs : List Raw) → x ≡ sym.Open bracket.Brace
    → text_of (form x (Token y w) (map with_pieces rs)) ≡ bytes "{" ++ (text_of (separated_pieces (map pieces rs)) ++ bytes "}")
set_text x y w rs is = ap (λ z. text_of (form z (Token y w) (map with_pieces rs))) is ∙ ap (λ t. bytes "{" ++ t) (listed rs close_brace_piece)

-- a name where none is left
pub none_named : (tree : Raw) (x : List ℕ) (place : ℕ) (names : List RawBound) → tree ≡ raw.Name x place → length names ≡ 0 → text_of (pattern tree (map declared names)) ≡ []
none_named tree x place [] is none = ap (λ t. text_of (pattern t [])) is ∙ ap text_of (pattern-Name x place [])
none_named tree x place (b ∷ names) is none = absurd (omega arith)

module _ (tree l r : Raw) (o : RawOp) (parts : List Raw) (place : ℕ) (is : tree ≡ raw.Node o parts place) (two : parts ≡ l ∷ r ∷ []) where
  pub names_in-pair : pattern_name_count tree ≡ pattern_name_count l + pattern_name_count r
  names_in-pair = ap pattern_name_count is ∙ names_in-Node o parts place ∙ ap (λ ps. names_in_parts (map pattern_name_count ps)) two

  pub pattern_text : (names : List RawBound)
      → text_of (pattern tree (map declared names)) ≡ text_of (side (with_pattern l) (map declared names)) ++ (bytes " ↦ " ++ text_of (side (with_pattern r) (map declared (drop (pattern_name_count l) names))))
  pattern_text names =
      ap (λ t. text_of (pattern t (map declared names))) is ∙ ap text_of (pattern-Node o parts place (map declared names))
      ∙ ap (λ ps. text_of (pattern_of_parts (map with_pattern ps) (map declared names))) two
      ∙ text-append (side (with_pattern l) (map declared names)) _
      ∙ ap (λ ns. text_of (side (with_pattern l) (map declared names)) ++ (bytes " ↦ " ++ text_of (side (with_pattern r) ns))) (drop-map declared (pattern_name_count l) names)

-- a node that is no pair names nothing
module _ (tree : Raw) (o : RawOp) (parts : List Raw) (place : ℕ) (is : tree ≡ raw.Node o parts place) (other : length parts ≡ 2 → ⊥) where
  no_names : (rs : List Raw) → (length rs ≡ 2 → ⊥) → names_in_parts (map pattern_name_count rs) ≡ 0
  no_names [] h = refl
  no_names (a ∷ []) h = refl
  no_names (a ∷ b ∷ []) h = absurd (h refl)
  no_names (a ∷ b ∷ c ∷ rs) h = refl

  no_text : (rs : List Raw) (names : List (List Piece)) → (length rs ≡ 2 → ⊥) → text_of (pattern_of_parts (map with_pattern rs) names) ≡ []
  no_text [] names h = refl
  no_text (a ∷ []) names h = refl
  no_text (a ∷ b ∷ []) names h = absurd (h refl)
  no_text (a ∷ b ∷ c ∷ rs) names h = refl

  pub names_in-other : pattern_name_count tree ≡ 0
  names_in-other = ap pattern_name_count is ∙ names_in-Node o parts place ∙ no_names parts other

  pub pattern-other : (names : List (List Piece)) → text_of (pattern tree names) ≡ []
  pattern-other names = ap (λ t. text_of (pattern t names)) is ∙ ap text_of (pattern-Node o parts place names) ∙ no_text parts names other
