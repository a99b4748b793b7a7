-- Lists of the same tokens, one by one.
use Rattle.std.proofs.Common.{◌≡◌, ap, subst, refl, ℕ, suc, List, [], ◌∷◌, map, length}
use Rattle.math_grammar.specs.declared.symbols.Symbol.{Symbol}
use Rattle.math_grammar.specs.Tokens.{Item}
use Rattle.math_grammar.specs.Grammar.{item}
use Rattle.math_places.specs.Places.{unplaced_item, AlikeTokens}

pub data Alike : List Item → List Item → Type 0 where
  none : Alike [] []
  next : {x : Item} {q : ℕ} {s others : List Item} → Alike s others → Alike (x ∷ s) (item x.symbol q x.text ∷ others)

next_at : (x y : Item) (s others : List Item) → x.symbol ≡ y.symbol → x.text ≡ y.text → Alike s others → Alike (x ∷ s) (y ∷ others)
next_at x y s others e d rest =
    let q : ℕ = y.from in
    subst (λ (c : Symbol). Alike (x ∷ s) (item c q y.text ∷ others)) e (subst (λ (w : List ℕ). Alike (x ∷ s) (item x.symbol q w ∷ others)) d (next rest))

pub one_by_one : (s others : List Item) → AlikeTokens s others → Alike s others
one_by_one [] [] e = none
one_by_one [] (y ∷ others) e = cc
one_by_one (x ∷ s) [] e = cc
one_by_one (x ∷ s) (y ∷ others) e =
    let first : unplaced_item x ≡ unplaced_item y = cc in
    let rest : map unplaced_item s ≡ map unplaced_item others = cc in
    next_at x y s others (ap (λ (z : Item). z.symbol) first) (ap (λ (z : Item). z.text) first) (one_by_one s others rest)

pub at_once : {s others : List Item} → Alike s others → AlikeTokens s others
at_once none = refl
at_once (next {x = x} a) = ap (λ (z : List Item). unplaced_item x ∷ z) (at_once a)

symbols : {s others : List Item} → Alike s others → map (λ (x : Item). x.symbol) s ≡ map (λ (x : Item). x.symbol) others
symbols none = refl
symbols (next {x = x} a) = ap (λ (z : List Symbol). x.symbol ∷ z) (symbols a)

lengths : {s others : List Item} → Alike s others → length s ≡ length others
lengths none = refl
lengths (next a) = ap suc (lengths a)

pub same_symbols : (s others : List Item) → AlikeTokens s others → map (λ (x : Item). x.symbol) s ≡ map (λ (x : Item). x.symbol) others
same_symbols s others e = symbols (one_by_one s others e)

pub same_length : (s others : List Item) → AlikeTokens s others → length s ≡ length others
same_length s others e = lengths (one_by_one s others e)

pub at_end : (others : List Item) → Alike [] others → others ≡ []
at_end _ none = refl
