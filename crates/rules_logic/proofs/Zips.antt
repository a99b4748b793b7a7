-- Pairs of the members of two lists, one pair more.
use Rattle.std.proofs.Common.{◌≡◌, ◌∙◌, sym, ap, ℕ, zero, suc, ◌+◌, ◌<◌, List, [], ◌∷◌, ◌++◌, length, take, get_or, arith}
use Rattle.std.specs.List.{zip}

pub zip_more : {X Y : Type 0} → (xs : List X) (ys : List Y) (i : ℕ) (x : X) (y : Y) → i < length xs → i < length ys → x ≡ get_or xs i x → y ≡ get_or ys i y
    → zip (take (i + 1) xs) (take (i + 1) ys) ≡ zip (take i xs) (take i ys) ++ (x, y) ∷ []
zip_more [] ys i x y h k e f = absurd (omega arith)
zip_more (a ∷ xs) [] i x y h k e f = absurd (omega arith)
zip_more (a ∷ xs) (b ∷ ys) zero x y h k e f = λ j. (sym e j, sym f j) ∷ []
zip_more (a ∷ xs) (b ∷ ys) (suc i) x y h k e f = (λ j. zip (take (next j) (a ∷ xs)) (take (next j) (b ∷ ys))) ∙ ap (λ zs. (a, b) ∷ zs) (zip_more xs ys i x y (omega arith) (omega arith) e f) where
  next : suc i + 1 ≡ suc (i + 1)
  next = omega arith
