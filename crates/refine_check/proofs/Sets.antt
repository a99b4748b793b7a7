-- Texts to which others are added.
use Rattle.std.proofs.Common.{◌≡◌, ◌∙◌, ap, refl, ℕ, List, [], ◌∷◌, ◌++◌, take, length}
use Rattle.std.specs.Borrow.{Bor}
use Rattle.model_core.specs.Borrowed.{texts}

-- the texts that stood there before others were added
pub cut : (xs ys : List (Bor (List ℕ))) (zs : List (List ℕ)) (n : ℕ) → texts ys ≡ texts xs ++ zs → n ≡ length xs → texts (take n ys) ≡ texts xs
cut xs ys zs n e is = ap (λ k. texts (take k ys)) is ∙ begun xs ys zs e
  where
    begun : (xs ys : List (Bor (List ℕ))) (zs : List (List ℕ)) → texts ys ≡ texts xs ++ zs → texts (take (length xs) ys) ≡ texts xs
    begun [] ys zs e = refl
    begun (x ∷ xs) [] zs e = cc
    begun (x ∷ xs) (y ∷ ys) zs e = let t : texts (take (length xs) ys) ≡ texts xs = begun xs ys zs (cc) in cc
