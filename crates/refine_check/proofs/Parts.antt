-- A part of a list beside another list.
use Rattle.std.proofs.Common.{◌≡◌, ◌+◌, ap, refl, sym, ℕ, zero, suc, List, [], ◌∷◌, map, take, drop, length, arith}
use Rattle.std.specs.Prelude.{min}
use Rattle.std.specs.List.{zip}

drop_none : {A : Type 0} (k : ℕ) (xs : List A) → xs ≡ [] → drop k xs ≡ []
drop_none zero xs e = e
drop_none (suc k) xs e = ap (drop (suc k)) e

-- the first components of what stands from k on
pub part : {A B : Type 0} (xs : List A) (ys : List B) (k e n f : ℕ) → e ≡ min (length xs) (length ys) → f ≡ min k e → n + f ≡ e →
    take n (drop f xs) ≡ map (λ p. p.0) (drop k (zip xs ys))
part [] ys k e n f a b c =
    let n_is : n ≡ 0 = omega arith in
    rw n_is (sym (ap (map (λ p. p.0)) (drop_none k [] refl)))
part (x ∷ xs) [] k e n f a b c =
    let n_is : n ≡ 0 = omega arith in
    rw n_is (sym (ap (map (λ p. p.0)) (drop_none k [] refl)))
part (x ∷ xs) (y ∷ ys) zero e n f a b c =
    let n_is : n ≡ suc (min (length xs) (length ys)) = omega arith in
    let f_is : f ≡ 0 = omega arith in
    rw (n_is, f_is) (ap (λ zs. x ∷ zs) (part xs ys zero (min (length xs) (length ys)) (min (length xs) (length ys)) 0 refl (omega arith) (omega arith)))
part (x ∷ xs) (y ∷ ys) (suc k) e n f a b c =
    let f_is : f ≡ suc (min k (min (length xs) (length ys))) = omega arith in
    rw f_is (part xs ys k (min (length xs) (length ys)) n (min k (min (length xs) (length ys))) refl refl (omega arith))
