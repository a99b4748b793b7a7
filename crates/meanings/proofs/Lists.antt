-- Members of lists.
use Rattle.std.proofs.Common.{Contains, List, Some, [], arith, length, map, refl, slice_get, slice_index_or, subst, suc, zero, ℕ, ◌<◌, ◌∷◌, ◌≡◌}
use Rattle.std.specs.List.{AllByRecursion}

pub all_contained : {X : Type 0} → (P : X → Type 0) (xs : List X) (x : X) → AllByRecursion P xs → Contains xs x → P x
all_contained P [] x h c = absurd (omega (arith, c.1))
all_contained P (y ∷ xs) x h c = go (all_contained P xs x h.1) c.0 c.1 c.2
  where
    go : (Contains xs x → P x) → (k : ℕ) → k < length (y ∷ xs) → slice_index_or (y ∷ xs) k x ≡ x → P x
    go later zero lt e = subst P e h.0
    go later (suc k) lt e = later (k, omega (arith, lt), e)

pub found : {X : Type 0} → (P : X → Type 0) (xs : List X) (k : ℕ) (x : X) → AllByRecursion P xs → slice_get xs k ≡ Some x → P x
found P [] k x h e = absurd cc
found P (y ∷ xs) zero x h e = let same : y ≡ x = cc in subst P same h.0
found P (y ∷ xs) (suc k) x h e = found P xs k x h.1 e

-- of each member beside what a function makes of it: the members, and what it makes
pub members_of_pairs : {X Y : Type 0} → (g : X → Y) (xs : List X) → map (λ (p : X × Y). p.0) (map (λ x. (x, g x)) xs) ≡ xs
members_of_pairs g [] = refl
members_of_pairs g (x ∷ xs) = λ i. x ∷ members_of_pairs g xs i

pub made_of_pairs : {X Y : Type 0} → (g : X → Y) (xs : List X) → map (λ (p : X × Y). p.1) (map (λ x. (x, g x)) xs) ≡ map g xs
made_of_pairs g [] = refl
made_of_pairs g (x ∷ xs) = λ i. g x ∷ made_of_pairs g xs i
