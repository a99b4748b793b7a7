-- What stands at a place of a list and of its image.
use Rattle.std.proofs.Common.{◌≡◌, ◌∙◌, sym, ap, subst, ℕ, zero, suc, ◌<◌, List, [], ◌∷◌, get_or, length, map, arith}
use Rattle.std.proofs.Math.ListN.{get_or-map}
use Rattle.std.specs.List.{AllByRecursion}

-- the image at a place is that of the element there
pub mapped_at : {X Y : Type 0} (f : X → Y) (xs : List X) (i : ℕ) (x : X) (y : Y) → i < length xs → x ≡ get_or xs i x → y ≡ get_or (map f xs) i y → y ≡ f x
mapped_at f [] i x y lt is its = absurd (omega arith)
mapped_at f (z ∷ xs) zero x y lt is its = its ∙ ap f (sym is)
mapped_at f (z ∷ xs) (suc i) x y lt is its = mapped_at f xs i x y (omega arith) is its

-- what holds of every element holds of the one at a place
pub all_at : {X : Type 0} (P : X → Type 0) (xs : List X) (i : ℕ) (x : X) → i < length xs → x ≡ get_or xs i x → AllByRecursion P xs → P x
all_at P [] i x lt is all = absurd (omega arith)
all_at P (y ∷ xs) zero x lt is all = subst P (sym is) all.0
all_at P (y ∷ xs) (suc i) x lt is all = all_at P xs i x (omega arith) is all.1

-- what stands at a place of a list stands there after a map
pub map_at : {X Y : Type 0} (f : X → Y) (xs : List X) (i : ℕ) (x : X) → x ≡ get_or xs i x → f x ≡ get_or (map f xs) i (f x)
map_at f xs i x is = ap f is ∙ sym (get_or-map f xs i x)
