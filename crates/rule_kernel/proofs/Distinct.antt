-- A name that stands among those before it isn't distinct from them.
use Rattle.std.proofs.Common.{◌≡◌, ◌∙◌, sym, ap, subst, refl, ℕ, zero, suc, ◌<◌, Bool, true, false, cond, List, [], ◌∷◌, length, take, get_or, Some, arith}
use Rattle.std.specs.Prelude.{bytes_eq, IsSome, is_some}
use Rattle.std.specs.List.{AllByRecursion, IsDistinct}
use Rattle.std.specs.Map.{keys_of}
use Rattle.std.specs.Cmp.Lexicographic.{same_text}
use Rattle.std.proofs.lemmas.Slice.Eq.{bytes_eq-Decides}
use Rattle.formula_core.specs.declared.Ty.{Ty}
use Rattle.formula_core.specs.Env.{HasDistinctNames, type_in}

abbrev Names : Type 0
Names = List (List ℕ × Ty)

flipped : (x y : List ℕ) → bytes_eq x y ≡ true → bytes_eq y x ≡ true
flipped x y h = (bytes_eq-Decides y x).1 (sym (same_text x y (sym h)))

other_at : (P : List ℕ → Type 0) (xs : Names) (i : ℕ) (x : List ℕ × Ty) → i < length xs → x ≡ get_or xs i x → AllByRecursion P (keys_of xs) → P x.0
other_at P [] i x h e ps = absurd (omega arith)
other_at P (y ∷ xs) zero x h e ps = subst (λ z. P z.0) (sym e) ps.0
other_at P (y ∷ xs) (suc i) x h e ps = other_at P xs i x (omega arith) e ps.1

among : (xs : Names) (i : ℕ) (x y : List ℕ × Ty) → i < length xs → x ≡ get_or xs i x → AllByRecursion (λ z. bytes_eq y.0 z ≡ false) (keys_of xs) → (IsSome (type_in (take i xs) x.0) → ⊥)
    → (b : Bool) → bytes_eq x.0 y.0 ≡ b → IsSome (cond b (Some y.1) (type_in (take i xs) x.0)) → ⊥
among xs i x y h e apart rest true same s =
    let none : bytes_eq y.0 x.0 ≡ false = other_at (λ z. bytes_eq y.0 z ≡ false) xs i x h e apart in
    let one : bytes_eq y.0 x.0 ≡ true = flipped x.0 y.0 same in
    cc
among xs i x y h e apart rest false same s = rest s

pub twice : (xs : Names) (i : ℕ) (x : List ℕ × Ty) → i < length xs → x ≡ get_or xs i x → IsSome (type_in (take i xs) x.0) → HasDistinctNames xs → ⊥
unfolding IsDistinct
twice [] i x h e s d = absurd (omega arith)
twice (y ∷ xs) zero x h e s d = absurd (cc s)
twice (y ∷ xs) (suc i) x h e s d = among xs i x y (omega arith) e d.0 (λ t. twice xs i x (omega arith) e t d.1) (bytes_eq x.0 y.0) refl s
