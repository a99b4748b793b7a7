-- Members of lists, and what a test says of all of them.
use Rattle.std.proofs.Common.{◌≡◌, ◌∙◌, inl, inr, sym, subst, refl, ℕ, suc, Bool, true, false, cond, ◌||◌, List, [], ◌∷◌, None, Some, Contains, arith}
use Rattle.std.specs.Prelude.{bytes_eq}
use Rattle.std.specs.List.{AllByRecursion, list_any}
use Rattle.std.specs.Map.{keys_of, lookup}
use Rattle.formula_core.specs.declared.formula.Formula.{Formula}
use Rattle.model_core.specs.Each.{IsIn}

pub all_in : {X : Type 0} → (P : X → Type 0) (xs : List X) (x : X) → AllByRecursion P xs → IsIn x xs → P x
all_in P [] x h k = absurd k
all_in P (y ∷ xs) x h (inl e) = subst P (sym e) h.0
all_in P (y ∷ xs) x h (inr k) = all_in P xs x h.1 k

pub all_from : {X : Type 0} → (P : X → Type 0) (xs : List X) → ((x : X) → Contains xs x → P x) → AllByRecursion P xs
all_from P [] h = tt
all_from P (x ∷ xs) h = (h x (0, omega arith, refl), all_from P xs (λ y c. h y (suc c.0, omega (arith, c.1), c.2)))

pub none_of_any : {X : Type 0} → (p : X → Bool) (xs : List X) → list_any p xs ≡ false → AllByRecursion (λ x. p x ≡ false) xs
none_of_any p [] h = tt
none_of_any p (x ∷ xs) h =
    let go : (b : Bool) → p x ≡ b → (b || list_any p xs) ≡ false → (p x ≡ false) × (list_any p xs ≡ false) = elim [
      | true ↦ λ e k. absurd cc
      | false ↦ λ e k. (e, k)
    ] in
    let both = go (p x) refl h in (both.0, none_of_any p xs both.1)

-- what is no key isn't found
pub not_found : (name : List ℕ) (pairs : List (List ℕ × Formula)) → AllByRecursion (λ y. bytes_eq name y ≡ false) (keys_of pairs) → lookup (bytes_eq name) pairs ≡ None
not_found name [] h = refl
not_found name (p ∷ pairs) h = (λ i. cond (h.0 i) (Some p.1) (lookup (bytes_eq name) pairs)) ∙ not_found name pairs h.1
