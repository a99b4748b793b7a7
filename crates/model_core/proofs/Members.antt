-- What is in a list that is made element by element is given at some element, and what is given at some element is in it.
use Rattle.std.proofs.Common.{◌⊎◌, inl, inr, sym, ap, subst, refl, List, [], ◌∷◌, ◌++◌, append_assoc, ◌↔◌}
use Rattle.std.proofs.lemmas.List.{append-nil}
use Rattle.model_core.specs.Each.{IsIn, at_each, for_each, IsGivenBeside}

-- y is given at some element
abbrev pub IsGiven : {X Y : Type 0} → (X → List Y) → List X → Y → Type 0
IsGiven {X} rows xs y = (x : X) × IsIn x xs × IsIn y (rows x)

pub in_either : {Y : Type 0} (y : Y) (xs ys : List Y) → IsIn y (xs ++ ys) → IsIn y xs ⊎ IsIn y ys
in_either y [] ys h = inr h
in_either y (x ∷ xs) ys h = elim h [
  | inl e ↦ inl (inl e)
  | inr more ↦ elim (in_either y xs ys more) [ inl a ↦ inl (inr a) | inr b ↦ inr b ]
]

pub in_first : {Y : Type 0} (y : Y) (xs ys : List Y) → IsIn y xs → IsIn y (xs ++ ys)
in_first y [] ys h = absurd h
in_first y (x ∷ xs) ys h = elim h [ inl e ↦ inl e | inr more ↦ inr (in_first y xs ys more) ]

pub in_second : {Y : Type 0} (y : Y) (xs ys : List Y) → IsIn y ys → IsIn y (xs ++ ys)
in_second y [] ys h = h
in_second y (x ∷ xs) ys h = inr (in_second y xs ys h)

pub given_beside : {X Y : Type 0} (rows : List X → X → List Y) (earlier xs : List X) (y : Y) → IsIn y (at_each rows earlier xs) → IsGivenBeside rows earlier xs y
given_beside rows earlier [] y h = absurd h
given_beside {X} rows earlier (x ∷ xs) y h = elim (in_either y (rows earlier x) (at_each rows (earlier ++ x ∷ []) xs) h) [
  | inl here ↦ ([], x, xs, refl, subst (λ b. IsIn y (rows b x)) (sym (append-nil earlier)) here)
  | inr more ↦ let g = given_beside rows (earlier ++ x ∷ []) xs y more in
      (x ∷ g.0, g.1, g.2, ap (λ ys. x ∷ ys) g.3, subst (λ b. IsIn y (rows b g.1)) (append_assoc earlier (x ∷ []) g.0) g.4)
]

pub is_given_beside : {X Y : Type 0} (rows : List X → X → List Y) (earlier before : List X) (x : X) (behind : List X) (y : Y) → IsIn y (rows (earlier ++ before) x) →
    IsIn y (at_each rows earlier (before ++ x ∷ behind))
is_given_beside rows earlier [] x behind y h = in_first y (rows earlier x) (at_each rows (earlier ++ x ∷ []) behind) (subst (λ b. IsIn y (rows b x)) (append-nil earlier) h)
is_given_beside rows earlier (z ∷ before) x behind y h =
    in_second y (rows earlier z) (at_each rows (earlier ++ z ∷ []) (before ++ x ∷ behind))
    (is_given_beside rows (earlier ++ z ∷ []) before x behind y (subst (λ b. IsIn y (rows b x)) (sym (append_assoc earlier (z ∷ []) before)) h))

-- in the list exactly where some element gives it
pub given : {X Y : Type 0} (rows : X → List Y) (xs : List X) (y : Y) → IsIn y (for_each rows xs) ↔ IsGiven rows xs y
given {X} {Y} rows xs y = (there xs, back xs)
  where
    there : (zs : List X) → IsIn y (for_each rows zs) → IsGiven rows zs y
    there [] h = absurd h
    there (x ∷ zs) h = elim (in_either y (rows x) (for_each rows zs) h) [
      | inl here ↦ (x, inl refl, here)
      | inr more ↦ let g = there zs more in (g.0, inr g.1, g.2)
    ]

    back : (zs : List X) → IsGiven rows zs y → IsIn y (for_each rows zs)
    back [] g = absurd g.1
    back (x ∷ zs) g = elim g.1 [
      | inl e ↦ in_first y (rows x) (for_each rows zs) (subst (λ z. IsIn y (rows z)) e g.2)
      | inr more ↦ in_second y (rows x) (for_each rows zs) (back zs (g.0, more, g.2))
    ]
