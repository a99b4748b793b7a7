-- Parts of lists, and what holds of each of their elements.
use Rattle.std.proofs.Common.{◌≡◌, ◌⊎◌, inl, inr, ap, refl, ℕ, suc, Bool, true, false, cond, ◌||◌, List, [], ◌∷◌, ◌++◌, map, length, Option, Some, None, arith}
use Rattle.std.specs.List.{AllByRecursion, filter, list_any, zip}
use Rattle.model_core.specs.declared.fault.Fault.{Fault}
use Rattle.model_core.specs.Faults.{earlier, comes_before, first_by_place}

pub all_map : {X Y : Type 0} → (P : Y → Type 0) (f : X → Y) (xs : List X) → AllByRecursion (λ x. P (f x)) xs → AllByRecursion P (map f xs)
all_map P f [] h = tt
all_map P f (x ∷ xs) h = (h.0, all_map P f xs h.1)

pub all_unmap : {X Y : Type 0} → (P : Y → Type 0) (f : X → Y) (xs : List X) → AllByRecursion P (map f xs) → AllByRecursion (λ x. P (f x)) xs
all_unmap P f [] h = tt
all_unmap P f (x ∷ xs) h = (h.0, all_unmap P f xs h.1)

pub all_two : {X : Type 0} → (P Q R : X → Type 0) (xs : List X) → ((x : X) → P x → Q x → R x) → AllByRecursion P xs → AllByRecursion Q xs → AllByRecursion R xs
all_two P Q R [] f h k = tt
all_two P Q R (x ∷ xs) f h k = (f x h.0 k.0, all_two P Q R xs f h.1 k.1)

pub all_true : {X : Type 0} → (P : X → Type 0) (xs : List X) → ((x : X) → P x) → AllByRecursion P xs
all_true P [] f = tt
all_true P (x ∷ xs) f = (f x, all_true P xs f)

pub map_append : {X Y : Type 0} → (f : X → Y) (xs ys : List X) → map f (xs ++ ys) ≡ map f xs ++ map f ys
map_append f [] ys = refl
map_append f (x ∷ xs) ys = ap (λ zs. f x ∷ zs) (map_append f xs ys)

-- of two lists side by side
pub zip_left : {X Y : Type 0} → (P : X → Type 0) (xs : List X) (ys : List Y) → AllByRecursion P xs → AllByRecursion (λ z. P z.0) (zip xs ys)
zip_left P [] ys h = tt
zip_left P (x ∷ xs) [] h = tt
zip_left P (x ∷ xs) (y ∷ ys) h = (h.0, zip_left P xs ys h.1)

pub suc_same : (m n : ℕ) → suc m ≡ suc n → m ≡ n
suc_same m n e = omega arith

pub zip_firsts : {X Y : Type 0} → (xs : List X) (ys : List Y) → length ys ≡ length xs → map (λ z. z.0) (zip xs ys) ≡ xs
zip_firsts [] ys e = refl
zip_firsts (x ∷ xs) [] e = let no : ⊥ = omega arith in absurd no
zip_firsts (x ∷ xs) (y ∷ ys) e = ap (λ zs. x ∷ zs) (zip_firsts xs ys (suc_same (length ys) (length xs) e))

-- Elements that pass a test.

cond_all : {X : Type 0} → (P : X → Type 0) (b : Bool) (x : X) (xs : List X) → (b ≡ true → P x) → AllByRecursion P xs → AllByRecursion P (cond b (x ∷ xs) xs)
cond_all P true x xs h k = (h refl, k)
cond_all P false x xs h k = k

pub filter_each : {X : Type 0} → (p : X → Bool) (P Q : X → Type 0) (xs : List X) → ((x : X) → p x ≡ true → P x → Q x) → AllByRecursion P xs → AllByRecursion Q (filter p xs)
filter_each p P Q [] f h = tt
filter_each p P Q (x ∷ xs) f h = cond_all Q (p x) x (filter p xs) (λ e. f x e h.0) (filter_each p P Q xs f h.1)

pub filter_all : {X : Type 0} → (p : X → Bool) (P : X → Type 0) (xs : List X) → AllByRecursion P xs → AllByRecursion P (filter p xs)
filter_all p P xs h = filter_each p P P xs (λ x e k. k) h

back_first : {X : Type 0} → (Q : X → Type 0) (b : Bool) (x : X) (xs : List X) → AllByRecursion Q (cond b (x ∷ xs) xs) → b ≡ true → Q x
back_first Q true x xs h e = h.0
back_first Q false x xs h e = cc

back_rest : {X : Type 0} → (Q : X → Type 0) (b : Bool) (x : X) (xs : List X) → AllByRecursion Q (cond b (x ∷ xs) xs) → AllByRecursion Q xs
back_rest Q true x xs h = h.1
back_rest Q false x xs h = h

pub filter_back : {X : Type 0} → (p : X → Bool) (Q : X → Type 0) (xs : List X) → AllByRecursion Q (filter p xs) → AllByRecursion (λ x. p x ≡ true → Q x) xs
filter_back p Q [] h = tt
filter_back p Q (x ∷ xs) h = (back_first Q (p x) x (filter p xs) h, filter_back p Q xs (back_rest Q (p x) x (filter p xs) h))

none_kept : {X : Type 0} → (b : Bool) (x : X) (xs : List X) → cond b (x ∷ xs) xs ≡ [] → (b ≡ false) × (xs ≡ [])
none_kept true x xs e = let no : ⊥ = cc in absurd no
none_kept false x xs e = (refl, e)

pub filter_none : {X : Type 0} → (p : X → Bool) (xs : List X) → filter p xs ≡ [] → AllByRecursion (λ x. p x ≡ false) xs
filter_none p [] e = tt
filter_none p (x ∷ xs) e = let k = none_kept (p x) x (filter p xs) e in (k.0, filter_none p xs k.1)

pub any_append : {X : Type 0} → (test : X → Bool) (xs ys : List X) → list_any test (xs ++ ys) ≡ true → (list_any test xs ≡ true) ⊎ (list_any test ys ≡ true)
any_append test [] ys e = inr e
any_append test (x ∷ xs) ys e = go (test x) (any_append test xs ys) e
  where
    go : (b : Bool) → (list_any test (xs ++ ys) ≡ true → (list_any test xs ≡ true) ⊎ (list_any test ys ≡ true)) → (b || list_any test (xs ++ ys)) ≡ true
        → ((b || list_any test xs) ≡ true) ⊎ (list_any test ys ≡ true)
    go true more e = inl refl
    go false more e = more e

-- No element.

pub map_none : {X Y : Type 0} → (f : X → Y) (xs : List X) → map f xs ≡ [] → xs ≡ []
map_none f [] e = refl
map_none f (x ∷ xs) e = let no : ⊥ = cc in absurd no

pub first_none : {X : Type 0} → (xs ys : List X) → xs ++ ys ≡ [] → xs ≡ []
first_none [] ys e = refl
first_none (x ∷ xs) ys e = let no : ⊥ = cc in absurd no

pub second_none : {X : Type 0} → (xs ys : List X) → xs ++ ys ≡ [] → ys ≡ []
second_none [] ys e = e
second_none (x ∷ xs) ys e = let no : ⊥ = cc in absurd no

pub never_empty : {A X : Type 0} → (x : X) (xs : List X) → [] ≡ x ∷ xs → A
never_empty x xs e = let no : ⊥ = cc in absurd no

cond_some : (b : Bool) (f g : Fault) → cond b (Some f) (Some g) ≡ None → ⊥
cond_some true f g e = cc
cond_some false f g e = cc

never_none : (f : Fault) (o : Option Fault) → earlier (Some f) o ≡ None → ⊥
never_none f None e = cc
never_none f (Some g) e = cond_some (comes_before g f) g f e

-- where there is no first fault there is none
pub no_fault : (faults : List Fault) → first_by_place faults ≡ None → faults ≡ []
no_fault [] e = refl
no_fault (f ∷ fs) e = absurd (never_none f (first_by_place fs) e)
