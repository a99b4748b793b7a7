-- What events assign, one event and one target after another.
use Rattle.std.proofs.Common.{◌≡◌, ◌<◌, ◌+◌, ◌∙◌, sym, ap, refl, ℕ, Bool, true, false, ◌||◌, List, [], ◌∷◌, ◌++◌, map, take, length, get_or, Option, append_assoc}
use Rattle.std.specs.List.{list_any}
use Rattle.std.proofs.lemmas.List.{map-append}
use Rattle.formula_core.specs.Formulas.{joined}
use Rattle.model_core.specs.declared.fault.Fault.{Fault}
use Rattle.model_core.specs.Faults.{earlier, first_by_place}
use Rattle.model_core.proofs.Firsts.{first_append, taken_more}
use Rattle.model_core.proofs.Lists.{any_append}

append_nil : {X : Type 0} (xs : List X) → xs ++ [] ≡ xs
append_nil [] = refl
append_nil (x ∷ xs) = ap (λ ys. x ∷ ys) (append_nil xs)

pub joined_append : {X : Type 0} (xs ys : List (List X)) → joined (xs ++ ys) ≡ joined xs ++ joined ys
joined_append [] ys = refl
joined_append (x ∷ xs) ys = ap (λ zs. x ++ zs) (joined_append xs ys) ∙ sym (append_assoc x (joined xs) (joined ys))

-- what rows give at one element more
pub joined_push : {X Y Z : Type 0} (rows : Y → List Z) (f : X → Y) (xs : List X) (x : X) →
    joined (map rows (map f (xs ++ x ∷ []))) ≡ joined (map rows (map f xs)) ++ rows (f x)
joined_push rows f xs x =
    ap (λ ys. joined (map rows ys)) (map-append f xs (x ∷ [])) ∙ ap joined (map-append rows (map f xs) (f x ∷ []))
    ∙ joined_append (map rows (map f xs)) (rows (f x) ∷ []) ∙ ap (λ ys. joined (map rows (map f xs)) ++ ys) (append_nil (rows (f x)))

pub joined_more : {X Y Z : Type 0} (rows : Y → List Z) (f : X → Y) (xs : List X) (i : ℕ) (x : X) → i < length xs → x ≡ get_or xs i x →
    joined (map rows (map f (take (i + 1) xs))) ≡ joined (map rows (map f (take i xs))) ++ rows (f x)
joined_more rows f xs i x lt is = ap (λ ys. joined (map rows (map f ys))) (taken_more xs i x lt is) ∙ joined_push rows f (take i xs) x

-- the first fault at one element more
pub first_pushed : {X Y : Type 0} (rows : Y → List Fault) (f : X → Y) (xs : List X) (x : X) (first here : Option Fault) →
    first ≡ first_by_place (joined (map rows (map f xs))) → here ≡ first_by_place (rows (f x)) →
    earlier first here ≡ first_by_place (joined (map rows (map f (xs ++ x ∷ []))))
first_pushed rows f xs x first here e g =
    (λ k. earlier (e k) (g k)) ∙ sym (first_append (joined (map rows (map f xs))) (rows (f x))) ∙ ap first_by_place (sym (joined_push rows f xs x))

pub first_joined : {X Y : Type 0} (rows : Y → List Fault) (f : X → Y) (xs : List X) (i : ℕ) (x : X) (first here : Option Fault) → i < length xs → x ≡ get_or xs i x →
    first ≡ first_by_place (joined (map rows (map f (take i xs)))) → here ≡ first_by_place (rows (f x)) →
    earlier first here ≡ first_by_place (joined (map rows (map f (take (i + 1) xs))))
first_joined rows f xs i x first here lt is e g =
    first_pushed rows f (take i xs) x first here e g ∙ ap (λ ys. first_by_place (joined (map rows (map f ys)))) (sym (taken_more xs i x lt is))

pub or_assoc : (a b c : Bool) → (a || (b || c)) ≡ ((a || b) || c)
or_assoc true b c = refl
or_assoc false b c = refl

pub or_false : (a : Bool) → (a || false) ≡ a
or_false true = refl
or_false false = refl

pub any_more : {X : Type 0} (test : X → Bool) (xs : List X) (i : ℕ) (x : X) → i < length xs → x ≡ get_or xs i x → list_any test (take (i + 1) xs) ≡ (list_any test (take i xs) || test x)
any_more test xs i x lt is =
    ap (list_any test) (taken_more xs i x lt is) ∙ any_append test (take i xs) (x ∷ []) ∙ ap (λ b. list_any test (take i xs) || b) (or_false (test x))

pub none_yet : (known : List ℕ → Bool) (n : List ℕ) → known n ≡ (known n || false)
none_yet known n = sym (or_false (known n))

-- a set that grows by one text at each item
pub texts_more : {X : Type 0} (test : X → List ℕ → Bool) (xs : List X) (i : ℕ) (x : X) (known before after : List ℕ → Bool) → i < length xs → x ≡ get_or xs i x →
    ((n : List ℕ) → before n ≡ (known n || list_any (λ y. test y n) (take i xs))) → ((n : List ℕ) → after n ≡ (before n || test x n)) →
    (n : List ℕ) → after n ≡ (known n || list_any (λ y. test y n) (take (i + 1) xs))
texts_more test xs i x known before after lt is h g n =
    g n ∙ ap (λ b. b || test x n) (h n) ∙ sym (or_assoc (known n) (list_any (λ y. test y n) (take i xs)) (test x n))
    ∙ ap (λ b. known n || b) (sym (any_more (λ y. test y n) xs i x lt is))
