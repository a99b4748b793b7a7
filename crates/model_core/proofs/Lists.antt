-- Lists one after another.
use Rattle.std.proofs.Common.{◌≡◌, ◌<◌, ◌+◌, ◌∙◌, sym, ap, refl, ℕ, suc, Bool, true, false, not, cond, ◌&&◌, ◌||◌, List, [], ◌∷◌, ◌++◌, map, drop, drop-cons, add-one, length, get_or, Option, Some, None, ◌↔◌, IsTrue}
use Rattle.std.specs.List.{list_any, filter}
use Rattle.std.specs.Map.{lookup}

pub any_map : {X Y : Type 0} (test : Y → Bool) (f : X → Y) (xs : List X) → list_any test (map f xs) ≡ list_any (λ x. test (f x)) xs
any_map test f [] = refl
any_map test f (x ∷ xs) = ap (λ b. test (f x) || b) (any_map test f xs)

filter_cond : {X : Type 0} (b : Bool) (x : X) (xs ys zs : List X) → zs ≡ xs ++ ys → cond b (x ∷ zs) zs ≡ cond b (x ∷ xs) xs ++ ys
filter_cond true x xs ys zs e = ap (λ r. x ∷ r) e
filter_cond false x xs ys zs e = e

pub filter_append : {X : Type 0} (test : X → Bool) (xs ys : List X) → filter test (xs ++ ys) ≡ filter test xs ++ filter test ys
filter_append test [] ys = refl
filter_append test (x ∷ xs) ys = filter_cond (test x) x (filter test xs) (filter test ys) (filter test (xs ++ ys)) (filter_append test xs ys)

cond_none : {X : Type 0} (b : Bool) (x : X) (o p q : Option X) → (o ≡ None → p ≡ q) → cond b (Some x) o ≡ None → cond b (Some x) p ≡ q
cond_none true x o p q h e = cc
cond_none false x o p q h e = h e

pub lookup_later : {K X : Type 0} (test : K → Bool) (xs ys : List (K × X)) → lookup test xs ≡ None → lookup test (xs ++ ys) ≡ lookup test ys
lookup_later test [] ys e = refl
lookup_later test (x ∷ xs) ys e = cond_none (test x.0) x.1 (lookup test xs) (lookup test (xs ++ ys)) (lookup test ys) (lookup_later test xs ys) e

cond_some : {X : Type 0} (b : Bool) (x y : X) (o p : Option X) → (o ≡ Some y → p ≡ Some y) → cond b (Some x) o ≡ Some y → cond b (Some x) p ≡ Some y
cond_some true x y o p h e = e
cond_some false x y o p h e = h e

pub lookup_sooner : {K X : Type 0} (test : K → Bool) (xs ys : List (K × X)) (y : X) → lookup test xs ≡ Some y → lookup test (xs ++ ys) ≡ Some y
lookup_sooner test [] ys y e = cc
lookup_sooner test (x ∷ xs) ys y e = cond_some (test x.0) x.1 y (lookup test xs) (lookup test (xs ++ ys)) (lookup_sooner test xs ys y) e

-- the list from an index on begins with the item there
pub at_index : {X : Type 0} (xs : List X) (i : ℕ) (x : X) → i < length xs → x ≡ get_or xs i x → drop i xs ≡ x ∷ drop (i + 1) xs
at_index xs i x lt is = drop-cons xs i x lt ∙ ap (λ y. y ∷ drop (suc i) xs) (sym is) ∙ ap (λ k. x ∷ drop k xs) (sym (add-one i))

pub identifier_is : (p i : Bool) → (IsTrue p ↔ (i ≡ false)) → not p ≡ i
identifier_is true i h = sym (h.0 refl)
identifier_is false true h = refl
identifier_is false false h = let t : false ≡ true = h.1 refl in cc

pub first_of_two : (a b : Bool) → (a && b) ≡ true → a ≡ true
first_of_two true b e = refl
first_of_two false b e = cc

or_assoc : (a b c : Bool) → (a || (b || c)) ≡ ((a || b) || c)
or_assoc true b c = refl
or_assoc false b c = refl

pub any_append : {X : Type 0} (test : X → Bool) (xs ys : List X) → list_any test (xs ++ ys) ≡ (list_any test xs || list_any test ys)
any_append test [] ys = refl
any_append test (x ∷ xs) ys = ap (λ b. test x || b) (any_append test xs ys) ∙ or_assoc (test x) (list_any test xs) (list_any test ys)
