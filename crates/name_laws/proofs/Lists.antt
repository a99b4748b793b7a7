-- Texts that stand once, and elements whose keys do.
use Rattle.std.proofs.Common.{◌≡◌, ◌∙◌, sym, ap, subst, refl, inl, inr, ℕ, zero, suc, Bool, true, false, cond, ◌||◌, List, [], ◌∷◌, ◌++◌, map, drop, bytes_eq, Option, Some, None, IfSome}
use Rattle.std.specs.Prelude.{◌≢◌}
use Rattle.std.specs.List.{AllByRecursion, IsDistinct, filter, filter_map, cons_option, find}
use Rattle.std.specs.Cmp.Lexicographic.{same_text}
use Rattle.std.proofs.lemmas.Cmp.{nat_list_eq_equiv}
use Rattle.type_formula.proofs.Named.{all_append, all_front, all_back, all_each}
use Rattle.model_core.specs.Each.{IsIn, is_among}
use Rattle.name_laws.specs.Labels.{AreOnce}

pub never : {A : Type 0} → true ≡ false → A
never e = let no : ⊥ = cc in absurd no

-- What holds of each element.

pub all_map : {X Y : Type 0} → (P : Y → Type 0) (f : X → Y) (xs : List X) → AllByRecursion (λ x. P (f x)) xs → AllByRecursion P (map f xs)
all_map P f [] h = tt
all_map P f (x ∷ xs) h = (h.0, all_map P f xs h.1)

pub all_unmap : {X Y : Type 0} → (P : Y → Type 0) (f : X → Y) (xs : List X) → AllByRecursion P (map f xs) → AllByRecursion (λ x. P (f x)) xs
all_unmap P f [] h = tt
all_unmap P f (x ∷ xs) h = (h.0, all_unmap P f xs h.1)

pub all_two : {X : Type 0} → (P Q R : X → Type 0) (xs : List X) → ((x : X) → P x → Q x → R x) → AllByRecursion P xs → AllByRecursion Q xs → AllByRecursion R xs
all_two P Q R [] f h k = tt
all_two P Q R (x ∷ xs) f h k = (f x h.0 k.0, all_two P Q R xs f h.1 k.1)

pub all_in : {X : Type 0} → (P : X → Type 0) (xs : List X) (y : X) → AllByRecursion P xs → IsIn y xs → P y
all_in P [] y h i = absurd i
all_in P (x ∷ xs) y h i = elim i [ inl e ↦ subst P (sym e) h.0 | inr more ↦ all_in P xs y h.1 more ]

pub all_drop : {X : Type 0} → (P : X → Type 0) (n : ℕ) (xs : List X) → AllByRecursion P xs → AllByRecursion P (drop n xs)
all_drop P zero xs h = h
all_drop P (suc n) [] h = tt
all_drop P (suc n) (x ∷ xs) h = all_drop P n xs h.1

cond_all : {X : Type 0} → (P : X → Type 0) (b : Bool) (x : X) (xs : List X) → P x → AllByRecursion P xs → AllByRecursion P (cond b (x ∷ xs) xs)
cond_all P true x xs h k = (h, k)
cond_all P false x xs h k = k

pub all_filter : {X : Type 0} → (p : X → Bool) (P : X → Type 0) (xs : List X) → AllByRecursion P xs → AllByRecursion P (filter p xs)
all_filter p P [] h = tt
all_filter p P (x ∷ xs) h = cond_all P (p x) x (filter p xs) h.0 (all_filter p P xs h.1)

cons_all : {X : Type 0} → (P : X → Type 0) (o : Option X) (xs : List X) → IfSome o P → AllByRecursion P xs → AllByRecursion P (cons_option o xs)
cons_all P None xs h k = k
cons_all P (Some x) xs h k = (h, k)

pub found : {X : Type 0} → (P : X → Type 0) (test : X → Bool) (xs : List X) → AllByRecursion P xs → IfSome (find test xs) P
found P test [] h = tt
found P test (x ∷ xs) h = go (test x) (found P test xs h.1)
  where
    go : (b : Bool) → IfSome (find test xs) P → IfSome (cond b (Some x) (find test xs)) P
    go true more = h.0
    go false more = more

pub all_given : {X Y : Type 0} → (P : Y → Type 0) (f : X → Option Y) (xs : List X) → ((x : X) → IfSome (f x) P) → AllByRecursion P (filter_map f xs)
all_given P f [] h = tt
all_given P f (x ∷ xs) h = cons_all P (f x) (filter_map f xs) (h x) (all_given P f xs h)

-- Texts once.

pub map_append : {X Y : Type 0} → (f : X → Y) (xs ys : List X) → map f (xs ++ ys) ≡ map f xs ++ map f ys
map_append f [] ys = refl
map_append f (x ∷ xs) ys = ap (λ zs. f x ∷ zs) (map_append f xs ys)

pub map_map : {X Y Z : Type 0} → (f : Y → Z) (g : X → Y) (xs : List X) → map f (map g xs) ≡ map (λ x. f (g x)) xs
map_map f g [] = refl
map_map f g (x ∷ xs) = ap (λ zs. f (g x) ∷ zs) (map_map f g xs)

pub differ : (x y : List ℕ) → bytes_eq x y ≡ false → x ≢ y
differ x y e same = never (sym (subst (λ z. bytes_eq x z ≡ true) same (nat_list_eq_equiv.refl x)) ∙ e)

pub differ_back : (x y : List ℕ) → x ≢ y → bytes_eq x y ≡ false
differ_back x y h = go (bytes_eq x y) refl
  where
    go : (b : Bool) → bytes_eq x y ≡ b → b ≡ false
    go true e = absurd (h (same_text x y (sym e)))
    go false e = refl

-- none of these is among those
abbrev pub AreOther : List (List ℕ) → List (List ℕ) → Type 0
AreOther xs ys = AllByRecursion (λ x. AllByRecursion (λ y. bytes_eq x y ≡ false) ys) xs

pub once_front : (xs ys : List (List ℕ)) → AreOnce (xs ++ ys) → AreOnce xs
unfolding IsDistinct
once_front [] ys d = tt
once_front (x ∷ xs) ys d = (all_front (λ y. bytes_eq x y ≡ false) xs ys d.0, once_front xs ys d.1)

pub once_back : (xs ys : List (List ℕ)) → AreOnce (xs ++ ys) → AreOnce ys
unfolding IsDistinct
once_back [] ys d = d
once_back (x ∷ xs) ys d = once_back xs ys d.1

pub once_apart : (xs ys : List (List ℕ)) → AreOnce (xs ++ ys) → AreOther xs ys
unfolding IsDistinct
once_apart [] ys d = tt
once_apart (x ∷ xs) ys d = (all_back (λ y. bytes_eq x y ≡ false) xs ys d.0, once_apart xs ys d.1)

pub once_append : (xs ys : List (List ℕ)) → AreOnce xs → AreOnce ys → AreOther xs ys → AreOnce (xs ++ ys)
unfolding IsDistinct
once_append [] ys d e n = e
once_append (x ∷ xs) ys d e n = (all_append (λ y. bytes_eq x y ≡ false) xs ys d.0 n.0, once_append xs ys d.1 e n.1)

pub once_drop : {X : Type 0} → (key : X → List ℕ) (n : ℕ) (xs : List X) → AreOnce (map key xs) → AreOnce (map key (drop n xs))
unfolding IsDistinct
once_drop key zero xs d = d
once_drop key (suc n) [] d = tt
once_drop key (suc n) (x ∷ xs) d = once_drop key n xs d.1

cond_once : {X : Type 0} → (key : X → List ℕ) (b : Bool) (x : X) (xs : List X) → AllByRecursion (λ y. bytes_eq (key x) y ≡ false) (map key xs) → AreOnce (map key xs) → AreOnce (map key (cond b (x ∷ xs) xs))
unfolding IsDistinct
cond_once key true x xs h d = (h, d)
cond_once key false x xs h d = d

pub once_filter : {X : Type 0} → (key : X → List ℕ) (p : X → Bool) (xs : List X) → AreOnce (map key xs) → AreOnce (map key (filter p xs))
unfolding IsDistinct
once_filter key p [] d = tt
once_filter key p (x ∷ xs) d =
    cond_once key (p x) x (filter p xs)
    (all_map (λ y. bytes_eq (key x) y ≡ false) key (filter p xs) (all_filter p (λ y. bytes_eq (key x) (key y) ≡ false) xs (all_unmap (λ y. bytes_eq (key x) y ≡ false) key xs d.0)))
    (once_filter key p xs d.1)

-- Elements with keys.

-- the keys differ
abbrev pub AreKeyedOnce : {X : Type 0} → (X → List ℕ) → List X → Type 0
AreKeyedOnce key [] = Unit {0}
AreKeyedOnce {X} key (x ∷ xs) = ((y : X) → IsIn y xs → key x ≢ key y) × AreKeyedOnce key xs

pub keyed_once : {X : Type 0} → (key : X → List ℕ) (xs : List X) → AreOnce (map key xs) → AreKeyedOnce key xs
unfolding IsDistinct
keyed_once key [] d = tt
keyed_once key (x ∷ xs) d = (
  (λ y i. differ (key x) (key y) (all_in (λ z. bytes_eq (key x) (key z) ≡ false) xs y (all_unmap (λ z. bytes_eq (key x) z ≡ false) key xs d.0) i)),
  keyed_once key xs d.1,
)

pub all_told : {X : Type 0} → (P : X → Type 0) (xs : List X) → ((y : X) → IsIn y xs → P y) → AllByRecursion P xs
all_told P [] h = tt
all_told P (x ∷ xs) h = (h x (inl refl), all_told P xs (λ y i. h y (inr i)))

pub once_keyed : {X : Type 0} → (key : X → List ℕ) (xs : List X) → AreKeyedOnce key xs → AreOnce (map key xs)
unfolding IsDistinct
once_keyed key [] h = tt
once_keyed key (x ∷ xs) h = (
  all_map (λ y. bytes_eq (key x) y ≡ false) key xs (all_told (λ y. bytes_eq (key x) (key y) ≡ false) xs (λ y i. differ_back (key x) (key y) (h.0 y i))),
  once_keyed key xs h.1,
)

-- Among.

or_right : (a b : Bool) → b ≡ true → (a || b) ≡ true
or_right true b e = refl
or_right false b e = e

first_among : (n : List ℕ) (ns : List (List ℕ)) → is_among (n ∷ ns) n ≡ true
first_among n ns = ap (λ b. b || is_among ns n) (nat_list_eq_equiv.refl n)

pub among_self : (ns : List (List ℕ)) → AllByRecursion (λ n. is_among ns n ≡ true) ns
among_self [] = tt
among_self (n ∷ ns) = (
  first_among n ns,
  all_each (λ m. is_among ns m ≡ true) (λ m. is_among (n ∷ ns) m ≡ true) ns (λ m h. or_right (bytes_eq m n) (is_among ns m) h) (among_self ns),
)

neither : (a b : Bool) → a ≡ false → b ≡ false → (a || b) ≡ false
neither true b e f = e
neither false b e f = f

pub turned : (x y : List ℕ) → bytes_eq x y ≡ false → bytes_eq y x ≡ false
turned x y e = nat_list_eq_equiv.symm y x ∙ e

-- none of those is among these
pub not_among : (xs ys : List (List ℕ)) → AreOther xs ys → AllByRecursion (λ y. is_among xs y ≡ false) ys
not_among [] ys h = all_told (λ y. is_among [] y ≡ false) ys (λ y i. refl)
not_among (x ∷ xs) ys h =
    all_two (λ y. bytes_eq x y ≡ false) (λ y. is_among xs y ≡ false) (λ y. is_among (x ∷ xs) y ≡ false) ys
    (λ y e f. neither (bytes_eq y x) (is_among xs y) (turned x y e) f) h.0 (not_among xs ys h.1)
