-- Names that stand in environments once.
use Rattle.std.proofs.Common.{◌≡◌, ◌∙◌, ◌⊎◌, inl, inr, sym, ap, subst, refl, ℕ, Bool, true, false, cond, ◌||◌, List, [], ◌∷◌, ◌++◌, append_assoc, Option, Some, None, bytes_eq}
use Rattle.std.specs.List.{AllByRecursion, IsDistinct}
use Rattle.std.specs.Map.{keys_of}
use Rattle.std.specs.Cmp.Lexicographic.{same_text}
use Rattle.std.proofs.lemmas.Cmp.{nat_list_eq_equiv}
use Rattle.formula_core.specs.declared.ty.Ty.{Ty}
use Rattle.formula_core.specs.Env.{HasDistinctNames, type_in}
use Rattle.formula_core.specs.Laws.{IsWithin}
use Rattle.formula_core.specs.Typed.{Stands}
use Rattle.model_core.specs.Each.{is_among}
use Rattle.check_rules.specs.Typed.{Entries}
use Rattle.type_formula.proofs.Named.{all_append, all_front, all_back, all_each, sooner, later, found_has}

abbrev pub AllStand : Entries → Entries → Type 0
AllStand env xs = AllByRecursion (Stands env) xs

pub here_or : (b : Bool) → (b ≡ true) ⊎ (b ≡ false)
here_or true = inl refl
here_or false = inr refl

pub some_or : {X : Type 0} (o : Option X) → ((x : X) × (o ≡ Some x)) ⊎ (o ≡ None)
some_or None = inr refl
some_or (Some x) = inl (x, refl)

pub apart : {A : Type 0} (b : Bool) → b ≡ true → b ≡ false → A
apart true t f = let no : ⊥ = cc in absurd no
apart false t f = let no : ⊥ = cc in absurd no

pub absent : {A X : Type 0} (o : Option X) (x : X) → o ≡ None → o ≡ Some x → A
absent None x n s = let no : ⊥ = cc in absurd no
absent (Some y) x n s = let no : ⊥ = cc in absurd no

pub same_name : (x n : List ℕ) → bytes_eq x n ≡ true → x ≡ n
same_name x n e = same_text x n (sym e)

pub name_is : (x : List ℕ) → bytes_eq x x ≡ true
name_is x = nat_list_eq_equiv.refl x

pub name_turned : (x y : List ℕ) (b : Bool) → bytes_eq x y ≡ b → bytes_eq y x ≡ b
name_turned x y b e = nat_list_eq_equiv.symm y x ∙ e

-- Booleans.

pub or_left : (a b : Bool) → a ≡ true → (a || b) ≡ true
or_left true b e = refl
or_left false b e = cc

pub or_right : (a b : Bool) → b ≡ true → (a || b) ≡ true
or_right true b e = refl
or_right false b e = e

pub or_cases : (a b : Bool) → (a || b) ≡ true → (a ≡ true) ⊎ (b ≡ true)
or_cases true b e = inl refl
or_cases false b e = inr e

pub neither_first : (a b : Bool) → (a || b) ≡ false → a ≡ false
neither_first true b e = e
neither_first false b e = refl

pub neither_second : (a b : Bool) → (a || b) ≡ false → b ≡ false
neither_second true b e = cc
neither_second false b e = e

-- a name that is among some is among more
pub among_later : (ns ms : List (List ℕ)) (n : List ℕ) → is_among ms n ≡ true → is_among (ns ++ ms) n ≡ true
among_later [] ms n e = e
among_later (m ∷ ns) ms n e = or_right (bytes_eq n m) (is_among (ns ++ ms) n) (among_later ns ms n e)

pub among_sooner : (ns ms : List (List ℕ)) (n : List ℕ) → is_among ns n ≡ true → is_among (ns ++ ms) n ≡ true
among_sooner [] ms n e = let no : ⊥ = cc in absurd no
among_sooner (m ∷ ns) ms n e = elim (or_cases (bytes_eq n m) (is_among ns n) e) [
  | inl i ↦ or_left (bytes_eq n m) (is_among (ns ++ ms) n) i
  | inr i ↦ or_right (bytes_eq n m) (is_among (ns ++ ms) n) (among_sooner ns ms n i)
]

pub among_self : (ns : List (List ℕ)) → AllByRecursion (λ n. is_among ns n ≡ true) ns
among_self [] = tt
among_self (n ∷ ns) = (
  or_left (bytes_eq n n) (is_among ns n) (name_is n),
  all_each (λ m. is_among ns m ≡ true) (λ m. is_among (n ∷ ns) m ≡ true) ns (λ m h. or_right (bytes_eq m n) (is_among ns m) h) (among_self ns),
)

-- Looking up.

pub met : (b : Bool) (u : Ty) (rest : Option Ty) → b ≡ true → cond b (Some u) rest ≡ Some u
met true u rest e = refl
met false u rest e = cc

pub missed : (b : Bool) (u : Ty) (rest : Option Ty) → b ≡ false → cond b (Some u) rest ≡ rest
missed true u rest e = cc
missed false u rest e = refl

none_first : (b : Bool) (u : Ty) (rest : Option Ty) → cond b (Some u) rest ≡ None → b ≡ false
none_first true u rest e = cc
none_first false u rest e = refl

none_rest : (b : Bool) (u : Ty) (rest : Option Ty) → cond b (Some u) rest ≡ None → rest ≡ None
none_rest true u rest e = cc
none_rest false u rest e = e

pub not_head : (x : List ℕ × Ty) (xs : Entries) (n : List ℕ) → type_in (x ∷ xs) n ≡ None → bytes_eq n x.0 ≡ false
not_head x xs n e = none_first (bytes_eq n x.0) x.1 (type_in xs n) e

pub not_tail : (x : List ℕ × Ty) (xs : Entries) (n : List ℕ) → type_in (x ∷ xs) n ≡ None → type_in xs n ≡ None
not_tail x xs n e = none_rest (bytes_eq n x.0) x.1 (type_in xs n) e

-- a name that isn't there differs from each that is
pub lacks : (xs : Entries) (n : List ℕ) → type_in xs n ≡ None → AllByRecursion (λ y. bytes_eq n y ≡ false) (keys_of xs)
lacks [] n e = tt
lacks (x ∷ xs) n e = (not_head x xs n e, lacks xs n (not_tail x xs n e))

pub lacks_back : (xs : Entries) (n : List ℕ) → AllByRecursion (λ y. bytes_eq n y ≡ false) (keys_of xs) → type_in xs n ≡ None
lacks_back [] n e = refl
lacks_back (x ∷ xs) n e = missed (bytes_eq n x.0) x.1 (type_in xs n) e.0 ∙ lacks_back xs n e.1

pub not_among : (ns : List (List ℕ)) (n : List ℕ) → is_among ns n ≡ false → AllByRecursion (λ y. bytes_eq n y ≡ false) ns
not_among [] n e = tt
not_among (m ∷ ns) n e = (neither_first (bytes_eq n m) (is_among ns n) e, not_among ns n (neither_second (bytes_eq n m) (is_among ns n) e))

pub none_append : (xs ys : Entries) (n : List ℕ) → type_in xs n ≡ None → type_in ys n ≡ None → type_in (xs ++ ys) n ≡ None
none_append xs ys n e f = later xs ys n e ∙ f

pub none_front : (xs ys : Entries) (n : List ℕ) → type_in (xs ++ ys) n ≡ None → type_in xs n ≡ None
none_front [] ys n e = refl
none_front (x ∷ xs) ys n e = missed (bytes_eq n x.0) x.1 (type_in xs n) (not_head x (xs ++ ys) n e) ∙ none_front xs ys n (not_tail x (xs ++ ys) n e)

pub none_back : (xs ys : Entries) (n : List ℕ) → type_in (xs ++ ys) n ≡ None → type_in ys n ≡ None
none_back [] ys n e = e
none_back (x ∷ xs) ys n e = none_back xs ys n (not_tail x (xs ++ ys) n e)

-- what stands in two lists stands in one of them
pub found_in : (xs ys : Entries) (n : List ℕ) (t : Ty) → type_in (xs ++ ys) n ≡ Some t → (type_in xs n ≡ Some t) ⊎ (type_in ys n ≡ Some t)
found_in xs ys n t e = elim (some_or (type_in xs n)) [
  | inl f ↦ inl (f.1 ∙ sym (sooner xs ys n f.0 f.1) ∙ e)
  | inr f ↦ inr (sym (later xs ys n f) ∙ e)
]

-- Each name once.

pub keys_append : (xs ys : Entries) → keys_of (xs ++ ys) ≡ keys_of xs ++ keys_of ys
keys_append [] ys = refl
keys_append (x ∷ xs) ys = ap (λ ks. x.0 ∷ ks) (keys_append xs ys)

keys_apart : (n : List ℕ) (xs ys : Entries) → AllByRecursion (λ y. bytes_eq n y ≡ false) (keys_of xs) → AllByRecursion (λ y. bytes_eq n y ≡ false) (keys_of ys)
    → AllByRecursion (λ y. bytes_eq n y ≡ false) (keys_of (xs ++ ys))
keys_apart n xs ys h k = subst (AllByRecursion (λ y. bytes_eq n y ≡ false)) (sym (keys_append xs ys)) (all_append (λ y. bytes_eq n y ≡ false) (keys_of xs) (keys_of ys) h k)

pub keys_front : (P : List ℕ → Type 0) (xs ys : Entries) → AllByRecursion P (keys_of (xs ++ ys)) → AllByRecursion P (keys_of xs)
keys_front P xs ys h = all_front P (keys_of xs) (keys_of ys) (subst (AllByRecursion P) (keys_append xs ys) h)

pub keys_back : (P : List ℕ → Type 0) (xs ys : Entries) → AllByRecursion P (keys_of (xs ++ ys)) → AllByRecursion P (keys_of ys)
keys_back P xs ys h = all_back P (keys_of xs) (keys_of ys) (subst (AllByRecursion P) (keys_append xs ys) h)

-- none of these names stands there
abbrev pub AreNew : Entries → List (List ℕ) → Type 0
AreNew env names = AllByRecursion (λ n. type_in env n ≡ None) names

pub distinct_append : (xs ys : Entries) → HasDistinctNames xs → HasDistinctNames ys → AreNew ys (keys_of xs) → HasDistinctNames (xs ++ ys)
unfolding IsDistinct
distinct_append [] ys d e n = e
distinct_append (x ∷ xs) ys d e n = (keys_apart x.0 xs ys d.0 (lacks ys x.0 n.0), distinct_append xs ys d.1 e n.1)

pub distinct_front : (xs ys : Entries) → HasDistinctNames (xs ++ ys) → HasDistinctNames xs
unfolding IsDistinct
distinct_front [] ys d = tt
distinct_front (x ∷ xs) ys d = (keys_front (λ y. bytes_eq x.0 y ≡ false) xs ys d.0, distinct_front xs ys d.1)

pub distinct_back : (xs ys : Entries) → HasDistinctNames (xs ++ ys) → HasDistinctNames ys
unfolding IsDistinct
distinct_back [] ys d = d
distinct_back (x ∷ xs) ys d = distinct_back xs ys d.1

pub distinct_apart : (xs ys : Entries) → HasDistinctNames (xs ++ ys) → AreNew ys (keys_of xs)
unfolding IsDistinct
distinct_apart [] ys d = tt
distinct_apart (x ∷ xs) ys d = (lacks_back ys x.0 (keys_back (λ y. bytes_eq x.0 y ≡ false) xs ys d.0), distinct_apart xs ys d.1)

-- where none of these is among those, none of those is among these
pub new_turned : (xs ys : Entries) → AreNew ys (keys_of xs) → AreNew xs (keys_of ys)
new_turned xs [] h = tt
new_turned xs (y ∷ ys) h = (lacks_back xs y.0 (go xs h), new_turned xs ys (all_each (λ n. type_in (y ∷ ys) n ≡ None) (λ n. type_in ys n ≡ None) (keys_of xs) (λ n e. not_tail y ys n e) h))
  where
    go : (zs : Entries) → AreNew (y ∷ ys) (keys_of zs) → AllByRecursion (λ z. bytes_eq y.0 z ≡ false) (keys_of zs)
    go [] h = tt
    go (z ∷ zs) h = (name_turned z.0 y.0 false (not_head y ys z.0 h.0), go zs h.1)

-- new names between others
pub distinct_between : (xs ns ys : Entries) → HasDistinctNames (xs ++ ys) → HasDistinctNames ns → AreNew (xs ++ ys) (keys_of ns) → HasDistinctNames (xs ++ ns ++ ys)
distinct_between xs ns ys d e n =
    let ns_xs : AreNew ns (keys_of xs) = new_turned ns xs (all_each (λ k. type_in (xs ++ ys) k ≡ None) (λ k. type_in xs k ≡ None) (keys_of ns) (λ k h. none_front xs ys k h) n) in
    let ys_xs : AreNew ys (keys_of xs) = distinct_apart xs ys d in
    let ys_ns : AreNew ys (keys_of ns) = all_each (λ k. type_in (xs ++ ys) k ≡ None) (λ k. type_in ys k ≡ None) (keys_of ns) (λ k h. none_back xs ys k h) n in
    subst HasDistinctNames (sym (append_assoc xs ns ys))
    (distinct_append xs (ns ++ ys) (distinct_front xs ys d) (distinct_append ns ys e (distinct_back xs ys d) ys_ns) (both xs ns_xs ys_xs))
  where
    both : (zs : Entries) → AreNew ns (keys_of zs) → AreNew ys (keys_of zs) → AreNew (ns ++ ys) (keys_of zs)
    both [] h k = tt
    both (z ∷ zs) h k = (none_append ns ys z.0 h.0 k.0, both zs h.1 k.1)

-- Standing.

pub within_all : (env xs : Entries) → AllStand env xs → IsWithin xs env
within_all env xs h x e = found_has (Stands env) xs x.0 x.1 h e

-- in a longer list
pub stand_sooner : (xs ys zs : Entries) → AllStand xs zs → AllStand (xs ++ ys) zs
stand_sooner xs ys zs h = all_each (Stands xs) (Stands (xs ++ ys)) zs (λ z e. sooner xs ys z.0 z.1 e) h

pub stands_later : (xs ys : Entries) → AreNew ys (keys_of xs) → (z : List ℕ × Ty) → Stands ys z → Stands (xs ++ ys) z
stands_later [] ys n z e = e
stands_later (x ∷ xs) ys n z e = elim (here_or (bytes_eq z.0 x.0)) [
  | inl b ↦ absent (type_in ys z.0) z.1 (ap (type_in ys) (same_name z.0 x.0 b) ∙ n.0) e
  | inr b ↦ missed (bytes_eq z.0 x.0) x.1 (type_in (xs ++ ys) z.0) b ∙ stands_later xs ys n.1 z e
]

pub stand_later : (xs ys zs : Entries) → AreNew ys (keys_of xs) → AllStand ys zs → AllStand (xs ++ ys) zs
stand_later xs ys zs n h = all_each (Stands ys) (Stands (xs ++ ys)) zs (λ z e. stands_later xs ys n z e) h

-- each entry stands where each name stands once
pub stand_there : (xs : Entries) → HasDistinctNames xs → AllStand xs xs
unfolding IsDistinct
stand_there [] d = tt
stand_there (x ∷ xs) d = (
  met (bytes_eq x.0 x.0) x.1 (type_in xs x.0) (name_is x.0),
  stand_later (x ∷ []) xs xs (lacks_back xs x.0 d.0, tt) (stand_there xs d.1),
)

pub parts_stand : (xs ys : Entries) → HasDistinctNames (xs ++ ys) → AllStand (xs ++ ys) xs × AllStand (xs ++ ys) ys
parts_stand xs ys d = (all_front (Stands (xs ++ ys)) xs ys (stand_there (xs ++ ys) d), all_back (Stands (xs ++ ys)) xs ys (stand_there (xs ++ ys) d))
