-- The least and the greatest number of a set.
use Rattle.std.proofs.Common.{◌≡◌, ◌∙◌, ◌⊎◌, inl, inr, sym, subst, refl, Bool, true, false, cond, List, [], ◌∷◌, arith}
use Rattle.std.specs.Prelude.{ℤ, ◌≤ℤ◌, int_lt, Option, MatchOption}
use Rattle.std.specs.List.{Contains}
use Rattle.std.specs.Int.{int_min, int_max}
use Rattle.std.specs.Int.Signed.{≤ℤ_refl}
use Rattle.std.proofs.lemmas.Int.{ints}
use Rattle.event_values.specs.declared.value.Value.{Value}
use Rattle.value_sets.specs.Sets.{set_members, integer_of, IsLeast, IsGreatest}
use Rattle.value_sets.specs.Private.{least_from, greatest_from, least_of, greatest_of}
use Rattle.value_sets.proofs.Keeping.{contains_none, contained_first, contained_later, contained_cases}

at_most : (a b c : ℤ) → a ≤ℤ b → b ≤ℤ c → a ≤ℤ c
at_most a b c h g = omega (arith, ints, h, g)

-- THE LESSER AND THE GREATER OF TWO

lesser : (x y : ℤ) (b : Bool) → int_lt y x ≡ b → (cond b y x ≤ℤ x) × (cond b y x ≤ℤ y) × ((cond b y x ≡ x) ⊎ (cond b y x ≡ y))
lesser x y true e = (omega (arith, ints, e), ≤ℤ_refl y, inr refl)
lesser x y false e = (≤ℤ_refl x, omega (arith, ints, e), inl refl)

greater : (x y : ℤ) (b : Bool) → int_lt y x ≡ b → (x ≤ℤ cond b x y) × (y ≤ℤ cond b x y) × ((cond b x y ≡ x) ⊎ (cond b x y ≡ y))
greater x y true e = (≤ℤ_refl x, omega (arith, ints, e), inl refl)
greater x y false e = (omega (arith, ints, e), ≤ℤ_refl y, inr refl)

-- THE LEAST

abbrev Reaches : ℤ → ℤ → List Value → Type 0
Reaches m n vs = (m ≡ n) ⊎ ((x : Value) × Contains vs x × (m ≡ integer_of x))

later_reached : (m n : ℤ) (v : Value) (vs : List Value) → (n ≡ m) ⊎ (n ≡ integer_of v) → (k : ℤ) → Reaches k n vs → Reaches k m (v ∷ vs)
later_reached m n v vs (inl e) k (inl f) = inl (f ∙ e)
later_reached m n v vs (inr e) k (inl f) = inr (v, contained_first v vs, f ∙ e)
later_reached m n v vs e k (inr r) = inr (r.0, contained_later v vs r.0 r.1, r.2)

least_reached : (n : ℤ) (vs : List Value) → Reaches (least_from n vs) n vs
least_reached n [] = inl refl
least_reached n (v ∷ vs) =
    later_reached n (int_min n (integer_of v)) v vs (lesser n (integer_of v) (int_lt (integer_of v) n) refl).2 (least_from n (v ∷ vs)) (least_reached (int_min n (integer_of v)) vs)

least_below : (n : ℤ) (vs : List Value) → least_from n vs ≤ℤ n
least_below n [] = ≤ℤ_refl n
least_below n (v ∷ vs) =
    at_most (least_from n (v ∷ vs)) (int_min n (integer_of v)) n (least_below (int_min n (integer_of v)) vs) (lesser n (integer_of v) (int_lt (integer_of v) n) refl).0

least_bound : (n : ℤ) (vs : List Value) (y : Value) → Contains vs y → least_from n vs ≤ℤ integer_of y
least_bound n [] y c = absurd (contains_none y c)
least_bound n (v ∷ vs) y c = go (contained_cases v vs y c) (λ d. least_bound (int_min n (integer_of v)) vs y d)
  where
    go : (v ≡ y) ⊎ Contains vs y → (Contains vs y → least_from n (v ∷ vs) ≤ℤ integer_of y) → least_from n (v ∷ vs) ≤ℤ integer_of y
    go (inl is) more =
        subst (λ z. least_from n (v ∷ vs) ≤ℤ integer_of z) is
        (at_most (least_from n (v ∷ vs)) (int_min n (integer_of v)) (integer_of v) (least_below (int_min n (integer_of v)) vs) (lesser n (integer_of v) (int_lt (integer_of v) n) refl).1)
    go (inr d) more = more d

least_is : (first : Value) (others : List Value) (n : ℤ) → n ≡ least_from (integer_of first) others
    → (x : Value) × Contains (first ∷ others) x × (n ≡ integer_of x) × ((y : Value) → Contains (first ∷ others) y → n ≤ℤ integer_of y)
least_is first others n e = go (least_reached (integer_of first) others)
  where
    bound : (y : Value) → (first ≡ y) ⊎ Contains others y → n ≤ℤ integer_of y
    bound y (inl is) = subst (λ k. k ≤ℤ integer_of y) (sym e) (subst (λ z. least_from (integer_of first) others ≤ℤ integer_of z) is (least_below (integer_of first) others))
    bound y (inr c) = subst (λ k. k ≤ℤ integer_of y) (sym e) (least_bound (integer_of first) others y c)

    all : (y : Value) → Contains (first ∷ others) y → n ≤ℤ integer_of y
    all y c = bound y (contained_cases first others y c)

    go : Reaches (least_from (integer_of first) others) (integer_of first) others
        → (x : Value) × Contains (first ∷ others) x × (n ≡ integer_of x) × ((y : Value) → Contains (first ∷ others) y → n ≤ℤ integer_of y)
    go (inl f) = (first, contained_first first others, e ∙ f, all)
    go (inr r) = (r.0, contained_later first others r.0 r.1, e ∙ r.2, all)

least_there : (s : Value) (vs : List Value) → set_members s ≡ vs → MatchOption (least_of vs) (set_members s ≡ []) (IsLeast s)
least_there s [] from = from
least_there s (v ∷ vs) from =
    subst (λ us. (x : Value) × Contains us x × (least_from (integer_of v) vs ≡ integer_of x) × ((y : Value) → Contains us y → least_from (integer_of v) vs ≤ℤ integer_of y)) (sym from)
    (least_is v vs (least_from (integer_of v) vs) refl)

pub told_least : (s : Value) (vs : List Value) (o : Option ℤ) → vs ≡ set_members s → o ≡ least_of vs → MatchOption o (set_members s ≡ []) (IsLeast s)
told_least s vs o from is = subst (λ x. MatchOption x (set_members s ≡ []) (IsLeast s)) (sym is) (least_there s vs (sym from))

-- THE GREATEST

greatest_reached : (n : ℤ) (vs : List Value) → Reaches (greatest_from n vs) n vs
greatest_reached n [] = inl refl
greatest_reached n (v ∷ vs) =
    later_reached n (int_max n (integer_of v)) v vs (greater n (integer_of v) (int_lt (integer_of v) n) refl).2 (greatest_from n (v ∷ vs)) (greatest_reached (int_max n (integer_of v)) vs)

greatest_above : (n : ℤ) (vs : List Value) → n ≤ℤ greatest_from n vs
greatest_above n [] = ≤ℤ_refl n
greatest_above n (v ∷ vs) =
    at_most n (int_max n (integer_of v)) (greatest_from n (v ∷ vs)) (greater n (integer_of v) (int_lt (integer_of v) n) refl).0 (greatest_above (int_max n (integer_of v)) vs)

greatest_bound : (n : ℤ) (vs : List Value) (y : Value) → Contains vs y → integer_of y ≤ℤ greatest_from n vs
greatest_bound n [] y c = absurd (contains_none y c)
greatest_bound n (v ∷ vs) y c = go (contained_cases v vs y c) (λ d. greatest_bound (int_max n (integer_of v)) vs y d)
  where
    go : (v ≡ y) ⊎ Contains vs y → (Contains vs y → integer_of y ≤ℤ greatest_from n (v ∷ vs)) → integer_of y ≤ℤ greatest_from n (v ∷ vs)
    go (inl is) more =
        subst (λ z. integer_of z ≤ℤ greatest_from n (v ∷ vs)) is
        (at_most (integer_of v) (int_max n (integer_of v)) (greatest_from n (v ∷ vs)) (greater n (integer_of v) (int_lt (integer_of v) n) refl).1 (greatest_above (int_max n (integer_of v)) vs))
    go (inr d) more = more d

greatest_is : (first : Value) (others : List Value) (n : ℤ) → n ≡ greatest_from (integer_of first) others
    → (x : Value) × Contains (first ∷ others) x × (n ≡ integer_of x) × ((y : Value) → Contains (first ∷ others) y → integer_of y ≤ℤ n)
greatest_is first others n e = go (greatest_reached (integer_of first) others)
  where
    bound : (y : Value) → (first ≡ y) ⊎ Contains others y → integer_of y ≤ℤ n
    bound y (inl is) = subst (λ k. integer_of y ≤ℤ k) (sym e) (subst (λ z. integer_of z ≤ℤ greatest_from (integer_of first) others) is (greatest_above (integer_of first) others))
    bound y (inr c) = subst (λ k. integer_of y ≤ℤ k) (sym e) (greatest_bound (integer_of first) others y c)

    all : (y : Value) → Contains (first ∷ others) y → integer_of y ≤ℤ n
    all y c = bound y (contained_cases first others y c)

    go : Reaches (greatest_from (integer_of first) others) (integer_of first) others
        → (x : Value) × Contains (first ∷ others) x × (n ≡ integer_of x) × ((y : Value) → Contains (first ∷ others) y → integer_of y ≤ℤ n)
    go (inl f) = (first, contained_first first others, e ∙ f, all)
    go (inr r) = (r.0, contained_later first others r.0 r.1, e ∙ r.2, all)

greatest_there : (s : Value) (vs : List Value) → set_members s ≡ vs → MatchOption (greatest_of vs) (set_members s ≡ []) (IsGreatest s)
greatest_there s [] from = from
greatest_there s (v ∷ vs) from =
    subst (λ us. (x : Value) × Contains us x × (greatest_from (integer_of v) vs ≡ integer_of x) × ((y : Value) → Contains us y → integer_of y ≤ℤ greatest_from (integer_of v) vs)) (sym from)
    (greatest_is v vs (greatest_from (integer_of v) vs) refl)

pub told_greatest : (s : Value) (vs : List Value) (o : Option ℤ) → vs ≡ set_members s → o ≡ greatest_of vs → MatchOption o (set_members s ≡ []) (IsGreatest s)
told_greatest s vs o from is = subst (λ x. MatchOption x (set_members s ≡ []) (IsGreatest s)) (sym is) (greatest_there s vs (sym from))

pub ruleset ends = (told_least, told_greatest)
