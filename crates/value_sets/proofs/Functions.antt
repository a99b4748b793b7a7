-- Functions: in an ascending list, pairs with one left side are neighbours.
use Rattle.std.proofs.Common.{◌≡◌, ◌∙◌, ◌⊎◌, ◌↔◌, inl, inr, ap, sym, subst, refl, Bool, true, false, List, [], ◌∷◌, Option, Some, None, Ok, Err}
use Rattle.std.specs.Prelude.{not, IsTrue, ⊤, if◌then◌else◌}
use Rattle.std.specs.List.{Contains}
use Rattle.std.specs.Ordering.{is_lt, is_eq, ordering_then, ordering_reverse}
use Rattle.std.specs.declared.cmp.Ordering.{Ordering}
use Rattle.std.specs.declared.cmp.Ordering.TheVariants.{Less, Equal, Greater}
use Rattle.std.proofs.lemmas.Cmp.{tied_itself}
use Rattle.formula_core.proofs.Weakening.{first_true, second_true, both_true}
use Rattle.event_values.specs.declared.value.Value.{Value, out-Value}
use Rattle.event_values.specs.declared.value.Value.TheOpen.{Value-F, Int, Truth, Elem, Pair, Set}
use Rattle.event_values.specs.declared.value.Value.TheVariants as value
use Rattle.event_values.specs.declared.value.Value.TheViews.{roll-out-Value, rolls-Pair, outs-Pair}
use Rattle.event_values.specs.Order.{value_cmp, value_cmp_step, ascends_behind, ascends, ascending}
use Rattle.event_values.proofs.Orders.{parts_of, cmp_at, equal_is_same, order_turned, ascending_ascends, ascending_members}
use Rattle.event_values.proofs.Total.{order_total}
use Rattle.value_sets.specs.declared.fault.ValueFault.TheVariants.{Undefined}
use Rattle.value_sets.specs.Sets.{set_members, In, IsFunctional, IsApplied, IsTold}
use Rattle.value_sets.specs.Private.{same_left_at, have_same_left, lefts_differ_behind, lefts_differ, value_by, partner_of}
use Rattle.value_sets.proofs.Keeping.{no_true, contains_none, some_same, the_pair, right_is, contained_first, contained_later, contained_cases}
use Rattle.value_sets.proofs.Rows.{less_there, tail_ascends, above_first}

greater_less : Greater ≡ Less → ⊥
greater_less e = subst is_greater e tt
  where
    is_greater : Ordering → Type 0
    is_greater Greater = ⊤
    is_greater o = ⊥

pub equal_less : Equal ≡ Less → ⊥
equal_less e = subst is_equal e tt
  where
    is_equal : Ordering → Type 0
    is_equal Equal = ⊤
    is_equal o = ⊥

-- WHAT STANDS BETWEEN TWO PAIRS WITH ONE LEFT SIDE

tied_sides : (a d : Value) (o p q : Ordering) → value_cmp a d ≡ o → ordering_then o p ≡ Less → ordering_then (ordering_reverse o) q ≡ Less → a ≡ d
tied_sides a d Less p q e h g = absurd (greater_less g)
tied_sides a d Equal p q e h g = equal_is_same a d e
tied_sides a d Greater p q e h g = absurd (greater_less h)

between : (a b c x : Value) → value_cmp (value.Pair a b) x ≡ Less → value_cmp x (value.Pair a c) ≡ Less → (d : Value) × (x ≡ value.Pair a d)
between a b c x low high = go (out-Value x) refl
  where
    below : (y : Value-F Value) → out-Value x ≡ y → value_cmp_step (parts_of (Pair a b)) y ≡ Less
    below y e = sym (cmp_at (Pair a b) (value.Pair a b) (rolls-Pair a b) x ∙ ap (value_cmp_step (parts_of (Pair a b))) e) ∙ low

    above : (y : Value-F Value) → out-Value x ≡ y → value_cmp_step (parts_of y) (Pair a c) ≡ Less
    above y e = sym (cmp_at (out-Value x) x (roll-out-Value x) (value.Pair a c) ∙ (λ i. value_cmp_step (parts_of (e i)) (outs-Pair a c i))) ∙ high

    go : (y : Value-F Value) → out-Value x ≡ y → (d : Value) × (x ≡ value.Pair a d)
    go (Int n) e = absurd (greater_less (below (Int n) e))
    go (Truth t) e = absurd (greater_less (below (Truth t) e))
    go (Elem s k) e = absurd (greater_less (below (Elem s k) e))
    go (Pair d f) e =
        let turned : ordering_then (ordering_reverse (value_cmp a d)) (value_cmp f c) ≡ Less = ap (λ o. ordering_then o (value_cmp f c)) (sym (order_turned a d)) ∙ above (Pair d f) e in
        (f, the_pair x d f e ∙ ap (λ z. value.Pair z f) (sym (tied_sides a d (value_cmp a d) (value_cmp b f) (value_cmp f c) refl (below (Pair d f) e) turned)))
    go (Set vs) e = absurd (greater_less (above (Set vs) e))

left_of_pairs : (v w a b c : Value) → v ≡ value.Pair a b → w ≡ value.Pair a c → have_same_left v w ≡ true
left_of_pairs v w a b c e f =
    (λ i. have_same_left (e i) (f i)) ∙ (λ i. same_left_at (outs-Pair a b i) (outs-Pair a c i)) ∙ ap is_eq (tied_itself order_total a)

no_neighbour : (v w a b c : Value) → not (have_same_left v w) ≡ true → v ≡ value.Pair a b → w ≡ value.Pair a c → ⊥
no_neighbour v w a b c apart e f = no_true (sym (ap not (left_of_pairs v w a b c e f)) ∙ apart)

-- no pair behind has the left side of the first
none_behind : (v : Value) (vs : List Value) (a b c : Value) → ascends_behind v vs ≡ true → lefts_differ_behind v vs ≡ true → v ≡ value.Pair a b
    → Contains vs (value.Pair a c) → ⊥
none_behind v [] a b c h g e d = contains_none (value.Pair a c) d
none_behind v (w ∷ ws) a b c h g e d = go (contained_cases w ws (value.Pair a c) d)
  where
    apart : not (have_same_left v w) ≡ true
    apart = first_true (not (have_same_left v w)) (lefts_differ_behind w ws) g

    first : value_cmp v w ≡ Less
    first = less_there (value_cmp v w) (first_true (is_lt (value_cmp v w)) (ascends_behind w ws) h)

    go : (w ≡ value.Pair a c) ⊎ Contains ws (value.Pair a c) → ⊥
    go (inl is) = no_neighbour v w a b c apart e is
    go (inr f) =
        let last : value_cmp w (value.Pair a c) ≡ Less = above_first w ws (second_true (is_lt (value_cmp v w)) (ascends_behind w ws) h) (value.Pair a c) f in
        let m = between a b c w (ap (λ z. value_cmp z w) (sym e) ∙ first) last in
        no_neighbour v w a b m.0 apart e m.1

-- LISTS OF A FUNCTION

abbrev AreFunctional : List Value → Type 0
AreFunctional vs = (a b c : Value) → Contains vs (value.Pair a b) → Contains vs (value.Pair a c) → b ≡ c

tail_differs : (v : Value) (vs : List Value) → lefts_differ_behind v vs ≡ true → lefts_differ vs ≡ true
tail_differs v [] h = refl
tail_differs v (w ∷ ws) h = second_true (not (have_same_left v w)) (lefts_differ_behind w ws) h

functional_only : (vs : List Value) → ascends vs ≡ true → lefts_differ vs ≡ true → AreFunctional vs
functional_only [] h g a b c d e = absurd (contains_none (value.Pair a b) d)
functional_only (v ∷ vs) h g a b c d e =
    go (contained_cases v vs (value.Pair a b) d) (contained_cases v vs (value.Pair a c) e) (λ p q. functional_only vs (tail_ascends v vs h) (tail_differs v vs g) a b c p q)
  where
    go : (v ≡ value.Pair a b) ⊎ Contains vs (value.Pair a b) → (v ≡ value.Pair a c) ⊎ Contains vs (value.Pair a c)
        → (Contains vs (value.Pair a b) → Contains vs (value.Pair a c) → b ≡ c) → b ≡ c
    go (inl p) (inl q) more = some_same b c (sym (right_is v a b p) ∙ right_is v a c q)
    go (inl p) (inr q) more = absurd (none_behind v vs a b c h g p q)
    go (inr p) (inl q) more = absurd (none_behind v vs a c b h g q p)
    go (inr p) (inr q) more = more p q

same_left_only : (v w : Value) → have_same_left v w ≡ true → (a b c : Value) × (v ≡ value.Pair a b) × (w ≡ value.Pair a c)
same_left_only v w h = go (out-Value v) (out-Value w) refl refl h
  where
    sides : (a b c d : Value) (o : Ordering) → value_cmp a c ≡ o → is_eq o ≡ true → out-Value v ≡ Pair a b → out-Value w ≡ Pair c d
        → (a b c : Value) × (v ≡ value.Pair a b) × (w ≡ value.Pair a c)
    sides a b c d Less e f p q = absurd (no_true f)
    sides a b c d Equal e f p q = (a, b, d, the_pair v a b p, the_pair w c d q ∙ ap (λ z. value.Pair z d) (sym (equal_is_same a c e)))
    sides a b c d Greater e f p q = absurd (no_true f)

    go : (x y : Value-F Value) → out-Value v ≡ x → out-Value w ≡ y → same_left_at x y ≡ true → (a b c : Value) × (v ≡ value.Pair a b) × (w ≡ value.Pair a c)
    go (Int n) y p q f = absurd (no_true f)
    go (Truth t) y p q f = absurd (no_true f)
    go (Elem s k) y p q f = absurd (no_true f)
    go (Set vs) y p q f = absurd (no_true f)
    go (Pair a b) (Int n) p q f = absurd (no_true f)
    go (Pair a b) (Truth t) p q f = absurd (no_true f)
    go (Pair a b) (Elem s k) p q f = absurd (no_true f)
    go (Pair a b) (Set vs) p q f = absurd (no_true f)
    go (Pair a b) (Pair c d) p q f = sides a b c d (value_cmp a c) refl f p q

neighbours_apart : (v w : Value) (ws : List Value) (b : Bool) → have_same_left v w ≡ b → value_cmp v w ≡ Less → AreFunctional (v ∷ w ∷ ws) → not b ≡ true
neighbours_apart v w ws false e less f = refl
neighbours_apart v w ws true e less f =
    let s = same_left_only v w e in
    let one : Contains (v ∷ w ∷ ws) (value.Pair s.0 s.1) = subst (Contains (v ∷ w ∷ ws)) s.3 (contained_first v (w ∷ ws)) in
    let other : Contains (v ∷ w ∷ ws) (value.Pair s.0 s.2) = subst (Contains (v ∷ w ∷ ws)) s.4 (contained_later v (w ∷ ws) w (contained_first w ws)) in
    let same : v ≡ w = s.3 ∙ ap (value.Pair s.0) (f s.0 s.1 s.2 one other) ∙ sym s.4 in
    absurd (equal_less (sym (ap (value_cmp v) (sym same) ∙ tied_itself order_total v) ∙ less))

later_functional : (v : Value) (vs : List Value) → AreFunctional (v ∷ vs) → AreFunctional vs
later_functional v vs f a b c d e = f a b c (contained_later v vs (value.Pair a b) d) (contained_later v vs (value.Pair a c) e)

functional_all : (v : Value) (vs : List Value) → ascends_behind v vs ≡ true → AreFunctional (v ∷ vs) → lefts_differ_behind v vs ≡ true
functional_all v [] h f = refl
functional_all v (w ∷ ws) h f =
    both_true (not (have_same_left v w)) (lefts_differ_behind w ws)
    (neighbours_apart v w ws (have_same_left v w) refl (less_there (value_cmp v w) (first_true (is_lt (value_cmp v w)) (ascends_behind w ws) h)) f)
    (functional_all w ws (second_true (is_lt (value_cmp v w)) (ascends_behind w ws) h) (later_functional v (w ∷ ws) f))

functional_each : (vs : List Value) → ascends vs ≡ true → AreFunctional vs → lefts_differ vs ≡ true
functional_each [] h f = refl
functional_each (v ∷ vs) h f = functional_all v vs h f

functional_told : (b : Bool) (r : Value) (us : List Value) → ascends us ≡ true → ((x : Value) → Contains us x ↔ In x r) → b ≡ lefts_differ us → IsTrue b ↔ IsFunctional r
functional_told b r us h same e = (
  (λ t a x y c d. functional_only us h (sym e ∙ t) a x y ((same (value.Pair a x)).1 c) ((same (value.Pair a y)).1 d)),
  (λ f. e ∙ functional_each us h (λ a x y c d. f a x y ((same (value.Pair a x)).0 c) ((same (value.Pair a y)).0 d))),
)

pub functional_same : (b : Bool) (r : Value) (us : List Value) → us ≡ set_members r → ascends us ≡ true → b ≡ lefts_differ us → IsTrue b ↔ IsFunctional r
functional_same b r us from h e =
    functional_told b r us h (λ x. ((λ c. subst (λ vs. Contains vs x) from c), (λ c. subst (λ vs. Contains vs x) (sym from) c))) e

pub functional_ordered : (b : Bool) (r : Value) (us : List Value) → us ≡ ascending (set_members r) → b ≡ lefts_differ us → IsTrue b ↔ IsFunctional r
functional_ordered b r us from e =
    functional_told b r (ascending (set_members r)) (ascending_ascends (set_members r)) (ascending_members (set_members r)) (e ∙ ap lefts_differ from)

pub ruleset tests = (functional_same, functional_ordered)

-- THE VALUE AT AN ARGUMENT

found_by : (l r a b : Value) (x : Value) (xs : List Value) (o : Ordering) → value_cmp l a ≡ o → x ≡ value.Pair l r → (if is_eq o then Some r else partner_of xs a) ≡ Some b
    → (partner_of xs a ≡ Some b → Contains xs (value.Pair a b)) → Contains (x ∷ xs) (value.Pair a b)
found_by l r a b x xs Less e is h more = contained_later x xs (value.Pair a b) (more h)
found_by l r a b x xs Equal e is h more =
    subst (Contains (x ∷ xs)) (is ∙ (λ i. value.Pair (equal_is_same l a e i) (some_same r b h i))) (contained_first x xs)
found_by l r a b x xs Greater e is h more = contained_later x xs (value.Pair a b) (more h)

found_first : (x : Value) (xs : List Value) (a b : Value) (y : Value-F Value) → out-Value x ≡ y → value_by a y (partner_of xs a) ≡ Some b
    → (partner_of xs a ≡ Some b → Contains xs (value.Pair a b)) → Contains (x ∷ xs) (value.Pair a b)
found_first x xs a b (Int n) e h more = contained_later x xs (value.Pair a b) (more h)
found_first x xs a b (Truth t) e h more = contained_later x xs (value.Pair a b) (more h)
found_first x xs a b (Elem s k) e h more = contained_later x xs (value.Pair a b) (more h)
found_first x xs a b (Pair l r) e h more = found_by l r a b x xs (value_cmp l a) refl (the_pair x l r e) h more
found_first x xs a b (Set vs) e h more = contained_later x xs (value.Pair a b) (more h)

none_some : (b : Value) → ◌≡◌ {A = Option Value} None (Some b) → ⊥
none_some b e = subst is_none e tt
  where
    is_none : Option Value → Type 0
    is_none None = ⊤
    is_none (Some x) = ⊥

found_only : (xs : List Value) (a b : Value) → partner_of xs a ≡ Some b → Contains xs (value.Pair a b)
found_only [] a b h = absurd (none_some b h)
found_only (x ∷ xs) a b h = found_first x xs a b (out-Value x) refl h (λ g. found_only xs a b g)

-- a pair with the left side is found
there_first : (x : Value) (xs : List Value) (a b : Value) → x ≡ value.Pair a b → (value_by a (out-Value x) (partner_of xs a) ≡ None) → ⊥
there_first x xs a b is h =
    none_some b (sym h ∙ ap (λ y. value_by a y (partner_of xs a)) (ap out-Value is ∙ outs-Pair a b) ∙ ap (λ o. if is_eq o then Some b else partner_of xs a) (tied_itself order_total a))

there_by : (l r a : Value) (rest : Option Value) (o : Ordering) → (if is_eq o then Some r else rest) ≡ None → rest ≡ None
there_by l r a rest Less h = h
there_by l r a rest Equal h = absurd (none_some r (sym h))
there_by l r a rest Greater h = h

there_later : (a : Value) (rest : Option Value) (y : Value-F Value) → value_by a y rest ≡ None → rest ≡ None
there_later a rest (Int n) h = h
there_later a rest (Truth t) h = h
there_later a rest (Elem s k) h = h
there_later a rest (Pair l r) h = there_by l r a rest (value_cmp l a) h
there_later a rest (Set vs) h = h

found_none : (xs : List Value) (a b : Value) → partner_of xs a ≡ None → Contains xs (value.Pair a b) → ⊥
found_none [] a b h c = contains_none (value.Pair a b) c
found_none (x ∷ xs) a b h c = go (contained_cases x xs (value.Pair a b) c) (λ d. found_none xs a b (there_later a (partner_of xs a) (out-Value x) h) d)
  where
    go : (x ≡ value.Pair a b) ⊎ Contains xs (value.Pair a b) → (Contains xs (value.Pair a b) → ⊥) → ⊥
    go (inl is) more = there_first x xs a b is h
    go (inr d) more = more d

pub applied_value : (r a v b : Value) (ps : List Value) (f : Bool) → ps ≡ set_members r → Some v ≡ partner_of ps a → (IsTrue f ↔ IsFunctional r) → f ≡ true → b ≡ v
    → IsTold (IsApplied r a) (Ok b)
applied_value r a v b ps f from is same t e =
    inr (same.0 t, found_only (set_members r) a b (sym (ap Some e ∙ is ∙ ap (λ vs. partner_of vs a) from)))

pub applied_none : (r a : Value) (ps : List Value) → ps ≡ set_members r → None ≡ partner_of ps a → IsTold (IsApplied r a) (Err Undefined)
applied_none r a ps from is = inr (refl, (λ h. found_none (set_members r) a h.0.0 (sym (is ∙ ap (λ vs. partner_of vs a) from)) h.0.1))

pub applied_twice : (r a : Value) (f : Bool) → (IsTrue f ↔ IsFunctional r) → f ≡ false → IsTold (IsApplied r a) (Err Undefined)
applied_twice r a f same e = inr (refl, (λ h. no_true (sym e ∙ same.1 h.1)))

pub ruleset applications = (applied_value, applied_none, applied_twice)
