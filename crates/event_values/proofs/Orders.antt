-- The order of values, and the ascending list of values.
use Rattle.std.proofs.Common.{◌≡◌, ◌∙◌, ◌⊎◌, ◌↔◌, inl, inr, ap, sym, subst, refl, ℕ, ℤ, zero, suc, ◌<◌, Bool, true, false, ◌&&◌, List, [], ◌∷◌, map, length, slice_index_or, arith}
use Rattle.std.specs.List.{AllByRecursion, Contains}
use Rattle.std.specs.Ordering.{nat_cmp, bool_cmp, ordering_then, ordering_reverse, is_lt, is_eq}
use Rattle.std.specs.Cmp.Lexicographic.{slice_cmp, same_text}
use Rattle.std.specs.declared.cmp.Ordering.{Ordering}
use Rattle.std.specs.declared.cmp.Ordering.TheVariants.{Less, Equal, Greater}
use Rattle.std.proofs.lemmas.Cmp.{ranked, int_ranked, nat_cmp_total, int_cmp_total, nat_list_cmp_total}
use Rattle.std.proofs.lemmas.Map.Text.{is_eq-slice_cmp}
use Rattle.event_values.specs.declared.value.Value.{Value, out-Value, roll-Value}
use Rattle.event_values.specs.declared.value.Value.TheOpen.{Value-F, Int, Truth, Elem, Pair, Set}
use Rattle.event_values.specs.declared.value.Value.TheVariants as value
use Rattle.event_values.specs.declared.value.Value.TheViews.{roll-out-Value, rolls-Int, rolls-Truth, rolls-Elem, rolls-Pair, rolls-Set, outs-Int, outs-Truth, outs-Elem, outs-Pair, outs-Set}
use Rattle.event_values.specs.declared.value.Value.TheFolds.{map-Value, fold-roll-Value}
use Rattle.event_values.specs.Order.{members_cmp, value_cmp_step, value_cmp, ascends_behind, ascends, insert_by, insert_value, ascending}
use Rattle.formula_core.proofs.Weakening.{first_true, second_true, both_true}
use Rattle.event_values.proofs.ValueInduction.{value_induction}

-- one value, with the order of each part in its place
abbrev pub parts_of : Value-F Value → Value-F (Value → Ordering)
parts_of x = map-Value Value (Value → Ordering) value_cmp x

pub cmp_at : (x : Value-F Value) (v : Value) → roll-Value x ≡ v → (w : Value) → value_cmp v w ≡ value_cmp_step (parts_of x) (out-Value w)
cmp_at x v e w = ap (λ u. value_cmp u w) (sym e) ∙ ap (λ g. g w) (fold-roll-Value (Value → Ordering) (λ u z. value_cmp_step u (out-Value z)) x)

-- EQUAL VALUES ARE THE SAME

both_equal : (o p : Ordering) → ordering_then o p ≡ Equal → (o ≡ Equal) × (p ≡ Equal)
both_equal Less p h = cc
both_equal Equal p h = (refl, h)
both_equal Greater p h = cc

abbrev IsExact : Value → Type 0
IsExact v = (w : Value) → value_cmp v w ≡ Equal → v ≡ w

exact_by : (x : Value-F Value) (v : Value) → roll-Value x ≡ v → ((y : Value-F Value) → value_cmp_step (parts_of x) y ≡ Equal → x ≡ y) → IsExact v
exact_by x v e f w h = sym e ∙ ap roll-Value (f (out-Value w) (sym (cmp_at x v e w) ∙ h)) ∙ roll-out-Value w

int_exact : (n : ℤ) (y : Value-F Value) → value_cmp_step (parts_of (Int n)) y ≡ Equal → Int n ≡ y
int_exact n (Int m) h = ap Int (int_ranked n m Equal (sym h))
int_exact n (Truth b) h = cc
int_exact n (Elem s k) h = cc
int_exact n (Pair a b) h = cc
int_exact n (Set vs) h = cc

bools_equal : (a b : Bool) → bool_cmp a b ≡ Equal → a ≡ b
bools_equal true true h = refl
bools_equal true false h = cc
bools_equal false true h = cc
bools_equal false false h = refl

truth_exact : (a : Bool) (y : Value-F Value) → value_cmp_step (parts_of (Truth a)) y ≡ Equal → Truth a ≡ y
truth_exact a (Int m) h = cc
truth_exact a (Truth b) h = ap Truth (bools_equal a b h)
truth_exact a (Elem s k) h = cc
truth_exact a (Pair u v) h = cc
truth_exact a (Set vs) h = cc

pub texts_equal : (s t : List ℕ) → slice_cmp nat_cmp s t ≡ Equal → s ≡ t
texts_equal s t h = same_text s t (sym (ap is_eq h) ∙ is_eq-slice_cmp s t)

elem_exact : (s : List ℕ) (k : ℕ) (y : Value-F Value) → value_cmp_step (parts_of (Elem s k)) y ≡ Equal → Elem s k ≡ y
elem_exact s k (Int m) h = cc
elem_exact s k (Truth b) h = cc
elem_exact s k (Elem t n) h =
    let both = both_equal (slice_cmp nat_cmp s t) (nat_cmp k n) h in λ i. Elem (texts_equal s t both.0 i) (ranked k n Equal (sym both.1) i)
elem_exact s k (Pair u v) h = cc
elem_exact s k (Set vs) h = cc

pair_exact : (a b : Value) → IsExact a → IsExact b → (y : Value-F Value) → value_cmp_step (parts_of (Pair a b)) y ≡ Equal → Pair a b ≡ y
pair_exact a b f g (Int m) h = cc
pair_exact a b f g (Truth c) h = cc
pair_exact a b f g (Elem s k) h = cc
pair_exact a b f g (Pair c d) h = let both = both_equal (value_cmp a c) (value_cmp b d) h in λ i. Pair (f c both.0 i) (g d both.1 i)
pair_exact a b f g (Set vs) h = cc

members_exact : (xs ys : List Value) → AllByRecursion IsExact xs → members_cmp (map value_cmp xs) ys ≡ Equal → xs ≡ ys
members_exact [] [] all h = refl
members_exact [] (y ∷ ys) all h = cc
members_exact (x ∷ xs) [] all h = cc
members_exact (x ∷ xs) (y ∷ ys) all h =
    let both = both_equal (value_cmp x y) (members_cmp (map value_cmp xs) ys) h in λ i. all.0 y both.0 i ∷ members_exact xs ys all.1 both.1 i

set_exact : (xs : List Value) → AllByRecursion IsExact xs → (y : Value-F Value) → value_cmp_step (parts_of (Set xs)) y ≡ Equal → Set xs ≡ y
set_exact xs all (Int m) h = cc
set_exact xs all (Truth b) h = cc
set_exact xs all (Elem s k) h = cc
set_exact xs all (Pair a b) h = cc
set_exact xs all (Set ys) h = ap Set (members_exact xs ys all h)

pub equal_is_same : (v w : Value) → value_cmp v w ≡ Equal → v ≡ w
equal_is_same = value_induction IsExact
    (λ n. exact_by (Int n) (value.Int n) (rolls-Int n) (int_exact n))
    (λ b. exact_by (Truth b) (value.Truth b) (rolls-Truth b) (truth_exact b))
    (λ s k. exact_by (Elem s k) (value.Elem s k) (rolls-Elem s k) (elem_exact s k))
    (λ a b f g. exact_by (Pair a b) (value.Pair a b) (rolls-Pair a b) (pair_exact a b f g))
    (λ xs all. exact_by (Set xs) (value.Set xs) (rolls-Set xs) (set_exact xs all))

-- THE OTHER WAY ROUND

abbrev IsTurned : Value → Type 0
IsTurned v = (w : Value) → value_cmp w v ≡ ordering_reverse (value_cmp v w)

turned_by : (x : Value-F Value) (v : Value) → roll-Value x ≡ v → out-Value v ≡ x
    → ((y : Value-F Value) → value_cmp_step (parts_of y) x ≡ ordering_reverse (value_cmp_step (parts_of x) y)) → IsTurned v
turned_by x v e o f w =
    cmp_at (out-Value w) w (roll-out-Value w) v ∙ ap (value_cmp_step (parts_of (out-Value w))) o ∙ f (out-Value w) ∙ ap ordering_reverse (sym (cmp_at x v e w))

int_turned : (n : ℤ) (y : Value-F Value) → value_cmp_step (parts_of y) (Int n) ≡ ordering_reverse (value_cmp_step (parts_of (Int n)) y)
int_turned n (Int m) = int_cmp_total.antisymm m n
int_turned n (Truth b) = refl
int_turned n (Elem s k) = refl
int_turned n (Pair a b) = refl
int_turned n (Set vs) = refl

bools_turned : (a b : Bool) → bool_cmp b a ≡ ordering_reverse (bool_cmp a b)
bools_turned true true = refl
bools_turned true false = refl
bools_turned false true = refl
bools_turned false false = refl

truth_turned : (a : Bool) (y : Value-F Value) → value_cmp_step (parts_of y) (Truth a) ≡ ordering_reverse (value_cmp_step (parts_of (Truth a)) y)
truth_turned a (Int m) = refl
truth_turned a (Truth b) = bools_turned a b
truth_turned a (Elem s k) = refl
truth_turned a (Pair u v) = refl
truth_turned a (Set vs) = refl

then_turned : (o p q r : Ordering) → o ≡ ordering_reverse q → p ≡ ordering_reverse r → ordering_then o p ≡ ordering_reverse (ordering_then q r)
then_turned o p Less r e f = ap (λ z. ordering_then z p) e
then_turned o p Equal r e f = ap (λ z. ordering_then z p) e ∙ f
then_turned o p Greater r e f = ap (λ z. ordering_then z p) e

elem_turned : (s : List ℕ) (k : ℕ) (y : Value-F Value) → value_cmp_step (parts_of y) (Elem s k) ≡ ordering_reverse (value_cmp_step (parts_of (Elem s k)) y)
elem_turned s k (Int m) = refl
elem_turned s k (Truth b) = refl
elem_turned s k (Elem t n) =
    then_turned (slice_cmp nat_cmp t s) (nat_cmp n k) (slice_cmp nat_cmp s t) (nat_cmp k n) (nat_list_cmp_total.antisymm t s) (nat_cmp_total.antisymm n k)
elem_turned s k (Pair u v) = refl
elem_turned s k (Set vs) = refl

pair_turned : (a b : Value) → IsTurned a → IsTurned b → (y : Value-F Value) → value_cmp_step (parts_of y) (Pair a b) ≡ ordering_reverse (value_cmp_step (parts_of (Pair a b)) y)
pair_turned a b f g (Int m) = refl
pair_turned a b f g (Truth c) = refl
pair_turned a b f g (Elem s k) = refl
pair_turned a b f g (Pair c d) = then_turned (value_cmp c a) (value_cmp d b) (value_cmp a c) (value_cmp b d) (f c) (g d)
pair_turned a b f g (Set vs) = refl

members_turned : (xs ys : List Value) → AllByRecursion IsTurned xs → members_cmp (map value_cmp ys) xs ≡ ordering_reverse (members_cmp (map value_cmp xs) ys)
members_turned [] [] all = refl
members_turned [] (y ∷ ys) all = refl
members_turned (x ∷ xs) [] all = refl
members_turned (x ∷ xs) (y ∷ ys) all =
    then_turned (value_cmp y x) (members_cmp (map value_cmp ys) xs) (value_cmp x y) (members_cmp (map value_cmp xs) ys) (all.0 y) (members_turned xs ys all.1)

set_turned : (xs : List Value) → AllByRecursion IsTurned xs → (y : Value-F Value) → value_cmp_step (parts_of y) (Set xs) ≡ ordering_reverse (value_cmp_step (parts_of (Set xs)) y)
set_turned xs all (Int m) = refl
set_turned xs all (Truth b) = refl
set_turned xs all (Elem s k) = refl
set_turned xs all (Pair a b) = refl
set_turned xs all (Set ys) = members_turned xs ys all

pub order_turned : (v w : Value) → value_cmp w v ≡ ordering_reverse (value_cmp v w)
order_turned = value_induction IsTurned
    (λ n. turned_by (Int n) (value.Int n) (rolls-Int n) (outs-Int n) (int_turned n))
    (λ b. turned_by (Truth b) (value.Truth b) (rolls-Truth b) (outs-Truth b) (truth_turned b))
    (λ s k. turned_by (Elem s k) (value.Elem s k) (rolls-Elem s k) (outs-Elem s k) (elem_turned s k))
    (λ a b f g. turned_by (Pair a b) (value.Pair a b) (rolls-Pair a b) (outs-Pair a b) (pair_turned a b f g))
    (λ xs all. turned_by (Set xs) (value.Set xs) (rolls-Set xs) (outs-Set xs) (set_turned xs all))

-- THE ASCENDING LIST

-- a value put behind one that is below it, in a list behind that one
lower_by : (u v w : Value) (ws : List Value) (o : Ordering) → value_cmp v w ≡ o → is_lt (value_cmp u v) ≡ true → ascends_behind u (w ∷ ws) ≡ true
    → (is_lt (value_cmp w v) ≡ true → ascends_behind w ws ≡ true → ascends_behind w (insert_value v ws) ≡ true) → ascends_behind u (insert_value v (w ∷ ws)) ≡ true
lower_by u v w ws Less e low up more =
    rw e (both_true (is_lt (value_cmp u v)) (is_lt (value_cmp v w) && ascends_behind w ws) low
    (both_true (is_lt (value_cmp v w)) (ascends_behind w ws) (ap is_lt e) (second_true (is_lt (value_cmp u w)) (ascends_behind w ws) up)))
lower_by u v w ws Equal e low up more = rw e up
lower_by u v w ws Greater e low up more =
    rw e (both_true (is_lt (value_cmp u w)) (ascends_behind w (insert_value v ws)) (first_true (is_lt (value_cmp u w)) (ascends_behind w ws) up)
    (more (ap is_lt (order_turned v w ∙ ap ordering_reverse e)) (second_true (is_lt (value_cmp u w)) (ascends_behind w ws) up)))

behind_lower : (u v : Value) (ws : List Value) → is_lt (value_cmp u v) ≡ true → ascends_behind u ws ≡ true → ascends_behind u (insert_value v ws) ≡ true
behind_lower u v [] low up = both_true (is_lt (value_cmp u v)) true low refl
behind_lower u v (w ∷ ws) low up = lower_by u v w ws (value_cmp v w) refl low up (λ l h. behind_lower w v ws l h)

ascends_by : (v w : Value) (ws : List Value) (o : Ordering) → value_cmp v w ≡ o → ascends (w ∷ ws) ≡ true → ascends (insert_value v (w ∷ ws)) ≡ true
ascends_by v w ws Less e up = rw e (both_true (is_lt (value_cmp v w)) (ascends_behind w ws) (ap is_lt e) up)
ascends_by v w ws Equal e up = rw e up
ascends_by v w ws Greater e up = rw e (behind_lower w v ws (ap is_lt (order_turned v w ∙ ap ordering_reverse e)) up)

insert_ascends : (v : Value) (ws : List Value) → ascends ws ≡ true → ascends (insert_value v ws) ≡ true
insert_ascends v [] up = refl
insert_ascends v (w ∷ ws) up = ascends_by v w ws (value_cmp v w) refl up

pub ascending_ascends : (vs : List Value) → ascends (ascending vs) ≡ true
ascending_ascends [] = refl
ascending_ascends (v ∷ vs) = insert_ascends v (ascending vs) (ascending_ascends vs)

contained_first : (y : Value) (ys : List Value) → Contains (y ∷ ys) y
contained_first y ys = (zero, omega arith, refl)

contained_later : (y : Value) (ys : List Value) (x : Value) → Contains ys x → Contains (y ∷ ys) x
contained_later y ys x c = (suc c.0, omega (arith, c.1), c.2)

contained_cases : (y : Value) (ys : List Value) (x : Value) → Contains (y ∷ ys) x → (y ≡ x) ⊎ Contains ys x
contained_cases y ys x c = go c.0 c.1 c.2
  where
    go : (k : ℕ) → k < length (y ∷ ys) → slice_index_or (y ∷ ys) k x ≡ x → (y ≡ x) ⊎ Contains ys x
    go zero less is = inl is
    go (suc k) less is = inr (k, omega (arith, less), is)

abbrev Has : Value → List Value → Value → Type 0
Has v ws x = (v ≡ x) ⊎ Contains ws x

has_later : (v w : Value) (ws : List Value) (x : Value) → Has v ws x → Has v (w ∷ ws) x
has_later v w ws x (inl e) = inl e
has_later v w ws x (inr c) = inr (contained_later w ws x c)

-- the list with the value in its place, as the comparison with the first one has it
in_list : (v w : Value) (ws : List Value) (x : Value) (o : Ordering) → value_cmp v w ≡ o → Contains (insert_by o v w ws (insert_value v ws)) x
    → Contains (insert_value v (w ∷ ws)) x
in_list v w ws x o e c = subst (λ p. Contains (insert_by p v w ws (insert_value v ws)) x) (sym e) c

of_list : (v w : Value) (ws : List Value) (x : Value) (o : Ordering) → value_cmp v w ≡ o → Contains (insert_value v (w ∷ ws)) x
    → Contains (insert_by o v w ws (insert_value v ws)) x
of_list v w ws x o e c = subst (λ p. Contains (insert_by p v w ws (insert_value v ws)) x) e c

only_behind : (v w : Value) (ws : List Value) (x : Value) → (Contains (insert_value v ws) x → Has v ws x) → (w ≡ x) ⊎ Contains (insert_value v ws) x → Has v (w ∷ ws) x
only_behind v w ws x more (inl e) = inr (subst (λ z. Contains (w ∷ ws) z) e (contained_first w ws))
only_behind v w ws x more (inr d) = has_later v w ws x (more d)

only_by : (v w : Value) (ws : List Value) (x : Value) (o : Ordering) → value_cmp v w ≡ o → (Contains (insert_value v ws) x → Has v ws x)
    → Contains (insert_value v (w ∷ ws)) x → Has v (w ∷ ws) x
only_by v w ws x Less e more c = contained_cases v (w ∷ ws) x (of_list v w ws x Less e c)
only_by v w ws x Equal e more c = inr (of_list v w ws x Equal e c)
only_by v w ws x Greater e more c = only_behind v w ws x more (contained_cases w (insert_value v ws) x (of_list v w ws x Greater e c))

insert_only : (v : Value) (ws : List Value) (x : Value) → Contains (insert_value v ws) x → Has v ws x
insert_only v [] x c = contained_cases v [] x c
insert_only v (w ∷ ws) x c = only_by v w ws x (value_cmp v w) refl (λ d. insert_only v ws x d) c

has_behind : (v w : Value) (ws : List Value) (x : Value) → (Has v ws x → Contains (insert_value v ws) x) → (w ≡ x) ⊎ Contains ws x → Contains (w ∷ insert_value v ws) x
has_behind v w ws x more (inl e) = subst (λ z. Contains (w ∷ insert_value v ws) z) e (contained_first w (insert_value v ws))
has_behind v w ws x more (inr c) = contained_later w (insert_value v ws) x (more (inr c))

has_by : (v w : Value) (ws : List Value) (x : Value) (o : Ordering) → value_cmp v w ≡ o → (Has v ws x → Contains (insert_value v ws) x)
    → Has v (w ∷ ws) x → Contains (insert_value v (w ∷ ws)) x
has_by v w ws x Less e more (inl is) = in_list v w ws x Less e (subst (λ z. Contains (v ∷ w ∷ ws) z) is (contained_first v (w ∷ ws)))
has_by v w ws x Less e more (inr c) = in_list v w ws x Less e (contained_later v (w ∷ ws) x c)
has_by v w ws x Equal e more (inl is) = in_list v w ws x Equal e (subst (λ z. Contains (w ∷ ws) z) (sym (equal_is_same v w e) ∙ is) (contained_first w ws))
has_by v w ws x Equal e more (inr c) = in_list v w ws x Equal e c
has_by v w ws x Greater e more (inl is) = in_list v w ws x Greater e (contained_later w (insert_value v ws) x (more (inl is)))
has_by v w ws x Greater e more (inr c) = in_list v w ws x Greater e (has_behind v w ws x more (contained_cases w ws x c))

insert_has : (v : Value) (ws : List Value) (x : Value) → Has v ws x → Contains (insert_value v ws) x
insert_has v [] x (inl e) = subst (λ z. Contains (v ∷ []) z) e (contained_first v [])
insert_has v [] x (inr c) = contained_later v [] x c
insert_has v (w ∷ ws) x has = has_by v w ws x (value_cmp v w) refl (λ h. insert_has v ws x h) has

only_one : (u : Value) (us : List Value) (x : Value) → (Contains (ascending us) x → Contains us x) → Has u (ascending us) x → Contains (u ∷ us) x
only_one u us x more (inl e) = subst (λ z. Contains (u ∷ us) z) e (contained_first u us)
only_one u us x more (inr d) = contained_later u us x (more d)

has_one : (u : Value) (us : List Value) (x : Value) → (Contains us x → Contains (ascending us) x) → (u ≡ x) ⊎ Contains us x → Has u (ascending us) x
has_one u us x more (inl e) = inl e
has_one u us x more (inr d) = inr (more d)

ascending_only : (us : List Value) (x : Value) → Contains (ascending us) x → Contains us x
ascending_only [] x c = c
ascending_only (u ∷ us) x c = only_one u us x (λ d. ascending_only us x d) (insert_only u (ascending us) x c)

ascending_all : (us : List Value) (x : Value) → Contains us x → Contains (ascending us) x
ascending_all [] x c = c
ascending_all (u ∷ us) x c = insert_has u (ascending us) x (has_one u us x (λ d. ascending_all us x d) (contained_cases u us x c))

pub ascending_members : (vs : List Value) (x : Value) → Contains (ascending vs) x ↔ Contains vs x
ascending_members vs x = (ascending_only vs x, ascending_all vs x)
