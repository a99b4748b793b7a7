-- The order of values is total.
use Rattle.std.proofs.Common.{◌≡◌, ◌∙◌, ap, sym, refl, ℕ, ℤ, Bool, true, false, List, [], ◌∷◌, map}
use Rattle.std.specs.List.{AllByRecursion}
use Rattle.std.specs.Cmp.{IsTotalOrder}
use Rattle.std.specs.Ordering.{nat_cmp, bool_cmp, ordering_then}
use Rattle.std.specs.Cmp.Lexicographic.{slice_cmp}
use Rattle.std.specs.declared.cmp.Ordering.{Ordering}
use Rattle.std.specs.declared.cmp.Ordering.TheVariants.{Less, Equal, Greater}
use Rattle.std.proofs.lemmas.Cmp.{nat_cmp_total, int_cmp_total, nat_list_cmp_total}
use Rattle.event_values.specs.declared.value.Value.{Value, out-Value, roll-Value}
use Rattle.event_values.specs.declared.value.Value.TheOpen.{Value-F, Int, Truth, Elem, Pair, Set}
use Rattle.event_values.specs.declared.value.Value.TheVariants as value
use Rattle.event_values.specs.declared.value.Value.TheViews.{roll-out-Value, rolls-Int, rolls-Truth, rolls-Elem, rolls-Pair, rolls-Set}
use Rattle.event_values.specs.Order.{members_cmp, value_cmp_step, value_cmp}
use Rattle.event_values.proofs.ValueInduction.{value_induction}
use Rattle.event_values.proofs.Orders.{parts_of, cmp_at, texts_equal, equal_is_same, order_turned}

-- two orders in turn, of which the first ties only what is the same
then_chain : (o p q : Ordering) (a b c : Ordering) → (o ≡ Less → p ≡ Less → q ≡ Less) → (o ≡ Equal → q ≡ p) → (p ≡ Equal → q ≡ o)
    → (a ≡ Less → b ≡ Less → c ≡ Less) → ordering_then o a ≡ Less → ordering_then p b ≡ Less → ordering_then q c ≡ Less
then_chain Less Less q a b c chain left right more h g = ap (λ x. ordering_then x c) (chain refl refl)
then_chain Less Equal q a b c chain left right more h g = ap (λ x. ordering_then x c) (right refl)
then_chain Less Greater q a b c chain left right more h g = cc
then_chain Equal Less q a b c chain left right more h g = ap (λ x. ordering_then x c) (left refl)
then_chain Equal Equal q a b c chain left right more h g = ap (λ x. ordering_then x c) (right refl) ∙ more h g
then_chain Equal Greater q a b c chain left right more h g = cc
then_chain Greater p q a b c chain left right more h g = cc

abbrev IsChained : Value → Type 0
IsChained v = (w u : Value) → value_cmp v w ≡ Less → value_cmp w u ≡ Less → value_cmp v u ≡ Less

chained_by : (x : Value-F Value) (v : Value) → roll-Value x ≡ v
    → ((y z : Value-F Value) → value_cmp_step (parts_of x) y ≡ Less → value_cmp_step (parts_of y) z ≡ Less → value_cmp_step (parts_of x) z ≡ Less) → IsChained v
chained_by x v e f w u h g =
    cmp_at x v e u ∙ f (out-Value w) (out-Value u) (sym (cmp_at x v e w) ∙ h) (sym (cmp_at (out-Value w) w (roll-out-Value w) u) ∙ g)

bools_chain : (a b c : Bool) → bool_cmp a b ≡ Less → bool_cmp b c ≡ Less → bool_cmp a c ≡ Less
bools_chain true true c h g = cc
bools_chain true false c h g = cc
bools_chain false true true h g = cc
bools_chain false true false h g = cc
bools_chain false false c h g = cc

members_chain : (xs ys zs : List Value) → AllByRecursion IsChained xs → members_cmp (map value_cmp xs) ys ≡ Less → members_cmp (map value_cmp ys) zs ≡ Less
    → members_cmp (map value_cmp xs) zs ≡ Less
members_chain [] [] zs all h g = cc
members_chain [] (y ∷ ys) [] all h g = cc
members_chain [] (y ∷ ys) (z ∷ zs) all h g = refl
members_chain (x ∷ xs) [] zs all h g = cc
members_chain (x ∷ xs) (y ∷ ys) [] all h g = cc
members_chain (x ∷ xs) (y ∷ ys) (z ∷ zs) all h g =
    then_chain (value_cmp x y) (value_cmp y z) (value_cmp x z) (members_cmp (map value_cmp xs) ys) (members_cmp (map value_cmp ys) zs) (members_cmp (map value_cmp xs) zs)
    (all.0 y z) (λ q. ap (λ v. value_cmp v z) (equal_is_same x y q)) (λ q. ap (value_cmp x) (sym (equal_is_same y z q))) (members_chain xs ys zs all.1) h g

int_chained : (n : ℤ) → (y z : Value-F Value) → value_cmp_step (parts_of (Int n)) y ≡ Less → value_cmp_step (parts_of y) z ≡ Less
    → value_cmp_step (parts_of (Int n)) z ≡ Less
int_chained n (Int m) (Int p) h g =
    int_cmp_total.trans n m p h g
int_chained n (Truth w) (Int p) h g = cc
int_chained n (Elem t m) (Int p) h g = cc
int_chained n (Pair c d) (Int p) h g = cc
int_chained n (Set ys) (Int p) h g = cc
int_chained n y (Truth q) h g = refl
int_chained n y (Elem u p) h g = refl
int_chained n y (Pair e f) h g = refl
int_chained n y (Set zs) h g = refl

truth_chained : (a : Bool) → (y z : Value-F Value) → value_cmp_step (parts_of (Truth a)) y ≡ Less → value_cmp_step (parts_of y) z ≡ Less
    → value_cmp_step (parts_of (Truth a)) z ≡ Less
truth_chained a (Int m) (Int p) h g = cc
truth_chained a (Truth w) (Int p) h g = cc
truth_chained a (Elem t m) (Int p) h g = cc
truth_chained a (Pair c d) (Int p) h g = cc
truth_chained a (Set ys) (Int p) h g = cc
truth_chained a (Int m) (Truth q) h g = cc
truth_chained a (Truth w) (Truth q) h g =
    bools_chain a w q h g
truth_chained a (Elem t m) (Truth q) h g = cc
truth_chained a (Pair c d) (Truth q) h g = cc
truth_chained a (Set ys) (Truth q) h g = cc
truth_chained a y (Elem u p) h g = refl
truth_chained a y (Pair e f) h g = refl
truth_chained a y (Set zs) h g = refl

elem_chained : (s : List ℕ) (k : ℕ) → (y z : Value-F Value) → value_cmp_step (parts_of (Elem s k)) y ≡ Less → value_cmp_step (parts_of y) z ≡ Less
    → value_cmp_step (parts_of (Elem s k)) z ≡ Less
elem_chained s k (Int m) (Int p) h g = cc
elem_chained s k (Truth w) (Int p) h g = cc
elem_chained s k (Elem t m) (Int p) h g = cc
elem_chained s k (Pair c d) (Int p) h g = cc
elem_chained s k (Set ys) (Int p) h g = cc
elem_chained s k (Int m) (Truth q) h g = cc
elem_chained s k (Truth w) (Truth q) h g = cc
elem_chained s k (Elem t m) (Truth q) h g = cc
elem_chained s k (Pair c d) (Truth q) h g = cc
elem_chained s k (Set ys) (Truth q) h g = cc
elem_chained s k (Int m) (Elem u p) h g = cc
elem_chained s k (Truth w) (Elem u p) h g = cc
elem_chained s k (Elem t m) (Elem u p) h g =
    then_chain (slice_cmp nat_cmp s t) (slice_cmp nat_cmp t u) (slice_cmp nat_cmp s u) (nat_cmp k m) (nat_cmp m p) (nat_cmp k p)
    (nat_list_cmp_total.trans s t u) (λ e. ap (λ x. slice_cmp nat_cmp x u) (texts_equal s t e)) (λ e. ap (slice_cmp nat_cmp s) (sym (texts_equal t u e))) (nat_cmp_total.trans k m p) h g
elem_chained s k (Pair c d) (Elem u p) h g = cc
elem_chained s k (Set ys) (Elem u p) h g = cc
elem_chained s k y (Pair e f) h g = refl
elem_chained s k y (Set zs) h g = refl

pair_chained : (a b : Value) → IsChained a → IsChained b → (y z : Value-F Value) → value_cmp_step (parts_of (Pair a b)) y ≡ Less → value_cmp_step (parts_of y) z ≡ Less
    → value_cmp_step (parts_of (Pair a b)) z ≡ Less
pair_chained a b l r (Int m) (Int p) h g = cc
pair_chained a b l r (Truth w) (Int p) h g = cc
pair_chained a b l r (Elem t m) (Int p) h g = cc
pair_chained a b l r (Pair c d) (Int p) h g = cc
pair_chained a b l r (Set ys) (Int p) h g = cc
pair_chained a b l r (Int m) (Truth q) h g = cc
pair_chained a b l r (Truth w) (Truth q) h g = cc
pair_chained a b l r (Elem t m) (Truth q) h g = cc
pair_chained a b l r (Pair c d) (Truth q) h g = cc
pair_chained a b l r (Set ys) (Truth q) h g = cc
pair_chained a b l r (Int m) (Elem u p) h g = cc
pair_chained a b l r (Truth w) (Elem u p) h g = cc
pair_chained a b l r (Elem t m) (Elem u p) h g = cc
pair_chained a b l r (Pair c d) (Elem u p) h g = cc
pair_chained a b l r (Set ys) (Elem u p) h g = cc
pair_chained a b l r (Int m) (Pair e f) h g = cc
pair_chained a b l r (Truth w) (Pair e f) h g = cc
pair_chained a b l r (Elem t m) (Pair e f) h g = cc
pair_chained a b l r (Pair c d) (Pair e f) h g =
    then_chain (value_cmp a c) (value_cmp c e) (value_cmp a e) (value_cmp b d) (value_cmp d f) (value_cmp b f)
    (l c e) (λ q. ap (λ x. value_cmp x e) (equal_is_same a c q)) (λ q. ap (value_cmp a) (sym (equal_is_same c e q))) (r d f) h g
pair_chained a b l r (Set ys) (Pair e f) h g = cc
pair_chained a b l r y (Set zs) h g = refl

set_chained : (xs : List Value) → AllByRecursion IsChained xs → (y z : Value-F Value) → value_cmp_step (parts_of (Set xs)) y ≡ Less → value_cmp_step (parts_of y) z ≡ Less
    → value_cmp_step (parts_of (Set xs)) z ≡ Less
set_chained xs all (Int m) (Int p) h g = cc
set_chained xs all (Truth w) (Int p) h g = cc
set_chained xs all (Elem t m) (Int p) h g = cc
set_chained xs all (Pair c d) (Int p) h g = cc
set_chained xs all (Set ys) (Int p) h g = cc
set_chained xs all (Int m) (Truth q) h g = cc
set_chained xs all (Truth w) (Truth q) h g = cc
set_chained xs all (Elem t m) (Truth q) h g = cc
set_chained xs all (Pair c d) (Truth q) h g = cc
set_chained xs all (Set ys) (Truth q) h g = cc
set_chained xs all (Int m) (Elem u p) h g = cc
set_chained xs all (Truth w) (Elem u p) h g = cc
set_chained xs all (Elem t m) (Elem u p) h g = cc
set_chained xs all (Pair c d) (Elem u p) h g = cc
set_chained xs all (Set ys) (Elem u p) h g = cc
set_chained xs all (Int m) (Pair e f) h g = cc
set_chained xs all (Truth w) (Pair e f) h g = cc
set_chained xs all (Elem t m) (Pair e f) h g = cc
set_chained xs all (Pair c d) (Pair e f) h g = cc
set_chained xs all (Set ys) (Pair e f) h g = cc
set_chained xs all (Int m) (Set zs) h g = cc
set_chained xs all (Truth w) (Set zs) h g = cc
set_chained xs all (Elem t m) (Set zs) h g = cc
set_chained xs all (Pair c d) (Set zs) h g = cc
set_chained xs all (Set ys) (Set zs) h g =
    members_chain xs ys zs all h g

chained : (v : Value) → IsChained v
chained = value_induction IsChained
    (λ n. chained_by (Int n) (value.Int n) (rolls-Int n) (int_chained n))
    (λ b. chained_by (Truth b) (value.Truth b) (rolls-Truth b) (truth_chained b))
    (λ s k. chained_by (Elem s k) (value.Elem s k) (rolls-Elem s k) (elem_chained s k))
    (λ a b l r. chained_by (Pair a b) (value.Pair a b) (rolls-Pair a b) (pair_chained a b l r))
    (λ xs all. chained_by (Set xs) (value.Set xs) (rolls-Set xs) (set_chained xs all))

pub order_total : IsTotalOrder value_cmp
order_total = record {
  antisymm = λ v w. order_turned w v;
  trans = chained;
  congr = λ v w u e. ap (λ x. value_cmp x u) (equal_is_same v w e);
}
