-- Lists that ascend as they are made, and what is in them.
use Rattle.std.proofs.Common.{◌≡◌, ◌∙◌, ◌⊎◌, ◌↔◌, inl, inr, ap, sym, subst, refl, ℕ, zero, suc, ◌+◌, ◌<◌, ◌≤◌, true, List, [], ◌∷◌, ◌++◌, map, length, sum, take, get_or, append_assoc, arith}
use Rattle.std.specs.Prelude.{Result, Ok, Err}
use Rattle.std.specs.List.{Contains}
use Rattle.std.specs.Ordering.{is_lt, ordering_then}
use Rattle.std.specs.declared.cmp.Ordering.{Ordering}
use Rattle.std.specs.declared.cmp.Ordering.TheVariants.{Less, Equal, Greater}
use Rattle.std.proofs.lemmas.Cmp.{tied_itself}
use Rattle.std.proofs.lemmas.List.{append-nil, take_more, take-append-drop}
use Rattle.std.proofs.lemmas.List.Sums.{sum_by-cons}
use Rattle.std.proofs.lemmas.List.Elements.{Contains-append_left, Contains-append_right, Contains-append_cases}
use Rattle.std.proofs.Math.ListN.{drop_of_length-le}
use Rattle.formula_core.proofs.Weakening.{first_true, second_true, both_true}
use Rattle.event_values.specs.declared.value.Value.{Value, out-Value, roll-Value}
use Rattle.event_values.specs.declared.value.Value.TheOpen.{Value-F, Int, Truth, Elem, Pair, Set}
use Rattle.event_values.specs.declared.value.Value.TheVariants as value
use Rattle.event_values.specs.declared.value.Value.TheViews.{roll-out-Value, rolls-Pair, rolls-Set, outs-Pair}
use Rattle.event_values.specs.declared.value.Value.TheFolds.{map-Value, fold-roll-Value}
use Rattle.event_values.specs.Order.{value_cmp, value_cmp_step, value_nodes, value_nodes_step, ascends_behind, ascends}
use Rattle.event_values.specs.Reading.{most_nodes}
use Rattle.event_values.proofs.Orders.{cmp_at}
use Rattle.event_values.proofs.Total.{order_total}
use Rattle.value_sets.specs.declared.fault.ValueFault.{ValueFault}
use Rattle.value_sets.specs.declared.fault.ValueFault.TheVariants.{TooLarge}
use Rattle.value_sets.specs.Sets.{IsMade, IsCollected, IsTold}
use Rattle.value_sets.specs.Private.{pairs_from, InRows}
use Rattle.value_sets.proofs.Keeping.{contains_none, contained_first, contained_later, contained_cases}
use Rattle.value_sets.proofs.Collected.{all_of}

-- ORDER

pub less_there : (o : Ordering) → is_lt o ≡ true → o ≡ Less
less_there Less h = refl
less_there Equal h = cc
less_there Greater h = cc

pub pair_cmp : (a b c d : Value) → value_cmp (value.Pair a b) (value.Pair c d) ≡ ordering_then (value_cmp a c) (value_cmp b d)
pair_cmp a b c d =
    cmp_at (Pair a b) (value.Pair a b) (rolls-Pair a b) (value.Pair c d)
    ∙ ap (value_cmp_step (map-Value Value (Value → Ordering) value_cmp (Pair a b))) (outs-Pair c d)

pub tail_ascends : (v : Value) (vs : List Value) → ascends_behind v vs ≡ true → ascends vs ≡ true
tail_ascends v [] h = refl
tail_ascends v (w ∷ ws) h = second_true (is_lt (value_cmp v w)) (ascends_behind w ws) h

-- what stands behind a value in an ascending list is above it
pub above_first : (v : Value) (vs : List Value) → ascends_behind v vs ≡ true → (x : Value) → Contains vs x → value_cmp v x ≡ Less
above_first v [] h x c = absurd (contains_none x c)
above_first v (w ∷ ws) h x c = go (contained_cases w ws x c) (λ d. above_first w ws (second_true (is_lt (value_cmp v w)) (ascends_behind w ws) h) x d)
  where
    first : value_cmp v w ≡ Less
    first = less_there (value_cmp v w) (first_true (is_lt (value_cmp v w)) (ascends_behind w ws) h)

    go : (w ≡ x) ⊎ Contains ws x → (Contains ws x → value_cmp w x ≡ Less) → value_cmp v x ≡ Less
    go (inl is) more = ap (value_cmp v) (sym is) ∙ first
    go (inr d) more = order_total.trans v w x first (more d)

pub ascends_from : (v : Value) (vs : List Value) → ascends vs ≡ true → ((x : Value) → Contains vs x → value_cmp v x ≡ Less) → ascends_behind v vs ≡ true
ascends_from v [] h f = refl
ascends_from v (w ∷ ws) h f = both_true (is_lt (value_cmp v w)) (ascends_behind w ws) (ap is_lt (f w (contained_first w ws))) h

pub ascends_both : (us vs : List Value) → ascends us ≡ true → ascends vs ≡ true → ((x y : Value) → Contains us x → Contains vs y → value_cmp x y ≡ Less)
    → ascends (us ++ vs) ≡ true
ascends_both [] vs h g f = g
ascends_both (u ∷ []) vs h g f = ascends_from u vs g (λ y c. f u y (contained_first u []) c)
ascends_both (u ∷ w ∷ ws) vs h g f =
    both_true (is_lt (value_cmp u w)) (ascends_behind w (ws ++ vs)) (first_true (is_lt (value_cmp u w)) (ascends_behind w ws) h)
    (ascends_both (w ∷ ws) vs (second_true (is_lt (value_cmp u w)) (ascends_behind w ws) h) g (λ x y c d. f x y (contained_later u (w ∷ ws) x c) d))

-- the first part of a list
taken_contained : (n : ℕ) (vs : List Value) (x : Value) → Contains (take n vs) x → Contains vs x
taken_contained zero vs x c = absurd (contains_none x c)
taken_contained (suc n) [] x c = c
taken_contained (suc n) (v ∷ vs) x c = go (contained_cases v (take n vs) x c) (λ d. taken_contained n vs x d)
  where
    go : (v ≡ x) ⊎ Contains (take n vs) x → (Contains (take n vs) x → Contains vs x) → Contains (v ∷ vs) x
    go (inl is) more = subst (Contains (v ∷ vs)) is (contained_first v vs)
    go (inr d) more = contained_later v vs x (more d)

taken_ascends : (n : ℕ) (vs : List Value) → ascends vs ≡ true → ascends (take n vs) ≡ true
taken_ascends zero vs h = refl
taken_ascends (suc n) [] h = refl
taken_ascends (suc n) (v ∷ vs) h =
    ascends_from v (take n vs) (taken_ascends n vs (tail_ascends v vs h)) (λ x c. above_first v vs h x (taken_contained n vs x c))

pub taken_all : (n : ℕ) (vs : List Value) → length vs ≤ n → take n vs ≡ vs
taken_all n vs h = sym (append-nil (take n vs)) ∙ ap (λ xs. take n vs ++ xs) (sym (drop_of_length-le vs h)) ∙ take-append-drop n vs

-- NODES

pub nodes_at : (x : Value-F Value) (v : Value) → roll-Value x ≡ v → value_nodes v ≡ value_nodes_step (map-Value Value ℕ value_nodes x)
nodes_at x v e = ap value_nodes (sym e) ∙ fold-roll-Value ℕ value_nodes_step x

pub set_nodes : (vs : List Value) → value_nodes (value.Set vs) ≡ sum (map value_nodes vs) + 1
set_nodes vs = nodes_at (Set vs) (value.Set vs) (rolls-Set vs)

pub sum_cons : (n : ℕ) (ns : List ℕ) → sum (n ∷ ns) ≡ n + sum ns
sum_cons n ns = sum_by-cons (λ x. x) n ns

some_nodes : (v : Value) → 1 ≤ value_nodes v
some_nodes v = subst (λ n. 1 ≤ n) (sym (nodes_at (out-Value v) v (roll-out-Value v))) (go (out-Value v))
  where
    go : (x : Value-F Value) → 1 ≤ value_nodes_step (map-Value Value ℕ value_nodes x)
    go (Int n) = omega arith
    go (Truth b) = omega arith
    go (Elem s k) = omega arith
    go (Pair a b) = omega arith
    go (Set vs) = omega arith

length_nodes : (vs : List Value) → length vs ≤ sum (map value_nodes vs)
length_nodes [] = omega arith
length_nodes (v ∷ vs) =
    let one = some_nodes v in let more = length_nodes vs in let all = sum_cons (value_nodes v) (map value_nodes vs) in omega (arith, one, more, all)

pub long_is_large : (vs : List Value) → most_nodes < length vs → most_nodes < value_nodes (value.Set vs)
long_is_large vs h = let n = length_nodes vs in let e = set_nodes vs in omega (arith, h, n, e)

-- A ROW OF PAIRS

row_only : (a : Value) (bs : List Value) (x : Value) → Contains (map (value.Pair a) bs) x → (b : Value) × (x ≡ value.Pair a b) × Contains bs b
row_only a [] x c = absurd (contains_none x c)
row_only a (b ∷ bs) x c = go (contained_cases (value.Pair a b) (map (value.Pair a) bs) x c) (λ d. row_only a bs x d)
  where
    go : (value.Pair a b ≡ x) ⊎ Contains (map (value.Pair a) bs) x → (Contains (map (value.Pair a) bs) x → (d : Value) × (x ≡ value.Pair a d) × Contains bs d)
        → (d : Value) × (x ≡ value.Pair a d) × Contains (b ∷ bs) d
    go (inl is) more = (b, sym is, contained_first b bs)
    go (inr d) more = let m = more d in (m.0, m.1, contained_later b bs m.0 m.2)

row_all : (a : Value) (bs : List Value) (b : Value) → Contains bs b → Contains (map (value.Pair a) bs) (value.Pair a b)
row_all a [] b c = absurd (contains_none b c)
row_all a (d ∷ ds) b c = go (contained_cases d ds b c) (λ e. row_all a ds b e)
  where
    go : (d ≡ b) ⊎ Contains ds b → (Contains ds b → Contains (map (value.Pair a) ds) (value.Pair a b)) → Contains (map (value.Pair a) (d ∷ ds)) (value.Pair a b)
    go (inl is) more = subst (λ z. Contains (map (value.Pair a) (d ∷ ds)) (value.Pair a z)) is (contained_first (value.Pair a d) (map (value.Pair a) ds))
    go (inr e) more = contained_later (value.Pair a d) (map (value.Pair a) ds) (value.Pair a b) (more e)

same_left : (a b c : Value) → value_cmp (value.Pair a b) (value.Pair a c) ≡ value_cmp b c
same_left a b c = pair_cmp a b a c ∙ ap (λ o. ordering_then o (value_cmp b c)) (tied_itself order_total a)

row_ascends : (a : Value) (bs : List Value) → ascends bs ≡ true → ascends (map (value.Pair a) bs) ≡ true
row_ascends a [] h = refl
row_ascends a (b ∷ []) h = refl
row_ascends a (b ∷ c ∷ cs) h =
    both_true (is_lt (value_cmp (value.Pair a b) (value.Pair a c))) (ascends_behind (value.Pair a c) (map (value.Pair a) cs))
    (ap is_lt (same_left a b c) ∙ first_true (is_lt (value_cmp b c)) (ascends_behind c cs) h)
    (row_ascends a (c ∷ cs) (second_true (is_lt (value_cmp b c)) (ascends_behind c cs) h))

-- ROWS OF PAIRS

module _ (f : Value → List Value) where
  pub rows_more : (us : List Value) (a : Value) → pairs_from f (us ++ a ∷ []) ≡ pairs_from f us ++ map (value.Pair a) (f a)
  rows_more [] a = append-nil (map (value.Pair a) (f a))
  rows_more (u ∷ us) a =
      ap (λ xs. map (value.Pair u) (f u) ++ xs) (rows_more us a) ∙ sym (append_assoc (map (value.Pair u) (f u)) (pairs_from f us) (map (value.Pair a) (f a)))

  pub rows_only : (us : List Value) (x : Value) → Contains (pairs_from f us) x → InRows f us x
  rows_only [] x c = absurd (contains_none x c)
  rows_only (u ∷ us) x c = go (Contains-append_cases (map (value.Pair u) (f u)) (pairs_from f us) x c) (λ d. rows_only us x d)
    where
      go : Contains (map (value.Pair u) (f u)) x ⊎ Contains (pairs_from f us) x → (Contains (pairs_from f us) x → InRows f us x) → InRows f (u ∷ us) x
      go (inl d) more = let r = row_only u (f u) x d in (u, r.0, r.1, contained_first u us, r.2)
      go (inr d) more = let m = more d in (m.0, m.1, m.2, contained_later u us m.0 m.3, m.4)

  pub rows_all : (us : List Value) (a b : Value) → Contains us a → Contains (f a) b → Contains (pairs_from f us) (value.Pair a b)
  rows_all [] a b c d = absurd (contains_none a c)
  rows_all (u ∷ us) a b c d = go (contained_cases u us a c) (λ e. rows_all us a b e d)
    where
      go : (u ≡ a) ⊎ Contains us a → (Contains us a → Contains (pairs_from f us) (value.Pair a b)) → Contains (pairs_from f (u ∷ us)) (value.Pair a b)
      go (inl is) more =
          Contains-append_left (map (value.Pair u) (f u)) (pairs_from f us) (value.Pair a b)
          (subst (λ z. Contains (map (value.Pair z) (f z)) (value.Pair a b)) (sym is) (row_all a (f a) b d))
      go (inr e) more = Contains-append_right (map (value.Pair u) (f u)) (pairs_from f us) (value.Pair a b) (more e)

  pub rows_ascend : ((a : Value) → ascends (f a) ≡ true) → (us : List Value) → ascends us ≡ true → ascends (pairs_from f us) ≡ true
  rows_ascend g [] h = refl
  rows_ascend g (u ∷ us) h = ascends_both (map (value.Pair u) (f u)) (pairs_from f us) (row_ascends u (f u) (g u)) (rows_ascend g us (tail_ascends u us h)) lower
    where
      lower : (x y : Value) → Contains (map (value.Pair u) (f u)) x → Contains (pairs_from f us) y → value_cmp x y ≡ Less
      lower x y c d =
          let r = row_only u (f u) x c in
          let m = rows_only us y d in
          let less : value_cmp u m.0 ≡ Less = above_first u us h m.0 m.3 in
          (λ i. value_cmp (r.1 i) (m.2 i)) ∙ pair_cmp u r.0 m.0 m.1 ∙ ap (λ o. ordering_then o (value_cmp r.0 m.1)) less

-- THE SET OF ROWS

module _ (P : Value → Type 0) (f : Value → List Value) (us : List Value) (g : (a : Value) → ascends (f a) ≡ true) (h : ascends us ≡ true)
    (same : (x : Value) → InRows f us x ↔ P x) where
  rows_are : (x : Value) → Contains (pairs_from f us) x ↔ P x
  rows_are x = (
    (λ c. (same x).0 (rows_only f us x c)),
    (λ p. let r = (same x).1 p in subst (Contains (pairs_from f us)) (sym r.2) (rows_all f us r.0 r.1 r.3 r.4)),
  )

  rows_made : (r : Result Value ValueFault) → IsMade (value.Set (pairs_from f us)) r → IsCollected P r
  rows_made (Ok made) m = (pairs_from f us, m.0, rows_ascend f g us h, rows_are, subst (λ v. value_nodes v ≤ most_nodes) (sym m.0) m.1)
  rows_made (Err fault) m = (m.0, pairs_from f us, rows_ascend f g us h, all_of P (pairs_from f us) (λ x c. (rows_are x).0 c), m.1)

  -- the first of them are too many already
  first_large : (n : ℕ) → most_nodes < length (pairs_from f (take n us)) → IsCollected P (Err TooLarge)
  first_large n large = (
    refl,
    pairs_from f (take n us),
    rows_ascend f g (take n us) (taken_ascends n us h),
    all_of P (pairs_from f (take n us)) (λ x c. let r = rows_only f (take n us) x c in (same x).0 (r.0, r.1, r.2, taken_contained n us r.0 r.3, r.4)),
    long_is_large (pairs_from f (take n us)) large,
  )

pub rows_taken : (f : Value → List Value) (us : List Value) (i : ℕ) (a : Value) → i < length us → a ≡ get_or us i a
    → pairs_from f (take (i + 1) us) ≡ pairs_from f (take i us) ++ map (value.Pair a) (f a)
rows_taken f us i a below is = ap (pairs_from f) (take_more us i a below ∙ ap (λ x. take i us ++ x ∷ []) (sym is)) ∙ rows_more f (take i us) a

pub told_rows : (P : Value → Type 0) (f : Value → List Value) (us found : List Value) (r : Result Value ValueFault) → ((a : Value) → ascends (f a) ≡ true) → ascends us ≡ true
    → ((x : Value) → InRows f us x ↔ P x) → found ≡ pairs_from f us → IsMade (value.Set found) r → IsTold (IsCollected P) r
told_rows P f us found r g h same e m = inr (rows_made P f us g h same r (subst (λ vs. IsMade (value.Set vs) r) e m))

pub told_large : (P : Value → Type 0) (f : Value → List Value) (us found : List Value) (n : ℕ) → ((a : Value) → ascends (f a) ≡ true) → ascends us ≡ true
    → ((x : Value) → InRows f us x ↔ P x) → found ≡ pairs_from f (take n us) → most_nodes < length found → IsTold (IsCollected P) (Err TooLarge)
told_large P f us found n g h same e large = inr (first_large P f us g h same n (subst (λ vs. most_nodes < length vs) e large))
