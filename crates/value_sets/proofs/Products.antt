-- Product and composition, row by row.
use Rattle.std.proofs.Common.{◌≡◌, ◌∙◌, ◌⊎◌, inl, inr, ◌↔◌, ap, sym, subst, ℕ, ◌<◌, ◌≤◌, true, List, [], ◌∷◌, length, take, map, get_or, ◌+◌, ◌++◌, Result, Err}
use Rattle.std.specs.List.{Contains, filter_map}
use Rattle.event_values.specs.declared.value.Value.{Value}
use Rattle.event_values.specs.declared.value.Value.TheVariants as value
use Rattle.event_values.specs.Order.{ascends, ascending}
use Rattle.event_values.specs.Reading.{most_nodes}
use Rattle.event_values.proofs.Orders.{ascending_ascends, ascending_members}
use Rattle.value_sets.specs.declared.fault.ValueFault.{ValueFault}
use Rattle.value_sets.specs.declared.fault.ValueFault.TheVariants.{TooLarge}
use Rattle.value_sets.specs.declared.lists.Side.TheVariants as side
use Rattle.value_sets.specs.Sets.{set_members, Relates, InProduct, InComposition, IsMade, IsCollected, IsTold}
use Rattle.value_sets.specs.Private.{part_of, images, reached, pairs_from, InRows}
use Rattle.value_sets.proofs.Keeping.{contains_none, contained_first, contained_cases}
use Rattle.value_sets.proofs.Collected.{told_alike}
use Rattle.value_sets.proofs.Operators.{domain_is, images_are}
use Rattle.value_sets.proofs.Rows.{taken_all, rows_taken, told_rows, told_large}

itself : (P : Value → Type 0) (x : Value) → P x ↔ P x
itself P x = ((λ h. h), (λ h. h))

-- one row more
pub row_more : (f : Value → List Value) (us : List Value) (i : ℕ) (a : Value) (found new row : List Value) → found ≡ pairs_from f (take i us) → row ≡ f a
    → new ≡ found ++ map (value.Pair a) row → i < length us → a ≡ get_or us i a → new ≡ pairs_from f (take (i + 1) us)
row_more f us i a found new row so_far same is below item =
    is ∙ (λ k. so_far k ++ map (value.Pair a) (same k)) ∙ sym (rows_taken f us i a below item)

-- PRODUCT

pub product_made : (lefts rights found : List Value) (n : ℕ) (r : Result Value ValueFault) → ascends lefts ≡ true → ascends rights ≡ true
    → found ≡ pairs_from (λ a. rights) (take n lefts) → length lefts ≤ n → IsMade (value.Set found) r → IsTold (IsCollected (InRows (λ a. rights) lefts)) r
product_made lefts rights found n r h g e past m =
    told_rows (InRows (λ a. rights) lefts) (λ a. rights) lefts found r (λ a. g) h (itself (InRows (λ a. rights) lefts)) (e ∙ ap (pairs_from (λ a. rights)) (taken_all n lefts past)) m

pub product_large : (lefts rights found : List Value) (n : ℕ) → ascends lefts ≡ true → ascends rights ≡ true
    → found ≡ pairs_from (λ a. rights) (take n lefts) → most_nodes < length found → IsTold (IsCollected (InRows (λ a. rights) lefts)) (Err TooLarge)
product_large lefts rights found n h g e large =
    told_large (InRows (λ a. rights) lefts) (λ a. rights) lefts found n (λ a. g) h (itself (InRows (λ a. rights) lefts)) e large

pub ruleset product_rows = (product_made, product_large, rows_taken)

product_is : (s t x : Value) → InRows (λ a. ascending (set_members t)) (ascending (set_members s)) x ↔ InProduct s t x
product_is s t x = (
  (λ h. (h.0, h.1, h.2, (ascending_members (set_members s) h.0).0 h.3, (ascending_members (set_members t) h.1).0 h.4)),
  (λ h. (h.0, h.1, h.2, (ascending_members (set_members s) h.0).1 h.3, (ascending_members (set_members t) h.1).1 h.4)),
)

pub told_product : (s t : Value) (lefts rights : List Value) (r : Result Value ValueFault) → lefts ≡ ascending (set_members s) → rights ≡ ascending (set_members t)
    → IsTold (IsCollected (InRows (λ a. rights) lefts)) r → IsTold (IsCollected (InProduct s t)) r
told_product s t lefts rights r from of answered =
    told_alike (InRows (λ a. ascending (set_members t)) (ascending (set_members s))) (InProduct s t) (product_is s t) r
    (subst (λ us. IsTold (IsCollected (InRows (λ a. ascending (set_members t)) us)) r) from (subst (λ vs. IsTold (IsCollected (InRows (λ a. vs) lefts)) r) of answered))

pub set_ascends : (vs us : List Value) → us ≡ ascending vs → ascends us ≡ true
set_ascends vs us e = ap ascends e ∙ ascending_ascends vs

pub ruleset products = (told_product, set_ascends)

-- COMPOSITION

pub composition_made : (lefts ps qs found : List Value) (n : ℕ) (r : Result Value ValueFault) → ascends lefts ≡ true
    → found ≡ pairs_from (reached ps qs) (take n lefts) → length lefts ≤ n → IsMade (value.Set found) r → IsTold (IsCollected (InRows (reached ps qs) lefts)) r
composition_made lefts ps qs found n r h e past m =
    told_rows (InRows (reached ps qs) lefts) (reached ps qs) lefts found r (λ a. ascending_ascends (images (images (a ∷ []) ps) qs)) h
    (itself (InRows (reached ps qs) lefts)) (e ∙ ap (pairs_from (reached ps qs)) (taken_all n lefts past)) m

pub composition_large : (lefts ps qs found : List Value) (n : ℕ) → ascends lefts ≡ true
    → found ≡ pairs_from (reached ps qs) (take n lefts) → most_nodes < length found → IsTold (IsCollected (InRows (reached ps qs) lefts)) (Err TooLarge)
composition_large lefts ps qs found n h e large =
    told_large (InRows (reached ps qs) lefts) (reached ps qs) lefts found n (λ a. ascending_ascends (images (images (a ∷ []) ps) qs)) h
    (itself (InRows (reached ps qs) lefts)) e large

pub ruleset composition_rows = (composition_made, composition_large, rows_taken)

abbrev near : Value → Value → List Value
near p a = images (a ∷ []) (set_members p)

only_one : (a x : Value) → (a ≡ x) ⊎ Contains [] x → a ≡ x
only_one a x (inl e) = e
only_one a x (inr e) = absurd (contains_none x e)

reached_only : (p q a c : Value) → Contains (reached (set_members p) (set_members q) a) c → (b : Value) × Relates p a b × Relates q b c
reached_only p q a c h =
    let far = (images_are (near p a) (set_members q) c).0 ((ascending_members (images (near p a) (set_members q)) c).0 h) in
    let first = (images_are (a ∷ []) (set_members p) far.0).0 far.1 in
    (far.0, subst (λ z. Relates p z far.0) (sym (only_one a first.0 (contained_cases a [] first.0 first.1))) first.2, far.2)

reached_all : (p q a c : Value) → ((b : Value) × Relates p a b × Relates q b c) → Contains (reached (set_members p) (set_members q) a) c
reached_all p q a c h =
    (ascending_members (images (near p a) (set_members q)) c).1
    ((images_are (near p a) (set_members q) c).1 (h.0, (images_are (a ∷ []) (set_members p) h.0).1 (a, contained_first a [], h.1), h.2))

abbrev left_sides : Value → List Value
left_sides p = ascending (filter_map (part_of side.Left) (set_members p))

composition_is : (p q x : Value) → InRows (reached (set_members p) (set_members q)) (left_sides p) x ↔ InComposition p q x
composition_is p q x = (
  (λ h. let r = reached_only p q h.0 h.1 h.4 in (h.0, r.0, h.1, h.2, r.1, r.2)),
  (λ h. (
    h.0,
    h.2,
    h.3,
    (ascending_members (filter_map (part_of side.Left) (set_members p)) h.0).1 ((domain_is p h.0).1 (h.1, h.4)),
    reached_all p q h.0 h.2 (h.1, h.4, h.5),
  )),
)

pub told_composition : (p q : Value) (ps qs found lefts : List Value) (r : Result Value ValueFault) → ps ≡ set_members p → qs ≡ set_members q
    → found ≡ filter_map (part_of side.Left) ps → lefts ≡ ascending found
    → IsTold (IsCollected (InRows (reached ps qs) lefts)) r → IsTold (IsCollected (InComposition p q)) r
told_composition p q ps qs found lefts r from of is are answered =
    let l : lefts ≡ left_sides p = are ∙ ap ascending (is ∙ ap (filter_map (part_of side.Left)) from) in
    told_alike (InRows (reached (set_members p) (set_members q)) (left_sides p)) (InComposition p q) (composition_is p q) r
    (subst (λ us. IsTold (IsCollected (InRows (reached (set_members p) (set_members q)) us)) r) l
    (subst (λ vs. IsTold (IsCollected (InRows (reached vs (set_members q)) lefts)) r) from (subst (λ vs. IsTold (IsCollected (InRows (reached ps vs) lefts)) r) of answered)))

pub ruleset compositions = (told_composition, set_ascends)
