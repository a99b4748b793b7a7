-- What is in the lists from which operators make sets.
use Rattle.std.proofs.Common.{◌≡◌, ◌∙◌, ◌⊎◌, ◌↔◌, inl, inr, ap, sym, subst, refl, Bool, true, false, List, ◌++◌, Some, Result}
use Rattle.std.specs.List.{Contains, filter, filter_map}
use Rattle.std.proofs.lemmas.List.Elements.{Contains-append_left, Contains-append_right, Contains-append_cases}
use Rattle.event_values.specs.declared.value.Value.{Value}
use Rattle.event_values.specs.declared.value.Value.TheVariants as value
use Rattle.value_sets.specs.declared.fault.ValueFault.{ValueFault}
use Rattle.value_sets.specs.declared.lists.Side.TheVariants as side
use Rattle.value_sets.specs.Sets.{set_members, In, InDomain, InRange, InUnion, InIntersection, InDifference, InConverse, InDomainRestriction, InDomainSubtraction, InRangeRestriction, InRangeSubtraction, InOverriding, InImage, IsCollected, IsTold}
use Rattle.value_sets.specs.Private.{part_of, converse_of, is_chosen, images}
use Rattle.value_sets.proofs.Keeping.{Wanted, kept_is, mapped_only, mapped_all, some_same, left_is, right_is, left_pair, right_pair, converse_is, converse_pair}
use Rattle.value_sets.proofs.Collected.{told_list}

-- UNION, INTERSECTION, DIFFERENCE

union_is : (s t x : Value) → Contains (set_members s ++ set_members t) x ↔ InUnion s t x
union_is s t x = (Contains-append_cases (set_members s) (set_members t) x, go)
  where
    go : InUnion s t x → Contains (set_members s ++ set_members t) x
    go (inl c) = Contains-append_left (set_members s) (set_members t) x c
    go (inr c) = Contains-append_right (set_members s) (set_members t) x c

pub told_union : (s t : Value) (ss ts first found : List Value) (r : Result Value ValueFault) → ss ≡ set_members s → ts ≡ set_members t → first ≡ ss → found ≡ first ++ ts
    → IsTold (IsCollected (Contains found)) r → IsTold (IsCollected (InUnion s t)) r
told_union s t ss ts first found r from of begun is answered =
    told_list found (set_members s ++ set_members t) (InUnion s t) (union_is s t) (is ∙ (λ i. (begun ∙ from) i ++ of i)) r answered

pub ruleset unions = (told_union)

-- of whole members
whole_kept : (w : Bool) (xs others : List Value) (x : Value) → Contains (filter (is_chosen side.Whole w others) xs) x ↔ (Contains xs x × Wanted w others x)
whole_kept w xs others x = (
  (λ c. let k = (kept_is side.Whole w others xs x).0 c in (k.0, subst (Wanted w others) (sym (some_same x k.1.0 k.1.1)) k.1.2)),
  (λ h. (kept_is side.Whole w others xs x).1 (h.0, (x, refl, h.1))),
)

pub told_intersection : (s t : Value) (ss ts found : List Value) (r : Result Value ValueFault) → ss ≡ set_members s → ts ≡ set_members t
    → found ≡ filter (is_chosen side.Whole true ts) ss → IsTold (IsCollected (Contains found)) r → IsTold (IsCollected (InIntersection s t)) r
told_intersection s t ss ts found r from of is answered =
    told_list found (filter (is_chosen side.Whole true (set_members t)) (set_members s)) (InIntersection s t) (whole_kept true (set_members s) (set_members t))
    (is ∙ (λ i. filter (is_chosen side.Whole true (of i)) (from i))) r answered

pub ruleset intersections = (told_intersection)

pub told_difference : (s t : Value) (ss ts found : List Value) (r : Result Value ValueFault) → ss ≡ set_members s → ts ≡ set_members t
    → found ≡ filter (is_chosen side.Whole false ts) ss → IsTold (IsCollected (Contains found)) r → IsTold (IsCollected (InDifference s t)) r
told_difference s t ss ts found r from of is answered =
    told_list found (filter (is_chosen side.Whole false (set_members t)) (set_members s)) (InDifference s t) (whole_kept false (set_members s) (set_members t))
    (is ∙ (λ i. filter (is_chosen side.Whole false (of i)) (from i))) r answered

pub ruleset differences = (told_difference)

-- RELATIONS

pub domain_is : (r x : Value) → Contains (filter_map (part_of side.Left) (set_members r)) x ↔ InDomain r x
domain_is r x = (
  (λ c. let m = mapped_only (part_of side.Left) (set_members r) x c in let p = left_pair m.0 x m.2 in (p.0, subst (Contains (set_members r)) p.1 m.1)),
  (λ h. mapped_all (part_of side.Left) (set_members r) (value.Pair x h.0) x h.1 (left_is (value.Pair x h.0) x h.0 refl)),
)

pub told_domain : (s : Value) (ss found : List Value) (r : Result Value ValueFault) → ss ≡ set_members s → found ≡ filter_map (part_of side.Left) ss
    → IsTold (IsCollected (Contains found)) r → IsTold (IsCollected (InDomain s)) r
told_domain s ss found r from is answered =
    told_list found (filter_map (part_of side.Left) (set_members s)) (InDomain s) (domain_is s) (is ∙ ap (filter_map (part_of side.Left)) from) r answered

pub ruleset domains = (told_domain)

range_is : (r x : Value) → Contains (filter_map (part_of side.Right) (set_members r)) x ↔ InRange r x
range_is r x = (
  (λ c. let m = mapped_only (part_of side.Right) (set_members r) x c in let p = right_pair m.0 x m.2 in (p.0, subst (Contains (set_members r)) p.1 m.1)),
  (λ h. mapped_all (part_of side.Right) (set_members r) (value.Pair h.0 x) x h.1 (right_is (value.Pair h.0 x) h.0 x refl)),
)

pub told_range : (s : Value) (ss found : List Value) (r : Result Value ValueFault) → ss ≡ set_members s → found ≡ filter_map (part_of side.Right) ss
    → IsTold (IsCollected (Contains found)) r → IsTold (IsCollected (InRange s)) r
told_range s ss found r from is answered =
    told_list found (filter_map (part_of side.Right) (set_members s)) (InRange s) (range_is s) (is ∙ ap (filter_map (part_of side.Right)) from) r answered

pub ruleset ranges = (told_range)

turned_is : (r x : Value) → Contains (filter_map converse_of (set_members r)) x ↔ InConverse r x
turned_is r x = (
  (λ c. let m = mapped_only converse_of (set_members r) x c in let p = converse_pair m.0 x m.2 in (p.0, p.1, p.2, subst (Contains (set_members r)) p.3 m.1)),
  (λ h. mapped_all converse_of (set_members r) (value.Pair h.1 h.0) x h.3 (converse_is h.1 h.0 ∙ ap Some (sym h.2))),
)

pub told_converse : (s : Value) (ss found : List Value) (r : Result Value ValueFault) → ss ≡ set_members s → found ≡ filter_map converse_of ss
    → IsTold (IsCollected (Contains found)) r → IsTold (IsCollected (InConverse s)) r
told_converse s ss found r from is answered =
    told_list found (filter_map converse_of (set_members s)) (InConverse s) (turned_is s) (is ∙ ap (filter_map converse_of) from) r answered

pub ruleset converses = (told_converse)

-- pairs that are kept for their left side, and for their right side
left_kept : (w : Bool) (others : List Value) (P : Value → Type 0) → ((a : Value) → Wanted w others a ↔ P a) → (rs : List Value) (x : Value)
    → Contains (filter (is_chosen side.Left w others) rs) x ↔ ((a b : Value) × (x ≡ value.Pair a b) × P a × Contains rs x)
left_kept w others P same rs x = (
  (λ c. let k = (kept_is side.Left w others rs x).0 c in let p = left_pair x k.1.0 k.1.1 in (k.1.0, p.0, p.1, (same k.1.0).0 k.1.2, k.0)),
  (λ h. (kept_is side.Left w others rs x).1 (h.4, (h.0, left_is x h.0 h.1 h.2, (same h.0).1 h.3))),
)

right_kept : (w : Bool) (others : List Value) (P : Value → Type 0) → ((b : Value) → Wanted w others b ↔ P b) → (rs : List Value) (x : Value)
    → Contains (filter (is_chosen side.Right w others) rs) x ↔ ((a b : Value) × (x ≡ value.Pair a b) × P b × Contains rs x)
right_kept w others P same rs x = (
  (λ c. let k = (kept_is side.Right w others rs x).0 c in let p = right_pair x k.1.0 k.1.1 in (p.0, k.1.0, p.1, (same k.1.0).0 k.1.2, k.0)),
  (λ h. (kept_is side.Right w others rs x).1 (h.4, (h.1, right_is x h.0 h.1 h.2, (same h.1).1 h.3))),
)

itself : (P : Value → Type 0) (x : Value) → P x ↔ P x
itself P x = ((λ h. h), (λ h. h))

pub told_domain_restriction : (s t : Value) (ss ts found : List Value) (r : Result Value ValueFault) → ss ≡ set_members s → ts ≡ set_members t
    → found ≡ filter (is_chosen side.Left true ss) ts → IsTold (IsCollected (Contains found)) r → IsTold (IsCollected (InDomainRestriction s t)) r
told_domain_restriction s t ss ts found r from of is answered =
    told_list found (filter (is_chosen side.Left true (set_members s)) (set_members t)) (InDomainRestriction s t)
    (left_kept true (set_members s) (λ a. In a s) (itself (λ a. In a s)) (set_members t)) (is ∙ (λ i. filter (is_chosen side.Left true (from i)) (of i))) r answered

pub ruleset domain_restrictions = (told_domain_restriction)

pub told_domain_subtraction : (s t : Value) (ss ts found : List Value) (r : Result Value ValueFault) → ss ≡ set_members s → ts ≡ set_members t
    → found ≡ filter (is_chosen side.Left false ss) ts → IsTold (IsCollected (Contains found)) r → IsTold (IsCollected (InDomainSubtraction s t)) r
told_domain_subtraction s t ss ts found r from of is answered =
    told_list found (filter (is_chosen side.Left false (set_members s)) (set_members t)) (InDomainSubtraction s t)
    (left_kept false (set_members s) (λ a. In a s → ⊥) (itself (λ a. In a s → ⊥)) (set_members t)) (is ∙ (λ i. filter (is_chosen side.Left false (from i)) (of i))) r answered

pub ruleset domain_subtractions = (told_domain_subtraction)

pub told_range_restriction : (s t : Value) (ss ts found : List Value) (r : Result Value ValueFault) → ss ≡ set_members s → ts ≡ set_members t
    → found ≡ filter (is_chosen side.Right true ts) ss → IsTold (IsCollected (Contains found)) r → IsTold (IsCollected (InRangeRestriction s t)) r
told_range_restriction s t ss ts found r from of is answered =
    told_list found (filter (is_chosen side.Right true (set_members t)) (set_members s)) (InRangeRestriction s t)
    (right_kept true (set_members t) (λ b. In b t) (itself (λ b. In b t)) (set_members s)) (is ∙ (λ i. filter (is_chosen side.Right true (of i)) (from i))) r answered

pub ruleset range_restrictions = (told_range_restriction)

pub told_range_subtraction : (s t : Value) (ss ts found : List Value) (r : Result Value ValueFault) → ss ≡ set_members s → ts ≡ set_members t
    → found ≡ filter (is_chosen side.Right false ts) ss → IsTold (IsCollected (Contains found)) r → IsTold (IsCollected (InRangeSubtraction s t)) r
told_range_subtraction s t ss ts found r from of is answered =
    told_list found (filter (is_chosen side.Right false (set_members t)) (set_members s)) (InRangeSubtraction s t)
    (right_kept false (set_members t) (λ b. In b t → ⊥) (itself (λ b. In b t → ⊥)) (set_members s)) (is ∙ (λ i. filter (is_chosen side.Right false (of i)) (from i))) r answered

pub ruleset range_subtractions = (told_range_subtraction)

-- r <+ s: the pairs of r whose left side is no left side of s, and s
outside_domain : (s a : Value) → (Contains (filter_map (part_of side.Left) (set_members s)) a → ⊥) ↔ (InDomain s a → ⊥)
outside_domain s a = ((λ f d. f ((domain_is s a).1 d)), (λ f c. f ((domain_is s a).0 c)))

abbrev lefts_of : Value → List Value
lefts_of s = filter_map (part_of side.Left) (set_members s)

abbrev outside : Value → Value → List Value
outside t s = filter (is_chosen side.Left false (lefts_of s)) (set_members t)

outside_is : (t s x : Value) → Contains (outside t s) x ↔ ((a b : Value) × (x ≡ value.Pair a b) × (InDomain s a → ⊥) × In x t)
outside_is t s x = left_kept false (lefts_of s) (λ a. InDomain s a → ⊥) (outside_domain s) (set_members t) x

overriding_is : (t s x : Value) → Contains (outside t s ++ set_members s) x ↔ InOverriding t s x
overriding_is t s x = ((λ c. only (Contains-append_cases (outside t s) (set_members s) x c)), all)
  where
    only : Contains (outside t s) x ⊎ In x s → InOverriding t s x
    only (inl c) = inr ((outside_is t s x).0 c)
    only (inr c) = inl c

    all : InOverriding t s x → Contains (outside t s ++ set_members s) x
    all (inl c) = Contains-append_right (outside t s) (set_members s) x c
    all (inr h) = Contains-append_left (outside t s) (set_members s) x ((outside_is t s x).1 h)

pub told_overriding : (t s : Value) (ts ss lefts kept found : List Value) (r : Result Value ValueFault) → ts ≡ set_members t → ss ≡ set_members s
    → lefts ≡ filter_map (part_of side.Left) ss → kept ≡ filter (is_chosen side.Left false lefts) ts → found ≡ kept ++ ss
    → IsTold (IsCollected (Contains found)) r → IsTold (IsCollected (InOverriding t s)) r
told_overriding t s ts ss lefts kept found r of from left are is answered =
    let l : lefts ≡ lefts_of s = left ∙ ap (filter_map (part_of side.Left)) from in
    let k : kept ≡ outside t s = are ∙ (λ i. filter (is_chosen side.Left false (l i)) (of i)) in
    told_list found (outside t s ++ set_members s) (InOverriding t s) (overriding_is t s) (is ∙ (λ i. k i ++ from i)) r answered

pub ruleset overridings = (told_overriding)

-- r[s]: the right sides of the pairs whose left side is in s
abbrev inside : List Value → List Value → List Value
inside xs rs = filter (is_chosen side.Left true xs) rs

inside_is : (xs rs : List Value) (x : Value) → Contains (inside xs rs) x ↔ ((a b : Value) × (x ≡ value.Pair a b) × Contains xs a × Contains rs x)
inside_is xs rs x = left_kept true xs (Contains xs) (itself (Contains xs)) rs x

images_only : (xs rs : List Value) (y : Value) → Contains (images xs rs) y → (a : Value) × Contains xs a × Contains rs (value.Pair a y)
images_only xs rs y c =
    let m = mapped_only (part_of side.Right) (inside xs rs) y c in
    let p = (inside_is xs rs m.0).0 m.1 in
    let e : p.1 ≡ y = some_same p.1 y (sym (right_is m.0 p.0 p.1 p.2) ∙ m.2) in
    (p.0, p.3, subst (Contains rs) (p.2 ∙ ap (value.Pair p.0) e) p.4)

images_all : (xs rs : List Value) (y : Value) → ((a : Value) × Contains xs a × Contains rs (value.Pair a y)) → Contains (images xs rs) y
images_all xs rs y h =
    mapped_all (part_of side.Right) (inside xs rs) (value.Pair h.0 y) y ((inside_is xs rs (value.Pair h.0 y)).1 (h.0, y, refl, h.1, h.2))
    (right_is (value.Pair h.0 y) h.0 y refl)

pub images_are : (xs rs : List Value) (y : Value) → Contains (images xs rs) y ↔ ((a : Value) × Contains xs a × Contains rs (value.Pair a y))
images_are xs rs y = (images_only xs rs y, images_all xs rs y)

pub told_image : (t s : Value) (ts ss kept found : List Value) (r : Result Value ValueFault) → ts ≡ set_members t → ss ≡ set_members s
    → kept ≡ filter (is_chosen side.Left true ss) ts → found ≡ filter_map (part_of side.Right) kept
    → IsTold (IsCollected (Contains found)) r → IsTold (IsCollected (InImage t s)) r
told_image t s ts ss kept found r of from are is answered =
    told_list found (images (set_members s) (set_members t)) (InImage t s)
    (images_are (set_members s) (set_members t)) (is ∙ ap (filter_map (part_of side.Right)) (are ∙ (λ i. filter (is_chosen side.Left true (from i)) (of i)))) r answered

pub ruleset image_rules = (told_image)
