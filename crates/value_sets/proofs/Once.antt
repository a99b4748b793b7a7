-- A set is one value.
use Rattle.std.proofs.Common.{◌≡◌, ◌∙◌, ◌⊎◌, inl, inr, ap, sym, subst, refl, ℕ, ◌+◌, ◌≤◌, true, List, [], ◌∷◌, map, sum, Result, Ok, Err, arith}
use Rattle.std.specs.List.{AllByRecursion, Contains}
use Rattle.std.specs.declared.cmp.Ordering.TheVariants.{Less}
use Rattle.std.proofs.lemmas.Cmp.{tied_itself}
use Rattle.event_values.specs.declared.value.Value.{Value}
use Rattle.event_values.specs.declared.value.Value.TheVariants as value
use Rattle.event_values.specs.Order.{value_cmp, value_nodes, ascends_behind, ascends}
use Rattle.event_values.specs.Reading.{most_nodes}
use Rattle.event_values.proofs.Total.{order_total}
use Rattle.value_sets.specs.declared.fault.ValueFault.{ValueFault}
use Rattle.value_sets.specs.Sets.{IsCollected}
use Rattle.value_sets.proofs.Keeping.{contains_none, contained_first, contained_later, contained_cases}
use Rattle.value_sets.proofs.Rows.{tail_ascends, above_first, set_nodes, sum_cons}
use Rattle.value_sets.proofs.Functions.{equal_less}

not_below : (v : Value) → value_cmp v v ≡ Less → ⊥
not_below v e = equal_less (sym (tied_itself order_total v) ∙ e)

-- what is behind the first value isn't the first
not_behind : (v : Value) (vs : List Value) → ascends_behind v vs ≡ true → Contains vs v → ⊥
not_behind v vs h c = not_below v (above_first v vs h v c)

-- the rest of a list whose members are all in another one, without the first of that
rest_within : (u v : Value) (us vs : List Value) → ascends_behind u us ≡ true → u ≡ v → ((x : Value) → Contains (u ∷ us) x → Contains (v ∷ vs) x)
    → (x : Value) → Contains us x → Contains vs x
rest_within u v us vs h e f x c = go (contained_cases v vs x (f x (contained_later u us x c)))
  where
    go : (v ≡ x) ⊎ Contains vs x → Contains vs x
    go (inl is) = absurd (not_behind u us h (subst (Contains us) (sym (e ∙ is)) c))
    go (inr d) = d

-- a list whose first value isn't the first of another one that has all its members
all_within : (u v : Value) (us vs : List Value) → ascends_behind u us ≡ true → ascends_behind v vs ≡ true → Contains vs u → ((x : Value) → Contains (u ∷ us) x → Contains (v ∷ vs) x)
    → (x : Value) → Contains (u ∷ us) x → Contains vs x
all_within u v us vs h g there f x c = go (contained_cases v vs x (f x c)) (contained_cases u us x c)
  where
    low : value_cmp v u ≡ Less
    low = above_first v vs g u there

    go : (v ≡ x) ⊎ Contains vs x → (u ≡ x) ⊎ Contains us x → Contains vs x
    go (inr d) at = d
    go (inl is) (inl same) = absurd (not_below v (ap (value_cmp v) (is ∙ sym same) ∙ low))
    go (inl is) (inr d) = absurd (not_below v (order_total.trans v u v low (ap (value_cmp u) is ∙ above_first u us h x d)))

abbrev nodes_of : List Value → ℕ
nodes_of vs = sum (map value_nodes vs)

one_more : (u : Value) (us vs : List Value) → nodes_of us ≤ nodes_of vs → nodes_of (u ∷ us) ≤ nodes_of (u ∷ vs)
one_more u us vs h =
    let left = sum_cons (value_nodes u) (map value_nodes us) in let right = sum_cons (value_nodes u) (map value_nodes vs) in omega (arith, h, left, right)

more_nodes : (u v : Value) (us vs : List Value) → u ≡ v → nodes_of us ≤ nodes_of vs → nodes_of (u ∷ us) ≤ nodes_of (v ∷ vs)
more_nodes u v us vs e h = subst (λ z. nodes_of (u ∷ us) ≤ nodes_of (z ∷ vs)) e (one_more u us vs h)

later_nodes : (v : Value) (us vs : List Value) → nodes_of us ≤ nodes_of vs → nodes_of us ≤ nodes_of (v ∷ vs)
later_nodes v us vs h = let all = sum_cons (value_nodes v) (map value_nodes vs) in omega (arith, h, all)

-- a part of a set has no more nodes
part_nodes : (vs us : List Value) → ascends us ≡ true → ascends vs ≡ true → ((x : Value) → Contains us x → Contains vs x) → nodes_of us ≤ nodes_of vs
part_nodes vs [] h g f = omega arith
part_nodes [] (u ∷ us) h g f = absurd (contains_none u (f u (contained_first u us)))
part_nodes (v ∷ vs) (u ∷ us) h g f =
    go (contained_cases v vs u (f u (contained_first u us)))
    (λ e. part_nodes vs us (tail_ascends u us h) (tail_ascends v vs g) (rest_within u v us vs h e f))
    (λ c. part_nodes vs (u ∷ us) h (tail_ascends v vs g) (all_within u v us vs h g c f))
  where
    go : (v ≡ u) ⊎ Contains vs u → (u ≡ v → nodes_of us ≤ nodes_of vs) → (Contains vs u → nodes_of (u ∷ us) ≤ nodes_of vs) → nodes_of (u ∷ us) ≤ nodes_of (v ∷ vs)
    go (inl is) first later = more_nodes u v us vs (sym is) (first (sym is))
    go (inr c) first later = later_nodes v (u ∷ us) vs (later c)

first_same : (u v : Value) (us vs : List Value) → ascends_behind u us ≡ true → ascends_behind v vs ≡ true → (v ≡ u) ⊎ Contains vs u → (u ≡ v) ⊎ Contains us v → u ≡ v
first_same u v us vs h g (inl is) at = sym is
first_same u v us vs h g (inr c) (inl is) = is
first_same u v us vs h g (inr c) (inr d) = absurd (not_below v (order_total.trans v u v (above_first v vs g u c) (above_first u us h v d)))

-- ascending lists with the same members are the same
pub same_lists : (us vs : List Value) → ascends us ≡ true → ascends vs ≡ true → ((x : Value) → Contains us x → Contains vs x) → ((x : Value) → Contains vs x → Contains us x) → us ≡ vs
same_lists [] [] h g f b = refl
same_lists [] (v ∷ vs) h g f b = absurd (contains_none v (b v (contained_first v vs)))
same_lists (u ∷ us) [] h g f b = absurd (contains_none u (f u (contained_first u us)))
same_lists (u ∷ us) (v ∷ vs) h g f b =
    let e : u ≡ v = first_same u v us vs h g (contained_cases v vs u (f u (contained_first u us))) (contained_cases u us v (b v (contained_first v vs))) in
    let rest : us ≡ vs = same_lists us vs (tail_ascends u us h) (tail_ascends v vs g) (rest_within u v us vs h e f) (rest_within v u vs us g (sym e) b) in
    λ i. e i ∷ rest i

each_holds : (P : Value → Type 0) (vs : List Value) → AllByRecursion P vs → (x : Value) → Contains vs x → P x
each_holds P [] all x c = absurd (contains_none x c)
each_holds P (v ∷ vs) all x c = go (contained_cases v vs x c) (λ d. each_holds P vs all.1 x d)
  where
    go : (v ≡ x) ⊎ Contains vs x → (Contains vs x → P x) → P x
    go (inl is) more = subst P is all.0
    go (inr d) more = more d

fits_or_not : (holds : Value → Type 0) (v : Value) (fault : ValueFault) → IsCollected holds (Ok v) → IsCollected holds (Err fault) → ⊥
fits_or_not holds v fault a b =
    let part = part_nodes a.0 b.1 b.2 a.2 (λ x c. (a.3 x).1 (each_holds holds b.1 b.3 x c)) in
    let all : value_nodes (value.Set a.0) ≡ nodes_of a.0 + 1 = set_nodes a.0 in
    let some : value_nodes (value.Set b.1) ≡ nodes_of b.1 + 1 = set_nodes b.1 in
    let fits : value_nodes (value.Set a.0) ≤ most_nodes = subst (λ z. value_nodes z ≤ most_nodes) a.1 a.4 in
    let large = b.4 in
    omega (arith, part, all, some, fits, large)

pub collected_once : (holds : Value → Type 0) (r s : Result Value ValueFault) → IsCollected holds r → IsCollected holds s → r ≡ s
collected_once holds (Ok v) (Ok w) a b =
    ap Ok (a.1 ∙ ap value.Set (same_lists a.0 b.0 a.2 b.2 (λ x c. (b.3 x).1 ((a.3 x).0 c)) (λ x c. (a.3 x).1 ((b.3 x).0 c))) ∙ sym b.1)
collected_once holds (Ok v) (Err fault) a b = absurd (fits_or_not holds v fault a b)
collected_once holds (Err fault) (Ok w) a b = absurd (fits_or_not holds w fault b a)
collected_once holds (Err fault) (Err other) a b = ap Err (a.0 ∙ sym b.0)
