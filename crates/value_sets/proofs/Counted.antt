-- Sets that are counted before they are made.
use Rattle.std.proofs.Common.{◌≡◌, ◌∙◌, ◌⊎◌, ◌↔◌, inl, inr, ap, sym, subst, refl, ℕ, zero, suc, ◌+◌, ◌<◌, ◌≤◌, Bool, true, false, List, [], ◌∷◌, ◌++◌, map, sum, Ok, Err, arith}
use Rattle.std.specs.Prelude.{ℤ, pos, negsuc, ◌+ℤ◌, ◌-ℤ◌, ◌≤ℤ◌, ◌<ℤ◌, ◌^◌, FitsSigned, nat_lt}
use Rattle.std.specs.Int.{w128}
use Rattle.std.proofs.Math.Numerals.{add-one}
use Rattle.std.proofs.lemmas.Bool.{ltb-true, ltb-false}
use Rattle.std.proofs.Math.Nat.{eq-or-lt_of_le}
use Rattle.std.specs.List.{Contains}
use Rattle.std.specs.Ordering.{nat_cmp, ordering_then}
use Rattle.std.specs.Cmp.{int_cmp_is, nat_cmp_is}
use Rattle.std.specs.Int.Signed.{≤ℤ_refl}
use Rattle.std.specs.declared.cmp.Ordering.{Ordering}
use Rattle.std.specs.declared.cmp.Ordering.TheVariants.{Less}
use Rattle.std.proofs.lemmas.Cmp.{tied_itself, nat_list_cmp_total}
use Rattle.std.proofs.lemmas.Int.{ints, by_lt_z}
use Rattle.event_values.specs.declared.value.Value.{Value}
use Rattle.event_values.specs.declared.value.Value.TheOpen.{Int, Elem}
use Rattle.event_values.specs.declared.value.Value.TheVariants as value
use Rattle.event_values.specs.declared.value.Value.TheViews.{rolls-Int, rolls-Elem, outs-Int, outs-Elem}
use Rattle.event_values.specs.declared.value.Value.TheFolds.{map-Value}
use Rattle.event_values.specs.Order.{value_cmp, value_cmp_step, value_nodes, ascends}
use Rattle.event_values.specs.Reading.{most_nodes}
use Rattle.event_values.proofs.Orders.{cmp_at}
use Rattle.value_sets.specs.declared.fault.ValueFault.TheVariants.{TooLarge}
use Rattle.value_sets.specs.Sets.{InInterval, InCarrier, IsCollected, IsTold}
use Rattle.value_sets.specs.Private.{IsCount, numbers_from, elements_from}
use Rattle.value_sets.proofs.Keeping.{contains_none, contained_first, contained_later, contained_cases}
use Rattle.value_sets.proofs.Collected.{all_of}
use Rattle.value_sets.proofs.Rows.{ascends_from, nodes_at, set_nodes, sum_cons}

-- NUMBERS

abbrev IsFrom : ℤ → ℕ → Value → Type 0
IsFrom n k x = (j : ℤ) × (x ≡ value.Int j) × (n ≤ℤ j) × (j <ℤ (n +ℤ pos k))

numbers_only : (n : ℤ) (k : ℕ) (x : Value) → Contains (numbers_from n k) x → IsFrom n k x
numbers_only n zero x c = absurd (contains_none x c)
numbers_only n (suc k) x c = go (contained_cases (value.Int n) (numbers_from (n +ℤ pos 1) k) x c) (λ d. numbers_only (n +ℤ pos 1) k x d)
  where
    go : (value.Int n ≡ x) ⊎ Contains (numbers_from (n +ℤ pos 1) k) x → (Contains (numbers_from (n +ℤ pos 1) k) x → IsFrom (n +ℤ pos 1) k x) → IsFrom n (suc k) x
    go (inl is) more = (n, sym is, ≤ℤ_refl n, omega (arith, ints))
    go (inr d) more = let m = more d in let low = m.2 in let high = m.3 in (m.0, m.1, omega (arith, ints, low), omega (arith, ints, high))

numbers_all : (n : ℤ) (k : ℕ) (j : ℤ) → n ≤ℤ j → j <ℤ (n +ℤ pos k) → Contains (numbers_from n k) (value.Int j)
numbers_all n zero j low high = absurd (omega (arith, ints, low, high))
numbers_all n (suc k) j low high =
    by_lt_z n j
    (λ less. contained_later (value.Int n) (numbers_from (n +ℤ pos 1) k) (value.Int j) (numbers_all (n +ℤ pos 1) k j (omega (arith, ints, less)) (omega (arith, ints, high))))
    (λ at. let e : n ≡ j = omega (arith, ints, low, at) in
    subst (λ z. Contains (numbers_from n (suc k)) (value.Int z)) e (contained_first (value.Int n) (numbers_from (n +ℤ pos 1) k)))

numbers_below : (n j : ℤ) → n <ℤ j → value_cmp (value.Int n) (value.Int j) ≡ Less
numbers_below n j less =
    cmp_at (Int n) (value.Int n) (rolls-Int n) (value.Int j) ∙ ap (value_cmp_step (map-Value Value (Value → Ordering) value_cmp (Int n))) (outs-Int j)
    ∙ sym (int_cmp_is n j Less less)

numbers_ascend : (n : ℤ) (k : ℕ) → ascends (numbers_from n k) ≡ true
numbers_ascend n zero = refl
numbers_ascend n (suc k) =
    ascends_from (value.Int n) (numbers_from (n +ℤ pos 1) k) (numbers_ascend (n +ℤ pos 1) k)
    (λ x c. let m = numbers_only (n +ℤ pos 1) k x c in let low = m.2 in ap (value_cmp (value.Int n)) m.1 ∙ numbers_below n m.0 (omega (arith, ints, low)))

numbers_nodes : (n : ℤ) (k : ℕ) → sum (map value_nodes (numbers_from n k)) ≡ k
numbers_nodes n zero = refl
numbers_nodes n (suc k) = let one = nodes_at (Int n) (value.Int n) (rolls-Int n) in let more = numbers_nodes (n +ℤ pos 1) k in
    let all = sum_cons (value_nodes (value.Int n)) (map value_nodes (numbers_from (n +ℤ pos 1) k)) in omega (arith, one, more, all)

numbers_next : (n : ℤ) (k : ℕ) → numbers_from n (suc k) ≡ numbers_from n k ++ value.Int (n +ℤ pos k) ∷ []
numbers_next n zero = ap (λ z. value.Int z ∷ []) (omega (arith, ints))
numbers_next n (suc k) =
    ap (λ xs. value.Int n ∷ xs) (numbers_next (n +ℤ pos 1) k
    ∙ ap (λ z. numbers_from (n +ℤ pos 1) k ++ value.Int z ∷ []) (omega (arith, ints)))

pub numbers_more : (n : ℤ) (k : ℕ) → numbers_from n (k + 1) ≡ numbers_from n k ++ value.Int (n +ℤ pos k) ∷ []
numbers_more n k = ap (numbers_from n) (add-one k) ∙ numbers_next n k

-- how many there are
pub none_between : (m n : ℤ) → n <ℤ m → IsCount m n 0
none_between m n h = (omega arith, omega (arith, ints, h), inl refl)

pub some_between : (m n : ℤ) (k : ℕ) → pos k ≡ ((n -ℤ m) +ℤ pos 1) → k < 65536 → IsCount m n k
some_between m n k e few = (few, omega (arith, ints, e), inr (omega (arith, ints, e)))

pub far_between : (m n d : ℤ) → d ≡ n -ℤ m → pos 65535 ≤ℤ d → (m +ℤ pos 65535) ≤ℤ n
far_between m n d e far = omega (arith, ints, e, far)

pub too_far : (m n : ℤ) → m ≤ℤ n → ¬ FitsSigned w128 (n -ℤ m) → (m +ℤ pos 65535) ≤ℤ n
too_far m n h f = go (n -ℤ m) refl f
  where
    long : (k : ℕ) (b : Bool) → nat_lt k (2 ^ 127) ≡ b → ¬ FitsSigned w128 (pos k) → 65535 ≤ k
    long k true is g = absurd (g (record { sfits = ltb-true k (2 ^ 127) is }))
    long k false is g = let wide = ltb-false k (2 ^ 127) is in omega (arith, wide)

    go : (z : ℤ) → n -ℤ m ≡ z → ¬ FitsSigned w128 z → (m +ℤ pos 65535) ≤ℤ n
    go (pos k) e g = let far = long k (nat_lt k (2 ^ 127)) refl g in omega (arith, ints, e, far)
    go (negsuc k) e g = absurd (omega (arith, ints, e, h))

pub ruleset counts = (none_between, some_between, far_between, too_far)

interval_only : (m n : ℤ) (k : ℕ) (x : Value) → (k ≡ 0) ⊎ ((m +ℤ pos k) ≤ℤ (n +ℤ pos 1)) → IsFrom m k x → InInterval m n x
interval_only m n k x (inl e) i = let low = i.2 in let high = i.3 in absurd (omega (arith, ints, e, low, high))
interval_only m n k x (inr e) i = let high = i.3 in (i.0, i.1, i.2, omega (arith, ints, e, high))

-- the numbers from m on are those up to n
numbers_are : (m n : ℤ) (k : ℕ) → IsCount m n k → (x : Value) → Contains (numbers_from m k) x ↔ InInterval m n x
numbers_are m n k is x = (
  (λ c. interval_only m n k x is.2 (numbers_only m k x c)),
  (λ i. let far = is.1 in let high = i.3 in subst (Contains (numbers_from m k)) (sym i.1) (numbers_all m k i.0 i.2 (omega (arith, ints, far, high)))),
)

pub told_interval : (m n : ℤ) (k : ℕ) (found : List Value) → IsCount m n k → found ≡ numbers_from m k → IsTold (IsCollected (InInterval m n)) (Ok (value.Set found))
told_interval m n k found is e =
    inr (numbers_from m k, ap value.Set e, numbers_ascend m k, numbers_are m n k is, fits)
  where
    fits : value_nodes (value.Set found) ≤ most_nodes
    fits =
        let all : value_nodes (value.Set (numbers_from m k)) ≡ sum (map value_nodes (numbers_from m k)) + 1 = set_nodes (numbers_from m k) in
        let each = numbers_nodes m k in
        let few = is.0 in
        let small : value_nodes (value.Set (numbers_from m k)) ≤ 65536 = omega (arith, all, each, few) in
        subst (λ vs. value_nodes (value.Set vs) ≤ most_nodes) (sym e) small

pub told_interval_as : (m n a b : ℤ) (k : ℕ) (found : List Value) → a ≡ m → b ≡ n → IsCount a b k → found ≡ numbers_from a k
    → IsTold (IsCollected (InInterval m n)) (Ok (value.Set found))
told_interval_as m n a b k found e f is made =
    told_interval m n k found (subst (λ z. IsCount z n k) e (subst (λ z. IsCount a z k) f is)) (made ∙ ap (λ z. numbers_from z k) e)

wide_interval : (m n : ℤ) (k : ℕ) → k ≡ 65536 → (m +ℤ pos 65535) ≤ℤ n → IsTold (IsCollected (InInterval m n)) (Err TooLarge)
wide_interval m n k is far =
    inr (
      refl,
      numbers_from m k,
      numbers_ascend m k,
      all_of (InInterval m n) (numbers_from m k) (λ x c. let i = numbers_only m k x c in let high = i.3 in (i.0, i.1, i.2, omega (arith, ints, is, far, high))),
      large,
    )
  where
    large : most_nodes < value_nodes (value.Set (numbers_from m k))
    large = let all = set_nodes (numbers_from m k) in let each = numbers_nodes m k in omega (arith, all, each, is)

pub told_wide : (m n : ℤ) → (m +ℤ pos 65535) ≤ℤ n → IsTold (IsCollected (InInterval m n)) (Err TooLarge)
told_wide m n far = wide_interval m n 65536 refl far

pub ruleset intervals = (told_interval, told_wide)

-- ELEMENTS OF A CARRIER SET

module _ (set : List ℕ) where
  abbrev IsElement : ℕ → ℕ → Value → Type 0
  IsElement n k x = (j : ℕ) × (x ≡ value.Elem set j) × (n ≤ j) × (j < n + k)

  elements_only : (n k : ℕ) (x : Value) → Contains (elements_from set n k) x → IsElement n k x
  elements_only n zero x c = absurd (contains_none x c)
  elements_only n (suc k) x c = go (contained_cases (value.Elem set n) (elements_from set (n + 1) k) x c) (λ d. elements_only (n + 1) k x d)
    where
      go : (value.Elem set n ≡ x) ⊎ Contains (elements_from set (n + 1) k) x → (Contains (elements_from set (n + 1) k) x → IsElement (n + 1) k x) → IsElement n (suc k) x
      go (inl is) more = (n, sym is, omega arith, omega arith)
      go (inr d) more = let m = more d in let low = m.2 in let high = m.3 in (m.0, m.1, omega (arith, low), omega (arith, high))

  elements_all : (n k j : ℕ) → n ≤ j → j < n + k → Contains (elements_from set n k) (value.Elem set j)
  elements_all n zero j low high = absurd (omega (arith, low, high))
  elements_all n (suc k) j low high = go (eq-or-lt_of_le low) (λ less. elements_all (n + 1) k j (omega (arith, less)) (omega (arith, high)))
    where
      go : (n ≡ j) ⊎ (n < j) → (n < j → Contains (elements_from set (n + 1) k) (value.Elem set j)) → Contains (elements_from set n (suc k)) (value.Elem set j)
      go (inl is) more = subst (λ z. Contains (elements_from set n (suc k)) (value.Elem set z)) is (contained_first (value.Elem set n) (elements_from set (n + 1) k))
      go (inr less) more = contained_later (value.Elem set n) (elements_from set (n + 1) k) (value.Elem set j) (more less)

  elements_below : (n j : ℕ) → n < j → value_cmp (value.Elem set n) (value.Elem set j) ≡ Less
  elements_below n j less =
      cmp_at (Elem set n) (value.Elem set n) (rolls-Elem set n) (value.Elem set j) ∙ ap (value_cmp_step (map-Value Value (Value → Ordering) value_cmp (Elem set n))) (outs-Elem set j)
      ∙ ap (λ o. ordering_then o (nat_cmp n j)) (tied_itself nat_list_cmp_total set) ∙ sym (nat_cmp_is n j Less less)

  elements_ascend : (n k : ℕ) → ascends (elements_from set n k) ≡ true
  elements_ascend n zero = refl
  elements_ascend n (suc k) =
      ascends_from (value.Elem set n) (elements_from set (n + 1) k) (elements_ascend (n + 1) k)
      (λ x c. let m = elements_only (n + 1) k x c in let low = m.2 in ap (value_cmp (value.Elem set n)) m.1 ∙ elements_below n m.0 (omega (arith, low)))

  elements_nodes : (n k : ℕ) → sum (map value_nodes (elements_from set n k)) ≡ k
  elements_nodes n zero = refl
  elements_nodes n (suc k) = let one = nodes_at (Elem set n) (value.Elem set n) (rolls-Elem set n) in let more = elements_nodes (n + 1) k in
      let all = sum_cons (value_nodes (value.Elem set n)) (map value_nodes (elements_from set (n + 1) k)) in omega (arith, one, more, all)

  elements_next : (n k : ℕ) → elements_from set n (suc k) ≡ elements_from set n k ++ value.Elem set (n + k) ∷ []
  elements_next n zero = ap (λ z. value.Elem set z ∷ []) (omega arith)
  elements_next n (suc k) =
      ap (λ xs. value.Elem set n ∷ xs) (elements_next (n + 1) k ∙ ap (λ z. elements_from set (n + 1) k ++ value.Elem set z ∷ []) (omega arith))

  pub elements_more : (k : ℕ) → elements_from set 0 (k + 1) ≡ elements_from set 0 k ++ value.Elem set k ∷ []
  elements_more k = ap (elements_from set 0) (add-one k) ∙ elements_next 0 k ∙ ap (λ z. elements_from set 0 k ++ value.Elem set z ∷ []) (omega arith)

  elements_are : (size : ℕ) (x : Value) → Contains (elements_from set 0 size) x ↔ InCarrier set size x
  elements_are size x = (
    (λ c. let m = elements_only 0 size x c in let high = m.3 in (m.0, m.1, omega (arith, high))),
    (λ i. let high = i.2 in subst (Contains (elements_from set 0 size)) (sym i.1) (elements_all 0 size i.0 (omega arith) (omega (arith, high)))),
  )

  pub told_carrier : (size : ℕ) (found : List Value) → size < 65536 → found ≡ elements_from set 0 size → IsTold (IsCollected (InCarrier set size)) (Ok (value.Set found))
  told_carrier size found few e = inr (elements_from set 0 size, ap value.Set e, elements_ascend 0 size, elements_are size, fits)
    where
      fits : value_nodes (value.Set found) ≤ most_nodes
      fits =
          let all : value_nodes (value.Set (elements_from set 0 size)) ≡ sum (map value_nodes (elements_from set 0 size)) + 1 = set_nodes (elements_from set 0 size) in
          let each = elements_nodes 0 size in
          let small : value_nodes (value.Set (elements_from set 0 size)) ≤ 65536 = omega (arith, all, each, few) in
          subst (λ vs. value_nodes (value.Set vs) ≤ most_nodes) (sym e) small

  pub told_wide_carrier : (size : ℕ) → 65536 ≤ size → IsTold (IsCollected (InCarrier set size)) (Err TooLarge)
  told_wide_carrier size far =
      inr (
        refl,
        elements_from set 0 size,
        elements_ascend 0 size,
        all_of (InCarrier set size) (elements_from set 0 size) (λ x c. (elements_are size x).0 c),
        large,
      )
    where
      large : most_nodes < value_nodes (value.Set (elements_from set 0 size))
      large = let all = set_nodes (elements_from set 0 size) in let each = elements_nodes 0 size in omega (arith, all, each, far)

pub ruleset carriers = (told_carrier, told_wide_carrier)

pub ruleset longer = (numbers_more, elements_more)
