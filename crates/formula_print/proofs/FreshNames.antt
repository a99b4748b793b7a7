-- The names of the bound identifiers are enough, differ, and are not taken.
use Rattle.std.proofs.Common.{◌≡◌, ◌∙◌, sym, ap, refl, ℕ, zero, suc, ◌+◌, ◌<◌, ◌≤◌, ◌^◌, Bool, true, false, not, cond, List, [], ◌∷◌, length, take, filter, arith}
use Rattle.std.specs.Prelude.{bytes_eq}
use Rattle.std.specs.Fmt.{decimal}
use Rattle.std.specs.List.{list_any, IsDistinct, AllByRecursion}
use Rattle.std.specs.Set.{is_member}
use Rattle.std.proofs.lemmas.Fmt.{digits_value-decimal}
use Rattle.std.proofs.lemmas.List.{length-take-le}
use Rattle.std.proofs.lemmas.List.Filters.{length-filter_both}
use Rattle.std.proofs.lemmas.Map.Made.{is_member-filter, length-le_from_is_member}
use Rattle.std.proofs.lemmas.Cmp.{nat_list_eq_equiv}
use Rattle.std.proofs.lemmas.Slice.Eq.{bytes_eq-Decides}
use Rattle.formula_print.specs.Names.{generated_name, numbered_names, unused}
use Rattle.formula_print.proofs.NumberedNames.{read_on, own, both_true}

-- names that are as many as asked for, all different, and none of them taken
pub record AreFresh (taken : List (List ℕ)) (many : ℕ) (names : List (List ℕ)) : Type 0 where
  pub enough : length names ≡ many
  pub distinct : IsDistinct bytes_eq names
  pub untaken : AllByRecursion (λ name. list_any (bytes_eq name) taken ≡ false) names

false_unless : (b : Bool) → (b ≡ true → ⊥) → b ≡ false
false_unless true h = absurd (h refl)
false_unless false h = refl

number_of : (n : ℕ) → n < 2 ^ 64 → read_on 0 (decimal n) ≡ n
number_of n small = digits_value-decimal own n small

apart : (i j : ℕ) → i < j → j < 2 ^ 64 → bytes_eq (generated_name i) (generated_name j) ≡ false
apart i j less small = false_unless _ (λ t. (
    let same : generated_name i ≡ generated_name j = (bytes_eq-Decides (generated_name i) (generated_name j)).0 t in
    let digits : decimal i ≡ decimal j = cc in
    let numbers : i ≡ j = sym (number_of i (omega arith)) ∙ ap (read_on 0) digits ∙ number_of j small in
    absurd (omega (arith, numbers))))

later_apart : (i from count : ℕ) → i < from → from + count ≤ 2 ^ 64 → AllByRecursion (λ y. bytes_eq (generated_name i) y ≡ false) (numbered_names from count)
later_apart i from zero less small = tt
later_apart i from (suc count) less small = (apart i from less (omega arith), later_apart i (from + 1) count (omega arith) (omega arith))

numbered_differ : (from count : ℕ) → from + count ≤ 2 ^ 64 → IsDistinct bytes_eq (numbered_names from count)
unfolding IsDistinct
numbered_differ from zero small = tt
numbered_differ from (suc count) small = (later_apart from (from + 1) count (omega arith) (omega arith), numbered_differ (from + 1) count (omega arith))

length-numbered_names : (from count : ℕ) → length (numbered_names from count) ≡ count
length-numbered_names from zero = refl
length-numbered_names from (suc count) = ap suc (length-numbered_names (from + 1) count)

module _ {X : Type 0} (P : X → Type 0) where
  all_if : (b : Bool) (x : X) (xs : List X) → P x → AllByRecursion P xs → AllByRecursion P (cond b (x ∷ xs) xs)
  all_if true x xs one rest = (one, rest)
  all_if false x xs one rest = rest

  all-filter : (p : X → Bool) (xs : List X) → AllByRecursion P xs → AllByRecursion P (filter p xs)
  all-filter p [] all = tt
  all-filter p (x ∷ xs) all = all_if (p x) x (filter p xs) all.0 (all-filter p xs all.1)

  all-take : (n : ℕ) (xs : List X) → AllByRecursion P xs → AllByRecursion P (take n xs)
  all-take zero xs all = tt
  all-take (suc n) [] all = tt
  all-take (suc n) (x ∷ xs) all = (all.0, all-take n xs all.1)

passes_if : {X : Type 0} (p : X → Bool) (x : X) (xs : List X) (b : Bool) → p x ≡ b → AllByRecursion (λ y. p y ≡ true) xs → AllByRecursion (λ y. p y ≡ true) (cond b (x ∷ xs) xs)
passes_if p x xs true e rest = (e, rest)
passes_if p x xs false e rest = rest

passes-filter : {X : Type 0} (p : X → Bool) (xs : List X) → AllByRecursion (λ x. p x ≡ true) (filter p xs)
passes-filter p [] = tt
passes-filter p (x ∷ xs) = passes_if p x (filter p xs) (p x) refl (passes-filter p xs)

distinct_if : {X : Type 0} (eq : X → X → Bool) (b : Bool) (x : X) (xs : List X) → AllByRecursion (λ y. eq x y ≡ false) xs → IsDistinct eq xs → IsDistinct eq (cond b (x ∷ xs) xs)
unfolding IsDistinct
distinct_if eq true x xs first rest = (first, rest)
distinct_if eq false x xs first rest = rest

distinct-filter : {X : Type 0} (eq : X → X → Bool) (p : X → Bool) (xs : List X) → IsDistinct eq xs → IsDistinct eq (filter p xs)
unfolding IsDistinct
distinct-filter eq p [] differ = tt
distinct-filter eq p (x ∷ xs) differ = distinct_if eq (p x) x (filter p xs) (all-filter (λ y. eq x y ≡ false) p xs differ.0) (distinct-filter eq p xs differ.1)

distinct-take : {X : Type 0} (eq : X → X → Bool) (n : ℕ) (xs : List X) → IsDistinct eq xs → IsDistinct eq (take n xs)
unfolding IsDistinct
distinct-take eq zero xs differ = tt
distinct-take eq (suc n) [] differ = tt
distinct-take eq (suc n) (x ∷ xs) differ = (all-take (λ y. eq x y ≡ false) n xs differ.0, distinct-take eq n xs differ.1)

not_not : (b : Bool) → b ≡ not (not b)
not_not true = refl
not_not false = refl

module _ (taken : List (List ℕ)) (many : ℕ) (small : many + length taken < 2 ^ 64) where
  abbrev is_taken : List ℕ → Bool
  is_taken name = list_any (bytes_eq name) taken

  abbrev candidates : List (List ℕ)
  candidates = numbered_names 1 (many + length taken)

  candidates_differ : IsDistinct bytes_eq candidates
  candidates_differ = numbered_differ 1 (many + length taken) (omega arith)

  same_taken : (q x : List ℕ) → bytes_eq q x ≡ true → is_taken q ≡ is_taken x
  same_taken q x t = ap is_taken ((bytes_eq-Decides q x).0 t)

  few_taken : length (filter is_taken candidates) ≤ length taken
  few_taken = length-le_from_is_member nat_list_eq_equiv (filter is_taken candidates) taken (distinct-filter bytes_eq is_taken candidates candidates_differ)
      (λ q there. (both_true (is_member bytes_eq candidates q) (is_taken q) (sym (is_member-filter nat_list_eq_equiv is_taken q (same_taken q) candidates) ∙ there)).1)

  enough : many ≤ length (filter (λ name. not (is_taken name)) candidates)
  enough = omega (arith, few_taken, length-filter_both (λ name. not (is_taken name)) is_taken (λ name. not_not (is_taken name)) candidates, length-numbered_names 1 (many + length taken))

  untaken : AllByRecursion (λ name. not (is_taken name) ≡ true) (unused taken many)
  untaken = all-take (λ name. not (is_taken name) ≡ true) many (filter (λ name. not (is_taken name)) candidates) (passes-filter (λ name. not (is_taken name)) candidates)

  not_true : (names : List (List ℕ)) → AllByRecursion (λ name. not (is_taken name) ≡ true) names → AllByRecursion (λ name. is_taken name ≡ false) names
  not_true [] all = tt
  not_true (name ∷ names) all = (not_not (is_taken name) ∙ ap not all.0, not_true names all.1)

  pub fresh : AreFresh taken many (unused taken many)
  fresh = record {
    enough = length-take-le many (filter (λ name. not (is_taken name)) candidates) enough;
    distinct = distinct-take bytes_eq many (filter (λ name. not (is_taken name)) candidates) (distinct-filter bytes_eq (λ name. not (is_taken name)) candidates candidates_differ);
    untaken = not_true (unused taken many) untaken;
  }
