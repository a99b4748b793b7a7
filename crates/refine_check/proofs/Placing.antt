-- The first place at which a test passes, and names that are looked up by their places.
use Rattle.std.proofs.Common.{◌≡◌, ◌∙◌, ◌+◌, ◌<◌, ap, refl, sym, ℕ, suc, Bool, true, false, ◌||◌, ◌&&◌, ◌==◌, nat_lt, cond, List, [], ◌∷◌, ◌++◌, map, take, drop, length, get_or, bytes_eq, arith}
use Rattle.std.specs.Prelude.{Option, Some, None, is_some, min}
use Rattle.std.specs.Borrow.{Bor}
use Rattle.std.specs.BTreeMap.{BTreeMap}
use Rattle.std.specs.BTreeMap as tree
use Rattle.std.specs.Cmp.Lexicographic.{slice_cmp}
use Rattle.std.specs.List.{filter, slice_get}
use Rattle.std.specs.Option.{option_and_then, option_map}
use Rattle.std.specs.Ordering.{nat_cmp}
use Rattle.std.proofs.lemmas.Bool.Decides.{nat_tests}
use Rattle.std.proofs.lemmas.Cmp.{nat_list_eq_equiv}
use Rattle.std.proofs.lemmas.List.{get_or_default, take_more}
use Rattle.std.proofs.lemmas.Map.Text.{btree_map_updates_str}
use Rattle.model_core.specs.declared.fault.Fault.{Fault}
use Rattle.model_core.specs.declared.fault.FaultKind.{FaultKind}
use Rattle.model_core.specs.Each.{is_among}
use Rattle.model_core.specs.Faults.{number, comes_before, earlier, first_by_place, fault_at}
use Rattle.model_core.proofs.Lists.{any_append, at_index}
use Rattle.refine_check.specs.Private.{first_index, lower, index_in}
use Rattle.model_core.specs.Borrowed.{texts}
use Rattle.refine_check.proofs.Faults.{map-append}

or_false : (a : Bool) → (a || false) ≡ a
or_false true = refl
or_false false = refl

lower_next : (o r : Option ℕ) → lower (option_map suc o) (option_map suc r) ≡ option_map suc (lower o r)
lower_next None r = refl
lower_next (Some i) None = refl
lower_next (Some i) (Some j) = let e : min (suc i) (suc j) ≡ suc (min i j) = omega arith in ap (λ k. Some k) e

lower_at : (p q : Bool) (o r s : Option ℕ) → lower o r ≡ s →
    lower (cond p (Some 0) (option_map suc o)) (cond q (Some 0) (option_map suc r)) ≡ cond (p || q) (Some 0) (option_map suc s)
lower_at true true o r s e = refl
lower_at true false o None s e = refl
lower_at true false o (Some j) s e = let z : min 0 (suc j) ≡ 0 = omega arith in ap (λ k. Some k) z
lower_at false true None r s e = refl
lower_at false true (Some i) r s e = let z : min (suc i) 0 ≡ 0 = omega arith in ap (λ k. Some k) z
lower_at false false o r s e = lower_next o r ∙ ap (option_map suc) e

-- where one of two tests passes
lower_or : {X : Type 0} (a b : X → Bool) (xs : List X) → lower (first_index a xs) (first_index b xs) ≡ first_index (λ x. a x || b x) xs
lower_or a b [] = refl
lower_or a b (x ∷ xs) = lower_at (a x) (b x) (first_index a xs) (first_index b xs) (first_index (λ y. a y || b y) xs) (lower_or a b xs)

among_more : (xs : List (List ℕ)) (x y : List ℕ) → (is_among xs y || bytes_eq x y) ≡ is_among (xs ++ x ∷ []) y
among_more xs x y =
    ap (λ b. is_among xs y || b) (nat_list_eq_equiv.symm x y ∙ sym (or_false (bytes_eq y x))) ∙ sym (any_append (bytes_eq y) xs (x ∷ []))

pub none_first : (list : List (List ℕ)) → None ≡ first_index (is_among []) list
none_first [] = refl
none_first (x ∷ list) = ap (option_map suc) (none_first list)

-- one more name that is looked for
pub first_more : (list : List (List ℕ)) (names : List (Bor (List ℕ))) (i : ℕ) (d : Bor (List ℕ)) (old here new : Option ℕ) → i < length names →
    old ≡ first_index (is_among (texts (take i names))) list → here ≡ first_index (bytes_eq (get_or names i d).now) list → new ≡ lower old here →
    new ≡ first_index (is_among (texts (take (i + 1) names))) list
first_more list names i d old here new lt e f g =
    let x : Bor (List ℕ) = get_or names i d in
    g ∙ (λ j. lower (e j) (f j)) ∙ lower_or (is_among (texts (take i names))) (bytes_eq x.now) list
    ∙ (λ j. first_index (λ y. among_more (texts (take i names)) x.now y j) list)
    ∙ ap (λ xs. first_index (is_among xs) list) (sym (ap texts (take_more names i d lt) ∙ map-append (λ n. n.now) (take i names) (x ∷ [])))

got_next : {X : Type 0} (x : X) (xs : List X) (o : Option ℕ) → option_and_then (slice_get (x ∷ xs)) (option_map suc o) ≡ option_and_then (slice_get xs) o
got_next x xs None = refl
got_next x xs (Some i) = refl

-- what stands at the first place
pub first_is : {X : Type 0} (test : X → Bool) (xs : List X) → option_and_then (slice_get xs) (first_index test xs) ≡ slice_get (filter test xs) 0
first_is test [] = refl
first_is test (x ∷ xs) = at (test x) (first_is test xs)
  where
    at : (b : Bool) → option_and_then (slice_get xs) (first_index test xs) ≡ slice_get (filter test xs) 0 →
        option_and_then (slice_get (x ∷ xs)) (cond b (Some 0) (option_map suc (first_index test xs))) ≡ slice_get (cond b (x ∷ filter test xs) (filter test xs)) 0
    at true h = refl
    at false h = got_next x xs (first_index test xs) ∙ h

pub some_place : (text : List ℕ) (xs : List (List ℕ)) → is_some (first_index (bytes_eq text) xs) ≡ is_among xs text
some_place text [] = refl
some_place text (x ∷ xs) = at (bytes_eq text x) (first_index (bytes_eq text) xs) (some_place text xs)
  where
    next : (o : Option ℕ) → is_some (option_map suc o) ≡ is_some o
    next None = refl
    next (Some i) = refl

    at : (b : Bool) (o : Option ℕ) → is_some o ≡ is_among xs text → is_some (cond b (Some 0) (option_map suc o)) ≡ (b || is_among xs text)
    at true o e = refl
    at false o e = next o ∙ e

-- the same place, where this many names stand before the list
abbrev pub behind : ℕ → Option ℕ → Option ℕ
behind n o = option_map (λ k. n + k) o

pub behind_none : (o : Option ℕ) → behind 0 o ≡ o
behind_none None = refl
behind_none (Some k) = let e : 0 + k ≡ k = omega arith in ap (λ n. Some n) e

pub one_placed : (list : List (Bor (List ℕ))) (i : ℕ) (d : Bor (List ℕ)) → i < length list → (before after : BTreeMap (Bor (List ℕ)) ℕ) →
    tree.Updates (λ x y. slice_cmp nat_cmp x.now y.now) before after (get_or list i d) (Some i) →
    ((text : List ℕ) → index_in before text ≡ behind (i + 1) (first_index (bytes_eq text) (texts (drop (i + 1) list)))) →
    (text : List ℕ) → index_in after text ≡ behind i (first_index (bytes_eq text) (texts (drop i list)))
one_placed list i d inside before after u h text =
    let x : Bor (List ℕ) = get_or list i d in
    btree_map_updates_str x.now before after (Some i) u text
    ∙ (λ j. cond (nat_list_eq_equiv.symm x.now text j) (Some i) (h text j))
    ∙ at (bytes_eq text x.now) (first_index (bytes_eq text) (texts (drop (i + 1) list)))
    ∙ ap (λ ys. behind i (first_index (bytes_eq text) (texts ys))) (sym (at_index list i x inside (get_or_default list i d x inside)))
  where
    at : (b : Bool) (o : Option ℕ) → cond b (Some i) (behind (i + 1) o) ≡ behind i (cond b (Some 0) (option_map suc o))
    at true o = let z : i ≡ i + 0 = omega arith in ap (λ k. Some k) z
    at false None = refl
    at false (Some k) = let e : (i + 1) + k ≡ i + suc k = omega arith in ap (λ n. Some n) e

tied : (component : List ℕ) (k : FaultKind) (place : ℕ) (one other : List ℕ) → comes_before (fault_at component k place other) (fault_at component k place one) ≡ false
tied component k place one other = at (nat_lt place place) (nat_lt (number k) (number k)) (place == place) (grind (arith, nat_tests)) (grind (arith, nat_tests))
  where
    at : (x y z : Bool) → x ≡ false → y ≡ false → (x || (z && y)) ≡ false
    at true y z e f = e
    at false true z e f = absurd (unequal f)
      where
        unequal : true ≡ false → ⊥
        unequal h = cc
    at false false true e f = refl
    at false false false e f = refl

-- of faults of one kind at one place the first counts
pub first_told : {X : Type 0} (component : List ℕ) (k : FaultKind) (place : ℕ) (words : X → List ℕ) (xs : List X) →
    first_by_place (map (λ x. fault_at component k place (words x)) xs) ≡ option_map (λ x. fault_at component k place (words x)) (slice_get xs 0)
first_told component k place words [] = refl
first_told {X} component k place words (x ∷ xs) =
    ap (earlier (Some (told x))) (first_told component k place words xs) ∙ at (slice_get xs 0)
  where
    told : X → Fault
    told y = fault_at component k place (words y)

    at : (o : Option X) → earlier (Some (told x)) (option_map told o) ≡ Some (told x)
    at None = refl
    at (Some y) = ap (λ b. cond b (Some (told y)) (Some (told x))) (tied component k place (words x) (words y))

pub map_map : {X Y Z : Type 0} (g : Y → Z) (f : X → Y) (o : Option X) → option_map (λ x. g (f x)) o ≡ option_map g (option_map f o)
map_map g f None = refl
map_map g f (Some x) = refl
