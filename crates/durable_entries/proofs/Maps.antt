-- Maps that are made of their entries.
use Rattle.std.proofs.Common.{◌≡◌, ◌∙◌, inl, inr, ⊎_elim, ◌⊎◌, sym, ap, refl, ℕ, Bool, true, false, ◌&&◌, cond, T, Some, None, List, [], ◌∷◌, map}
use Rattle.std.specs.List.{AllByRecursion}
use Rattle.std.specs.Ordering.{eq_by_cmp, is_lt, is_eq}
use Rattle.std.specs.FinMap.{FinMap, entries, get, insert, empty, get-entries, get-empty, get-insert, same_map, entries_sorted, find, is_sorted, nat_cmp-IsAntisymmetric, slice_cmp-IsAntisymmetric, IsAntisymmetric}
use Rattle.std.proofs.lemmas.Cmp.{nat_list_cmp_total, tied_itself}
use Rattle.std.specs.declared.cmp.Ordering.{Ordering}
use Rattle.std.specs.declared.cmp.Ordering.TheVariants.{Less, Equal, Greater}
use Rattle.std.specs.FinMap.Entries.{below_all}
use Rattle.core_steps.specs.Durable.{text_cmp}

-- a map with all entries of a list
abbrev pub with_all : {X : Type 0} → FinMap text_cmp X → List (List ℕ × X) → FinMap text_cmp X
with_all m [] = m
with_all m (e ∷ es) = with_all (insert m e.0 e.1) es

pub exact : IsAntisymmetric text_cmp
exact = slice_cmp-IsAntisymmetric nat_cmp-IsAntisymmetric

equal : (r : Ordering) → is_eq r ≡ true → r ≡ Equal
equal Less e = absurd cc
equal Equal e = refl
equal Greater e = absurd cc

unequal : (r : Ordering) → T (is_lt r) → r ≡ Equal → ⊥
unequal Less h e = cc
unequal Equal h e = h
unequal Greater h e = h

pub itself : (k : List ℕ) → eq_by_cmp text_cmp k k ≡ true
itself k = ap is_eq (tied_itself nat_list_cmp_total k)

-- a key is another one, or it isn't
pub same_or_not : (q k : List ℕ) → (q ≡ k) ⊎ (eq_by_cmp text_cmp q k ≡ false)
same_or_not q k = split (eq_by_cmp text_cmp q k) refl
  where
    split : (b : Bool) → eq_by_cmp text_cmp q k ≡ b → (q ≡ k) ⊎ (eq_by_cmp text_cmp q k ≡ false)
    split true e = inl (exact q k (equal (text_cmp q k) e))
    split false e = inr e

first_of : (a b : Bool) → T (a && b) → T a
first_of true b h = tt
first_of false b h = h

second_of : (a b : Bool) → T (a && b) → T b
second_of true b h = h
second_of false b h = absurd h

-- a name is none of these
abbrev pub NotIn : List ℕ → List (List ℕ) → Type 0
NotIn q names = AllByRecursion (λ n. eq_by_cmp text_cmp q n ≡ false) names

module _ {X : Type 0} where
  pub here : (m : FinMap text_cmp X) (k : List ℕ) (v : X) → get (insert m k v) k ≡ Some v
  here m k v = get-insert nat_list_cmp_total m k v k ∙ ap (λ b. cond b (Some v) (get m k)) (itself k)

  pub there : (m : FinMap text_cmp X) (k : List ℕ) (v : X) (q : List ℕ) → eq_by_cmp text_cmp q k ≡ false → get (insert m k v) q ≡ get m q
  there m k v q e = get-insert nat_list_cmp_total m k v q ∙ ap (λ b. cond b (Some v) (get m q)) e

  -- each of these entries is found among all
  abbrev Found : List (List ℕ × X) → List (List ℕ × X) → Type 0
  Found all es = AllByRecursion (λ e. find text_cmp e.0 all ≡ Some e.1) es

  not_first : (first e : List ℕ × X) → T (is_lt (text_cmp first.0 e.0)) → eq_by_cmp text_cmp e.0 first.0 ≡ false
  not_first first e less = ⊎_elim (λ same. absurd (unequal (text_cmp first.0 e.0) less (ap (text_cmp first.0) same ∙ tied_itself nat_list_cmp_total first.0))) (λ apart. apart) (same_or_not e.0 first.0)

  found_behind : (first : List ℕ × X) (all es : List (List ℕ × X)) → T (below_all text_cmp first.0 es) → Found all es → Found (first ∷ all) es
  found_behind first all [] below found = tt
  found_behind first all (e ∷ es) below found = (
    ap (λ b. cond b (Some first.1) (find text_cmp e.0 all)) (not_first first e (first_of (is_lt (text_cmp first.0 e.0)) (below_all text_cmp first.0 es) below)) ∙ found.0,
    found_behind first all es (second_of (is_lt (text_cmp first.0 e.0)) (below_all text_cmp first.0 es) below) found.1,
  )

  all_found : (es : List (List ℕ × X)) → T (is_sorted text_cmp es) → Found es es
  all_found [] sorted = tt
  all_found (e ∷ es) sorted = (
    ap (λ b. cond b (Some e.1) (find text_cmp e.0 es)) (itself e.0),
    found_behind e es es (first_of (below_all text_cmp e.0 es) (is_sorted text_cmp es) sorted) (all_found es (second_of (below_all text_cmp e.0 es) (is_sorted text_cmp es) sorted)),
  )

  -- these entries are those of the map
  abbrev pub AreOf : FinMap text_cmp X → List (List ℕ × X) → Type 0
  AreOf m es = AllByRecursion (λ e. get m e.0 ≡ Some e.1) es

  as_gets : (m : FinMap text_cmp X) (es : List (List ℕ × X)) → Found (entries m) es → AreOf m es
  as_gets m [] found = tt
  as_gets m (e ∷ es) found = (get-entries m e.0 ∙ found.0, as_gets m es found.1)

  pub own_entries : (m : FinMap text_cmp X) → AreOf m (entries m)
  own_entries m = as_gets m (entries m) (all_found (entries m) (entries_sorted m))

  pub get_with_all : (m n : FinMap text_cmp X) (es : List (List ℕ × X)) → AreOf m es → (q : List ℕ) → (get (with_all n es) q ≡ get m q) ⊎ ((get (with_all n es) q ≡ get n q) × (find text_cmp q es ≡ None))
  get_with_all m n [] all q = inr (refl, refl)
  get_with_all m n (e ∷ es) all q = ⊎_elim
      (λ is. inl is)
      (λ w. ⊎_elim
      (λ same. inl (w.0 ∙ ap (get (insert n e.0 e.1)) same ∙ here n e.0 e.1 ∙ sym all.0 ∙ ap (get m) (sym same)))
      (λ apart. inr (w.0 ∙ there n e.0 e.1 q apart, ap (λ b. cond b (Some e.1) (find text_cmp q es)) apart ∙ w.1))
      (same_or_not q e.0))
      (get_with_all m (insert n e.0 e.1) es all.1 q)

  pub all_again : (m : FinMap text_cmp X) → with_all empty (entries m) ≡ m
  all_again m = same_map nat_list_cmp_total exact (with_all empty (entries m)) m (λ q. ⊎_elim (λ is. is) (λ w. w.0 ∙ get-empty text_cmp q ∙ sym (get-entries m q ∙ w.1)) (get_with_all m empty (entries m) (own_entries m) q))

  -- what is put is not lost
  kept : (n : FinMap text_cmp X) (es : List (List ℕ × X)) (q : List ℕ) → get (with_all n es) q ≡ None → get n q ≡ None
  kept n [] q none = none
  kept n (e ∷ es) q none =
      let before : get (insert n e.0 e.1) q ≡ None = kept (insert n e.0 e.1) es q none in
      ⊎_elim (λ same. absurd (let some : Some e.1 ≡ None = sym (ap (get (insert n e.0 e.1)) same ∙ here n e.0 e.1) ∙ before in cc)) (λ apart. sym (there n e.0 e.1 q apart) ∙ before) (same_or_not q e.0)

  pub none_in : (q : List ℕ) (es : List (List ℕ × X)) → NotIn q (map (λ e. e.0) es) → find text_cmp q es ≡ None
  none_in q [] apart = refl
  none_in q (e ∷ es) apart = ap (λ b. cond b (Some e.1) (find text_cmp q es)) apart.0 ∙ none_in q es apart.1
