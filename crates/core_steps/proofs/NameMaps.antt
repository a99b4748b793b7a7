-- Maps from names, by the entries of the tree that keeps them.
use Rattle.std.proofs.Common.{◌≡◌, ◌∙◌, sym, ap, subst, refl, ℕ, Bool, true, false, ◌&&◌, T, ◌++◌, cond, List, [], ◌∷◌, length, arith}
use Rattle.std.proofs.lemmas.Slice.Eq.{bytes_eq-Decides}
use Rattle.std.specs.Prelude.{Some, None, bytes_eq}
use Rattle.std.specs.List.{AllByRecursion, IsDistinct}
use Rattle.std.specs.List.Sorted.{IsStrictlySortedBy}
use Rattle.std.specs.Map.{keys_of, lookup}
use Rattle.std.specs.BTreeMap.{is_at}
use Rattle.std.specs.Ordering.{eq_by_cmp, is_eq, is_lt, ordering_reverse}
use Rattle.std.specs.declared.cmp.Ordering.{Ordering}
use Rattle.std.specs.declared.cmp.Ordering.TheVariants.{Less, Equal, Greater}
use Rattle.std.specs.Cmp.{eq_by_cmp_equiv, tied_itself}
use Rattle.std.specs.Cmp.Lexicographic.{nat_list_cmp_total}
use Rattle.std.specs.FinMap.Entries.{below_all}
use Rattle.std.specs.FinMap.{FinMap, is_sorted, entries_sorted, same_entries_map, from_entries_push, find, put, get, insert, empty, from_entries, entries, entries-insert, len-entries, len-empty, get-from_entries, get-insert, same_map, slice_cmp-IsAntisymmetric, nat_cmp-IsAntisymmetric}
use Rattle.core_steps.specs.Durable.{text_cmp}

-- names that compare equal are the same
pub same_name : (x y : List ℕ) → text_cmp x y ≡ Equal → x ≡ y
same_name = slice_cmp-IsAntisymmetric nat_cmp-IsAntisymmetric

no_length : {A : Type 0} (xs : List A) → length xs ≡ 0 → xs ≡ []
no_length [] e = refl
no_length (x ∷ xs) e = absurd (omega arith)

pub entries-empty : {X : Type 0} → entries (empty {X = X} {R = text_cmp}) ≡ []
entries-empty {X} = no_length _ (sym (len-entries (empty {X = X} {R = text_cmp})) ∙ len-empty text_cmp X)

both : (a b : Bool) → T a → T b → T (a && b)
both true b p q = q
both false b p q = p

first : (a b : Bool) → T (a && b) → T a
first true b p = tt
first false b p = p

second : (a b : Bool) → T (a && b) → T b
second true b p = p
second false b p = absurd p

less_of : (o : Ordering) → T (is_lt o) → o ≡ Less
less_of Less p = refl
less_of Equal p = absurd p
less_of Greater p = absurd p

equal_of : (r : Ordering) → is_eq r ≡ true → r ≡ Equal
equal_of Less e = cc
equal_of Equal e = cc
equal_of Greater e = cc

false_of : (b : Bool) → (b ≡ true → ⊥) → b ≡ false
false_of true n = absurd (n refl)
false_of false n = refl

-- a name that comes before another one differs from it
later_apart : (x y : List ℕ) → text_cmp x y ≡ Less → eq_by_cmp text_cmp y x ≡ false
later_apart x y less = ap is_eq (nat_list_cmp_total.antisymm y x ∙ ap ordering_reverse less)

later_differs : (x y : List ℕ) → text_cmp x y ≡ Less → bytes_eq x y ≡ false
later_differs x y less = false_of (bytes_eq x y) (λ same.
    let tied : text_cmp x y ≡ Equal = subst (λ z. text_cmp x z ≡ Equal) ((bytes_eq-Decides x y).0 same) (tied_itself nat_list_cmp_total x) in
    let no : Less ≡ Equal = sym less ∙ tied in cc)

module _ {X : Type 0} where
  pub lookup_find : (q : List ℕ) (es : List (List ℕ × X)) → lookup (is_at (text_cmp q)) es ≡ find text_cmp q es
  lookup_find q [] = refl
  lookup_find q (e ∷ es) = ap (λ rest. cond (eq_by_cmp text_cmp q e.0) (Some e.1) rest) (lookup_find q es)

  -- what the tree has at a name is what the map has
  pub got : (q : List ℕ) (es : List (List ℕ × X)) → lookup (is_at (text_cmp q)) es ≡ get (from_entries {R = text_cmp} es) q
  got q es = lookup_find q es ∙ sym (get-from_entries nat_list_cmp_total es q)

  -- entries that are updated at a name are those of the map with the new value there
  pub inserted : (k : List ℕ) (v : X) (es fs : List (List ℕ × X)) →
      ((q : List ℕ) → lookup (is_at (text_cmp q)) fs ≡ cond (is_at (text_cmp k) q) (Some v) (lookup (is_at (text_cmp q)) es)) →
      from_entries {R = text_cmp} fs ≡ insert (from_entries es) k v
  inserted k v es fs is = same_map nat_list_cmp_total same_name _ _ (λ q.
      sym (got q fs) ∙ is q ∙ ap (λ o. cond (is_at (text_cmp k) q) (Some v) o) (got q es)
      ∙ ap (λ b. cond b (Some v) (get (from_entries {R = text_cmp} es) q)) ((eq_by_cmp_equiv nat_list_cmp_total).symm k q)
      ∙ sym (get-insert nat_list_cmp_total (from_entries es) k v q))

  below_of : (x : List ℕ) (es : List (List ℕ × X)) → AllByRecursion (λ y. text_cmp x y ≡ Less) (keys_of es) → T (below_all text_cmp x es)
  below_of x [] below = tt
  below_of x (e ∷ es) below = both _ _ (rw below.0 tt) (below_of x es below.1)

  -- keys that ascend are sorted
  pub sorted_of : (es : List (List ℕ × X)) → IsStrictlySortedBy text_cmp (keys_of es) → T (is_sorted text_cmp es)
  unfolding IsStrictlySortedBy
  sorted_of [] sorted = tt
  sorted_of (e ∷ es) sorted = both _ _ (below_of e.0 es sorted.0) (sorted_of es sorted.1)

  put_first : (k : List ℕ) (v : X) (es : List (List ℕ × X)) → T (below_all text_cmp k es) → put text_cmp k v es ≡ (k, v) ∷ es
  put_first k v [] below = refl
  put_first k v (e ∷ es) below = rw (less_of (text_cmp k e.0) (first _ _ below)) refl

  -- entries in order are those of their map
  pub in_order : (es : List (List ℕ × X)) → T (is_sorted text_cmp es) → entries (from_entries {R = text_cmp} es) ≡ es
  in_order [] sorted = entries-empty
  in_order (e ∷ es) sorted =
      entries-insert nat_list_cmp_total (from_entries es) e.0 e.1
      ∙ ap (put text_cmp e.0 e.1) (in_order es (second _ _ sorted))
      ∙ put_first e.0 e.1 es (first _ _ sorted)

  -- a map is that of its entries
  pub from_its_entries : (m : FinMap text_cmp X) → from_entries {R = text_cmp} (entries m) ≡ m
  from_its_entries m = same_entries_map _ m (in_order (entries m) (entries_sorted m))

  -- what was set at a name is found there
  pub get_same : (m : FinMap text_cmp X) (name : List ℕ) (x : X) → get (insert m name x) name ≡ Some x
  get_same m name x = get-insert nat_list_cmp_total m name x name ∙ ap (λ b. cond b (Some x) (get m name)) ((eq_by_cmp_equiv nat_list_cmp_total).refl name)

  below_at : (x : List ℕ) (done : List (List ℕ × X)) (e : List ℕ × X) (rest : List (List ℕ × X)) → T (below_all text_cmp x (done ++ e ∷ rest)) → text_cmp x e.0 ≡ Less
  below_at x [] e rest below = less_of _ (first _ _ below)
  below_at x (d ∷ done) e rest below = below_at x done e rest (second _ _ below)

  -- a name behind others, in order, isn't one of them
  pub not_before : (done : List (List ℕ × X)) (e : List ℕ × X) (rest : List (List ℕ × X)) → T (is_sorted text_cmp (done ++ e ∷ rest)) → find text_cmp e.0 done ≡ None
  not_before [] e rest sorted = refl
  not_before (d ∷ done) e rest sorted =
      rw (later_apart d.0 e.0 (below_at d.0 done e rest (first _ _ sorted))) (not_before done e rest (second _ _ sorted))

  -- the next of a map's entries is inserted into the map of those before
  pub next_inserted : (m : FinMap text_cmp X) (done : List (List ℕ × X)) (e : List ℕ × X) (rest : List (List ℕ × X)) → done ++ e ∷ rest ≡ entries m →
      from_entries {R = text_cmp} (done ++ e ∷ []) ≡ insert (from_entries done) e.0 e.1
  next_inserted m done e rest is =
      from_entries_push nat_list_cmp_total same_name done e.0 e.1 (not_before done e rest (subst (λ es. T (is_sorted text_cmp es)) (sym is) (entries_sorted m)))

  -- another name is found as before
  pub get_other : (m : FinMap text_cmp X) (name other : List ℕ) (x : X) → (other ≡ name → ⊥) → get (insert m name x) other ≡ get m other
  get_other m name other x apart =
      get-insert nat_list_cmp_total m name x other
      ∙ ap (λ b. cond b (Some x) (get m other)) (false_of (eq_by_cmp text_cmp other name) (λ e. apart (same_name other name (equal_of _ e))))

  later_differ : (x : List ℕ) (es : List (List ℕ × X)) → T (below_all text_cmp x es) → AllByRecursion (λ y. bytes_eq x y ≡ false) (keys_of es)
  later_differ x [] below = tt
  later_differ x (e ∷ es) below = (later_differs x e.0 (less_of _ (first _ _ below)), later_differ x es (second _ _ below))

  sorted_differ : (es : List (List ℕ × X)) → T (is_sorted text_cmp es) → IsDistinct bytes_eq (keys_of es)
  unfolding IsDistinct
  sorted_differ [] sorted = tt
  sorted_differ (e ∷ es) sorted = (later_differ e.0 es (first _ _ sorted), sorted_differ es (second _ _ sorted))

  -- a map has each name once
  pub names_differ : (m : FinMap text_cmp X) → IsDistinct bytes_eq (keys_of (entries m))
  names_differ m = sorted_differ (entries m) (entries_sorted m)
