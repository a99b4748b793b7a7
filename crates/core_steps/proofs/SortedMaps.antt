-- Maps by their entries in order.
use Rattle.std.proofs.Common.{◌≡◌, ◌∙◌, sym, ap, subst, refl, ℕ, Bool, true, false, not, cond, T, List, [], length}
use Rattle.std.specs.Prelude.{Option, None, Result, Ok, Err, OnOk, OnErr}
use Rattle.std.specs.Ordering.{eq_by_cmp, is_eq}
use Rattle.std.specs.Cmp.{alike_right, eq_by_cmp_equiv}
use Rattle.std.specs.Cmp.Lexicographic.{nat_list_cmp_total}
use Rattle.std.specs.FinMap.{FinMap, is_sorted, find, put, entries, from_sorted, len, get, insert, remove, empty, len-entries, entries-from_sorted, entries-insert, get-from_sorted, get-remove, same_entries_map, same_map}
use Rattle.std.specs.FinMap.Entries.{where_key, is_sorted-put, is_sorted-where_key, find-where_key}
use Rattle.core_steps.specs.Durable.{text_cmp}
use Rattle.core_steps.proofs.NameMaps.{same_name, entries-empty}

pub sorted_empty : {X : Type 0} → from_sorted {X = X} {R = text_cmp} [] ≡ empty
sorted_empty = same_entries_map _ _ (entries-from_sorted text_cmp [] tt ∙ sym entries-empty)

module _ {X : Type 0} (es : List (List ℕ × X)) (sorted : T (is_sorted text_cmp es)) where
  pub its_entries : entries (from_sorted {R = text_cmp} es) ≡ es
  its_entries = entries-from_sorted text_cmp es sorted

  pub its_len : len (from_sorted {R = text_cmp} es) ≡ length es
  its_len = len-entries (from_sorted {R = text_cmp} es) ∙ ap length its_entries

  pub its_get : (q : List ℕ) → get (from_sorted {R = text_cmp} es) q ≡ find text_cmp q es
  its_get q = get-from_sorted text_cmp es q sorted

  pub put_sorted : (k : List ℕ) (v : X) → T (is_sorted text_cmp (put text_cmp k v es))
  put_sorted k v = is_sorted-put text_cmp nat_list_cmp_total k v es sorted

  pub put_inserted : (k : List ℕ) (v : X) → from_sorted {R = text_cmp} (put text_cmp k v es) ≡ insert (from_sorted es) k v
  put_inserted k v = same_entries_map _ _
      (entries-from_sorted text_cmp (put text_cmp k v es) (put_sorted k v) ∙ sym (entries-insert nat_list_cmp_total (from_sorted es) k v ∙ ap (put text_cmp k v) its_entries))

  pub dropped_sorted : (k : List ℕ) → T (is_sorted text_cmp (where_key text_cmp (λ x. not (eq_by_cmp text_cmp k x)) es))
  dropped_sorted k = is_sorted-where_key text_cmp (λ x. not (eq_by_cmp text_cmp k x)) es sorted

  turned : {A : Type 0} (b : Bool) (x y : A) → cond (not b) x y ≡ cond b y x
  turned true x y = refl
  turned false x y = refl

  pub dropped : (k : List ℕ) → from_sorted {R = text_cmp} (where_key text_cmp (λ x. not (eq_by_cmp text_cmp k x)) es) ≡ remove (from_sorted es) k
  dropped k = same_map nat_list_cmp_total same_name _ _ (λ q.
      get-from_sorted text_cmp _ q (dropped_sorted k)
      ∙ find-where_key text_cmp (λ x. not (eq_by_cmp text_cmp k x)) q (λ x t. ap (λ r. not (is_eq r)) (sym (alike_right nat_list_cmp_total q x k t))) es
      ∙ turned (eq_by_cmp text_cmp k q) (find text_cmp q es) None
      ∙ ap (λ b. cond b None (find text_cmp q es)) ((eq_by_cmp_equiv nat_list_cmp_total).symm k q)
      ∙ ap (cond (eq_by_cmp text_cmp q k) None) (sym (its_get q))
      ∙ sym (get-remove nat_list_cmp_total (from_sorted es) k q))

-- entries are in order after an edit that may be refused
pub sorted_after : {X A E : Type 0} (r : Result A E) (new es made : List (List ℕ × X)) → OnOk r (new ≡ made) → OnErr r (new ≡ es) →
    T (is_sorted text_cmp made) → T (is_sorted text_cmp es) → T (is_sorted text_cmp new)
sorted_after (Ok a) new es made ok err m s = subst (λ xs. T (is_sorted text_cmp xs)) (sym ok) m
sorted_after (Err e) new es made ok err m s = subst (λ xs. T (is_sorted text_cmp xs)) (sym err) s

pub on_ok : {A E : Type 0} (r : Result A E) (P Q : Type 0) → (P → Q) → OnOk r P → OnOk r Q
on_ok (Ok a) P Q f p = f p
on_ok (Err e) P Q f p = tt
