-- Small projects.
use Rattle.std.proofs.Common.{◌≡◌, ◌∙◌, sym, ap, subst, refl, ℕ, ◌+◌, ◌-◌, ◌≤◌, Bool, true, false, not, cond, T, List, [], ◌∷◌, length, filter, arith}
use Rattle.std.specs.List.{AllByRecursion}
use Rattle.std.specs.Ordering.{eq_by_cmp}
use Rattle.std.specs.declared.cmp.Ordering.TheVariants.{Less, Equal, Greater}
use Rattle.std.specs.Cmp.Lexicographic.{nat_list_cmp_total}
use Rattle.std.specs.FinMap.Entries.{by_order, where_key, is_sorted-where_key}
use Rattle.std.specs.FinMap.{entries, insert, remove, put, len, contains_key, empty, entries-insert, len-entries, len-insert, len-remove, entries_sorted, from_sorted, entries-from_sorted, same_entries_map}
use Rattle.core_steps.specs.Durable.{text_cmp, ProjectMap, IsSmallProject}
use Rattle.core_steps.specs.Editing.{IsFullFor}
use Rattle.core_steps.proofs.NameMaps.{entries-empty}
use Rattle.core_steps.proofs.SortedMaps.{dropped, dropped_sorted}

abbrev Short : List ℕ × List ℕ → Type 0
Short entry = length entry.1 ≤ 65536

put_short : (name text : List ℕ) (es : List (List ℕ × List ℕ)) → length text ≤ 65536 → AllByRecursion Short es → AllByRecursion Short (put text_cmp name text es)
put_short name text [] short all = (short, tt)
put_short name text (e ∷ es) short all =
    elim (text_cmp name e.0) as (λ o. AllByRecursion Short (by_order o ((name, text) ∷ e ∷ es) ((e.0, text) ∷ es) (e ∷ put text_cmp name text es))) [
      | Less ↦ (short, all)
      | Equal ↦ (short, all.1)
      | Greater ↦ (all.0, put_short name text es short all.1)
    ]

-- a small project has at most 256 components
pub len_small : (project : ProjectMap) → IsSmallProject project → len project ≤ 256
len_small project small = omega (arith, len-entries project, small.0)

-- a project stays small when a short text is put into it and it isn't full
pub put_small : (project : ProjectMap) (name text : List ℕ) → IsSmallProject project → length text ≤ 65536 → (IsFullFor project name → ⊥) → IsSmallProject (insert project name text)
put_small project name text small short room = (
  omega (arith, len-entries (insert project name text), by (contains_key project name) refl),
  subst (AllByRecursion Short) (sym (entries-insert nat_list_cmp_total project name text)) (put_short name text (entries project) short small.1),
) where
  by : (b : Bool) → contains_key project name ≡ b → len (insert project name text) ≤ 256
  by true there = rw (len-insert nat_list_cmp_total project name text, there) (len_small project small)
  by false new =
      rw (len-insert nat_list_cmp_total project name text, new)
      (omega (arith, len_small project small, λ (full : 256 ≤ len project). room (new, full)))

kept_short : (p : List ℕ → Bool) (es : List (List ℕ × List ℕ)) → AllByRecursion Short es → AllByRecursion Short (where_key text_cmp p es)
kept_short p [] all = tt
kept_short p (e ∷ es) all =
    elim (p e.0) as (λ b. AllByRecursion Short (cond b (e ∷ where_key text_cmp p es) (where_key text_cmp p es))) [
      | true ↦ (all.0, kept_short p es all.1)
      | false ↦ kept_short p es all.1
    ]

abbrev other_than : List ℕ → List ℕ → Bool
other_than name x = not (eq_by_cmp text_cmp name x)

-- the components that a removal leaves
entries-remove : (project : ProjectMap) (name : List ℕ) → entries (remove project name) ≡ where_key text_cmp (other_than name) (entries project)
entries-remove project name =
    let es = entries project in
    let sorted = entries_sorted project in
    let same : from_sorted {R = text_cmp} es ≡ project = same_entries_map _ _ (entries-from_sorted text_cmp es sorted) in
    ap (λ m. entries (remove m name)) (sym same)
    ∙ ap entries (sym (dropped es sorted name))
    ∙ entries-from_sorted text_cmp (where_key text_cmp (other_than name) es) (dropped_sorted es sorted name)

fewer : (b : Bool) (n : ℕ) → cond b (n - 1) n ≤ n
fewer true n = omega arith
fewer false n = omega arith

-- a project stays small when a component is removed
pub remove_small : (project : ProjectMap) (name : List ℕ) → IsSmallProject project → IsSmallProject (remove project name)
remove_small project name small = (
  omega (arith, len-entries (remove project name), len-remove nat_list_cmp_total project name, fewer (contains_key project name) (len project), len_small project small),
  subst (AllByRecursion Short) (sym (entries-remove project name)) (kept_short (other_than name) (entries project) small.1),
)

-- the empty project is small
pub empty_small : IsSmallProject (empty {X = List ℕ} {R = text_cmp})
empty_small = rw (entries-empty {X = List ℕ}) (omega arith, tt)
