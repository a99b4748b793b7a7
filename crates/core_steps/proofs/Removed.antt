-- Maps without what they have at many names.
use Rattle.std.proofs.Common.{◌≡◌, ◌∙◌, sym, ap, refl, ℕ, ◌+◌, ◌≤◌, Bool, true, false, not, ◌&&◌, ◌||◌, ⊎_elim, cond, T, List, [], ◌∷◌, length, get_or, arith}
use Rattle.std.specs.Prelude.{Result, Ok, Err, is_err}
use Rattle.std.specs.List.{list_any}
use Rattle.std.specs.List.Sorted.{IsBinarySearchResult, IsSearchInRange}
use Rattle.std.specs.Ordering.{eq_by_cmp, is_eq, is_le, ordering_index}
use Rattle.std.specs.declared.cmp.Ordering.{Ordering}
use Rattle.std.specs.declared.cmp.Ordering.TheVariants.{Less, Equal, Greater}
use Rattle.std.specs.Cmp.{alike_right}
use Rattle.std.specs.Cmp.Lexicographic.{nat_list_cmp_total}
use Rattle.std.specs.FinMap.{is_sorted, from_sorted}
use Rattle.std.specs.FinMap.Entries.{where_key}
use Rattle.std.proofs.lemmas.Bool.{cases_lt}
use Rattle.std.proofs.lemmas.List.Folds.{list_any_at, list_any_none}
use Rattle.std.proofs.lemmas.List.Sorted.{IsNonDecreasingBy-from_all_adjacent}
use Rattle.core_steps.specs.Durable.{text_cmp}
use Rattle.core_steps.specs.PrivateNames.{AreAscending, is_none_of}
use Rattle.core_steps.specs.State.{without_all}
use Rattle.core_steps.proofs.SortedMaps.{dropped, dropped_sorted}

-- ONE PASS

neither : (a b : Bool) → not a && not b ≡ not (a || b)
neither true b = refl
neither false b = refl

module _ {X : Type 0} where
  pick : (p : List ℕ → Bool) (e : List ℕ × X) (ws vs : List (List ℕ × X)) → where_key text_cmp p ws ≡ vs → (b : Bool) →
      where_key text_cmp p (cond b (e ∷ ws) ws) ≡ cond (b && p e.0) (e ∷ vs) vs
  pick p e ws vs rest true = ap (λ t. cond (p e.0) (e ∷ t) t) rest
  pick p e ws vs rest false = rest

  twice : (p q : List ℕ → Bool) (es : List (List ℕ × X)) → where_key text_cmp p (where_key text_cmp q es) ≡ where_key text_cmp (λ x. q x && p x) es
  twice p q [] = refl
  twice p q (e ∷ es) = pick p e (where_key text_cmp q es) (where_key text_cmp (λ x. q x && p x) es) (twice p q es) (q e.0)

  all_kept : (es : List (List ℕ × X)) → where_key text_cmp (is_none_of []) es ≡ es
  all_kept [] = refl
  all_kept (e ∷ es) = ap (λ t. e ∷ t) (all_kept es)

  -- removals one after another are one pass
  pub removed : (es : List (List ℕ × X)) → T (is_sorted text_cmp es) → (names : List (List ℕ)) →
      from_sorted {R = text_cmp} (where_key text_cmp (is_none_of names) es) ≡ without_all (from_sorted es) names
  removed es sorted [] = ap (λ fs. from_sorted {R = text_cmp} fs) (all_kept es)
  removed es sorted (name ∷ names) =
      let other : List ℕ → Bool = λ q. not (eq_by_cmp text_cmp name q) in
      ap (λ fs. from_sorted {R = text_cmp} fs)
      (ap (λ p. where_key text_cmp p es) (λ i q. sym (neither (eq_by_cmp text_cmp name q) (list_any (λ n. eq_by_cmp text_cmp n q) names)) i)
      ∙ sym (twice (is_none_of names) other es))
      ∙ removed (where_key text_cmp other es) (dropped_sorted es sorted name) names
      ∙ ap (λ m. without_all m names) (dropped es sorted name)

-- SEARCH

at_most : (r : Ordering) → ordering_index r ≤ 2
at_most Less = omega arith
at_most Equal = omega arith
at_most Greater = omega arith

-- the answers at names that don't fall don't fall
higher : (x a b : List ℕ) (r s : Ordering) → text_cmp a b ≡ r → text_cmp b x ≡ s → is_le r ≡ true → ordering_index (text_cmp a x) ≤ ordering_index s
higher x a b Equal s e f le = rw (nat_list_cmp_total.congr a b x e ∙ f) (omega arith)
higher x a b Less Less e f le = rw (nat_list_cmp_total.trans a b x e f) (omega arith)
higher x a b Less Equal e f le = rw (sym (alike_right nat_list_cmp_total b x a f) ∙ e) (omega arith)
higher x a b Less Greater e f le = at_most (text_cmp a x)
higher x a b Greater s e f le = let no : false ≡ true = le in cc

-- a search in names in byte order tells whether a name is none of them
pub searched : (names : List (List ℕ)) (q : List ℕ) (r : Result ℕ ℕ) → AreAscending names →
    IsSearchInRange r (length names) → IsBinarySearchResult (λ y. text_cmp y q) names r → is_err r ≡ is_none_of names q
searched names q (Ok i) sorted lt at = sym (ap not (list_any_at (λ name. eq_by_cmp text_cmp name q) names i q lt (ap is_eq (at q))))
searched names q (Err i) sorted le at =
    let parts = at (IsNonDecreasingBy-from_all_adjacent (λ y. ordering_index (text_cmp y q)) names (λ k d lt. higher q (get_or names k d) (get_or names (k + 1) d) _ _ refl refl (sorted k d lt))) in
    sym (ap not (list_any_none (λ name. eq_by_cmp text_cmp name q) names (λ k d lt.
    ⊎_elim (λ before. ap is_eq (parts.0 k d (omega arith) before)) (λ behind. ap is_eq (parts.1 k d behind lt)) (cases_lt k i))))
