-- Which places have a type of values.
use Rattle.std.proofs.Common.{◌≡◌, ◌≢◌, ℕ, ◌+◌, ◌<◌, ◌≤◌, Bool, true, false, ◌&&◌, List, inl, inr, length, set, refl, sym, ap, ◌∙◌, subst, arith, get_or-set_same, get_or-set_other, length-set}
use Rattle.std.proofs.lemmas.Bool.{cases_eq}
use Rattle.formula_core.specs.declared.ty.Ty.{Ty}
use Rattle.formula_core.specs.Types.{is_value_type}
use Rattle.unification.specs.declared.graph.Node.{Node}
use Rattle.unification.specs.declared.graph.Node.TheVariants.{Free, Int, Bool as BoolN, Truth, Given, Pow, Pair, Same}
use Rattle.unification.specs.PrivateGraph.{node_at, node_parts, AllParts}
use Rattle.unification.specs.PrivateOrder.{ordered_at, IsAmongFirst, IsInOrder, IsOrder, sort_at, sort_of, IsFine, HasSorts, HasWrongSort}
use Rattle.unification.proofs.Terms.{value-Int, value-Bool, value-Truth, value-Given, value-Pow, value-Pair}
use Rattle.unification.proofs.Forms.{Says}
use Rattle.unification.proofs.Places.{all_parts}

abbrev pub SortFits : List Node → ℕ → Bool → Type 0
SortFits ns k b = (u : ℕ → Ty) → IsFine u ns → is_value_type (u k) ≡ b

form_sort : (ns : List Node) (ss : List Bool) (k : ℕ) (x : Node) → ((u : ℕ → Ty) → IsFine u ns → Says u k x) → ((u : ℕ → Ty) → IsFine u ns → x ≡ Free → is_value_type (u k) ≡ true) → AllParts (λ a. SortFits ns a (sort_at ss a)) (node_parts x) → SortFits ns k (sort_of ss x)
form_sort ns ss k Free says free p u f = free u f refl
form_sort ns ss k Int says free p u f = ap is_value_type (says u f) ∙ value-Int
form_sort ns ss k BoolN says free p u f = ap is_value_type (says u f) ∙ value-Bool
form_sort ns ss k Truth says free p u f = ap is_value_type (says u f) ∙ value-Truth
form_sort ns ss k (Given name) says free p u f = ap is_value_type (says u f) ∙ value-Given name
form_sort ns ss k (Pow a) says free p u f = ap is_value_type (says u f) ∙ value-Pow (u a) ∙ p u f
form_sort ns ss k (Pair a b) says free p u f = ap is_value_type (says u f) ∙ value-Pair (u a) (u b) ∙ (λ i. p.0 u f i && p.1 u f i)
form_sort ns ss k (Same a) says free p u f = ap is_value_type (says u f) ∙ p u f

-- how far the order has come
pub record Sorting (ns : List Node) (order : List ℕ) (n : ℕ) (ss : List Bool) (i : ℕ) : Type 0 where
  pub long : length ss ≡ length ns
  pub known : (j : ℕ) → j < i → SortFits ns (ordered_at order j) (sort_at ss (ordered_at order j))
  pub right : (j : ℕ) → j < i → ordered_at order j < n → sort_at ss (ordered_at order j) ≡ true

pub Sorting-start : (ns : List Node) (order : List ℕ) (n : ℕ) (ss : List Bool) → length ss ≡ length ns → Sorting ns order n ss 0
Sorting-start ns order n ss long = record { long = long; known = λ j h. absurd (omega arith); right = λ j h. absurd (omega arith) }

-- the sort of the next place in the order
pub next_sort : (ns : List Node) (order : List ℕ) (n : ℕ) (ss : List Bool) (i : ℕ) → IsInOrder ns order → i < length order → Sorting ns order n ss i → SortFits ns (ordered_at order i) (sort_of ss (node_at ns (ordered_at order i)))
next_sort ns order n ss i ordered h s =
    let o = ordered_at order i in
    form_sort ns ss o (node_at ns o) (λ u f. f.holds o) (λ u f q. f.free o q)
    (all_parts (IsAmongFirst order i) (λ a. SortFits ns a (sort_at ss a)) (node_parts (node_at ns o)) (λ a l. subst (λ k. SortFits ns k (sort_at ss k)) l.2 (s.known l.0 l.1)) (ordered.parts i h))

pub Sorting-step : (ns : List Node) (order : List ℕ) (n : ℕ) (ss new : List Bool) (i : ℕ) (b : Bool) → IsInOrder ns order → i < length order → Sorting ns order n ss i → b ≡ sort_of ss (node_at ns (ordered_at order i)) → (ordered_at order i < n → b ≡ true) → new ≡ set ss (ordered_at order i) b → Sorting ns order n new (i + 1)
Sorting-step ns order n ss new i b ordered h s is right e =
    let o = ordered_at order i in
    let inside : o < length ss = let l = s.long in let k = ordered.inside i h in omega arith in
    let own : sort_at new o ≡ b = ap (λ x. sort_at x o) e ∙ get_or-set_same ss o b true inside in
    let others : (k : ℕ) → k ≢ o → sort_at new k ≡ sort_at ss k = λ k ne. ap (λ x. sort_at x k) e ∙ get_or-set_other ss o k b true ne in
    let fits : SortFits ns o (sort_at new o) = subst (SortFits ns o) (sym (own ∙ is)) (next_sort ns order n ss i ordered h s) in
    record {
      long = ap length e ∙ length-set ss o b ∙ s.long;
      known = λ j l. elim (cases_eq (ordered_at order j) o) [
        | inl q ↦ subst (λ k. SortFits ns k (sort_at new k)) (sym q) fits
        | inr ne ↦ elim (cases_eq j i) [
          | inl q ↦ absurd (ne (ap (ordered_at order) q))
          | inr apart ↦ subst (SortFits ns (ordered_at order j)) (sym (others (ordered_at order j) ne)) (s.known j (omega arith))
        ]
      ];
      right = λ j l less. elim (cases_eq (ordered_at order j) o) [
        | inl q ↦ subst (λ k. k < n → sort_at new k ≡ true) (sym q) (λ m. own ∙ right m) less
        | inr ne ↦ elim (cases_eq j i) [
          | inl q ↦ absurd (ne (ap (ordered_at order) q))
          | inr apart ↦ others (ordered_at order j) ne ∙ s.right j (omega arith) less
        ]
      ];
    }

pub all_sorts : (ns : List Node) (order : List ℕ) (n : ℕ) (ss : List Bool) (i : ℕ) → IsOrder ns order → n ≤ length ns → length order ≤ i → Sorting ns order n ss i → HasSorts ns n
all_sorts ns order n ss i all count h s u f k less =
    let l = all.all k (omega arith) in
    let within = l.1 in
    let less_there : ordered_at order l.0 < n = subst (λ j. j < n) (sym l.2) less in
    subst (λ j. is_value_type (u j) ≡ true) l.2 (s.known l.0 (omega arith) u f ∙ s.right l.0 (omega arith) less_there)

pub wrong_sort : (ns : List Node) (order : List ℕ) (n : ℕ) (ss : List Bool) (i : ℕ) (b : Bool) → IsInOrder ns order → i < length order → Sorting ns order n ss i → b ≡ sort_of ss (node_at ns (ordered_at order i)) → b ≡ false → ordered_at order i < n → HasWrongSort ns n
wrong_sort ns order n ss i b ordered h s is wrong less u f proper =
    let a = next_sort ns order n ss i ordered h s u f in
    let c = proper (ordered_at order i) less in
    cc
