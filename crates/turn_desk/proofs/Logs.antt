-- Beginnings of a log, and the entries of one chair.
use Rattle.std.proofs.Common.{Option as Maybe, Some, None, length-append, ◌≡◌, ◌≢◌, ℕ, zero, suc, ◌<◌, ◌≤◌, eqb, cond, List, [], ◌∷◌, ◌++◌, length, sym, refl, ap, ◌∙◌, subst, inl, inr, arith, ne_eqb, eq-eqb}
use Rattle.std.proofs.lemmas.List.{append-nil, append_assoc}
use Rattle.std.proofs.lemmas.List.Elements.{filter-append}
use Rattle.std.specs.List.{cons_option}
use mathlib.Core.Option.{some, some-ne-none}
use lib.ListN.{get_elem?}
use Rattle.atomic_table.proofs.Lists.{at_last, at_longer}
use Rattle.turn_desk.specs.Log.{IsPrefix, entries_of, Grows, HasSeen, Joined}

pub at_inside : {A : Type 0} → (l : List A) (i : ℕ) (a : A) → get_elem? l i ≡ some a → i < length l
at_inside [] i a e = absurd (some-ne-none a (sym e))
at_inside (x ∷ xs) zero a e = omega arith
at_inside (x ∷ xs) (suc i) a e = let h = at_inside xs i a e in omega arith

abbrev first_or : {A : Type 0} → A → List A → A
first_or d [] = d
first_or d (x ∷ xs) = x

abbrev tail : {A : Type 0} → List A → List A
tail [] = []
tail (x ∷ xs) = xs

module _ {E : Type 0} where
  pub begins_all : (xs : List E) → IsPrefix xs xs
  begins_all xs = ([], sym (append-nil xs))

  pub begins_none : (xs : List E) → IsPrefix [] xs
  begins_none xs = (xs, refl)

  pub begins_more : (xs ys added : List E) → IsPrefix xs ys → IsPrefix xs (ys ++ added)
  begins_more xs ys added h = (h.0 ++ added, ap (λ l. l ++ added) h.1 ∙ append_assoc xs h.0 added)

  pub begins_then : (xs ys zs : List E) → IsPrefix xs ys → IsPrefix ys zs → IsPrefix xs zs
  begins_then xs ys zs h k = subst (IsPrefix xs) (sym k.1) (begins_more xs ys k.0 h)

  module _ (chair_of : E → ℕ) where
    pub entries_both : (k : ℕ) (xs ys : List E) → entries_of chair_of k (xs ++ ys) ≡ entries_of chair_of k xs ++ entries_of chair_of k ys
    entries_both k xs ys = filter-append (λ e. eqb (chair_of e) k) xs ys

    -- entries of others add nothing
    pub entries_same : (k : ℕ) (xs ys : List E) → entries_of chair_of k ys ≡ [] → entries_of chair_of k (xs ++ ys) ≡ entries_of chair_of k xs
    entries_same k xs ys h = entries_both k xs ys ∙ (ap (λ l. entries_of chair_of k xs ++ l) h ∙ append-nil (entries_of chair_of k xs))

    pub entries_one : (k : ℕ) (e : E) → chair_of e ≡ k → entries_of chair_of k (e ∷ []) ≡ e ∷ []
    entries_one k e is = ap (λ b. cond b (e ∷ []) []) (eq-eqb (chair_of e) k is)

    pub entries_other : (k : ℕ) (e : E) → chair_of e ≢ k → entries_of chair_of k (e ∷ []) ≡ []
    entries_other k e is = ap (λ b. cond b (e ∷ []) []) (ne_eqb (chair_of e) k is)

    -- what a chair adds is at most one entry, and none of another chair
    pub grows_by : (k : ℕ) (xs ys : List E) → Grows chair_of k xs ys → (u : Maybe E) × (ys ≡ xs ++ cons_option u []) × ((j : ℕ) → j ≢ k → entries_of chair_of j (cons_option u []) ≡ [])
    grows_by k xs ys (inl same) = (None, same ∙ sym (append-nil xs), λ j n. refl)
    grows_by k xs ys (inr more) = (Some more.0, more.2, λ j n. entries_other j more.0 (λ is. n (sym is ∙ more.1)))

    none_left : (xs ys : List E) → xs ++ ys ≡ xs → ys ≡ []
    none_left xs [] e = refl
    none_left xs (y ∷ ys) e = absurd (let h : length (xs ++ y ∷ ys) ≡ length xs = ap length e in omega (arith, length-append xs (y ∷ ys)))

    no_first : (xs ys : List E) → xs ++ ys ≡ [] → xs ≡ []
    no_first [] ys e = refl
    no_first (x ∷ xs) ys e = absurd (let h : length ((x ∷ xs) ++ ys) ≡ 0 = ap length e in omega (arith, length-append (x ∷ xs) ys))

    -- the rest of a list, all of whose entries of the chair stand in the beginning, has none of it
    pub rest_quiet : (k : ℕ) (xs rest : List E) → entries_of chair_of k (xs ++ rest) ≡ entries_of chair_of k xs → entries_of chair_of k rest ≡ []
    rest_quiet k xs rest e = none_left (entries_of chair_of k xs) (entries_of chair_of k rest) (sym (entries_both k xs rest) ∙ e)

    -- a list between two that have the same entries of the chair has them too
    pub entries_between : (k : ℕ) (xs ys zs : List E) → IsPrefix xs ys → IsPrefix ys zs → entries_of chair_of k zs ≡ entries_of chair_of k xs → entries_of chair_of k ys ≡ entries_of chair_of k xs
    entries_between k xs ys zs h g e =
        let whole : zs ≡ xs ++ (h.0 ++ g.0) = g.1 ∙ (ap (λ l. l ++ g.0) h.1 ∙ append_assoc xs h.0 g.0) in
        let quiet = rest_quiet k xs (h.0 ++ g.0) (sym (ap (entries_of chair_of k) whole) ∙ e) in
        let mid : entries_of chair_of k h.0 ≡ [] = no_first (entries_of chair_of k h.0) (entries_of chair_of k g.0) (sym (entries_both k h.0 g.0) ∙ quiet) in
        ap (entries_of chair_of k) h.1 ∙ entries_same k xs h.0 mid

    -- what was seen before that is seen too
    pub seen_then : (k : ℕ) (xs ys zs : List E) → HasSeen chair_of k xs ys → HasSeen chair_of k ys zs → HasSeen chair_of k xs zs
    seen_then k xs ys zs h g = (begins_then xs ys zs h.0 g.0, g.1 ∙ h.1)

    -- a beginning of a list with no entry of the chair has none
    pub entries_none : (k : ℕ) (xs ys : List E) → IsPrefix xs ys → entries_of chair_of k ys ≡ [] → entries_of chair_of k xs ≡ []
    entries_none k xs ys h e = no_first (entries_of chair_of k xs) (entries_of chair_of k h.0) (sym (entries_both k xs h.0) ∙ (sym (ap (entries_of chair_of k) h.1) ∙ e))

    -- a list with no entry of any chair is empty
    pub quiet_empty : (xs : List E) → ((k : ℕ) → entries_of chair_of k xs ≡ []) → xs ≡ []
    quiet_empty [] h = refl
    quiet_empty (e ∷ es) h = absurd (let n : length (entries_of chair_of (chair_of e) (e ∷ es)) ≡ 0 = ap length (h (chair_of e)) in
        let one : entries_of chair_of (chair_of e) (e ∷ es) ≡ e ∷ entries_of chair_of (chair_of e) es = ap (λ b. cond b (e ∷ entries_of chair_of (chair_of e) es) (entries_of chair_of (chair_of e) es)) (eq-eqb (chair_of e) (chair_of e) refl) in
        let m : length (entries_of chair_of (chair_of e) (e ∷ es)) ≡ length (e ∷ entries_of chair_of (chair_of e) es) = ap length one in omega arith)

  -- of two beginnings of one list, the one that is no longer begins the other
  pub begins_other : (xs ys zs : List E) → IsPrefix xs zs → IsPrefix ys zs → length xs ≤ length ys → IsPrefix xs ys
  begins_other [] ys zs h g le = begins_none ys
  begins_other (x ∷ xs) [] zs h g le = absurd (omega arith)
  begins_other (x ∷ xs) (y ∷ ys) [] h g le = absurd (let n : length {A = E} [] ≡ length {A = E} (x ∷ (xs ++ h.0)) = ap length h.1 in omega arith)
  begins_other (x ∷ xs) (y ∷ ys) (z ∷ zs) h g le =
      let head : y ≡ x = ap (first_or x) (sym g.1) ∙ ap (first_or x) h.1 in
      let t = begins_other xs ys zs (h.0, ap tail h.1) (g.0, ap tail g.1) (omega arith) in
      (t.0, λ i. head i ∷ t.1 i)

  -- a chair that was taken in last is among the joined ones
  pub joined_new : (js : List (ℕ × List E)) (k : ℕ) (own : List E) → Joined (js ++ (k, own) ∷ []) k own
  joined_new js k own = (length js, at_last js (k, own) (length js) refl)

  -- and so are those that were
  pub joined_still : (js : List (ℕ × List E)) (x : ℕ × List E) (k : ℕ) (own : List E) → Joined js k own → Joined (js ++ x ∷ []) k own
  joined_still js x k own h = (h.0, at_longer js (x ∷ []) h.0 (k, own) h.1)
