-- The forms that begin with one byte.
use Rattle.std.proofs.Common.{◌≡◌, ℕ, suc, zero, ◌+◌, ◌-◌, ◌<◌, ◌≤◌, ◌==◌, ◌&&◌, List, [], ◌∷◌, ◌++◌, length, take, drop, slice_index_or, true, false, not, Option, Some, None, refl, ap, subst, ◌∙◌, arith, nat_le}
use Rattle.std.specs.Prelude.{bytes_eq}
use Rattle.std.specs.Borrow.{Bor}
use Rattle.std.proofs.lemmas.Slice.Eq.{bytes_eq-Decides}
use Rattle.std.proofs.lemmas.Bool.{eq-eqb, leb-true}
use Rattle.std.proofs.lemmas.List.{map-append, take-append-drop}
use Rattle.math_tokens.specs.Lexemes.{Forms, sign_in}
use Rattle.math_tokens.specs.Private.{none_begins, is_group, are_groups, IsGroup, Best, table}
use Rattle.formula_core.specs.Texts.{begins_with}
use Rattle.math_tokens.proofs.Longest.{or_else-none, sign_in-append, false_from}
use Rattle.math_tokens.proofs.Fronts.{both}

abbrev Entries : Type 0
Entries = List (Bor (List ℕ) × ℕ)

-- the group of a byte is where the numbers say
at_byte : (entries : Entries) (b : ℕ) (starts : List ℕ) → are_groups entries b starts ≡ true → (i : ℕ) → i + 1 < length starts →
    is_group entries (b + i) (slice_index_or starts i 0) (slice_index_or starts (i + 1) 0) ≡ true
at_byte entries b [] h i short = absurd (omega arith)
at_byte entries b (from ∷ []) h i short = absurd (omega arith)
at_byte entries b (from ∷ (to ∷ starts)) h zero short =
    let none : b + 0 ≡ b = omega arith in
    rw none (both (is_group entries b from to) (are_groups entries (b + 1) (to ∷ starts)) h).0
at_byte entries b (from ∷ (to ∷ starts)) h (suc i) short =
    let later = at_byte entries (b + 1) (to ∷ starts) (both (is_group entries b from to) (are_groups entries (b + 1) (to ∷ starts)) h).1 i (omega arith) in
    let same : b + suc i ≡ b + 1 + i = omega arith in
    let next : suc i + 1 ≡ suc (i + 1) = omega arith in
    rw (same, next) later

module _ (b : ℕ) where
  other_front : (form cs : List ℕ) → not (begins_with b form) ≡ true → bytes_eq form (b ∷ cs) ≡ false
  other_front form cs h = false_from (bytes_eq form (b ∷ cs)) (λ t. (
      let is : form ≡ b ∷ cs = (bytes_eq-Decides form (b ∷ cs)).0 t in
      let starts : not (begins_with b (b ∷ cs)) ≡ true = subst (λ f. not (begins_with b f) ≡ true) is h in
      let same : (b == b) ≡ true = eq-eqb b b refl in
      cc))

  none_spells : (entries : Entries) (cs : List ℕ) → none_begins b entries ≡ true → sign_in (table entries) (b ∷ cs) ≡ None
  none_spells [] cs h = refl
  none_spells (e ∷ entries) cs h =
      let t = both (not (begins_with b e.0.now)) (none_begins b entries) h in
      rw (other_front e.0.now cs t.0) (none_spells entries cs t.1)

  -- what stands before and after a group spells nothing
  alone : (before group after : Entries) (cs : List ℕ) → none_begins b before ≡ true → none_begins b after ≡ true →
      sign_in (table (before ++ (group ++ after))) (b ∷ cs) ≡ sign_in (table group) (b ∷ cs)
  alone before group after cs h k =
      let pair : Bor (List ℕ) × ℕ → List ℕ × ℕ = λ e. (e.0.now, e.1) in
      let whole : table (before ++ (group ++ after)) ≡ table before ++ (table group ++ table after) =
      map-append pair before (group ++ after) ∙ ap (λ t. table before ++ t) (map-append pair group after) in
      rw (whole, sign_in-append (table before) (table group ++ table after) (b ∷ cs), none_spells before cs h, sign_in-append (table group) (table after) (b ∷ cs), none_spells after cs k)
      (or_else-none (sign_in (table group) (b ∷ cs)))

  module _ (all group : Forms) (same : (cs : List ℕ) → sign_in all (b ∷ cs) ≡ sign_in group (b ∷ cs)) (rest : List ℕ) where
    front : (m : ℕ) → 0 < m → sign_in all (take m (b ∷ rest)) ≡ sign_in group (take m (b ∷ rest))
    front zero some = absurd (omega arith)
    front (suc m) some = same (take m rest)

    best_too : (found : Option (ℕ × ℕ)) → Best group (b ∷ rest) found → Best all (b ∷ rest) found
    best_too None best = λ m some short. front m some ∙ best m some short
    best_too (Some found) best = record {
      some = best.some;
      within = best.within;
      is = front found.0 best.some ∙ best.is;
      longest = λ m more short. front m (omega (arith, best.some, more)) ∙ best.longest m more short;
    }

  pub group_is : (entries : Entries) (from to : ℕ) → is_group entries b from to ≡ true → IsGroup entries b (take (to - from) (drop from entries))
  group_is entries from to h =
      let t = both (nat_le from to) (nat_le to (length entries) && (none_begins b (take from entries) && none_begins b (drop (to - from) (drop from entries)))) h in
      let u = both (nat_le to (length entries)) (none_begins b (take from entries) && none_begins b (drop (to - from) (drop from entries))) t.1 in
      let v = both (none_begins b (take from entries)) (none_begins b (drop (to - from) (drop from entries))) u.1 in
      let group : Entries = take (to - from) (drop from entries) in
      let after : Entries = drop (to - from) (drop from entries) in
      let whole : take from entries ++ (group ++ after) ≡ entries = ap (λ t. take from entries ++ t) (take-append-drop (to - from) (drop from entries)) ∙ take-append-drop from entries in
      best_too (table entries) (table group) (λ cs. (subst (λ all. sign_in (table all) (b ∷ cs) ≡ sign_in (table group) (b ∷ cs)) whole (alone (take from entries) group after cs v.0 v.1)))

-- a group lies in the table
pub group_within : (entries : Entries) (b from to : ℕ) → is_group entries b from to ≡ true → (from ≤ to) × (to ≤ length entries)
group_within entries b from to h =
    let t = both (nat_le from to) (nat_le to (length entries) && (none_begins b (take from entries) && none_begins b (drop (to - from) (drop from entries)))) h in
    let u = both (nat_le to (length entries)) (none_begins b (take from entries) && none_begins b (drop (to - from) (drop from entries))) t.1 in
    (leb-true from to t.0, leb-true to (length entries) u.0)

-- so in a table of groups
pub byte_group : (entries : Entries) (starts : List ℕ) (b : ℕ) → are_groups entries 0 starts ≡ true → b + 1 < length starts →
    is_group entries b (slice_index_or starts b 0) (slice_index_or starts (b + 1) 0) ≡ true
byte_group entries starts b h short =
    let none : 0 + b ≡ b = omega arith in
    subst (λ n. is_group entries n (slice_index_or starts b 0) (slice_index_or starts (b + 1) 0) ≡ true) none (at_byte entries 0 starts h b short)
