-- Parts that are read one after another.
use Rattle.std.proofs.Common.{◌≡◌, ℕ, ◌+◌, suc, ◌<◌, ◌≤◌, ◌==◌, Bool, true, false, not, cond, List, [], ◌∷◌, ◌++◌, length, take, drop, refl, sym, ap, ◌∙◌, subst, arith, append_assoc}
use Rattle.std.specs.Prelude.{Option, Some, None}
use Rattle.std.specs.List.{prefix_len}
use Rattle.std.specs.Option.{option_map}
use Rattle.step_items.specs.Paths.{onto_first, between_dots, with_others, all_of}

-- what was read, before what is read of the parts that are left
abbrev pub behind : {A : Type 0} → List A → Option (List A) → Option (List A)
behind xs o = option_map (λ ys. xs ++ ys) o

pub behind_nothing : {A : Type 0} (o : Option (List A)) → behind [] o ≡ o
behind_nothing None = refl
behind_nothing (Some ys) = refl

shift : {A : Type 0} (xs : List A) (x : A) (o : Option (List A)) → behind (xs ++ x ∷ []) o ≡ behind xs (with_others (Some x) o)
shift xs x None = refl
shift xs x (Some ys) = ap Some (append_assoc xs (x ∷ []) ys)

module _ {A : Type 0} (read : List ℕ → Option A) (parts others : List (List ℕ)) (first : List ℕ) (xs : List A) (whole : Option (List A)) where
  at_first : (o : Option A) → parts ≡ first ∷ others → read first ≡ o → behind xs (all_of read parts) ≡ behind xs (with_others o (all_of read others))
  at_first o is e = ap (λ p. behind xs (all_of read p)) is ∙ ap (λ o. behind xs (with_others o (all_of read others))) e

  pub goes_on : (x : A) → parts ≡ first ∷ others → read first ≡ Some x → behind xs (all_of read parts) ≡ whole → behind (xs ++ x ∷ []) (all_of read others) ≡ whole
  goes_on x is e so_far = shift xs x (all_of read others) ∙ sym (at_first (Some x) is e) ∙ so_far

  pub fails : parts ≡ first ∷ others → read first ≡ None → behind xs (all_of read parts) ≡ whole → None ≡ whole
  fails is e so_far = sym (at_first None is e) ∙ so_far

pub ends : {A : Type 0} (read : List ℕ → Option A) (parts : List (List ℕ)) (first : List ℕ) (xs : List A) (whole : Option (List A)) (x : A) →
    parts ≡ first ∷ [] → read first ≡ Some x → behind xs (all_of read parts) ≡ whole → Some (xs ++ x ∷ []) ≡ whole
ends read parts first xs whole x is e so_far = sym (ap (λ p. behind xs (all_of read p)) is ∙ ap (λ o. behind xs (with_others o (Some []))) e) ∙ so_far

-- DOTS

dots_by : (c n : ℕ) (rest : List ℕ) (t : Bool) → (n < length rest → between_dots rest ≡ take n rest ∷ between_dots (drop (n + 1) rest)) →
    cond (not t) (1 + n) 0 < length (c ∷ rest) →
    cond t ([] ∷ between_dots rest) (onto_first c (between_dots rest)) ≡ take (cond (not t) (1 + n) 0) (c ∷ rest) ∷ between_dots (drop (cond (not t) (1 + n) 0 + 1) (c ∷ rest))
dots_by c n rest true known less = refl
dots_by c n rest false known less =
    let e : 1 + n ≡ suc n = omega arith in
    let f : 1 + n + 1 ≡ suc (n + 1) = omega arith in
    ap (onto_first c) (known (omega (arith, less))) ∙ ap (λ m. take m (c ∷ rest) ∷ between_dots (drop (n + 1) rest)) (sym e)
    ∙ ap (λ m. take (1 + n) (c ∷ rest) ∷ between_dots (drop m (c ∷ rest))) (sym f)

dots : (bytes : List ℕ) → prefix_len (λ c. not (c == 46)) bytes < length bytes →
    between_dots bytes ≡ take (prefix_len (λ c. not (c == 46)) bytes) bytes ∷ between_dots (drop (prefix_len (λ c. not (c == 46)) bytes + 1) bytes)
dots [] less = absurd (omega (arith, less))
dots (c ∷ rest) less = dots_by c (prefix_len (λ c. not (c == 46)) rest) rest (c == 46) (dots rest) less

-- the part before the first dot
pub before_dot : (bytes : List ℕ) (at : ℕ) → at ≡ prefix_len (λ c. not (c == 46)) bytes → at < length bytes →
    between_dots bytes ≡ take at bytes ∷ between_dots (drop (at + 1) bytes)
before_dot bytes at is less = subst (λ n. between_dots bytes ≡ take n bytes ∷ between_dots (drop (n + 1) bytes)) (sym is) (dots bytes (subst (λ n. n < length bytes) is less))

none_by : (c n : ℕ) (rest : List ℕ) (t : Bool) → (length rest ≤ n → between_dots rest ≡ rest ∷ []) →
    length (c ∷ rest) ≤ cond (not t) (1 + n) 0 → cond t ([] ∷ between_dots rest) (onto_first c (between_dots rest)) ≡ (c ∷ rest) ∷ []
none_by c n rest true known more = absurd (omega (arith, more))
none_by c n rest false known more = ap (onto_first c) (known (omega (arith, more)))

no_dots : (bytes : List ℕ) → length bytes ≤ prefix_len (λ c. not (c == 46)) bytes → between_dots bytes ≡ bytes ∷ []
no_dots [] more = refl
no_dots (c ∷ rest) more = none_by c (prefix_len (λ c. not (c == 46)) rest) rest (c == 46) (no_dots rest) more

-- bytes without a dot
pub without_dot : (bytes : List ℕ) (at : ℕ) → at ≡ prefix_len (λ c. not (c == 46)) bytes → length bytes ≤ at → between_dots bytes ≡ bytes ∷ []
without_dot bytes at is more = no_dots bytes (subst (λ n. length bytes ≤ n) is more)
