-- The numbered names are names, and the search for those that may be used.
use Rattle.std.proofs.Common.{cond, ◌||◌, get_or, ◌≡◌, ◌∙◌, sym, ap, subst, refl, ◌<◌, ◌≤◌, ◌^◌, ◌+◌, ◌-◌, ◌*◌, ℕ, zero, suc, Bool, true, false, ◌&&◌, not, nat_eq, List, [], ◌∷◌, ◌++◌, length, take, drop, filter, arith, rules, append_assoc}
use Rattle.std.specs.Prelude.{nat_le, bytes_eq}
use Rattle.std.specs.List.{AllByRecursion, list_all}
use Rattle.std.specs.Char.{is_ascii_digit}
use Rattle.std.specs.Str.{all_ascii_digits}
use Rattle.std.specs.Fmt.{decimal}
use Rattle.std.proofs.lemmas.Fmt.{length-decimal-le, digits_decimal}
use Rattle.std.proofs.lemmas.Bool.Decides.{nat_tests}
use Rattle.std.proofs.lemmas.Str.Parse.{IsNumeralModel, numerals_by_fold}
use Rattle.formula_core.specs.Names.{is_in_word, is_reserved, is_word, is_identifier, unprimed, is_name}
use Rattle.std.proofs.lemmas.List.{take_more, map-append}
use Rattle.std.proofs.lemmas.List.Folds.{list_any-append}
use Rattle.std.proofs.lemmas.Map.Text.{is_eq-slice_cmp}
use Rattle.std.proofs.lemmas.Cmp.{nat_list_eq_equiv}
use Rattle.std.specs.List.{list_any}
use Rattle.std.specs.Map.{keys_of}
use Rattle.std.specs.BTreeMap.{is_at}
use Rattle.std.specs.Ordering.{nat_cmp}
use Rattle.std.specs.Cmp.Lexicographic.{slice_cmp}
use Rattle.formula_core.specs.declared.ty.Ty.{Ty}
use Rattle.formula_print.specs.Names.{generated_name, numbered_names}

pub both_true : (a b : Bool) → (a && b) ≡ true → (a ≡ true) × (b ≡ true)
both_true true b h = (refl, h)
both_true false b h = cc

abbrev pub read_on : ℕ → List ℕ → ℕ
read_on n [] = n
read_on n (c ∷ cs) = read_on (10 * n + (c - 48)) cs

pub own : IsNumeralModel (λ ds. all_ascii_digits ds ≡ true) (read_on 0)
own = numerals_by_fold _ (search rules) read_on (search rules)

pub decimal_digits : (n : ℕ) → n < 2 ^ 64 → all_ascii_digits (decimal n) ≡ true
decimal_digits n small = digits_decimal own n small

digit_in_word : (c : ℕ) → is_ascii_digit c ≡ true → is_in_word c ≡ true
digit_in_word c h = rw h refl

digit_no_prime : (c : ℕ) → is_ascii_digit c ≡ true → nat_eq c 39 ≡ false
digit_no_prime c h = grind (arith, nat_tests)

digits_in_word : (ds : List ℕ) → all_ascii_digits ds ≡ true → list_all is_in_word ds ≡ true
digits_in_word [] h = refl
digits_in_word (c ∷ ds) h = let parts = both_true (is_ascii_digit c) (all_ascii_digits ds) h in rw (digit_in_word c parts.0) (digits_in_word ds parts.1)

no_prime : (k : ℕ) (ds : List ℕ) → all_ascii_digits ds ≡ true → bytes_eq (drop k ds) (39 ∷ []) ≡ false
no_prime zero [] h = refl
no_prime (suc k) [] h = refl
no_prime zero (c ∷ ds) h = let parts = both_true (is_ascii_digit c) (all_ascii_digits ds) h in rw (digit_no_prime c parts.0) refl
no_prime (suc k) (c ∷ ds) h = no_prime k ds (both_true (is_ascii_digit c) (all_ascii_digits ds) h).1

no_prime_behind_x : (k : ℕ) (ds : List ℕ) → all_ascii_digits ds ≡ true → bytes_eq (drop k (120 ∷ ds)) (39 ∷ []) ≡ false
no_prime_behind_x zero ds h = refl
no_prime_behind_x (suc k) ds h = no_prime k ds h

unreserved : (ds : List ℕ) → is_reserved (120 ∷ ds) ≡ false
unreserved ds = refl

short : (ds : List ℕ) → length ds ≤ 20 → nat_le (length ds) 63 ≡ true
short ds h = grind (arith, nat_tests)

unprimed-x : (ds : List ℕ) → all_ascii_digits ds ≡ true → unprimed (120 ∷ ds) ≡ 120 ∷ ds
unprimed-x ds digits = rw (no_prime_behind_x (length (120 ∷ ds) - 1) ds digits) refl

word-x : (ds : List ℕ) → all_ascii_digits ds ≡ true → length ds ≤ 20 → is_word (120 ∷ ds) ≡ true
word-x ds digits few = rw (digits_in_word ds digits) (rw (short ds few) refl)

identifier : (word : List ℕ) → is_word word ≡ true → is_reserved word ≡ false → is_identifier word ≡ true
identifier word w r = ap (λ b. b && not (is_reserved word)) w ∙ ap not r

named : (ds : List ℕ) → all_ascii_digits ds ≡ true → length ds ≤ 20 → is_name (120 ∷ ds) ≡ true
named ds digits few = ap is_identifier (unprimed-x ds digits) ∙ identifier (120 ∷ ds) (word-x ds digits few) (unreserved ds)

pub numbered-is_name : (n : ℕ) → n < 2 ^ 64 → is_name (generated_name n) ≡ true
numbered-is_name n small = named (decimal n) (decimal_digits n small) (length-decimal-le 20 n (omega arith) (omega arith) small)

next_numbered : (i tries : ℕ) → i < tries → numbered_names (i + 1) (tries - i) ≡ generated_name (i + 1) ∷ numbered_names (i + 1 + 1) (tries - (i + 1))
next_numbered i tries h = let e : tries - i ≡ suc (tries - (i + 1)) = omega arith in rw e refl

module _ (may_be_used : List ℕ → Bool) (names : List (List ℕ)) (i tries : ℕ) (h : i < tries) where
  pub takes_next : may_be_used (generated_name (i + 1)) ≡ true
      → names ++ filter may_be_used (numbered_names (i + 1) (tries - i)) ≡ (names ++ generated_name (i + 1) ∷ []) ++ filter may_be_used (numbered_names (i + 1 + 1) (tries - (i + 1)))
  takes_next allowed = rw (next_numbered i tries h) (rw allowed (sym (append_assoc names (generated_name (i + 1) ∷ []) _)))

  pub skips_next : may_be_used (generated_name (i + 1)) ≡ false
      → filter may_be_used (numbered_names (i + 1) (tries - i)) ≡ filter may_be_used (numbered_names (i + 1 + 1) (tries - (i + 1)))
  skips_next refused = rw (next_numbered i tries h) (rw refused refl)

or_either : (b o : Bool) → cond b true o ≡ (o || b)
or_either true true = refl
or_either true false = refl
or_either false true = refl
or_either false false = refl

or_none : (a b : Bool) → (a || (b || false)) ≡ (a || b)
or_none true b = refl
or_none false true = refl
or_none false false = refl

-- one more name in the set
pub more_names : (identifiers : List (List ℕ × Ty)) (i : ℕ) (x : List ℕ × Ty) (name key : List ℕ) (was now : Bool) → i < length identifiers → x ≡ get_or identifiers i x → key ≡ x.0
    → was ≡ list_any (bytes_eq name) (keys_of (take i identifiers)) → now ≡ cond (is_at (slice_cmp nat_cmp key) name) true was
    → now ≡ list_any (bytes_eq name) (keys_of (take (i + 1) identifiers))
more_names identifiers i x name key was now short at is before after =
    after ∙ ap (λ b. cond b true was) (is_eq-slice_cmp key name ∙ nat_list_eq_equiv.symm key name ∙ ap (bytes_eq name) is)
    ∙ or_either (bytes_eq name x.0) was ∙ ap (λ b. b || bytes_eq name x.0) before
    ∙ sym (or_none (list_any (bytes_eq name) (keys_of (take i identifiers))) (bytes_eq name x.0))
    ∙ sym (list_any-append (bytes_eq name) (keys_of (take i identifiers)) (x.0 ∷ []))
    ∙ ap (list_any (bytes_eq name)) (sym (map-append (λ e. e.0) (take i identifiers) (x ∷ [])))
    ∙ ap (λ xs. list_any (bytes_eq name) (keys_of xs)) (sym (take_more identifiers i x short ∙ ap (λ y. take i identifiers ++ y ∷ []) (sym at)))

-- one more name is one
pub more_are_names : (identifiers : List (List ℕ × Ty)) (i : ℕ) (x : List ℕ × Ty) → i < length identifiers → x ≡ get_or identifiers i x → is_name x.0 ≡ true
    → AllByRecursion (λ y. is_name y.0 ≡ true) (take i identifiers) → AllByRecursion (λ y. is_name y.0 ≡ true) (take (i + 1) identifiers)
more_are_names identifiers i x short at is before =
    subst (AllByRecursion (λ y. is_name y.0 ≡ true)) (sym (take_more identifiers i x short ∙ ap (λ y. take i identifiers ++ y ∷ []) (sym at))) (behind (take i identifiers) before)
  where
    behind : (ys : List (List ℕ × Ty)) → AllByRecursion (λ y. is_name y.0 ≡ true) ys → AllByRecursion (λ y. is_name y.0 ≡ true) (ys ++ x ∷ [])
    behind [] h = (is, tt)
    behind (y ∷ ys) h = (h.0, behind ys h.1)
