-- Hypotheses and their multipliers, from a place on.
use Rattle.std.proofs.Common.{◌≡◌, ◌∙◌, sym, ap, refl, ℕ, zero, suc, ◌+◌, ℤ, pos, ◌<◌, ◌≤◌, Bool, true, false, ◌&&◌, not, List, [], ◌∷◌, length, drop, get_or, leb, arith}
use Rattle.formula_core.specs.declared.Formula.{Formula}
use Rattle.rule_table.specs.Linear.{Linear, OrTooWide, added, are_multiplied, may_be_multiplied, shape, is_formula_among}
use Rattle.rules_arith.specs.Private.{with_hypothesis}

no_multipliers : (total : OrTooWide Linear) (hs : List Formula) → added total hs [] ≡ total
no_multipliers total [] = refl
no_multipliers total (x ∷ hs) = refl

none_from : (ks : List ℤ) (i : ℕ) → length ks ≤ i → drop i ks ≡ []
none_from [] zero h = refl
none_from [] (suc i) h = refl
none_from (k ∷ ks) zero h = absurd (omega arith)
none_from (k ∷ ks) (suc i) h = none_from ks i (omega arith)

pub added_too_few : (total : OrTooWide Linear) (hs : List Formula) (ks : List ℤ) (i : ℕ) → length ks ≤ i → added total (drop i hs) (drop i ks) ≡ total
added_too_few total hs ks i h = ap (added total (drop i hs)) (none_from ks i h) ∙ no_multipliers total (drop i hs)

next : (i : ℕ) → suc i + 1 ≡ suc (i + 1)
next i = omega arith

drop_at : (hs : List Formula) (i : ℕ) (x : Formula) → i < length hs → x ≡ get_or hs i x → drop i hs ≡ x ∷ drop (i + 1) hs
drop_at [] i x h e = absurd (omega arith)
drop_at (y ∷ hs) zero x h e = λ j. sym e j ∷ hs
drop_at (y ∷ hs) (suc i) x h e = drop_at hs i x (omega arith) e ∙ (λ j. x ∷ drop (sym (next i) j) (y ∷ hs))

number_at : (ks : List ℤ) (i : ℕ) → i < length ks → drop i ks ≡ get_or ks i (pos 0) ∷ drop (i + 1) ks
number_at [] i h = absurd (omega arith)
number_at (k ∷ ks) zero h = refl
number_at (k ∷ ks) (suc i) h = number_at ks i (omega arith) ∙ (λ j. get_or ks i (pos 0) ∷ drop (sym (next i) j) (k ∷ ks))

pub added_one_more : (total : OrTooWide Linear) (hs : List Formula) (ks : List ℤ) (i : ℕ) (x : Formula) → i < length hs → i < length ks → x ≡ get_or hs i x
    → added total (drop i hs) (drop i ks) ≡ added (with_hypothesis total x (get_or ks i (pos 0))) (drop (i + 1) hs) (drop (i + 1) ks)
added_one_more total hs ks i x h k e = λ j. added total (drop_at hs i x h e j) (number_at ks i k j)

pub added_at_end : (total : OrTooWide Linear) (hs : List Formula) (ks : List ℤ) → added total (drop (length hs) hs) ks ≡ total
added_at_end total [] ks = refl
added_at_end total (x ∷ hs) ks = added_at_end total hs ks

pub ruleset added_steps = (added_too_few, added_one_more, added_at_end)

-- whether hypotheses may have their multipliers, from a place on
multiplied_at : (hs : List Formula) (ks : List ℤ) (i : ℕ) (x : Formula) → i < length hs → i < length ks → x ≡ get_or hs i x
    → are_multiplied (drop i hs) (drop i ks) ≡ (may_be_multiplied (shape x) (get_or ks i (pos 0)) && not (is_formula_among (drop (i + 1) hs) x) && are_multiplied (drop (i + 1) hs) (drop (i + 1) ks))
multiplied_at hs ks i x h k e = λ j. are_multiplied (drop_at hs i x h e j) (number_at ks i k j)

any_or : (b c : Bool) → (b && false && c) ≡ false
any_or true c = refl
any_or false c = refl

without_multiplier : (hs : List Formula) (i : ℕ) → i < length hs → are_multiplied (drop i hs) [] ≡ false
without_multiplier [] i h = absurd (omega arith)
without_multiplier (x ∷ hs) zero h = refl
without_multiplier (x ∷ hs) (suc i) h = without_multiplier hs i (omega arith)

pub too_few : (hs : List Formula) (ks : List ℤ) (i : ℕ) → i < length hs → length ks ≤ i → are_multiplied (drop i hs) (drop i ks) ≡ false
too_few hs ks i h k = ap (are_multiplied (drop i hs)) (none_from ks i k) ∙ without_multiplier hs i h

pub not_allowed : (hs : List Formula) (ks : List ℤ) (i : ℕ) (x : Formula) → i < length hs → i < length ks → x ≡ get_or hs i x
    → may_be_multiplied (shape x) (get_or ks i (pos 0)) ≡ false → are_multiplied (drop i hs) (drop i ks) ≡ false
not_allowed hs ks i x h k e n = multiplied_at hs ks i x h k e ∙ (λ j. n j && not (is_formula_among (drop (i + 1) hs) x) && are_multiplied (drop (i + 1) hs) (drop (i + 1) ks))

pub twice : (hs : List Formula) (ks : List ℤ) (i : ℕ) (x : Formula) → i < length hs → i < length ks → x ≡ get_or hs i x
    → is_formula_among (drop (i + 1) hs) x ≡ true → are_multiplied (drop i hs) (drop i ks) ≡ false
twice hs ks i x h k e m = multiplied_at hs ks i x h k e
    ∙ (λ j. may_be_multiplied (shape x) (get_or ks i (pos 0)) && not (m j) && are_multiplied (drop (i + 1) hs) (drop (i + 1) ks))
    ∙ any_or (may_be_multiplied (shape x) (get_or ks i (pos 0))) (are_multiplied (drop (i + 1) hs) (drop (i + 1) ks))

pub multiplied_more : (hs : List Formula) (ks : List ℤ) (i : ℕ) (x : Formula) → i < length hs → i < length ks → x ≡ get_or hs i x
    → may_be_multiplied (shape x) (get_or ks i (pos 0)) ≡ true → is_formula_among (drop (i + 1) hs) x ≡ false
    → are_multiplied (drop i hs) (drop i ks) ≡ are_multiplied (drop (i + 1) hs) (drop (i + 1) ks)
multiplied_more hs ks i x h k e n m = multiplied_at hs ks i x h k e ∙ (λ j. n j && not (m j) && are_multiplied (drop (i + 1) hs) (drop (i + 1) ks))

pub multiplied_at_end : (hs : List Formula) (ks : List ℤ) → are_multiplied (drop (length hs) hs) (drop (length hs) ks) ≡ leb (length ks) (length hs)
multiplied_at_end [] [] = refl
multiplied_at_end [] (k ∷ ks) = grind arith
multiplied_at_end (x ∷ hs) [] = at_none hs ∙ positive (length hs) where
  positive : (n : ℕ) → true ≡ leb 0 (suc n)
  positive n = grind arith

  at_none : (hs : List Formula) → are_multiplied (drop (length hs) hs) [] ≡ true
  at_none [] = refl
  at_none (x ∷ hs) = at_none hs
multiplied_at_end (x ∷ hs) (k ∷ ks) = multiplied_at_end hs ks ∙ one_more (length ks) (length hs) where
  one_more : (m n : ℕ) → leb m n ≡ leb (suc m) (suc n)
  one_more m n = grind arith

pub ruleset multiplied = (too_few, not_allowed, twice, multiplied_more, multiplied_at_end)
