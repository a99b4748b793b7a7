-- Orders of integers.
use Rattle.std.proofs.Common.{◌≡◌, ℕ, suc, ℤ, pos, ◌+ℤ◌, ◌-ℤ◌, neg_ℤ, int_le, true, false, arith}
use Rattle.std.proofs.lemmas.Int.{ints}

pub le_self : (x : ℤ) → int_le x x ≡ true
le_self x = grind (arith, ints)

pub le_through : (v x y : ℤ) → int_le v x ≡ true → int_le x y ≡ true → int_le v y ≡ true
le_through v x y h k = grind (arith, ints, h, k)

pub le_other : (x y : ℤ) → int_le x y ≡ false → int_le y x ≡ true
le_other x y h = grind (arith, ints, h)

pub le_both : (x y : ℤ) → int_le x y ≡ true → int_le y x ≡ true → x ≡ y
le_both x y h k = grind (arith, ints, h, k)

pub le_next : (x y : ℤ) → int_le x y ≡ true → int_le x (y +ℤ pos 1) ≡ true
le_next x y h = grind (arith, ints, h)

pub next_le : (x y : ℤ) → int_le x (y -ℤ pos 1) ≡ true → int_le (x +ℤ pos 1) y ≡ true
next_le x y h = grind (arith, ints, h)

-- what is at most y and no less is y
pub is_last : (x y : ℤ) → int_le x y ≡ true → int_le x (y -ℤ pos 1) ≡ false → x ≡ y
is_last x y h k = grind (arith, ints, h, k)

pub past : (x y : ℤ) → int_le x y ≡ true → x ≡ y +ℤ pos 1 → ⊥
past x y h e = absurd (grind (arith, ints, h, e))

pub one_up : (n : ℤ) → int_le (pos 0) n ≡ true → int_le (pos 1) (n +ℤ pos 1) ≡ true
one_up n h = grind (arith, ints, h)

pub natural_up : (n : ℤ) → int_le (pos 0) n ≡ true → int_le (pos 0) (n +ℤ pos 1) ≡ true
natural_up n h = grind (arith, ints, h)

pub natural_down : (i n : ℤ) → int_le (pos 1) i ≡ true → int_le i n ≡ true → int_le (pos 0) (n -ℤ pos 1) ≡ true
natural_down i n h k = grind (arith, ints, h, k)

pub one_down : (x y : ℤ) → x +ℤ pos 1 ≡ y → x ≡ y -ℤ pos 1
one_down x y e = grind (arith, ints, e)

pub least_one : (k : ℕ) → int_le (pos 1) (pos (suc k)) ≡ true
least_one k = grind (arith, ints)

pub up_from : (k : ℕ) (i : ℤ) → int_le i (pos k) ≡ true → int_le i (pos (suc k)) ≡ true
up_from k i h = grind (arith, ints, h)

pub not_last : (k : ℕ) (i : ℤ) → int_le i (pos k) ≡ true → i ≡ pos (suc k) → ⊥
not_last k i h e = absurd (grind (arith, ints, h, e))

pub count_up : (k : ℕ) (n : ℤ) → int_le (pos k) (n -ℤ pos 1) ≡ true → int_le (pos (suc k)) n ≡ true
count_up k n h = grind (arith, ints, h)

pub at_start : (low n : ℤ) → int_le low n ≡ true → int_le (low +ℤ pos 0) n ≡ true
at_start low n h = grind (arith, ints, h)

pub last_from : (low n : ℤ) (k : ℕ) → int_le (low +ℤ pos k) n ≡ true → int_le (low +ℤ pos (suc k)) n ≡ false → n ≡ low +ℤ pos k
last_from low n k h f = grind (arith, ints, h, f)

pub none_past : (low n : ℤ) (k : ℕ) → n ≡ low +ℤ pos k → int_le (low +ℤ pos (suc k)) n ≡ true → ⊥
none_past low n k e h = absurd (grind (arith, ints, e, h))

pub not_below : (low n : ℤ) → int_le low n ≡ true → int_le (pos 0) (n -ℤ low) ≡ true
not_below low n h = grind (arith, ints, h)

pub further : (low n k : ℤ) → n -ℤ low ≡ k → n ≡ low +ℤ k
further low n k e = grind (arith, ints, e)

pub turned_left : (x y : ℤ) → int_le x (neg_ℤ y) ≡ true → int_le y (neg_ℤ x) ≡ true
turned_left x y h = grind (arith, ints, h)

pub turned_right : (x y : ℤ) → int_le (neg_ℤ y) x ≡ true → int_le (neg_ℤ x) y ≡ true
turned_right x y h = grind (arith, ints, h)
