-- Products of sums.
use Rattle.std.proofs.Common.{◌≡◌, ap, ◌+◌, ◌*◌, ℤ, ◌+ℤ◌, ◌-ℤ◌, ◌*ℤ◌, neg_ℤ, arith}
use Rattle.std.proofs.lemmas.Int.{ints}
use borrow.Author.Differences.{up, down, sum_is_lem, neg_is, product_is}

pub plus_times : (a b c : ℤ) → (a +ℤ b) *ℤ c ≡ a *ℤ c +ℤ b *ℤ c
plus_times a b c = omega (arith, ints, ap (λ z. z * up c) (sum_is_lem a b), ap (λ z. z * down c) (sum_is_lem a b))

pub negated_times : (a c : ℤ) → neg_ℤ a *ℤ c ≡ neg_ℤ (a *ℤ c)
negated_times a c = omega (arith, ints, ap (λ z. z * up c) (neg_is a).0, ap (λ z. z * down c) (neg_is a).0, ap (λ z. z * up c) (neg_is a).1, ap (λ z. z * down c) (neg_is a).1)

pub minus_times : (a b c : ℤ) → (a -ℤ b) *ℤ c ≡ a *ℤ c -ℤ b *ℤ c
minus_times a b c =
    let s : (a -ℤ b) *ℤ c ≡ a *ℤ c +ℤ neg_ℤ b *ℤ c = plus_times a (neg_ℤ b) c in
    let n : neg_ℤ b *ℤ c ≡ neg_ℤ (b *ℤ c) = negated_times b c in
    omega (arith, ints, s, n)

pub times_turned : (a b : ℤ) → a *ℤ b ≡ b *ℤ a
times_turned a b = omega (arith, ints)

pub times_plus : (k a b : ℤ) → k *ℤ (a +ℤ b) ≡ k *ℤ a +ℤ k *ℤ b
times_plus k a b =
    let s : (a +ℤ b) *ℤ k ≡ a *ℤ k +ℤ b *ℤ k = plus_times a b k in
    let l : k *ℤ (a +ℤ b) ≡ (a +ℤ b) *ℤ k = times_turned k (a +ℤ b) in
    let m : k *ℤ a ≡ a *ℤ k = times_turned k a in
    let n : k *ℤ b ≡ b *ℤ k = times_turned k b in
    omega (arith, ints, s, l, m, n)

pub times_times : (k a b : ℤ) → (k *ℤ a) *ℤ b ≡ k *ℤ (a *ℤ b)
times_times k a b =
    let left = product_is k a in
    let right = product_is a b in
    omega (
      arith,
      ints,
      ap (λ z. z * up b) left.0,
      ap (λ z. z * down b) left.0,
      ap (λ z. z * up b) left.1,
      ap (λ z. z * down b) left.1,
      ap (λ z. up k * z) right.0,
      ap (λ z. down k * z) right.0,
      ap (λ z. up k * z) right.1,
      ap (λ z. down k * z) right.1,
    )
