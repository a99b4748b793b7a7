-- An integer is two halves.
use Rattle.std.proofs.Common.{◌≡◌, ◌∙◌, sym, ap, refl, ℕ, ℤ, pos, negsuc, ◌+◌, ◌*◌, ◌%◌, ◌/◌, ◌<◌, ◌≤◌, ◌^◌, true, nat_lt, List, arith, rules}
use Rattle.std.specs.Prelude.{FitsSigned}
use Rattle.std.specs.Int.{w128, cast_unsigned, cast_signed}
use Rattle.std.proofs.lemmas.Bool.{ltb-true, lt-ltb}
use Rattle.std.proofs.lemmas.Int.{to_z-of_z, of_z-to_z}
use Rattle.std.proofs.Math.Facts.{Fits-of_z, sfits_to_z}
use Rattle.rule_table.specs.Linear.{fits_i128}
use Rattle.proof_codec.specs.declared.reader.ReadFault.{ReadFault}
use Rattle.proof_codec.specs.declared.reader.ReadFault.TheVariants as faults
use Rattle.proof_codec.specs.Forms.{BeginsWith, BeginsNone}
use Rattle.proof_codec.specs.Private.{IsReadAs, Misses, IsWide}
use Rattle.proof_codec.specs.Parts.{IsPair, pair_bytes}
use Rattle.proof_codec.specs.Numbers.{wide, IsInteger, sixteen, integer}

abbrev Halves : ℕ × ℕ → Type 0
Halves = IsPair IsWide IsWide

abbrev halves : ℕ × ℕ → List ℕ
halves = pair_bytes wide wide

low_of : (low high : ℕ) → low < 2 ^ 64 → (low + high * 2 ^ 64) % 2 ^ 64 ≡ low
low_of low high small = omega arith

high_of : (low high : ℕ) → low < 2 ^ 64 → (low + high * 2 ^ 64) / 2 ^ 64 ≡ high
high_of low high small = omega arith

both_of : (n : ℕ) → n % 2 ^ 64 + n / 2 ^ 64 * 2 ^ 64 ≡ n
both_of n = omega arith

pub fits_of : (z : ℤ) → IsInteger z → FitsSigned w128 z
fits_of (pos n) h = record { sfits = ltb-true n (2 ^ 127) h }
fits_of (negsuc n) h = record { sfits = ltb-true n (2 ^ 127) h }

pub of_fits : (z : ℤ) → FitsSigned w128 z → IsInteger z
of_fits (pos n) h = lt-ltb n (2 ^ 127) h.sfits
of_fits (negsuc n) h = lt-ltb n (2 ^ 127) h.sfits

unsigned_small : (z : ℤ) → FitsSigned w128 z → cast_unsigned w128 z < 2 ^ 128
unsigned_small z fits = (Fits-of_z fits).fits

signed_fits : (n : ℕ) → n < 2 ^ 128 → FitsSigned w128 (cast_signed w128 n)
signed_fits n small = sfits_to_z (record { fits = small })

pub integer_read : (old new : List ℕ) (low high : ℕ) → IsReadAs Halves halves old (low, high) new → IsReadAs IsInteger integer old (cast_signed w128 (low + high * 2 ^ 64)) new
integer_read old new low high read =
    let n : ℕ = low + high * 2 ^ 64 in
    let small : n < 2 ^ 128 = omega (arith, read.here.good.0, read.here.good.1) in
    let back : cast_unsigned w128 (cast_signed w128 n) ≡ n = of_z-to_z w128 n small in
    record {
      here = record {
        good = of_fits (cast_signed w128 n) (signed_fits n small);
        split = read.here.split ∙ rw (back, low_of low high read.here.good.0, high_of low high read.here.good.0) refl;
      };
      only = λ y others begins.
          let fits = fits_of y begins.good in
          let m : ℕ = cast_unsigned w128 y in
          let below : m < 2 ^ 128 = unsigned_small y fits in
          let same = read.only (m % 2 ^ 64, m / 2 ^ 64) others (record { good = (omega arith, omega (arith, below)); split = begins.split }) in
          let whole : m ≡ n = sym (both_of m) ∙ ap (λ (p : ℕ × ℕ). p.0 + p.1 * 2 ^ 64) same.0 in
          (sym (to_z-of_z w128 y fits) ∙ ap (cast_signed w128) whole, same.1);
    }

pub no_halves : (fault : ReadFault) (old : List ℕ) → Misses Halves halves old fault → Misses IsInteger integer old fault
no_halves faults.OutOfMemory old bad = tt
no_halves faults.Bad old bad = record {
  none = λ y others begins.
      let m : ℕ = cast_unsigned w128 y in
      let below : m < 2 ^ 128 = unsigned_small y (fits_of y begins.good) in
      bad.none (m % 2 ^ 64, m / 2 ^ 64) others (record { good = (omega arith, omega (arith, below)); split = begins.split });
}
