-- The number of a law is one more than its place.
use Rattle.std.proofs.Common.{◌≡◌, ◌∙◌, ap, ℕ, ◌+◌, ◌-◌, Some, slice_get, arith}
use Rattle.rule_table.specs.declared.law.Law.{Law}
use Rattle.rule_table.specs.declared.law.TheConstants.{LAWS}
use Rattle.rule_table.specs.Rewriting.{law_of}

less_one : (n : ℕ) → (n + 1) - 1 ≡ n
less_one n = omega arith

after : (n : ℕ) → law_of (n + 1) ≡ slice_get LAWS ((n + 1) - 1)
after n = grind arith

pub law_at_number : (n : ℕ) (l : Law) → slice_get LAWS n ≡ Some l → law_of (n + 1) ≡ Some l
law_at_number n l h = after n ∙ ap (slice_get LAWS) (less_one n) ∙ h
