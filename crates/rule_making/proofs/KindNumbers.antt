-- No kind has a number above 35.
use Rattle.std.proofs.Common.{◌≡◌, ◌∙◌, ap, refl, ℕ, zero, suc, ◌<◌, ◌≤◌, ◌-◌, ◌==◌, Bool, true, false, List, [], ◌∷◌, length, Option, Some, None, slice_get, if◌then◌else◌, arith}
use Rattle.std.specs.Option.{option_and_then}
use Rattle.formula_core.specs.declared.formula.Formula.{Formula}
use Rattle.rule_table.specs.declared.kind.RuleKind.{RuleKind}
use Rattle.sequent_core.specs.declared.hint.Hint.{Hint}
use Rattle.rule_making.specs.Make.{kind_of, kinds}

past : {X : Type 0} (xs : List X) (i : ℕ) → length xs ≤ i → slice_get xs i ≡ None
past [] zero h = refl
past [] (suc i) h = refl
past (x ∷ xs) zero h = absurd (omega arith)
past (x ∷ xs) (suc i) h = past xs i (omega arith)

either : {X : Type 0} (c : Bool) (o : Option (Option X)) → o ≡ None → (if c then None else option_and_then (λ k. k) o) ≡ None
either true o e = refl
either false o e = ap (option_and_then (λ k. k)) e

pub none_past : (n : ℕ) (h : Hint) (terms : List Formula) → 35 < n → kind_of n h terms ≡ None
unfolding kind_of
none_past n h terms l = either (n == 0) (slice_get (kinds h terms) (n - 1)) (past (kinds h terms) (n - 1) (omega arith))
