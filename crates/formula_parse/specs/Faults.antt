-- The first token that no sentence can have.
use Rattle.std.specs.Prelude.{◌≡◌, ℕ, ◌+◌, ◌++◌, ◌<◌, Option, List, length, take}
use Rattle.math_grammar.specs.declared.holes.Hole.{Hole}
use Rattle.math_grammar.specs.Tokens.{Item}
use Rattle.math_grammar.specs.Grammar.{Spells}

-- some tokens that the relation takes begin so
abbrev pub BeginsOne : {K T : Type 0} → (List K → T → Type 0) → List K → Type 0
BeginsOne {K} {T} IsOne tokens = (more : List K) × (t : T) × IsOne (tokens ++ more) t

-- The token at i is the first one that none of these tokens has there, after those before it; at the end, the tokens aren't one.
pub record IsUnexpectedIn {K T : Type 0} (IsOne : List K → T → Type 0) (tokens : List K) (i : ℕ) : Type 0 where
  pub before : BeginsOne IsOne (take i tokens)
  pub there : i < length tokens → BeginsOne IsOne (take (i + 1) tokens) → ⊥
  pub at_end : i ≡ length tokens → (t : T) → IsOne tokens t → ⊥

-- in formulas
abbrev pub IsUnexpected : Option ℕ → Hole → List Item → ℕ → Type 0
IsUnexpected limit h = IsUnexpectedIn (Spells limit h)
