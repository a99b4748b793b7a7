-- The limits of a formula: 512 tokens, 128 open brackets, and a partition of 25 parts.
use Rattle.std.specs.Prelude.{◌≡◌, ℕ, ◌+◌, ◌-◌, ◌<◌, ◌≤◌, ◌||◌, ◌&&◌, Bool, true, false, List, [], ◌∷◌, Option, Some, None, Result, Ok, Err, ◌⊎◌, cond, nat_le, length, take}
use Rattle.formula_core.specs.declared.raw.Raw.{Raw}
use Rattle.math_grammar.specs.declared.holes.Hole.{Hole}
use Rattle.math_grammar.specs.declared.symbols.Symbol.{Symbol}
use Rattle.math_grammar.specs.declared.symbols.Symbol.TheVariants as sym
use Rattle.math_grammar.specs.Tokens.{Item}
use Rattle.math_grammar.specs.Grammar.{Spells}
use Rattle.formula_parse.specs.Faults.{BeginsOne, IsUnexpectedIn}
use Rattle.formula_parse.specs.declared.fault.ParseFault.{ParseFault}
use Rattle.formula_parse.specs.declared.fault.ParseFault.TheVariants as fault

-- a partition has the set and at most 24 parts after it
abbrev pub most_parts : Option ℕ
most_parts = Some 25

abbrev pub is_opening : Symbol → Bool
is_opening (sym.Open b) = true
is_opening _ = false

-- how many brackets are open behind a token
abbrev pub open_after : ℕ → Symbol → ℕ
open_after n (sym.Open b) = n + 1
open_after n (sym.Close b) = n - 1
open_after n _ = n

-- the token at i, with so many brackets open before it, is the 513th or the 129th open bracket
abbrev pub passes : ℕ → ℕ → Symbol → Bool
passes i n x = nat_le 512 i || (is_opening x && nat_le 128 n)

abbrev pub first_large_from : ℕ → ℕ → List Item → Option ℕ
first_large_from i n [] = None
first_large_from i n (x ∷ rest) = cond (passes i n x.symbol) (Some i) (first_large_from (i + 1) (open_after n x.symbol) rest)

-- the first token that passes the limit of tokens or of open brackets
abbrev pub first_large : List Item → Option ℕ
first_large tokens = first_large_from 0 0 tokens

-- What the tokens spell, with at most so many parts of a partition as the limit says, if there is one: here within all limits.
abbrev pub SpellsWithin : {T : Type 0} → (Option ℕ → List Item → T → Type 0) → List Item → T → Type 0
SpellsWithin IsOne tokens t = IsOne most_parts tokens t × (first_large tokens ≡ None)

-- it is found, unless memory runs out
abbrev pub FindsFormula : {T : Type 0} → Result T ParseFault → T → Type 0
FindsFormula (Ok u) t = u ≡ t
FindsFormula (Err fault.OutOfMemory) t = Unit {0}
FindsFormula (Err _) t = ⊥

-- The token at i passes a limit: of tokens, of open brackets, or it is a comma with which only larger partitions go on.
abbrev pub IsTooLargeIn : {T : Type 0} → (Option ℕ → List Item → T → Type 0) → List Item → ℕ → Type 0
IsTooLargeIn IsOne tokens i =
    (first_large (take (i + 1) tokens) ≡ Some i)
    ⊎ (BeginsOne (IsOne None) (take (i + 1) tokens) × (BeginsOne (IsOne most_parts) (take (i + 1) tokens) → ⊥))

-- The tokens before the fault begin what is spelled within the limits.
abbrev pub IsFaultOf : {T : Type 0} → (Option ℕ → List Item → T → Type 0) → List Item → ParseFault → Type 0
IsFaultOf IsOne tokens (fault.Unexpected i) =
    (i ≤ length tokens) × BeginsOne (IsOne most_parts) (take i tokens) × IsUnexpectedIn (IsOne None) tokens i × (first_large (take (i + 1) tokens) ≡ None)
IsFaultOf IsOne tokens (fault.TooLarge i) =
    (i < length tokens) × BeginsOne (IsOne most_parts) (take i tokens) × (first_large (take i tokens) ≡ None) × IsTooLargeIn IsOne tokens i
IsFaultOf IsOne tokens fault.OutOfMemory = Unit {0}

-- the tokens are a sentence within the limits
abbrev pub IsSentence : Hole → List Item → Raw → Type 0
IsSentence h = SpellsWithin (λ limit. Spells limit h)

-- the first fault of tokens that are none
abbrev pub IsFault : Hole → List Item → ParseFault → Type 0
IsFault h = IsFaultOf (λ limit. Spells limit h)
