-- Readers of tokens, as functions, and their limits.
use Rattle.std.specs.Prelude.{◌≡◌, ℕ, ◌+◌, List, [], ◌∷◌, Bool, Option, Some, None, Result, Ok, Err, cond}
use Rattle.formula_core.specs.declared.raw.Raw.{Raw}
use Rattle.math_tokens.specs.declared.cutting.Token.{Token}
use Rattle.math_grammar.specs.declared.holes.Hole.{Hole}
use Rattle.math_grammar.specs.Tokens.{Item, item_of}
use Rattle.formula_parse.specs.declared.fault.ParseFault.{ParseFault}
use Rattle.formula_parse.specs.declared.fault.ParseFault.TheVariants as fault
use Rattle.formula_parse.specs.Limits.{passes, open_after}
use Rattle.formula_parse.specs.Machine.{ParseState, want, step, ended, is_full}

-- It takes token by token, with at most so many parts of a partition as the limit says, if there is one, and gives what it read at their end.
pub record TokenReader (S T : Type 0) : Type 0 where
  pub start : S
  pub step : Option ℕ → S → Item → Option S
  pub ended : S → Option T
  -- a part behind the last one allowed is wanted
  pub is_full : S → Bool

-- what comes of tokens within the limits: what is read, or the place of the first token that isn't taken, or that passes a limit
pub data LimitedReading (T : Type 0) : Type 0 where
  read_whole : (t : T) → LimitedReading T
  stopped : (i : ℕ) → LimitedReading T
  passed : (i : ℕ) → LimitedReading T

abbrev pub reading_at_end : {T : Type 0} → ℕ → Option T → LimitedReading T
reading_at_end i (Some t) = read_whole t
reading_at_end i None = stopped i

abbrev pub next_reading : {S T : Type 0} → (S → Bool) → ℕ → Option S → (S → LimitedReading T) → LimitedReading T
next_reading is_full i None go = stopped i
next_reading is_full i (Some st) go = cond (is_full st) (passed i) (go st)

-- the tokens from the one at i on, with so many brackets open before it
abbrev pub limited_reading : {S T : Type 0} → TokenReader S T → List ℕ → ℕ → ℕ → S → List Token → LimitedReading T
limited_reading r text i n st [] = reading_at_end i (r.ended st)
limited_reading r text i n st (token ∷ rest) =
    let x = item_of text token in
    cond (passes i n x.symbol) (passed i) (next_reading r.is_full i (r.step None st x) (λ after. limited_reading r text (i + 1) (open_after n x.symbol) after rest))

-- what is answered, unless memory ran out
abbrev pub ReadsTokens : {S T : Type 0} → TokenReader S T → List ℕ → List Token → Result T ParseFault → Type 0
ReadsTokens r text tokens (Ok t) = limited_reading r text 0 0 r.start tokens ≡ read_whole t
ReadsTokens r text tokens (Err (fault.Unexpected i)) = limited_reading r text 0 0 r.start tokens ≡ stopped i
ReadsTokens r text tokens (Err (fault.TooLarge i)) = limited_reading r text 0 0 r.start tokens ≡ passed i
ReadsTokens r text tokens (Err fault.OutOfMemory) = Unit {0}

-- the parser of formulas is one
abbrev pub formula_reader : Hole → TokenReader ParseState Raw
formula_reader goal = record { start = want []; step = λ limit. step limit goal; ended = ended goal; is_full = is_full }
