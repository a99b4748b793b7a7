-- Where a list of tokens stops, and the formula that is complete there.
use Rattle.std.proofs.Common.{◌≡◌, ℕ, List, [], ◌∷◌, Option, Some, None, refl}
use Rattle.std.specs.Option.{option_map_or}
use Rattle.formula_core.specs.declared.raw.Raw.{Raw}
use Rattle.math_grammar.specs.declared.holes.Hole.{Hole}
use Rattle.math_grammar.specs.Tokens.{Item}
use Rattle.formula_parse.specs.Machine.{ParseState, step, ended}
use Rattle.formula_parse.proofs.Outcomes.{ReadOutcome, run, found, refused}

-- the formula that is complete, if there is one, and the tokens from the first one on that isn't taken
pub data Stop : Type 0 where
  stop : (whole : Option Raw) (rest : List Item) → Stop

abbrev pub reach : Option ℕ → Hole → ParseState → List Item → Stop
reach limit goal st [] = stop (ended goal st) []
reach limit goal st (x ∷ rest) = option_map_or (λ after. reach limit goal after rest) (step limit goal st x) (stop (ended goal st) (x ∷ rest))

abbrev pub outcome : Stop → ReadOutcome Raw
outcome (stop whole []) = option_map_or found whole (refused [])
outcome (stop whole (x ∷ rest)) = refused (x ∷ rest)

pub run_reaches : (limit : Option ℕ) (goal : Hole) (st : ParseState) (s : List Item) → run limit goal st s ≡ outcome (reach limit goal st s)
run_reaches limit goal st [] = refl
run_reaches limit goal st (x ∷ s) = go (step limit goal st x) refl (λ next. run_reaches limit goal next s)
  where
    go : (o : Option ParseState) → step limit goal st x ≡ o → ((next : ParseState) → run limit goal next s ≡ outcome (reach limit goal next s)) →
        run limit goal st (x ∷ s) ≡ outcome (reach limit goal st (x ∷ s))
    go None e k = rw e refl
    go (Some next) e k = rw e (k next)
