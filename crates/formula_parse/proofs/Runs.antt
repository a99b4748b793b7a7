-- What runs come to.
use Rattle.std.proofs.Common.{◌≡◌, ℕ, List, ◌∷◌, true, false, Option, Some, None, ap, sym, ◌∙◌}
use Rattle.formula_core.specs.declared.raw.Raw.{Raw}
use Rattle.math_grammar.specs.declared.holes.Grade.{Grade}
use Rattle.math_grammar.specs.declared.holes.Hole.{Hole}
use Rattle.math_grammar.specs.declared.symbols.Symbol.{Symbol}
use Rattle.math_grammar.specs.Levels.{reaches, fits, goes_on}
use Rattle.math_grammar.specs.Tokens.{Item}
use Rattle.math_grammar.specs.Grammar.{item, Ends, Reads}
use Rattle.formula_parse.specs.declared.frames.Frame.{Frame}
use Rattle.formula_parse.specs.Machine.{hole_of, hole_wanted, ParseState, want, have, finished, closed, attach}
use Rattle.formula_parse.proofs.Outcomes.{run}
use Rattle.formula_parse.proofs.Reach.{reach, outcome, run_reaches}
use Rattle.formula_parse.proofs.Complete as complete

module _ (limit : Option ℕ) where
  -- what stops alike comes to the same
  same_run : (goal : Hole) (a b : ParseState) (s m : List Item) → reach limit goal a s ≡ reach limit goal b m → run limit goal a s ≡ run limit goal b m
  same_run goal a b s m e = run_reaches limit goal a s ∙ ap outcome e ∙ sym (run_reaches limit goal b m)

  pub ends_finished : (goal : Hole) (f : Frame) (fs : List Frame) (g h : Grade) (t u : Raw) (rest : List Item) →
      fits (hole_of f) g ≡ true → Ends (hole_of f) g rest → finished f t ≡ Some (h, u) →
      run limit goal (have (f ∷ fs) g t) rest ≡ run limit goal (have fs h u) rest
  ends_finished goal f fs g h t u rest fit e d = same_run goal (have (f ∷ fs) g t) (have fs h u) rest rest (complete.ends_finished limit goal f fs g h t u rest fit e d)

  pub takes_sign : (goal : Hole) (f : Frame) (fs : List Frame) (g : Grade) (t : Raw) (x : Symbol) (p : ℕ) (w : List ℕ) (st : ParseState) (rest : List Item) →
      fits (hole_of f) g ≡ true → goes_on (hole_of f) g x ≡ false → finished f t ≡ None → closed limit fs f g t x ≡ Some st →
      run limit goal (have (f ∷ fs) g t) (item x p w ∷ rest) ≡ run limit goal st rest
  takes_sign goal f fs g t x p w st rest fit off e c =
      same_run goal (have (f ∷ fs) g t) st (item x p w ∷ rest) rest (complete.takes_sign limit goal f fs g t x p w st rest fit off e c)

  pub goes : (goal : Hole) (fs : List Frame) (g : Grade) (t : Raw) (x : Symbol) (p : ℕ) (w : List ℕ) (st : ParseState) (rest : List Item) →
      attach limit goal fs g t x ≡ Some st → run limit goal (have fs g t) (item x p w ∷ rest) ≡ run limit goal st rest
  goes goal fs g t x p w st rest e = same_run goal (have fs g t) st (item x p w ∷ rest) rest (complete.goes limit goal fs g t x p w st rest e)

  pub complete_reads : (goal : Hole) (fs : List Frame) {g : Grade} {s rest : List Item} {t : Raw} →
      Reads limit g s t rest → reaches (hole_wanted goal fs) g ≡ true → run limit goal (want fs) s ≡ run limit goal (have fs g t) rest
  complete_reads goal fs {g} {s} {rest} {t} r b = same_run goal (want fs) (have fs g t) s rest (complete.complete_reads limit goal fs r b)
