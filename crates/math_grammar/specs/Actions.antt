-- The grammar of actions, by its rules.
use Rattle.std.specs.Prelude.{◌≡◌, ℕ, List, [], ◌∷◌, ◌++◌, true, Option, length}
use Rattle.formula_core.specs.Names.{is_name}
use Rattle.formula_core.specs.declared.raw.Raw.{Raw}
use Rattle.formula_core.specs.declared.raw.Ref.{Ref}
use Rattle.formula_core.specs.declared.raw.RawAction.{RawAction}
use Rattle.formula_core.specs.declared.raw.RawAction.TheVariants.{Assign, Apply, ChooseIn, ChooseSuch}
use Rattle.math_grammar.specs.declared.holes.Grade.{Grade}
use Rattle.math_grammar.specs.declared.holes.Hole.TheVariants as hole
use Rattle.math_grammar.specs.declared.levels.Bracket.TheVariants as bracket
use Rattle.math_grammar.specs.declared.symbols.Symbol.TheVariants as sym
use Rattle.math_grammar.specs.Levels.{fits}
use Rattle.math_grammar.specs.Tokens.{Item}
use Rattle.math_grammar.specs.Grammar.{item, Reads, Spells}

abbrev pub ref : List ℕ → ℕ → Ref
ref n p = record { name = n; place = p }

-- names between commas, behind those before
pub data Targets : List Ref → List Item → List Ref → List Item → Type 0 where
  last_target : {before : List Ref} {n : List ℕ} {p : ℕ} {rest : List Item} →
      is_name n ≡ true → Targets before (item sym.Word p n ∷ rest) (before ++ ref n p ∷ []) rest
  next_target : {before targets : List Ref} {n w : List ℕ} {p q : ℕ} {s rest : List Item} →
      is_name n ≡ true → Targets (before ++ ref n p ∷ []) s targets rest →
      Targets before (item sym.Word p n ∷ item sym.Comma q w ∷ s) targets rest

-- expressions between commas up to the end, behind those before
pub data Values (limit : Option ℕ) : List Raw → List Item → List Raw → Type 0 where
  last_value : {before : List Raw} {s : List Item} {e : Raw} →
      Spells limit hole.Expression s e → Values limit before s (before ++ e ∷ [])
  next_value : {before values : List Raw} {g : Grade} {p : ℕ} {w : List ℕ} {s m : List Item} {e : Raw} →
      Reads limit g s e (item sym.Comma p w ∷ m) → fits hole.Expression g ≡ true → Values limit (before ++ e ∷ []) m values →
      Values limit before s values

-- The tokens are an action. A partition has at most so many parts as the limit says, if there is one.
pub data SpellsAction (limit : Option ℕ) : List Item → RawAction → Type 0 where
  -- x, y ≔ E, F
  assigns : {targets : List Ref} {values : List Raw} {p : ℕ} {w : List ℕ} {s m : List Item} →
      Targets [] s targets (item sym.Becomes p w ∷ m) → Values limit [] m values → length targets ≡ length values →
      SpellsAction limit s (Assign targets values)
  -- f(E) ≔ F
  applies : {g : Grade} {n u v w : List ℕ} {o p q r : ℕ} {s m : List Item} {a e : Raw} →
      is_name n ≡ true → Reads limit g s a (item (sym.Close bracket.Round) q v ∷ item sym.Becomes r w ∷ m) → fits hole.Expression g ≡ true →
      Spells limit hole.Expression m e →
      SpellsAction limit (item sym.Word p n ∷ item (sym.Open bracket.Round) o u ∷ s) (Apply (ref n p) a e)
  -- x :∈ S
  chooses_in : {n w : List ℕ} {p q : ℕ} {s : List Item} {e : Raw} →
      is_name n ≡ true → Spells limit hole.Expression s e →
      SpellsAction limit (item sym.Word p n ∷ item sym.BecomesIn q w ∷ s) (ChooseIn (ref n p) e)
  -- x, y :∣ P
  chooses_such : {targets : List Ref} {p : ℕ} {w : List ℕ} {s m : List Item} {t : Raw} →
      Targets [] s targets (item sym.BecomesSuch p w ∷ m) → Spells limit hole.Predicate m t →
      SpellsAction limit s (ChooseSuch targets t)
