-- The first place at which a text can't go on.
use Rattle.std.specs.Prelude.{◌≡◌, Bool, true, false, List, [], ◌∷◌, ◌++◌, Some, length, map, bytes_eq, codes}
use Rattle.math_grammar.specs.Tokens.{Item}
use Rattle.formula_parse.specs.Faults.{BeginsOne}
use Rattle.formula_parse.specs.Limits.{first_large}
use Rattle.component_text.specs.Marks.{Mark, word, label, plain}
use Rattle.component_text.specs.Forms.{Bounds, parts, none}

-- a formula stands behind a label, and behind `variant`
abbrev pub opens_formula : Mark → Bool
opens_formula (label l p) = true
opens_formula (word w p) = bytes_eq w (codes "variant")
opens_formula (plain x) = false

-- The token is the 513th of the formula in which it stands, or its 129th open bracket.
pub record IsLong (before : List Mark) (x : Mark) : Type 0 where
  pub lead : List Mark
  pub opening : Mark
  pub formula : List Item
  pub item : Item
  pub is : before ≡ lead ++ (opening ∷ map plain formula)
  pub opens : opens_formula opening ≡ true
  pub token : x ≡ plain item
  pub large : first_large (formula ++ item ∷ []) ≡ Some (length formula)

-- Some component begins so, with formulas within the bounds.
abbrev pub Continues : {C : Type 0} → (Bounds → List Mark → C → Type 0) → Bounds → List Mark → Type 0
Continues Whole b = BeginsOne (Whole b)

-- none of these tokens passes the limit of tokens or of open brackets of its formula
abbrev pub NoneIsLong : List Mark → Type 0
NoneIsLong s = (before : List Mark) (x : Mark) (later : List Mark) → s ≡ before ++ x ∷ later → IsLong before x → ⊥

-- Some component begins so, with partitions within their limit, and none of these tokens passes another limit.
pub record BeginsWithin {C : Type 0} (Whole : Bounds → List Mark → C → Type 0) (before : List Mark) : Type 0 where
  pub continues : Continues Whole parts before
  pub short : NoneIsLong before

-- None goes on with the first of these behind those before, or ends there where there is none; limits play no part.
abbrev pub NoneGoesOn : {C : Type 0} → (Bounds → List Mark → C → Type 0) → List Mark → List Mark → Type 0
NoneGoesOn {C} Whole before [] = (c : C) → Whole none before c → ⊥
NoneGoesOn {C} Whole before (x ∷ rest) = (more : List Mark) (c : C) → Whole none (before ++ x ∷ more) c → ⊥

-- The token passes a limit: of the tokens or the open brackets of its formula, or only larger partitions go on with it.
pub data IsLargeAt {C : Type 0} (Whole : Bounds → List Mark → C → Type 0) (before : List Mark) (x : Mark) : Type 0 where
  long : IsLong before x → IsLargeAt Whole before x
  wide : Continues Whole none (before ++ x ∷ []) → (Continues Whole parts (before ++ x ∷ []) → ⊥) → IsLargeAt Whole before x

-- The first token without continuation is the first of `rest`, or it is the end. Neither it nor one before it passes a limit.
pub record IsUnexpectedAt {C : Type 0} (Whole : Bounds → List Mark → C → Type 0) (s rest : List Mark) : Type 0 where
  pub before : List Mark
  pub is : s ≡ before ++ rest
  pub begins : BeginsWithin Whole before
  pub nowhere : NoneGoesOn Whole before rest
  pub small : (x : Mark) (later : List Mark) → rest ≡ x ∷ later → IsLargeAt Whole before x → ⊥

-- The first of `rest` passes a limit of its formula. What stands before it begins a component, and passes none.
pub record IsTooLargeAt {C : Type 0} (Whole : Bounds → List Mark → C → Type 0) (s rest : List Mark) : Type 0 where
  pub before : List Mark
  pub token : Mark
  pub later : List Mark
  pub is : s ≡ before ++ rest
  pub next : rest ≡ token ∷ later
  pub begins : BeginsWithin Whole before
  pub large : IsLargeAt Whole before token
