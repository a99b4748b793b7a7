-- What reading the printed text of a formula back gives.
use Rattle.std.specs.Prelude.{◌≡◌, ℕ, List, [], Option, Some, None, Result, Ok, Err, IfOk, IfErr}
use Rattle.formula_core.specs.declared.ty.Ty.{Ty}
use Rattle.formula_core.specs.declared.formula.Formula.{Formula}
use Rattle.formula_core.specs.declared.raw.Raw.{Raw}
use Rattle.formula_core.specs.Wellness.{type_of}
use Rattle.type_formula.specs.Answers.{IsExpected, IsTheFormula}
use Rattle.type_formula.specs.CoreForms.{core_form}
use Rattle.math_tokens.specs.SignForms.{sign_forms}
use Rattle.math_tokens.specs.Texts.{Cut}
use Rattle.type_formula.specs.Unknowns.{unknown_in}
use Rattle.math_tokens.specs.declared.cutting.Token.{Token}
use Rattle.math_tokens.specs.declared.cutting.TokenFault.{TokenFault}
use Rattle.math_grammar.specs.declared.holes.Hole.{Hole}
use Rattle.math_grammar.specs.Tokens.{Item, items_of}
use Rattle.math_grammar.specs.Grammar.{Spells}
use Rattle.formula_parse.specs.Limits.{first_large, IsSentence, IsFault}
use Rattle.formula_parse.specs.declared.fault.ParseFault.{ParseFault}
use Rattle.formula_parse.specs.declared.fault.ParseFault.TheVariants as fault
use Rattle.formula_print.specs.Written.{raw_of, TypesAll}
use Rattle.math_places.specs.Places.{unplaced}
use Rattle.math_print.specs.Grades.{place_for}

-- In each environment that types the formula, the tree is typed as the formula, and not otherwise: also where no type is expected, or its own.
abbrev pub IsTypedAgain : Formula → Raw → Type 0
IsTypedAgain f tree = (env : List (List ℕ × Ty)) → TypesAll env f → (expected : Option Ty) → IsExpected expected (type_of f) → IsTheFormula env [] (core_form tree) expected f

-- the parser may answer so: with a sentence within the limits, or with a fault
abbrev pub IsAnswer : Hole → List Item → Result Raw ParseFault → Type 0
IsAnswer h tokens answer = IfOk answer (λ t. IsSentence h tokens t) × IfErr answer (λ fault. IsFault h tokens fault)

-- the tree, or that the tokens pass a limit, where they do, or that memory ran out
abbrev pub IsTreeOrLarge : List Item → Raw → Result Raw ParseFault → Type 0
IsTreeOrLarge tokens tree (Ok t) = (first_large tokens ≡ None) × (t ≡ tree)
IsTreeOrLarge tokens tree (Err (fault.TooLarge i)) = first_large tokens ≡ Some i
IsTreeOrLarge tokens tree (Err (fault.Unexpected i)) = ⊥
IsTreeOrLarge tokens tree (Err fault.OutOfMemory) = Unit {0}

-- The text of a formula reads back.
pub record ReadsBack (f : Formula) (text : List ℕ) : Type 0 where
  -- it is cut into tokens, and in no other way
  pub tokens : List Token
  pub cut : Cut sign_forms text 0 (Ok tokens)
  pub cut_only : (other : Result (List Token) TokenFault) → Cut sign_forms text 0 other → other ≡ Ok tokens
  -- they spell a tree, whatever the limit of the parts of a partition is, and no other
  pub tree : Raw
  pub spelled : (limit : Option ℕ) → Spells limit (place_for f) (items_of text tokens) tree
  pub only : (limit : Option ℕ) (t : Raw) → Spells limit (place_for f) (items_of text tokens) t → t ≡ tree
  -- the parser finds it, unless the tokens pass a limit or memory runs out
  pub found : (answer : Result Raw ParseFault) → IsAnswer (place_for f) (items_of text tokens) answer → IsTreeOrLarge (items_of text tokens) tree answer
  -- the tree is the formula as it is written, and is typed as the formula; none of its names is unknown
  pub written : unplaced tree ≡ raw_of f
  pub typed : IsTypedAgain f tree
  pub known : (env : List (List ℕ × Ty)) → TypesAll env f → unknown_in env [] tree ≡ None
