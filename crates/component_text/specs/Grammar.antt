-- The grammar of components.
use Rattle.std.specs.Prelude.{◌≡◌, ℕ, Bool, true, false, ◌||◌, List, [], ◌∷◌, Option, Some, None, codes, if◌then◌else◌}
use Rattle.formula_core.specs.Names.{is_identifier}
use Rattle.formula_core.specs.Texts.{is_label}
use Rattle.formula_core.specs.declared.raw.Raw.{Raw}
use Rattle.formula_core.specs.declared.raw.Ref.{Ref}
use Rattle.math_grammar.specs.declared.holes.Hole.{Hole}
use Rattle.math_grammar.specs.declared.holes.Hole.TheVariants as hole
use Rattle.math_grammar.specs.Tokens.{Item}
use Rattle.math_grammar.specs.Grammar.{Spells}
use Rattle.formula_parse.specs.Limits.{most_parts, SpellsWithin}
use Rattle.model_core.specs.declared.component.RawLabelled.{RawLabelled}
use Rattle.model_core.specs.declared.component.RawComponent.{RawComponent}
use Rattle.model_core.specs.declared.component.RawComponent.TheVariants.{Context}
use Rattle.component_text.specs.Marks.{Mark, word, label, plain, is_word_mark}
use Rattle.component_text.specs.Forms.{Bounds, limits, parts, none, One, FormulaRun, Nothing, Then, Choice, Many, Of}

-- what is spelled within the bounds
abbrev pub Within : {X : Type 0} → (Option ℕ → List Item → X → Type 0) → Bounds → List Item → X → Type 0
Within IsOne limits s x = SpellsWithin IsOne s x
Within IsOne parts s x = IsOne most_parts s x
Within IsOne none s x = IsOne None s x

abbrev pub IsFormula : Hole → Bounds → List Item → Raw → Type 0
IsFormula h = Within (λ limit. Spells limit h)

-- a formula with the place of its first token
abbrev pub first_place : List Item → ℕ
first_place [] = 0
first_place (x ∷ s) = x.from

abbrev pub IsPlaced : Hole → Bounds → List Item → (Raw × ℕ) → Type 0
IsPlaced h b s p = IsFormula h b s p.0 × (p.1 ≡ first_place s)

-- a name without prime
abbrev pub reference : Mark → Option Ref
reference (plain x) = if is_identifier x.text then Some (record { name = x.text; place = x.from }) else None
reference (word w p) = None
reference (label l p) = None

abbrev pub is_reference : Mark → Bool
is_reference (plain x) = is_identifier x.text
is_reference (word w p) = false
is_reference (label l p) = false

-- a label with its place
abbrev pub label_at : Mark → Option (List ℕ × ℕ)
label_at (label l p) = if is_label l then Some (l, p) else None
label_at (word w p) = None
label_at (plain x) = None

abbrev pub is_a_label : Mark → Bool
is_a_label (label l p) = true
is_a_label (word w p) = false
is_a_label (plain x) = false

-- {name}
abbrev pub Names : Bounds → List Mark → List Ref → List Mark → Type 0
Names = Many is_reference (One reference)

-- name {name}
abbrev pub SomeNames : Bounds → List Mark → List Ref → List Mark → Type 0
SomeNames = Of (λ p. p.0 ∷ p.1) (Then (One reference) Names)

-- label pred
abbrev pub labelled : Bool → ((List ℕ × ℕ) × (Raw × ℕ)) → RawLabelled
labelled theorem p = record { label = p.0.0; theorem = theorem; formula = p.1.0; place = p.0.1; first = p.1.1 }

abbrev pub LabelledPart : Bool → Bounds → List Mark → RawLabelled → List Mark → Type 0
LabelledPart theorem = Of (labelled theorem) (Then (One label_at) (FormulaRun (IsPlaced hole.Predicate)))

-- ["theorem"] label pred
abbrev pub FormulaLine : Bounds → List Mark → RawLabelled → List Mark → Type 0
FormulaLine = Choice (is_word_mark (codes "theorem")) (LabelledPart true) (LabelledPart false)

abbrev pub begins_line : Mark → Bool
begins_line x = is_a_label x || is_word_mark (codes "theorem") x

-- {line}
abbrev pub Lines : Bounds → List Mark → List RawLabelled → List Mark → Type 0
Lines = Many begins_line FormulaLine

-- [word {name}]
abbrev pub NamesBehind : List ℕ → Bounds → List Mark → List Ref → List Mark → Type 0
NamesBehind w = Choice (is_word_mark w) Names (Nothing [])

-- [word name {name}]
abbrev pub SomeNamesBehind : List ℕ → Bounds → List Mark → List Ref → List Mark → Type 0
SomeNamesBehind w = Choice (is_word_mark w) SomeNames (Nothing [])

-- [word {line}]
abbrev pub LinesBehind : List ℕ → Bounds → List Mark → List RawLabelled → List Mark → Type 0
LinesBehind w = Choice (is_word_mark w) Lines (Nothing [])

-- name ["extends" name {name}] ["sets" {name}] ["constants" {name}] ["axioms" {line}]
abbrev pub context_of : (Ref × (List Ref × (List Ref × (List Ref × List RawLabelled)))) → RawComponent
context_of (name, (extends, (sets, (constants, axioms)))) = Context name extends sets constants axioms

abbrev pub ContextBody : Bounds → List Mark → RawComponent → List Mark → Type 0
ContextBody =
    Of context_of (Then (One reference) (Then (SomeNamesBehind (codes "extends"))
    (Then (NamesBehind (codes "sets")) (Then (NamesBehind (codes "constants")) (LinesBehind (codes "axioms"))))))

-- the word and what stands behind it
pub record Headed (w : List ℕ) (P : Bounds → List Mark → RawComponent → List Mark → Type 0) (b : Bounds) (s : List Mark) (raw : RawComponent) : Type 0 where
  pub place : ℕ
  pub behind : List Mark
  pub rest : List Mark
  pub head : s ≡ word w place ∷ behind
  pub body : P b behind raw rest
  pub end_place : ℕ
  -- "end", and nothing behind it
  pub end : rest ≡ word (codes "end") end_place ∷ []

-- "context" name .. "end"
abbrev pub IsContext : Bounds → List Mark → RawComponent → Type 0
IsContext = Headed (codes "context") ContextBody
