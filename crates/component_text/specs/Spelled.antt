-- What the text of a component spells, and the first fault of one that spells none.
use Rattle.std.specs.Prelude.{◌≡◌, ℕ, Bool, ◌||◌, List, [], ◌∷◌, length, bytes_eq, codes, Option, Some, None, Result, Ok, Err, if◌then◌else◌}
use Rattle.model_core.specs.declared.fault.Fault.{Fault}
use Rattle.model_core.specs.declared.fault.FaultKind.{FaultKind}
use Rattle.model_core.specs.declared.fault.FaultKind.TheVariants as kind
use Rattle.formula_core.specs.declared.raw.Ref.{Ref}
use Rattle.math_tokens.specs.declared.cutting.Token.{Token}
use Rattle.component_tokens.specs.declared.piece.CutFault.{CutFault}
use Rattle.component_tokens.specs.declared.piece.CutFault.TheVariants as wrong
use Rattle.component_tokens.specs.Pieces.{at_sign, CutInto}
use Rattle.model_core.specs.declared.component.RawComponent.{RawComponent}
use Rattle.model_core.specs.Components.{heading}
use Rattle.component_text.specs.declared.pieces.ReadFault.{ReadFault}
use Rattle.component_text.specs.declared.pieces.ReadFault.TheVariants as fault
use Rattle.component_text.specs.Marks.{Mark, word, label, plain, marks_of, is_word_mark}
use Rattle.component_text.specs.Forms.{Bounds, limits}
use Rattle.component_text.specs.Grammar.{reference}
use Rattle.component_text.specs.Machines.{IsComponent}
use Rattle.component_text.specs.Faults.{BeginsWithin, IsUnexpectedAt, IsTooLargeAt}

-- The text of the component of a name spells c: it is cut into tokens, which are a sentence of the grammar, and the heading has the name.
pub record SpellsComponent (Whole : Bounds → List Mark → RawComponent → Type 0) (name text : List ℕ) (c : RawComponent) : Type 0 where
  pub tokens : List Token
  pub cut : CutInto text 0 tokens None
  pub sentence : Whole limits (marks_of text tokens) c
  pub named : (heading c).name ≡ name

-- it is found, unless memory runs out
abbrev pub FindsComponent : Result RawComponent ReadFault → RawComponent → Type 0
FindsComponent (Ok raw) c = raw ≡ c
FindsComponent (Err (fault.Fault f)) c = ⊥
FindsComponent (Err fault.OutOfMemory) c = Unit {0}

-- the place and the bytes of a token
abbrev pub place_of_mark : Mark → ℕ
place_of_mark (word w p) = p
place_of_mark (label l p) = p
place_of_mark (plain x) = x.from

abbrev pub text_of_mark : Mark → List ℕ
text_of_mark (word w p) = w
text_of_mark (label l p) = at_sign ∷ l
text_of_mark (plain x) = x.text

-- the place of the heading's name, where it is another one
abbrev pub is_heading : Mark → Bool
is_heading x = is_word_mark (codes "context") x || is_word_mark (codes "machine") x

abbrev pub other_name : List ℕ → Option Ref → Option ℕ
other_name name None = None
other_name name (Some r) = if bytes_eq r.name name then None else Some r.place

abbrev pub misnamed_behind : List ℕ → List Mark → Option ℕ
misnamed_behind name [] = None
misnamed_behind name (x ∷ rest) = other_name name (reference x)

abbrev pub misnamed : List ℕ → List Mark → Option ℕ
misnamed name [] = None
misnamed name (x ∷ rest) = if is_heading x then misnamed_behind name rest else None

-- The first fault of a text, by its tokens and what is wrong behind these: its kind, its place and its words.
pub data IsFirst (Whole : Bounds → List Mark → RawComponent → Type 0) (name text : List ℕ) (marks : List Mark) (cut : Option CutFault) : FaultKind → ℕ → List ℕ → Type 0 where
  bad_sign : {p : ℕ} → misnamed name marks ≡ None → BeginsWithin Whole marks → cut ≡ Some (wrong.BadSign p) → IsFirst Whole name text marks cut kind.BadSign p []
  number_too_wide : {p : ℕ} → misnamed name marks ≡ None → BeginsWithin Whole marks → cut ≡ Some (wrong.NumberTooWide p) → IsFirst Whole name text marks cut kind.NumberTooWide p []
  unexpected : {x : Mark} {later : List Mark} →
      misnamed name marks ≡ None → IsUnexpectedAt Whole marks (x ∷ later) → IsFirst Whole name text marks cut kind.Unexpected (place_of_mark x) (text_of_mark x)
  unexpected_end : misnamed name marks ≡ None → IsUnexpectedAt Whole marks [] → cut ≡ None → IsFirst Whole name text marks cut kind.Unexpected (length text) []
  too_large : {x : Mark} {later : List Mark} →
      misnamed name marks ≡ None → IsTooLargeAt Whole marks (x ∷ later) → IsFirst Whole name text marks cut kind.FormulaTooLarge (place_of_mark x) []
  comment_not_closed : {p : ℕ} →
      misnamed name marks ≡ None → BeginsWithin Whole marks → cut ≡ Some (wrong.CommentNotClosed p) → IsFirst Whole name text marks cut kind.CommentNotClosed p []
  wrong_name : {p : ℕ} → misnamed name marks ≡ Some p → IsFirst Whole name text marks cut kind.WrongName p []

-- what is answered in place of a component, unless memory runs out
abbrev pub IsReadFault : (Bounds → List Mark → RawComponent → Type 0) → List ℕ → List ℕ → ReadFault → Type 0
IsReadFault Whole name text (fault.Fault f) =
    (tokens : List Token) × (cut : Option CutFault) × CutInto text 0 tokens cut × (f.component ≡ name)
    × IsFirst Whole name text (marks_of text tokens) cut f.kind f.place f.words
IsReadFault Whole name text fault.OutOfMemory = Unit {0}

-- what is read of the text of the component of a name: what it spells, or its first fault
abbrev pub IsRead : List ℕ → List ℕ → Result RawComponent Fault → Type 0
IsRead name text (Ok c) = SpellsComponent IsComponent name text c
IsRead name text (Err f) = IsReadFault IsComponent name text (fault.Fault f)

-- No text has two: one that spells a component has no fault, and none has two faults.
abbrev pub HasOneReading : Type 0
HasOneReading = (name text : List ℕ) (one two : Result RawComponent Fault) → IsRead name text one → IsRead name text two → one ≡ two
