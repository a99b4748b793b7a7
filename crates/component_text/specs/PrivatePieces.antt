-- What is told of the tokens of a component. Private contracts alone cite this.
use Rattle.std.specs.Prelude.{◌≡◌, ℕ, List, [], ◌∷◌, length, Option, Some, None, Result, Ok, Err}
use Rattle.std.specs.Borrow.{Bor}
use Rattle.std.specs.Str.{IsUtf8}
use Rattle.model_core.specs.declared.fault.FaultKind.{FaultKind}
use Rattle.model_core.specs.declared.fault.FaultKind.TheVariants as kind
use Rattle.model_core.specs.Faults.{fault_at}
use Rattle.model_core.specs.declared.component.RawComponent.{RawComponent}
use Rattle.model_core.specs.Components.{heading}
use Rattle.component_tokens.specs.declared.piece.CutFault.{CutFault}
use Rattle.component_tokens.specs.declared.piece.CutFault.TheVariants as wrong
use Rattle.component_text.specs.declared.pieces.ReadFault.{ReadFault}
use Rattle.component_text.specs.declared.pieces.ReadFault.TheVariants as fault
use Rattle.component_text.specs.Marks.{Mark}
use Rattle.component_text.specs.Forms.{Bounds, limits}
use Rattle.component_text.specs.Spelled.{place_of_mark, text_of_mark, misnamed, IsFirst}

-- the bytes of a token are text
abbrev pub HasText : Mark → Type 0
HasText x = IsUtf8 (text_of_mark x)

abbrev pub TellsFaultAt : ReadFault → List ℕ → FaultKind → ℕ → List ℕ → Type 0
TellsFaultAt (fault.Fault f) name k place words = f ≡ fault_at name k place words
TellsFaultAt fault.OutOfMemory name k place words = Unit {0}

abbrev pub fault_kind : CutFault → FaultKind
fault_kind (wrong.BadSign p) = kind.BadSign
fault_kind (wrong.NumberTooWide p) = kind.NumberTooWide
fault_kind (wrong.CommentNotClosed p) = kind.CommentNotClosed

abbrev pub fault_place : CutFault → ℕ
fault_place (wrong.BadSign p) = p
fault_place (wrong.NumberTooWide p) = p
fault_place (wrong.CommentNotClosed p) = p

-- what is told where nothing goes on with the first of these
abbrev pub TellsAtEnd : ReadFault → List ℕ → List ℕ → Option CutFault → Type 0
TellsAtEnd answer name text None = TellsFaultAt answer name kind.Unexpected (length text) []
TellsAtEnd answer name text (Some f) = TellsFaultAt answer name (fault_kind f) (fault_place f) []

abbrev pub TellsUnexpected : ReadFault → List ℕ → List ℕ → List Mark → Option CutFault → Type 0
TellsUnexpected answer name text [] cut = TellsAtEnd answer name text cut
TellsUnexpected answer name text (x ∷ later) cut =
    TellsFaultAt answer name kind.Unexpected (place_of_mark x) (text_of_mark x)

abbrev pub TellsTooLarge : ReadFault → List ℕ → List Mark → Type 0
TellsTooLarge answer name [] = Unit {0}
TellsTooLarge answer name (x ∷ later) = TellsFaultAt answer name kind.FormulaTooLarge (place_of_mark x) []

-- the first token, if there is one
abbrev pub IsFirstMark : Option (ℕ × Bor (List ℕ)) → List Mark → Type 0
IsFirstMark None s = s ≡ []
IsFirstMark (Some f) s =
    (x : Mark) × (later : List Mark) × (s ≡ x ∷ later) × (f.0 ≡ place_of_mark x) × (f.1.now ≡ text_of_mark x)

-- what is read of the tokens, with what is wrong behind them
abbrev pub ReadsPieces : (Bounds → List Mark → RawComponent → Type 0) → List ℕ → List ℕ → List Mark → Option CutFault → Result RawComponent ReadFault → Type 0
ReadsPieces Whole name text marks cut (Ok c) = Whole limits marks c × (misnamed name marks ≡ None) × (cut ≡ None)
ReadsPieces Whole name text marks cut (Err (fault.Fault f)) =
    (f.component ≡ name) × IsFirst Whole name text marks cut f.kind f.place f.words
    × ((c : RawComponent) → Whole limits marks c → (heading c).name ≡ name → cut ≡ None → ⊥)
ReadsPieces Whole name text marks cut (Err fault.OutOfMemory) = Unit {0}
