-- Laws on the definitions.
use Rattle.std.specs.Prelude.{◌≡◌, ◌<◌, ◌≤◌, ◌+◌, ℕ, length, ⊤, true, false, List, [], ◌∷◌, ◌++◌, Result, Ok}
use Rattle.formula_core.specs.Names.{is_identifier}
use Rattle.check_input.specs.declared.input.InputFault.{InputFault}
use Rattle.check_input.specs.Headings.{is_blank_text}
use Rattle.check_input.specs.Inputs.{Component, IsInput}

-- bytes are one input
abbrev pub HasOneInput : Type 0
HasOneInput =
    (bytes : List ℕ) → (input : Result (List Component) InputFault) × IsInput bytes input
    × ((other : Result (List Component) InputFault) → IsInput bytes other → other ≡ input)

-- the texts of these components, one behind another
abbrev pub texts_of : List Component → List ℕ
texts_of [] = []
texts_of (p ∷ parts) = p.1 ++ texts_of parts

-- the texts of its components, one behind another, are the whole of an input that isn't blank
abbrev pub PartsMakeTheInput : Type 0
PartsMakeTheInput =
    (bytes : List ℕ) (parts : List Component) → is_blank_text bytes ≡ false → IsInput bytes (Ok parts) → texts_of parts ≡ bytes

-- Components behind so many others: each has a name without prime and a text of at most 65,536 bytes, and there are at
-- most 256.
abbrev pub AreGoodFrom : ℕ → List Component → Type 0
AreGoodFrom n [] = ⊤
AreGoodFrom n (p ∷ parts) = (is_identifier p.0 ≡ true) × (length p.1 ≤ 65536) × (n < 256) × AreGoodFrom (n + 1) parts

-- the components of an input are such
abbrev pub PartsAreGood : Type 0
PartsAreGood = (bytes : List ℕ) (parts : List Component) → IsInput bytes (Ok parts) → AreGoodFrom 0 parts
