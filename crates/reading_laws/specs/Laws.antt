-- The law of what is read of a text.
use Rattle.std.specs.Prelude.{ℕ, List, Ok}
use Rattle.model_core.specs.declared.component.RawComponent.{RawComponent}
use Rattle.component_text.specs.Spelled.{IsRead}
use Rattle.name_laws.specs.Written.{IsPlainlyWritten}

-- in a component that a text spells no name and no label has a slash
abbrev pub ReadIsPlain : Type 0
ReadIsPlain = (name text : List ℕ) (c : RawComponent) → IsRead name text (Ok c) → IsPlainlyWritten c
