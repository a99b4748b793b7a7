-- Texts that are looked up, and texts that stand twice.
use Rattle.std.specs.Prelude.{ℕ, Bool, ◌||◌, if◌then◌else◌, List, [], ◌∷◌, map}
use Rattle.formula_core.specs.declared.raw.Ref.{Ref}
use Rattle.model_core.specs.declared.fault.Fault.{Fault}
use Rattle.model_core.specs.declared.fault.FaultKind.{FaultKind}
use Rattle.model_core.specs.Each.{at_each, is_among}
use Rattle.model_core.specs.Faults.{fault_at}
use Rattle.check_rules.specs.Declarations.{LabelAt}
use Rattle.context_check.specs.declared.declarations.Mark.{Mark}

-- a text and its place
abbrev pub mark_of : Mark → LabelAt
mark_of m = (m.text.now, m.place)

abbrev pub ref_mark : Ref → LabelAt
ref_mark r = (r.name, r.place)

-- a fault where the text is known, or stands before it
abbrev pub repeated_row : FaultKind → List ℕ → (List ℕ → Bool) → List LabelAt → LabelAt → List Fault
repeated_row k component known before m =
    if known m.0 || is_among (map (λ b. b.0) before) m.0 then fault_at component k m.1 m.0 ∷ [] else []

abbrev pub repeated : FaultKind → List ℕ → (List ℕ → Bool) → List LabelAt → List Fault
repeated k component known marks = at_each (repeated_row k component known) [] marks
