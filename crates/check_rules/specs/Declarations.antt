-- Names and labels that are declared twice: kinds 10 and 11.
use Rattle.std.specs.Prelude.{ℕ, ◌||◌, if◌then◌else◌, List, [], ◌∷◌, map}
use Rattle.formula_core.specs.declared.raw.Ref.{Ref}
use Rattle.model_core.specs.declared.fault.Fault.{Fault}
use Rattle.model_core.specs.declared.fault.FaultKind.TheVariants as kind
use Rattle.model_core.specs.declared.checked.CheckedContext.{CheckedContext}
use Rattle.model_core.specs.Each.{at_each, is_among}
use Rattle.model_core.specs.Faults.{fault_at}
use Rattle.check_rules.specs.Visible.{Visible, all_visible, seen_from, of_context, clashing}

-- a label and its place
abbrev pub LabelAt : Type 0
LabelAt = List ℕ × ℕ

-- a reference to a context, with that context
abbrev pub ContextPart : Type 0
ContextPart = Ref × CheckedContext

-- `NAME is declared twice`: a name that is known, or stands before it
abbrev pub declared_twice_row : List ℕ → List (List ℕ) → List Ref → Ref → List Fault
declared_twice_row component known before r =
    if is_among known r.name || is_among (map (λ b. b.name) before) r.name then fault_at component kind.DeclaredTwice r.place r.name ∷ [] else []

abbrev pub declared_twice : List ℕ → List (List ℕ) → List Ref → List Fault
declared_twice component known refs = at_each (declared_twice_row component known) [] refs

-- `NAME is declared twice`: a reference to a context brings a name of another component
abbrev pub brings_clash_row : List ℕ → Visible → List ContextPart → ContextPart → List Fault
brings_clash_row component v before x =
    map (λ n. fault_at component kind.DeclaredTwice x.0.place n.0.0) (clashing (all_visible (seen_from v (map (λ b. b.1) before))) (of_context x.1))

abbrev pub brings_clash : List ℕ → Visible → List ContextPart → List Fault
brings_clash component v parts = at_each (brings_clash_row component v) [] parts

-- `label LABEL twice`: a label that is inherited, or stands before it
abbrev pub labelled_twice_row : List ℕ → List (List ℕ) → List LabelAt → LabelAt → List Fault
labelled_twice_row component inherited before l =
    if is_among inherited l.0 || is_among (map (λ b. b.0) before) l.0 then fault_at component kind.LabelTwice l.1 l.0 ∷ [] else []

abbrev pub labelled_twice : List ℕ → List (List ℕ) → List LabelAt → List Fault
labelled_twice component inherited labels = at_each (labelled_twice_row component inherited) [] labels
