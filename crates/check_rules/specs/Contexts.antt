-- When a context is checked, and what it checks to.
use Rattle.std.specs.Prelude.{◌≡◌, ℕ, List, [], ◌++◌, map, length, MatchOption, Result, Ok, Err}
use Rattle.std.specs.List.{zip}
use Rattle.formula_core.specs.declared.raw.Ref.{Ref}
use Rattle.formula_core.specs.declared.ty.Ty.{Ty}
use Rattle.formula_core.specs.declared.ty.Ty.TheVariants.{Pow, Given}
use Rattle.model_core.specs.declared.fault.Fault.{Fault}
use Rattle.model_core.specs.declared.component.RawLabelled.{RawLabelled}
use Rattle.model_core.specs.declared.checked.Checked.{Checked}
use Rattle.model_core.specs.declared.checked.Checked.TheVariants.{Context}
use Rattle.model_core.specs.declared.checked.CheckedContext.{CheckedContext}
use Rattle.model_core.specs.declared.checked.Labelled.{Labelled}
use Rattle.model_core.specs.Faults.{first_by_place}
use Rattle.check_rules.specs.Visible.{Visible, nothing, seen_from, entries, origins, names}
use Rattle.check_rules.specs.Declarations.{LabelAt, declared_twice, brings_clash, labelled_twice}
use Rattle.check_rules.specs.Typed.{Entries, AreTyped, never_typed, in_order}

abbrev pub Outcome : Type 0
Outcome = Result Checked Fault

abbrev pub names_of : List Ref → List (List ℕ)
names_of refs = map (λ r. r.name) refs

abbrev pub labels_of : List RawLabelled → List LabelAt
labels_of labelled = map (λ l. (l.label, l.place)) labelled

abbrev pub carrier_set : Ref → List ℕ × Ty
carrier_set s = (s.name, Pow (Given s.name))

-- kinds 10 and 11
abbrev pub context_declarations : List ℕ → List Ref → List Ref → List RawLabelled → List CheckedContext → List Fault
context_declarations name extends declared axioms parents =
    brings_clash name nothing (zip extends parents)
    ++ declared_twice name (names (entries (seen_from nothing parents).constants)) declared
    ++ labelled_twice name [] (labels_of axioms)

-- the environment in which the first axiom is typed
abbrev pub context_env : List Ref → Visible → Entries
context_env sets v = entries v.constants ++ map carrier_set sets

abbrev pub checked_context_of : List ℕ → List Ref → Visible → List Labelled → Entries → CheckedContext
checked_context_of name declared v axioms env = record {
  name = name;
  ancestors = v.contexts;
  env = entries v.constants ++ in_order env (names_of declared);
  env_of = origins v.constants ++ map (λ r. name) declared;
  axioms = map (λ x. x.0) v.axioms ++ axioms;
  axioms_of = origins v.axioms ++ map (λ l. name) axioms;
  own_from = length v.axioms;
}

-- a checked component, or its first fault
abbrev pub unless : List Fault → Checked → Outcome → Type 0
unless faults checked outcome = MatchOption (first_by_place faults) (outcome ≡ Ok checked) (λ fault. outcome ≡ Err fault)

-- Kinds 13 to 16, or else the context.
abbrev pub ChecksAxioms : List ℕ → List Ref → List Ref → List RawLabelled → Visible → Outcome → Type 0
ChecksAxioms name sets constants axioms v outcome =
    (typed : List Labelled) × (faults : List Fault) × (env : Entries)
    × AreTyped name (context_env sets v) (names_of constants) axioms typed faults env
    × unless (faults ++ never_typed name env constants) (Context (checked_context_of name (sets ++ constants) v typed env)) outcome

-- Kinds 10 and 11, or else what the axioms give.
abbrev pub ChecksContext : List ℕ → List Ref → List Ref → List Ref → List RawLabelled → List CheckedContext → Outcome → Type 0
ChecksContext name extends sets constants axioms parents outcome =
    MatchOption (first_by_place (context_declarations name extends (sets ++ constants) axioms parents))
    (ChecksAxioms name sets constants axioms (seen_from nothing parents) outcome)
    (λ fault. outcome ≡ Err fault)
