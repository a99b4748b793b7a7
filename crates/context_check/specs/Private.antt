-- What only private contracts cite.
use Rattle.std.specs.Prelude.{ℕ, Bool, if◌then◌else◌, bytes_eq, List, [], ◌∷◌, ◌++◌, map, Option, Some, None, ◌≡◌, Result, Ok, Err}
use Rattle.std.specs.Borrow.{Bor}
use Rattle.std.specs.List.{IsDistinct}
use Rattle.formula_core.specs.declared.raw.Ref.{Ref}
use Rattle.formula_core.specs.declared.ty.Ty.{Ty}
use Rattle.formula_core.specs.declared.formula.Formula.{Formula}
use Rattle.formula_core.specs.declared.raw.Action.{Action}
use Rattle.type_formula.specs.declared.predicate.TypeFault.{TypeFault}
use Rattle.type_formula.specs.declared.predicate.TypeFault.TheVariants as why
use Rattle.type_action.specs.Answers.{IsActionTyping}
use Rattle.type_action.specs.CoreActions.{unknown_in_action}
use Rattle.type_action.specs.Results.{IsOnly}
use Rattle.model_core.specs.declared.fault.Fault.{Fault}
use Rattle.model_core.specs.declared.fault.FaultKind.TheVariants as kind
use Rattle.model_core.specs.declared.component.RawLabelled.{RawLabelled}
use Rattle.model_core.specs.declared.component.RawStep.{RawStep}
use Rattle.model_core.specs.declared.checked.Labelled.{Labelled}
use Rattle.model_core.specs.Faults.{earlier, fault_at}
use Rattle.check_rules.specs.Contexts.{names_of}
use Rattle.check_rules.specs.Visible.{Identifiers, Visible, entries, names}
use Rattle.check_rules.specs.Typed.{Entries, LabelledAction, HasTyping, labelled_of, IsMistypedPredicate, IsMistypedAction}
use Rattle.context_check.specs.Views.{placed}

-- the names of entries that are seen
abbrev pub placed_names : List (Bor (List ℕ × Ty) × Bor (List ℕ)) → List (List ℕ)
placed_names parts = names (entries (map placed parts))

-- the first name that clashes
abbrev pub first_clashing : (List ℕ → List ℕ → Bool) → Identifiers → Option (List ℕ)
first_clashing clash [] = None
first_clashing clash (x ∷ xs) = if clash x.0.0 x.1 then Some x.0.0 else first_clashing clash xs

-- of the constants and the declared names no two are equal
abbrev pub AreDeclaredOnce : Visible → List Ref → Type 0
AreDeclaredOnce v declared = IsDistinct bytes_eq (names (entries v.constants) ++ names_of declared)

-- the fault that tells why a formula with this first token isn't typed
abbrev pub IsToldBy : List ℕ → ℕ → TypeFault → Fault → Type 0
IsToldBy component first (why.Unknown name place) fault = fault ≡ fault_at component kind.Unknown place name
IsToldBy component first why.Clash fault = fault ≡ fault_at component kind.TypesClash first []
IsToldBy component first why.Untyped fault = fault ≡ fault_at component kind.NoSingleType first []
IsToldBy component first why.OutOfMemory fault = ⊥

abbrev pub IsTypedFormula : List ℕ → Entries → List (List ℕ) → RawLabelled → Result Labelled Fault → Entries → Type 0
IsTypedFormula component env wanted l (Ok typed) next =
    (f : Formula) × HasTyping env wanted l.formula f next × (typed ≡ labelled_of l f)
IsTypedFormula component env wanted l (Err fault) next =
    IsMistypedPredicate component env wanted l fault × (next ≡ env)

abbrev pub IsTypedStep : List ℕ → Entries → RawStep → Result LabelledAction Fault → Type 0
IsTypedStep component env s (Ok typed) =
    (a : Action) × (unknown_in_action env s.action ≡ None) × IsOnly (IsActionTyping env s.action) a
    × (typed ≡ (s.label, a))
IsTypedStep component env s (Err fault) = IsMistypedAction component env s.action fault

-- a typed part is kept, or its fault is if it is earlier
abbrev pub IsCollected : {X : Type 0} → List X → Option Fault → Result X Fault → List X → Option Fault → Type 0
IsCollected old first (Ok x) new last = (new ≡ old ++ x ∷ []) × (last ≡ first)
IsCollected old first (Err fault) new last = (new ≡ old) × (last ≡ earlier first (Some fault))
