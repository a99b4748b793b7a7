-- Formulas typed in order: kinds 13 to 16.
use Rattle.std.specs.Prelude.{◌≡◌, ◌⊎◌, ℕ, if◌then◌else◌, List, [], ◌∷◌, Option, Some, None, is_some}
use Rattle.std.specs.List.{filter_map}
use Rattle.std.specs.Option.{option_map}
use Rattle.formula_core.specs.declared.raw.Ref.{Ref}
use Rattle.formula_core.specs.declared.ty.Ty.{Ty}
use Rattle.formula_core.specs.declared.raw.Raw.{Raw}
use Rattle.formula_core.specs.declared.raw.RawAction.{RawAction}
use Rattle.formula_core.specs.declared.raw.RawAction.TheVariants as raw
use Rattle.formula_core.specs.declared.raw.Action.{Action}
use Rattle.formula_core.specs.declared.formula.Formula.{Formula}
use Rattle.formula_core.specs.Env.{type_in}
use Rattle.type_formula.specs.Answers.{IsTheTyping, HasNoTyping, HasTwoTypings, IsTheFormula, HasNoFormula, HasTwoFormulas}
use Rattle.type_formula.specs.CoreForms.{core_form}
use Rattle.type_formula.specs.Unknowns.{unknown_in}
use Rattle.type_action.specs.Answers.{IsActionTyping}
use Rattle.type_action.specs.CoreActions.{unknown_in_action}
use Rattle.type_action.specs.Results.{IsOnly, HasNone, HasTwo}
use Rattle.model_core.specs.declared.fault.Fault.{Fault}
use Rattle.model_core.specs.declared.fault.FaultKind.TheVariants as kind
use Rattle.model_core.specs.declared.component.RawLabelled.{RawLabelled}
use Rattle.model_core.specs.declared.component.RawVariant.{RawVariant}
use Rattle.model_core.specs.declared.component.RawStep.{RawStep}
use Rattle.model_core.specs.declared.checked.Labelled.{Labelled}
use Rattle.model_core.specs.Each.{at_each}
use Rattle.model_core.specs.Faults.{fault_at}

abbrev pub Entries : Type 0
Entries = List (List ℕ × Ty)

abbrev pub place_of_first : List Ref → ℕ
place_of_first [] = 0
place_of_first (r ∷ rs) = r.place

-- the place of an action's first token, which is a target
abbrev pub first_token_of_action : RawAction → ℕ
first_token_of_action (raw.Assign targets values) = place_of_first targets
first_token_of_action (raw.Apply target x e) = target.place
first_token_of_action (raw.ChooseIn target set) = target.place
first_token_of_action (raw.ChooseSuch targets p) = place_of_first targets

-- The fault of a formula or an action that isn't typed.
pub data IsMistyped (component : List ℕ) (unknown : Option (List ℕ × ℕ)) (Clashes IsOpen : Type 0) (first : ℕ) (fault : Fault) : Type 0 where
  -- `NAME is unknown`, at that name
  unknown_name : (name : List ℕ) (place : ℕ) → unknown ≡ Some (name, place) →
      fault ≡ fault_at component kind.Unknown place name → IsMistyped component unknown Clashes IsOpen first fault
  -- `types clash`, at the first token: each name is known, and there is no typing
  types_clash : unknown ≡ None → Clashes →
      fault ≡ fault_at component kind.TypesClash first [] → IsMistyped component unknown Clashes IsOpen first fault
  -- `no single type`, at the first token: each name is known, and there is more than one typing
  no_single_type : unknown ≡ None → IsOpen →
      fault ≡ fault_at component kind.NoSingleType first [] → IsMistyped component unknown Clashes IsOpen first fault

abbrev pub IsMistypedPredicate : List ℕ → Entries → List (List ℕ) → RawLabelled → Fault → Type 0
IsMistypedPredicate component env wanted l fault =
    IsMistyped component (unknown_in env wanted l.formula) (HasNoTyping env wanted l.formula) (HasTwoTypings env wanted l.formula) l.first fault

abbrev pub IsMistypedVariant : List ℕ → Entries → RawVariant → Fault → Type 0
IsMistypedVariant component env v fault =
    IsMistyped component (unknown_in env [] v.formula) (HasNoFormula env [] (core_form v.formula) None)
    (HasTwoFormulas env [] (core_form v.formula) None) v.first fault

abbrev pub IsMistypedAction : List ℕ → Entries → RawAction → Fault → Type 0
IsMistypedAction component env a fault =
    IsMistyped component (unknown_in_action env a) (HasNone (IsActionTyping env a)) (HasTwo (IsActionTyping env a)) (first_token_of_action a) fault

abbrev pub labelled_of : RawLabelled → Formula → Labelled
labelled_of l f = record { label = l.label; theorem = l.theorem; formula = f }

-- no name is unknown, and there is this typing and no other
abbrev pub HasTyping : Entries → List (List ℕ) → Raw → Formula → Entries → Type 0
HasTyping env wanted raw f next = (unknown_in env wanted raw ≡ None) × IsTheTyping env wanted raw f next

-- Each formula has its one typing, and its names are typed in the later ones; or it has a fault and gives none.
abbrev pub AreTyped : List ℕ → Entries → List (List ℕ) → List RawLabelled → List Labelled → List Fault → Entries → Type 0
AreTyped component env wanted [] typed faults last = (typed ≡ []) × (faults ≡ []) × (last ≡ env)
AreTyped component env wanted (l ∷ labelled) typed faults last =
    ((f : Formula) × (next : Entries) × (others : List Labelled) × HasTyping env wanted l.formula f next
    × AreTyped component next wanted labelled others faults last × (typed ≡ labelled_of l f ∷ others))
    ⊎ ((fault : Fault) × (others : List Fault) × IsMistypedPredicate component env wanted l fault
    × AreTyped component env wanted labelled typed others last × (faults ≡ fault ∷ others))

abbrev pub LabelledAction : Type 0
LabelledAction = List ℕ × Action

abbrev pub AreTypedActions : List ℕ → Entries → List RawStep → List LabelledAction → List Fault → Type 0
AreTypedActions component env [] typed faults = (typed ≡ []) × (faults ≡ [])
AreTypedActions component env (s ∷ steps) typed faults =
    ((a : Action) × (others : List LabelledAction) × (unknown_in_action env s.action ≡ None) × IsOnly (IsActionTyping env s.action) a
    × AreTypedActions component env steps others faults × (typed ≡ (s.label, a) ∷ others))
    ⊎ ((fault : Fault) × (others : List Fault) × IsMistypedAction component env s.action fault
    × AreTypedActions component env steps typed others × (faults ≡ fault ∷ others))

abbrev pub IsTypedVariant : List ℕ → Entries → Option RawVariant → Option Formula → List Fault → Type 0
IsTypedVariant component env None typed faults = (typed ≡ None) × (faults ≡ [])
IsTypedVariant component env (Some v) typed faults =
    ((f : Formula) × (unknown_in env [] v.formula ≡ None) × IsTheFormula env [] (core_form v.formula) None f × (typed ≡ Some f) × (faults ≡ []))
    ⊎ ((fault : Fault) × IsMistypedVariant component env v fault × (typed ≡ None) × (faults ≡ fault ∷ []))

-- `NAME has no type`, at its declaration
abbrev pub never_typed_row : List ℕ → Entries → List Ref → Ref → List Fault
never_typed_row component env before r = if is_some (type_in env r.name) then [] else (fault_at component kind.NoType r.place r.name ∷ [])

abbrev pub never_typed : List ℕ → Entries → List Ref → List Fault
never_typed component env refs = at_each (never_typed_row component env) [] refs

-- declared names with their types, in declared order
abbrev pub in_order : Entries → List (List ℕ) → Entries
in_order env declared = filter_map (λ n. option_map (λ t. (n, t)) (type_in env n)) declared
