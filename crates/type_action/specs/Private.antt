-- What only private contracts cite.
use Rattle.std.specs.Prelude.{◌≡◌, List, ◌++◌, ℕ, Option, Some, None, Result, Ok, Err}
use Rattle.formula_core.specs.declared.ty.Ty.{Ty}
use Rattle.formula_core.specs.declared.raw.Action.{Action}
use Rattle.type_formula.specs.declared.predicate.TypeFault.{TypeFault}
use Rattle.type_formula.specs.declared.predicate.TypeFault.TheVariants as fault
use Rattle.type_formula.specs.Unknowns.{first_name_by_place}
use Rattle.type_action.specs.Results.{IsOnly, HasNone, HasTwo}
use Rattle.type_action.specs.CoreActions.{CoreAction, unknowns_of}
use Rattle.type_action.specs.Typings.{IsActionOf}

-- the list that stands behind the old one is the only one
pub record IsAdded {A : Type 0} (P : List A → Type 0) (old new : List A) : Type 0 where
  pub added : List A
  pub is : new ≡ old ++ added
  pub only : IsOnly P added

-- a fault, where no name is unknown
abbrev pub TellsFault : {A : Type 0} → (A → Type 0) → TypeFault → Type 0
TellsFault P fault.Clash = HasNone P
TellsFault P fault.Untyped = HasTwo P
TellsFault P (fault.Unknown x place) = ⊥
TellsFault P fault.OutOfMemory = Unit {0}

-- a fault, where `u` is the first name that is unknown
abbrev pub TellsFaultAfter : {A : Type 0} → Option (List ℕ × ℕ) → (A → Type 0) → TypeFault → Type 0
TellsFaultAfter u P fault.Clash = (u ≡ None) × HasNone P
TellsFaultAfter u P fault.Untyped = (u ≡ None) × HasTwo P
TellsFaultAfter u P (fault.Unknown x place) = u ≡ Some (x, place)
TellsFaultAfter u P fault.OutOfMemory = Unit {0}

abbrev pub TellsAfter : {A : Type 0} → Option (List ℕ × ℕ) → (A → Type 0) → Result A TypeFault → Type 0
TellsAfter u P (Ok a) = (u ≡ None) × IsOnly P a
TellsAfter u P (Err e) = TellsFaultAfter u P e

-- an answer about an action: its first unknown name goes first
abbrev pub TellsAction : List (List ℕ × Ty) → CoreAction → Result Action TypeFault → Type 0
TellsAction env a r = TellsAfter (first_name_by_place (unknowns_of env a)) (IsActionOf env a) r
