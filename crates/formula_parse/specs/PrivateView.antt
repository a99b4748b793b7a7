-- What the parts of the parser give each other. Private contracts alone cite this.
use Rattle.std.specs.Prelude.{◌≡◌, ℕ, List, [], ◌∷◌, Option, Some, None, Result, Ok, Err, length, ◌≢◌}
use Rattle.formula_core.specs.declared.raw.Raw.{Raw}
use Rattle.formula_core.specs.declared.raw.Ref.{Ref}
use Rattle.formula_parse.specs.declared.frames.Frame.{Frame}
use Rattle.formula_parse.specs.declared.bounds.TypedName.{TypedName}
use Rattle.formula_parse.specs.declared.fault.StepFault.{StepFault}
use Rattle.formula_parse.specs.declared.fault.StepFault.TheVariants as fault
use Rattle.formula_parse.specs.declared.machine.Filled.{Filled}
use Rattle.formula_parse.specs.declared.machine.Filled.TheVariants as filled
use Rattle.formula_parse.specs.Machine.{finished}

abbrev pub Fills : Result Filled StepFault → Frame → Raw → Type 0
Fills (Ok (filled.Whole g u)) f t = finished f t ≡ Some (g, u)
Fills (Ok (filled.Open frame u)) f t = (finished f t ≡ None) × (frame ≡ f) × (u ≡ t)
Fills (Err fault.Refused) f t = ⊥
Fills (Err fault.OutOfMemory) f t = Unit {0}

abbrev pub MatchesName : Option Ref → Option (List ℕ × ℕ) → Type 0
MatchesName (Some r) o = o ≡ Some (r.name, r.place)
MatchesName None o = o ≡ None

abbrev pub ref_of : Option Ref → Option (List ℕ × ℕ)
ref_of (Some r) = Some (r.name, r.place)
ref_of None = None

abbrev pub MatchesTypedName : Option TypedName → Option (List ℕ × ℕ × Raw) → Type 0
MatchesTypedName (Some r) o = o ≡ Some (r.name, r.place, r.ty)
MatchesTypedName None o = o ≡ None

-- the two elements of a list of two
abbrev pub Two : Option (Raw × Raw) → List Raw → Type 0
Two (Some two) parts = parts ≡ two.0 ∷ two.1 ∷ []
Two None parts = length parts ≢ 2
