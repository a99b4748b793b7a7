-- Names and what they stand for, the nearest first.
use Rattle.std.specs.Prelude.{◌≡◌, ℕ, suc, Bool, true, false, if◌then◌else◌, List, [], ◌∷◌, Option, Some, None, bytes_eq}
use Rattle.formula_core.specs.declared.ty.Ty.{Ty}
use Rattle.formula_core.specs.declared.formula.Formula.{Formula}
use Rattle.formula_core.specs.declared.formula.Formula.TheVariants as formula
use Rattle.type_formula.specs.Bare.{BareBounds, unbound, plain, typed}

abbrev pub Scope : Type 0 → Type 0
Scope A = List (List ℕ × A)

abbrev pub one_further : {A : Type 0} → Option (ℕ × A) → Option (ℕ × A)
one_further None = None
one_further (Some p) = Some (suc p.0, p.1)

-- how many names are nearer than this one, and what it has
abbrev pub position_of : {A : Type 0} → List ℕ → Scope A → Option (ℕ × A)
position_of x [] = None
position_of x (e ∷ es) = if bytes_eq e.0 x then Some (0, e.1) else one_further (position_of x es)

-- the names of a binder, in order, before the names around it
abbrev pub with_names : {A : Type 0} → BareBounds → List A → Scope A → Scope A
with_names (plain x names) (t ∷ ts) scope = with_names names ts ((x, t) ∷ scope)
with_names (typed x written names) (t ∷ ts) scope = with_names names ts ((x, t) ∷ scope)
with_names unbound ts scope = scope
with_names (plain x names) [] scope = scope
with_names (typed x written names) [] scope = scope

abbrev pub IsFree : List ℕ → Option (ℕ × Ty) → Formula → Ty → Type 0
IsFree x None f t = ⊥
IsFree x (Some p) f t = (f ≡ formula.Free x t) × (t ≡ p.1)

-- a bound name, or else a free one
abbrev pub IsName : List ℕ → Option (ℕ × Ty) → Option (ℕ × Ty) → Formula → Ty → Type 0
IsName x (Some p) free f t = (f ≡ formula.Bound p.0 t) × (t ≡ p.1)
IsName x None free f t = IsFree x free f t

abbrev pub has_name : {A : Type 0} → List ℕ → Scope A → Bool
has_name x [] = false
has_name x (e ∷ es) = if bytes_eq e.0 x then true else has_name x es
