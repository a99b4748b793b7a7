-- The core form of a written action, and its unknown names.
use Rattle.std.specs.Prelude.{ℕ, Bool, true, if◌then◌else◌, is_some, List, [], ◌∷◌, ◌++◌, map, Option, Some, None}
use Rattle.std.specs.List.{list_all}
use Rattle.std.specs.Option.{option_map_or}
use Rattle.formula_core.specs.declared.ty.Ty.{Ty}
use Rattle.formula_core.specs.declared.op.Op.TheVariants as op
use Rattle.formula_core.specs.declared.raw.Ref.{Ref}
use Rattle.formula_core.specs.declared.raw.RawAction.{RawAction}
use Rattle.formula_core.specs.declared.raw.RawAction.TheVariants as rawaction
use Rattle.formula_core.specs.Env.{type_in}
use Rattle.formula_core.specs.Formulas.{joined}
use Rattle.formula_core.specs.Names.{is_identifier, prime}
use Rattle.formula_core.specs.Types.{same_type}
use Rattle.type_formula.specs.Answers.{with_typed_name}
use Rattle.type_formula.specs.Bare.{Bare, Identifier, Form}
use Rattle.type_formula.specs.CoreForms.{core_form, single_part, two}
use Rattle.type_formula.specs.Unknowns.{unknowns, first_name_by_place}

-- an action in core form
pub data CoreAction : Type 0 where
  -- the targets, and a value for each
  Assign : List Ref → List Bare → CoreAction
  -- a target, and the set that its value is taken from
  ChooseIn : Ref → Bare → CoreAction
  -- the targets, and the predicate that their values meet
  ChooseSuch : List Ref → Bare → CoreAction

-- `f <+ {x ↦ E}`
abbrev pub overridden : Ref → Bare → Bare → Bare
overridden f x e = Form op.Overriding (two (Identifier f.name f.place) (Form op.SetExtension (single_part (Form op.Maplet (two x e)))))

-- `f(x) ≔ E` is `f ≔ f <+ {x ↦ E}`
abbrev pub core_action : RawAction → CoreAction
core_action (rawaction.Assign targets values) = Assign targets (map core_form values)
core_action (rawaction.Apply target x e) = Assign (target ∷ []) (overridden target (core_form x) (core_form e) ∷ [])
core_action (rawaction.ChooseIn target set) = ChooseIn target (core_form set)
core_action (rawaction.ChooseSuch targets p) = ChooseSuch targets (core_form p)

-- The type of a target, which is an identifier of the environment without a prime.
abbrev pub target_type : List (List ℕ × Ty) → List ℕ → Option Ty
target_type env x = if is_identifier x then type_in env x else None

abbrev pub with_target : List ℕ → Option Ty → List (List ℕ × Ty) → List (List ℕ × Ty)
with_target x (Some t) targets = (x, t) ∷ targets
with_target x None targets = targets

-- the targets that are known, with their types
abbrev pub typed_targets : List (List ℕ × Ty) → List Ref → List (List ℕ × Ty)
typed_targets env [] = []
typed_targets env (r ∷ rs) = with_target r.name (target_type env r.name) (typed_targets env rs)

-- the targets that are unknown, with their places
abbrev pub unknown_targets : List (List ℕ × Ty) → List Ref → List (List ℕ × ℕ)
unknown_targets env [] = []
unknown_targets env (r ∷ rs) = if is_some (target_type env r.name) then unknown_targets env rs else ((r.name, r.place) ∷ unknown_targets env rs)

abbrev pub primed : List ℕ → List ℕ
primed x = x ++ prime ∷ []

-- the targets that are known, with their primes and their types
abbrev pub primed_targets : List (List ℕ × Ty) → List Ref → List (List ℕ × Ty)
primed_targets env targets = map (λ x. (primed x.0, x.1)) (typed_targets env targets)

-- an environment with those of the names that it lacks
abbrev pub with_all : List (List ℕ × Ty) → List (List ℕ × Ty) → List (List ℕ × Ty)
with_all env [] = env
with_all env (x ∷ xs) = with_all (with_typed_name env x.0 (Some x.1)) xs

-- the environment of an action's predicate, in which the targets stand with their primes, too
abbrev pub env_after : List (List ℕ × Ty) → List Ref → List (List ℕ × Ty)
env_after env targets = with_all env (primed_targets env targets)

-- no name stands in the environment with another type than here
abbrev pub agree : List (List ℕ × Ty) → List (List ℕ × Ty) → Bool
agree env = list_all (λ x. option_map_or (same_type x.1) (type_in env x.0) true)

-- the names of an action that are unknown, with their places
abbrev pub unknowns_of : List (List ℕ × Ty) → CoreAction → List (List ℕ × ℕ)
unknowns_of env (Assign targets values) = unknown_targets env targets ++ joined (map (unknowns env [] []) values)
unknowns_of env (ChooseIn target set) = unknown_targets env (target ∷ []) ++ unknowns env [] [] set
unknowns_of env (ChooseSuch targets p) = unknown_targets env targets ++ unknowns (env_after env targets) [] [] p

-- the first name of a written action that is unknown
abbrev pub unknown_in_action : List (List ℕ × Ty) → RawAction → Option (List ℕ × ℕ)
unknown_in_action env raw = first_name_by_place (unknowns_of env (core_action raw))
