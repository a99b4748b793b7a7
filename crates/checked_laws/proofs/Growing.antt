-- Environments with some of the names.
use Rattle.std.proofs.Common.{◌⊎◌, inl, inr, ℕ, Bool, true, false, cond, List, [], ◌∷◌, ◌++◌, Some, is_some}
use Rattle.std.specs.List.{AllByRecursion}
use Rattle.formula_core.specs.declared.ty.Ty.{Ty}
use Rattle.formula_core.specs.Env.{type_in}
use Rattle.formula_core.specs.Laws.{IsWithin}
use Rattle.formula_core.specs.Typed.{Stands}
use Rattle.type_formula.specs.Answers.{with_typed_name}
use Rattle.type_formula.proofs.Named.{all_append, within_name, found_has}
use Rattle.type_action.specs.CoreActions.{with_all}
use Rattle.check_rules.specs.Typed.{Entries}
use Rattle.checked_laws.proofs.Names.{found_in}

added_each : (P : List ℕ × Ty → Type 0) (b : Bool) (env : Entries) (x : List ℕ × Ty) → AllByRecursion P env → P x → AllByRecursion P (cond b env (env ++ x ∷ []))
added_each P true env x h p = h
added_each P false env x h p = all_append P env (x ∷ []) h (p, tt)

pub with_all_each : (P : List ℕ × Ty → Type 0) (env xs : Entries) → AllByRecursion P env → AllByRecursion P xs → AllByRecursion P (with_all env xs)
with_all_each P env [] h k = h
with_all_each P env (x ∷ xs) h k = with_all_each P (with_typed_name env x.0 (Some x.1)) xs (added_each P (is_some (type_in env x.0)) env x h k.0) k.1

pub within_with : (env xs : Entries) → IsWithin env (with_all env xs)
within_with env [] x e = e
within_with env (y ∷ ys) x e = within_with (with_typed_name env y.0 (Some y.1)) ys x (within_name env y.0 (Some y.1) x.0 x.1 e)

added_or : (P : List ℕ × Ty → Type 0) (b : Bool) (env : Entries) (y : List ℕ × Ty) → P y → (x : List ℕ × Ty) → Stands (cond b env (env ++ y ∷ [])) x → Stands env x ⊎ P x
added_or P true env y p x e = inl e
added_or P false env y p x e = elim (found_in env (y ∷ []) x.0 x.1 e) [
  | inl h ↦ inl h
  | inr h ↦ inr (found_has P (y ∷ []) x.0 x.1 (p, tt) h)
]

-- a name of the larger one stands in the first, or is one of those that are added
pub with_all_or : (P : List ℕ × Ty → Type 0) (env xs : Entries) → AllByRecursion P xs → (x : List ℕ × Ty) → Stands (with_all env xs) x → Stands env x ⊎ P x
with_all_or P env [] h x e = inl e
with_all_or P env (y ∷ ys) h x e = elim (with_all_or P (with_typed_name env y.0 (Some y.1)) ys h.1 x e) [
  | inl k ↦ added_or P (is_some (type_in env y.0)) env y h.0 x k
  | inr k ↦ inr k
]
