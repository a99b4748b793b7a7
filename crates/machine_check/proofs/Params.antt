-- The parameters of abstract events, one event after another.
use Rattle.std.proofs.Common.{◌&&◌, ◌≡◌, ◌<◌, ◌+◌, ◌∙◌, sym, ap, refl, ℕ, Bool, List, [], ◌∷◌, ◌++◌, map, drop, length, get_or, Some}
use Rattle.std.specs.Borrow.{Bor}
use Rattle.std.specs.List.{filter}
use Rattle.std.proofs.lemmas.List.{map-append}
use Rattle.formula_core.specs.declared.ty.Ty.{Ty}
use Rattle.formula_core.specs.Names.{is_identifier}
use Rattle.formula_core.specs.Formulas.{joined}
use Rattle.type_action.specs.CoreActions.{with_all, primed}
use Rattle.type_formula.specs.Answers.{with_typed_name}
use Rattle.model_core.specs.declared.checked.CheckedEvent.{CheckedEvent}
use Rattle.check_rules.specs.Typed.{Entries}
use Rattle.machine_check.specs.PrivateTyped.{primed_known}
use Rattle.model_core.proofs.Lists.{at_index, filter_append}
use Rattle.machine_check.proofs.Assigned.{joined_append}

pub with_all_append : (env xs ys : List (List ℕ × Ty)) → with_all env (xs ++ ys) ≡ with_all (with_all env xs) ys
with_all_append env [] ys = refl
with_all_append env (x ∷ xs) ys = with_all_append (with_typed_name env x.0 (Some x.1)) xs ys

abbrev pub params_of : List (Bor CheckedEvent) → List (List ℕ × Ty)
params_of events = joined (map (λ a. a.now.params) events)

params_at : (events : List (Bor CheckedEvent)) (i : ℕ) (x : Bor CheckedEvent) → i < length events → x ≡ get_or events i x → params_of (drop i events) ≡ x.now.params ++ params_of (drop (i + 1) events)
params_at events i x lt is = ap params_of (at_index events i x lt is)

-- the parameters of one event more are added, of those that pass
pub added_at : (test : List ℕ × Ty → Bool) (events : List (Bor CheckedEvent)) (i : ℕ) (x : Bor CheckedEvent) (env next : List (List ℕ × Ty)) → i < length events → x ≡ get_or events i x →
    next ≡ with_all env (filter test x.now.params) → with_all next (filter test (params_of (drop (i + 1) events))) ≡ with_all env (filter test (params_of (drop i events)))
added_at test events i x env next lt is e =
    ap (λ n. with_all n (filter test (params_of (drop (i + 1) events)))) e
    ∙ sym (with_all_append env (filter test x.now.params) (filter test (params_of (drop (i + 1) events))))
    ∙ ap (with_all env) (sym (filter_append test x.now.params (params_of (drop (i + 1) events))))
    ∙ ap (λ ps. with_all env (filter test ps)) (sym (params_at events i x lt is))

-- the events behind the references
pub behind : (events : List (Bor CheckedEvent)) → params_of events ≡ joined (map (λ a. a.params) (map (λ x. x.now) events))
behind [] = refl
behind (x ∷ xs) = ap (λ ps. x.now.params ++ ps) (behind xs)

pub primed_append : (known : List ℕ → Bool) (xs ys : Entries) → primed_known known (xs ++ ys) ≡ primed_known known xs ++ primed_known known ys
primed_append known xs ys =
    ap (map (λ x. (primed x.0, x.1))) (filter_append (λ x. is_identifier x.0 && known x.0) xs ys)
    ∙ map-append (λ x. (primed x.0, x.1)) (filter (λ x. is_identifier x.0 && known x.0) xs) (filter (λ x. is_identifier x.0 && known x.0) ys)

pub params_append : (xs ys : List (Bor CheckedEvent)) → params_of (xs ++ ys) ≡ params_of xs ++ params_of ys
params_append xs ys = ap joined (map-append (λ a. a.now.params) xs ys) ∙ joined_append (map (λ a. a.now.params) xs) (map (λ a. a.now.params) ys)
