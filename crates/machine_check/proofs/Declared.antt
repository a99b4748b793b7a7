-- Names and labels of events that are declared twice.
use Rattle.std.proofs.Common.{◌≡◌, sym, refl, ℕ, Bool, true, false, cond, ◌||◌, List, [], ◌∷◌, ◌++◌, map, Option, Some, None, bytes_eq}
use Rattle.std.specs.Prelude.{if◌then◌else◌}
use Rattle.std.specs.Option.{option_map, option_map_or}
use Rattle.std.specs.List.{filter, filter_map, cons_option}
use Rattle.formula_core.specs.declared.raw.Ref.{Ref}
use Rattle.formula_core.specs.declared.ty.Ty.{Ty}
use Rattle.formula_core.specs.Formulas.{joined}
use Rattle.model_core.specs.declared.fault.Fault.{Fault}
use Rattle.model_core.specs.declared.fault.FaultKind.TheVariants as kind
use Rattle.model_core.specs.declared.component.RawEvent.{RawEvent}
use Rattle.model_core.specs.declared.checked.CheckedEvent.{CheckedEvent}
use Rattle.model_core.specs.Each.{at_each, is_among}
use Rattle.model_core.specs.Faults.{fault_at}
use Rattle.model_core.proofs.Lists.{any_append}
use Rattle.check_rules.specs.Visible.{names}
use Rattle.check_rules.specs.Events.{RefinedAt, event_named, with_event, inherited_params, inherited_labels, event_labels, param_clash_row, event_declarations}
use Rattle.context_check.specs.Texts.{ref_mark}
use Rattle.machine_check.specs.PrivateNames.{clash_of, clash_at, declared_in}
use Rattle.context_check.proofs.Repeated.{declared_from, labelled_from}

cons_cond : (b : Bool) (f : Fault) (n : List ℕ) (ns : List (List ℕ)) (at_name : List ℕ → Fault) (rest : List Fault) → f ≡ at_name n → rest ≡ map at_name ns →
    (if b then f ∷ [] else []) ++ rest ≡ map at_name (cond b (n ∷ ns) ns)
cons_cond true f n ns at_name rest e h = λ i. e i ∷ h i
cons_cond false f n ns at_name rest e h = h

clashes_of : (component : List ℕ) (known : List (List ℕ)) (place : ℕ) (params : List (List ℕ × Ty)) →
    joined (map (clash_of component (is_among known) place) params) ≡ map (λ p. fault_at component kind.DeclaredTwice place p) (filter (is_among known) (names params))
clashes_of component known place [] = refl
clashes_of component known place (p ∷ params) =
    cons_cond (is_among known p.0) (fault_at component kind.DeclaredTwice place p.0) p.0 (filter (is_among known) (names params)) (λ n. fault_at component kind.DeclaredTwice place n)
    (joined (map (clash_of component (is_among known) place) params)) refl (clashes_of component known place params)

one_clash : (component : List ℕ) (known : List (List ℕ)) (r : Ref) (o : Option CheckedEvent) (found : List RefinedAt) (rest : List Fault) →
    ((before : List RefinedAt) → rest ≡ at_each (param_clash_row component known) before found) → (before : List RefinedAt) →
    option_map_or (λ a. joined (map (clash_of component (is_among known) r.place) a.params)) o [] ++ rest
    ≡ at_each (param_clash_row component known) before (cons_option (option_map (λ a. (r, a)) o) found)
one_clash component known r None found rest h before = h before
one_clash component known r (Some a) found rest h before = λ i. clashes_of component known r.place a.params i ++ h (before ++ (r, a) ∷ []) i

clashes_are : (component : List ℕ) (m : List CheckedEvent) (known : List (List ℕ)) (refs : List Ref) (before : List RefinedAt) →
    joined (map (clash_at component m (is_among known)) refs) ≡ at_each (param_clash_row component known) before (filter_map (with_event m) refs)
clashes_are component m known [] before = refl
clashes_are component m known (r ∷ refs) before =
    one_clash component known r (event_named m r.name) (filter_map (with_event m) refs) (joined (map (clash_at component m (is_among known)) refs)) (clashes_are component m known refs) before

pub declared_are : (component : List ℕ) (m : List CheckedEvent) (known : List (List ℕ)) (e : RawEvent) → declared_in component m (is_among known) e ≡ event_declarations component m known e
declared_are component m known e = λ i.
    clashes_are component m known e.refines [] i
    ++ declared_from component (known ++ names (inherited_params m e)) e.params (λ x. is_among known x || is_among (names (inherited_params m e)) x) (map ref_mark e.params)
    (λ x. sym (any_append (bytes_eq x) known (names (inherited_params m e)))) refl i
    ++ labelled_from component (inherited_labels m e) (event_labels e) (is_among (inherited_labels m e)) (event_labels e) (λ x. refl) refl i
