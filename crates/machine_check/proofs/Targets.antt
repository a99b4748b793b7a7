-- The targets of actions, and the names that they assign.
use Rattle.std.proofs.Common.{◌≡◌, ◌<◌, ◌+◌, ◌∙◌, sym, ap, subst, refl, ℕ, Bool, true, false, not, ◌||◌, ◌&&◌, List, [], ◌∷◌, ◌++◌, map, take, length, get_or, Option, bytes_eq}
use Rattle.std.specs.Prelude.{if◌then◌else◌}
use Rattle.std.specs.List.{list_any, list_all, filter}
use Rattle.std.proofs.lemmas.List.{map-append}
use Rattle.formula_core.specs.declared.raw.Ref.{Ref}
use Rattle.formula_core.specs.declared.ty.Ty.{Ty}
use Rattle.formula_core.specs.declared.formula.Formula.{Formula}
use Rattle.formula_core.specs.declared.raw.Action.{Action}
use Rattle.formula_core.specs.declared.raw.Action.TheVariants as action
use Rattle.formula_core.specs.Formulas.{joined}
use Rattle.model_core.specs.declared.component.RawStep.{RawStep}
use Rattle.model_core.specs.declared.fault.Fault.{Fault}
use Rattle.model_core.specs.declared.fault.FaultKind.TheVariants as kind
use Rattle.model_core.specs.Each.{at_each, is_among}
use Rattle.model_core.specs.Faults.{earlier, first_by_place, fault_at}
use Rattle.model_core.proofs.Firsts.{first_append}
use Rattle.model_core.proofs.Lists.{any_append, any_map}
use Rattle.check_rules.specs.Declarations.{LabelAt}
use Rattle.check_rules.specs.Typed.{LabelledAction}
use Rattle.check_rules.specs.Events.{is_initialisation}
use Rattle.check_rules.specs.Assignments.{BothEvents, written_targets, targets_in, assigned, all_assigned, inherited_targets, free_names_of, names_on_right, no_variable_row, no_variables, assigned_twice_row, assigned_twice, bad_starts, assignment_faults}
use Rattle.machine_check.specs.PrivateEvents.{no_variable_at, no_variable_in, assigned_twice_in, bad_starts_in}
use Rattle.context_check.specs.Texts.{ref_mark, repeated_row, repeated}
use Rattle.context_check.proofs.Copied.{map-id}
use Rattle.context_check.proofs.Repeated.{each_map}
use Rattle.machine_check.proofs.Assigned.{joined_more}

pub targets_more : (steps items : List RawStep) (i : ℕ) (s : RawStep) (marks next : List LabelAt) (targets : List Ref) → items ≡ steps → i < length items → s ≡ get_or items i s →
    marks ≡ map ref_mark (joined (map (λ s. written_targets s.action) (take i steps))) → targets ≡ written_targets s.action → next ≡ marks ++ map ref_mark targets →
    next ≡ map ref_mark (joined (map (λ s. written_targets s.action) (take (i + 1) steps)))
targets_more steps items i s marks next targets e lt is h t n =
    n ∙ (λ k. h k ++ map ref_mark (t k)) ∙ sym (map-append ref_mark (joined (map (λ s. written_targets s.action) (take i steps))) (written_targets s.action))
    ∙ ap (map ref_mark) (sym (more steps (subst (λ xs. i < length xs) e lt) (is ∙ ap (λ xs. get_or xs i s) e)))
  where
    more : (xs : List RawStep) → i < length xs → s ≡ get_or xs i s →
        joined (map (λ s. written_targets s.action) (take (i + 1) xs)) ≡ joined (map (λ s. written_targets s.action) (take i xs)) ++ written_targets s.action
    more xs lt is =
        ap (λ ys. joined (map (λ s. written_targets s.action) ys)) (sym (map-id (take (i + 1) xs)))
        ∙ joined_more (λ s. written_targets s.action) (λ x. x) xs i s lt is
        ∙ ap (λ ys. joined (map (λ s. written_targets s.action) ys) ++ written_targets s.action) (map-id (take i xs))

pub assigned_pairs : (a : Action) (ps items : List (List ℕ × Formula)) → a ≡ action.Assign ps → items ≡ ps → (x : List ℕ) → list_any (λ p. bytes_eq x p.0) items ≡ is_among (assigned a) x
assigned_pairs a ps items e i x = ap (list_any (λ p. bytes_eq x p.0)) i ∙ sym (any_map (bytes_eq x) (λ p. p.0) ps) ∙ ap (λ b. is_among (assigned b) x) (sym e)

pub assigned_such : (a : Action) (ps : List (List ℕ × Ty)) (f : Formula) (items : List (List ℕ × Ty)) → a ≡ action.ChooseSuch ps f → items ≡ ps → (x : List ℕ) →
    list_any (λ p. bytes_eq x p.0) items ≡ is_among (assigned a) x
assigned_such a ps f items e i x = ap (list_any (λ p. bytes_eq x p.0)) i ∙ sym (any_map (bytes_eq x) (λ p. p.0) ps) ∙ ap (λ b. is_among (assigned b) x) (sym e)

pub all_assigned_any : (actions : List LabelledAction) (x : List ℕ) → list_any (λ a. is_among (assigned a.1) x) actions ≡ is_among (all_assigned actions) x
all_assigned_any [] x = refl
all_assigned_any (a ∷ actions) x =
    ap (λ b. is_among (assigned a.1) x || b) (all_assigned_any actions x) ∙ sym (any_append (bytes_eq x) (assigned a.1) (all_assigned actions))

pub all_map : {X Y : Type 0} (test : Y → Bool) (f : X → Y) (xs : List X) → list_all test (map f xs) ≡ list_all (λ x. test (f x)) xs
all_map test f [] = refl
all_map test f (x ∷ xs) = ap (λ b. test (f x) && b) (all_map test f xs)

pub reads_pairs : (known : List ℕ → Bool) (a : Action) (ps items : List (List ℕ × Formula)) → a ≡ action.Assign ps → items ≡ ps →
    list_any (λ p. list_any known (free_names_of p.1)) items ≡ list_any known (names_on_right a)
reads_pairs known a ps items e i = ap (list_any (λ p. list_any known (free_names_of p.1))) i ∙ all ps ∙ ap (λ b. list_any known (names_on_right b)) (sym e)
  where
    all : (ps : List (List ℕ × Formula)) → list_any (λ p. list_any known (free_names_of p.1)) ps ≡ list_any known (joined (map free_names_of (map (λ p. p.1) ps)))
    all [] = refl
    all (p ∷ ps) = ap (λ b. list_any known (free_names_of p.1) || b) (all ps) ∙ sym (any_append known (free_names_of p.1) (joined (map free_names_of (map (λ p. p.1) ps))))

pub twice_is : (component : List ℕ) (e : BothEvents) (known : List ℕ → Bool) (marks : List LabelAt) → ((x : List ℕ) → known x ≡ is_among (inherited_targets e.1) x) →
    marks ≡ map ref_mark (targets_in e.0) → repeated kind.AssignedTwice component known marks ≡ assigned_twice_in component e
twice_is component e known marks h m = λ i. repeated kind.AssignedTwice component (λ x. h x i) (m i)

if_not : {X : Type 0} (b : Bool) (xs ys : List X) → (if not b then xs else ys) ≡ (if b then ys else xs)
if_not true xs ys = refl
if_not false xs ys = refl

no_variable_rows : (component : List ℕ) (variables : List (List ℕ)) (before targets : List Ref) →
    joined (map (no_variable_at component (is_among variables)) (map ref_mark targets)) ≡ at_each (no_variable_row component variables) before targets
no_variable_rows component variables before [] = refl
no_variable_rows component variables before (r ∷ targets) =
    (λ i. if_not (is_among variables r.name) (fault_at component kind.NoVariable r.place r.name ∷ []) [] i ++ no_variable_rows component variables (before ++ r ∷ []) targets i)

no_variables_are : (component : List ℕ) (variables : List (List ℕ)) (events : List BothEvents) →
    joined (map (no_variable_in component (is_among variables)) events) ≡ no_variables component variables (map (λ e. e.0) events)
no_variables_are component variables [] = refl
no_variables_are component variables (e ∷ events) = λ i. no_variable_rows component variables [] (targets_in e.0) i ++ no_variables_are component variables events i

map-map : (rs : List Ref) → map (λ b. b.0) (map ref_mark rs) ≡ map (λ b. b.name) rs
map-map [] = refl
map-map (r ∷ rs) = ap (λ ns. r.name ∷ ns) (map-map rs)

twice_rows : (component : List ℕ) (e : BothEvents) → assigned_twice_in component e ≡ at_each (assigned_twice_row component (inherited_targets e.1)) [] (targets_in e.0)
twice_rows component e =
    sym (each_map (repeated_row kind.AssignedTwice component (is_among (inherited_targets e.1))) ref_mark [] (targets_in e.0))
    ∙ (λ i. at_each (λ b r. if is_among (inherited_targets e.1) r.name || is_among (map-map b i) r.name then fault_at component kind.AssignedTwice r.place r.name ∷ [] else []) [] (targets_in e.0))

pub assignments_are : (component : List ℕ) (heading : ℕ) (own variables : List (List ℕ)) (events : List BothEvents) (known : List ℕ → Bool) (unknown twice start : Option Fault) →
    ((x : List ℕ) → known x ≡ is_among variables x) →
    unknown ≡ first_by_place (joined (map (no_variable_in component known) events)) →
    twice ≡ first_by_place (joined (map (assigned_twice_in component) events)) →
    start ≡ first_by_place (bad_starts_in component heading own known (filter (λ e. is_initialisation e.0) events)) →
    earlier (earlier unknown twice) start ≡ first_by_place (assignment_faults component heading own variables events)
assignments_are component heading own variables events known unknown twice start h u t s =
    (λ i. earlier (earlier (unknown_is i) (twice_are i)) (start_is i))
    ∙ ap (λ f. earlier f (first_by_place starts)) (sym (first_append (no_variables component variables (map (λ e. e.0) events)) (assigned_twice component events)))
    ∙ sym (first_append (no_variables component variables (map (λ e. e.0) events) ++ assigned_twice component events) starts)
  where
    starts : List Fault
    starts = bad_starts component heading own variables (filter (λ e. is_initialisation e.0) events)

    unknown_is : unknown ≡ first_by_place (no_variables component variables (map (λ e. e.0) events))
    unknown_is = u ∙ (λ i. first_by_place (joined (map (no_variable_in component (λ x. h x i)) events))) ∙ ap first_by_place (no_variables_are component variables events)

    twice_are : twice ≡ first_by_place (assigned_twice component events)
    twice_are = t ∙ (λ i. first_by_place (joined (map (λ e. twice_rows component e i) events)))

    start_is : start ≡ first_by_place starts
    start_is = s ∙ (λ i. first_by_place (bad_starts_in component heading own (λ x. h x i) (filter (λ e. is_initialisation e.0) events)))
