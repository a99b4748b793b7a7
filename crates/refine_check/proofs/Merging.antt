-- Merged events, by references to them.
use Rattle.std.proofs.Common.{◌≡◌, ◌∙◌, ◌+◌, ◌<◌, ap, refl, sym, ℕ, Bool, not, ◌||◌, List, [], ◌∷◌, map, take, length, get_or}
use Rattle.std.specs.Prelude.{Option}
use Rattle.std.specs.Borrow.{Bor}
use Rattle.std.specs.BTreeMap.{BTreeMap}
use Rattle.std.specs.List.{list_all, list_any}
use Rattle.formula_core.specs.declared.raw.Ref.{Ref}
use Rattle.formula_core.specs.Formulas.{joined}
use Rattle.formula_core.specs.Same.{same_actions}
use Rattle.model_core.specs.declared.fault.Fault.{Fault}
use Rattle.model_core.specs.declared.checked.CheckedEvent.{CheckedEvent}
use Rattle.model_core.specs.Each.{at_each, is_among}
use Rattle.model_core.specs.Faults.{earlier, first_by_place}
use Rattle.model_core.proofs.Firsts.{each_more, taken_more}
use Rattle.check_rules.specs.Visible.{names}
use Rattle.check_rules.specs.Typed.{Entries}
use Rattle.check_rules.specs.Refinements.{without_labels, first_actions, has_other_type, differs_in_merge, merged_differ_row}
use Rattle.refine_check.specs.declared.param_types.Known.{Known}
use Rattle.refine_check.specs.Private.{found_at, is_other_there, HasTypesOf}
use Rattle.refine_check.proofs.Converging.{all_map}
use Rattle.refine_check.proofs.Faults.{both, map-append}

abbrev Found : Type 0
Found = List (Bor Ref × Bor CheckedEvent)

any_same : {X : Type 0} (t u : X → Bool) → ((x : X) → t x ≡ u x) → (xs : List X) → list_any t xs ≡ list_any u xs
any_same t u h [] = refl
any_same t u h (x ∷ xs) = λ i. h x i || any_same t u h xs i

pub differs_is : (kept : List (List ℕ)) (before : Found) (types : BTreeMap (Bor (List ℕ)) Known) (reference : Ref) (event : CheckedEvent) (params : Entries) (same all other : Bool) →
    HasTypesOf types (found_at before) → params ≡ event.params →
    same ≡ same_actions (first_actions (found_at before) (reference, event)) (without_labels event.actions) → all ≡ list_all (λ p. is_among kept p.0) params →
    other ≡ list_any (is_other_there types) params →
    (not same || not all || other) ≡ differs_in_merge kept (found_at before) (reference, event)
differs_is kept before types reference event params same all other h p s a o =
    let all_is : all ≡ list_all (is_among kept) (names event.params) = a ∙ sym (all_map (is_among kept) (λ x. x.0) params) ∙ ap (λ ps. list_all (is_among kept) (names ps)) p in
    let other_is : other ≡ list_any (has_other_type (joined (map (λ b. b.1.params) (found_at before)))) event.params =
    o ∙ any_same _ _ h params ∙ ap (list_any (has_other_type (joined (map (λ b. b.1.params) (found_at before))))) p in
    λ i. not (s i) || not (all_is i) || other_is i

-- one more of the merged events
pub difference_more : (component : List ℕ) (kept : List (List ℕ)) (found : Found) (i : ℕ) (x : Bor Ref × Bor CheckedEvent) (first here : Option Fault) → i < length found → x ≡ get_or found i x →
    first ≡ first_by_place (at_each (merged_differ_row component kept) [] (found_at (take i found))) →
    here ≡ first_by_place (merged_differ_row component kept (found_at (take i found)) (x.0.now, x.1.now)) →
    earlier first here ≡ first_by_place (at_each (merged_differ_row component kept) [] (found_at (take (i + 1) found)))
difference_more component kept found i x first here lt is e f =
    both (at_each (merged_differ_row component kept) [] (found_at (take i found))) (merged_differ_row component kept (found_at (take i found)) (x.0.now, x.1.now)) first here e f
    ∙ ap first_by_place (sym (each_more (merged_differ_row component kept) [] (found_at (take i found)) (x.0.now, x.1.now)))
    ∙ ap (λ xs. first_by_place (at_each (merged_differ_row component kept) [] xs)) (sym (ap found_at (taken_more found i x lt is) ∙ map-append (λ y. (y.0.now, y.1.now)) (take i found) (x ∷ [])))
