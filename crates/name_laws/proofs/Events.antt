-- The obligations of an event have different names.
use Rattle.std.proofs.Common.{◌≡◌, ◌∙◌, sym, ap, subst, refl, inl, inr, not, ◌&&◌, ◌||◌, ◌==◌, map, ℕ, Bool, true, false, List, [], ◌∷◌, ◌++◌, take, drop, bytes_eq}
use Rattle.std.specs.Prelude.{if◌then◌else◌, codes, Option, Some}
use Rattle.std.specs.Option.{option_to_list}
use Rattle.std.specs.List.{AllByRecursion, IsDistinct, list_all, list_any}
use Rattle.std.specs.Map.{keys_of}
use Rattle.std.proofs.lemmas.Bool.Decides.{Decides-eqb}
use Rattle.formula_core.specs.declared.ty.Ty.{Ty}
use Rattle.formula_core.specs.declared.formula.Formula.{Formula}
use Rattle.formula_core.specs.declared.raw.Action.{Action}
use Rattle.formula_core.specs.declared.raw.Action.TheVariants.{Assign, ChooseIn, ChooseSuch}
use Rattle.formula_core.specs.Env.{type_in}
use Rattle.formula_core.specs.Formulas.{substituted}
use Rattle.formula_core.specs.Same.{same_action}
use Rattle.formula_core.specs.Types.{is_integer}
use Rattle.formula_core.specs.Wellness.{type_of}
use Rattle.type_formula.proofs.Named.{all_each}
use Rattle.well_defined.specs.Conditions.{wd_of}
use Rattle.well_defined.specs.Predicates.{conjunction, disjunction, member, not_empty}
use Rattle.model_core.specs.declared.checked.Labelled.{Labelled}
use Rattle.model_core.specs.declared.checked.CheckedEvent.{CheckedEvent}
use Rattle.model_core.specs.declared.checked.CheckedMachine.{CheckedMachine}
use Rattle.model_core.specs.Components.{is_ordinary, is_convergent}
use Rattle.model_core.specs.Each.{IsIn, for_each, is_among}
use Rattle.sequent_core.specs.declared.sequent.Obligation.{Obligation}
use Rattle.po_rules.specs.Parts.{EventParts, path_with, formulas, initialises, is_extended, actions_of, actions_of_first, as_term, new_values, machine_hyps, after_pairs, primed_values, parts_of}
use Rattle.formula_core.specs.Names.{with_prime}
use Rattle.po_rules.specs.Rows.{needed, of_kind, from_base, from_choices, from_witnesses, chain, for_some_of, equal_terms, labelled_rows, guard_rows, witness_row, witness_rows, conditions, strengthening_rows, merging_rows, action_condition, feasible, action_row, action_rows, simulated, simulation_row, simulation_rows, kept_variables, equality_row, equality_rows, is_changed, invariant_row, invariant_rows, was_convergent, decrease, naturals, decrease_rows}
use Rattle.po_rules.specs.Tables.{EventRow, guards, witnesses, strengthening, merging, actions, simulation, equality, invariants, variant, all_rows, row_of_event}
use Rattle.name_laws.specs.Labels.{IsPlain, labels, action_labels, names_of_witnesses, own_invariants, HasPlainNamesInEvent, HasDistinctLabelsInEvent}
use Rattle.name_laws.proofs.Lists.{AreKeyedOnce, never, differ, all_map, all_unmap, all_two, all_drop, all_filter, all_told, once_front, once_back, once_apart, once_drop, once_filter, keyed_once, map_map, among_self, not_among}
use Rattle.name_laws.proofs.Calls.{Parts, AreCalled, AreApart, OfSome, Begins, none_called, called_as, if_called, keyed_called, for_keys, for_apart, for_option, plain_kind, word_called, part_called, one_called, two_called, exactly, words_called, labelled_called}

-- The row of an event's obligation, by what stands behind the event in its name. WD has a label of a guard or of an action.
abbrev number_of_kind : List ℕ → ℕ
number_of_kind w =
    if bytes_eq w (codes "THM") then 0
    else (if bytes_eq w (codes "WWD") then 1
    else (if bytes_eq w (codes "WFIS") then 1
    else (if bytes_eq w (codes "GRD") then 2
    else (if bytes_eq w (codes "FIS") then 4
    else (if bytes_eq w (codes "SIM") then 5
    else (if bytes_eq w (codes "EQL") then 6
    else 7))))))

abbrev row_of : (List ℕ → Bool) → Parts → ℕ
row_of is_guard [] = 9
row_of is_guard (w ∷ []) = if bytes_eq w (codes "MRG") then 3 else 8
row_of is_guard (k ∷ w ∷ []) = if bytes_eq w (codes "WD") then (if is_guard k then 0 else 4) else number_of_kind w
row_of is_guard (k ∷ l ∷ m ∷ w) = 9

abbrev number : EventRow → ℕ
number guards = 0
number witnesses = 1
number strengthening = 2
number merging = 3
number actions = 4
number simulation = 5
number equality = 6
number invariants = 7
number variant = 8

-- Of a component's obligation: that of its variant, of its own axioms or invariants, or of its events.
abbrev pub place_of : Parts → ℕ
place_of [] = 3
place_of (w ∷ []) = 0
place_of (k ∷ w ∷ []) = if bytes_eq w (codes "WD") then 1 else (if bytes_eq w (codes "THM") then 1 else 2)
place_of (k ∷ l ∷ w ∷ more) = 2

abbrev pub IsBehindEvent : Parts → Type 0
IsBehindEvent c = (event : List ℕ) → place_of (event ∷ c) ≡ 2

abbrev IsInRow : (List ℕ → Bool) → ℕ → Parts → Type 0
IsInRow is_guard n c = (row_of is_guard c ≡ n) × IsBehindEvent c

all_differ : List EventRow → Bool
all_differ [] = true
all_differ (x ∷ xs) = list_all (λ y. not (number x == number y)) xs && all_differ xs

and_both : (a b : Bool) → (a && b) ≡ true → (a ≡ true) × (b ≡ true)
and_both true b e = (refl, e)
and_both false b e = absurd (unequal e)
  where
    unequal : false ≡ true → ⊥
    unequal e = cc

others_differ : (x y : EventRow) (rows : List EventRow) → list_all (λ z. not (number x == number z)) rows ≡ true → IsIn y rows → not (number x == number y) ≡ true
others_differ x y [] e i = absurd i
others_differ x y (z ∷ rows) e i =
    let b = and_both (not (number x == number z)) (list_all (λ u. not (number x == number u)) rows) e in
    elim i [ inl same ↦ subst (λ u. not (number x == number u) ≡ true) (sym same) b.0 | inr more ↦ others_differ x y rows b.1 more ]

pub numbers_tell : (a b : ℕ) → not (a == b) ≡ true → a ≡ b → ⊥
numbers_tell a b e same = never (sym e ∙ ap not ((Decides-eqb a b).1 same))

rows_apart : (is_guard : List ℕ → Bool) (rows : List EventRow) → all_differ rows ≡ true → AreApart (λ row. IsInRow is_guard (number row)) rows
unfolding all_differ
rows_apart is_guard [] e = tt
rows_apart is_guard (x ∷ rows) e =
    let b = and_both (list_all (λ y. not (number x == number y)) rows) (all_differ rows) e in
    ((λ y i c h k. numbers_tell (number x) (number y) (others_differ x y rows b.0 i) (sym h.0 ∙ k.0)), rows_apart is_guard rows b.1)

all_rows_differ : all_differ all_rows ≡ true
unfolding all_differ
all_rows_differ = refl

abbrev pub IsGoodEvent : CheckedEvent → Type 0
IsGoodEvent e = HasPlainNamesInEvent e × HasDistinctLabelsInEvent e

module _ (m : CheckedMachine) (abstraction : Option CheckedMachine) (e : CheckedEvent) (refined : List CheckedEvent) (good : IsGoodEvent e)
    (all_good : AllByRecursion IsGoodEvent refined) (plain_invariants : AllByRecursion IsPlain (labels (own_invariants m)))
    (once_invariants : AreKeyedOnce (λ i. i.label) (own_invariants m)) (plain_variables : AllByRecursion IsPlain m.variables) (once_variables : AreKeyedOnce (λ v. v) m.variables) where
  abbrev p : EventParts
  p = parts_of m e refined

  abbrev path : List ℕ
  path = path_with m.name e.name

  abbrev own_guards : List Labelled
  own_guards = drop e.own_guards_from e.guards

  abbrev own_actions : List (List ℕ × Action)
  own_actions = drop e.own_actions_from e.actions

  abbrev is_guard : List ℕ → Bool
  is_guard = is_among (labels own_guards)

  abbrev In : ℕ → Parts → Type 0
  In n = IsInRow is_guard n

  abbrev choice_hyps : List Formula
  choice_hyps = p.base ++ p.choices

  abbrev all_hyps : List Formula
  all_hyps = p.base ++ p.choices ++ map (λ w. w.1) p.witnesses

  -- `e/k/KIND`
  part : (key word : List ℕ) (hyps : List Formula) (goal : Formula) → IsPlain key → IsPlain word → AreCalled path (λ c. c ≡ key ∷ word ∷ []) (needed (path_with path (path_with key word)) p.env hyps goal)
  part key word hyps goal h k = part_called path key word p.env hyps goal h k

  only : (key word : List ℕ) (n : ℕ) (hyps : List Formula) (goal : Formula) → IsPlain key → IsPlain word → In n (key ∷ word ∷ []) → AreCalled path (Begins key (In n)) (needed (path_with path (path_with key word)) p.env hyps goal)
  only key word n hyps goal h k is = one_called path key word (In n) (needed (path_with path (path_with key word)) p.env hyps goal) is (part key word hyps goal h k)

  guards_once : AreKeyedOnce (λ g. g.label) own_guards
  guards_once = keyed_once (λ g. g.label) own_guards (once_drop (λ g. g.label) e.own_guards_from e.guards (once_front (labels e.guards) (action_labels e.actions) good.1.labels))

  guards_plain : AllByRecursion (λ g. IsPlain g.label × (is_guard g.label ≡ true)) own_guards
  guards_plain = all_two (λ g. IsPlain g.label) (λ g. is_guard g.label ≡ true) (λ g. IsPlain g.label × (is_guard g.label ≡ true)) own_guards (λ g h k. (h, k))
      (all_drop (λ g. IsPlain g.label) e.own_guards_from e.guards (all_unmap IsPlain (λ g. g.label) e.guards good.0.guards))
      (all_unmap (λ n. is_guard n ≡ true) (λ g. g.label) own_guards (among_self (labels own_guards)))

  guards_called : AreCalled path (In 0) (guard_rows m e p)
  guards_called =
      keyed_called path (λ g. g.label) (In 0) (labelled_rows path p.env (machine_hyps m)) (take e.own_guards_from e.guards) own_guards
      (all_each (λ g. IsPlain g.label × (is_guard g.label ≡ true)) (λ g. (b : List Labelled) → AreCalled path (Begins g.label (In 0)) (labelled_rows path p.env (machine_hyps m) b g)) own_guards
      (λ g h b. labelled_called path (In 0) p.env (machine_hyps m) b g h.0 (ap (λ is. if is then 0 else 4) h.1, λ x. refl) (refl, λ x. refl)) guards_plain) guards_once

  witness_called : (w : List ℕ × Formula) → IsPlain w.0 → AreCalled path (Begins w.0 (In 1)) (witness_row p w)
  witness_called w h =
      let known = for_some_of (map (λ t. (w.0, t)) (option_to_list (type_in p.env w.0))) w.1 in
      two_called path w.0 (codes "WWD") (codes "WFIS") (In 1) (from_choices p (of_kind w.0 (codes "WWD")) (wd_of w.1)) (from_choices p (of_kind w.0 (codes "WFIS")) known)
      (differ (codes "WWD") (codes "WFIS") refl) (refl, λ x. refl) (refl, λ x. refl)
      (part w.0 (codes "WWD") choice_hyps (wd_of w.1) h (plain_kind (codes "WWD") refl)) (part w.0 (codes "WFIS") choice_hyps known h (plain_kind (codes "WFIS") refl))

  names_kept : map (λ w. w.0) p.witnesses ≡ names_of_witnesses e.witnesses
  names_kept = map_map (λ w. w.0) (λ w. (w.0, substituted (primed_values m (after_pairs m e refined)) w.1)) e.witnesses

  witnesses_called : AreCalled path (In 1) (witness_rows p)
  witnesses_called =
      for_keys path (λ w. w.0) (In 1) (witness_row p) p.witnesses
      (all_each (λ w. IsPlain w.0) (λ w. AreCalled path (Begins w.0 (In 1)) (witness_row p w)) p.witnesses witness_called
      (all_unmap IsPlain (λ w. w.0) p.witnesses (subst (AllByRecursion IsPlain) (sym names_kept) good.0.witnesses)))
      (keyed_once (λ w. w.0) p.witnesses (subst (λ ns. IsDistinct bytes_eq ns) (sym names_kept) good.1.witnesses))

  strengthening_called : (rs : List CheckedEvent) → AllByRecursion IsGoodEvent rs → AreCalled path (In 2) (strengthening_rows e rs p)
  strengthening_called [] h = none_called path (In 2)
  strengthening_called (r ∷ s ∷ rs) h = none_called path (In 2)
  strengthening_called (r ∷ []) h =
      let row : Labelled → List Obligation = λ g. from_witnesses p (of_kind g.label (codes "GRD")) g.formula in
      if_called path (In 2) (is_extended e) [] (for_each row (conditions r)) (none_called path (In 2))
      (for_keys path (λ g. g.label) (In 2) row (conditions r)
      (all_each (λ g. IsPlain g.label) (λ g. AreCalled path (Begins g.label (In 2)) (row g)) (conditions r)
      (λ g k. only g.label (codes "GRD") 2 all_hyps g.formula k (plain_kind (codes "GRD") refl) (refl, λ x. refl))
      (all_filter (λ g. not g.theorem) (λ g. IsPlain g.label) r.guards (all_unmap IsPlain (λ g. g.label) r.guards h.0.0.guards)))
      (keyed_once (λ g. g.label) (conditions r) (once_filter (λ g. g.label) (λ g. not g.theorem) r.guards (once_front (labels r.guards) (action_labels r.actions) h.0.1.labels))))

  merging_called : (rs : List CheckedEvent) → AreCalled path (In 3) (merging_rows rs p)
  merging_called [] = none_called path (In 3)
  merging_called (r ∷ []) = none_called path (In 3)
  merging_called (r ∷ s ∷ rs) =
      let goal = chain disjunction (map (λ x. chain conjunction (formulas (conditions x))) (r ∷ s ∷ rs)) in
      exactly path (codes "MRG" ∷ []) (In 3) (from_base p (codes "MRG") goal) (refl, λ x. refl) (word_called path (codes "MRG") p.env p.base goal (plain_kind (codes "MRG") refl))

  feasible_called : (key : List ℕ) (a : Action) → IsPlain key → AreCalled path (λ c. c ≡ key ∷ codes "FIS" ∷ []) (for_each (from_base p (of_kind key (codes "FIS"))) (feasible a))
  feasible_called key (Assign pairs) h = none_called path (λ c. c ≡ key ∷ codes "FIS" ∷ [])
  feasible_called key (ChooseIn x s) h =
      for_option path (λ c. c ≡ key ∷ codes "FIS" ∷ []) (from_base p (of_kind key (codes "FIS"))) (Some (not_empty s)) (λ goal. part key (codes "FIS") p.base goal h (plain_kind (codes "FIS") refl))
  feasible_called key (ChooseSuch targets q) h =
      for_option path (λ c. c ≡ key ∷ codes "FIS" ∷ []) (from_base p (of_kind key (codes "FIS"))) (Some (for_some_of (map with_prime targets) q)) (λ goal. part key (codes "FIS") p.base goal h (plain_kind (codes "FIS") refl))

  action_called : (a : List ℕ × Action) → IsPlain a.0 × (is_guard a.0 ≡ false) → AreCalled path (Begins a.0 (In 4)) (action_row p a)
  action_called a h =
      two_called path a.0 (codes "WD") (codes "FIS") (In 4) (from_base p (of_kind a.0 (codes "WD")) (action_condition a.1)) (for_each (from_base p (of_kind a.0 (codes "FIS"))) (feasible a.1))
      (differ (codes "WD") (codes "FIS") refl) (ap (λ is. if is then 0 else 4) h.1, λ x. refl) (refl, λ x. refl)
      (part a.0 (codes "WD") p.base (action_condition a.1) h.0 (plain_kind (codes "WD") refl)) (feasible_called a.0 a.1 h.0)

  actions_other : AllByRecursion (λ a. is_guard a.0 ≡ false) own_actions
  actions_other = all_drop (λ a. is_guard a.0 ≡ false) e.own_actions_from e.actions
      (all_unmap (λ n. is_guard n ≡ false) (λ a. a.0) e.actions (not_among (labels own_guards) (action_labels e.actions)
      (all_map (λ x. AllByRecursion (λ y. bytes_eq x y ≡ false) (action_labels e.actions)) (λ g. g.label) own_guards
      (all_drop (λ g. AllByRecursion (λ y. bytes_eq g.label y ≡ false) (action_labels e.actions)) e.own_guards_from e.guards
      (all_unmap (λ x. AllByRecursion (λ y. bytes_eq x y ≡ false) (action_labels e.actions)) (λ g. g.label) e.guards (once_apart (labels e.guards) (action_labels e.actions) good.1.labels))))))

  actions_called : AreCalled path (In 4) (action_rows e p)
  actions_called =
      for_keys path (λ a. a.0) (In 4) (action_row p) own_actions
      (all_two (λ a. IsPlain a.0) (λ a. is_guard a.0 ≡ false) (λ a. AreCalled path (Begins a.0 (In 4)) (action_row p a)) own_actions (λ a h k. action_called a (h, k))
      (all_drop (λ a. IsPlain a.0) e.own_actions_from e.actions (all_unmap IsPlain (λ a. a.0) e.actions good.0.actions)) actions_other)
      (keyed_once (λ a. a.0) own_actions (once_drop (λ a. a.0) e.own_actions_from e.actions (once_back (labels e.guards) (action_labels e.actions) good.1.labels)))

  simulation_called : (rs : List CheckedEvent) → AllByRecursion IsGoodEvent rs → AreCalled path (In 5) (simulation_rows m e rs p)
  simulation_called [] h = none_called path (In 5)
  simulation_called (r ∷ rs) h =
      if_called path (In 5) (is_extended e) [] (for_each (simulation_row m e p) r.actions) (none_called path (In 5))
      (for_keys path (λ a. a.0) (In 5) (simulation_row m e p) r.actions
      (all_each (λ a. IsPlain a.0) (λ a. AreCalled path (Begins a.0 (In 5)) (simulation_row m e p a)) r.actions
      (λ a k. if_called path (Begins a.0 (In 5)) (list_any (same_action a.1) (actions_of e)) [] (from_witnesses p (of_kind a.0 (codes "SIM")) (simulated m p a.1)) (none_called path (Begins a.0 (In 5)))
      (only a.0 (codes "SIM") 5 all_hyps (simulated m p a.1) k (plain_kind (codes "SIM") refl) (refl, λ x. refl)))
      (all_unmap IsPlain (λ a. a.0) r.actions h.0.0.actions))
      (keyed_once (λ a. a.0) r.actions (once_back (labels r.guards) (action_labels r.actions) h.0.1.labels)))

  equality_called : (v : List ℕ) → IsPlain v → AreCalled path (Begins v (In 6)) (equality_row abstraction refined p v)
  equality_called v h =
      let row : Ty → List Obligation = λ t. from_witnesses p (of_kind v (codes "EQL")) (equal_terms (substituted p.after (as_term (v, t))) (as_term (v, t))) in
      if_called path (Begins v (In 6))
      (is_among (kept_variables abstraction) v && is_among (keys_of p.after) v && not (is_among (keys_of (for_each new_values (actions_of_first refined))) v))
      (for_each row (option_to_list (type_in p.env v))) []
      (for_option path (Begins v (In 6)) row (type_in p.env v)
      (λ t. only v (codes "EQL") 6 all_hyps (equal_terms (substituted p.after (as_term (v, t))) (as_term (v, t))) h (plain_kind (codes "EQL") refl) (refl, λ x. refl)))
      (none_called path (Begins v (In 6)))

  equalities_called : AreCalled path (In 6) (equality_rows m abstraction refined p)
  equalities_called = for_keys path (λ v. v) (In 6) (equality_row abstraction refined p) m.variables
      (all_each IsPlain (λ v. AreCalled path (Begins v (In 6)) (equality_row abstraction refined p v)) m.variables equality_called plain_variables) once_variables

  invariants_called : AreCalled path (In 7) (invariant_rows m e p)
  invariants_called =
      for_keys path (λ i. i.label) (In 7) (invariant_row e p) (own_invariants m)
      (all_each (λ i. IsPlain i.label) (λ i. AreCalled path (Begins i.label (In 7)) (invariant_row e p i)) (own_invariants m)
      (λ i h. if_called path (Begins i.label (In 7)) (not i.theorem && (initialises e || is_changed p i.formula)) (from_witnesses p (of_kind i.label (codes "INV")) (substituted p.after i.formula)) []
      (only i.label (codes "INV") 7 all_hyps (substituted p.after i.formula) h (plain_kind (codes "INV") refl) (refl, λ x. refl)) (none_called path (Begins i.label (In 7))))
      (all_unmap IsPlain (λ i. i.label) (own_invariants m) plain_invariants)) once_invariants

  variant_called : (v : Formula) → AreCalled path (In 8) (decrease_rows e refined p v)
  variant_called v =
      let nat = from_base p (codes "NAT") (member v naturals) in
      let goal = decrease (is_integer (type_of v)) (is_convergent e.convergence) (substituted p.after v) v in
      let first = if is_integer (type_of v) then nat else [] in
      let falls = from_choices p (codes "VAR") goal in
      if_called path (In 8) (is_ordinary e.convergence || was_convergent e refined) [] (first ++ falls) (none_called path (In 8))
      (words_called path (codes "NAT") (codes "VAR") (In 8) first falls (differ (codes "NAT") (codes "VAR") refl) (refl, λ x. refl) (refl, λ x. refl)
      (if_called path (λ c. c ≡ codes "NAT" ∷ []) (is_integer (type_of v)) nat [] (word_called path (codes "NAT") p.env p.base (member v naturals) (plain_kind (codes "NAT") refl)) (none_called path (λ c. c ≡ codes "NAT" ∷ [])))
      (word_called path (codes "VAR") p.env choice_hyps goal (plain_kind (codes "VAR") refl)))

  row_called : (row : EventRow) → AreCalled path (In (number row)) (row_of_event m abstraction e refined p row)
  row_called guards = guards_called
  row_called witnesses = witnesses_called
  row_called strengthening = strengthening_called refined all_good
  row_called merging = merging_called refined
  row_called actions = actions_called
  row_called simulation = simulation_called refined all_good
  row_called equality = equalities_called
  row_called invariants = invariants_called
  row_called variant = for_option path (In 8) (decrease_rows e refined p) m.variant variant_called

  pub event_called : AreCalled path IsBehindEvent (for_each (row_of_event m abstraction e refined p) all_rows)
  event_called =
      called_as path (OfSome (λ row. In (number row)) all_rows) IsBehindEvent (for_each (row_of_event m abstraction e refined p) all_rows) (λ c h. h.2.1)
      (for_apart path (λ row. In (number row)) (row_of_event m abstraction e refined p) all_rows
      (all_told (λ row. AreCalled path (In (number row)) (row_of_event m abstraction e refined p row)) all_rows (λ row i. row_called row))
      (rows_apart is_guard all_rows all_rows_differ))
