-- Each name that wants a witness has one.
use Rattle.std.proofs.Common.{◌≡◌, ◌∙◌, inl, inr, sym, ap, subst, refl, ℕ, Bool, true, false, not, cond, ◌&&◌, ◌==◌, ◌-◌, nat_le, List, [], ◌∷◌, ◌++◌, map, take, drop, take-append-drop, length, Option, None, IfSome, bytes_eq, option_to_list, slice_get, suc, arith}
use Rattle.std.specs.List.{AllByRecursion, filter, filter_map}
use Rattle.std.specs.Map.{keys_of}
use Rattle.std.specs.Option.{option_map_or}
use Rattle.std.proofs.lemmas.Bool.{le-leb}
use Rattle.formula_core.specs.declared.raw.Ref.{Ref}
use Rattle.formula_core.specs.Formulas.{joined}
use Rattle.formula_core.specs.Names.{prime, is_identifier, is_name}
use Rattle.formula_core.proofs.Texts.{primed_is_name}
use Rattle.type_formula.proofs.Named.{all_append, all_front, all_back, all_each}
use Rattle.type_action.specs.CoreActions.{primed}
use Rattle.model_core.specs.declared.component.RawEvent.{RawEvent}
use Rattle.model_core.specs.declared.component.RawLabelled.{RawLabelled}
use Rattle.model_core.specs.declared.checked.CheckedEvent.{CheckedEvent}
use Rattle.model_core.specs.declared.checked.Labelled.{Labelled}
use Rattle.model_core.specs.Each.{at_each, is_among}
use Rattle.check_rules.specs.Contexts.{names_of}
use Rattle.check_rules.specs.Events.{initialisation, is_initialisation, event_named, with_event, refined, witnesses_of, param_names, abstract_params, lost_params}
use Rattle.check_rules.specs.Refinements.{needed_params, needed_witnesses, all_chosen, abstract_actions, merged_differ_row, merged_differ, missing_witness_row, missing_witnesses}
use Rattle.check_rules.specs.Typed.{Entries, AreTyped}
use Rattle.check_rules.specs.Visible.{names}
use Rattle.checked_laws.proofs.Names.{apart, same_name, or_cases, or_left, or_right, among_sooner, among_self}
use Rattle.checked_laws.proofs.Parts.{never_empty, all_map, all_unmap, all_two, first_none, second_none}
use Rattle.checked_laws.proofs.Declared.{dropped_none}
use Rattle.checked_laws.proofs.Actions.{primed_name}
use Rattle.checked_laws.proofs.Refined.{joined_all, listed, if_all, if_some_each}
use Rattle.checked_laws.proofs.Lost.{AreKept, IsAtMostOne, kept_at, cond_taken, nothing_implied, at_most_ref, none_pass}
use Rattle.checked_laws.proofs.Wanted.{names_with}
use Rattle.checked_laws.proofs.Witnesses.{entries_with}

-- An identifier is a name.

name_by : (n : List ℕ) (b : Bool) → bytes_eq (drop (length n - 1) n) (prime ∷ []) ≡ b → is_identifier n ≡ true → is_identifier (cond b (take (length n - 1) n) n) ≡ true
name_by n true e i =
    let is : n ≡ primed (take (length n - 1) n) = sym (take-append-drop (length n - 1) n) ∙ ap (λ xs. take (length n - 1) n ++ xs) (same_name (drop (length n - 1) n) (prime ∷ []) e) in
    apart (is_identifier n) i (ap is_identifier is ∙ primed_name (take (length n - 1) n))
name_by n false e i = i

pub identifier_is_name : (n : List ℕ) → is_identifier n ≡ true → is_name n ≡ true
identifier_is_name n i = name_by n (bytes_eq (drop (length n - 1) n) (prime ∷ [])) refl i

-- The names that are labels of written witnesses.

missing_at : (component : List ℕ) (event : ℕ) (labels : List (List ℕ)) (before ns : List (List ℕ)) → at_each (missing_witness_row component event labels) before ns ≡ []
    → AllByRecursion (λ n. is_among labels n ≡ true) ns
missing_at component event labels before [] e = tt
missing_at component event labels before (n ∷ ns) e = (
  dropped_none (is_among labels n) _ (first_none (missing_witness_row component event labels before n) _ e),
  missing_at component event labels (before ++ n ∷ []) ns (second_none (missing_witness_row component event labels before n) _ e),
)

labels_same : (component : List ℕ) (env : Entries) (wanted : List (List ℕ)) (labelled : List RawLabelled) (typed : List Labelled) (last : Entries) →
    AreTyped component env wanted labelled typed [] last → map (λ l. l.label) typed ≡ map (λ l. l.label) labelled
labels_same component env wanted [] typed last a = ap (map (λ l. l.label)) a.0
labels_same component env wanted (l ∷ labelled) typed last (inl a) = ap (map (λ x. x.label)) a.5 ∙ ap (λ ns. l.label ∷ ns) (labels_same component a.1 wanted labelled a.2 last a.4)
labels_same component env wanted (l ∷ labelled) typed last (inr b) = never_empty b.0 b.1 b.4

kept_label : (b : Bool) (w : Labelled) (ws : List Labelled) (n : List ℕ) → b ≡ true → bytes_eq n w.label ≡ true → is_among (keys_of (map (λ x. (x.label, x.formula)) (cond b (w ∷ ws) ws))) n ≡ true
kept_label true w ws n e h = or_left (bytes_eq n w.label) (is_among (keys_of (map (λ x. (x.label, x.formula)) ws)) n) h
kept_label false w ws n e h = cc

later_label : (b : Bool) (w : Labelled) (ws : List Labelled) (n : List ℕ) → is_among (keys_of (map (λ x. (x.label, x.formula)) ws)) n ≡ true
    → is_among (keys_of (map (λ x. (x.label, x.formula)) (cond b (w ∷ ws) ws))) n ≡ true
later_label true w ws n h = or_right (bytes_eq n w.label) (is_among (keys_of (map (λ x. (x.label, x.formula)) ws)) n) h
later_label false w ws n h = h

-- a label that is a name has its witness
label_given : (ws : List Labelled) (n : List ℕ) → is_name n ≡ true → is_among (map (λ w. w.label) ws) n ≡ true → is_among (keys_of (witnesses_of ws)) n ≡ true
label_given [] n i h = h
label_given (w ∷ ws) n i h = elim (or_cases (bytes_eq n w.label) (is_among (map (λ x. x.label) ws) n) h) [
  | inl k ↦ kept_label (is_name w.label) w (filter (λ x. is_name x.label) ws) n (ap is_name (sym (same_name n w.label k)) ∙ i) k
  | inr k ↦ later_label (is_name w.label) w (filter (λ x. is_name x.label) ws) n (label_given ws n i k)
]

-- An event lacks no parameter where it isn't asked for witnesses of parameters.

abbrev inherited_names_of : Bool → List CheckedEvent → List (List ℕ)
inherited_names_of extended xs = names (option_map_or (λ a. a.params) (cond extended (slice_get xs 0) None) [])

none_kept : (kept : List (List ℕ)) (a : CheckedEvent) → a.params ≡ [] → AreKept kept a
none_kept kept a e = subst (λ ps. AllByRecursion (λ n. is_among kept n ≡ true) (names ps)) (sym e) tt

extended_kept : (declared : List (List ℕ)) (xs : List CheckedEvent) → IsAtMostOne xs → AllByRecursion (AreKept (inherited_names_of true xs ++ declared)) xs
extended_kept declared [] h = tt
extended_kept declared (a ∷ []) h = (
  all_each (λ n. is_among (names a.params) n ≡ true) (λ n. is_among (names a.params ++ declared) n ≡ true) (names a.params) (λ n k. among_sooner (names a.params) declared n k) (among_self (names a.params)),
  tt,
)
extended_kept declared (a ∷ b ∷ xs) h = absurd h

must_extend : (b : Bool) → (true && not b) ≡ false → b ≡ true
must_extend true e = refl
must_extend false e = cc

kept_unless : (i extended : Bool) (o : Option CheckedEvent) (component : List ℕ) (declared : List (List ℕ)) (m : List CheckedEvent) (refs : List Ref) → IfSome o (λ a. a.params ≡ []) →
    (xs : List CheckedEvent) → xs ≡ map (λ x. x.1) (filter_map (with_event m) refs) ++ cond (i && length refs == 0) (option_to_list o) [] →
    (length refs == 1 && not extended) ≡ false →
    cond (nat_le 2 (length refs)) (at_each (merged_differ_row component (inherited_names_of extended xs ++ declared)) [] (filter_map (with_event m) refs)) [] ≡ [] →
    AllByRecursion (AreKept (inherited_names_of extended xs ++ declared)) xs
kept_unless i extended o component declared m [] start xs is f e =
    let kept = inherited_names_of extended xs ++ declared in
    subst (AllByRecursion (AreKept kept)) (sym is)
    (if_all (AreKept kept) _ (option_to_list o) (λ t. listed (AreKept kept) o (if_some_each (λ a. a.params ≡ []) (AreKept kept) o (λ a k. none_kept kept a k) start)))
kept_unless i extended o component declared m (r ∷ []) start xs is f e =
    let one : IsAtMostOne xs = subst IsAtMostOne (sym (is ∙ ap (λ ys. map (λ x. x.1) (filter_map (with_event m) (r ∷ [])) ++ ys) (nothing_implied i o r []))) (at_most_ref (with_event m r)) in
    subst (λ b. AllByRecursion (AreKept (inherited_names_of b xs ++ declared)) xs) (sym (must_extend extended f)) (extended_kept declared xs one)
kept_unless i extended o component declared m (r ∷ s ∷ refs) start xs is f e =
    let found = filter_map (with_event m) (r ∷ s ∷ refs) in
    let kept = inherited_names_of extended xs ++ declared in
    let none = cond_taken (nat_le 2 (length (r ∷ s ∷ refs))) (at_each (merged_differ_row component kept) [] found) (le-leb 2 (suc (suc (length refs))) (omega arith)) e in
    subst (AllByRecursion (AreKept kept)) (sym (is ∙ ap (λ ys. map (λ x. x.1) found ++ ys) (nothing_implied i o r (s ∷ refs))))
    (all_append (AreKept kept) (map (λ x. x.1) found) [] (all_map (AreKept kept) (λ x. x.1) found (kept_at component kept [] found none)) tt)

nothing_lost : (kept : List (List ℕ)) (xs : List CheckedEvent) → AllByRecursion (AreKept kept) xs → entries_with (λ n. not (is_among kept n)) (joined (map (λ a. a.params) xs)) ≡ []
nothing_lost kept xs h =
    none_pass (λ x. not (is_among kept x.0)) (joined (map (λ a. a.params) xs))
    (joined_all (λ x. not (is_among kept x.0) ≡ false) (λ a. a.params) xs
    (all_each (AreKept kept) (λ a. AllByRecursion (λ x. not (is_among kept x.0) ≡ false) a.params) xs
    (λ a k. all_unmap (λ n. not (is_among kept n) ≡ false) (λ x. x.0) a.params
    (all_each (λ n. is_among kept n ≡ true) (λ n. not (is_among kept n) ≡ false) (names a.params) (λ n i. ap not i) k))
    h))

lost_by : (P : List ℕ → Type 0) (m : List CheckedEvent) (e : RawEvent) (b : Bool) → (b ≡ false → lost_params m e ≡ []) →
    AllByRecursion P (cond b (filter (λ n. not (is_among (param_names m e) n)) (names (abstract_params m e))) []) → AllByRecursion P (keys_of (lost_params m e))
lost_by P m e true none h = subst (AllByRecursion P) (names_with (λ n. not (is_among (param_names m e) n)) (abstract_params m e)) h
lost_by P m e false none h = subst (λ ps. AllByRecursion P (keys_of ps)) (sym (none refl)) tt

-- Each of the names that may have a witness has one, where these names are identifiers without their primes.
pub all_given : (component : List ℕ) (m : List CheckedEvent) (lost : List (List ℕ)) (e : RawEvent) (witnesses : List Labelled) (env same : Entries) →
    IfSome (event_named m initialisation) (λ a. a.params ≡ []) → merged_differ component m e ≡ [] →
    missing_witnesses component e.name.place (map (λ w. w.label) e.witnesses) (needed_witnesses m lost e) ≡ [] → AreTyped component env [] e.witnesses witnesses [] same →
    AllByRecursion (λ n. is_identifier n ≡ true) (keys_of (lost_params m e)) → AllByRecursion (λ n. is_identifier n ≡ true) (filter (is_among (all_chosen (abstract_actions m e))) lost) →
    AllByRecursion (λ n. is_among (keys_of (witnesses_of witnesses)) n ≡ true) (keys_of (lost_params m e) ++ map primed (filter (is_among (all_chosen (abstract_actions m e))) lost))
all_given component m lost e witnesses env same start merged missing typed params_are lost_are =
    let labels = map (λ w. w.label) e.witnesses in
    let primes = map primed (filter (is_among (all_chosen (abstract_actions m e))) lost) in
    let P : List ℕ → Type 0 = λ n. is_among (keys_of (witnesses_of witnesses)) n ≡ true in
    let all = missing_at component e.name.place labels [] (needed_witnesses m lost e) missing in
    let given : (n : List ℕ) → is_among labels n ≡ true → is_name n ≡ true → P n =
    λ n h i. label_given witnesses n i (subst (λ ns. is_among ns n ≡ true) (sym (labels_same component env [] e.witnesses witnesses same typed)) h) in
    let none_lost : (length e.refines == 1 && not e.extended) ≡ false → lost_params m e ≡ [] =
    λ f. nothing_lost (param_names m e) (refined m e)
    (kept_unless (is_initialisation e) e.extended (event_named m initialisation) component (names_of e.params) m e.refines start (refined m e) refl f merged) in
    let params : AllByRecursion (λ n. is_among labels n ≡ true) (keys_of (lost_params m e)) =
    lost_by (λ n. is_among labels n ≡ true) m e (length e.refines == 1 && not e.extended) none_lost (all_front (λ n. is_among labels n ≡ true) (needed_params m e) primes all) in
    all_append P (keys_of (lost_params m e)) primes
    (all_two (λ n. is_among labels n ≡ true) (λ n. is_identifier n ≡ true) P (keys_of (lost_params m e)) (λ n h i. given n h (identifier_is_name n i)) params params_are)
    (all_two (λ n. is_among labels n ≡ true) (λ n. is_name n ≡ true) P primes given (all_back (λ n. is_among labels n ≡ true) (needed_params m e) primes all)
    (all_map (λ n. is_name n ≡ true) primed (filter (is_among (all_chosen (abstract_actions m e))) lost)
    (all_each (λ n. is_identifier n ≡ true) (λ n. is_name (primed n) ≡ true) (filter (is_among (all_chosen (abstract_actions m e))) lost) (λ n i. primed_is_name n i) lost_are)))
