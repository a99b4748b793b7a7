-- The parameters of its abstract events that an event lacks.
use Rattle.std.proofs.Common.{◌≡◌, ◌∙◌, ◌⊎◌, inl, inr, sym, ap, subst, refl, ℕ, suc, Bool, true, false, not, cond, ◌&&◌, ◌||◌, ◌==◌, nat_le, List, [], ◌∷◌, ◌++◌, map, length, Option, Some, None, IfSome, bytes_eq, option_to_list, arith, append_assoc, append-nil}
use Rattle.std.specs.List.{AllByRecursion, IsDistinct, filter, filter_map, find, list_all, list_any, cons_option}
use Rattle.std.specs.Map.{keys_of}
use Rattle.std.specs.Option.{option_map}
use Rattle.std.proofs.lemmas.Bool.{ne_eqb, le-leb}
use Rattle.formula_core.specs.declared.raw.Ref.{Ref}
use Rattle.formula_core.specs.declared.ty.Ty.{Ty}
use Rattle.formula_core.specs.Env.{HasDistinctNames, type_in}
use Rattle.formula_core.specs.Formulas.{joined}
use Rattle.formula_core.specs.Same.{same_actions}
use Rattle.type_formula.proofs.Named.{all_append, all_each, sooner, later, all_front}
use Rattle.model_core.specs.declared.component.RawEvent.{RawEvent}
use Rattle.model_core.specs.declared.checked.CheckedEvent.{CheckedEvent}
use Rattle.model_core.specs.Each.{at_each, for_each, is_among}
use Rattle.check_rules.specs.Events.{initialisation, is_initialisation, event_named, RefinedAt, with_event, refined_at, implied_events, refined, param_names, lost_params}
use Rattle.check_rules.specs.Refinements.{differs_in_merge, first_actions, without_labels, has_other_type, merged_differ_row, merged_differ}
use Rattle.check_rules.specs.Typed.{Entries}
use Rattle.check_rules.specs.Visible.{names}
use Rattle.formula_core.specs.Typed.{Stands}
use Rattle.formula_core.specs.Types.{same_type}
use Rattle.formula_core.proofs.Types.{same_type_exact}
use Rattle.checked_laws.proofs.Names.{name_is, same_name, neither_first, neither_second, distinct_append, AllStand, here_or, some_or, name_turned, met, missed, stand_there, stand_sooner}
use Rattle.checked_laws.proofs.Parts.{all_map, all_unmap, all_true, filter_each, filter_all, first_none, second_none, all_two}
use Rattle.checked_laws.proofs.Declared.{kept_none}
use Rattle.checked_laws.proofs.Refined.{cons_all, event_found, joined_all, listed, if_all}
use Rattle.checked_laws.proofs.Witnesses.{entries_with, distinct_with, some_is}

-- The abstract events are found again by their names.

find_is : (m : List CheckedEvent) (name : List ℕ) → find (λ x. bytes_eq name x.name) m ≡ event_named m name
find_is [] name = refl
find_is (a ∷ m) name = ap (λ o. cond (bytes_eq name a.name) (Some a) o) (find_is m name)

abbrev pub found_in_events : List CheckedEvent → List (List ℕ) → List CheckedEvent
found_in_events m names = filter_map (λ name. find (λ x. bytes_eq name x.name) m) names

abbrev pub IsFound : List CheckedEvent → CheckedEvent → Type 0
IsFound m a = find (λ x. bytes_eq a.name x.name) m ≡ Some a

named_found : (m : List CheckedEvent) (name : List ℕ) → IfSome (event_named m name) (IsFound m)
named_found m name = go (event_named m name) refl (event_found (λ a. bytes_eq a.name a.name ≡ true) m name (all_true (λ a. bytes_eq a.name a.name ≡ true) m (λ a. name_is a.name)))
  where
    go : (o : Option CheckedEvent) → event_named m name ≡ o → IfSome o (λ a. (bytes_eq a.name a.name ≡ true) × (bytes_eq name a.name ≡ true)) → IfSome o (IsFound m)
    go None is h = tt
    go (Some a) is h = ap (λ n. find (λ x. bytes_eq n x.name) m) (sym (same_name name a.name h.1)) ∙ find_is m name ∙ is

beside_ref : (Q : CheckedEvent → Type 0) (r : Ref) (o : Option CheckedEvent) → IfSome o Q → IfSome {T = RefinedAt} (option_map (λ a. (r, a)) o) (λ x. Q x.1)
beside_ref Q r None h = tt
beside_ref Q r (Some a) h = h

refs_found : (Q : CheckedEvent → Type 0) (m : List CheckedEvent) (refs : List Ref) → ((name : List ℕ) → IfSome (event_named m name) Q) → AllByRecursion (λ x. Q x.1) (filter_map (with_event m) refs)
refs_found Q m [] h = tt
refs_found Q m (r ∷ refs) h = cons_all (λ x. Q x.1) (with_event m r) (filter_map (with_event m) refs) (beside_ref Q r (event_named m r.name) (h r.name)) (refs_found Q m refs h)

-- what holds of each event that has a name
pub refined_each : (Q : CheckedEvent → Type 0) (m : List CheckedEvent) (e : RawEvent) → ((name : List ℕ) → IfSome (event_named m name) Q) → AllByRecursion Q (refined m e)
refined_each Q m e h =
    all_append Q (map (λ x. x.1) (refined_at m e)) (implied_events m e)
    (all_map Q (λ x. x.1) (refined_at m e) (refs_found Q m e.refines h))
    (if_all Q (is_initialisation e && length e.refines == 0) (option_to_list (event_named m initialisation)) (λ t. listed Q (event_named m initialisation) (h initialisation)))

found_again : (m xs : List CheckedEvent) → AllByRecursion (IsFound m) xs → found_in_events m (map (λ a. a.name) xs) ≡ xs
found_again m [] h = refl
found_again m (a ∷ xs) h = ap (λ o. cons_option o (found_in_events m (map (λ x. x.name) xs))) h.0 ∙ ap (λ ys. a ∷ ys) (found_again m xs h.1)

pub refined_again : (m : List CheckedEvent) (e : RawEvent) → found_in_events m (map (λ a. a.name) (refined m e)) ≡ refined m e
refined_again m e = found_again m (refined m e) (refined_each (IsFound m) m e (named_found m))

pub nothing_found : (ns : List (List ℕ)) → found_in_events [] ns ≡ []
nothing_found [] = refl
nothing_found (n ∷ ns) = nothing_found ns

each_joined : {X Y : Type 0} → (f : X → List Y) (xs : List X) → for_each f xs ≡ joined (map f xs)
each_joined f [] = refl
each_joined f (x ∷ xs) = ap (λ ys. f x ++ ys) (each_joined f xs)

-- What an event lacks is what its names show.
pub left_is : (m : List CheckedEvent) (e : RawEvent) (params : Entries) → keys_of params ≡ param_names m e →
    filter (λ x. not (is_among (keys_of params) x.0)) (for_each (λ r. r.params) (found_in_events m (map (λ a. a.name) (refined m e)))) ≡ lost_params m e
left_is m e params keys =
    ap (λ ks. filter (λ x. not (is_among ks x.0)) (for_each (λ r. r.params) (found_in_events m (map (λ a. a.name) (refined m e))))) keys
    ∙ ap (λ rs. filter (λ x. not (is_among (param_names m e) x.0)) (for_each (λ r. r.params) rs)) (refined_again m e)
    ∙ ap (filter (λ x. not (is_among (param_names m e) x.0))) (each_joined (λ r. r.params) (refined m e))

-- Several abstract events have no parameter that the event lacks.

abbrev pub IsAtMostOne : List CheckedEvent → Type 0
IsAtMostOne [] = Unit {0}
IsAtMostOne (a ∷ []) = Unit {0}
IsAtMostOne (a ∷ b ∷ xs) = ⊥

abbrev pub AreKept : List (List ℕ) → CheckedEvent → Type 0
AreKept kept a = AllByRecursion (λ n. is_among kept n ≡ true) (names a.params)

pub not_false : (b : Bool) → not b ≡ false → b ≡ true
not_false true e = refl
not_false false e = cc

pub list_all_each : {X : Type 0} → (p : X → Bool) (xs : List X) → list_all p xs ≡ true → AllByRecursion (λ x. p x ≡ true) xs
list_all_each p [] e = tt
list_all_each p (x ∷ xs) e = go (p x) refl (list_all_each p xs) e
  where
    go : (b : Bool) → p x ≡ b → (list_all p xs ≡ true → AllByRecursion (λ y. p y ≡ true) xs) → (b && list_all p xs) ≡ true → AllByRecursion (λ y. p y ≡ true) (x ∷ xs)
    go true is more h = (is, more h)
    go false is more h = cc

pub kept_at : (component : List ℕ) (kept : List (List ℕ)) (before xs : List RefinedAt) → at_each (merged_differ_row component kept) before xs ≡ [] → AllByRecursion (λ x. AreKept kept x.1) xs
kept_at component kept before [] e = tt
kept_at component kept before (x ∷ xs) e =
    let others = not (same_actions (first_actions before x) (without_labels x.1.actions)) in
    let leaves = not (list_all (is_among kept) (names x.1.params)) in
    let typed = list_any (has_other_type (joined (map (λ b. b.1.params) before))) x.1.params in
    let none = kept_none (differs_in_merge kept before x) _ (first_none (merged_differ_row component kept before x) _ e) in (
      list_all_each (is_among kept) (names x.1.params) (not_false (list_all (is_among kept) (names x.1.params)) (neither_second others leaves (neither_first (others || leaves) typed none))),
      kept_at component kept (before ++ x ∷ []) xs (second_none (merged_differ_row component kept before x) _ e),
    )

pub cond_taken : {X : Type 0} → (b : Bool) (xs : List X) → b ≡ true → cond b xs [] ≡ [] → xs ≡ []
cond_taken true xs is e = e
cond_taken false xs is e = cc

not_taken : {X : Type 0} → (a b : Bool) (xs : List X) → b ≡ false → cond (a && b) xs [] ≡ []
not_taken true true xs e = cc
not_taken true false xs e = refl
not_taken false b xs e = refl

pub nothing_implied : (i : Bool) (o : Option CheckedEvent) (r : Ref) (refs : List Ref) → cond (i && length (r ∷ refs) == 0) (option_to_list o) [] ≡ []
nothing_implied i o r refs = not_taken i (length (r ∷ refs) == 0) (option_to_list o) (ne_eqb (suc (length refs)) 0 (λ k. omega arith))

at_most_listed : (b : Bool) (o : Option CheckedEvent) → IsAtMostOne (cond b (option_to_list o) [])
at_most_listed true None = tt
at_most_listed true (Some a) = tt
at_most_listed false o = tt

pub at_most_ref : (o : Option RefinedAt) → IsAtMostOne (map (λ x. x.1) (cons_option o []) ++ [])
at_most_ref None = tt
at_most_ref (Some x) = tt

abbrev IsOneOrKept : List (List ℕ) → List CheckedEvent → Type 0
IsOneOrKept kept xs = IsAtMostOne xs ⊎ AllByRecursion (AreKept kept) xs

one_or_kept : (i : Bool) (o : Option CheckedEvent) (component : List ℕ) (kept : List (List ℕ)) (m : List CheckedEvent) (refs : List Ref) →
    cond (nat_le 2 (length refs)) (at_each (merged_differ_row component kept) [] (filter_map (with_event m) refs)) [] ≡ [] →
    IsOneOrKept kept (map (λ x. x.1) (filter_map (with_event m) refs) ++ cond (i && length refs == 0) (option_to_list o) [])
one_or_kept i o component kept m [] e = inl (at_most_listed _ o)
one_or_kept i o component kept m (r ∷ []) e =
    subst (λ ys. IsOneOrKept kept (map (λ x. x.1) (filter_map (with_event m) (r ∷ [])) ++ ys)) (sym (nothing_implied i o r [])) (inl (at_most_ref (with_event m r)))
one_or_kept i o component kept m (r ∷ s ∷ refs) e =
    let found = filter_map (with_event m) (r ∷ s ∷ refs) in
    let none = cond_taken (nat_le 2 (length (r ∷ s ∷ refs))) (at_each (merged_differ_row component kept) [] found) (le-leb 2 (suc (suc (length refs))) (omega arith)) e in
    subst (λ ys. IsOneOrKept kept (map (λ x. x.1) found ++ ys)) (sym (nothing_implied i o r (s ∷ refs)))
    (inr (all_append (AreKept kept) (map (λ x. x.1) found) [] (all_map (AreKept kept) (λ x. x.1) found (kept_at component kept [] found none)) tt))

pub none_pass : {X : Type 0} → (p : X → Bool) (xs : List X) → AllByRecursion (λ x. p x ≡ false) xs → filter p xs ≡ []
none_pass p [] h = refl
none_pass p (x ∷ xs) h = ap (λ b. cond b (x ∷ filter p xs) (filter p xs)) h.0 ∙ none_pass p xs h.1

one_distinct : (p : List ℕ → Bool) (xs : List CheckedEvent) → IsAtMostOne xs → AllByRecursion (λ a. HasDistinctNames a.params) xs → HasDistinctNames (entries_with p (joined (map (λ a. a.params) xs)))
unfolding IsDistinct
one_distinct p [] h d = tt
one_distinct p (a ∷ []) h d = distinct_with p (a.params ++ []) (distinct_append a.params [] d.0 tt (all_true (λ n. type_in [] n ≡ None) (keys_of a.params) (λ n. refl)))
one_distinct p (a ∷ b ∷ xs) h d = absurd h

kept_distinct : (kept : List (List ℕ)) (xs : List CheckedEvent) → AllByRecursion (AreKept kept) xs → HasDistinctNames (entries_with (λ n. not (is_among kept n)) (joined (map (λ a. a.params) xs)))
unfolding IsDistinct
kept_distinct kept xs h =
    subst HasDistinctNames
    (sym (none_pass (λ x. not (is_among kept x.0)) (joined (map (λ a. a.params) xs))
    (joined_all (λ x. not (is_among kept x.0) ≡ false) (λ a. a.params) xs
    (all_each (AreKept kept) (λ a. AllByRecursion (λ x. not (is_among kept x.0) ≡ false) a.params) xs
    (λ a k. all_unmap (λ n. not (is_among kept n) ≡ false) (λ x. x.0) a.params
    (all_each (λ n. is_among kept n ≡ true) (λ n. not (is_among kept n) ≡ false) (names a.params) (λ n i. ap not i) k))
    h))))
    tt

-- each name once
pub lost_distinct : (component : List ℕ) (m : List CheckedEvent) (e : RawEvent) → merged_differ component m e ≡ [] → AllByRecursion (λ a. HasDistinctNames a.params) (refined m e) →
    HasDistinctNames (lost_params m e)
lost_distinct component m e none distinct =
    elim (one_or_kept (is_initialisation e) (event_named m initialisation) component (param_names m e) m e.refines none) [
      | inl h ↦ one_distinct (λ n. not (is_among (param_names m e) n)) (refined m e) h distinct
      | inr h ↦ kept_distinct (param_names m e) (refined m e) h
    ]

-- what holds of the parameters of all abstract events
pub lost_each : (P : List ℕ × Ty → Type 0) (m : List CheckedEvent) (e : RawEvent) → AllByRecursion (λ a. AllByRecursion P a.params) (refined m e) → AllByRecursion P (lost_params m e)
lost_each P m e h = filter_all (λ x. not (is_among (param_names m e) x.0)) P (joined (map (λ a. a.params) (refined m e))) (joined_all P (λ a. a.params) (refined m e) h)

not_true : (b : Bool) → not b ≡ true → b ≡ false
not_true true e = cc
not_true false e = refl

-- and none is one of the event's own
pub lost_other : (m : List CheckedEvent) (e : RawEvent) → AllByRecursion (λ n. is_among (param_names m e) n ≡ false) (keys_of (lost_params m e))
lost_other m e =
    let ps : Entries = joined (map (λ a. a.params) (refined m e)) in
    all_map (λ n. is_among (param_names m e) n ≡ false) (λ x. x.0) (lost_params m e)
    (filter_each (λ x. not (is_among (param_names m e) x.0)) (λ x. bytes_eq x.0 x.0 ≡ true) (λ x. is_among (param_names m e) x.0 ≡ false) ps
    (λ x k h. not_true (is_among (param_names m e) x.0) k) (all_true (λ x. bytes_eq x.0 x.0 ≡ true) ps (λ x. name_is x.0)))

-- A parameter has one type in all abstract events.

types_same : (E : Entries) (p : List ℕ × Ty) (u : Ty) → has_other_type E p ≡ false → type_in E p.0 ≡ Some u → u ≡ p.1
types_same [] p u h e = let no : ⊥ = cc in absurd no
types_same (q ∷ E) p u h e = elim (here_or (bytes_eq p.0 q.0)) [
  | inl b ↦ let turned : bytes_eq q.0 p.0 ≡ true = name_turned p.0 q.0 true b in
      let differ = neither_first (bytes_eq q.0 p.0 && not (same_type q.1 p.1)) (has_other_type E p) h in
      let same : same_type q.1 p.1 ≡ true = not_false (same_type q.1 p.1) (ap (λ c. c && not (same_type q.1 p.1)) (sym turned) ∙ differ) in
      sym (some_is q.1 u (sym (met (bytes_eq p.0 q.0) q.1 (type_in E p.0) b) ∙ e)) ∙ same_type_exact q.1 p.1 same
  | inr b ↦ types_same E p u (neither_second (bytes_eq q.0 p.0 && not (same_type q.1 p.1)) (has_other_type E p) h) (sym (missed (bytes_eq p.0 q.0) q.1 (type_in E p.0) b) ∙ e)
]

stands_behind : (E xs rest : Entries) (p : List ℕ × Ty) → has_other_type E p ≡ false → Stands xs p → Stands (E ++ (xs ++ rest)) p
stands_behind E xs rest p h e = elim (some_or (type_in E p.0)) [
  | inl k ↦ sooner E (xs ++ rest) p.0 p.1 (k.1 ∙ ap Some (types_same E p k.0 h k.1))
  | inr k ↦ later E (xs ++ rest) p.0 k ∙ sooner xs rest p.0 p.1 e
]

list_any_none : {X : Type 0} → (p : X → Bool) (xs : List X) → list_any p xs ≡ false → AllByRecursion (λ x. p x ≡ false) xs
list_any_none p [] e = tt
list_any_none p (x ∷ xs) e = (neither_first (p x) (list_any p xs) e, list_any_none p xs (neither_second (p x) (list_any p xs) e))

abbrev params_at : List RefinedAt → Entries
params_at xs = joined (map (λ x. x.1.params) xs)

params_more : (before : List RefinedAt) (x : RefinedAt) (xs : List RefinedAt) → params_at (before ++ x ∷ []) ++ params_at xs ≡ params_at before ++ (x.1.params ++ params_at xs)
params_more [] x xs = ap (λ ys. ys ++ params_at xs) (append-nil x.1.params)
params_more (b ∷ before) x xs =
    append_assoc b.1.params (params_at (before ++ x ∷ [])) (params_at xs) ∙ ap (λ ys. b.1.params ++ ys) (params_more before x xs)
    ∙ sym (append_assoc b.1.params (params_at before) (x.1.params ++ params_at xs))

same_at : (component : List ℕ) (kept : List (List ℕ)) (before xs : List RefinedAt) → at_each (merged_differ_row component kept) before xs ≡ [] → AllByRecursion (λ x. HasDistinctNames x.1.params) xs
    → AllByRecursion (λ x. AllStand (params_at before ++ params_at xs) x.1.params) xs
same_at component kept before [] e d = tt
same_at component kept before (x ∷ xs) e d =
    let others = not (same_actions (first_actions before x) (without_labels x.1.actions)) in
    let leaves = not (list_all (is_among kept) (names x.1.params)) in
    let none = kept_none (differs_in_merge kept before x) _ (first_none (merged_differ_row component kept before x) _ e) in
    let typed = list_any_none (has_other_type (params_at before)) x.1.params (neither_second (others || leaves) (list_any (has_other_type (params_at before)) x.1.params) none) in (
      all_two (λ p. has_other_type (params_at before) p ≡ false) (Stands x.1.params) (Stands (params_at before ++ (x.1.params ++ params_at xs))) x.1.params
          (λ p h k. stands_behind (params_at before) x.1.params (params_at xs) p h k) typed (stand_there x.1.params d.0),
      subst (λ es. AllByRecursion (λ y. AllStand es y.1.params) xs) (params_more before x xs)
          (same_at component kept (before ++ x ∷ []) xs (second_none (merged_differ_row component kept before x) _ e) d.1),
    )

abbrev pub AreTogether : List CheckedEvent → Type 0
AreTogether xs = AllByRecursion (λ a. AllStand (joined (map (λ b. b.params) xs)) a.params) xs

events_at : (xs : List RefinedAt) → joined (map (λ b. b.params) (map (λ x. x.1) xs)) ≡ params_at xs
events_at [] = refl
events_at (x ∷ xs) = ap (λ ys. x.1.params ++ ys) (events_at xs)

one_together : (xs : List CheckedEvent) → IsAtMostOne xs → AllByRecursion (λ a. HasDistinctNames a.params) xs → AreTogether xs
one_together [] h d = tt
one_together (a ∷ []) h d = (stand_sooner a.params [] a.params (stand_there a.params d.0), tt)
one_together (a ∷ b ∷ xs) h d = absurd h

merged_together : (i : Bool) (o : Option CheckedEvent) (component : List ℕ) (kept : List (List ℕ)) (m : List CheckedEvent) (refs : List Ref) →
    cond (nat_le 2 (length refs)) (at_each (merged_differ_row component kept) [] (filter_map (with_event m) refs)) [] ≡ [] →
    AllByRecursion (λ a. HasDistinctNames a.params) (map (λ x. x.1) (filter_map (with_event m) refs) ++ cond (i && length refs == 0) (option_to_list o) []) →
    AreTogether (map (λ x. x.1) (filter_map (with_event m) refs) ++ cond (i && length refs == 0) (option_to_list o) [])
merged_together i o component kept m [] e d = one_together (cond (i && length {A = Ref} [] == 0) (option_to_list o) []) (at_most_listed (i && length {A = Ref} [] == 0) o) d
merged_together i o component kept m (r ∷ []) e d =
    one_together (map (λ x. x.1) (filter_map (with_event m) (r ∷ [])) ++ cond (i && length (r ∷ []) == 0) (option_to_list o) [])
    (subst (λ ys. IsAtMostOne (map (λ x. x.1) (filter_map (with_event m) (r ∷ [])) ++ ys)) (sym (nothing_implied i o r [])) (at_most_ref (with_event m r))) d
merged_together i o component kept m (r ∷ s ∷ refs) e d =
    let found = filter_map (with_event m) (r ∷ s ∷ refs) in
    let none = cond_taken (nat_le 2 (length (r ∷ s ∷ refs))) (at_each (merged_differ_row component kept) [] found) (le-leb 2 (suc (suc (length refs))) (omega arith)) e in
    let distinct = all_unmap (λ a. HasDistinctNames a.params) (λ x. x.1) found
    (all_front (λ a. HasDistinctNames a.params) (map (λ x. x.1) found) (cond (i && length (r ∷ s ∷ refs) == 0) (option_to_list o) []) d) in
    subst AreTogether (sym (append-nil (map (λ x. x.1) found)) ∙ ap (λ ys. map (λ x. x.1) found ++ ys) (sym (nothing_implied i o r (s ∷ refs))))
    (all_map (λ a. AllStand (joined (map (λ b. b.params) (map (λ x. x.1) found))) a.params) (λ x. x.1) found
    (subst (λ es. AllByRecursion (λ x. AllStand es x.1.params) found) (sym (events_at found)) (same_at component kept [] found none distinct)))

-- the parameters of each abstract event stand among all
pub abstract_together : (component : List ℕ) (m : List CheckedEvent) (e : RawEvent) → merged_differ component m e ≡ [] → AllByRecursion (λ a. HasDistinctNames a.params) (refined m e) → AreTogether (refined m e)
abstract_together component m e none distinct = merged_together (is_initialisation e) (event_named m initialisation) component (param_names m e) m e.refines none distinct
