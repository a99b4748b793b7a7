-- The names for which an event has witnesses.
use Rattle.std.proofs.Common.{◌≡◌, ◌⊎◌, inl, inr, sym, ap, subst, refl, ℕ, Bool, true, false, not, cond, ◌&&◌, ◌||◌, ◌==◌, List, [], ◌∷◌, ◌++◌, map, length, bytes_eq}
use Rattle.std.specs.List.{AllByRecursion, filter}
use Rattle.std.specs.Map.{keys_of}
use Rattle.type_action.specs.CoreActions.{primed}
use Rattle.model_core.specs.declared.component.RawEvent.{RawEvent}
use Rattle.model_core.specs.declared.component.RawLabelled.{RawLabelled}
use Rattle.model_core.specs.declared.checked.CheckedEvent.{CheckedEvent}
use Rattle.model_core.specs.declared.checked.Labelled.{Labelled}
use Rattle.model_core.specs.Each.{at_each, is_among}
use Rattle.check_rules.specs.Events.{param_names, abstract_params, lost_params}
use Rattle.check_rules.specs.Refinements.{needed_params, needed_witnesses, all_chosen, abstract_actions, superfluous_witness_row, superfluous_witnesses}
use Rattle.check_rules.specs.Typed.{Entries, AreTyped}
use Rattle.check_rules.specs.Visible.{names}
use Rattle.checked_laws.proofs.Names.{same_name, or_left, or_right, name_is, among_later, among_sooner}
use Rattle.checked_laws.proofs.Parts.{never_empty, first_none, second_none, any_append}
use Rattle.checked_laws.proofs.Declared.{dropped_none}
use Rattle.checked_laws.proofs.Witnesses.{entries_with}

wanted_at : (component : List ℕ) (wanted : List (List ℕ)) (before ws : List RawLabelled) → at_each (superfluous_witness_row component wanted) before ws ≡ []
    → AllByRecursion (λ w. is_among wanted w.label ≡ true) ws
wanted_at component wanted before [] e = tt
wanted_at component wanted before (w ∷ ws) e = (
  dropped_none (is_among wanted w.label) _ (first_none (superfluous_witness_row component wanted before w) _ e),
  wanted_at component wanted (before ++ w ∷ []) ws (second_none (superfluous_witness_row component wanted before w) _ e),
)

-- each witness is wanted
pub all_wanted : (component : List ℕ) (wanted : List (List ℕ)) (ws : List RawLabelled) → superfluous_witnesses component wanted ws ≡ [] → AllByRecursion (λ w. is_among wanted w.label ≡ true) ws
all_wanted component wanted ws e = wanted_at component wanted [] ws e

-- the typed formulas have the written labels
pub labels_typed : (Q : List ℕ → Type 0) (component : List ℕ) (env : Entries) (wanted : List (List ℕ)) (labelled : List RawLabelled) (typed : List Labelled) (last : Entries) →
    AreTyped component env wanted labelled typed [] last → AllByRecursion (λ l. Q l.label) labelled → AllByRecursion (λ l. Q l.label) typed
labels_typed Q component env wanted [] typed last a h = subst (AllByRecursion (λ l. Q l.label)) (sym a.0) tt
labels_typed Q component env wanted (l ∷ labelled) typed last (inl a) h =
    subst (AllByRecursion (λ l. Q l.label)) (sym a.5) (h.0, labels_typed Q component a.1 wanted labelled a.2 last a.4 h.1)
labels_typed Q component env wanted (l ∷ labelled) typed last (inr b) h = never_empty b.0 b.1 b.4

primed_cond : (b : Bool) (x : List ℕ) (ns : List (List ℕ)) (n : List ℕ) → is_among (map primed (cond b (x ∷ ns) ns)) n ≡ true → (bytes_eq n (primed x) ≡ true) ⊎ (is_among (map primed ns) n ≡ true)
primed_cond true x ns n e = go (bytes_eq n (primed x)) refl e
  where
    go : (c : Bool) → bytes_eq n (primed x) ≡ c → (c || is_among (map primed ns) n) ≡ true → (bytes_eq n (primed x) ≡ true) ⊎ (is_among (map primed ns) n ≡ true)
    go true is h = inl is
    go false is h = inr h
primed_cond false x ns n e = inr e

-- a name with a prime, and the name without it
pub primed_among : (q : List ℕ → Bool) (ns : List (List ℕ)) (n : List ℕ) → is_among (map primed (filter q ns)) n ≡ true → (x : List ℕ) × (n ≡ primed x) × (is_among ns x ≡ true)
primed_among q [] n e = let no : ⊥ = cc in absurd no
primed_among q (x ∷ ns) n e = elim (primed_cond (q x) x (filter q ns) n e) [
  | inl h ↦ (x, same_name n (primed x) h, or_left (bytes_eq x x) (is_among ns x) (name_is x))
  | inr h ↦ let more = primed_among q ns n h in (more.0, more.1, or_right (bytes_eq more.0 x) (is_among ns more.0) more.2)
]

pub names_with : (p : List ℕ → Bool) (xs : Entries) → filter p (names xs) ≡ names (entries_with p xs)
names_with p [] = refl
names_with p (x ∷ xs) = go (p x.0) (names_with p xs)
  where
    go : (b : Bool) → filter p (names xs) ≡ names (entries_with p xs) → cond b (x.0 ∷ filter p (names xs)) (filter p (names xs)) ≡ names (cond b (x ∷ entries_with p xs) (entries_with p xs))
    go true h = ap (λ ns. x.0 ∷ ns) h
    go false h = h

taken_among : (b : Bool) (ns : List (List ℕ)) (n : List ℕ) → is_among (cond b ns []) n ≡ true → is_among ns n ≡ true
taken_among true ns n e = e
taken_among false ns n e = let no : ⊥ = cc in absurd no

-- A name for which a witness is wanted is a parameter that the event lacks, or a lost variable with a prime.
pub wanted_is : (m : List CheckedEvent) (lost : List (List ℕ)) (e : RawEvent) (n : List ℕ) → is_among (needed_witnesses m lost e) n ≡ true →
    (is_among (keys_of (lost_params m e)) n ≡ true) ⊎ ((x : List ℕ) × (n ≡ primed x) × (is_among lost x ≡ true))
wanted_is m lost e n h =
    let p : List ℕ → Bool = λ x. not (is_among (param_names m e) x) in
    elim (any_append (bytes_eq n) (needed_params m e) (map primed (filter (is_among (all_chosen (abstract_actions m e))) lost)) h) [
      | inl k ↦ inl (subst (λ ns. is_among ns n ≡ true) (names_with p (abstract_params m e))
          (taken_among (length e.refines == 1 && not e.extended) (filter p (names (abstract_params m e))) n k))
      | inr k ↦ inr (primed_among (is_among (all_chosen (abstract_actions m e))) lost n k)
    ]

-- such a name, by these lists
pub wanted_listed : (m : List CheckedEvent) (lost : List (List ℕ)) (e : RawEvent) (n : List ℕ) → is_among (needed_witnesses m lost e) n ≡ true →
    is_among (keys_of (lost_params m e) ++ map primed (filter (is_among (all_chosen (abstract_actions m e))) lost)) n ≡ true
wanted_listed m lost e n h =
    let p : List ℕ → Bool = λ x. not (is_among (param_names m e) x) in
    let primes = map primed (filter (is_among (all_chosen (abstract_actions m e))) lost) in
    elim (any_append (bytes_eq n) (needed_params m e) primes h) [
      | inl k ↦ among_sooner (keys_of (lost_params m e)) primes n
          (subst (λ ns. is_among ns n ≡ true) (names_with p (abstract_params m e)) (taken_among (length e.refines == 1 && not e.extended) (filter p (names (abstract_params m e))) n k))
      | inr k ↦ among_later (keys_of (lost_params m e)) primes n k
    ]
