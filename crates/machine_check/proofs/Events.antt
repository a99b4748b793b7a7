-- Events that are typed, one after another.
use Rattle.std.proofs.Common.{◌≡◌, ◌<◌, ◌+◌, ◌∙◌, sym, ap, subst, refl, ℕ, List, [], ◌∷◌, ◌++◌, map, take, drop, length, get_or, Option, None, true, ◌==◌, append_assoc, arith}
use Rattle.std.specs.Borrow.{Bor}
use Rattle.std.specs.List.{filter}
use Rattle.std.proofs.lemmas.List.{map-append}
use Rattle.std.proofs.lemmas.Bool.Decides.{Decides-eqb}
use Rattle.formula_core.specs.Names.{is_name}
use Rattle.type_action.specs.CoreActions.{with_all}
use Rattle.model_core.specs.declared.fault.Fault.{Fault}
use Rattle.formula_core.specs.declared.raw.Ref.{Ref}
use Rattle.model_core.specs.declared.component.RawEvent.{RawEvent}
use Rattle.model_core.specs.declared.component.RawLabelled.{RawLabelled}
use Rattle.model_core.specs.declared.component.RawStep.{RawStep}
use Rattle.model_core.specs.declared.checked.Labelled.{Labelled}
use Rattle.model_core.specs.declared.checked.CheckedEvent.{CheckedEvent}
use Rattle.model_core.specs.Faults.{earlier, first_by_place}
use Rattle.model_core.proofs.Firsts.{first_append, taken_more}
use Rattle.model_core.proofs.Lists.{filter_append}
use Rattle.check_rules.specs.Contexts.{names_of}
use Rattle.check_rules.specs.Typed.{Entries, LabelledAction, AreTyped, AreTypedActions, never_typed}
use Rattle.check_rules.specs.Events.{refined, lost_params, event_env, primed_variables, primed_env, witness_env, witnesses_of, checked_event_of, IsTypedEvent, AreTypedEvents}
use Rattle.context_check.specs.Typings.{AreTypedSoFar, AreTypedStepsSoFar}
use Rattle.machine_check.specs.PrivateTyped.{AreTypedWitnesses, IsTypedSoFar, AreTypedEventsSoFar, ExtendsEntries, witness_env_from}
use Rattle.machine_check.proofs.Growing.{added_again}

pub witnesses_push : (xs : List Labelled) (w : Labelled) → witnesses_of (xs ++ w ∷ []) ≡ witnesses_of xs ++ witnesses_of (w ∷ [])
witnesses_push xs w =
    ap (map (λ w. (w.label, w.formula))) (filter_append (λ w. is_name w.label) xs (w ∷ []))
    ∙ map-append (λ w. (w.label, w.formula)) (filter (λ w. is_name w.label) xs) (filter (λ w. is_name w.label) (w ∷ []))

pub four : (a b c d : List Fault) → earlier (earlier (earlier (first_by_place a) (first_by_place b)) (first_by_place c)) (first_by_place d) ≡ first_by_place (a ++ b ++ c ++ d)
four a b c d =
    ap (λ x. earlier (earlier x (first_by_place c)) (first_by_place d)) (sym (first_append a b))
    ∙ ap (λ x. earlier x (first_by_place d)) (sym (first_append (a ++ b) c)) ∙ sym (first_append (a ++ b ++ c) d)

-- an event is typed where its parts are
pub event_typed : (component : List ℕ) (m : List CheckedEvent) (variables : List (List ℕ)) (env start last after : Entries) (e : RawEvent) (params : List (List ℕ)) (written : List RawLabelled)
    (declared : List Ref) (steps : List RawStep) (guards witnesses : List Labelled) (actions : List LabelledAction) (g n w a : Option Fault) (typed : CheckedEvent) →
    start ≡ event_env m e env → params ≡ names_of e.params → written ≡ e.guards → declared ≡ e.params → steps ≡ e.actions → after ≡ last →
    AreTypedSoFar component start params written guards g last →
    n ≡ first_by_place (never_typed component last declared) →
    AreTypedWitnesses component (witness_env m e variables env last) e.witnesses witnesses w →
    AreTypedStepsSoFar component after steps actions a →
    typed ≡ checked_event_of m e after guards witnesses actions →
    IsTypedSoFar component m variables env e typed (earlier (earlier (earlier g n) w) a)
event_typed component m variables env start last after e params written declared steps guards witnesses actions g n w a typed s p l d t k (gs, are, gf) ns (same, (wf, wit, wfirst)) (sf, acts, af) is = (
  gs ++ never_typed component last e.params ++ wf ++ sf,
  (
    guards,
    gs,
    last,
    subst (λ x. AreTyped component x (names_of e.params) e.guards guards gs last) s
        (subst (λ x. AreTyped component start x e.guards guards gs last) p (subst (λ x. AreTyped component start params x guards gs last) l are)),
    witnesses,
    wf,
    same,
    wit,
    actions,
    sf,
    subst (λ x. AreTypedActions component x e.actions actions sf) k (subst (λ x. AreTypedActions component after x actions sf) t acts),
    is ∙ ap (λ x. checked_event_of m e x guards witnesses actions) k,
    refl,
  ),
  (λ i. earlier (earlier (earlier (gf i) ((ns ∙ ap (λ x. first_by_place (never_typed component last x)) d) i)) (wfirst i)) (af i)) ∙ four gs (never_typed component last e.params) wf sf,
)

events_push : (component : List ℕ) (m : List CheckedEvent) (variables : List (List ℕ)) (env : Entries) (events : List RawEvent) (e : RawEvent) (typed : List CheckedEvent) (one : CheckedEvent) (faults here : List Fault) →
    AreTypedEvents component m variables env events typed faults → IsTypedEvent component m variables env e one here →
    AreTypedEvents component m variables env (events ++ e ∷ []) (typed ++ one ∷ []) (faults ++ here)
events_push component m variables env [] e typed one faults here h k =
    (one, here, [], [], k, (refl, refl), ap (λ xs. xs ++ one ∷ []) h.0, ap (λ xs. xs ++ here) h.1 ∙ sym (append_nil here))
  where
    append_nil : {X : Type 0} (xs : List X) → xs ++ [] ≡ xs
    append_nil [] = refl
    append_nil (x ∷ xs) = ap (λ ys. x ∷ ys) (append_nil xs)
events_push component m variables env (x ∷ events) e typed one faults here (first, at_first, others, later, t, ts, is, are) k = (
  first,
  at_first,
  others ++ one ∷ [],
  later ++ here,
  t,
  events_push component m variables env events e others one later here ts k,
  ap (λ xs. xs ++ one ∷ []) is,
  ap (λ xs. xs ++ here) are ∙ append_assoc at_first later here,
)

pub events_more : (component : List ℕ) (m : List CheckedEvent) (variables : List (List ℕ)) (env : Entries) (events : List RawEvent) (i : ℕ) (e : RawEvent) → i < length events → e ≡ get_or events i e →
    (typed next : List CheckedEvent) (one : CheckedEvent) (first here last : Option Fault) →
    AreTypedEventsSoFar component m variables env (take i events) typed first → IsTypedSoFar component m variables env e one here →
    next ≡ typed ++ one ∷ [] → last ≡ earlier first here →
    AreTypedEventsSoFar component m variables env (take (i + 1) events) next last
events_more component m variables env events i e lt is typed next one first here last (hs, h, hf) (ks, k, kf) n l = (
  hs ++ ks,
  subst (λ x. AreTypedEvents component m variables env (take (i + 1) events) x (hs ++ ks)) (sym n)
      (subst (λ x. AreTypedEvents component m variables env x (typed ++ one ∷ []) (hs ++ ks)) (sym (taken_more events i e lt is))
      (events_push component m variables env (take i events) e typed one hs ks h k)),
  l ∙ (λ j. earlier (hf j) (kf j)) ∙ sym (first_append hs ks),
)

-- no witness has no fault
pub no_witnesses : (component : List ℕ) (env : Entries) (written items : List RawLabelled) (typed : List Labelled) → items ≡ written → (length items == 0) ≡ true → typed ≡ [] →
    AreTypedWitnesses component env written typed None
no_witnesses component env written [] typed e none t = (env, ([], subst (λ x. AreTyped component env [] x typed [] env) e (t, refl, refl), refl))
no_witnesses component env written (w ∷ items) typed e none t = absurd (omega (arith, (Decides-eqb (length (w ∷ items)) 0).0 none))

pub names_behind : (events : List (Bor CheckedEvent)) → map (λ x. x.now.name) events ≡ map (λ a. a.name) (map (λ x. x.now) events)
names_behind [] = refl
names_behind (x ∷ xs) = ap (λ ns. x.now.name ∷ ns) (names_behind xs)

-- witnesses in another writing of the environment
pub witnesses_typed : (component : List ℕ) (known env last : Entries) (items written : List RawLabelled) (typed : List Labelled) (first : Option Fault) → known ≡ env → items ≡ written →
    AreTypedSoFar component known [] items typed first last → AreTypedWitnesses component env written typed first
witnesses_typed component known env last items written typed first k i h =
    (last, subst (λ x. AreTypedSoFar component x [] written typed first last) k (subst (λ x. AreTypedSoFar component known [] x typed first last) i h))

-- An event's witnesses are typed behind the names that it adds to those of its machine.
pub witnesses_behind : (component : List ℕ) (m : List CheckedEvent) (variables : List (List ℕ)) (env start last : Entries) (e : RawEvent) (abstract : List CheckedEvent) (added : Entries) (n : ℕ) (typed : List Labelled) (first : Option Fault) →
    start ≡ primed_env env variables → abstract ≡ refined m e → n ≡ length env → ExtendsEntries env last → added ≡ drop n last →
    AreTypedWitnesses component (witness_env_from abstract e start added) e.witnesses typed first → AreTypedWitnesses component (witness_env m e variables env last) e.witnesses typed first
witnesses_behind component m variables env start last e abstract added n typed first s r is grown a h =
    let start_is : with_all start added ≡ with_all (primed_env env variables) last = (λ i. with_all (s i) (a i)) ∙ added_again env (primed_variables env variables) last n grown is in
    subst (λ x. AreTypedWitnesses component x e.witnesses typed first) ((λ i. witness_env_from (r i) e start added) ∙ ap (λ x. with_all x (lost_params m e)) start_is) h
