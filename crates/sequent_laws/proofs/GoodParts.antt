-- The parts of an event are good, and what its rows read is typed.
use Rattle.sequent_laws.proofs.Assigned.{chosen_have, chosen_once, among_more, variable_stands, all_named}
use Rattle.std.proofs.Common.{◌≡◌, ◌∙◌, inl, inr, sym, ap, subst, ℕ, Bool, true, false, cond, List, [], ◌∷◌, ◌++◌, map, Option, Some, None, IfSome, IsTrue}
use Rattle.std.specs.Prelude.{if◌then◌else◌, bytes_eq}
use Rattle.std.specs.List.{AllByRecursion, filter, IsDistinct}
use Rattle.std.specs.Option.{option_to_list}
use Rattle.formula_core.specs.declared.ty.Ty.{Ty}
use Rattle.formula_core.specs.declared.ty.Ty.TheVariants as ty
use Rattle.formula_core.specs.declared.ty.Ty.TheViews.{outs-Pow}
use Rattle.formula_core.specs.declared.formula.Formula.{Formula}
use Rattle.formula_core.specs.declared.raw.Action.{Action}
use Rattle.formula_core.specs.declared.raw.Action.TheVariants.{Assign, ChooseIn, ChooseSuch}
use Rattle.formula_core.specs.Env.{type_in}
use Rattle.formula_core.specs.Formulas.{substituted}
use Rattle.formula_core.specs.Identifiers.{carriers}
use Rattle.formula_core.specs.Laws.{IsWithin, IsNewValue, Replaces}
use Rattle.formula_core.specs.Typed.{Stands, IsTypedIn, IsPredicateIn, IsGoodEnv}
use Rattle.formula_core.specs.Types.{members_at, members, is_value_type}
use Rattle.formula_core.specs.Wellness.{type_of}
use Rattle.formula_core.proofs.Keeping.{back, both, all_more, front}
use Rattle.formula_core.proofs.TypedIn.{stands_more, typed_more, predicate_more, replaced_predicate}
use Rattle.well_defined.specs.Predicates.{member}
use Rattle.well_defined.proofs.Types.{type-Free}
use Rattle.model_core.specs.declared.checked.CheckedEvent.{CheckedEvent}
use Rattle.model_core.specs.declared.checked.CheckedMachine.{CheckedMachine}
use Rattle.model_core.specs.declared.checked.Labelled.{Labelled}
use Rattle.model_core.specs.Each.{for_each, is_among}
use Rattle.po_rules.specs.Parts.{formulas, initialises, actions_of, actions_of_first, open_targets, as_term, new_values, before_after, after_pairs, variables_of, primed_values, obligation_env, machine_hyps, parts_of}
use Rattle.formula_core.specs.Names.{with_prime}
use Rattle.model_core.specs.Refined.{refined_by, params_left_out}
use Rattle.po_rules.specs.Sequents.{IsNewValueIn, AreGoodParts}
use Rattle.sequent_laws.specs.Sound.{Environment, AreTypedPredicates, IsTypedVariantIn, IsActionAt, AreNewValues, IsAbstractActionAt, IsReadIn, HasGoodParts, IsGoodMachine, params_env, witnesses_env, IsTypedActionIn, lost_chosen, wants_witness, IsWellTypedEvent, IsWellTypedMachine, targets_of_all}
use Rattle.sequent_laws.proofs.Environments.{found_in, within_both, list_within, entries_stand, absent, front_within, named_has, mapped_front, filter_append, both_hold, distinct_append, distinct_front, distinct_primed, sets_keep, of_keys}
use Rattle.sequent_laws.proofs.Formulas
use Rattle.sequent_laws.proofs.Primes.{name_is, sets_stand, others_stand}
use Rattle.sequent_laws.proofs.Rows.{all_of, all_filtered, all_given, formulas_are, hyps_are}

abbrev own_chosen : CheckedEvent → Environment
own_chosen e = for_each open_targets (actions_of e)

of_mapped : {X Y : Type 0} (P : Y → Type 0) (f : X → Y) (xs : List X) → AllByRecursion P (map f xs) → AllByRecursion (λ x. P (f x)) xs
of_mapped P f [] h = tt
of_mapped P f (x ∷ xs) h = (h.0, of_mapped P f xs h.1)

labelled_more : (old new : Environment) → IsWithin old new → (ls : List Labelled) → AreTypedPredicates old ls → AreTypedPredicates new ls
labelled_more old new within = all_more (λ l. IsPredicateIn old l.formula) (λ l. IsPredicateIn new l.formula) (λ l. predicate_more old new within l.formula)

value_more : (old new : Environment) → IsWithin old new → (q : List ℕ × Formula) → IsNewValueIn old q → IsNewValueIn new q
value_more old new within q h = (typed_more old new within q.1 h.0, within (q.0, type_of q.1) h.1)

values_more : (old new : Environment) → IsWithin old new → (qs : List (List ℕ × Formula)) → AllByRecursion (IsNewValueIn old) qs → AllByRecursion (IsNewValueIn new) qs
values_more old new within = all_more (IsNewValueIn old) (IsNewValueIn new) (value_more old new within)

-- the one target of `x :∈ S`
members_are : (s : Formula) (t : Ty) → type_of s ≡ ty.Pow t → members (type_of s) ≡ Some t
members_are s t e = ap members e ∙ ap members_at (outs-Pow t)

abbrev target_of : List ℕ → Option Ty → Environment
target_of x o = map (λ t. (x, t)) (option_to_list o)

-- targets of an action stand in a larger environment
targets_stand : (old new : Environment) → IsWithin old new → (a : Action) → IsTypedActionIn old a → AllByRecursion (Stands new) (open_targets a)
targets_stand old new within (Assign pairs) h = tt
targets_stand old new within (ChooseIn x s) h =
    let t = h.1.0 in
    subst (λ o. AllByRecursion (Stands new) (target_of x o)) (sym (members_are s t h.1.1)) (within (x, t) h.1.2, tt)
targets_stand old new within (ChooseSuch targets q) h = all_more (Stands old) (Stands new) within targets h.1

each_primed : (P : List ℕ × Ty → Type 0) (xs : List Action) → AllByRecursion P (map with_prime (for_each open_targets xs)) → AllByRecursion (λ a. AllByRecursion P (map with_prime (open_targets a))) xs
each_primed P [] h = tt
each_primed P (a ∷ xs) h = let k = mapped_front P with_prime (open_targets a) (for_each open_targets xs) h in (k.0, each_primed P xs k.1)

-- an action of an environment, whose primed targets stand in a larger one that is good
module _ (old new : Environment) (within : IsWithin old new) (good : IsGoodEnv new) where
  primed_value : (y : List ℕ × Ty) → Stands new y → Stands new (with_prime y) → IsNewValueIn new (y.0, as_term (with_prime y))
  primed_value y h k = (Formulas.term_typed new good (with_prime y) k, h ∙ ap Some (sym (type-Free (with_prime y).0 y.1)))

  target_values : (ts : Environment) → AllByRecursion (Stands new) ts → AllByRecursion (Stands new) (map with_prime ts) → AllByRecursion (IsNewValueIn new) (map (λ y. (y.0, as_term (with_prime y))) ts)
  target_values [] h k = tt
  target_values (y ∷ ts) h k = (primed_value y h.0 k.0, target_values ts h.1 k.1)

  new_values_are : (a : Action) → IsTypedActionIn old a → AllByRecursion (Stands new) (map with_prime (open_targets a)) → AllByRecursion (IsNewValueIn new) (new_values a)
  new_values_are (Assign pairs) h k = values_more old new within pairs h
  new_values_are (ChooseIn x s) h k = target_values (open_targets (ChooseIn x s)) (targets_stand old new within (ChooseIn x s) h) k
  new_values_are (ChooseSuch targets q) h k = target_values targets (targets_stand old new within (ChooseSuch targets q) h) k

  chosen_is : (x : List ℕ) (s : Formula) (t : Ty) → IsTypedIn new s → type_of s ≡ ty.Pow t → Stands new (with_prime (x, t)) → IsPredicateIn new (member (as_term (with_prime (x, t))) s)
  chosen_is x s t h e k =
      Formulas.member_typed new (with_prime (x, t)) s (Formulas.term_typed new good (with_prime (x, t)) k) (Formulas.value_at new good (with_prime (x, t)).0 t k) h e

  before_after_is : (a : Action) → IsTypedActionIn old a → AllByRecursion (Stands new) (map with_prime (open_targets a)) → AllByRecursion (IsPredicateIn new) (before_after a)
  before_after_is (Assign pairs) h k = tt
  before_after_is (ChooseIn x s) h k =
      let t = h.1.0 in
      let e = members_are s t h.1.1 in
      let stands : AllByRecursion (Stands new) (map with_prime (target_of x (Some t))) = subst (λ o. AllByRecursion (Stands new) (map with_prime (target_of x o))) e k in
      subst (λ o. AllByRecursion (IsPredicateIn new) (map (λ y. member (as_term (with_prime y)) s) (target_of x o))) (sym e)
      (chosen_is x s t (typed_more old new within s h.0) h.1.1 stands.0, tt)
  before_after_is (ChooseSuch targets q) h k =
      (predicate_more (old ++ map with_prime targets) new (within_both old (map with_prime targets) new within (list_within (map with_prime targets) new k)) q h.2, tt)

  action_at : (a : Action) → IsTypedActionIn old a → AllByRecursion (Stands new) (map with_prime (open_targets a)) → IsActionAt new a
  action_at (Assign pairs) h k = values_more old new within pairs h
  action_at (ChooseIn x s) h k = (typed_more old new within s h.0, (h.1.0, h.1.1, within (x, h.1.0) h.1.2))
  action_at (ChooseSuch targets q) h k = (h.0, of_mapped (Stands new) with_prime targets k, (before_after_is (ChooseSuch targets q) h k).0)

  -- lost variables alone
  module _ (lost : List (List ℕ)) where
    lost_one : (b : Bool) (y : List ℕ × Ty) (rest : Environment) (values : List (List ℕ × Formula)) → Stands new y
        → (AllByRecursion (Stands new) (map with_prime rest) → AllByRecursion (IsNewValueIn new) values)
        → AllByRecursion (Stands new) (map with_prime (cond b (y ∷ rest) rest)) → AllByRecursion (IsNewValueIn new) (cond b ((y.0, as_term (with_prime y)) ∷ values) values)
    lost_one true y rest values h more k = (primed_value y h k.0, more k.1)
    lost_one false y rest values h more k = more k

    lost_targets : (ts : Environment) → AllByRecursion (Stands new) ts → AllByRecursion (Stands new) (map with_prime (filter (λ x. is_among lost x.0) ts))
        → AllByRecursion (IsNewValueIn new) (filter (λ p. is_among lost p.0) (map (λ y. (y.0, as_term (with_prime y))) ts))
    lost_targets [] h k = tt
    lost_targets (y ∷ ts) h k =
        lost_one (is_among lost y.0) y (filter (λ x. is_among lost x.0) ts) (filter (λ p. is_among lost p.0) (map (λ z. (z.0, as_term (with_prime z))) ts)) h.0 (lost_targets ts h.1) k

    lost_of_action : (a : Action) → IsTypedActionIn old a → AllByRecursion (Stands new) (map with_prime (filter (λ x. is_among lost x.0) (open_targets a)))
        → AllByRecursion (IsNewValueIn new) (filter (λ p. is_among lost p.0) (new_values a))
    lost_of_action (Assign pairs) h k = all_filtered (IsNewValueIn new) (λ p. is_among lost p.0) pairs (values_more old new within pairs h)
    lost_of_action (ChooseIn x s) h k = lost_targets (open_targets (ChooseIn x s)) (targets_stand old new within (ChooseIn x s) h) k
    lost_of_action (ChooseSuch targets q) h k = lost_targets targets (targets_stand old new within (ChooseSuch targets q) h) k

    lost_values : (xs : List Action) → AllByRecursion (IsTypedActionIn old) xs → AllByRecursion (Stands new) (map with_prime (filter (λ x. is_among lost x.0) (for_each open_targets xs)))
        → AllByRecursion (IsNewValueIn new) (filter (λ p. is_among lost p.0) (for_each new_values xs))
    lost_values [] h k = tt
    lost_values (a ∷ xs) h k =
        let split = subst (λ zs. AllByRecursion (Stands new) (map with_prime zs)) (filter_append (λ x. is_among lost x.0) (open_targets a) (for_each open_targets xs)) k in
        let parts = mapped_front (Stands new) with_prime (filter (λ x. is_among lost x.0) (open_targets a)) (filter (λ x. is_among lost x.0) (for_each open_targets xs)) split in
        subst (AllByRecursion (IsNewValueIn new)) (sym (filter_append (λ p. is_among lost p.0) (new_values a) (for_each new_values xs)))
        (both (IsNewValueIn new) (filter (λ p. is_among lost p.0) (new_values a)) (filter (λ p. is_among lost p.0) (for_each new_values xs)) (lost_of_action a h.0 parts.0) (lost_values xs h.1 parts.1))

-- an abstract action of parameters' environment, whose primed targets are names of it no more
module _ (old new : Environment) (within : IsWithin old new) where
  abbrev IsNone : List ℕ × Ty → Type 0
  IsNone y = type_in old y.0 ≡ None

  given_values : (a : Action) → IsTypedActionIn old a → AreNewValues new a
  given_values (Assign pairs) h = values_more old new within pairs h
  given_values (ChooseIn x s) h = tt
  given_values (ChooseSuch targets q) h = tt

  choices_are : (own : Environment) → IsGoodEnv own → IsWithin own old → (a : Action) → IsTypedActionIn old a → AllByRecursion (Stands own) (open_targets a)
      → AllByRecursion IsNone (map with_prime (open_targets a)) → AllByRecursion (IsPredicateIn (map with_prime (open_targets a) ++ new)) (before_after a)
  choices_are own good inner (Assign pairs) h k none = tt
  choices_are own good inner (ChooseIn x s) h k none =
      let t = h.1.0 in
      let e = members_are s t h.1.1 in
      let y : List ℕ × Ty = with_prime (x, t) in
      let stands : Stands own (x, t) = (subst (λ o. AllByRecursion (Stands own) (target_of x o)) e k).0 in
      let absent_here : AllByRecursion IsNone (y ∷ []) = subst (λ o. AllByRecursion IsNone (map with_prime (target_of x o))) e none in
      let larger : IsWithin old (y ∷ new) = λ z l. front_within old new (y ∷ []) within absent_here z (stands_more old (y ∷ []) z l) in
      let value = Formulas.value_at own good x t stands in
      let sets : AllByRecursion (Stands (y ∷ new)) (carriers t) = all_more (Stands own) (Stands (y ∷ new)) (λ z l. larger z (inner z l)) (carriers t) (Formulas.carriers_at own good x t stands) in
      let first : Stands (y ∷ new) y = ap (λ b. cond b (Some t) (type_in new y.0)) (name_is y.0) in
      let is : IsPredicateIn (y ∷ new) (member (as_term y) s) =
      Formulas.member_typed (y ∷ new) y s (Formulas.name_typed (y ∷ new) y first value sets) value (typed_more old (y ∷ new) larger s h.0) h.1.1 in
      subst (λ o. AllByRecursion (IsPredicateIn (map with_prime (target_of x o) ++ new)) (map (λ z. member (as_term (with_prime z)) s) (target_of x o))) (sym e) (is, tt)
  choices_are own good inner (ChooseSuch targets q) h k none =
      (predicate_more (old ++ map with_prime targets) (map with_prime targets ++ new) (front_within old new (map with_prime targets) within none) q h.2, tt)

  abstract_at : (own : Environment) → IsGoodEnv own → IsWithin own old → (a : Action) → IsTypedActionIn old a → AllByRecursion (Stands own) (open_targets a)
      → AllByRecursion IsNone (map with_prime (open_targets a)) → IsAbstractActionAt new a
  abstract_at own good inner a h k none = record {
    values = given_values a h;
    targets = targets_stand old new within a h;
    choices = choices_are own good inner a h k none;
  }

none_primed : (old vs ts : Environment) → AllByRecursion (λ y. type_in old y.0 ≡ None) (map with_prime vs) → AllByRecursion (Stands vs) ts → AllByRecursion (λ y. type_in old y.0 ≡ None) (map with_prime ts)
none_primed old vs [] h k = tt
none_primed old vs (x ∷ ts) h k = (named_has (λ n. type_in old n ≡ None) vs x h k.0, none_primed old vs ts h k.1)

module _ (m : CheckedMachine) (refined : List CheckedEvent) (e : CheckedEvent) (own : IsGoodEnv m.env) (h : IsWellTypedEvent m refined e)
    (named : AllByRecursion (λ n. (t : Ty) × Stands m.env (n, t)) (m.variables ++ m.lost)) (distinct : IsDistinct bytes_eq (m.variables ++ m.lost)) where
  abbrev event_env : Environment
  event_env = m.env ++ e.params

  abbrev params : Environment
  params = params_env m e refined

  abbrev primed : Environment
  primed = witnesses_env m e refined

  abbrev env : Environment
  env = obligation_env m e refined

  abbrev chosen : Environment
  chosen = for_each open_targets (actions_of e) ++ filter (λ x. is_among m.lost x.0) (for_each open_targets (actions_of_first refined))

  params_within : IsWithin params env
  params_within = stands_more params (map with_prime chosen)

  event_within : IsWithin event_env env
  event_within x k = params_within x (stands_more event_env (params_left_out e refined) x k)

  machine_inner : IsWithin m.env params
  machine_inner x k = stands_more event_env (params_left_out e refined) x (stands_more m.env e.params x k)

  machine_within : IsWithin m.env env
  machine_within x k = params_within x (machine_inner x k)

  abbrev variables : Environment
  variables = variables_of m

  variables_stand : AllByRecursion (Stands m.env) variables
  variables_stand = all_filtered (Stands m.env) (λ x. is_among (m.variables ++ m.lost) x.0) m.env (entries_stand m.env own.names)

  none_stands : AllByRecursion (λ y. type_in params y.0 ≡ None) (map with_prime variables)
  none_stands = absent params (map with_prime variables) h.primed.names

  -- targets are variables
  module _ (big : Environment) (larger : IsWithin m.env big) where
    target_stands : (ts : Environment) → AllByRecursion (Stands big) ts → AllByRecursion (λ x. is_among (m.variables ++ m.lost) x.0 ≡ true) ts → AllByRecursion (Stands variables) ts
    target_stands [] k l = tt
    target_stands (t ∷ ts) k l = (variable_stands (m.variables ++ m.lost) m.env big larger named t k.0 l.0, target_stands ts k.1 l.1)

    targets_are : (xs : List Action) → AllByRecursion (IsTypedActionIn big) xs → AllByRecursion (λ x. is_among (m.variables ++ m.lost) x.0 ≡ true) (for_each open_targets xs)
        → AllByRecursion (λ a. AllByRecursion (Stands variables) (open_targets a)) xs
    targets_are [] k l = tt
    targets_are (a ∷ xs) k l = (
      target_stands (open_targets a) (targets_stand big big (λ x z. z) a k.0) (front (λ x. is_among (m.variables ++ m.lost) x.0 ≡ true) (open_targets a) (for_each open_targets xs) l),
      targets_are xs k.1 (back (λ x. is_among (m.variables ++ m.lost) x.0 ≡ true) (open_targets a) (for_each open_targets xs) l),
    )

  own_targets : AllByRecursion (λ a. AllByRecursion (Stands variables) (open_targets a)) (actions_of e)
  own_targets =
      targets_are event_env (stands_more m.env e.params) (actions_of e) h.actions
      (of_keys (λ n. is_among (m.variables ++ m.lost) n ≡ true) (for_each open_targets (actions_of e))
      (chosen_have (λ n. is_among (m.variables ++ m.lost) n ≡ true) (actions_of e)
      (all_more (λ n. is_among m.variables n ≡ true) (λ n. is_among (m.variables ++ m.lost) n ≡ true) (λ n. among_more n m.variables m.lost) (targets_of_all (actions_of e)) h.targets)))

  refined_targets : AllByRecursion (λ a. AllByRecursion (Stands variables) (open_targets a)) (actions_of_first refined)
  refined_targets =
      targets_are params machine_inner (actions_of_first refined) h.refined_actions
      (of_keys (λ n. is_among (m.variables ++ m.lost) n ≡ true) (for_each open_targets (actions_of_first refined))
      (chosen_have (λ n. is_among (m.variables ++ m.lost) n ≡ true) (actions_of_first refined) h.refined_targets))

  chosen_variables : AllByRecursion (Stands variables) chosen
  chosen_variables =
      both (Stands variables) (own_chosen e) (lost_chosen m refined) (all_given (Stands variables) open_targets (actions_of e) own_targets)
      (all_filtered (Stands variables) (λ x. is_among m.lost x.0) (for_each open_targets (actions_of_first refined)) (all_given (Stands variables) open_targets (actions_of_first refined) refined_targets))

  chosen_in_machine : AllByRecursion (Stands m.env) chosen
  chosen_in_machine = all_more (Stands variables) (Stands m.env) (list_within variables m.env variables_stand) chosen chosen_variables

  -- a carrier set that stands beside the primed variables stands in the obligations' environment
  set_here : (set : List ℕ) → Stands primed (set, ty.Pow (ty.Given set)) → Stands env (set, ty.Pow (ty.Given set))
  set_here set k = elim (found_in params (map with_prime variables) (set, ty.Pow (ty.Given set)) k) [
    | inl a ↦ params_within (set, ty.Pow (ty.Given set)) a
    | inr b ↦ machine_within (set, ty.Pow (ty.Given set)) (sets_stand m.env own variables variables_stand set (stands_more (map with_prime variables) m.env (set, ty.Pow (ty.Given set)) b))
  ]

  abbrev HasSets : List ℕ × Ty → Type 0
  HasSets x = AllByRecursion (Stands env) (carriers x.1)

  -- the environment of the event's obligations is good
  env_good : IsGoodEnv env
  env_good = record {
    names = distinct_append params (map with_prime chosen) (distinct_front params (map with_prime variables) h.primed.names) (distinct_primed chosen (chosen_once m.variables m.lost distinct (actions_of e) (actions_of_first refined) h.once h.refined_once h.targets))
        (none_primed params variables chosen none_stands chosen_variables);
    types = both (λ x. IsTrue (is_value_type x.1)) params (map with_prime chosen) (front (λ x. IsTrue (is_value_type x.1)) params (map with_prime variables) h.primed.types)
        (all_of (λ x. IsTrue (is_value_type x.1)) with_prime chosen
        (all_more (Stands m.env) (λ x. IsTrue (is_value_type x.1)) (λ x k. Formulas.value_at m.env own x.0 x.1 k) chosen chosen_in_machine));
    carriers = both HasSets params (map with_prime chosen)
        (all_more (λ x. AllByRecursion (Stands primed) (carriers x.1)) HasSets (λ x k. sets_keep (Stands primed) (Stands env) set_here x.1 k) params
        (front (λ x. AllByRecursion (Stands primed) (carriers x.1)) params (map with_prime variables) h.primed.carriers))
        (all_of HasSets with_prime chosen
        (all_more (Stands m.env) (λ x. AllByRecursion (Stands env) (carriers x.1))
        (λ x k. all_more (Stands m.env) (Stands env) machine_within (carriers x.1) (Formulas.carriers_at m.env own x.0 x.1 k)) chosen chosen_in_machine));
  }

  chosen_stand : AllByRecursion (Stands env) (map with_prime (for_each open_targets (actions_of e)))
      × AllByRecursion (Stands env) (map with_prime (filter (λ x. is_among m.lost x.0) (for_each open_targets (actions_of_first refined))))
  chosen_stand =
      mapped_front (Stands env) with_prime (for_each open_targets (actions_of e)) (filter (λ x. is_among m.lost x.0) (for_each open_targets (actions_of_first refined)))
      (back (Stands env) params (map with_prime chosen) (entries_stand env env_good.names))

  abbrev IsOwn : Action → Type 0
  IsOwn a = IsTypedActionIn event_env a × AllByRecursion (Stands env) (map with_prime (open_targets a))

  own_actions : AllByRecursion IsOwn (actions_of e)
  own_actions =
      both_hold (IsTypedActionIn event_env) (λ a. AllByRecursion (Stands env) (map with_prime (open_targets a))) (actions_of e)
      h.actions (each_primed (Stands env) (actions_of e) chosen_stand.0)

  choices : AllByRecursion (IsPredicateIn env) (for_each before_after (actions_of e))
  choices =
      all_given (IsPredicateIn env) before_after (actions_of e)
      (all_more IsOwn (λ a. AllByRecursion (IsPredicateIn env) (before_after a)) (λ a k. before_after_is event_env env event_within env_good a k.0 k.1) (actions_of e) own_actions)

  after : AllByRecursion (IsNewValueIn env) (after_pairs m e refined)
  after =
      both (IsNewValueIn env) (for_each new_values (actions_of e)) (filter (λ p. is_among m.lost p.0) (for_each new_values (actions_of_first refined)))
      (all_given (IsNewValueIn env) new_values (actions_of e)
      (all_more IsOwn (λ a. AllByRecursion (IsNewValueIn env) (new_values a)) (λ a k. new_values_are event_env env event_within env_good a k.0 k.1) (actions_of e) own_actions))
      (lost_values params env params_within env_good m.lost (actions_of_first refined) h.refined_actions chosen_stand.1)

  -- variables and their values after the event, which replace primed variables in witnesses
  abbrev new_value : List ℕ × Ty → Formula
  new_value x = substituted (after_pairs m e refined) (as_term x)

  variables_here : AllByRecursion (Stands env) (variables_of m)
  variables_here = all_more (Stands m.env) (Stands env) machine_within (variables_of m) variables_stand

  primed_here : AllByRecursion (λ x. Stands primed (with_prime x)) (variables_of m)
  primed_here = of_mapped (Stands primed) with_prime (variables_of m) (back (Stands primed) params (map with_prime (variables_of m)) (entries_stand primed h.primed.names))

  value_is : (x : List ℕ × Ty) → Stands env x × Stands primed (with_prime x) → IsNewValue primed env ((with_prime x).0, new_value x)
  value_is x k =
      let term = Formulas.term_typed env env_good x k.0 in (
        Formulas.after_typed env (after_pairs m e refined) after (as_term x) term,
        k.1 ∙ ap Some (sym (Formulas.after_type env (after_pairs m e refined) after (as_term x) term ∙ type-Free x.0 x.1)),
      )

  variables_replaced : Replaces primed env (primed_values m (after_pairs m e refined))
  variables_replaced = record {
    terms = all_of (IsNewValue primed env) (λ x. ((with_prime x).0, new_value x)) (variables_of m)
        (all_more _ (λ x. IsNewValue primed env ((with_prime x).0, new_value x)) value_is (variables_of m)
        (both_hold (Stands env) (λ x. Stands primed (with_prime x)) (variables_of m) variables_here primed_here));
    sets = λ set k. elim (found_in params (map with_prime (variables_of m)) (set, ty.Pow (ty.Given set)) k) [
      | inl a ↦ params_within (set, ty.Pow (ty.Given set)) a
      | inr b ↦ sets_stand env env_good (variables_of m) variables_here set (stands_more (map with_prime (variables_of m)) env (set, ty.Pow (ty.Given set)) b)
    ];
    others = λ x k none. elim (found_in params (map with_prime (variables_of m)) x k) [
      | inl a ↦ params_within x a
      | inr b ↦ others_stand env env_good new_value (variables_of m) x (stands_more (map with_prime (variables_of m)) env x b) none
    ];
  }

  abbrev IsWitness : List ℕ × Formula → Type 0
  IsWitness w = IsPredicateIn env w.1 × ((t : Ty) × (type_in env w.0 ≡ Some t))

  named_here : (w : List ℕ × Formula) → (t : Ty) × Stands (wants_witness m e refined) (w.0, t) → (t : Ty) × (type_in env w.0 ≡ Some t)
  named_here w k = (
    k.0,
    within_both (params_left_out e refined) (map with_prime (lost_chosen m refined)) env
        (list_within (params_left_out e refined) env
        (back (Stands env) event_env (params_left_out e refined) (front (Stands env) params (map with_prime chosen) (entries_stand env env_good.names))))
        (list_within (map with_prime (lost_chosen m refined)) env chosen_stand.1) (w.0, k.0) k.1,
  )

  witnesses : AllByRecursion IsWitness (map (λ w. (w.0, substituted (primed_values m (after_pairs m e refined)) w.1)) e.witnesses)
  witnesses =
      all_of IsWitness (λ w. (w.0, substituted (primed_values m (after_pairs m e refined)) w.1)) e.witnesses
      (all_more _ (λ w. IsWitness (w.0, substituted (primed_values m (after_pairs m e refined)) w.1))
      (λ w k. (replaced_predicate primed env (primed_values m (after_pairs m e refined)) variables_replaced w.1 k.0, named_here w k.1)) e.witnesses
      (both_hold (λ w. IsPredicateIn primed w.1) (λ w. (t : Ty) × Stands (wants_witness m e refined) (w.0, t)) e.witnesses h.witnesses (all_named (wants_witness m e refined) e.witnesses h.witness_names)))

  module _ (axioms : AreTypedPredicates m.env m.axioms) (invariants : AreTypedPredicates m.env m.invariants) (variant : IfSome m.variant (IsTypedVariantIn m.env)) where
    axioms_here : AreTypedPredicates env m.axioms
    axioms_here = labelled_more m.env env machine_within m.axioms axioms

    invariants_here : AreTypedPredicates env m.invariants
    invariants_here = labelled_more m.env env machine_within m.invariants invariants

    guards_here : AreTypedPredicates env e.guards
    guards_here = labelled_more event_env env event_within e.guards h.guards

    base_is : (b : Bool) → AllByRecursion (IsPredicateIn env) (if b then formulas m.axioms else (machine_hyps m ++ formulas e.guards))
    base_is true = formulas_are env m.axioms axioms_here
    base_is false = both (IsPredicateIn env) (machine_hyps m) (formulas e.guards) (hyps_are env m axioms_here invariants_here) (formulas_are env e.guards guards_here)

    good_parts : AreGoodParts (parts_of m e refined)
    good_parts = record {
      env = env_good;
      base = base_is (initialises e);
      choices = choices;
      witnesses = witnesses;
      after = after;
    }

    variant_here : (v : Option Formula) → IfSome v (IsTypedVariantIn m.env) → IfSome v (IsTypedVariantIn env)
    variant_here None k = tt
    variant_here (Some v) k = (typed_more m.env env machine_within v k.0, k.1)

    abbrev IsAbstract : Action → Type 0
    IsAbstract a = IsTypedActionIn params a × AllByRecursion (Stands (variables_of m)) (open_targets a)

    abstract_is : (a : Action) → IsAbstract a → IsAbstractActionAt env a
    abstract_is a k =
        abstract_at params env params_within m.env own machine_inner a k.0
        (all_more (Stands (variables_of m)) (Stands m.env) (list_within (variables_of m) m.env variables_stand) (open_targets a) k.1)
        (none_primed params (variables_of m) (open_targets a) none_stands k.1)

    reads : IsReadIn env m e refined
    reads = record {
      axioms = axioms_here;
      invariants = invariants_here;
      variant = variant_here m.variant variant;
      guards = guards_here;
      actions = of_mapped (IsActionAt env) (λ a. a.1) e.actions (all_more IsOwn (IsActionAt env) (λ a k. action_at event_env env event_within env_good a k.0 k.1) (actions_of e) own_actions);
      refined_guards = all_more (λ r. AreTypedPredicates params r.guards) (λ r. AreTypedPredicates env r.guards) (λ r. labelled_more params env params_within r.guards) refined h.refined_guards;
      refined_actions = all_more IsAbstract (IsAbstractActionAt env) abstract_is (actions_of_first refined)
          (both_hold (IsTypedActionIn params) (λ a. AllByRecursion (Stands (variables_of m)) (open_targets a)) (actions_of_first refined) h.refined_actions refined_targets);
    }

    has_good_parts : HasGoodParts m refined e
    has_good_parts = (good_parts, reads)

pub machine_has_good_parts : (m : CheckedMachine) (abstraction : Option CheckedMachine) → IsWellTypedMachine m abstraction → IsGoodMachine m abstraction
machine_has_good_parts m abstraction h = record {
  env = h.env;
  axioms = h.axioms;
  invariants = h.invariants;
  variant = h.variant;
  events = all_more (λ e. IsWellTypedEvent m (refined_by abstraction e) e) (λ e. HasGoodParts m (refined_by abstraction e) e)
      (λ e k. has_good_parts m (refined_by abstraction e) e h.env k h.variables h.once h.axioms h.invariants h.variant) m.events h.events;
}
