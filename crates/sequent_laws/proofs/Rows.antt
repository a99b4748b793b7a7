-- Each obligation of a row is a sequent.
use Rattle.sequent_laws.proofs.Values.{set_values}
use Rattle.std.proofs.Common.{◌≡◌, ◌≢◌, ◌∙◌, sym, ap, subst, refl, ℕ, Bool, true, false, cond, not, ◌&&◌, ◌||◌, List, [], ◌∷◌, ◌++◌, map, take, drop, Option, Some, None, is_some}
use Rattle.std.specs.Prelude.{if◌then◌else◌, codes}
use Rattle.std.specs.List.{AllByRecursion, filter}
use Rattle.std.specs.Option.{option_to_list}
use Rattle.std.proofs.lemmas.List.{take-append-drop}
use Rattle.formula_core.specs.declared.op.Op.TheVariants as op
use Rattle.formula_core.specs.declared.ty.Ty.{Ty}
use Rattle.formula_core.specs.declared.formula.Formula.{Formula}
use Rattle.formula_core.specs.declared.raw.Action.{Action}
use Rattle.formula_core.specs.declared.raw.Action.TheVariants.{Assign, ChooseIn, ChooseSuch}
use Rattle.formula_core.specs.Env.{type_in}
use Rattle.formula_core.specs.Formulas.{substituted}
use Rattle.formula_core.specs.Typed.{Stands, IsTypedIn, IsPredicateIn, IsGoodEnv}
use Rattle.formula_core.specs.Types.{is_value_type, is_integer, if_set, members}
use Rattle.formula_core.specs.Wellness.{type_of}
use Rattle.formula_core.proofs.Keeping.{front, back, both, all_more}
use Rattle.well_defined.specs.Conditions.{wd_of}
use Rattle.well_defined.specs.Connectives.{is_top}
use Rattle.well_defined.specs.Predicates.{conjunction, top, finite, member}
use Rattle.well_defined.proofs.Types.{type-Free, integer_exact}
use Rattle.model_core.specs.Components.{is_ordinary, is_convergent}
use Rattle.model_core.specs.declared.checked.CheckedEvent.{CheckedEvent}
use Rattle.model_core.specs.declared.checked.CheckedMachine.{CheckedMachine}
use Rattle.model_core.specs.declared.checked.Labelled.{Labelled}
use Rattle.model_core.specs.Each.{at_each, for_each}
use Rattle.sequent_core.specs.declared.sequent.Obligation.{Obligation}
use Rattle.sequent_core.specs.Sequents.{IsSequent}
use Rattle.po_rules.specs.Parts.{EventParts, path_with, formulas, initialises, is_extended, as_term, machine_hyps}
use Rattle.formula_core.specs.Names.{with_prime}
use Rattle.po_rules.specs.Rows.{needed, from_base, from_choices, from_witnesses, of_kind, chain, for_some_of, equal_terms, labelled_rows, variant_rows, witness_row, witness_rows, conditions, strengthening_rows, merging_rows, action_condition, feasible, action_row, action_rows, equality_row, equality_rows, is_changed, invariant_row, invariant_rows, was_convergent, decrease, naturals, decrease_rows}
use Rattle.po_rules.specs.Sequents.{IsNewValueIn, AreGoodParts, AreSequents}
use Rattle.sequent_laws.specs.Sound.{Environment, AreTypedPredicates, IsTypedVariantIn, IsActionAt}
use Rattle.sequent_laws.proofs.Formulas

abbrev IsOne : Obligation → Type 0
IsOne o = IsSequent o.sequent

pub needed_is : (name : List ℕ) (env : Environment) (hyps : List Formula) (goal : Formula) → IsGoodEnv env → AllByRecursion (IsPredicateIn env) hyps → IsPredicateIn env goal
    → AreSequents (needed name env hyps goal)
needed_is name env hyps goal good all is =
    let go : (b : Bool) → AreSequents (if b then [] else (record { name = name; sequent = record { env = env; hyps = hyps; goal = goal } } ∷ [])) = elim [
      | true ↦ tt
      | false ↦ (record { env = good; hyps = all; goal = is }, tt)
    ] in
    go (is_top goal)

-- rows that are left out unless something holds
pub if_so : (b : Bool) (rows : List Obligation) → AreSequents rows → AreSequents (if b then rows else [])
if_so true rows h = h
if_so false rows h = tt

pub if_not : (b : Bool) (rows : List Obligation) → AreSequents rows → AreSequents (if b then [] else rows)
if_not true rows h = tt
if_not false rows h = h

pub join : (xs ys : List Obligation) → AreSequents xs → AreSequents ys → AreSequents (xs ++ ys)
join = both IsOne

pub each_is : {X : Type 0} (rows : X → List Obligation) (xs : List X) → AllByRecursion (λ x. AreSequents (rows x)) xs → AreSequents (for_each rows xs)
each_is rows [] h = tt
each_is rows (x ∷ xs) h = both IsOne (rows x) (for_each rows xs) h.0 (each_is rows xs h.1)

-- the same, from what holds of each
pub each_by : {X : Type 0} (P : X → Type 0) (rows : X → List Obligation) → ((x : X) → P x → AreSequents (rows x)) → (xs : List X) → AllByRecursion P xs → AreSequents (for_each rows xs)
each_by P rows one xs h = each_is rows xs (all_more P (λ x. AreSequents (rows x)) one xs h)

pub each_of_any : {X : Type 0} (rows : X → List Obligation) → ((x : X) → AreSequents (rows x)) → (xs : List X) → AreSequents (for_each rows xs)
each_of_any rows one [] = tt
each_of_any rows one (x ∷ xs) = both IsOne (rows x) (for_each rows xs) (one x) (each_of_any rows one xs)

each_beside : {X : Type 0} (P : X → Type 0) (rows : List X → X → List Obligation) → ((before : List X) (x : X) → AllByRecursion P before → P x → AreSequents (rows before x))
    → (before xs : List X) → AllByRecursion P before → AllByRecursion P xs → AreSequents (at_each rows before xs)
each_beside P rows one before [] b h = tt
each_beside P rows one before (x ∷ xs) b h =
    both IsOne (rows before x) _ (one before x b h.0) (each_beside P rows one (before ++ x ∷ []) xs (both P before (x ∷ []) b (h.0, tt)) h.1)

pub all_of : {X Y : Type 0} (P : Y → Type 0) (f : X → Y) (xs : List X) → AllByRecursion (λ x. P (f x)) xs → AllByRecursion P (map f xs)
all_of P f [] h = tt
all_of P f (x ∷ xs) h = (h.0, all_of P f xs h.1)

pub all_filtered : {X : Type 0} (P : X → Type 0) (keep : X → Bool) (xs : List X) → AllByRecursion P xs → AllByRecursion P (filter keep xs)
all_filtered P keep [] h = tt
all_filtered P keep (x ∷ xs) h =
    let go : (b : Bool) → AllByRecursion P (cond b (x ∷ filter keep xs) (filter keep xs)) = elim [
      | true ↦ (h.0, all_filtered P keep xs h.1)
      | false ↦ all_filtered P keep xs h.1
    ] in
    go (keep x)

pub all_given : {X Y : Type 0} (P : Y → Type 0) (f : X → List Y) (xs : List X) → AllByRecursion (λ x. AllByRecursion P (f x)) xs → AllByRecursion P (for_each f xs)
all_given P f [] h = tt
all_given P f (x ∷ xs) h = both P (f x) (for_each f xs) h.0 (all_given P f xs h.1)

split : {X : Type 0} (P : X → Type 0) (n : ℕ) (xs : List X) → AllByRecursion P xs → AllByRecursion P (take n xs) × AllByRecursion P (drop n xs)
split P n xs h = let k = subst (AllByRecursion P) (sym (take-append-drop n xs)) h in (front P (take n xs) (drop n xs) k, back P (take n xs) (drop n xs) k)

pub formulas_are : (env : Environment) (ls : List Labelled) → AreTypedPredicates env ls → AllByRecursion (IsPredicateIn env) (formulas ls)
formulas_are env = all_of (IsPredicateIn env) (λ l. l.formula)

pub hyps_are : (env : Environment) (m : CheckedMachine) → AreTypedPredicates env m.axioms → AreTypedPredicates env m.invariants → AllByRecursion (IsPredicateIn env) (machine_hyps m)
hyps_are env m a i = both (IsPredicateIn env) (formulas m.axioms) (formulas m.invariants) (formulas_are env m.axioms a) (formulas_are env m.invariants i)

-- `l/WD` and `l/THM`
module _ (path : List ℕ) (env : Environment) (hyps : List Formula) (good : IsGoodEnv env) (all : AllByRecursion (IsPredicateIn env) hyps) where
  labelled_is : (before : List Labelled) (l : Labelled) → AreTypedPredicates env before → IsPredicateIn env l.formula → AreSequents (labelled_rows path env hyps before l)
  labelled_is before l b is =
      let hs = both (IsPredicateIn env) hyps (formulas before) all (formulas_are env before b) in
      join (needed (path_with path (of_kind l.label (codes "WD"))) env (hyps ++ formulas before) (wd_of l.formula)) _
      (needed_is _ env (hyps ++ formulas before) (wd_of l.formula) good hs (Formulas.condition_typed env l.formula is.0))
      (if_so l.theorem _ (needed_is _ env (hyps ++ formulas before) l.formula good hs is))

  pub labelled_are : (from : ℕ) (ls : List Labelled) → AreTypedPredicates env ls → AreSequents (at_each (labelled_rows path env hyps) (take from ls) (drop from ls))
  labelled_are from ls h =
      let parts = split (λ l. IsPredicateIn env l.formula) from ls h in
      each_beside (λ l. IsPredicateIn env l.formula) (labelled_rows path env hyps) labelled_is (take from ls) (drop from ls) parts.0 parts.1

-- a variant that is no integer is a set of values
pub set_of_values : (env : Environment) (v : Formula) → IsTypedVariantIn env v → is_integer (type_of v) ≡ false → if_set (type_of v) is_value_type ≡ true
set_of_values env v h e = set_values v h.0.well (subst (λ b. (b || is_some (members (type_of v))) ≡ true) e h.1)

pub variant_are : (m : CheckedMachine) → IsGoodEnv m.env → AllByRecursion (IsPredicateIn m.env) (machine_hyps m) → (v : Formula) → IsTypedVariantIn m.env v → AreSequents (variant_rows m v)
variant_are m good all v h =
    let rows = needed (path_with m.name (codes "FIN")) m.env (machine_hyps m) (finite v) in
    let go : (b : Bool) → is_integer (type_of v) ≡ b → AreSequents (if b then [] else rows) = elim [
      | true ↦ λ e. tt
      | false ↦ λ e. needed_is _ m.env (machine_hyps m) (finite v) good all (Formulas.finite_typed m.env v (set_of_values m.env v h e) h.0)
    ] in
    join (needed (path_with m.name (codes "VWD")) m.env (machine_hyps m) (wd_of v)) _
    (needed_is _ m.env (machine_hyps m) (wd_of v) good all (Formulas.condition_typed m.env v h.0))
    (go (is_integer (type_of v)) refl)

module _ (p : EventParts) (good : AreGoodParts p) where
  abbrev Is : Formula → Type 0
  Is = IsPredicateIn p.env

  witnessed : AllByRecursion Is (map (λ w. w.1) p.witnesses)
  witnessed = all_of Is (λ w. w.1) p.witnesses (all_more _ (λ w. Is w.1) (λ w h. h.0) p.witnesses good.witnesses)

  choices_hyps : AllByRecursion Is (p.base ++ p.choices)
  choices_hyps = both Is p.base p.choices good.base good.choices

  pub from_base_is : (name : List ℕ) (goal : Formula) → Is goal → AreSequents (from_base p name goal)
  from_base_is name goal is = needed_is (path_with p.path name) p.env p.base goal good.env good.base is

  pub from_choices_is : (name : List ℕ) (goal : Formula) → Is goal → AreSequents (from_choices p name goal)
  from_choices_is name goal is = needed_is (path_with p.path name) p.env (p.base ++ p.choices) goal good.env choices_hyps is

  pub from_witnesses_is : (name : List ℕ) (goal : Formula) → Is goal → AreSequents (from_witnesses p name goal)
  from_witnesses_is name goal is =
      needed_is (path_with p.path name) p.env (p.base ++ p.choices ++ map (λ w. w.1) p.witnesses) goal good.env (both Is (p.base ++ p.choices) (map (λ w. w.1) p.witnesses) choices_hyps witnessed) is

  -- INV
  invariant_is : (e : CheckedEvent) (i : Labelled) → Is i.formula → AreSequents (invariant_row e p i)
  invariant_is e i is =
      if_so (not i.theorem && (initialises e || is_changed p i.formula)) _
      (from_witnesses_is (of_kind i.label (codes "INV")) (substituted p.after i.formula) (Formulas.after_predicate p.env p.after good.after i.formula is))

  pub invariants_are : (m : CheckedMachine) (e : CheckedEvent) → AreTypedPredicates p.env m.invariants → AreSequents (invariant_rows m e p)
  invariants_are m e h = each_by (λ i. Is i.formula) (invariant_row e p) (invariant_is e) (drop m.own_from m.invariants) (split (λ i. Is i.formula) m.own_from m.invariants h).1

  -- WWD and WFIS
  witness_is : (w : List ℕ × Formula) → Is w.1 × ((t : Ty) × (type_in p.env w.0 ≡ Some t)) → AreSequents (witness_row p w)
  witness_is w h =
      let t = h.1.0 in
      let e : type_in p.env w.0 ≡ Some t = h.1.1 in
      let some : Is (for_some_of (map (λ u. (w.0, u)) (option_to_list (type_in p.env w.0))) w.1) =
      subst (λ o. Is (for_some_of (map (λ u. (w.0, u)) (option_to_list o)) w.1)) (sym e) (Formulas.some_typed p.env good.env ((w.0, t) ∷ []) (λ k. absurd cc) (e, tt) w.1 h.0) in
      join (from_choices p (of_kind w.0 (codes "WWD")) (wd_of w.1)) _
      (from_choices_is (of_kind w.0 (codes "WWD")) (wd_of w.1) (Formulas.condition_typed p.env w.1 h.0.0))
      (from_choices_is (of_kind w.0 (codes "WFIS")) _ some)

  pub witnesses_are : AreSequents (witness_rows p)
  witnesses_are = each_by _ (witness_row p) witness_is p.witnesses good.witnesses

  -- GRD
  conditions_are : (r : CheckedEvent) → AreTypedPredicates p.env r.guards → AreTypedPredicates p.env (conditions r)
  conditions_are r = all_filtered (λ g. Is g.formula) (λ g. not g.theorem) r.guards

  pub strengthening_are : (e : CheckedEvent) (refined : List CheckedEvent) → AllByRecursion (λ r. AreTypedPredicates p.env r.guards) refined → AreSequents (strengthening_rows e refined p)
  strengthening_are e [] h = tt
  strengthening_are e (r ∷ []) h =
      if_not (is_extended e) _
      (each_by (λ g. Is g.formula) (λ g. from_witnesses p (of_kind g.label (codes "GRD")) g.formula) (λ g is. from_witnesses_is (of_kind g.label (codes "GRD")) g.formula is)
      (conditions r) (conditions_are r h.0))
  strengthening_are e (r ∷ s ∷ refined) h = tt

  -- MRG
  all_conditions : (rs : List CheckedEvent) → AllByRecursion (λ r. AreTypedPredicates p.env r.guards) rs → AllByRecursion Is (map (λ x. chain conjunction (formulas (conditions x))) rs)
  all_conditions [] h = tt
  all_conditions (r ∷ rs) h = (
    Formulas.conjunctions_typed p.env (formulas (conditions r)) (formulas_are p.env (conditions r) (conditions_are r h.0)),
    all_conditions rs h.1,
  )

  pub merging_are : (refined : List CheckedEvent) → AllByRecursion (λ r. AreTypedPredicates p.env r.guards) refined → AreSequents (merging_rows refined p)
  merging_are [] h = tt
  merging_are (r ∷ []) h = tt
  merging_are (r ∷ s ∷ refined) h = from_base_is (codes "MRG") _ (Formulas.disjunctions_typed p.env (map (λ x. chain conjunction (formulas (conditions x))) (r ∷ s ∷ refined)) (all_conditions (r ∷ s ∷ refined) h))

  -- WD and FIS of actions
  abbrev primed_stand : List (List ℕ × Ty) → Type 0
  primed_stand targets = AllByRecursion (Stands p.env) (map with_prime targets)

  some_primed : (targets : List (List ℕ × Ty)) → targets ≢ [] → map with_prime targets ≢ []
  some_primed [] some = absurd (some refl)
  some_primed (x ∷ targets) some = λ e. absurd cc

  sides : (pairs : List (List ℕ × Formula)) → AllByRecursion (IsNewValueIn p.env) pairs → AllByRecursion Is (map (λ x. wd_of x.1) pairs)
  sides [] h = tt
  sides (x ∷ pairs) h = (Formulas.condition_typed p.env x.1 h.0.0, sides pairs h.1)

  condition_is : (a : Action) → IsActionAt p.env a → Is (action_condition a)
  condition_is (Assign pairs) h = Formulas.all_conjoined p.env (map (λ x. wd_of x.1) pairs) top (sides pairs h) (Formulas.top_typed p.env)
  condition_is (ChooseIn x s) h = Formulas.condition_typed p.env s h.0
  condition_is (ChooseSuch targets q) h =
      Formulas.every_typed p.env good.env (map with_prime targets) (some_primed targets h.0) (all_of (Stands p.env) with_prime targets h.1) (wd_of q) (Formulas.condition_typed p.env q h.2.0)

  feasible_is : (a : Action) → IsActionAt p.env a → AllByRecursion Is (feasible a)
  feasible_is (Assign pairs) h = tt
  feasible_is (ChooseIn x s) h =
      let t = h.1.0 in
      (Formulas.not_empty_typed p.env s t h.1.1 (Formulas.value_at p.env good.env x t h.1.2) (Formulas.carriers_at p.env good.env x t h.1.2) h.0, tt)
  feasible_is (ChooseSuch targets q) h = (
    Formulas.some_typed p.env good.env (map with_prime targets) (some_primed targets h.0) (all_of (Stands p.env) with_prime targets h.1) q h.2,
    tt,
  )

  action_is : (a : List ℕ × Action) → IsActionAt p.env a.1 → AreSequents (action_row p a)
  action_is a h =
      join (from_base p (of_kind a.0 (codes "WD")) (action_condition a.1)) _
      (from_base_is (of_kind a.0 (codes "WD")) (action_condition a.1) (condition_is a.1 h))
      (each_by Is (from_base p (of_kind a.0 (codes "FIS"))) (from_base_is (of_kind a.0 (codes "FIS"))) (feasible a.1) (feasible_is a.1 h))

  pub actions_are : (e : CheckedEvent) → AllByRecursion (λ a. IsActionAt p.env a.1) e.actions → AreSequents (action_rows e p)
  actions_are e h = each_by (λ a. IsActionAt p.env a.1) (action_row p) action_is (drop e.own_actions_from e.actions) (split (λ a. IsActionAt p.env a.1) e.own_actions_from e.actions h).1

  -- EQL
  abbrev new_value : List ℕ × Ty → Formula
  new_value x = substituted p.after (as_term x)

  pub new_value_typed : (x : List ℕ × Ty) → Stands p.env x → IsTypedIn p.env (new_value x)
  new_value_typed x h = Formulas.after_typed p.env p.after good.after (as_term x) (Formulas.term_typed p.env good.env x h)

  pub new_value_type : (x : List ℕ × Ty) → Stands p.env x → type_of (new_value x) ≡ x.1
  new_value_type x h = Formulas.after_type p.env p.after good.after (as_term x) (Formulas.term_typed p.env good.env x h) ∙ type-Free x.0 x.1

  kept_is : (v : List ℕ) (t : Ty) → type_in p.env v ≡ Some t → Is (equal_terms (new_value (v, t)) (as_term (v, t)))
  kept_is v t e =
      Formulas.equal_typed p.env (new_value (v, t)) (as_term (v, t)) (new_value_typed (v, t) e) (Formulas.term_typed p.env good.env (v, t) e)
      (ap is_value_type (type-Free v t) ∙ Formulas.value_at p.env good.env v t e) (new_value_type (v, t) e ∙ sym (type-Free v t))

  equality_is : (abstraction : Option CheckedMachine) (refined : List CheckedEvent) (v : List ℕ) → AreSequents (equality_row abstraction refined p v)
  equality_is abstraction refined v =
      let row : Ty → List Obligation = λ t. from_witnesses p (of_kind v (codes "EQL")) (equal_terms (new_value (v, t)) (as_term (v, t))) in
      let go : (o : Option Ty) → type_in p.env v ≡ o → AreSequents (for_each row (option_to_list o)) = elim [
        | None ↦ λ e. tt
        | Some t ↦ λ e. each_is row (t ∷ []) (from_witnesses_is (of_kind v (codes "EQL")) (equal_terms (new_value (v, t)) (as_term (v, t))) (kept_is v t e), tt)
      ] in
      if_so _ _ (go (type_in p.env v) refl)

  pub equalities_are : (m : CheckedMachine) (abstraction : Option CheckedMachine) (refined : List CheckedEvent) → AreSequents (equality_rows m abstraction refined p)
  equalities_are m abstraction refined = each_of_any (equality_row abstraction refined p) (equality_is abstraction refined) m.variables

  -- NAT and VAR
  decrease_is : (v : Formula) → IsTypedVariantIn p.env v → (b c : Bool) → is_integer (type_of v) ≡ b → Is (decrease b c (substituted p.after v) v)
  decrease_is v h b c e =
      let new = Formulas.after_typed p.env p.after good.after v h.0 in
      let same = Formulas.after_type p.env p.after good.after v h.0 in
      let number : is_integer (type_of v) ≡ true → is_integer (type_of (substituted p.after v)) ≡ true = λ k. ap is_integer same ∙ k in
      let set : is_integer (type_of v) ≡ false → if_set (type_of (substituted p.after v)) is_value_type ≡ true = λ k. ap (λ t. if_set t is_value_type) same ∙ set_of_values p.env v h k in
      let go : (b c : Bool) → is_integer (type_of v) ≡ b → Is (decrease b c (substituted p.after v) v) = elim [
        | true ↦ elim [
          | true ↦ λ k. Formulas.comparison_typed p.env op.Less refl (substituted p.after v) v new h.0 (number k) k
          | false ↦ λ k. Formulas.comparison_typed p.env op.LessOrEqual refl (substituted p.after v) v new h.0 (number k) k
        ]
        | false ↦ elim [
          | true ↦ λ k. Formulas.inclusion_typed p.env op.ProperSubset refl (substituted p.after v) v new h.0 (set k) (sym same)
          | false ↦ λ k. Formulas.inclusion_typed p.env op.Subset refl (substituted p.after v) v new h.0 (set k) (sym same)
        ]
      ] in
      go b c e

  pub decrease_are : (e : CheckedEvent) (refined : List CheckedEvent) (v : Formula) → IsTypedVariantIn p.env v → AreSequents (decrease_rows e refined p v)
  decrease_are e refined v h =
      let number : (b : Bool) → is_integer (type_of v) ≡ b → AreSequents (if b then from_base p (codes "NAT") (member v naturals) else []) = elim [
        | true ↦ λ k. from_base_is (codes "NAT") (member v naturals) (Formulas.natural_typed p.env v h.0 (integer_exact (type_of v) k))
        | false ↦ λ k. tt
      ] in
      if_not (is_ordinary e.convergence || was_convergent e refined) _
      (join _ _ (number (is_integer (type_of v)) refl) (from_choices_is (codes "VAR") _ (decrease_is v h (is_integer (type_of v)) (is_convergent e.convergence) refl)))
