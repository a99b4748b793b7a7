-- What a hint names is typed in the environment of the sequent.
use Rattle.std.proofs.Common.{◌≡◌, ◌∙◌, inl, inr, ap, subst, refl, ℕ, zero, suc, ◌-◌, ◌==◌, Bool, true, false, ◌||◌, List, [], ◌∷◌, ◌++◌, Option, Some, None, IfSome, is_some, slice_get, if◌then◌else◌}
use Rattle.std.specs.Prelude.{bytes_eq, Contains}
use Rattle.std.specs.List.{AllByRecursion, IsDistinct, list_any}
use Rattle.std.specs.Option.{option_and_then, option_map_or}
use Rattle.std.proofs.lemmas.List.Elements.{All-contains_itself, recursion_from_All, Contains-append_left, Contains-append_right, Contains-push}
use Rattle.formula_core.specs.declared.Binder.{Binder}
use Rattle.formula_core.specs.declared.Binder.TheVariants.{ForAll, Exists}
use Rattle.formula_core.specs.declared.Ty.{Ty}
use Rattle.formula_core.specs.declared.Ty.TheVariants.{Truth}
use Rattle.formula_core.specs.declared.Formula.{Formula}
use Rattle.formula_core.specs.declared.raw.Raw.{Raw}
use Rattle.formula_core.specs.Env.{type_in}
use Rattle.formula_core.specs.Typed.{Stands, HasCarriers, IsTypedIn, IsPredicateIn}
use Rattle.type_formula.specs.CoreForms.{core_form}
use Rattle.type_formula.proofs.Standing.{formulas_stand}
use Rattle.rule_table.specs.declared.kind.RuleKind.{RuleKind}
use Rattle.rule_table.specs.Rows.{first}
use Rattle.rule_table.specs.Rules.{terms_of}
use Rattle.rule_table.specs.Shapes.{one_bound}
use Rattle.sequent_core.specs.declared.hint.Hint.{Hint}
use Rattle.sequent_core.specs.declared.sequent.Sequent.{Sequent}
use Rattle.sequent_core.specs.Sequents.{IsSequent}
use Rattle.rule_making.specs.Make.{AreTerms, IsTerm, first_hyp, first_taken, goal_for, hyps_at, hyps_for, hypothesis, kind_of, kinds, main_for, replaced_types, takes_goal, types_under, without_first}
use Rattle.made_rules.proofs.Typed.{Env, Carried}
use Rattle.made_rules.proofs.Instances.{predicate_is, at_some}
use Rattle.made_rules.proofs.Makers.{carried_truth}
use Rattle.made_rules.proofs.NewNames.{AreNew, carriers_each, or_false, turned}
use Rattle.made_rules.proofs.Operands.{binder_found}

-- terms
module _ (env : Env) (has : HasCarriers env) where
  term_typed : (types : List Ty) → AllByRecursion (Carried env) types → (raw : Raw) (f : Formula) → IsTerm env (first types) raw f → IsTypedIn env f
  term_typed [] c raw f is = elim is [
    | inl p ↦ (formulas_stand env [] (core_form raw) (Some Truth) f p has (carried_truth env)).typed
    | inr p ↦ (formulas_stand env [] (core_form raw) None f p.1 has tt).typed
  ]
  term_typed (t ∷ types) c raw f is = (formulas_stand env [] (core_form raw) (Some t) f is has c.0).typed

  rest_carried : (types : List Ty) → AllByRecursion (Carried env) types → AllByRecursion (Carried env) (without_first types)
  rest_carried [] c = tt
  rest_carried (t ∷ types) c = c.1

  pub terms_typed : (types : List Ty) → AllByRecursion (Carried env) types → (raws : List Raw) (terms : List Formula) → AreTerms env types raws terms → AllByRecursion (IsTypedIn env) terms
  terms_typed types c [] [] are = tt
  terms_typed types c [] (f ∷ terms) are = absurd are
  terms_typed types c (raw ∷ raws) [] are = absurd are
  terms_typed types c (raw ∷ raws) (f ∷ terms) are =
      (term_typed types c raw f are.0, terms_typed (without_first types) (rest_carried types c) raws terms are.1)

-- new names
none_of : {X : Type 0} (o : Option X) → is_some o ≡ false → o ≡ None
none_of None e = refl
none_of (Some x) e = absurd (cc)

any_parts : {X : Type 0} (p : X → Bool) (xs ys : List X) → list_any p (xs ++ ys) ≡ false → (list_any p xs ≡ false) × (list_any p ys ≡ false)
any_parts p [] ys e = (refl, e)
any_parts p (x ∷ xs) ys e =
    let w = or_false (p x) (list_any p (xs ++ ys)) e in
    let v = any_parts p xs ys w.1 in
    (ap (λ b. b || list_any p xs) w.0 ∙ v.0, v.1)

none_distinct : IsDistinct bytes_eq []
unfolding IsDistinct
none_distinct = tt

one_more : (x : List ℕ) (xs : List (List ℕ)) → AllByRecursion (λ y. bytes_eq x y ≡ false) xs → IsDistinct bytes_eq xs → IsDistinct bytes_eq (x ∷ xs)
unfolding IsDistinct
one_more x xs a d = (a, d)

module _ (env : Env) where
  -- names that aren't taken are new, and apart from those before them
  record Untaken (earlier names : List (List ℕ)) : Type 0 where
    fresh : AllByRecursion (λ x. type_in env x ≡ None) names
    distinct : IsDistinct bytes_eq names
    apart : AllByRecursion (λ y. list_any (bytes_eq y) earlier ≡ false) names

  firsts : (earlier : List (List ℕ)) (x : List ℕ) (names : List (List ℕ)) → AllByRecursion (λ y. list_any (bytes_eq y) (earlier ++ x ∷ []) ≡ false) names
      → AllByRecursion (λ y. list_any (bytes_eq y) earlier ≡ false) names × AllByRecursion (λ y. bytes_eq x y ≡ false) names
  firsts earlier x [] h = (tt, tt)
  firsts earlier x (y ∷ names) h =
      let w = any_parts (bytes_eq y) earlier (x ∷ []) h.0 in
      let rest = firsts earlier x names h.1 in
      ((w.0, rest.0), (turned x y (or_false (bytes_eq y x) false w.1).0, rest.1))

  untaken : (earlier names : List (List ℕ)) → first_taken env earlier names ≡ None → Untaken earlier names
  untaken earlier [] e = record { fresh = tt; distinct = none_distinct; apart = tt }
  untaken earlier (x ∷ names) e = at (is_some (type_in env x) || list_any (bytes_eq x) earlier) refl e (λ k. untaken (earlier ++ x ∷ []) names k)
    where
      at : (c : Bool) → (is_some (type_in env x) || list_any (bytes_eq x) earlier) ≡ c → (if c then Some x else first_taken env (earlier ++ x ∷ []) names) ≡ None
          → (first_taken env (earlier ++ x ∷ []) names ≡ None → Untaken (earlier ++ x ∷ []) names) → Untaken earlier (x ∷ names)
      at true k e f = absurd (cc)
      at false k e f =
          let w = or_false (is_some (type_in env x)) (list_any (bytes_eq x) earlier) k in
          let rest = f e in
          let v = firsts earlier x names rest.apart in
          record { fresh = (none_of (type_in env x) w.0, rest.fresh); distinct = one_more x names v.1 rest.distinct; apart = (w.1, v.0) }

  pub names_are_new : (names : List (List ℕ)) → first_taken env [] names ≡ None → AreNew env names
  names_are_new names e = let w = untaken [] names e in record { fresh = w.fresh; distinct = w.distinct }

-- hypotheses
found_in : {X : Type 0} (xs : List X) (i : ℕ) (x : X) → slice_get xs i ≡ Some x → Contains xs x
found_in [] i x e = absurd (cc)
found_in (y ∷ xs) zero x e = let same : y ≡ x = cc in subst (Contains (y ∷ xs)) same (Contains-append_left (y ∷ []) xs y (Contains-push [] y))
found_in (y ∷ xs) (suc i) x e = Contains-append_right (y ∷ []) xs x (found_in xs i x e)

if_some : {X : Type 0} (P : X → Type 0) (o : Option X) → ((x : X) → o ≡ Some x → P x) → IfSome o P
if_some P None f = tt
if_some P (Some x) f = f x refl

module _ (s : Sequent) where
  hypothesis_is : (n : ℕ) → IfSome (hypothesis s n) (Contains s.hyps)
  hypothesis_is n = at (n == 0)
    where
      at : (c : Bool) → IfSome (if c then None else slice_get s.hyps (n - 1)) (Contains s.hyps)
      at true = tt
      at false = if_some (Contains s.hyps) (slice_get s.hyps (n - 1)) (found_in s.hyps (n - 1))

  named_are : (ns : List ℕ) → AllByRecursion (Contains s.hyps) (hyps_at s ns)
  named_are [] = tt
  named_are (n ∷ ns) = at (hypothesis s n) (hypothesis_is n) (named_are ns)
    where
      at : (o : Option Formula) → IfSome o (Contains s.hyps) → AllByRecursion (Contains s.hyps) (hyps_at s ns)
          → AllByRecursion (Contains s.hyps) (option_map_or (λ h. h ∷ hyps_at s ns) o (hyps_at s ns))
      at None h k = k
      at (Some f) h k = (h, k)

  first_is : (h : Hint) → IfSome (first_hyp s h) (Contains s.hyps)
  first_is h = at (first h.hyps)
    where
      at : (o : Option ℕ) → IfSome (option_and_then (hypothesis s) o) (Contains s.hyps)
      at None = tt
      at (Some n) = hypothesis_is n

  hyps_are : (n : ℕ) (h : Hint) → AllByRecursion (Contains s.hyps) (hyps_for n h s)
  hyps_are n h = at (n == 23)
    where
      at : (c : Bool) → AllByRecursion (Contains s.hyps) (if c then s.hyps else hyps_at s h.hyps)
      at true = recursion_from_All (Contains s.hyps) s.hyps (All-contains_itself s.hyps)
      at false = named_are h.hyps

  goal_is : (n : ℕ) → IfSome (goal_for n s) (λ g. g ≡ s.goal)
  goal_is n = at (takes_goal n)
    where
      at : (c : Bool) → IfSome (if c then Some s.goal else None) (λ g. g ≡ s.goal)
      at true = refl
      at false = tt

  -- the main formulas
  module _ (n : ℕ) (h : Hint) (terms : List Formula) where
    pub main_goal : IfSome (main_for n h terms s).goal (λ g. g ≡ s.goal)
    unfolding main_for
    main_goal = goal_is n

    pub main_hyps : AllByRecursion (Contains s.hyps) (main_for n h terms s).hyps
    unfolding main_for
    main_hyps = hyps_are n h

    pub main_names : (main_for n h terms s).names ≡ h.names
    unfolding main_for
    main_names = refl

    pub main_chosen : (main_for n h terms s).chosen ≡ first terms
    unfolding main_for
    main_chosen = refl

  -- the types of what terms replace
  module _ (is : IsSequent s) (of_hyps : (f : Formula) → Contains s.hyps f → IsPredicateIn s.env f) where
    bound_carried : (b : Binder) (f : Formula) → IsPredicateIn s.env f → AllByRecursion (Carried s.env) (types_under (one_bound b f))
    bound_carried b f h = at (one_bound b f) refl
      where
        at : (o : Option (List Ty × Formula)) → one_bound b f ≡ o → AllByRecursion (Carried s.env) (types_under o)
        at None e = tt
        at (Some x) e = carriers_each (Stands s.env) x.0 (binder_found s.env [] Truth f (predicate_is s.env f h) b x e).own

    pub replaced_carried : (n : ℕ) (h : Hint) → AllByRecursion (Carried s.env) (replaced_types n h s)
    replaced_carried n h = at (n == 18) (n == 19)
      where
        of_hyp : (o : Option Formula) → IfSome o (Contains s.hyps) → AllByRecursion (Carried s.env) (types_under (option_and_then (one_bound ForAll) o))
        of_hyp None k = tt
        of_hyp (Some f) k = bound_carried ForAll f (of_hyps f k)

        at : (c d : Bool) → AllByRecursion (Carried s.env) (if c then types_under (option_and_then (one_bound ForAll) (first_hyp s h)) else (if d then types_under (one_bound Exists s.goal) else []))
        at true d = of_hyp (first_hyp s h) (first_is h)
        at false true = bound_carried Exists s.goal is.goal
        at false false = tt

-- the terms of a kind that is named
module _ (P : Formula → Type 0) (h : Hint) (terms : List Formula) (typed : AllByRecursion P terms) where
  abbrev HasTerms : RuleKind → Type 0
  HasTerms k = AllByRecursion P (terms_of k)

  chosen : (c : Bool) (k : RuleKind) → HasTerms k → IfSome (if c then Some k else None) HasTerms
  chosen true k t = t
  chosen false k t = tt

  each_kind : AllByRecursion (λ o. IfSome o HasTerms) (kinds h terms)
  each_kind = search (chosen, typed) parts 40

  at_place : (os : List (Option RuleKind)) (i : ℕ) (k : RuleKind) → AllByRecursion (λ o. IfSome o HasTerms) os → option_and_then (λ o. o) (slice_get os i) ≡ Some k → HasTerms k
  at_place [] i k each e = absurd (cc)
  at_place (o ∷ os) zero k each e = at_some HasTerms o k each.0 e
  at_place (o ∷ os) (suc i) k each e = at_place os i k each.1 e

  pub kind_terms : (n : ℕ) (k : RuleKind) → kind_of n h terms ≡ Some k → HasTerms k
  unfolding kind_of
  kind_terms n k e = at (n == 0) e
    where
      at : (c : Bool) → (if c then None else option_and_then (λ k. k) (slice_get (kinds h terms) (n - 1))) ≡ Some k → HasTerms k
      at true e = absurd (cc)
      at false e = at_place (kinds h terms) (n - 1) k each_kind e
