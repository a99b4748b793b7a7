-- One more formula is typed, or one more action.
use Rattle.std.proofs.Common.{◌≡◌, ◌<◌, ◌+◌, inl, inr, ◌∙◌, sym, ap, subst, refl, ℕ, List, [], ◌∷◌, ◌++◌, take, get_or, length, append_assoc}
use Rattle.std.specs.Prelude.{Option, Some, None, Result, Ok, Err}
use Rattle.std.specs.Borrow.{Bor}
use Rattle.std.specs.Option.{option_map, option_copied}
use Rattle.std.proofs.lemmas.List.{map-append}
use Rattle.std.proofs.lemmas.List.Elements.{filter_map-append}
use Rattle.formula_core.specs.declared.raw.Ref.{Ref}
use Rattle.formula_core.specs.declared.raw.Action.{Action}
use Rattle.formula_core.specs.declared.formula.Formula.{Formula}
use Rattle.formula_core.specs.Env.{type_in}
use Rattle.type_formula.specs.declared.predicate.TypeFault.{TypeFault}
use Rattle.type_formula.specs.declared.predicate.TypeFault.TheVariants as why
use Rattle.type_action.specs.Answers.{IsActionTyping}
use Rattle.type_action.specs.CoreActions.{unknown_in_action}
use Rattle.type_action.specs.Results.{IsOnly}
use Rattle.model_core.specs.declared.fault.Fault.{Fault}
use Rattle.model_core.specs.declared.component.RawLabelled.{RawLabelled}
use Rattle.model_core.specs.declared.component.RawStep.{RawStep}
use Rattle.model_core.specs.declared.component.RawVariant.{RawVariant}
use Rattle.model_core.specs.declared.checked.Labelled.{Labelled}
use Rattle.model_core.specs.Faults.{earlier, first_by_place}
use Rattle.model_core.proofs.Firsts.{taken_more, first_append}
use Rattle.check_rules.specs.Contexts.{names_of}
use Rattle.check_rules.specs.Typed.{Entries, LabelledAction, HasTyping, IsMistyped, unknown_name, types_clash, no_single_type, IsMistypedPredicate, IsMistypedAction, IsMistypedVariant, IsTypedVariant, AreTyped, AreTypedActions, labelled_of, in_order}
use Rattle.context_check.specs.Typings.{AreTypedSoFar, AreTypedStepsSoFar}
use Rattle.context_check.specs.Private.{IsToldBy, IsTypedFormula, IsTypedStep, IsCollected}

pub mistyped : (component : List ℕ) (first : ℕ) (unknown : Option (List ℕ × ℕ)) (Clashes IsOpen : Type 0) (w : TypeFault) (fault : Fault) →
    ((name : List ℕ) (place : ℕ) → w ≡ why.Unknown name place → unknown ≡ Some (name, place)) →
    (w ≡ why.Clash → (unknown ≡ None) × Clashes) → (w ≡ why.Untyped → (unknown ≡ None) × IsOpen) → IsToldBy component first w fault →
    IsMistyped component unknown Clashes IsOpen first fault
mistyped component first unknown Clashes IsOpen (why.Unknown name place) fault u c o told = unknown_name name place (u name place refl) told
mistyped component first unknown Clashes IsOpen why.Clash fault u c o told = types_clash (c refl).0 (c refl).1 told
mistyped component first unknown Clashes IsOpen why.Untyped fault u c o told = no_single_type (o refl).0 (o refl).1 told
mistyped component first unknown Clashes IsOpen why.OutOfMemory fault u c o told = absurd told

pub variant_told : (component : List ℕ) (env : Entries) (variant : Option (Bor RawVariant)) (written : Bor RawVariant) (fault : Fault) → variant ≡ Some written →
    IsMistypedVariant component env written.now fault →
    (faults : List Fault) × IsTypedVariant component env (option_copied variant) None faults × (Some fault ≡ first_by_place faults)
variant_told component env variant written fault e m = (fault ∷ [], rw e (inr (fault, m, refl, refl)), refl)

module _ (component : List ℕ) (wanted : List (List ℕ)) where
  typed_more : (env : Entries) (xs : List RawLabelled) (x : RawLabelled) (typed : List Labelled) (faults : List Fault) (last : Entries) (f : Formula) (next : Entries) →
      AreTyped component env wanted xs typed faults last → HasTyping last wanted x.formula f next → AreTyped component env wanted (xs ++ x ∷ []) (typed ++ labelled_of x f ∷ []) faults next
  typed_more env [] x typed faults last f next h t =
      inl (f, next, [], subst (λ e. HasTyping e wanted x.formula f next) h.2 t, (refl, h.1, refl), ap (λ ys. ys ++ labelled_of x f ∷ []) h.0)
  typed_more env (y ∷ xs) x typed faults last f next h t = elim h [
    | inl a ↦ inl (a.0, a.1, a.2 ++ labelled_of x f ∷ [], a.3, typed_more a.1 xs x a.2 faults last f next a.4 t, ap (λ ys. ys ++ labelled_of x f ∷ []) a.5)
    | inr b ↦ inr (b.0, b.1, b.2, typed_more env xs x typed b.1 last f next b.3 t, b.4)
  ]

  mistyped_more : (env : Entries) (xs : List RawLabelled) (x : RawLabelled) (typed : List Labelled) (faults : List Fault) (last : Entries) (fault : Fault) →
      AreTyped component env wanted xs typed faults last → IsMistypedPredicate component last wanted x fault → AreTyped component env wanted (xs ++ x ∷ []) typed (faults ++ fault ∷ []) last
  mistyped_more env [] x typed faults last fault h m =
      inr (fault, [], subst (λ e. IsMistypedPredicate component e wanted x fault) h.2 m, (h.0, refl, h.2), ap (λ ys. ys ++ fault ∷ []) h.1)
  mistyped_more env (y ∷ xs) x typed faults last fault h m = elim h [
    | inl a ↦ inl (a.0, a.1, a.2, a.3, mistyped_more a.1 xs x a.2 faults last fault a.4 m, a.5)
    | inr b ↦ inr (b.0, b.1 ++ fault ∷ [], b.2, mistyped_more env xs x typed b.1 last fault b.3 m, ap (λ ys. ys ++ fault ∷ []) b.4)
  ]

  one_more : (env : Entries) (xs : List RawLabelled) (x : RawLabelled) (one : Result Labelled Fault) (old new : List Labelled) (first later : Option Fault) (last next : Entries) →
      IsTypedFormula component last wanted x one next → IsCollected old first one new later → AreTypedSoFar component env wanted xs old first last →
      AreTypedSoFar component env wanted (xs ++ x ∷ []) new later next
  one_more env xs x (Ok typed) old new first later last next t k so =
      (so.0, subst (λ ts. AreTyped component env wanted (xs ++ x ∷ []) ts so.0 next) (sym (k.0 ∙ ap (λ y. old ++ y ∷ []) t.2)) (typed_more env xs x old so.0 last t.0 next so.1 t.1), k.1 ∙ so.2)
  one_more env xs x (Err fault) old new first later last next t k so = (
    so.0 ++ fault ∷ [],
    rw (k.0, t.1) (mistyped_more env xs x old so.0 last fault so.1 t.0),
    k.1 ∙ ap (λ a. earlier a (Some fault)) so.2 ∙ sym (first_append so.0 (fault ∷ [])),
  )

  pub typed_so_far : (env : Entries) (labelled : List RawLabelled) (i : ℕ) (x : RawLabelled) → i < length labelled → x ≡ get_or labelled i x →
      (one : Result Labelled Fault) (old new : List Labelled) (first later : Option Fault) (last next : Entries) →
      IsTypedFormula component last wanted x one next → IsCollected old first one new later → AreTypedSoFar component env wanted (take i labelled) old first last →
      AreTypedSoFar component env wanted (take (i + 1) labelled) new later next
  typed_so_far env labelled i x lt is one old new first later last next t k so =
      subst (λ xs. AreTypedSoFar component env wanted xs new later next) (sym (taken_more labelled i x lt is)) (one_more env (take i labelled) x one old new first later last next t k so)

module _ (component : List ℕ) (env : Entries) where
  step_more : (xs : List RawStep) (x : RawStep) (typed : List LabelledAction) (faults : List Fault) (a : Action) →
      AreTypedActions component env xs typed faults → unknown_in_action env x.action ≡ None → IsOnly (IsActionTyping env x.action) a →
      AreTypedActions component env (xs ++ x ∷ []) (typed ++ (x.label, a) ∷ []) faults
  step_more [] x typed faults a h u t = inl (a, [], u, t, (refl, h.1), ap (λ ys. ys ++ (x.label, a) ∷ []) h.0)
  step_more (y ∷ xs) x typed faults a h u t = elim h [
    | inl b ↦ inl (b.0, b.1 ++ (x.label, a) ∷ [], b.2, b.3, step_more xs x b.1 faults a b.4 u t, ap (λ ys. ys ++ (x.label, a) ∷ []) b.5)
    | inr b ↦ inr (b.0, b.1, b.2, step_more xs x typed b.1 a b.3 u t, b.4)
  ]

  bad_step_more : (xs : List RawStep) (x : RawStep) (typed : List LabelledAction) (faults : List Fault) (fault : Fault) →
      AreTypedActions component env xs typed faults → IsMistypedAction component env x.action fault → AreTypedActions component env (xs ++ x ∷ []) typed (faults ++ fault ∷ [])
  bad_step_more [] x typed faults fault h m = inr (fault, [], m, (h.0, refl), ap (λ ys. ys ++ fault ∷ []) h.1)
  bad_step_more (y ∷ xs) x typed faults fault h m = elim h [
    | inl b ↦ inl (b.0, b.1, b.2, b.3, bad_step_more xs x b.1 faults fault b.4 m, b.5)
    | inr b ↦ inr (b.0, b.1 ++ fault ∷ [], b.2, bad_step_more xs x typed b.1 fault b.3 m, ap (λ ys. ys ++ fault ∷ []) b.4)
  ]

  one_step_more : (xs : List RawStep) (x : RawStep) (one : Result LabelledAction Fault) (old new : List LabelledAction) (first later : Option Fault) →
      IsTypedStep component env x one → IsCollected old first one new later → AreTypedStepsSoFar component env xs old first → AreTypedStepsSoFar component env (xs ++ x ∷ []) new later
  one_step_more xs x (Ok typed) old new first later t k so =
      (so.0, subst (λ ts. AreTypedActions component env (xs ++ x ∷ []) ts so.0) (sym (k.0 ∙ ap (λ y. old ++ y ∷ []) t.3)) (step_more xs x old so.0 t.0 so.1 t.1 t.2), k.1 ∙ so.2)
  one_step_more xs x (Err fault) old new first later t k so =
      (so.0 ++ fault ∷ [], rw k.0 (bad_step_more xs x old so.0 fault so.1 t), k.1 ∙ ap (λ a. earlier a (Some fault)) so.2 ∙ sym (first_append so.0 (fault ∷ [])))

  pub steps_so_far : (steps : List RawStep) (i : ℕ) (x : RawStep) → i < length steps → x ≡ get_or steps i x →
      (one : Result LabelledAction Fault) (old new : List LabelledAction) (first later : Option Fault) →
      IsTypedStep component env x one → IsCollected old first one new later → AreTypedStepsSoFar component env (take i steps) old first →
      AreTypedStepsSoFar component env (take (i + 1) steps) new later
  steps_so_far steps i x lt is one old new first later t k so =
      subst (λ xs. AreTypedStepsSoFar component env xs new later) (sym (taken_more steps i x lt is)) (one_step_more (take i steps) x one old new first later t k so)

pub in_order_more : (env : Entries) (refs : List Ref) (i : ℕ) (r : Ref) (start old new : Entries) → i < length refs → r ≡ get_or refs i r →
    old ≡ start ++ in_order env (names_of (take i refs)) → new ≡ old ++ in_order env (r.name ∷ []) → new ≡ start ++ in_order env (names_of (take (i + 1) refs))
in_order_more env refs i r start old new lt is e f =
    f ∙ ap (λ o. o ++ in_order env (r.name ∷ [])) e ∙ append_assoc start (in_order env (names_of (take i refs))) (in_order env (r.name ∷ []))
    ∙ ap (λ es. start ++ es) (sym (filter_map-append (λ n. option_map (λ t. (n, t)) (type_in env n)) (names_of (take i refs)) (r.name ∷ []))
    ∙ ap (in_order env) (sym (map-append (λ q. q.name) (take i refs) (r ∷ [])) ∙ ap names_of (sym (taken_more refs i r lt is))))
