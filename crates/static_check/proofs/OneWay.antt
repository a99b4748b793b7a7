-- Formulas are typed in one way, and have one list of faults.
use Rattle.std.proofs.Common.{◌≡◌, ◌∙◌, inl, inr, sym, ap, subst, ℕ, List, [], ◌∷◌, Option, Some, None}
use Rattle.formula_core.specs.declared.formula.Formula.{Formula}
use Rattle.type_formula.specs.Answers.{HasNoTyping, HasTwoTypings}
use Rattle.type_action.specs.Answers.{IsActionTyping}
use Rattle.type_action.specs.Results.{HasNone, HasTwo}
use Rattle.model_core.specs.declared.fault.Fault.{Fault}
use Rattle.model_core.specs.declared.fault.FaultKind.TheVariants as kind
use Rattle.model_core.specs.declared.component.RawLabelled.{RawLabelled}
use Rattle.model_core.specs.declared.component.RawStep.{RawStep}
use Rattle.model_core.specs.declared.checked.Labelled.{Labelled}
use Rattle.model_core.specs.Faults.{fault_at}
use Rattle.check_rules.specs.Typed.{Entries, LabelledAction, IsMistyped, unknown_name, types_clash, no_single_type, IsMistypedPredicate, HasTyping, AreTyped, AreTypedActions, labelled_of}

some_none : {A P : Type 0} (o : Option A) (x : A) → o ≡ Some x → o ≡ None → P
some_none o x e f = absurd (never (sym f ∙ e))
  where
    never : None ≡ Some x → ⊥
    never h = cc

same_some : {A : Type 0} (x y : A) → Some x ≡ Some y → x ≡ y
same_some x y e = cc

-- a formula has one fault of kinds 13 to 15
pub mistyped_one : (component : List ℕ) (unknown : Option (List ℕ × ℕ)) (Clashes IsOpen : Type 0) (first : ℕ) (f g : Fault) → (Clashes → IsOpen → ⊥) →
    IsMistyped component unknown Clashes IsOpen first f → IsMistyped component unknown Clashes IsOpen first g → f ≡ g
mistyped_one component unknown Clashes IsOpen first f g apart (unknown_name n p u is) (unknown_name m q v same) =
    is ∙ ap (λ w. fault_at component kind.Unknown w.1 w.0) (same_some (n, p) (m, q) (sym u ∙ v)) ∙ sym same
mistyped_one component unknown Clashes IsOpen first f g apart (unknown_name n p u is) (types_clash v c same) = some_none unknown (n, p) u v
mistyped_one component unknown Clashes IsOpen first f g apart (unknown_name n p u is) (no_single_type v o same) = some_none unknown (n, p) u v
mistyped_one component unknown Clashes IsOpen first f g apart (types_clash u c is) (unknown_name m q v same) = some_none unknown (m, q) v u
mistyped_one component unknown Clashes IsOpen first f g apart (types_clash u c is) (types_clash v d same) = is ∙ sym same
mistyped_one component unknown Clashes IsOpen first f g apart (types_clash u c is) (no_single_type v o same) = absurd (apart c o)
mistyped_one component unknown Clashes IsOpen first f g apart (no_single_type u o is) (unknown_name m q v same) = some_none unknown (m, q) v u
mistyped_one component unknown Clashes IsOpen first f g apart (no_single_type u o is) (types_clash v c same) = absurd (apart c o)
mistyped_one component unknown Clashes IsOpen first f g apart (no_single_type u o is) (no_single_type v k same) = is ∙ sym same

-- what has its typing has none of them
pub not_mistyped : (component : List ℕ) (unknown : Option (List ℕ × ℕ)) (Clashes IsOpen : Type 0) (first : ℕ) (f : Fault) → unknown ≡ None → (Clashes → ⊥) → (IsOpen → ⊥) →
    IsMistyped component unknown Clashes IsOpen first f → ⊥
not_mistyped component unknown Clashes IsOpen first f e c o (unknown_name n p u is) = some_none unknown (n, p) u e
not_mistyped component unknown Clashes IsOpen first f e c o (types_clash u clashes is) = c clashes
not_mistyped component unknown Clashes IsOpen first f e c o (no_single_type u several is) = o several

predicate_typed : (component : List ℕ) (env : Entries) (wanted : List (List ℕ)) (l : RawLabelled) (f : Formula) (next : Entries) (fault : Fault) →
    HasTyping env wanted l.formula f next → IsMistypedPredicate component env wanted l fault → ⊥
predicate_typed component env wanted l f next fault t =
    not_mistyped component _ (HasNoTyping env wanted l.formula) (HasTwoTypings env wanted l.formula) _ fault t.0
    (λ c. c f next t.1.typing)
    (λ o. o.apart ((t.1.only o.one _ o.first).0 ∙ sym (t.1.only o.two _ o.second).0))

-- the typed formulas, their faults and the last environment are one
pub typed_one_way : (component : List ℕ) (env : Entries) (wanted : List (List ℕ)) (labelled : List RawLabelled) (t u : List Labelled) (f g : List Fault) (l m : Entries) →
    AreTyped component env wanted labelled t f l → AreTyped component env wanted labelled u g m → (t ≡ u) × (f ≡ g) × (l ≡ m)
typed_one_way component env wanted [] t u f g l m a b = (a.0 ∙ sym b.0, a.1 ∙ sym b.1, a.2 ∙ sym b.2)
typed_one_way component env wanted (x ∷ xs) t u f g l m (inl a) (inl b) =
    let same = a.3.1.only b.0 b.1 b.3.1.typing in
    let others = typed_one_way component a.1 wanted xs a.2 b.2 f g l m a.4 (subst (λ n. AreTyped component n wanted xs b.2 g m) same.1 b.4) in
    (a.5 ∙ ap (λ p. labelled_of x p ∷ a.2) (sym same.0) ∙ ap (λ ys. labelled_of x b.0 ∷ ys) others.0 ∙ sym b.5, others.1, others.2)
typed_one_way component env wanted (x ∷ xs) t u f g l m (inl a) (inr b) = absurd (predicate_typed component env wanted x a.0 a.1 b.0 a.3 b.2)
typed_one_way component env wanted (x ∷ xs) t u f g l m (inr a) (inl b) = absurd (predicate_typed component env wanted x b.0 b.1 a.0 b.3 a.2)
typed_one_way component env wanted (x ∷ xs) t u f g l m (inr a) (inr b) =
    let same = mistyped_one component _ (HasNoTyping env wanted x.formula) (HasTwoTypings env wanted x.formula) _ a.0 b.0 (λ c o. c o.one _ o.first) a.2 b.2 in
    let others = typed_one_way component env wanted xs t u a.1 b.1 l m a.3 b.3 in
    (others.0, a.4 ∙ ap (λ h. h ∷ a.1) same ∙ ap (λ hs. b.0 ∷ hs) others.1 ∙ sym b.4, others.2)

-- the typed actions and their faults are one
pub actions_one_way : (component : List ℕ) (env : Entries) (steps : List RawStep) (t u : List LabelledAction) (f g : List Fault) →
    AreTypedActions component env steps t f → AreTypedActions component env steps u g → (t ≡ u) × (f ≡ g)
actions_one_way component env [] t u f g a b = (a.0 ∙ sym b.0, a.1 ∙ sym b.1)
actions_one_way component env (s ∷ steps) t u f g (inl a) (inl b) =
    let same = a.3.only b.0 b.3.holds in
    let others = actions_one_way component env steps a.1 b.1 f g a.4 b.4 in
    (a.5 ∙ ap (λ p. (s.label, p) ∷ a.1) (sym same) ∙ ap (λ ys. (s.label, b.0) ∷ ys) others.0 ∙ sym b.5, others.1)
actions_one_way component env (s ∷ steps) t u f g (inl a) (inr b) =
    absurd (not_mistyped component _ (HasNone (IsActionTyping env s.action)) (HasTwo (IsActionTyping env s.action)) _ b.0 a.2 (λ c. c a.0 a.3.holds)
    (λ o. o.apart (a.3.only o.one o.first ∙ sym (a.3.only o.two o.second))) b.2)
actions_one_way component env (s ∷ steps) t u f g (inr a) (inl b) =
    absurd (not_mistyped component _ (HasNone (IsActionTyping env s.action)) (HasTwo (IsActionTyping env s.action)) _ a.0 b.2 (λ c. c b.0 b.3.holds)
    (λ o. o.apart (b.3.only o.one o.first ∙ sym (b.3.only o.two o.second))) a.2)
actions_one_way component env (s ∷ steps) t u f g (inr a) (inr b) =
    let same = mistyped_one component _ (HasNone (IsActionTyping env s.action)) (HasTwo (IsActionTyping env s.action)) _ a.0 b.0 (λ c o. c o.one o.first) a.2 b.2 in
    let others = actions_one_way component env steps t u a.1 b.1 a.3 b.3 in
    (others.0, a.4 ∙ ap (λ h. h ∷ a.1) same ∙ ap (λ hs. b.0 ∷ hs) others.1 ∙ sym b.4)
